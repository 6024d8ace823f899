-- The numbers of the six shape operations: "Opcodes are positions 0 to 104 in `OPCODES`".
use Rattle.std.specs.Prelude.{ℕ}

abbrev pub bitcast : ℕ
bitcast = 9

abbrev pub broadcast : ℕ
broadcast = 11

abbrev pub permute : ℕ
permute = 65

abbrev pub reshape : ℕ
reshape = 73

abbrev pub pack : ℕ
pack = 93

abbrev pub unpack : ℕ
unpack = 94
