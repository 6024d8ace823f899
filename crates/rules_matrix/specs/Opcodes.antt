-- The opcodes of the two arms: "Opcodes are positions 0 to 104 in `OPCODES`". MmaI asks nothing of its own, so its number is not needed.
use Rattle.std.specs.Prelude.{ℕ}

abbrev pub mma_f : ℕ
mma_f = 55

abbrev pub mma_fscaled : ℕ
mma_fscaled = 96

abbrev pub insert : ℕ
insert = 100
