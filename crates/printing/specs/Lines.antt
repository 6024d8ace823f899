-- What is printed, byte by byte. Paper: "Output is `ok`, then `n|0|0,1,2,2,0,2`, one `n` line per function by its position, its last field
-- empty for an empty list. A refusal is one line, as `no|5|4|0`." `|` is a tab, byte 9; a line ends with byte 10.
use Rattle.std.specs.Prelude.{ℕ, zero, suc, ◌+◌, ◌*◌, ◌/◌, ◌%◌, cond, List, [], ◌∷◌, ◌++◌, ltb, eqb, take, drop}
use Rattle.tables.specs.declared.Numbers.{Numbers}

-- the byte of a number's last decimal digit
abbrev pub digit_of : ℕ → ℕ
digit_of n = 48 + n % 10

-- a number in at most so many digits, no 0 before another
unfoldable pub decimal_in : ℕ → ℕ → List ℕ
decimal_in zero n = []
decimal_in (suc k) n = cond (ltb n 10) (digit_of n ∷ []) (decimal_in k (n / 10) ++ (digit_of n ∷ []))

-- twenty digits hold every number of 64 bits
unfoldable pub decimal : ℕ → List ℕ
decimal n = decimal_in 20 n

-- what stands before entry i: a comma, or the outer mark before each third, which starts a place
unfoldable pub mark_at : ℕ → ℕ → ℕ
mark_at outer i = cond (eqb (i % 3) 0) outer 44

-- the entries from i on, each after its mark
unfoldable pub others : ℕ → ℕ → List ℕ → List ℕ
others outer i [] = []
others outer i (n ∷ ns) = (mark_at outer i ∷ decimal n) ++ others outer (i + 1) ns

-- a list, empty for an empty one
unfoldable pub parted : ℕ → List ℕ → List ℕ
parted outer [] = []
parted outer (n ∷ ns) = decimal n ++ others outer 1 ns

-- the line of the function at a position: its letter, the position, its list
unfoldable pub line : ℕ → ℕ → ℕ → List ℕ → List ℕ
line letter outer k ns = letter ∷ ((9 ∷ decimal k) ++ (9 ∷ (parted outer ns ++ (10 ∷ []))))

-- the lines from position k on: a function of c entries takes c times width cells of the list
unfoldable pub lines : ℕ → ℕ → ℕ → ℕ → List ℕ → List ℕ → List ℕ
lines letter outer width k [] ns = []
lines letter outer width k (c ∷ cs) ns =
    line letter outer k (take (c * width) ns) ++ lines letter outer width (k + 1) cs (drop (c * width) ns)

-- `ok`
abbrev pub ok_line : List ℕ
ok_line = 111 ∷ 107 ∷ 10 ∷ []

-- numbers by their letter `n`, parted by commas; how many each function has
unfoldable pub number_lines : List ℕ → List ℕ → List ℕ
number_lines numbers lengths = ok_line ++ lines 110 44 1 0 lengths numbers

-- places by their letter `p`: kind, id and index parted by commas, places by semicolons
unfoldable pub place_lines : List ℕ → List ℕ → List ℕ
place_lines places lengths = ok_line ++ lines 112 59 3 0 lengths places

-- `no`, code, id and detail
unfoldable pub no_line : Numbers → List ℕ
no_line n = 110 ∷ 111 ∷ ((9 ∷ decimal n.code) ++ ((9 ∷ decimal n.id) ++ ((9 ∷ decimal n.detail) ++ (10 ∷ []))))
