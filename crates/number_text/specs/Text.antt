-- A text of numbers, line by line: an optional first line `ok`, then one `n` line a function. "The first bad line answers, by its leftmost
-- bad field." A line reaching past the most bytes is 1 with 0, 0 before its other faults; one without faults that passes 64 functions or
-- 8,192 numbers is 1 with 0, 0 too. A text without an `n` line, an empty one as well, has no functions.
use Rattle.std.specs.Prelude.{ℕ, suc, ◌+◌, Bool, ◌||◌, cond, List, [], ◌∷◌, ◌++◌, eqb, ltb, length, set, drop, Result, Ok, Err}
use Rattle.std.proofs.lemmas.List.Edits.{sets}
use Rattle.names.specs.Names.{bytes, equal}
use Rattle.fields.specs.Cut.{split, nth}
use Rattle.tables.specs.Sizes.{max_functions, max_entries}
use Rattle.tables.specs.declared.Refusal.{Refusal}
use Rattle.tables.specs.declared.Refusal.TheVariants.{OutOfRange, TooShort, NotInForm}
use Rattle.lines.specs.Field.{Read as Says, says, bad}
use Rattle.lines.specs.Into.{Left, left}
use Rattle.number_text.specs.declared.Lists.{Lists}
use Rattle.number_text.specs.Line.{field, ok_stands, list_line, zeros}

abbrev pub max_bytes : ℕ
max_bytes = 262144

-- where a reader stands: the number of this line, the bytes before it, the numbers so far, and how many each function so far has
pub record State : Type 0 where
  pub line : ℕ
  pub bytes : ℕ
  pub numbers : List ℕ
  pub lengths : List ℕ

abbrev pub state : ℕ → ℕ → List ℕ → List ℕ → State
state line bytes numbers lengths = record { line = line; bytes = bytes; numbers = numbers; lengths = lengths }

-- the state after a line, or a refusal
pub data Step : Type 0 where
  goes : State → Step
  refuses : Refusal → Step

abbrev pub onward : Step → (State → Step) → Step
onward (goes s) next = next s
onward (refuses r) next = refuses r

-- ---- one line, without its LF, which counts: `end` bytes are read then

abbrev pub too_many : ℕ → ℕ → Bool
too_many functions numbers = ltb max_functions functions || ltb max_entries numbers

abbrev pub listed : State → ℕ → Says (List ℕ) → Step
listed s end (bad k) = refuses (NotInForm s.line k)
listed s end (says xs) =
    cond (too_many (suc (length s.lengths)) (length s.numbers + length xs)) (refuses (OutOfRange 0 0))
    (goes (state (suc s.line) end (s.numbers ++ xs) (s.lengths ++ (length xs ∷ []))))

unfoldable pub taken : State → ℕ → List (List ℕ) → Step
taken s end fs =
    cond (equal (nth 0 fs) (bytes "n")) (listed s end (list_line (length s.lengths) fs))
    (cond (equal (nth 0 fs) (bytes "ok"))
    (cond (ok_stands s.line fs) (goes (state (suc s.line) end s.numbers s.lengths)) (refuses (NotInForm s.line (field 0))))
    (refuses (NotInForm s.line (field 1))))

unfoldable pub line_of : State → List ℕ → Step
line_of s line =
    let end = s.bytes + suc (length line) in
    cond (ltb max_bytes end) (refuses (OutOfRange 0 0)) (taken s end (split 9 line))

-- what follows the last LF: nothing, or a line whose LF is missing
unfoldable pub last_of : State → List ℕ → Step
last_of s line =
    cond (ltb max_bytes (s.bytes + length line)) (refuses (OutOfRange 0 0))
    (cond (eqb (length line) 0) (goes s) (refuses (NotInForm s.line (field 0))))

unfoldable pub lines_of : State → List (List ℕ) → Step
lines_of s [] = goes s
lines_of s (l ∷ []) = last_of s l
lines_of s (l ∷ m ∷ ls) = onward (line_of s l) (λ t. lines_of t (m ∷ ls))

-- ---- the whole text

abbrev pub lists : ℕ → ℕ → Lists
lists count functions = record { count = count; functions = functions }

-- the answer, and what the lists of numbers and of lengths hold at exit
pub record Outcome : Type 0 where
  pub answer : Result Lists Refusal
  pub numbers : List ℕ
  pub lengths : List ℕ

abbrev pub outcome : Result Lists Refusal → List ℕ → List ℕ → Outcome
outcome a numbers lengths = record { answer = a; numbers = numbers; lengths = lengths }

-- "A refused text reading leaves the lent tables all zero"
abbrev pub refused : Refusal → List ℕ → List ℕ → Outcome
refused r numbers lengths = outcome (Err r) (zeros numbers) (zeros lengths)

-- "lent entries past it keep what they held"
abbrev pub over : List ℕ → List ℕ → List ℕ
over xs lent = xs ++ drop (length xs) lent

abbrev pub ended : Step → List ℕ → List ℕ → Outcome
ended (goes s) numbers lengths = outcome (Ok (lists (length s.numbers) (length s.lengths))) (over s.numbers numbers) (over s.lengths lengths)
ended (refuses r) numbers lengths = refused r numbers lengths

abbrev pub fresh : State
fresh = state 1 0 [] []

-- "The first lent table below full size gives 13 with that size before any line."
unfoldable pub read_numbers : List ℕ → List ℕ → List ℕ → Outcome
read_numbers text numbers lengths =
    cond (ltb (length numbers) max_entries) (refused (TooShort max_entries) numbers lengths)
    (cond (ltb (length lengths) max_functions) (refused (TooShort max_functions) numbers lengths)
    (ended (lines_of fresh (split 10 text)) numbers lengths))

-- ---- in steps, over the lent lists: the zeros come after a refusal

abbrev pub settled : Result Lists Refusal → List ℕ → List ℕ → Outcome
settled (Ok read) numbers lengths = outcome (Ok read) numbers lengths
settled (Err r) numbers lengths = refused r numbers lengths

-- the next function's length, after so many functions and numbers
unfoldable pub counted_into : ℕ → ℕ → ℕ → List ℕ → Left (Result Lists Refusal)
counted_into functions count n lengths =
    cond (too_many (suc functions) (count + n)) (left (Err (OutOfRange 0 0)) lengths)
    (left (Ok (lists (count + n) (suc functions))) (set lengths functions n))

abbrev pub listed_into : ℕ → ℕ → ℕ → Says (List ℕ) → List ℕ → List ℕ → Outcome
listed_into line functions count (bad k) numbers lengths = refused (NotInForm line k) numbers lengths
listed_into line functions count (says xs) numbers lengths =
    let counted = counted_into functions count (length xs) lengths in
    settled counted.answer (sets numbers count xs) counted.entries

unfoldable pub taken_into : ℕ → ℕ → ℕ → List (List ℕ) → List ℕ → List ℕ → Outcome
taken_into line functions count fs numbers lengths =
    cond (equal (nth 0 fs) (bytes "n")) (listed_into line functions count (list_line functions fs) numbers lengths)
    (cond (equal (nth 0 fs) (bytes "ok"))
    (cond (ok_stands line fs) (outcome (Ok (lists count functions)) numbers lengths) (refused (NotInForm line (field 0)) numbers lengths))
    (refused (NotInForm line (field 1)) numbers lengths))

-- what follows the last LF, by the bytes before it and those of the text
unfoldable pub last_answer : ℕ → ℕ → ℕ → ℕ → ℕ → Result Lists Refusal
last_answer line start end functions count =
    cond (ltb max_bytes end) (Err (OutOfRange 0 0))
    (cond (ltb start end) (Err (NotInForm line (field 0))) (Ok (lists count functions)))
