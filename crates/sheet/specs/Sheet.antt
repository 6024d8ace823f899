-- A rule sheet's text, line by line. "The first bad line answers, by its leftmost bad field. Field 0 is a wrong number of fields, a line out
-- of order or a missing last LF; an empty text is 15 with 1, 0. A line reaching past byte 65,536 is 1 with 0, 0 before its other faults."
use Rattle.std.specs.Prelude.{ℕ, suc, ◌+◌, ◌&&◌, cond, List, [], ◌∷◌, ◌++◌, eqb, ltb, length, replicate, drop, Ok, Err}
use Rattle.fields.specs.Cut.{split}
use Rattle.tables.specs.Sizes.{max_text}
use Rattle.tables.specs.Answer.{Answer}
use Rattle.tables.specs.declared.Refusal.{Refusal}
use Rattle.tables.specs.declared.Refusal.TheVariants.{OutOfRange, TooShort, NotInForm}
use Rattle.lines.specs.Field.{Read, says, bad}
use Rattle.lines.specs.Into.{Left, left}
use Rattle.sheet.specs.Line.{Row, judged, stored}

-- where a reader stands: the kind and key of the last line, the number of this line, the bytes before it, the sheet, the first refusal
pub record State : Type 0 where
  pub last : ℕ
  pub key : ℕ
  pub line : ℕ
  pub bytes : ℕ
  pub sheet : List ℕ
  pub answer : Answer

abbrev pub state : ℕ → ℕ → ℕ → ℕ → List ℕ → Answer → State
state last key line bytes sheet answer =
    record { last = last; key = key; line = line; bytes = bytes; sheet = sheet; answer = answer }

-- ---- a refusal: the lent sheet is all zero, and nothing more is taken

abbrev pub zeros : List ℕ → List ℕ
zeros xs = replicate (length xs) 0

abbrev pub refuse : Refusal → State → State
refuse r s = state 0 0 0 0 (zeros s.sheet) (Err r)

-- ---- one line, without its LF, which counts

-- a field fault, or what the line says, in its cells; `end` bytes are read then
abbrev pub taken : State → ℕ → Read Row → State
taken s end (bad k) = refuse (NotInForm s.line k) s
taken s end (says w) = state w.kind w.key (suc s.line) end (stored w s.sheet) (Ok tt)

abbrev pub onward : Answer → State → State → State
onward (Ok _) s next = next
onward (Err r) s next = s

unfoldable pub line_of : State → List ℕ → State
line_of s line =
    let end = s.bytes + suc (length line) in
    onward s.answer s
    (cond (ltb max_text end) (refuse (OutOfRange 0 0) s) (taken s end (judged s.last s.key (split 9 line))))

-- what follows the last LF: nothing, or a line whose LF is missing; a text without any line is faulty at line 1
unfoldable pub last_of : State → List ℕ → State
last_of s line =
    onward s.answer s
    (cond (ltb max_text (s.bytes + length line)) (refuse (OutOfRange 0 0) s)
    (cond (eqb (length line) 0 && ltb 1 s.line) s (refuse (NotInForm s.line 0) s)))

unfoldable pub lines_of : State → List (List ℕ) → State
lines_of s [] = s
lines_of s (l ∷ []) = last_of s l
lines_of s (l ∷ m ∷ ls) = lines_of (line_of s l) (m ∷ ls)

-- ---- the whole text

abbrev pub sheet_cells : ℕ
sheet_cells = 320

-- "missing lines mean none, 0 or absent": whatever was lent, the sheet begins as nothing; what stands past it is not its own
abbrev pub blank : List ℕ → List ℕ
blank s = replicate sheet_cells 0 ++ drop sheet_cells s

abbrev pub fresh : List ℕ → State
fresh s = state 0 0 1 0 s (Ok tt)

-- the answer, and the lent sheet as it is left
abbrev pub ended : State → Left Answer
ended s = left s.answer s.sheet

-- "The first lent table below full size gives 13 with that size before any line."
unfoldable pub read_sheet : List ℕ → List ℕ → Left Answer
read_sheet text s =
    cond (ltb (length s) sheet_cells) (left (Err (TooShort sheet_cells)) (zeros s))
    (ended (lines_of (fresh (blank s)) (split 10 text)))

-- ---- in two steps: the reading, and the zeros after a refusal

abbrev pub settled : Answer → List ℕ → Left Answer
settled (Ok _) s = left (Ok tt) s
settled (Err r) s = left (Err r) (zeros s)

-- what follows the last LF, by the bytes before it and those of the text
unfoldable pub last_answer : ℕ → ℕ → ℕ → Answer
last_answer line start end =
    cond (ltb max_text end) (Err (OutOfRange 0 0))
    (cond (ltb start end) (Err (NotInForm line 0))
    (cond (ltb 1 line) (Ok tt) (Err (NotInForm line 0))))
