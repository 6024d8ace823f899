-- One line of a text of numbers, as the bench prints it: "Output is `ok`, then `n|0|0,1,2,2,0,2`, one `n` line per function by its position,
-- its last field empty for an empty list." The fields of a refusal have 200 added, so that no other text's 15 is like it.
use Rattle.std.specs.Prelude.{ℕ, ◌+◌, Bool, true, false, ◌&&◌, List, eqb, length, replicate, Result, Ok, Err}
use Rattle.std.proofs.lemmas.List.Edits.{sets}
use Rattle.fields.specs.Cut.{nth}
use Rattle.lines.specs.Field.{Read, says, bad, number, list, unsigned64, list_of}
use Rattle.lines.specs.declared.BadField.{BadField}
use Rattle.lines.specs.Answer.{bad_field}
use Rattle.lines.specs.Into.{Left, left}

abbrev pub field : ℕ → ℕ
field k = 200 + k

-- `ok` stands alone, on line 1
abbrev pub ok_stands : ℕ → List (List ℕ) → Bool
ok_stands line fs = eqb (length fs) 1 && eqb line 1

-- field 0 is a wrong number of fields, or a position that is not the next
abbrev pub placed : Bool → Read (List ℕ) → Read (List ℕ)
placed true rest = rest
placed false rest = bad (field 0)

-- `n`, the position of the function, its numbers; so many functions stand before it
unfoldable pub list_line : ℕ → List (List ℕ) → Read (List ℕ)
list_line functions fs =
    placed (eqb (length fs) 3)
    (number (field 2) (unsigned64 (nth 1 fs))
    (λ position. placed (eqb position functions)
    (list (field 3) (list_of unsigned64 (nth 2 fs)) says)))

-- ---- what the function that takes an `n` line leaves in the lent numbers; after a bad field only how many they are is settled

abbrev pub zeros : List ℕ → List ℕ
zeros xs = replicate (length xs) 0

abbrev pub kept : Result ℕ BadField → List ℕ → Left (Result ℕ BadField)
kept (Ok n) l = left (Ok n) l
kept (Err e) l = left (Err e) (zeros l)

abbrev pub list_into : ℕ → Read (List ℕ) → List ℕ → Left (Result ℕ BadField)
list_into at (says xs) l = left (Ok (length xs)) (sets l at xs)
list_into at (bad k) l = left (Err (bad_field k)) (zeros l)
