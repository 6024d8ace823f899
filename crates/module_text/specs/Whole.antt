-- The whole house text: the room that is asked for before any line, the lines one after another, and what follows the last LF.
use Rattle.std.specs.Prelude.{ℕ, suc, ◌+◌, ◌*◌, Bool, true, false, ◌&&◌, cond, List, [], ◌∷◌, eqb, ltb, leb, length, Ok, Err}
use Rattle.fields.specs.Cut.{split}
use Rattle.tables.specs.Sizes.{max_types, max_values, max_operations, max_attributes, max_blocks, max_regions, max_functions, max_entries}
use Rattle.tables.specs.Tables.{Tables, lent}
use Rattle.tables.specs.Answer.{Answer}
use Rattle.tables.specs.declared.Refusal.TheVariants.{OutOfRange, TooShort, NotInForm}
use Rattle.house.specs.State.{State}
use Rattle.house.specs.House.{no_counts, state, refuse, onward, too_far, line_of}

-- ---- "The first lent table below full size (list entries last) gives 13 with that size before any line."

abbrev pub full_size : Bool → ℕ → Answer → Answer
full_size true size rest = rest
full_size false size rest = Err (TooShort size)

-- of slices so long
unfoldable pub room : ℕ → ℕ → ℕ → ℕ → ℕ → ℕ → ℕ → ℕ → Answer
room t v o a b r f l =
    full_size (leb (max_types * 16) t) max_types
    (full_size (leb (max_values * 4) v) max_values
    (full_size (leb (max_operations * 16) o) max_operations
    (full_size (leb (max_attributes * 8) a) max_attributes
    (full_size (leb (max_blocks * 4) b) max_blocks
    (full_size (leb (max_regions * 2) r) max_regions
    (full_size (leb max_functions f) max_functions
    (full_size (leb max_entries l) max_entries (Ok tt))))))))

abbrev pub room_in : Tables → Answer
room_in x =
    room (length x.t) (length x.v) (length x.o) (length x.a) (length x.b) (length x.r) (length x.f) (length x.l)

-- nothing read yet: whatever the lent tables hold, none of it counts
abbrev pub fresh : Tables → State
fresh x = state 0 0 0 0 0 0 (lent x.t x.v x.o x.a x.b x.r x.f x.l no_counts) (Ok tt)

abbrev pub started : Answer → State → State
started (Ok _) s = s
started (Err r) s = refuse r s

abbrev pub start_of : Tables → State
start_of x = started (room_in x) (fresh x)

-- ---- what follows the last LF, so many bytes: none after a line, or a line whose LF is missing. "Field 0 is .. a missing last LF; an empty
-- text is 15 with 1, 0. A line reaching past byte 65,536 is 1 with 0, 0 before its other faults"

abbrev pub last_of : State → ℕ → State
last_of s left =
    onward s.answer s
    (cond (eqb left 0 && ltb 0 s.lines) s
    (cond (too_far s (s.bytes + left)) (refuse (OutOfRange 0 0) s) (refuse (NotInForm (suc s.lines) 0) s)))

-- ---- the lines, cut at each LF

unfoldable pub lines_of : State → List (List ℕ) → State
lines_of s [] = s
lines_of s (l ∷ []) = last_of s (length l)
lines_of s (l ∷ m ∷ ls) = lines_of (line_of s l) (m ∷ ls)

unfoldable pub house : List ℕ → Tables → State
house text x = lines_of (start_of x) (split 10 text)
