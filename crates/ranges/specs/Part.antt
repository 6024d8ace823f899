-- A list of ids in range, what a pass over a table answers, and the sheet by its parts.
use Rattle.std.specs.Prelude.{ℕ, ◌+◌, ◌^◌, Bool, ◌&&◌, not, List, ltb, leb, length, suc, ◌*◌, Result, Ok, Err}
use Rattle.std.proofs.Math.Option.{Option, some, none}
use Rattle.cells.specs.Cell.{entries_of}
use Rattle.cells.specs.declared.Span.{Span}
use Rattle.cells.specs.Lists.{below, find}
use Rattle.tables.specs.Sheet.{fixed_flag_in, fixed_count_in, mode_mask_in, contained_mask_in, byte_width_in}
use Rattle.ranges.specs.Entry.{all_below}
use Rattle.tables.specs.Answer.{Answer}
use Rattle.tables.specs.declared.Refusal.{Refusal}
use Rattle.tables.specs.declared.Refusal.TheVariants.{OutOfRange}
use Rattle.ranges.specs.Range.{sum, room_at, refused, good_count}
use Rattle.ranges.specs.declared.Pass.{Pass}

-- a list is whole among the list entries and holds ids below n alone
abbrev pub good_list : List ℕ → Span → ℕ → Bool
good_list l s n = leb (s.start + s.len) (length l) && all_below n (entries_of l s)

-- ---- a pass over a table

-- entry i is within the size and whole among the cells lent
abbrev pub stands_in : Pass → ℕ → Bool
stands_in t i = ltb i t.size && leb (suc i * t.width) t.cells

-- the first entry that does not stand or is not good
unfoldable pub first_of : Pass → (ℕ → Bool) → Answer
first_of t good = refused t.table (find (λ i. not (stands_in t i && good i)) (below t.count))

-- the first bad entry, or how many list entries there are up to the table's end
abbrev pub scanned : ℕ → Option ℕ → ℕ → Result ℕ Refusal
scanned table none used = Ok used
scanned table (some i) used = Err (OutOfRange table i)

-- the same entries that `first_bad` refuses of a table that holds lists, `before` list entries standing before its own
unfoldable pub scan_of : Pass → (ℕ → Bool) → (ℕ → ℕ) → ℕ → Result ℕ Refusal
scan_of t good listed before =
    scanned t.table (find (λ i. not (stands_in t i && (good i && room_at before listed i))) (below t.count)) (before + sum listed t.count)

-- ---- the sheet, by its parts

abbrev pub good_fixed : List ℕ → ℕ → Bool
good_fixed s op = ltb (fixed_flag_in s op) 2 && good_count (fixed_count_in s op)

abbrev pub good_mode : List ℕ → ℕ → Bool
good_mode s m = ltb (mode_mask_in s m) (2 ^ 16)

abbrev pub good_kind : List ℕ → ℕ → Bool
good_kind s k = ltb (contained_mask_in s k) (2 ^ 16) && leb (byte_width_in s k) 8
