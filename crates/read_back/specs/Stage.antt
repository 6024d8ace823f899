-- Reading back on the way: how many numbers are read, the first refusal so far, and what the list holds.
use Rattle.std.specs.Prelude.{ℕ, suc, ◌+◌, ◌≡◌, cond, List, [], ◌∷◌, ◌++◌, ltb, eqb, length, get_or, Ok, Err}
use Rattle.std.proofs.Math.Option.{Option, some, none}
use Rattle.cells.specs.Cell.{put_cell}
use Rattle.tables.specs.Tables.{Tables, regions}
use Rattle.tables.specs.Answer.{and_then, Answer}
use Rattle.tables.specs.declared.Place.{Place}
use Rattle.tables.specs.declared.Refusal.TheVariants.{NotReadable}
use Rattle.nesting.specs.Live.{placed, nth}
use Rattle.nesting.specs.ReadBack.{Use, uses_at}
use Rattle.nesting.specs.Ask.{Way, all, fold_block, fold_region, fold_entry, fold_entries}
use Rattle.read_back.specs.Alone.{spanned, kind_of, id_of, index_of, Outcome, outcome}
use Rattle.read_back.specs.Live.{grow_all}
use Rattle.read_back.specs.declared.Reading.{Reading}

pub record Stage : Type 0 where
  pub at : ℕ
  pub answer : Answer
  pub held : List ℕ

abbrev pub stage : ℕ → Answer → List ℕ → Stage
stage k a held = record { at = k; answer = a; held = held }

abbrev pub staged : Reading → List ℕ → Stage
staged w held = stage w.at w.answer held

-- a place in row k of the list
abbrev pub put_place : List ℕ → ℕ → Place → List ℕ
put_place held k p = put_cell 3 (put_cell 3 (put_cell 3 held k 0 (kind_of p)) k 1 (id_of p)) k 2 (index_of p)

-- the place that a number names is written; a number not below the count live is the operand's refusal, where there is none yet
abbrev pub took : Option Place → ℕ → ℕ → Stage → Stage
took (some p) i place s = stage (s.at + 1) s.answer (put_place s.held s.at p)
took none i place s = stage (s.at + 1) (and_then s.answer (Err (NotReadable i place))) s.held

-- the next number, read at operation i; where none is left the list has the wrong length
unfoldable pub read_next : List ℕ → List Place → ℕ → ℕ → Stage → Stage
read_next numbers live i place s =
    cond (ltb s.at (length numbers)) (took (nth live (get_or numbers s.at 0)) i place s) (stage s.at (Err (NotReadable 0 0)) s.held)

abbrev pub read_all : List ℕ → Stage → List Use → Stage
read_all numbers s [] = s
read_all numbers s (u ∷ us) = read_all numbers (read_next numbers u.live u.op (suc u.index) s) us

-- nothing is read
abbrev pub start : List ℕ → Stage
start held = stage 0 (Ok tt) held

-- an operand of operation i
abbrev pub use_of : ℕ → List Place → ℕ → Use
use_of i live k = record { op = i; index = k; live = live }

-- ---- the operands that a walk meets, in order, over the stack

abbrev pub lists : {A : Type 0} → Way (List A)
lists = record { nothing = []; both = ◌++◌ }

unfoldable pub region_uses : Tables → ℕ → List Place → ℕ → List Use
region_uses x d live k = fold_region lists grow_all (uses_at (spanned x).operands) (placed (spanned x)) d live k

unfoldable pub block_uses : Tables → ℕ → List Place → ℕ → List Use
block_uses x d live j = fold_block lists grow_all (uses_at (spanned x).operands) (placed (spanned x)) (region_uses x d) live j

-- of an operation's regions, its results being live
abbrev pub inside_uses : Tables → ℕ → List Place → ℕ → List Use
inside_uses x d live i = all lists (region_uses x d live) (regions x i)

unfoldable pub entry_uses : Tables → ℕ → List Use
entry_uses x f = fold_entry lists grow_all (uses_at (spanned x).operands) (placed (spanned x)) f

unfoldable pub entries_uses : Tables → List Use
entries_uses x = fold_entries lists grow_all (uses_at (spanned x).operands) (placed (spanned x))

-- what is said at the end: all numbers must have been read
abbrev pub judged : ℕ → Stage → Outcome
judged count s = outcome (cond (eqb s.at count) s.answer (Err (NotReadable 0 0))) s.held

unfoldable pub judged_all : Tables → List ℕ → List ℕ → Outcome
judged_all x numbers held = judged (length numbers) (read_all numbers (start held) (entries_uses x))

-- a visit that came to the stage s, with these places live
pub record Went (w : Reading) (held : List ℕ) (live : List Place) (s : Stage) : Type 0 where
  pub lives : w.live ≡ live
  pub reached : staged w held ≡ s
