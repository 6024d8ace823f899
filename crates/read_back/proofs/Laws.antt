-- Types, values and attributes are not looked at; and where codes 1 to 4 pass, written numbers read back to the defining places. Assumes
-- nothing.
use mathlib.Core.Path.{◌≡◌, refl, ap, ◌∙◌}
use mathlib.Core.List.{List}
use Prim.Native.Nat.{ℕ}
use Rattle.tables.specs.Tables.{Tables, lent, nest}
use Rattle.tables.specs.Answer.{Answer}
use Rattle.std.specs.Prelude.{Ok}
use Rattle.tables.specs.declared.Counts.{Counts}
use Rattle.tables.specs.declared.Place.{Place}
use Rattle.ranges.specs.Entry.{good_region}
use Rattle.ranges.specs.Range.{table_ranges}
use Rattle.ranges.proofs.Laws.{ranged}
use Rattle.listed.specs.Twice.{listed_twice}
use Rattle.walk.specs.Depth.{operation_depth, block_depth, region_depth, too_deep}
use Rattle.nesting.specs.Live.{Nesting}
use Rattle.nesting.specs.Numbering.{Listing, fine, numbering}
use Rattle.nesting.specs.ReadBack.{read_back, operand_places}
use Rattle.nesting.specs.Passed.{Single}
use Rattle.nesting.proofs.Theorems as nesting
use Rattle.nesting_check.specs.Checks.{nested_operation, nested_block, nesting_ranges, nesting_checks}
use Rattle.nesting_check.proofs.Laws.{checks_pass}
use Rattle.read_back.specs.Alone.{spanned, written, after_checks, read_back_alone}
use Rattle.read_back.proofs.Same.{spanned_is}

-- "Reading back uses nesting and counts only"
pub nesting_alone : (t v o a b r f l : List ℕ) (n : Counts) (numbers held : List ℕ)
    → read_back_alone (nest o b r f l n) numbers held ≡ read_back_alone (lent t v o a b r f l n) numbers held
unfolding read_back_alone spanned nesting_checks nesting_ranges nested_operation nested_block good_region listed_twice too_deep operation_depth block_depth region_depth
nesting_alone t v o a b r f l n numbers held = refl

-- "Written numbers read back to the defining places."
pub reads_back : (sheet : List ℕ) (x : Tables) → table_ranges x ≡ Ok tt → listed_twice x ≡ Ok tt → too_deep x ≡ Ok tt → Single x
    → (zs held : List ℕ) → numbering sheet x ≡ fine zs → read_back_alone x zs held ≡ written (fine (operand_places x)) held
unfolding read_back_alone
reads_back sheet x one two three four zs held e =
    ap (λ (a : Answer). after_checks a (written (read_back (spanned x) zs) held) held) (checks_pass x one two three)
    ∙ ap (λ (n : Nesting). written (read_back n zs) held) (spanned_is x (ranged x one))
    ∙ ap (λ (l : Listing Place). written l held) (nesting.reads_back sheet x four zs e)
