-- Where code 2 passes, no operation, block or region stands twice in all the lists of its kind. Assumes nothing.
use Prim.Native.Nat.{ℕ, ◌≤◌, ◌<◌}
use native.Mathlib.Omega.{arith}
use mathlib.Core.Path.{◌≡◌, refl}
use mathlib.Core.List.{List}
use mathlib.Core.Option.{Option, some, none}
use lib.Dec.{ltb}
use borrow.Author.Tests.{ltb-false}
use Rattle.cells.specs.Lists.{count}
use Rattle.tables.specs.Tables.{Tables}
use Rattle.std.specs.Prelude.{Ok}
use Rattle.listed.specs.Twice.{listed_operations, listed_blocks, listed_regions, lowest_twice, refused, listed_twice}
use Rattle.listed.specs.Once.{Once}
use Rattle.tables.proofs.Each.{both_accept}
use Rattle.listed.proofs.Find.{find_none}

-- an answer that is accepted found nothing
accepted : (list : ℕ) (found : Option ℕ) → refused list found ≡ Ok tt → found ≡ none
accepted list none e = refl
accepted list (some i) e = absurd (let z : ◌≡◌ {A = ℕ} 0 1 = cc in omega arith)

at_most_once : (list : ℕ) (xs : List ℕ) (n : ℕ) → refused list (lowest_twice xs n) ≡ Ok tt → (i : ℕ) → i < n → count i xs ≤ 1
unfolding lowest_twice
at_most_once list xs n e i h =
    ltb-false 1 (count i xs) (find_none (λ j. ltb 1 (count j xs)) 0 n i (accepted list _ e) (omega arith) (omega arith))

pub once : (x : Tables) → listed_twice x ≡ Ok tt → Once x
unfolding listed_twice
once x e =
    let p = both_accept (refused 0 (lowest_twice (listed_operations x) x.counts.operations)) _ e in
    let q = both_accept (refused 1 (lowest_twice (listed_blocks x) x.counts.blocks)) _ p.1 in
    record {
      operations = at_most_once 0 (listed_operations x) x.counts.operations p.0;
      blocks = at_most_once 1 (listed_blocks x) x.counts.blocks q.0;
      regions = at_most_once 2 (listed_regions x) x.counts.regions q.1;
    }
