-- The cell of a row of one, where it counts, is the entry at its position among those that count. Assumes nothing.
use mathlib.Core.Path.{◌≡◌, sym, ap, ◌∙◌}
use mathlib.Core.List.{List}
use mathlib.Core.Logic.{⊎_elim}
use Prim.Native.Nat.{ℕ, ◌+◌, ◌*◌}
use native.Mathlib.Omega.{arith}
use borrow.Author.Tests.{lt-ltb, le-ltb}
use lib.ListN.{get_or, take, length-take, get_or-eq_default}
use lib.Seq.{get_or-take}
use Rattle.cells.proofs.Rows.{lt_or_ge}
use Rattle.tables.specs.Layout.{counted_cell}

pub function_at_lem : (f : List ℕ) (n i : ℕ) → counted_cell n 1 f i 0 ≡ get_or (take n f) i 0
function_at_lem f n i = ⊎_elim
    (λ h. let e : i * 1 + 0 ≡ i = omega arith in rw (lt-ltb i n h) (ap (λ (k : ℕ). get_or f k 0) e ∙ sym (get_or-take n f i 0 h)))
    (λ h. rw (le-ltb i n h) (sym (get_or-eq_default (take n f) 0 (simp length-take (omega arith)))))
    (lt_or_ge i n)
