-- `mark_lists_by`: what is left of the lists leads to the same marks, whatever the lists hold. Assumes nothing.
use Prim.Native.Nat.{ℕ, ◌<◌}
use mathlib.Core.Path.{◌≡◌}
use mathlib.Core.List.{List}
use Rattle.listed.proofs.Marks.{Marking}
use Rattle.listed.proofs.mark_lists_by.Given as goal

abbrev pub invariant-loop-i : goal.invariant-loop-i
invariant-loop-i g z =
    goal.F-IsAlwaysCallable g z.list
    × ((f : ℕ → List ℕ) → ((i : ℕ) (r : _) → i < z.count → goal.F-post g z.list i r → r.now ≡ f i) → Marking f z.count z.initial.marks z.i z.marks)
