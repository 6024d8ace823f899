-- `read_module` meets its contract. What is left of the text, read from here, gives what the whole gives.
use Prim.Native.Nat.{◌-◌, ◌≤◌}
use mathlib.Core.Path.{◌≡◌}
use lib.ListN.{length, drop}
use Rattle.fields.specs.Cut.{split}
use Rattle.tables.specs.Tables.{lent}
use Rattle.house.specs.House.{no_counts}
use Rattle.house.specs.Step.{state_of}
use Rattle.module_text.specs.Whole.{lines_of}
use Rattle.module_text.proofs.read_module.Given as goal

abbrev pub invariant-loop-s : goal.invariant-loop-s
invariant-loop-s z =
    (z.p ≤ length z.text) × (length z.t ≡ length z.initial.t) × (length z.v ≡ length z.initial.v) × (length z.o ≡ length z.initial.o) × (length z.a ≡ length z.initial.a) × (length z.b ≡ length z.initial.b) × (length z.r ≡ length z.initial.r) × (length z.f ≡ length z.initial.f) × (length z.l ≡ length z.initial.l)
    × (lines_of (state_of z.s (lent z.t z.v z.o z.a z.b z.r z.f z.l no_counts)) (split 10 (drop z.p z.text)) ≡ lines_of (state_of z.initial.s (lent z.initial.t z.initial.v z.initial.o z.initial.a z.initial.b z.initial.r z.initial.f z.initial.l no_counts)) (split 10 z.text))

abbrev pub decreases-loop-s : goal.decreases-loop-s
decreases-loop-s z = length z.text - z.p
