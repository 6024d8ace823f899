-- `endpoints_into` meets its contract: each way through it is the definition's.
use mathlib.Core.Path.{refl, sym, ◌∙◌, ap}
use Prim.Native.Nat.{ℕ}
use Rattle.std.specs.Prelude.{List}
use Rattle.lines.specs.Field.{integer64, or_absent}
use Rattle.lines.specs.Answer.{slot_of}
use Rattle.lines.proofs.Attributes.{endpoints_count, endpoints_low, endpoints_high, endpoints_held}
use Rattle.lines.proofs.endpoints_into.Goals as goal

pub returns-then-count-ne2 : goal.returns-then-count-ne2
returns-then-count-ne2 c =
    endpoints_count _ _ _ _ c.count.ensures c.if-count-ne2.true

pub returns-in_err-low : goal.returns-in_err-low
returns-in_err-low c =
    let two = sym c.count.ensures ∙ c.if-count-ne2.false in
    endpoints_low _ _ _ two _
    (ap (λ (p : List ℕ). slot_of 1 (or_absent integer64 p)) (sym c.part.ensures) ∙ sym c.slot_of.ensures ∙ c.in_err-low.was) c.from_residual.ensures

pub returns-in_err-high : goal.returns-in_err-high
returns-in_err-high c =
    let two = sym c.count.ensures ∙ c.if-count-ne2.false in
    endpoints_high _ _ _ two _ _
    (ap (λ (p : List ℕ). slot_of 1 (or_absent integer64 p)) (sym c.part.ensures) ∙ sym c.slot_of.ensures ∙ c.in_ok-low.was)
    (ap (λ (p : List ℕ). slot_of 2 (or_absent integer64 p)) (sym c.part-2.ensures) ∙ sym c.slot_of-2.ensures ∙ c.in_err-high.was) c.from_residual-in_err-high.ensures

pub returns : goal.returns
returns c =
    let two = sym c.count.ensures ∙ c.if-count-ne2.false in
    endpoints_held _ _ _ two _ _
    (ap (λ (p : List ℕ). slot_of 1 (or_absent integer64 p)) (sym c.part.ensures) ∙ sym c.slot_of.ensures ∙ c.in_ok-low.was) _
    (ap (λ (p : List ℕ). slot_of 2 (or_absent integer64 p)) (sym c.part-2.ensures) ∙ sym c.slot_of-2.ensures ∙ c.in_ok-high.was)
    _ c.put_row.ensures refl
