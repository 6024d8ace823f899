-- `divisor_into` meets its contract: each way through it is the definition's.
use mathlib.Core.Path.{refl, sym, ◌∙◌, ap}
use Prim.Native.Nat.{ℕ}
use Rattle.std.specs.Prelude.{List}
use Rattle.lines.specs.Field.{unsigned64, integer64, or_absent}
use Rattle.lines.specs.Answer.{slot_of}
use Rattle.lines.proofs.Attributes.{divisor_count, divisor_bad, divisor_every, divisor_along, divisor_held}
use Rattle.lines.proofs.divisor_into.Goals as goal

pub returns-then-count-ne3 : goal.returns-then-count-ne3
returns-then-count-ne3 c =
    divisor_count _ _ _ _ c.count.ensures c.if-count-ne3.true

pub returns-in_err-divisor : goal.returns-in_err-divisor
returns-in_err-divisor c =
    let three = sym c.count.ensures ∙ c.if-count-ne3.false in
    let divisor = ap unsigned64 (sym c.part.ensures) ∙ sym c.number_in.ensures ∙ c.in_err-divisor.was in
    divisor_bad _ _ _ three _ divisor c.from_residual.ensures

pub returns-in_err-every : goal.returns-in_err-every
returns-in_err-every c =
    let three = sym c.count.ensures ∙ c.if-count-ne3.false in
    let divisor = ap unsigned64 (sym c.part.ensures) ∙ sym c.number_in.ensures ∙ c.in_ok-divisor.was in
    divisor_every _ _ _ three _ _ divisor
    (ap (λ (p : List ℕ). slot_of 2 (or_absent integer64 p)) (sym c.part-2.ensures) ∙ sym c.slot_of.ensures ∙ c.in_err-every.was) c.from_residual-in_err-every.ensures

pub returns-in_err-along : goal.returns-in_err-along
returns-in_err-along c =
    let three = sym c.count.ensures ∙ c.if-count-ne3.false in
    let divisor = ap unsigned64 (sym c.part.ensures) ∙ sym c.number_in.ensures ∙ c.in_ok-divisor.was in
    divisor_along _ _ _ three _ _ divisor _
    (ap (λ (p : List ℕ). slot_of 2 (or_absent integer64 p)) (sym c.part-2.ensures) ∙ sym c.slot_of.ensures ∙ c.in_ok-every.was)
    (ap (λ (p : List ℕ). slot_of 4 (or_absent integer64 p)) (sym c.part-3.ensures) ∙ sym c.slot_of-2.ensures ∙ c.in_err-along.was) c.from_residual-in_err-along.ensures

pub returns : goal.returns
returns c =
    let three = sym c.count.ensures ∙ c.if-count-ne3.false in
    let divisor = ap unsigned64 (sym c.part.ensures) ∙ sym c.number_in.ensures ∙ c.in_ok-divisor.was in
    divisor_held _ _ _ three _ _ divisor _
    (ap (λ (p : List ℕ). slot_of 2 (or_absent integer64 p)) (sym c.part-2.ensures) ∙ sym c.slot_of.ensures ∙ c.in_ok-every.was) _
    (ap (λ (p : List ℕ). slot_of 4 (or_absent integer64 p)) (sym c.part-3.ensures) ∙ sym c.slot_of-2.ensures ∙ c.in_ok-along.was)
    _ c.put_row.ensures refl
