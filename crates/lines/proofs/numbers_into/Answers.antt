-- `numbers_into` meets its contract: each form is read by its own function.
use native.Mathlib.Omega.{arith}
use Prim.Native.Nat.{ℕ}
use mathlib.Core.Path.{sym, ◌∙◌, ap}
use Rattle.lines.specs.Line.{numbers_of}
use Rattle.lines.specs.Answer.{held_into, whole_into, numbers_written, numbers_into}
use Rattle.fields.proofs.Digits.{none_left, some_left}
use Rattle.lines.proofs.Attributes.{other_held, other_bad}
use Rattle.lines.proofs.numbers_into.Goals as goal

pub returns-in-0 : goal.returns-in-0
unfolding held_into whole_into numbers_of numbers_written numbers_into
returns-in-0 c =
    let a = c.args in
    c.single_into.ensures ∙ ap (λ (k : ℕ). numbers_into k a.at a.field.now a.l.now) (sym c.in-0.is)

pub returns-in-1 : goal.returns-in-1
unfolding held_into whole_into numbers_of numbers_written numbers_into
returns-in-1 c =
    let a = c.args in
    c.single_into-in-1.ensures ∙ ap (λ (k : ℕ). numbers_into k a.at a.field.now a.l.now) (sym c.in-1.is)

pub returns-in-2 : goal.returns-in-2
unfolding held_into whole_into numbers_of numbers_written numbers_into
returns-in-2 c =
    let a = c.args in
    c.whole_into.ensures ∙ ap (λ (k : ℕ). numbers_into k a.at a.field.now a.l.now) (sym c.in-2.is)

pub returns-in-3 : goal.returns-in-3
unfolding held_into whole_into numbers_of numbers_written numbers_into
returns-in-3 c =
    let a = c.args in
    c.whole_into-in-3.ensures ∙ ap (λ (k : ℕ). numbers_into k a.at a.field.now a.l.now) (sym c.in-3.is)

pub returns-in-4 : goal.returns-in-4
unfolding held_into whole_into numbers_of numbers_written numbers_into
returns-in-4 c =
    let a = c.args in
    c.whole_into-in-4.ensures ∙ ap (λ (k : ℕ). numbers_into k a.at a.field.now a.l.now) (sym c.in-4.is)

pub returns-in-5 : goal.returns-in-5
unfolding held_into whole_into numbers_of numbers_written numbers_into
returns-in-5 c =
    let a = c.args in
    c.divisor_into.ensures ∙ ap (λ (k : ℕ). numbers_into k a.at a.field.now a.l.now) (sym c.in-5.is)

pub returns-in-6 : goal.returns-in-6
unfolding held_into whole_into numbers_of numbers_written numbers_into
returns-in-6 c =
    let a = c.args in
    c.whole_into-in-6.ensures ∙ ap (λ (k : ℕ). numbers_into k a.at a.field.now a.l.now) (sym c.in-6.is)

pub returns-in-7 : goal.returns-in-7
unfolding held_into whole_into numbers_of numbers_written numbers_into
returns-in-7 c =
    let a = c.args in
    c.endpoints_into.ensures ∙ ap (λ (k : ℕ). numbers_into k a.at a.field.now a.l.now) (sym c.in-7.is)

pub returns-in_default : goal.returns-in_default
returns-in_default c =
    other_held _ _ _ _ (omega arith) (omega arith) (omega arith) (omega arith) (omega arith) (omega arith) (omega arith) (omega arith) (none_left c.is_empty.ensures c.if-is_empty.true)

pub returns-in_default-2 : goal.returns-in_default-2
returns-in_default-2 c =
    other_bad _ _ _ _ (omega arith) (omega arith) (omega arith) (omega arith) (omega arith) (omega arith) (omega arith) (omega arith) (some_left c.is_empty.ensures c.if-is_empty.false)
