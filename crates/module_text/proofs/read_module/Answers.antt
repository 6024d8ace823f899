-- `read_module` meets its contract. What is left of the text, read from here, gives what the whole gives.
use native.Mathlib.Omega.{arith}
use mathlib.Core.Path.{refl, sym, ◌∙◌, ap}
use lib.ListN.{drop}
use Rattle.fields.specs.Cut.{split}
use Rattle.fields.proofs.Parts.{end_ge}
use Rattle.tables.specs.Tables.{lent}
use Rattle.house.specs.State.{State}
use Rattle.house.specs.House.{no_counts}
use Rattle.house.specs.Step.{state_of}
use Rattle.module_text.specs.Whole.{lines_of}
use Rattle.module_text.proofs.Ways.{lines_kept, next_line, no_line, house_is}
use Rattle.module_text.proofs.read_module.Goals as goal

pub loop-s-init : goal.loop-s-init
loop-s-init c =
    (omega arith, refl, refl, refl, refl, refl, refl, refl, refl, refl)

pub overflow_add-p : goal.overflow_add-p
overflow_add-p c =
    omega (arith, c.if-text-e.false)

pub loop-s-smaller : goal.loop-s-smaller
loop-s-smaller c =
    let l = c.loop-s in
    omega (arith, c.if-text-e.false, l.invariant.0, end_ge 10 l.p _ c.args.text.now l.invariant.0 c.find-e.ensures)

pub loop-s-preserved : goal.loop-s-preserved
loop-s-preserved c =
    let l = c.loop-s in
    let r = c.take_line-s in (
      omega (arith, c.if-text-e.false),
      r.auto.t ∙ l.invariant.1,
      r.auto.v ∙ l.invariant.2,
      r.auto.o ∙ l.invariant.3,
      r.auto.a ∙ l.invariant.4,
      r.auto.b ∙ l.invariant.5,
      r.auto.r ∙ l.invariant.6,
      r.auto.f ∙ l.invariant.7,
      r.auto.l ∙ l.invariant.8,
      next_line c.args.text.now l.p _ l.invariant.0 c.find-e.ensures _ _ _ l.invariant.9 c.if-text-e.false _ c.between.ensures r.ensures,
    )

pub overflow_sub-e : goal.overflow_sub-e
overflow_sub-e c =
    let l = c.loop-s in
    omega (arith, end_ge 10 l.p _ c.args.text.now l.invariant.0 c.find-e.ensures)

pub returns-then-text-e : goal.returns-then-text-e
returns-then-text-e c =
    let p = c.args in
    let l = c.loop-s in
    no_line p.text.now l.p _ l.invariant.0 c.find-e.ensures _ _ _ l.invariant.9 c.if-text-e.true c.last_line.ensures
    ∙ ap (λ (y : State). lines_of y (split 10 p.text.now)) c.start-s.ensures
    ∙ house_is p.text.now (lent p.t.now p.v.now p.o.now p.a.now p.b.now p.r.now p.f.now p.l.now no_counts)

pub returns-in-Err : goal.returns-in-Err
returns-in-Err c =
    let p = c.args in
    let l = c.loop-s in
    sym
    (lines_kept (state_of l.s (lent l.t l.v l.o l.a l.b l.r l.f l.l no_counts)) c.in-Err.field-0 c.in-Err.is (split 10 (drop l.p p.text.now)))
    ∙ l.invariant.9 ∙ ap (λ (y : State). lines_of y (split 10 p.text.now)) c.start-s.ensures
    ∙ house_is p.text.now (lent p.t.now p.v.now p.o.now p.a.now p.b.now p.r.now p.f.now p.l.now no_counts)
