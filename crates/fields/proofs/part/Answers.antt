-- `part` meets its contract: the part that is asked for is the one so many parts after the cursor.
use mathlib.Core.Path.{◌≡◌, sym, ap, ◌∙◌}
use native.Mathlib.Omega.{arith}
use Prim.Native.Nat.{◌+◌, ◌-◌}
use lib.ListN.{drop}
use Rattle.fields.specs.Cut.{split, nth}
use Rattle.fields.proofs.Parts.{end_le, at_last, at_more, at_any, nth_first, nth_next, nth_none}
use Rattle.fields.proofs.part.Goals as goal

pub returns-then-end-s : goal.returns-then-end-s
returns-then-end-s c =
    let l = c.loop-i in
    let left = c.args.k - l.i in
    sym (ap (nth left) (at_last _ l.p _ _ (omega arith) c.find-end.ensures (omega arith)) ∙ nth_next _ _ left (omega arith) ∙ nth_none _) ∙ l.invariant.1

pub overflow_add-p : goal.overflow_add-p
overflow_add-p c =
    let few = end_le c.args.byte c.loop-i.p c.find-end.result c.args.s.now (omega arith) c.find-end.ensures in omega (arith, few)

pub loop-i-preserved : goal.loop-i-preserved
loop-i-preserved c =
    let l = c.loop-i in
    let left = c.args.k - l.i in
    let few = end_le c.args.byte c.loop-i.p c.find-end.result c.args.s.now (omega arith) c.find-end.ensures in
    let n : c.args.k - (l.i + 1) ≡ left - 1 = omega arith in (
      omega (arith, few),
      ap (λ (j : _). nth j (split c.args.byte (drop (c.find-end.result + 1) c.args.s.now))) n
          ∙ sym (ap (nth left) (at_more _ l.p _ _ (omega arith) c.find-end.ensures (omega (arith, few))) ∙ nth_next _ _ left (omega arith)) ∙ l.invariant.1,
    )

pub returns : goal.returns
returns c =
    let a = c.args in
    let l = c.loop-i in
    let left = a.k - l.i in
    let here = at_any a.byte l.p _ a.s.now (omega arith) c.find-end-2.ensures in
    c.between.ensures ∙ sym (ap (nth left) here.1 ∙ nth_first _ here.0 left (omega arith)) ∙ l.invariant.1
