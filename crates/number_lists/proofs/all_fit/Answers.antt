-- `all_fit` meets its contract. The loop's invariant: whether the lists still to be looked at fit is whether all do.
use native.Mathlib.Omega.{arith}
use Prim.Native.Nat.{ℕ, ◌+◌, ◌-◌}
use mathlib.Core.Bool.{Bool, true, false, cond}
use mathlib.Core.Path.{◌≡◌, sym, ap, ◌∙◌}
use mathlib.Core.List.{List}
use lib.ListN.{length, take, drop, length-drop}
use lib.Seq.{take_all}
use Rattle.number_lists.specs.Lists.{fits, all_fit}
use Rattle.number_lists.proofs.Laws.{none_left, next_list}
use Rattle.number_lists.proofs.all_fit.Goals as goal

pub returns-then-not-list_fits : goal.returns-then-not-list_fits
returns-then-not-list_fits c =
    let a = c.args in
    let lp = c.loop-i in
    let m = c.min.result in
    let fs = drop lp.i a.f.now in
    let fit : List ℕ → List ℕ → Bool = λ z xs. fits a.o.now a.b.now a.r.now z a.l.now a.n xs in
    let end : take (length a.f.now - lp.i) fs ≡ fs = take_all (length a.f.now - lp.i) fs (rw length-drop (omega arith)) in
    let w : fit fs (take m lp.left.now) ≡ false =
    sym (ap (λ (z : List ℕ). fit z c.split_at.result.0.now) end ∙ ap (fit fs) c.split_at.ensures.front) ∙ sym c.list_fits.ensures ∙ c.if-not-list_fits.true in
    sym (sym lp.invariant
    ∙ next_list a.o.now a.b.now a.r.now a.l.now a.n lp.i m a.f.now a.lengths.now lp.left.now (omega arith) (omega arith) c.min.ensures
    ∙ ap (λ (z : Bool). cond z (all_fit a.o.now a.b.now a.r.now (drop (lp.i + 1) a.f.now) a.l.now a.n (drop (lp.i + 1) a.lengths.now) (drop m lp.left.now)) false) w)

pub loop-i-preserved : goal.loop-i-preserved
loop-i-preserved c =
    let a = c.args in
    let lp = c.loop-i in
    let m = c.min.result in
    let fs = drop lp.i a.f.now in
    let fit : List ℕ → List ℕ → Bool = λ z xs. fits a.o.now a.b.now a.r.now z a.l.now a.n xs in
    let end : take (length a.f.now - lp.i) fs ≡ fs = take_all (length a.f.now - lp.i) fs (rw length-drop (omega arith)) in
    let w : fit fs (take m lp.left.now) ≡ true =
    sym (ap (λ (z : List ℕ). fit z c.split_at.result.0.now) end ∙ ap (fit fs) c.split_at.ensures.front) ∙ sym c.list_fits.ensures ∙ c.if-not-list_fits.false in
    let on : List ℕ → Bool = λ xs. all_fit a.o.now a.b.now a.r.now (drop (lp.i + 1) a.f.now) a.l.now a.n (drop (lp.i + 1) a.lengths.now) xs in
    ap on c.split_at.ensures.back
    ∙ sym (sym lp.invariant
    ∙ next_list a.o.now a.b.now a.r.now a.l.now a.n lp.i m a.f.now a.lengths.now lp.left.now (omega arith) (omega arith) c.min.ensures
    ∙ ap (λ (z : Bool). cond z (on (drop m lp.left.now)) false) w)

pub returns : goal.returns
returns c =
    let a = c.args in
    let lp = c.loop-i in
    sym (sym lp.invariant ∙ none_left a.o.now a.b.now a.r.now a.l.now a.n lp.i a.f.now a.lengths.now lp.left.now (omega arith))
