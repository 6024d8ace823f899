-- `push_number` meets its contract: the other digits, then the last.
use native.Mathlib.Omega.{arith}
use mathlib.Core.Path.{sym, ap, ◌∙◌}
use mathlib.Core.List.{List, [], ◌∷◌}
use Rattle.printing.specs.Laid.{State, state, pushed, laid}
use Rattle.printing.specs.Lines.{digit_of, decimal}
use Rattle.printing.proofs.Laws.{laid_append, decimal_small, decimal_step}
use Prim.Native.Nat.{ℕ, ◌/◌}
use Rattle.printing.proofs.+push_number.Goals as goal

pub returns-then-n-lt10 : goal.returns-then-n-lt10
unfolding laid
returns-then-n-lt10 t c =
    let a = c.args in
    c.push.ensures
    ∙ ap (pushed (state a.at a.out.now)) c.digit.ensures
    ∙ sym (ap (λ (l : List ℕ). laid l (state a.at a.out.now)) (decimal_small a.n c.if-n-lt10.true))

pub returns : goal.returns
unfolding laid
returns t c =
    let a = c.args in
    let s = state a.at a.out.now in
    c.push-2.ensures
    ∙ ap (pushed (state c.push_number-next.result c.push_number-next.new.out)) c.digit-2.ensures
    ∙ ap (λ (x : State). pushed x (digit_of a.n)) c.push_number-next.ensures
    ∙ sym (laid_append (decimal (a.n / 10)) (digit_of a.n ∷ []) s)
    ∙ sym (ap (λ (l : List ℕ). laid l s) (decimal_step a.n (omega (arith, c.ranges.n.fits)) c.if-n-lt10.false))
