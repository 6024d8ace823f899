-- `list_into` meets its contract: what the items from the cursor on give, after those before it, is what the whole list gives.
use native.Mathlib.Omega.{arith}
use Prim.Native.Nat.{ℕ, ◌+◌, ◌<◌}
use mathlib.Core.Path.{◌≡◌, ◌∙◌, ap}
use Rattle.std.specs.Prelude.{Option, List}
use Rattle.fields.specs.Cut.{split}
use Rattle.fields.proofs.Digits.{none_left, some_left}
use Rattle.lines.specs.Into.{number_in, left}
use Rattle.lines.proofs.Lists.{run, rest_at, rest_all, list_none, list_some, list_over, list_stops, list_on, list_goes}
use Rattle.lines.proofs.list_into.Goals as goal

nonempty : {n : ℕ} → 0 < n → n ≡ 0 → ⊥
nonempty h e = omega arith

pub returns-then-is_empty : goal.returns-then-is_empty
returns-then-is_empty c =
    list_none _ _ _ _ (none_left c.is_empty.ensures c.if-is_empty.true)

pub returns-in_err-item : goal.returns-in_err-item
returns-in_err-item c =
    let a = c.args in
    let l = c.loop-p in
    let f = number_in a.width in
    ap (λ (r : Option ℕ). left r l.l) c.from_residual.ensures
    ∙ list_stops f c.min-start.result l.p l.n a.field.now l.l (omega arith) _ c.number_from.ensures c.in_err-item.was
    ∙ l.invariant.2 ∙ ap (λ (ss : List (List ℕ)). run f c.min-start.result ss 0 a.l.now) (rest_all a.field.now)
    ∙ ap (λ (k : ℕ). run f k (split 44 a.field.now) 0 a.l.now) c.min-start.ensures
    ∙ list_some f a.at a.field.now a.l.now (λ z. nonempty (some_left c.is_empty.ensures c.if-is_empty.false) z)

pub loop-p-smaller : goal.loop-p-smaller
loop-p-smaller c =
    let a = c.args in
    let l = c.loop-p in
    let item = c.in_ok-item.item in
    let on = list_on (number_in a.width) c.min-start.result l.p l.n a.field.now l.l (omega arith) _ c.number_from.ensures item.number item.next c.in_ok-item.was in
    omega (arith, on.0)

pub loop-p-preserved : goal.loop-p-preserved
loop-p-preserved c =
    let a = c.args in
    let l = c.loop-p in
    let f = number_in a.width in
    let item = c.in_ok-item.item in
    let on = list_on f c.min-start.result l.p l.n a.field.now l.l (omega arith) _ c.number_from.ensures item.number item.next c.in_ok-item.was in (
      omega (arith, on.1),
      omega (arith, on.0),
      ap (run f c.min-start.result (rest_at item.next a.field.now) (l.n + 1)) c.put.ensures
          ∙ list_goes f c.min-start.result l.p l.n a.field.now l.l (omega arith) _ c.number_from.ensures item.number item.next c.in_ok-item.was
          ∙ l.invariant.2,
    )

pub returns : goal.returns
returns c =
    let a = c.args in
    let l = c.loop-p in
    let f = number_in a.width in
    list_over f c.min-start.result l.p l.n a.field.now l.l (omega arith)
    ∙ l.invariant.2 ∙ ap (λ (ss : List (List ℕ)). run f c.min-start.result ss 0 a.l.now) (rest_all a.field.now)
    ∙ ap (λ (k : ℕ). run f k (split 44 a.field.now) 0 a.l.now) c.min-start.ensures
    ∙ list_some f a.at a.field.now a.l.now (λ z. nonempty (some_left c.is_empty.ensures c.if-is_empty.false) z)
