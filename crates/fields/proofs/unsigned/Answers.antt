-- `unsigned` meets its contract: the bytes not yet read make of the value so far what the whole field is.
use mathlib.Core.Logic.{⊎_elim}
use mathlib.Core.Path.{refl, ◌∙◌}
use native.Mathlib.Omega.{arith}
use lib.ListN.{get_or}
use Rattle.fields.proofs.Digits.{none_left, some_left, empty, zero_first, start, stuck, onward, ended, low, high, over, fine}
use Rattle.fields.proofs.unsigned.Goals as goal

pub returns-then-is_empty : goal.returns-then-is_empty
returns-then-is_empty c =
    empty _ _ (none_left c.is_empty.ensures c.if-is_empty.true)

pub returns-then-s-gt1 : goal.returns-then-s-gt1
returns-then-s-gt1 c =
    zero_first _ _ c.if-s-eq48.true c.if-s-gt1.true

pub loop-b-init : goal.loop-b-init
loop-b-init c =
    let some = some_left c.is_empty.ensures c.if-is_empty.false in
    (refl, omega arith, start _ _ (omega arith) (λ e. omega (arith, c.else-s-eq48.either)))

pub returns-then-not-is_ascii_digit : goal.returns-then-not-is_ascii_digit
returns-then-not-is_ascii_digit c =
    let l = c.loop-b in
    stuck _ l.x l.b-index _ (omega arith) (⊎_elim (low _ _ _) (high _ _ _) c.if-not-is_ascii_digit.ensures.cases) ∙ l.invariant.2

pub returns-then-tenth-x : goal.returns-then-tenth-x
returns-then-tenth-x c =
    let a = c.args in
    let l = c.loop-b in
    stuck _ l.x l.b-index _ (omega arith) (over a.max l.x (get_or a.s.now l.b-index 0) (omega arith)) ∙ l.invariant.2

pub returns-then-max-tens : goal.returns-then-max-tens
returns-then-max-tens c =
    let a = c.args in
    let l = c.loop-b in
    stuck _ l.x l.b-index _ (omega arith) (over a.max l.x (get_or a.s.now l.b-index 0) (omega arith)) ∙ l.invariant.2

pub loop-b-preserved : goal.loop-b-preserved
loop-b-preserved c =
    let a = c.args in
    let l = c.loop-b in
    let byte = get_or a.s.now l.b-index 0 in
    let digit = c.if-not-is_ascii_digit.ensures.cases in
    let more = fine a.max l.x byte digit.0 digit.1 (omega (arith, digit)) in
    (refl, omega arith, rw c.from-digit.ensures (onward _ l.x l.b-index _ (omega arith) more ∙ l.invariant.2))

pub returns : goal.returns
returns c =
    let l = c.loop-b in ended _ l.x l.b-index _ (omega arith) ∙ l.invariant.2
