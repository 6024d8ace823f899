-- `unsigned_from` meets its contract: the part from the cursor on makes of the value so far what the whole part is.
use mathlib.Core.Logic.{⊎_elim}
use mathlib.Core.Path.{refl, ◌∙◌, ap}
use native.Mathlib.Omega.{arith}
use lib.ListN.{length, get_or}
use Rattle.fields.proofs.Digits.{low, high, over, fine}
use Rattle.fields.proofs.Takes.{take_on, take_end, take_here, take_stuck, take_onward, no_part, empty_part, take_start, zero_last, zero_alone, zero_leads}
use Rattle.fields.proofs.unsigned_from.Goals as goal
use Rattle.fields.proofs.unsigned_from.Goals.{else-first-n-via-then-first-n+else-s-first-2, else-first-n-via-else-first-n}

pub returns-then-n-first : goal.returns-then-n-first
returns-then-n-first c =
    no_part _ _ _ _ c.if-n-first.true

pub returns-then-s-first : goal.returns-then-s-first
returns-then-s-first c =
    empty_part _ _ _ _ (omega arith) c.if-s-first.true

pub returns-then-s-first-2 : goal.returns-then-s-first-2
returns-then-s-first-2 c =
    zero_leads _ _ _ _ (omega arith) c.if-s-first.false c.if-s-first-eq48.true (omega arith) c.if-s-first-2.true

pub returns-then-s-first-eq48 : goal.returns-then-s-first-eq48
returns-then-s-first-eq48 c =
    elim c.else-first-n.branch [
      | else-first-n-via-then-first-n+else-s-first-2 w ↦ zero_alone _ _ _ _ (omega arith) c.if-s-first.false c.if-s-first-eq48.true w.if-first-n.true (omega arith)
      | else-first-n-via-else-first-n w ↦ zero_last _ _ _ _ (omega arith) c.if-s-first.false c.if-s-first-eq48.true w.if-first-n.false
    ]

pub loop-i-init : goal.loop-i-init
loop-i-init c =
    (refl, omega arith, omega arith, take_start _ _ _ _ (omega arith) c.if-s-first.false c.if-s-first-eq48.false)

pub returns-then-b-byte : goal.returns-then-b-byte
returns-then-b-byte c =
    let l = c.loop-i in take_here _ _ l.x l.i _ (omega arith) c.if-b-byte.true ∙ l.invariant.3

pub returns-then-not-is_ascii_digit : goal.returns-then-not-is_ascii_digit
returns-then-not-is_ascii_digit c =
    let l = c.loop-i in
    take_stuck _ _ l.x l.i _ (omega arith) c.if-b-byte.false (⊎_elim (low _ _ _) (high _ _ _) c.if-not-is_ascii_digit.ensures.cases) ∙ l.invariant.3

pub returns-then-x : goal.returns-then-x
returns-then-x c =
    let a = c.args in
    let l = c.loop-i in
    take_stuck _ _ l.x l.i _ (omega arith) c.if-b-byte.false (over a.max l.x (get_or a.s.now l.i 0) (omega arith)) ∙ l.invariant.3

pub returns-then-max-tens : goal.returns-then-max-tens
returns-then-max-tens c =
    let a = c.args in
    let l = c.loop-i in
    take_stuck _ _ l.x l.i _ (omega arith) c.if-b-byte.false (over a.max l.x (get_or a.s.now l.i 0) (omega arith)) ∙ l.invariant.3

pub returns-then-max-tens-2 : goal.returns-then-max-tens-2
returns-then-max-tens-2 c =
    let a = c.args in
    let l = c.loop-i in
    take_stuck _ _ l.x l.i _ (omega arith) c.if-b-byte.false (over a.max l.x (get_or a.s.now l.i 0) (omega arith)) ∙ l.invariant.3

pub loop-i-preserved : goal.loop-i-preserved
loop-i-preserved c =
    let a = c.args in
    let l = c.loop-i in
    let digit = c.if-not-is_ascii_digit.ensures.cases in
    let more = fine a.max l.x (get_or a.s.now l.i 0) digit.0 digit.1 (omega (arith, digit)) in
    (refl, omega arith, omega arith, rw c.from-digit.ensures (take_onward _ _ l.x l.i _ (omega arith) c.if-b-byte.false more ∙ l.invariant.3))

pub returns : goal.returns
returns c =
    let a = c.args in
    let l = c.loop-i in
    take_end a.byte a.max l.x (length a.s.now) a.s.now (omega arith) (omega arith)
    ∙ ap (λ (i : _). take_on a.byte a.max l.x i a.s.now) (omega arith) ∙ l.invariant.3
