-- `signed_from` meets its contract: with a minus by the size after it, and else by an unsigned number below half.
use Prim.Native.Nat.{◌+◌, ◌-◌, ◌^◌}
use mathlib.Core.Path.{◌≡◌, ◌∙◌, ap}
use native.Mathlib.Omega.{arith}
use Rattle.fields.specs.Taken.{took}
use Rattle.fields.proofs.Takes.{signed_no_part, signed_no_range, signed_empty_part, signed_plain_part, minus_part_bad, minus_part_zero, minus_part_size}
use Rattle.fields.proofs.signed_from.Goals as goal

pub returns-then-s-start : goal.returns-then-s-start
returns-then-s-start c =
    signed_no_part _ _ _ _ c.if-s-start.true

pub returns-then-half-eq0 : goal.returns-then-half-eq0
returns-then-half-eq0 c =
    signed_no_range _ _ _ _ c.if-half-eq0.true

pub returns-then-first-byte : goal.returns-then-first-byte
returns-then-first-byte c =
    signed_empty_part _ _ _ _ (omega arith) c.if-first-byte.true

pub returns-then-first-ne45 : goal.returns-then-first-ne45
returns-then-first-ne45 c =
    c.unsigned_from.ensures ∙ signed_plain_part _ _ _ _ (omega arith) c.if-first-byte.false (omega arith) c.if-first-ne45.true

pub returns-in_err-size : goal.returns-in_err-size
returns-in_err-size c =
    c.from_residual.ensures
    ∙ minus_part_bad _ _ _ _ (omega arith) c.if-first-byte.false c.if-first-ne45.false _ c.unsigned_from-2.ensures c.in_err-size.was

pub returns-then-size-eq0 : goal.returns-then-size-eq0
returns-then-size-eq0 c =
    let size = c.in_ok-size.size in
    minus_part_zero _ _ _ _ (omega arith) c.if-first-byte.false c.if-first-ne45.false _ c.unsigned_from-2.ensures size.number size.next c.in_ok-size.was c.if-size-eq0.true

pub returns : goal.returns
returns c =
    let size = c.in_ok-size.size in
    let n : c.wrapping_neg.result ≡ 2 ^ 64 - 1 - size.number + 1 = omega (arith, c.wrapping_neg.ensures) in
    ap (λ (k : _). took k size.next) n
    ∙ minus_part_size _ _ _ _ (omega arith) c.if-first-byte.false c.if-first-ne45.false _ c.unsigned_from-2.ensures size.number size.next c.in_ok-size.was c.if-size-eq0.false (omega arith)
