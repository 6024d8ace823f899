-- `signed` meets its contract: with a minus by the size after it, and else by an unsigned number below half.
use Prim.Native.Nat.{◌+◌, ◌-◌, ◌^◌}
use mathlib.Core.Path.{◌≡◌, ◌∙◌, ap}
use native.Mathlib.Omega.{arith}
use Rattle.std.specs.Prelude.{Some}
use Rattle.fields.proofs.Digits.{none_left, some_left, nothing_within, signed_empty, signed_plain, minus_bad, minus_zero, minus_size}
use Rattle.fields.proofs.signed.Goals as goal

pub returns-then-is_empty : goal.returns-then-is_empty
returns-then-is_empty c =
    signed_empty _ _ (none_left c.is_empty.ensures c.if-is_empty.true)

pub returns-then-half-eq0 : goal.returns-then-half-eq0
returns-then-half-eq0 c =
    nothing_within _ _ c.if-half-eq0.true

pub returns-then-s-ne45 : goal.returns-then-s-ne45
returns-then-s-ne45 c =
    c.unsigned.ensures ∙ signed_plain _ _ (omega arith) (some_left c.is_empty.ensures c.if-is_empty.false) c.if-s-ne45.true

pub returns-in_err-size : goal.returns-in_err-size
returns-in_err-size c =
    c.from_residual.ensures
    ∙ minus_bad _ _ (some_left c.is_empty.ensures c.if-is_empty.false) c.if-s-ne45.false _ c.unsigned-2.ensures c.in_err-size.was

pub returns-then-size-eq0 : goal.returns-then-size-eq0
returns-then-size-eq0 c =
    minus_zero _ _ (some_left c.is_empty.ensures c.if-is_empty.false) c.if-s-ne45.false _ c.unsigned-2.ensures c.in_ok-size.size c.in_ok-size.was c.if-size-eq0.true

pub returns : goal.returns
returns c =
    let n : c.wrapping_neg.result ≡ 2 ^ 64 - 1 - c.in_ok-size.size + 1 = omega (arith, c.wrapping_neg.ensures) in
    ap Some n ∙ minus_size _ _ (some_left c.is_empty.ensures c.if-is_empty.false) c.if-s-ne45.false _ c.unsigned-2.ensures c.in_ok-size.size c.in_ok-size.was c.if-size-eq0.false (omega arith)
