-- `remainder_of` meets its contract: a remainder is an i64.
use mathlib.Core.Path.{◌≡◌}
use mathlib.Core.Bool.{true, false}
use lib.IntN.{pos}
use lib.Signed.{lt_z}
use mir.Syntax.{w64}
use mir.Facts.{to_z-of_z}
use Rattle.std.proofs.lemmas.Int.{rem_is}
use Rattle.arith.specs.Signed.{remainder_of}
use Rattle.arith.proofs.remainder_of.Goals as goal

pub returns-then-divisor-gt0 : goal.returns-then-divisor-gt0
unfolding remainder_of
returns-then-divisor-gt0 c =
    let above : lt_z (pos 0) c.args.divisor ≡ true = simp (to_z-of_z c.ranges.divisor) at c.if-divisor-gt0.true in
    simp (rem_is w64 _ _ c.ranges.dividend c.ranges.divisor, above)

pub returns-else-divisor-gt0 : goal.returns-else-divisor-gt0
unfolding remainder_of
returns-else-divisor-gt0 c =
    let e : lt_z (pos 0) c.args.divisor ≡ false = simp (to_z-of_z c.ranges.divisor) at c.if-divisor-gt0.false in simp e
