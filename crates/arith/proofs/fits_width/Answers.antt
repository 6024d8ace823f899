-- `fits_width` meets its contract: `half` is 2^(bits - 1), so `most` and `fewest` are the ends of the range.
use mathlib.Core.Path.{◌≡◌, sym, ◌∙◌}
use mathlib.Core.Bool.{Bool}
use Prim.Native.Nat.{ℕ, ◌-◌, ◌*◌, ◌%◌, ◌^◌, ◌<◌, ◌≤◌}
use native.Mathlib.Omega.{arith}
use lib.IntN.{ℤ, pos, negsuc, ◌-ℤ◌}
use lib.Pow.{pow_pos, pow_mono}
use lib.Signed.{le_z}
use borrow.Author.Tests.{lt-ltb}
use mir.Syntax.{w64}
use mir.Val.{SFits, of_z, to_z}
use mir.Facts.{to_z-of_z, to_z_pos}
use Rattle.arith.specs.Signed.{fits_width}
use Rattle.arith.proofs.Powers.{shifted}
use Rattle.arith.proofs.Signs.{neg_fits, least_is}
use Rattle.arith.proofs.Laws.{zero_bits_hold_nothing, sixty_four_bits_hold_every_i64}
use Rattle.arith.proofs.fits_width.Goals as goal

-- half of the width's numbers, and the ends of the range
module _ (bits : ℕ) (v : ℤ) (fits : SFits w64 v) (some : 0 < bits) (few : bits < 64) where
  abbrev top : ℕ
  top = bits - 1

  half : (1 * 2 ^ top) % 2 ^ 64 ≡ 2 ^ top
  half = shifted top (omega arith)

  most-lt : 2 ^ top - 1 < 2 ^ 63
  most-lt =
      let m : 2 ^ top ≤ 2 ^ 63 = pow_mono {i = top} {j = 63} (omega arith) in
      let p = pow_pos top in
      omega arith

  most : to_z w64 ((1 * 2 ^ top) % 2 ^ 64 - 1) ≡ pos (2 ^ top - 1)
  most = rw half (to_z_pos w64 most-lt)

  abbrev fewest-bits : ℕ
  fewest-bits = of_z w64 (to_z w64 (of_z w64 (pos 0 -ℤ to_z w64 ((1 * 2 ^ top) % 2 ^ 64 - 1))) -ℤ pos 1)

  fewest : to_z w64 fewest-bits ≡ negsuc (2 ^ top - 1)
  fewest =
      let l : SFits w64 (negsuc (2 ^ top - 1)) = record { sfits = most-lt } in
      simp (most, to_z-of_z (neg_fits (2 ^ top - 1) most-lt), least_is, to_z-of_z l)

  low : {t : Bool} → le_z (to_z w64 fewest-bits) (to_z w64 (of_z w64 v)) ≡ t → le_z (negsuc (2 ^ top - 1)) v ≡ t
  low h = simp (to_z-of_z fits, fewest) at h

pub returns-then-bits-eq0 : goal.returns-then-bits-eq0
returns-then-bits-eq0 c =
    sym (rw c.if-bits-eq0.true (zero_bits_hold_nothing c.args.v))

pub returns-then-bits-ge64 : goal.returns-then-bits-ge64
returns-then-bits-ge64 c =
    sym (sixty_four_bits_hold_every_i64 c.args.bits c.if-bits-ge64.true c.ranges.v)

pub returns-then-fewest-v : goal.returns-then-fewest-v
unfolding fits_width
returns-then-fewest-v c =
    let some : 0 < c.args.bits = omega arith in
    let few = c.if-bits-ge64.false in
    simp (
      most c.args.bits c.args.v c.ranges.v some few,
      to_z-of_z c.ranges.v,
      lt-ltb 0 c.args.bits some,
      low c.args.bits c.args.v c.ranges.v some few c.if-fewest-v.true,
    )

pub returns-else-fewest-v : goal.returns-else-fewest-v
unfolding fits_width
returns-else-fewest-v c =
    let some : 0 < c.args.bits = omega arith in
    c.if-fewest-v.false
    ∙ simp (lt-ltb 0 c.args.bits some, low c.args.bits c.args.v c.ranges.v some c.if-bits-ge64.false c.if-fewest-v.false)
