-- `product_of` meets its contract: the whole product is the product so far, times what is left.
use Rattle.std.proofs.Common.{rules}
use mathlib.Core.Path.{refl, sym, ◌∙◌}
use lib.IntN.{pos}
use lib.ListN.{get_or}
use mir.Syntax.{w64}
use mir.Val.{SFits}
use mir.Facts.{to_z-of_z}
use Rattle.arith.specs.Product.{product_of}
use Rattle.arith.proofs.Products.{all_left, all_next, all_end}
use Rattle.arith.proofs.product_of.Goals as goal

pub loop-d-init : goal.loop-d-init
unfolding product_of
loop-d-init c =
    refl

pub returns-in_err-all : goal.returns-in_err-all
returns-in_err-all c =
    let f : SFits w64 (get_or c.args.dims.now c.loop-d.d-index (pos 0)) = search rules in
    c.from_residual.ensures
    ∙ sym (c.loop-d.invariant ∙ all_left _ _ _ c.loop-d-test.true (simp (to_z-of_z f) at c.times.ensures) c.in_err-all.was)

pub loop-d-preserved : goal.loop-d-preserved
loop-d-preserved c =
    let f : SFits w64 (get_or c.args.dims.now c.loop-d.d-index (pos 0)) = search rules in
    let g : SFits w64 c.in_ok-all.all = search rules in
    c.loop-d.invariant ∙ all_next _ _ _ c.loop-d-test.true (simp (to_z-of_z f) at c.times.ensures) c.in_ok-all.was ∙ simp (to_z-of_z g)

pub returns : goal.returns
returns c =
    sym (c.loop-d.invariant ∙ all_end _ _ _ c.loop-d-test.false)
