-- `Asked::new`: each mark that is put is true. Assumes nothing.
use mathlib.Core.Path.{◌∙◌, sym, ap}
use Rattle.capabilities.specs.Ask.{ask}
use Rattle.capabilities.proofs.Marks.{marked, accepted}
use Rattle.capabilities.proofs.Asked.new.Goals as goal

pub loop-kind-preserved : goal.loop-kind-preserved
loop-kind-preserved c =
    let g = c.args.g in
    marked g c.loop-kind.known c.loop-kind.kind c.is_ok.result
    (λ e. ap (ask g 0) (sym c.scalar_requirement.ensures) ∙ sym c.ask.ensures ∙ accepted c.ask.result (sym c.is_ok.ensures.value ∙ e))
    c.loop-kind.invariant
