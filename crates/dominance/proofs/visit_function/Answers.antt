-- `visit_function`: the regions of a function operation, where nothing is live yet. Assumes nothing.
use Prim.Native.Nat.{ℕ}
use mathlib.Core.Path.{subst}
use mathlib.Core.List.{List, []}
use Rattle.tables.specs.Sizes.{max_depth}
use Rattle.dominance.specs.Walk.{Went, regions_judged}
use Rattle.dominance.proofs.Walks.{beside}
use Rattle.dominance.proofs.visit_function.Goals as goal

pub returns : goal.returns
returns g c = λ t v a tells h.
    let x = beside c.args.x.now t v a in
    subst (λ (ks : List ℕ). Went c.visit_regions.result x.counts.values c.visit_regions.new.stack [] (regions_judged x max_depth [] ks)) c.regions.ensures
    (c.visit_regions.ensures.went t v a tells [] h)
