-- `visit_function`: the first block of the first region, on an empty stack. Assumes nothing.
use Rattle.std.proofs.Common.{rules}
use mathlib.Core.List.{[]}
use Rattle.scope.proofs.Laws.{shows_none}
use Rattle.numbering_walk.proofs.visit_function.Goals as goal

pub returns : goal.returns
returns c = λ t v a f tells hd hs.
    let went = c.visit_block.ensures.went t v a f tells [] (shows_none _ c.args.dense.now c.args.sparse.now hd hs) in
    search rules
