-- `listed_twice`: the three kinds in turn, on counts that are cut at the sizes. Assumes nothing.
use mathlib.Core.Path.{◌≡◌, ◌∙◌}
use Rattle.std.proofs.Common.{rules}
use Rattle.std.specs.Prelude.{Err}
use Rattle.tables.specs.Tables.{blocks, regions}
use Rattle.listed.specs.Twice.{listed_twice}
use Rattle.tables.proofs.Each.{ends, goes_on}
use Rattle.listed.proofs.Marks.{operations_seen, blocks_seen, regions_seen}
use Rattle.listed.proofs.listed_twice.Goals as goal

pub returns-in_err-twice_operations : goal.returns-in_err-twice_operations
unfolding listed_twice
returns-in_err-twice_operations c =
    let first = operations_seen c.args.x.now _ c.cut-x.ensures c.twice_operations.ensures in
    let q : c.from_residual.result ≡ Err c.in_err-twice_operations.field-0.0 = search rules in
    q ∙ ends _ _ _ first c.in_err-twice_operations.was

pub returns-in_err-twice_listed : goal.returns-in_err-twice_listed
unfolding listed_twice
returns-in_err-twice_listed c =
    let first = operations_seen c.args.x.now _ c.cut-x.ensures c.twice_operations.ensures in
    let second = blocks_seen c.args.x.now _ c.cut-x.ensures _ c.counts-n.ensures (c.twice_listed.ensures (blocks c.cut-x.result) (λ i r h e. search rules)) in
    let q : c.from_residual-in_err-twice_listed.result ≡ Err c.in_err-twice_listed.field-0.0 = search rules in
    q ∙ ends _ _ _ second c.in_err-twice_listed.was ∙ goes_on _ _ _ first c.in_ok-twice_operations.was

pub returns : goal.returns
unfolding listed_twice
returns c =
    let first = operations_seen c.args.x.now _ c.cut-x.ensures c.twice_operations.ensures in
    let second = blocks_seen c.args.x.now _ c.cut-x.ensures _ c.counts-n.ensures (c.twice_listed.ensures (blocks c.cut-x.result) (λ i r h e. search rules)) in
    let third = regions_seen c.args.x.now _ c.cut-x.ensures _ c.counts-n.ensures (c.twice_listed-2.ensures (regions c.cut-x.result) (λ i r h e. search rules)) in
    third ∙ goes_on _ _ _ second (c.in_ok-twice_listed.was) ∙ goes_on _ _ _ first (c.in_ok-twice_operations.was)
