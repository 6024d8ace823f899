-- `count` meets its contract: one part more than the bytes that end one.
use Rattle.std.proofs.Common.{◌≡◌, eqb, rules, arith}
use Rattle.std.specs.List.{count_by}
use Rattle.fields.proofs.Parts.{count_is}
use Rattle.fields.proofs.count.Goals as goal

pub returns : goal.returns
returns c =
    let n : c.count.result ≡ count_by (λ x. eqb x c.args.byte) c.args.s.now = search rules in
    omega (arith, n, count_is c.args.byte c.args.s.now)
