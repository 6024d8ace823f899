-- `claim_values`: the cells that are lent, on counts that are cut at the sizes. Assumes nothing.
use native.Mathlib.Omega.{arith}
use mathlib.Core.Path.{ap, ◌∙◌}
use Rattle.tables.specs.Tables.{cut}
use Rattle.values.specs.Claims.{bases_after, claims_after, lowest_seen}
use Rattle.values.proofs.Seen.{seen_answer, few}
use Rattle.values.proofs.claim_values.Goals as goal

pub returns : goal.returns
unfolding lowest_seen
returns c rb rc =
    let a = c.args in
    let y = cut a.x.now in
    let f = few y c.fill_bases.result (rw c.cut-x.ensures at c.fill_bases.ensures.total) c.if-fill_bases-gt-MAX_ENTRIES.false in
    let hb = rw c.cut-x.ensures at c.fill_bases.ensures.written in
    let hm = rw c.cut-x.ensures at c.mark_arguments.ensures in
    let hc = rw c.cut-x.ensures at c.fill_claims.ensures in
    let hl = rw c.cut-x.ensures at c.lowest_seen.ensures in (
      seen_answer y a.bases.now a.claims.now _ _ _ (omega arith) f (omega arith) rc hb hm hc _ hl,
      λ z h. (hb ∙ ap (bases_after y) z.0, hc ∙ ap (claims_after y _) z.1),
    )
