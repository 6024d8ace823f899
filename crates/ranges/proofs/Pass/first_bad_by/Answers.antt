-- `first_bad_by`: entry by entry, up to the first that is bad, whatever the closure tests. Assumes nothing.
use Rattle.ranges.proofs.Scan.{check_step, check_stop, check_end}
use Rattle.ranges.proofs.Pass.first_bad_by.Goals as goal

pub returns-then-not-stands-good : goal.returns-then-not-stands-good
returns-then-not-stands-good g c p h =
    let lp = c.loop-entry in
    check_stop c.args.self.now p lp.entry (lp.invariant.1 p h) c.loop-entry-test.true _ _ c.stands.ensures
    (h _ _ c.loop-entry-test.true c.good.ensures) c.if-not-stands-good.true

pub loop-entry-preserved : goal.loop-entry-preserved
loop-entry-preserved g c =
    let lp = c.loop-entry in (
      lp.invariant.0,
      λ p h. check_step c.args.self.now p lp.entry (lp.invariant.1 p h) c.loop-entry-test.true _ _ c.stands.ensures
          (h _ _ c.loop-entry-test.true c.good.ensures) c.if-not-stands-good.false,
    )

pub returns : goal.returns
returns g c p h = check_end c.args.self.now p c.loop-entry.entry (c.loop-entry.invariant.1 p h) c.loop-entry-test.false
