-- `scan_by`: entry by entry, with the list entries so far, whatever the closures test and count. Assumes nothing.
use Rattle.ranges.proofs.Scan.{scan_step, scan_stop, scan_end}
use Rattle.ranges.proofs.Pass.scan_by.Goals as goal

pub returns-then-not-stands-good : goal.returns-then-not-stands-good
returns-then-not-stands-good g c p f h k =
    let lp = c.loop-entry in
    let t = c.loop-entry-test.true in
    scan_stop c.args.self.now p f c.args.before lp.used lp.entry (lp.invariant.2 p f h k) t _ _ c.stands.ensures (h _ _ t c.good.ensures)
    _ _ (k _ _ t c.listed.ensures) c.add_list-used.ensures c.if-not-stands-good.true

pub loop-entry-preserved : goal.loop-entry-preserved
loop-entry-preserved g c =
    let lp = c.loop-entry in
    let t = c.loop-entry-test.true in (
      lp.invariant.0,
      lp.invariant.1,
      λ p f h k.
          scan_step c.args.self.now p f c.args.before lp.used lp.entry (lp.invariant.2 p f h k) t _ _ c.stands.ensures (h _ _ t c.good.ensures)
          _ _ (k _ _ t c.listed.ensures) c.add_list-used.ensures c.if-not-stands-good.false,
    )

pub returns : goal.returns
returns g c p f h k = scan_end c.args.self.now p f c.args.before c.loop-entry.used c.loop-entry.entry (c.loop-entry.invariant.2 p f h k) c.loop-entry-test.false
