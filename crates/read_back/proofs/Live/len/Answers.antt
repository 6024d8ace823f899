-- `Live::len`: as many as are live. Assumes nothing.
use lib.ListN.{length-take}
use native.Mathlib.Omega.{arith}
use Rattle.read_back.proofs.Live.len.Goals as goal

pub returns : goal.returns
returns c =
    rw (← c.self.view_is, length-take c.self.inside.count c.self.inside.places) (omega (arith, c.self.invariant))
