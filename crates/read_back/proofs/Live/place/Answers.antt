-- `Live::place`: the place at a number that is live, and none of any other. Assumes nothing.
use Rattle.std.proofs.Common.{rules, length, ◌≤◌, ◌≡◌}
use mathlib.Core.Path.{sym}
use Rattle.read_back.proofs.Stack.{place_at, no_place}
use Rattle.read_back.proofs.Live.place.Goals as goal

pub returns-then-self-number : goal.returns-then-self-number
returns-then-self-number c =
    rw (← c.self.view_is) (sym (no_place c.self.inside.places c.self.inside.count c.args.number c.if-self-number.true))

pub returns : goal.returns
returns c =
    let l : c.self.inside.count ≤ length c.self.inside.places = search rules in
    rw (← c.self.view_is) (sym (place_at c.self.inside.places c.self.inside.count c.args.number _ c.if-self-number.false l))
