-- `Cursor::number`: what is taken where the field starts is what the field holds.
use mathlib.Core.Path.{sym, ◌∙◌}
use Rattle.lines.specs.Into.{number_in}
use Rattle.lines.proofs.Kept.{got, missed}
use Rattle.lines.proofs.Walk.{hands_up}
use Rattle.lines.proofs.Moving.{number_bad, number_is, number_next}
use Rattle.lines.proofs.Cursor.number.Goals as goal

pub returns-in_err-taken-clause-number : goal.returns-in_err-taken-clause-number
returns-in_err-taken-clause-number c =
    let self = c.args.self.now in
    let none = missed _ _ _ c.ok_or.ensures.value _ c.in_err-taken.was in
    let read = number_bad self.line.now self.read self.place self.stands (number_in c.args.width) _ c.number_from.ensures none.0 in
    hands_up c.from_residual.ensures.1 none.1 ∙ sym (rw read)

pub invariant_of-self : goal.invariant_of-self
invariant_of-self c =
    let self = c.args.self.now in
    let taken = c.in_ok-taken.taken in
    record {
      stands = number_next self.line.now self.read self.place self.stands (number_in c.args.width) _ c.number_from.ensures taken.number taken.next
          (got _ _ _ c.ok_or.ensures.value taken c.in_ok-taken.was);
    }

pub returns-clause-number : goal.returns-clause-number
returns-clause-number c =
    let self = c.args.self.now in
    let taken = c.in_ok-taken.taken in
    let read = number_is self.line.now self.read self.place self.stands (number_in c.args.width) _ c.number_from.ensures taken.number taken.next
    (got _ _ _ c.ok_or.ensures.value taken c.in_ok-taken.was) in
    sym (rw read)
