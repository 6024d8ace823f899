-- `Cursor::field`: the next field starts after the tab that ends this one.
use native.Mathlib.Omega.{arith}
use Rattle.lines.proofs.Moving.{end_few, starts_next, field_is}
use Rattle.lines.proofs.Cursor.field.Goals as goal

pub overflow_add-self-2 : goal.overflow_add-self-2
overflow_add-self-2 c =
    let self = c.args.self.now in omega (arith, end_few 9 self.place self.line.now, c.find-end.ensures)

pub invariant_of-self : goal.invariant_of-self
invariant_of-self c =
    let self = c.args.self.now in record { stands = starts_next self.line.now self.read self.place self.stands c.find-end.result c.find-end.ensures }

pub returns-clause-field : goal.returns-clause-field
returns-clause-field c =
    let self = c.args.self.now in
    field_is self.line.now self.read self.place self.stands c.find-end.result _ c.find-end.ensures c.between-field.ensures
