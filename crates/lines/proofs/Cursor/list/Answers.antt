-- `Cursor::list`: the list of the next field.
use mathlib.Core.Path.{◌∙◌, ap}
use Rattle.std.specs.Prelude.{ℕ, ◌+◌, List, Option}
use Rattle.std.specs.Option.{ok_or}
use Rattle.lines.specs.Field.{list_of}
use Rattle.lines.specs.Into.{number_in, count_of, good_of, Left, list_into}
use lib.Seq.{sets}
use Rattle.lines.specs.Answer.{bad_field}
use Rattle.lines.proofs.Cursor.list.Goals as goal

pub returns-clause-list : goal.returns-clause-list
unfolding list_into
returns-clause-list c =
    let f = number_in c.args.width in
    let answer = ap (λ (x : Left _). x.answer) c.list_into.ensures in
    let read = answer ∙ ap (λ (s : List ℕ). count_of (list_of f s)) c.field-list.ensures.field in
    c.ok_or.ensures.value
    ∙ ap (λ (k : ℕ). ok_or c.list_into.result (bad_field k)) c.field-list.ensures.read
    ∙ ap (λ (o : Option ℕ). ok_or o (bad_field (c.args.self.now.read + 1))) read

pub returns-clause-written : goal.returns-clause-written
unfolding list_into
returns-clause-written c =
    let f = number_in c.args.width in
    ap (λ (x : Left _). x.entries) c.list_into.ensures
    ∙ ap (λ (s : List ℕ). sets c.args.l.now c.args.at (good_of f s)) c.field-list.ensures.field
