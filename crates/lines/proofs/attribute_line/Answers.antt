-- `attribute_line` meets its contract: each way through it is the definition's.
use Prim.Native.Nat.{ℕ, ◌<◌}
use mathlib.Core.List.{List}
use mathlib.Core.Path.{sym, ◌∙◌, ap}
use lib.ListN.{length}
use Rattle.fields.proofs.Digits.{none_left, some_left}
use Rattle.names.specs.Names.{number_of}
use Rattle.lines.specs.Answer.{form_in, numbers_into}
use Rattle.lines.proofs.Attributes.{attribute_unnamed, attribute_formless, attribute_bad, attribute_row_lem}
use Rattle.lines.proofs.Kept.{got, missed}
use Rattle.lines.proofs.Walk.{hands_up, first, next, there}
use Rattle.lines.proofs.attribute_line.Goals as goal

pub returns-then-is_empty : goal.returns-then-is_empty
returns-then-is_empty c =
    let at1 = first c.new-rest.ensures.line c.new-rest.ensures.read in
    let name = there at1 c.field-name.ensures.field in
    attribute_unnamed _ _ _ (ap length (sym name) ∙ none_left c.is_empty.ensures c.if-is_empty.true)

pub returns-in_err-form : goal.returns-in_err-form
returns-in_err-form c =
    let at1 = first c.new-rest.ensures.line c.new-rest.ensures.read in
    let name = there at1 c.field-name.ensures.field in
    let some : 0 < length _ = rw (← name) (some_left c.is_empty.ensures c.if-is_empty.false) in
    let at2 = next at1 c.field-name.ensures.line c.field-name.ensures.read in
    let letter = ap form_in (sym (there at2 c.field.ensures.field)) ∙ sym c.form_of.ensures in
    let none = missed _ _ _ c.ok_or.ensures.value _ c.in_err-form.was in
    attribute_formless _ _ _ some _ (letter ∙ none.0) (hands_up c.from_residual.ensures.1 none.1)

pub returns-in_err-numbers : goal.returns-in_err-numbers
returns-in_err-numbers c =
    let at1 = first c.new-rest.ensures.line c.new-rest.ensures.read in
    let name = there at1 c.field-name.ensures.field in
    let some : 0 < length _ = rw (← name) (some_left c.is_empty.ensures c.if-is_empty.false) in
    let at2 = next at1 c.field-name.ensures.line c.field-name.ensures.read in
    let letter = ap form_in (sym (there at2 c.field.ensures.field)) ∙ sym c.form_of.ensures in
    let form = letter ∙ got _ _ _ c.ok_or.ensures.value _ c.in_ok-form.was in
    let at3 = next at2 c.field.ensures.line c.field.ensures.read in
    let last = c.numbers_into.ensures
    ∙ ap (λ (p : List ℕ). numbers_into c.in_ok-form.form c.args.at p c.args.l.now) (there at3 c.field-2.ensures.field) in
    let none = missed _ _ _ c.ok_or-2.ensures.value _ c.in_err-numbers.was in
    attribute_bad _ _ _ some _ form _ _ last _ none.0 (hands_up c.from_residual-in_err-numbers.ensures.1 none.1)

pub returns : goal.returns
returns c =
    let at1 = first c.new-rest.ensures.line c.new-rest.ensures.read in
    let name = there at1 c.field-name.ensures.field in
    let some : 0 < length _ = rw (← name) (some_left c.is_empty.ensures c.if-is_empty.false) in
    let at2 = next at1 c.field-name.ensures.line c.field-name.ensures.read in
    let letter = ap form_in (sym (there at2 c.field.ensures.field)) ∙ sym c.form_of.ensures in
    let form = letter ∙ got _ _ _ c.ok_or.ensures.value _ c.in_ok-form.was in
    let at3 = next at2 c.field.ensures.line c.field.ensures.read in
    let last = c.numbers_into.ensures
    ∙ ap (λ (p : List ℕ). numbers_into c.in_ok-form.form c.args.at p c.args.l.now) (there at3 c.field-2.ensures.field) in
    attribute_row_lem _ _ _ some _ form _ _ last _ _ (got _ _ _ c.ok_or-2.ensures.value _ c.in_ok-numbers.was)
    (c.name_number.ensures ∙ ap number_of name)
