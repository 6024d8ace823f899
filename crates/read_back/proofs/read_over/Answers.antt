-- `read_over`: the checks, a walk that judges, room, and a walk that writes. Assumes nothing.
use Rattle.std.proofs.Common.{rules, ◌≡◌}
use Rattle.std.specs.Prelude.{Err}
use Rattle.read_back.proofs.Turns.{checks_stop, judged_stop, short_stop, whole_read}
use Rattle.read_back.proofs.read_over.Goals as goal

pub returns-in_err-check_nesting : goal.returns-in_err-check_nesting
returns-in_err-check_nesting c =
    let a = c.args in
    let e : c.from_residual.result ≡ Err c.in_err-check_nesting.field-0.0 = search rules in
    rw e (checks_stop a.x.now a.numbers.now a.places.now c.check_nesting.result c.check_nesting.ensures c.in_err-check_nesting.was)

pub returns-in_err-read_all : goal.returns-in_err-read_all
returns-in_err-read_all c =
    let a = c.args in
    let k = c.check_nesting in
    let e : c.from_residual-in_err-read_all.result ≡ Err c.in_err-read_all.field-0.0 = search rules in
    rw e (judged_stop a.x.now a.numbers.now a.places.now k.result k.ensures c.in_ok-check_nesting.was _ c.read_all.ensures c.in_err-read_all.was)

pub returns-then-places-needed : goal.returns-then-places-needed
returns-then-places-needed c =
    let a = c.args in
    let k = c.check_nesting in
    short_stop a.x.now a.numbers.now a.places.now k.result k.ensures c.in_ok-check_nesting.was _ c.read_all.ensures c.in_ok-read_all.was
    c.if-places-needed.true

pub returns : goal.returns
returns c =
    let a = c.args in
    let k = c.check_nesting in
    whole_read a.x.now a.numbers.now a.places.now k.result k.ensures c.in_ok-check_nesting.was _ c.read_all.ensures c.in_ok-read_all.was
    c.if-places-needed.false c.read_all-2.ensures
