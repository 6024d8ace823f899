-- `header_line` meets its contract: field by field, as the definition goes.
use borrow.Author.Tests.{eq-eqb, ne_eqb}
use Rattle.lines.specs.Field.{integer64}
use Rattle.lines.specs.Line.{header_line}
use Rattle.lines.proofs.Walk.{first, next, took, fails}
use Rattle.lines.proofs.header_line.Goals as goal

pub returns-in_err-number : goal.returns-in_err-number
unfolding header_line
returns-in_err-number c =
    let at = first c.new-rest.ensures.line c.new-rest.ensures.read in
    let no = fails at integer64 c.number.ensures.number c.in_err-number.was c.from_residual.ensures.1 in
    rw no.0 no.1

pub returns-then-branch-ne1 : goal.returns-then-branch-ne1
unfolding header_line
returns-then-branch-ne1 c =
    let at = first c.new-rest.ensures.line c.new-rest.ensures.read in
    let one = took at integer64 c.number.ensures.number c.in_ok-number.was in
    rw (one, ne_eqb _ 1 c.if-branch-ne1.true)

pub returns-in_err-version : goal.returns-in_err-version
unfolding header_line
returns-in_err-version c =
    let at = first c.new-rest.ensures.line c.new-rest.ensures.read in
    let one = took at integer64 c.number.ensures.number c.in_ok-number.was in
    let at' = next at c.in_ok-number.ensures.line c.in_ok-number.ensures.read in
    let no = fails at' integer64 c.number-2.ensures.number c.in_err-version.was c.from_residual-in_err-version.ensures.1 in
    rw (one, eq-eqb _ 1 c.if-branch-ne1.false, no.0) no.1

pub returns-in_err-sm : goal.returns-in_err-sm
unfolding header_line
returns-in_err-sm c =
    let at = first c.new-rest.ensures.line c.new-rest.ensures.read in
    let one = took at integer64 c.number.ensures.number c.in_ok-number.was in
    let at' = next at c.in_ok-number.ensures.line c.in_ok-number.ensures.read in
    let version = took at' integer64 c.number-2.ensures.number c.in_ok-version.was in
    let at'' = next at' c.in_ok-version.ensures.line c.in_ok-version.ensures.read in
    let no = fails at'' integer64 c.number-3.ensures.number c.in_err-sm.was c.from_residual-in_err-sm.ensures.1 in
    rw (one, eq-eqb _ 1 c.if-branch-ne1.false, version, no.0) no.1

pub returns : goal.returns
unfolding header_line
returns c =
    let at = first c.new-rest.ensures.line c.new-rest.ensures.read in
    let one = took at integer64 c.number.ensures.number c.in_ok-number.was in
    let at' = next at c.in_ok-number.ensures.line c.in_ok-number.ensures.read in
    let version = took at' integer64 c.number-2.ensures.number c.in_ok-version.was in
    let at'' = next at' c.in_ok-version.ensures.line c.in_ok-version.ensures.read in
    let sm = took at'' integer64 c.number-3.ensures.number c.in_ok-sm.was in
    rw (one, eq-eqb _ 1 c.if-branch-ne1.false, version, sm)
