-- `type_line` meets its contract: field by field, as the definition goes.
use mathlib.Core.Path.{refl, ◌∙◌, ap}
use Prim.Native.Nat.{ℕ}
use mathlib.Core.List.{List}
use lib.ListN.{replicate}
use lib.Seq.{sets}
use Rattle.lines.specs.Field.{one_of, id32, integer32, list_of}
use Rattle.lines.specs.Line.{type_line}
use Rattle.lines.specs.Into.{number_in, good_of, count_of}
use Rattle.lines.proofs.Fixed.{type_dims, type_row}
use Rattle.lines.proofs.Walk.{first, next, there, took, fails}
use Rattle.lines.proofs.type_line.Goals as goal

pub returns-in_err-form : goal.returns-in_err-form
unfolding type_line
returns-in_err-form c =
    let at1 = first c.new-rest.ensures.line c.new-rest.ensures.read in
    let no = fails at1 (one_of 7) c.number.ensures.number c.in_err-form.was c.from_residual.ensures.1 in
    rw (no.0) no.1

pub returns-in_err-kind : goal.returns-in_err-kind
unfolding type_line
returns-in_err-kind c =
    let at1 = first c.new-rest.ensures.line c.new-rest.ensures.read in
    let form = took at1 (one_of 7) c.number.ensures.number c.in_ok-form.was in
    let at2 = next at1 c.in_ok-form.ensures.line c.in_ok-form.ensures.read in
    let no = fails at2 (one_of 16) c.number-2.ensures.number c.in_err-kind.was c.from_residual-in_err-kind.ensures.1 in
    rw (form, no.0) no.1

pub returns-in_err-pointer : goal.returns-in_err-pointer
unfolding type_line
returns-in_err-pointer c =
    let at1 = first c.new-rest.ensures.line c.new-rest.ensures.read in
    let form = took at1 (one_of 7) c.number.ensures.number c.in_ok-form.was in
    let at2 = next at1 c.in_ok-form.ensures.line c.in_ok-form.ensures.read in
    let kind = took at2 (one_of 16) c.number-2.ensures.number c.in_ok-kind.was in
    let at3 = next at2 c.in_ok-kind.ensures.line c.in_ok-kind.ensures.read in
    let no = fails at3 id32 c.number-3.ensures.number c.in_err-pointer.was c.from_residual-in_err-pointer.ensures.1 in
    rw (form, kind, no.0) no.1

pub returns-in_err-padded : goal.returns-in_err-padded
unfolding type_line
returns-in_err-padded c =
    let at1 = first c.new-rest.ensures.line c.new-rest.ensures.read in
    let form = took at1 (one_of 7) c.number.ensures.number c.in_ok-form.was in
    let at2 = next at1 c.in_ok-form.ensures.line c.in_ok-form.ensures.read in
    let kind = took at2 (one_of 16) c.number-2.ensures.number c.in_ok-kind.was in
    let at3 = next at2 c.in_ok-kind.ensures.line c.in_ok-kind.ensures.read in
    let pointer = took at3 id32 c.number-3.ensures.number c.in_ok-pointer.was in
    let at4 = next at3 c.in_ok-pointer.ensures.line c.in_ok-pointer.ensures.read in
    let no = fails at4 (one_of 2) c.number-4.ensures.number c.in_err-padded.was c.from_residual-in_err-padded.ensures.1 in
    rw (form, kind, pointer, no.0) no.1

pub returns-in_err-sparse : goal.returns-in_err-sparse
unfolding type_line
returns-in_err-sparse c =
    let at1 = first c.new-rest.ensures.line c.new-rest.ensures.read in
    let form = took at1 (one_of 7) c.number.ensures.number c.in_ok-form.was in
    let at2 = next at1 c.in_ok-form.ensures.line c.in_ok-form.ensures.read in
    let kind = took at2 (one_of 16) c.number-2.ensures.number c.in_ok-kind.was in
    let at3 = next at2 c.in_ok-kind.ensures.line c.in_ok-kind.ensures.read in
    let pointer = took at3 id32 c.number-3.ensures.number c.in_ok-pointer.was in
    let at4 = next at3 c.in_ok-pointer.ensures.line c.in_ok-pointer.ensures.read in
    let padded = took at4 (one_of 2) c.number-4.ensures.number c.in_ok-padded.was in
    let at5 = next at4 c.in_ok-padded.ensures.line c.in_ok-padded.ensures.read in
    let no = fails at5 integer32 c.number-5.ensures.number c.in_err-sparse.was c.from_residual-in_err-sparse.ensures.1 in
    rw (form, kind, pointer, padded, no.0) no.1

pub returns-in_err-rank : goal.returns-in_err-rank
returns-in_err-rank c =
    let at1 = first c.new-rest.ensures.line c.new-rest.ensures.read in
    let form = took at1 (one_of 7) c.number.ensures.number c.in_ok-form.was in
    let at2 = next at1 c.in_ok-form.ensures.line c.in_ok-form.ensures.read in
    let kind = took at2 (one_of 16) c.number-2.ensures.number c.in_ok-kind.was in
    let at3 = next at2 c.in_ok-kind.ensures.line c.in_ok-kind.ensures.read in
    let pointer = took at3 id32 c.number-3.ensures.number c.in_ok-pointer.was in
    let at4 = next at3 c.in_ok-pointer.ensures.line c.in_ok-pointer.ensures.read in
    let padded = took at4 (one_of 2) c.number-4.ensures.number c.in_ok-padded.was in
    let at5 = next at4 c.in_ok-padded.ensures.line c.in_ok-padded.ensures.read in
    let sparse = took at5 integer32 c.number-5.ensures.number c.in_ok-sparse.was in
    let at6 = next at5 c.in_ok-sparse.ensures.line c.in_ok-sparse.ensures.read in
    let no = fails at6 (λ p. count_of (list_of (number_in c.dim_width.result) p)) c.list.ensures.list c.in_err-rank.was c.from_residual-in_err-rank.ensures.1 in
    no.1 ∙ type_dims _ form kind pointer padded sparse _ c.dim_width.ensures no.0

pub returns : goal.returns
returns c =
    let at1 = first c.new-rest.ensures.line c.new-rest.ensures.read in
    let form = took at1 (one_of 7) c.number.ensures.number c.in_ok-form.was in
    let at2 = next at1 c.in_ok-form.ensures.line c.in_ok-form.ensures.read in
    let kind = took at2 (one_of 16) c.number-2.ensures.number c.in_ok-kind.was in
    let at3 = next at2 c.in_ok-kind.ensures.line c.in_ok-kind.ensures.read in
    let pointer = took at3 id32 c.number-3.ensures.number c.in_ok-pointer.was in
    let at4 = next at3 c.in_ok-pointer.ensures.line c.in_ok-pointer.ensures.read in
    let padded = took at4 (one_of 2) c.number-4.ensures.number c.in_ok-padded.was in
    let at5 = next at4 c.in_ok-padded.ensures.line c.in_ok-padded.ensures.read in
    let sparse = took at5 integer32 c.number-5.ensures.number c.in_ok-sparse.was in
    let at6 = next at5 c.in_ok-sparse.ensures.line c.in_ok-sparse.ensures.read in
    let rank = took at6 (λ p. count_of (list_of (number_in c.dim_width.result) p)) c.list.ensures.list c.in_ok-rank.was in
    type_row _ form kind pointer padded sparse _ c.dim_width.ensures _ _ rank (c.list.ensures.written ∙ ap (λ (p : List ℕ). sets (replicate 8 0) 0 (good_of (number_in c.dim_width.result) p)) (there at6 refl))
