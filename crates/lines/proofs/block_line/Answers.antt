-- `block_line` meets its contract: the second list stands after the first.
use Prim.Native.Nat.{ℕ}
use mathlib.Core.List.{List, [], ◌∷◌}
use mathlib.Core.Path.{refl, ◌∙◌, ap}
use native.Mathlib.Omega.{arith}
use lib.Seq.{sets}
use Rattle.fields.specs.Cut.{split, nth}
use Rattle.lines.specs.Field.{id32, list_of}
use Rattle.lines.specs.Line.{block_line}
use Rattle.lines.specs.Into.{count_of, good_of}
use Rattle.lines.proofs.Lists.{uncounted, counted}
use Rattle.lines.proofs.Several.{lists_one, lists_stop, lists_go, block_left}
use Rattle.lines.proofs.Walk.{first, next, there, took, fails}
use Rattle.lines.proofs.block_line.Goals as goal

pub returns-in_err-arguments : goal.returns-in_err-arguments
unfolding block_line
returns-in_err-arguments c =
    let at1 = first c.new-rest.ensures.line c.new-rest.ensures.read in
    let no = fails at1 (λ p. count_of (list_of id32 p)) c.list.ensures.list c.in_err-arguments.was c.from_residual.ensures.1 in
    let none = uncounted _ no.0 in
    block_left _ _ _ _ _ (rw none no.1)
    (lists_stop id32 c.args.at _ (nth 2 (split 9 c.args.line.now) ∷ []) c.args.l.now c.list.new.l (c.list.ensures.written ∙ ap (λ (p : List ℕ). sets c.args.l.now c.args.at (good_of id32 p)) (there at1 refl)) none)

pub returns-in_err-operations : goal.returns-in_err-operations
unfolding block_line
returns-in_err-operations c =
    let at1 = first c.new-rest.ensures.line c.new-rest.ensures.read in
    let many = took at1 (λ p. count_of (list_of id32 p)) c.list.ensures.list c.in_ok-arguments.was in
    let arguments = counted _ _ many in
    let at2 = next at1 c.in_ok-arguments.ensures.line c.in_ok-arguments.ensures.read in
    let no = fails at2 (λ p. count_of (list_of id32 p)) c.list-2.ensures.list c.in_err-operations.was c.from_residual-in_err-operations.ensures.1 in
    let none = uncounted _ no.0 in
    let last = lists_stop id32 _ _ [] c.list.new.l c.list-2.new.l (c.list-2.ensures.written ∙ ap (λ (p : List ℕ). sets c.list.new.l c.saturating_add-second.result (good_of id32 p)) (there at2 refl)) none in
    block_left _ _ _ _ _ (rw (arguments.1, none) no.1)
    (lists_go id32 c.args.at _ (nth 2 (split 9 c.args.line.now) ∷ []) c.args.l.now c.list.new.l (c.list.ensures.written ∙ ap (λ (p : List ℕ). sets c.args.l.now c.args.at (good_of id32 p)) (there at1 refl)) _ many _ _ (omega arith) c.saturating_add-second.ensures _ last)

pub returns : goal.returns
unfolding block_line
returns c =
    let at1 = first c.new-rest.ensures.line c.new-rest.ensures.read in
    let many = took at1 (λ p. count_of (list_of id32 p)) c.list.ensures.list c.in_ok-arguments.was in
    let arguments = counted _ _ many in
    let at2 = next at1 c.in_ok-arguments.ensures.line c.in_ok-arguments.ensures.read in
    let operations = counted _ _ (took at2 (λ p. count_of (list_of id32 p)) c.list-2.ensures.list c.in_ok-operations.was) in
    let last = (c.list-2.ensures.written ∙ ap (λ (p : List ℕ). sets c.list.new.l c.saturating_add-second.result (good_of id32 p)) (there at2 refl)) ∙ ap (sets c.list.new.l c.saturating_add-second.result) (lists_one id32 _) in
    block_left _ _ _ _ _ (rw (arguments.1, operations.1, arguments.2, operations.2))
    (lists_go id32 c.args.at _ (nth 2 (split 9 c.args.line.now) ∷ []) c.args.l.now c.list.new.l (c.list.ensures.written ∙ ap (λ (p : List ℕ). sets c.args.l.now c.args.at (good_of id32 p)) (there at1 refl)) _ many _ _ (omega arith) c.saturating_add-second.ensures _ last)
