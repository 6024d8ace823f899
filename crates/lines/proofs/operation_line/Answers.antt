-- `operation_line` meets its contract: each list stands after the one before.
use Prim.Native.Nat.{ℕ}
use mathlib.Core.List.{List, [], ◌∷◌}
use mathlib.Core.Path.{◌≡◌, refl, ◌∙◌, ap}
use native.Mathlib.Omega.{arith}
use lib.Seq.{sets}
use Rattle.fields.specs.Cut.{split, nth}
use Rattle.lines.specs.Field.{one_of, id32, list_of}
use Rattle.lines.specs.Line.{operation_line}
use Rattle.lines.specs.Into.{count_of, good_of}
use Rattle.lines.proofs.Lists.{uncounted, counted}
use Rattle.lines.proofs.Several.{lists_one, lists_stop, lists_go, operation_none, operation_left}
use Rattle.lines.proofs.Walk.{first, next, there, took, fails}
use Rattle.lines.proofs.operation_line.Goals as goal

pub returns-in_err-opcode : goal.returns-in_err-opcode
unfolding operation_line
returns-in_err-opcode c =
    let fs = split 9 c.args.line.now in
    let at1 = first c.new-rest.ensures.line c.new-rest.ensures.read in
    let no = fails at1 (one_of 105) c.number.ensures.number c.in_err-opcode.was c.from_residual.ensures.1 in
    operation_none _ _ _ _ _ no.0 (rw no.0 no.1) refl

pub returns-in_err-results : goal.returns-in_err-results
unfolding operation_line
returns-in_err-results c =
    let fs = split 9 c.args.line.now in
    let at1 = first c.new-rest.ensures.line c.new-rest.ensures.read in
    let opcode = took at1 (one_of 105) c.number.ensures.number c.in_ok-opcode.was in
    let at2 = next at1 c.in_ok-opcode.ensures.line c.in_ok-opcode.ensures.read in
    let written2 : c.list.new.l ≡ sets c.args.l.now c.args.at (good_of id32 (nth 2 fs)) = c.list.ensures.written ∙ ap (λ (p : List ℕ). sets c.args.l.now c.args.at (good_of id32 p)) (there at2 refl) in
    let no = fails at2 (λ p. count_of (list_of id32 p)) c.list.ensures.list c.in_err-results.was c.from_residual-in_err-results.ensures.1 in
    let none = uncounted _ no.0 in
    operation_left _ _ _ _ _ _ opcode (rw (opcode, none) no.1)
    (lists_stop id32 c.args.at _ (nth 3 fs ∷ nth 4 fs ∷ []) c.args.l.now c.list.new.l written2 none)

pub returns-in_err-operands : goal.returns-in_err-operands
unfolding operation_line
returns-in_err-operands c =
    let fs = split 9 c.args.line.now in
    let at1 = first c.new-rest.ensures.line c.new-rest.ensures.read in
    let opcode = took at1 (one_of 105) c.number.ensures.number c.in_ok-opcode.was in
    let at2 = next at1 c.in_ok-opcode.ensures.line c.in_ok-opcode.ensures.read in
    let written2 : c.list.new.l ≡ sets c.args.l.now c.args.at (good_of id32 (nth 2 fs)) = c.list.ensures.written ∙ ap (λ (p : List ℕ). sets c.args.l.now c.args.at (good_of id32 p)) (there at2 refl) in
    let many2 = took at2 (λ p. count_of (list_of id32 p)) c.list.ensures.list c.in_ok-results.was in
    let results = counted _ _ many2 in
    let at3 = next at2 c.in_ok-results.ensures.line c.in_ok-results.ensures.read in
    let written3 : c.list-2.new.l ≡ sets c.list.new.l c.saturating_add-second.result (good_of id32 (nth 3 fs)) = c.list-2.ensures.written ∙ ap (λ (p : List ℕ). sets c.list.new.l c.saturating_add-second.result (good_of id32 p)) (there at3 refl) in
    let no = fails at3 (λ p. count_of (list_of id32 p)) c.list-2.ensures.list c.in_err-operands.was c.from_residual-in_err-operands.ensures.1 in
    let none = uncounted _ no.0 in
    operation_left _ _ _ _ _ _ opcode (rw (opcode, results.1, none) no.1)
    (lists_go id32 c.args.at _ (nth 3 fs ∷ nth 4 fs ∷ []) c.args.l.now c.list.new.l written2 _ many2 _ _ (omega arith) c.saturating_add-second.ensures _
    (lists_stop id32 c.saturating_add-second.result _ (nth 4 fs ∷ []) c.list.new.l c.list-2.new.l written3 none))

pub returns-in_err-regions : goal.returns-in_err-regions
unfolding operation_line
returns-in_err-regions c =
    let fs = split 9 c.args.line.now in
    let at1 = first c.new-rest.ensures.line c.new-rest.ensures.read in
    let opcode = took at1 (one_of 105) c.number.ensures.number c.in_ok-opcode.was in
    let at2 = next at1 c.in_ok-opcode.ensures.line c.in_ok-opcode.ensures.read in
    let written2 : c.list.new.l ≡ sets c.args.l.now c.args.at (good_of id32 (nth 2 fs)) = c.list.ensures.written ∙ ap (λ (p : List ℕ). sets c.args.l.now c.args.at (good_of id32 p)) (there at2 refl) in
    let many2 = took at2 (λ p. count_of (list_of id32 p)) c.list.ensures.list c.in_ok-results.was in
    let results = counted _ _ many2 in
    let at3 = next at2 c.in_ok-results.ensures.line c.in_ok-results.ensures.read in
    let written3 : c.list-2.new.l ≡ sets c.list.new.l c.saturating_add-second.result (good_of id32 (nth 3 fs)) = c.list-2.ensures.written ∙ ap (λ (p : List ℕ). sets c.list.new.l c.saturating_add-second.result (good_of id32 p)) (there at3 refl) in
    let many3 = took at3 (λ p. count_of (list_of id32 p)) c.list-2.ensures.list c.in_ok-operands.was in
    let operands = counted _ _ many3 in
    let at4 = next at3 c.in_ok-operands.ensures.line c.in_ok-operands.ensures.read in
    let written4 : c.list-3.new.l ≡ sets c.list-2.new.l c.saturating_add-third.result (good_of id32 (nth 4 fs)) = c.list-3.ensures.written ∙ ap (λ (p : List ℕ). sets c.list-2.new.l c.saturating_add-third.result (good_of id32 p)) (there at4 refl) in
    let no = fails at4 (λ p. count_of (list_of id32 p)) c.list-3.ensures.list c.in_err-regions.was c.from_residual-in_err-regions.ensures.1 in
    let none = uncounted _ no.0 in
    operation_left _ _ _ _ _ _ opcode (rw (opcode, results.1, operands.1, none) no.1)
    (lists_go id32 c.args.at _ (nth 3 fs ∷ nth 4 fs ∷ []) c.args.l.now c.list.new.l written2 _ many2 _ _ (omega arith) c.saturating_add-second.ensures _
    (lists_go id32 c.saturating_add-second.result _ (nth 4 fs ∷ []) c.list.new.l c.list-2.new.l written3 _ many3 _ _ (omega arith) c.saturating_add-third.ensures _
    (lists_stop id32 c.saturating_add-third.result _ [] c.list-2.new.l c.list-3.new.l written4 none)))

pub returns : goal.returns
unfolding operation_line
returns c =
    let fs = split 9 c.args.line.now in
    let at1 = first c.new-rest.ensures.line c.new-rest.ensures.read in
    let opcode = took at1 (one_of 105) c.number.ensures.number c.in_ok-opcode.was in
    let at2 = next at1 c.in_ok-opcode.ensures.line c.in_ok-opcode.ensures.read in
    let written2 : c.list.new.l ≡ sets c.args.l.now c.args.at (good_of id32 (nth 2 fs)) = c.list.ensures.written ∙ ap (λ (p : List ℕ). sets c.args.l.now c.args.at (good_of id32 p)) (there at2 refl) in
    let many2 = took at2 (λ p. count_of (list_of id32 p)) c.list.ensures.list c.in_ok-results.was in
    let results = counted _ _ many2 in
    let at3 = next at2 c.in_ok-results.ensures.line c.in_ok-results.ensures.read in
    let written3 : c.list-2.new.l ≡ sets c.list.new.l c.saturating_add-second.result (good_of id32 (nth 3 fs)) = c.list-2.ensures.written ∙ ap (λ (p : List ℕ). sets c.list.new.l c.saturating_add-second.result (good_of id32 p)) (there at3 refl) in
    let many3 = took at3 (λ p. count_of (list_of id32 p)) c.list-2.ensures.list c.in_ok-operands.was in
    let operands = counted _ _ many3 in
    let at4 = next at3 c.in_ok-operands.ensures.line c.in_ok-operands.ensures.read in
    let written4 : c.list-3.new.l ≡ sets c.list-2.new.l c.saturating_add-third.result (good_of id32 (nth 4 fs)) = c.list-3.ensures.written ∙ ap (λ (p : List ℕ). sets c.list-2.new.l c.saturating_add-third.result (good_of id32 p)) (there at4 refl) in
    let regions = counted _ _ (took at4 (λ p. count_of (list_of id32 p)) c.list-3.ensures.list c.in_ok-regions.was) in
    operation_left _ _ _ _ _ _ opcode (rw (opcode, results.1, operands.1, regions.1, results.2, operands.2, regions.2))
    (lists_go id32 c.args.at _ (nth 3 fs ∷ nth 4 fs ∷ []) c.args.l.now c.list.new.l written2 _ many2 _ _ (omega arith) c.saturating_add-second.ensures _
    (lists_go id32 c.saturating_add-second.result _ (nth 4 fs ∷ []) c.list.new.l c.list-2.new.l written3 _ many3 _ _ (omega arith) c.saturating_add-third.ensures _
    (written4 ∙ ap (sets c.list-2.new.l c.saturating_add-third.result) (lists_one id32 (nth 4 fs)))))
