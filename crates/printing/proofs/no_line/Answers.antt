-- `no_line` meets its contract.
use mathlib.Core.Path.{◌≡◌, sym, ap, ◌∙◌}
use mathlib.Core.List.{[], ◌∷◌, ◌++◌}
use Rattle.printing.specs.Laid.{State, state, pushed, laid}
use Rattle.printing.specs.Lines.{decimal, no_line}
use Rattle.printing.proofs.Laws.{laid_append, counted}
use Rattle.printing.proofs.no_line.Goals as goal

pub returns : goal.returns
unfolding no_line laid
returns c =
    let z = c.args.out.now in
    let n = c.args.n in
    let t3 = (9 ∷ decimal n.detail) ++ (10 ∷ []) in
    let t2 = (9 ∷ decimal n.id) ++ t3 in
    let s0 = pushed (pushed (state 0 z) 110) 111 in
    let s1 = laid (9 ∷ decimal n.code) s0 in
    let s2 = laid (9 ∷ decimal n.id) s1 in
    let e0 : state c.push-tagged.result c.push-tagged.new.out ≡ s0 =
    c.push-tagged.ensures ∙ ap (λ (x : State). pushed x 111) c.push-first.ensures in
    let e1 : state c.push_marked-code.result c.push_marked-code.new.out ≡ s1 =
    c.push_marked-code.ensures ∙ ap (λ (x : State). laid (9 ∷ decimal n.code) x) e0 in
    let e2 : state c.push_marked-id.result c.push_marked-id.new.out ≡ s2 =
    c.push_marked-id.ensures ∙ ap (λ (x : State). laid (9 ∷ decimal n.id) x) e1 in
    let e3 : state c.push_marked-detail.result c.push_marked-detail.new.out ≡ laid (9 ∷ decimal n.detail) s2 =
    c.push_marked-detail.ensures ∙ ap (λ (x : State). laid (9 ∷ decimal n.detail) x) e2 in
    let e : state c.push.result c.push.new.out ≡ laid (no_line n) (state 0 z) =
    c.push.ensures
    ∙ ap (λ (x : State). pushed x 10) e3
    ∙ sym (laid_append (9 ∷ decimal n.code) t2 s0
    ∙ laid_append (9 ∷ decimal n.id) t3 s1
    ∙ laid_append (9 ∷ decimal n.detail) (10 ∷ []) s2) in
    record { laid = e; room = counted (no_line n) c.push.result c.push.new.out z e }
