-- `push_line` meets its contract.
use mathlib.Core.Path.{◌≡◌, sym, ap, ◌∙◌}
use mathlib.Core.List.{[], ◌∷◌, ◌++◌}
use Rattle.printing.specs.Laid.{State, state, pushed, laid}
use Rattle.printing.specs.Lines.{decimal, parted, line}
use Rattle.printing.proofs.Laws.{laid_append}
use Rattle.printing.proofs.push_line.Goals as goal

pub returns : goal.returns
unfolding line laid
returns c =
    let a = c.args in
    let t = parted a.outer a.list.now in
    let s0 = pushed (state a.at a.out.now) a.letter in
    let s1 = laid (9 ∷ decimal a.position) s0 in
    let e1 : state c.push_marked-placed.result c.push_marked-placed.new.out ≡ s1 =
    c.push_marked-placed.ensures ∙ ap (λ (x : State). laid (9 ∷ decimal a.position) x) c.push-tagged.ensures in
    let e2 : state c.push-parted.result c.push-parted.new.out ≡ pushed s1 9 =
    c.push-parted.ensures ∙ ap (λ (x : State). pushed x 9) e1 in
    c.push.ensures
    ∙ ap (λ (x : State). pushed x 10) (c.push_list-listed.ensures ∙ ap (laid t) e2)
    ∙ sym (laid_append (9 ∷ decimal a.position) (9 ∷ (t ++ (10 ∷ []))) s0 ∙ laid_append t (10 ∷ []) (pushed s1 9))
