-- `name_number` meets its contract: the place found is that of the first name with the bytes.
use Rattle.std.proofs.Common.{◌≡◌, ◌∙◌, ap, sym, rules, tests, bytes_eq, Bor, List, ℕ}
use Rattle.std.proofs.lemmas.Iterator.{YieldsList-from_slice}
use Rattle.std.proofs.lemmas.Iterator.Search.{position_from_yields_List}
use Rattle.names.specs.Names.{names, number_of}
use Rattle.names.proofs.Bytes.{number_at, first_is}
use Rattle.names.proofs.name_number.Goals.{After-position}
use Rattle.names.proofs.name_number.Goals as goal

found : (c : After-position) → number_at c.position.result ≡ number_of c.args.name.now
unfolding names number_of
found c =
    let name = c.args.name.now in
    first_is (λ (n : Bor (List ℕ)). n.now) name c.iter.ensures.rest
    (position_from_yields_List (λ (n : Bor (List ℕ)). bytes_eq name n.now) _ _ c.position.result c.position.ensures.ran
    (YieldsList-from_slice _ c.iter.ensures.rest) (λ x b q k. search (rules, tests)))

pub returns-in-Some : goal.returns-in-Some
returns-in-Some c =
    sym (ap number_at c.in-Some.is) ∙ found (goal.at.returns-in-Some c).After-position

pub returns-in-None : goal.returns-in-None
returns-in-None c =
    sym (ap number_at c.in-None.is) ∙ found (goal.at.returns-in-None c).After-position
