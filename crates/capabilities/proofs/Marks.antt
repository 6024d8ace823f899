-- What marked kinds tell: a target that has a feature has it whatever operation asks. Assumes nothing.
use Prim.Native.Nat.{ℕ}
use native.Mathlib.Omega.{arith}
use mathlib.Core.Path.{◌≡◌, refl, sym, ap, ◌∙◌}
use mathlib.Core.Bool.{Bool, true, false}
use mathlib.Core.List.{List}
use lib.Dec.{eqb}
use lib.ListN.{length, get_or, set}
use lib.Seq.{get_or-set_same, get_or-set_other, set_out}
use borrow.Author.Tests.{eqb-true, eqb-false}
use Rattle.std.specs.Result.{is_ok}
use Rattle.tables.specs.Answer.{Answer}
use Rattle.std.specs.Prelude.{Ok, Option, Some, None, Result, Err, ⊤}
use Rattle.tables.specs.declared.Target.{Target}
use Rattle.requirements.specs.Feature.{requirement_of}
use Rattle.requirements.specs.Met.{met_by}
use Rattle.requirements.specs.Kind.{kind_feature}
use Rattle.requirements.specs.declared.Unmet.{Unmet}
use Rattle.requirements.specs.declared.Unmet.TheVariants.{VersionLow, ArchitectureNot}
use Rattle.cells.proofs.Rows.{lt_or_ge}
use mathlib.Core.Logic.{⊎_elim}
use Rattle.capabilities.specs.Ask.{answered, ask}
use Rattle.capabilities.specs.Part.{Knows}

impossible {ℓ} : {X : Type ℓ} → ◌≡◌ {A = ℕ} 0 1 → X
impossible e = absurd (omega arith)

untrue {ℓ} : {X : Type ℓ} → false ≡ true → X
untrue e = impossible (cc)

has_it : (i j f : ℕ) (m : Result ⊤ Unmet) → answered i f m ≡ Ok tt → answered j f m ≡ Ok tt
has_it i j f (Ok tt) e = refl
has_it i j f (Err VersionLow) e = impossible (cc)
has_it i j f (Err ArchitectureNot) e = impossible (cc)

pub any_operation : (g : Target) (i j : ℕ) (a : Option ℕ) → ask g i a ≡ Ok tt → ask g j a ≡ Ok tt
unfolding ask
any_operation g i j None e = refl
any_operation g i j (Some f) e = has_it i j f (met_by (requirement_of f) g.version g.sm) e

pub accepted : (a : Answer) → is_ok a ≡ true → a ≡ Ok tt
accepted (Ok _) e = refl
accepted (Err r) e = untrue e

-- a mark, where there is one, is true
pub marked : (g : Target) (kinds : List Bool) (k : ℕ) (mark : Bool) → (mark ≡ true → ask g 0 (kind_feature k) ≡ Ok tt) → Knows g kinds → Knows g (set kinds k mark)
marked g kinds k mark h know j i q = by (eqb j k) refl
  where
    here : j ≡ k → ask g i (kind_feature j) ≡ Ok tt
    here e = ⊎_elim
        (λ l. rw e (any_operation g 0 i (kind_feature k) (h (sym (get_or-set_same kinds k mark false l) ∙ ap (λ (n : ℕ). get_or (set kinds k mark) n false) (sym e) ∙ q))))
        (λ l. know j i (ap (λ (xs : List Bool). get_or xs j false) (sym (set_out kinds k mark l)) ∙ q))
        (lt_or_ge k (length kinds))

    by : (t : Bool) → eqb j k ≡ t → ask g i (kind_feature j) ≡ Ok tt
    by true e = here (eqb-true j k e)
    by false e = know j i (sym (get_or-set_other kinds k j mark false (eqb-false j k e)) ∙ q)
