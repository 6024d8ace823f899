-- Answers in turn: of two the first that refuses, and along a list by what is left; over the question and the list. Assumes nothing.
use Prim.Native.Nat.{ℕ, ◌+◌, ◌≤◌, ◌<◌}
use native.Mathlib.Omega.{arith}
use mathlib.Core.Path.{◌≡◌, refl, sym, ap, ◌∙◌}
use mathlib.Core.List.{List, [], ◌∷◌}
use lib.ListN.{length, get_or, drop}
use Rattle.cells.proofs.Parts.{left_step, left_end}
use Rattle.std.specs.Prelude.{Ok, Err}
use Rattle.tables.specs.Answer.{Answer, and_then, each}
use Rattle.tables.specs.declared.Refusal.{Refusal}

-- `a` is what the code was answered, `first` what a definition says it is
module _ (a first rest : Answer) (e : a ≡ first) where
  pub ends : {r : Refusal} → a ≡ Err r → Err r ≡ and_then first rest
  ends q = ap (λ (x : Answer). and_then x rest) (sym q ∙ e)

  pub goes_on : a ≡ Ok tt → rest ≡ and_then first rest
  goes_on q = ap (λ (x : Answer). and_then x rest) (sym q ∙ e)

pub both_accept : (first rest : Answer) → and_then first rest ≡ Ok tt → (first ≡ Ok tt) × (rest ≡ Ok tt)
both_accept (Ok _) rest e = (refl, e)
both_accept (Err r) rest e = absurd (let z : ◌≡◌ {A = ℕ} 0 1 = cc in omega arith)

pub then_accepts : {first rest : Answer} → first ≡ Ok tt → rest ≡ Ok tt → and_then first rest ≡ Ok tt
then_accepts e q = rw (e, q)

-- f is asked of each entry of xs, and i of them are passed; d is read past the end
module _ {A : Type 0} (f : A → Answer) (xs : List A) (d : A) where
  abbrev pub EachLeft : ℕ → Type 0
  EachLeft i = (i ≤ length xs) × (each f xs ≡ each f (drop i xs))

  pub each_start : EachLeft 0
  each_start = (omega arith, refl)

  module _ (i : ℕ) (inv : EachLeft i) where
    module _ (h : i < length xs) (a : Answer) (e : a ≡ f (get_or xs i d)) where
      here : each f xs ≡ and_then (f (get_or xs i d)) (each f (drop (i + 1) xs))
      here = inv.1 ∙ ap (each f) (left_step xs i d h)

      pub each_step : a ≡ Ok tt → EachLeft (i + 1)
      each_step q = (omega arith, here ∙ sym (goes_on a _ _ e q))

      pub each_stop : {r : Refusal} → a ≡ Err r → Err r ≡ each f xs
      each_stop q = ends a _ _ e q ∙ sym here

    pub each_end : length xs ≤ i → Ok tt ≡ each f xs
    each_end h = sym (inv.1 ∙ ap (each f) (left_end xs i d h))

-- accepted along a list by one question, and so by another that accepts what the first does
pub each_accepts : {A : Type 0} (f g : A → Answer) → ((x : A) → f x ≡ Ok tt → g x ≡ Ok tt)
    → (xs : List A) → each f xs ≡ Ok tt → each g xs ≡ Ok tt
each_accepts f g h [] e = refl
each_accepts f g h (x ∷ xs) e =
    let p = both_accept (f x) (each f xs) e in
    then_accepts (h x p.0) (each_accepts f g h xs p.1)
