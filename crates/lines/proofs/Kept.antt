-- What a `?` after `ok_or` keeps and what it hands up.
use Prim.Native.Nat.{ℕ}
use mathlib.Core.Path.{◌≡◌, refl, sym, ◌∙◌, ap}
use native.Mathlib.Omega.{arith}
use Rattle.std.specs.Prelude.{Option, Some, None, Result, Ok, Err}
use Rattle.std.specs.Option.{ok_or}

pub impossible {ℓ} : {X : Type ℓ} → ◌≡◌ {A = ℕ} 0 1 → X
impossible e = absurd (omega arith)

module _ {A E : Type 0} (o : Option A) (e : E) (r : Result A E) (told : r ≡ ok_or o e) where
  pub got : (n : A) → r ≡ Ok n → o ≡ Some n
  got n h = by o (sym told ∙ h)
    where
      by : (o : Option A) → ok_or o e ≡ Ok n → o ≡ Some n
      by None h = impossible (cc)
      by (Some x) h = let same : x ≡ n = cc in ap Some same

  pub missed : (b : E) → r ≡ Err b → (o ≡ None) × (b ≡ e)
  missed b h = by o (sym told ∙ h)
    where
      by : (o : Option A) → ok_or o e ≡ Err b → (o ≡ None) × (b ≡ e)
      by None h = let same : b ≡ e = cc in (refl, same)
      by (Some x) h = impossible (cc)

  pub kept : (n : A) → o ≡ Some n → r ≡ Ok n
  kept n h = told ∙ ap (λ (x : Option A). ok_or x e) h

  pub refused : o ≡ None → r ≡ Err e
  refused h = told ∙ ap (λ (x : Option A). ok_or x e) h
