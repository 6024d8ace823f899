-- Tags that are none.
use Prim.Native.Nat.{ℕ}
use mathlib.Core.Bool.{Bool, true, false, ◌&&◌}
use mathlib.Core.List.{List, [], ◌∷◌}
use mathlib.Core.Path.{◌≡◌, refl}
use native.Mathlib.Omega.{arith}
use lib.ListN.{length, get_or}
use borrow.Author.Tests.{ne_eqb}
use Rattle.std.specs.Prelude.{None}
use Rattle.sheet.specs.Line.{tag_of}

and_false : (t : Bool) → t && false ≡ false
and_false true = refl
and_false false = refl

-- a text of another length than each tag's
pub no_tag : (s : List ℕ) → (length s ≡ 1 → ⊥) → (length s ≡ 5 → ⊥) → None ≡ tag_of s
no_tag [] h k = refl
no_tag (a ∷ []) h k = absurd (h refl)
no_tag (a ∷ b ∷ []) h k = simp and_false
no_tag (a ∷ b ∷ c ∷ []) h k = simp and_false
no_tag (a ∷ b ∷ c ∷ d ∷ []) h k = simp and_false
no_tag (a ∷ b ∷ c ∷ d ∷ e ∷ []) h k = absurd (k refl)
no_tag (a ∷ b ∷ c ∷ d ∷ e ∷ f ∷ s) h k = simp and_false

pub not_sheet : (s : List ℕ) → length s ≡ 5 → (get_or s 0 0 ≡ 115 → ⊥) → None ≡ tag_of s
not_sheet [] h k = absurd (omega arith)
not_sheet (a ∷ []) h k = absurd (omega arith)
not_sheet (a ∷ b ∷ []) h k = absurd (omega arith)
not_sheet (a ∷ b ∷ c ∷ []) h k = absurd (omega arith)
not_sheet (a ∷ b ∷ c ∷ d ∷ []) h k = absurd (omega arith)
not_sheet (a ∷ b ∷ c ∷ d ∷ e ∷ []) h k = rw (ne_eqb a 115 k) (simp and_false)
not_sheet (a ∷ b ∷ c ∷ d ∷ e ∷ f ∷ s) h k = absurd (omega arith)
