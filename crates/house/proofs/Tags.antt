-- Tags that are none.
use Prim.Native.Nat.{ℕ}
use mathlib.Core.Bool.{Bool, true, false, ◌&&◌}
use mathlib.Core.List.{List, [], ◌∷◌}
use mathlib.Core.Path.{◌≡◌, refl}
use native.Mathlib.Omega.{arith}
use lib.ListN.{length, get_or}
use borrow.Author.Tests.{ne_eqb}
use Rattle.std.specs.Prelude.{None}
use Rattle.house.specs.House.{tag_of}
use Rattle.house.specs.Step.{kind_at}

and_false : (t : Bool) → t && false ≡ false
and_false true = refl
and_false false = refl

-- a text of another length than each tag's
pub no_tag : (s : List ℕ) → (length s ≡ 1 → ⊥) → (length s ≡ 4 → ⊥) → None ≡ kind_at (tag_of s)
no_tag [] h k = refl
no_tag (a ∷ []) h k = absurd (h refl)
no_tag (a ∷ b ∷ []) h k = simp and_false
no_tag (a ∷ b ∷ c ∷ []) h k = simp and_false
no_tag (a ∷ b ∷ c ∷ d ∷ []) h k = absurd (k refl)
no_tag (a ∷ b ∷ c ∷ d ∷ e ∷ s) h k = simp and_false

pub not_tile : (s : List ℕ) → length s ≡ 4 → (get_or s 0 0 ≡ 116 → ⊥) → None ≡ kind_at (tag_of s)
not_tile [] h k = absurd (omega arith)
not_tile (a ∷ []) h k = absurd (omega arith)
not_tile (a ∷ b ∷ []) h k = absurd (omega arith)
not_tile (a ∷ b ∷ c ∷ []) h k = absurd (omega arith)
not_tile (a ∷ b ∷ c ∷ d ∷ []) h k = rw (ne_eqb a 116 k) (simp and_false)
not_tile (a ∷ b ∷ c ∷ d ∷ e ∷ s) h k = absurd (omega arith)
