-- What the check over texts leaves in its lent slices.
use Prim.Native.Nat.{ℕ}
use mathlib.Core.Path.{◌≡◌, refl, ap, ◌∙◌}
use mathlib.Core.List.{List}
use Rattle.std.specs.Prelude.{Result, Ok, Err}
use Rattle.tables.specs.declared.Refusal.{Refusal}
use Rattle.table_checks.specs.Checked.{answer_of}
use Rattle.text_check.specs.Texts.{Texts}
use Rattle.answers.specs.Noted.{told, noted}

pub texts_left : (out : List ℕ) {after : List ℕ} {w v : Texts} → w ≡ v → after ≡ noted (told w.said.answer) out
    → (w.tables ≡ v.tables) × ((w.sheet ≡ v.sheet) × ((w.said.numbers ≡ v.said.numbers) × ((w.said.lengths ≡ v.said.lengths)
    × (after ≡ noted (told v.said.answer) out))))
texts_left out q e = (
  ap (λ (z : Texts). z.tables) q,
  (
    ap (λ (z : Texts). z.sheet) q,
    (
      ap (λ (z : Texts). z.said.numbers) q,
      (ap (λ (z : Texts). z.said.lengths) q, e ∙ ap (λ (z : Texts). noted (told z.said.answer) out) q),
    ),
  ),
)

-- what is told of the table checks says nothing of how many operations they wrote
pub told_same : (w : Result ℕ Refusal) → told w ≡ told (answer_of w)
unfolding told
told_same (Ok m) = refl
told_same (Err r) = refl
