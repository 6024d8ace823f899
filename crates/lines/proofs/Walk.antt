-- A line walked field by field: where the cursor stands, and what the field there says.
use Prim.Native.Nat.{ℕ, ◌+◌}
use mathlib.Core.Path.{◌≡◌, refl, ◌∙◌, ap}
use Rattle.std.specs.Prelude.{List, Option, Some, None, Result, Ok, Err}
use Rattle.std.specs.Borrow.{Bor}
use Rattle.std.specs.Option.{ok_or}
use Rattle.std.specs.Result.{IsErrAnd}
use Rattle.std.proofs.lemmas.Result.{err_from_is_err_and}
use Rattle.fields.specs.Cut.{split, nth}
use Rattle.lines.specs.Answer.{bad_field}
use Rattle.lines.specs.declared.BadField.{BadField}
use Rattle.lines.proofs.Kept.{got, missed}

-- a `?` hands up the field
pub hands_up : {A : Type 0} {b e : BadField} {r : Result A BadField} → IsErrAnd r (λ y. y ≡ b) → b ≡ e → r ≡ Err e
hands_up {r = r} up h = let e = err_from_is_err_and r up in e.1 ∙ ap Err (e.2 ∙ h)

-- k fields of the text s are read
pub record At (s : List ℕ) (k : ℕ) (line : Bor (List ℕ)) (read : ℕ) : Type 0 where
  pub text : line.now ≡ s
  pub count : read ≡ k

pub first : {line l : Bor (List ℕ)} {read : ℕ} → l ≡ line → read ≡ 1 → At line.now 1 l read
first e r = record { text = ap (λ (x : Bor (List ℕ)). x.now) e; count = r }

module _ {s : List ℕ} {k : ℕ} {line : Bor (List ℕ)} {read : ℕ} (at : At s k line read) where
  pub next : {line' : Bor (List ℕ)} {read' : ℕ} → line' ≡ line → read' ≡ read + 1 → At s (k + 1) line' read'
  next e r = record { text = ap (λ (x : Bor (List ℕ)). x.now) e ∙ at.text; count = r ∙ ap (λ (i : ℕ). i + 1) at.count }

  pub there : {p : List ℕ} → p ≡ nth read (split 9 line.now) → p ≡ nth k (split 9 s)
  there e = e ∙ ap (λ (i : ℕ). nth i (split 9 line.now)) at.count ∙ ap (λ (t : List ℕ). nth k (split 9 t)) at.text

  module _ {A : Type 0} (f : List ℕ → Option A) {r : Result A BadField}
      (told : r ≡ ok_or (f (nth read (split 9 line.now))) (bad_field (read + 1))) where
    pub here : r ≡ ok_or (f (nth k (split 9 s))) (bad_field (k + 1))
    here =
        told ∙ ap (λ (p : List ℕ). ok_or (f p) (bad_field (read + 1))) (there refl)
        ∙ ap (λ (i : ℕ). ok_or (f (nth k (split 9 s))) (bad_field (i + 1))) at.count

    pub took : {n : A} → r ≡ Ok n → f (nth k (split 9 s)) ≡ Some n
    took {n} h = got (f (nth k (split 9 s))) (bad_field (k + 1)) r here n h

    -- nothing was read, and the `?` hands up the field
    pub fails : {B : Type 0} {b : BadField} {r' : Result B BadField} → r ≡ Err b → IsErrAnd r' (λ y. y ≡ b)
        → (f (nth k (split 9 s)) ≡ None) × (r' ≡ Err (bad_field (k + 1)))
    fails {b = b} {r' = r'} h up =
        let no = missed (f (nth k (split 9 s))) (bad_field (k + 1)) r here b h in
        (no.0, hands_up up no.1)
