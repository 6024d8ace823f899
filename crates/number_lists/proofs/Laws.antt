-- The turns of looking at each function's list. Assumes nothing.
use Prim.Native.Nat.{ℕ, suc, ◌+◌, ◌-◌, ◌≤◌, ◌<◌, min}
use native.Mathlib.Omega.{arith}
use native.Mathlib.Numerals.{add-one}
use mathlib.Core.Path.{◌≡◌, refl, sym, ap, ◌∙◌}
use mathlib.Core.Bool.{Bool, true, false, cond}
use mathlib.Core.Logic.{⊎_elim}
use mathlib.Core.List.{List, [], ◌∷◌}
use lib.ListN.{length, take, drop, get_or, drop_of_length-le}
use lib.Seq.{drop-cons, take_all, take-length}
use Rattle.cells.proofs.Rows.{lt_or_ge, drop_min}
use Rattle.tables.specs.declared.Counts.{Counts}
use Rattle.tables.specs.Tables.{nest}
use Rattle.tables.specs.Answer.{Answer}
use Rattle.std.specs.Prelude.{Ok, Err}
use Rattle.tables.specs.declared.Refusal.{Refusal}
use Rattle.tables.specs.declared.Refusal.TheVariants.{NotReadable}
use Rattle.nesting_check.specs.Checks.{nesting_checks}
use Rattle.read_back.specs.Alone.{Outcome, outcome, after_checks, read_back_alone}
use Rattle.number_lists.specs.Lists.{fits, all_fit, parted, read_lists}

-- a part of a list, its length cut at what is there
take_min : (k : ℕ) (xs : List ℕ) → take (min k (length xs)) xs ≡ take k xs
take_min k xs = ⊎_elim
    (λ h. let e : min k (length xs) ≡ k = omega arith in ap (λ (j : ℕ). take j xs) e)
    (λ h. let e : min k (length xs) ≡ length xs = omega arith in ap (λ (j : ℕ). take j xs) e ∙ take-length xs ∙ sym (take_all k xs h))
    (lt_or_ge k (length xs))

module _ (o b r l : List ℕ) (n : Counts) where
  no_length : (f numbers : List ℕ) → all_fit o b r f l n [] numbers ≡ true
  unfolding all_fit
  no_length [] numbers = refl
  no_length (x ∷ f) numbers = refl

  -- no function is left, or no length
  pub none_left : (i : ℕ) (f lengths numbers : List ℕ) → min (length f) (length lengths) ≤ i → all_fit o b r (drop i f) l n (drop i lengths) numbers ≡ true
  unfolding all_fit
  none_left i f lengths numbers h = ⊎_elim
      (λ k. ap (λ (z : List ℕ). all_fit o b r (drop i f) l n z numbers) (drop_of_length-le lengths (omega arith)) ∙ no_length (drop i f) numbers)
      (λ k. ap (λ (z : List ℕ). all_fit o b r z l n (drop i lengths) numbers) (drop_of_length-le f k))
      (lt_or_ge i (length f))

  -- the next function, with m of the numbers that are left
  pub next_list : (i m : ℕ) (f lengths xs : List ℕ) → i < length f → i < length lengths → m ≡ min (length xs) (get_or lengths i 0) →
      all_fit o b r (drop i f) l n (drop i lengths) xs
      ≡ cond (fits o b r (drop i f) l n (take m xs)) (all_fit o b r (drop (i + 1) f) l n (drop (i + 1) lengths) (drop m xs)) false
  unfolding all_fit
  next_list i m f lengths xs hf hl e =
      let k = get_or lengths i 0 in
      let cut : m ≡ min k (length xs) = omega arith in
      let head : take k xs ≡ take m xs = sym (ap (λ (j : ℕ). take j xs) cut ∙ take_min k xs) in
      let tail : drop k xs ≡ drop m xs = sym (ap (λ (j : ℕ). drop j xs) cut ∙ drop_min xs k) in
      ap (λ (z : List ℕ). all_fit o b r z l n (drop i lengths) xs) (drop-cons f i 0 hf)
      ∙ ap (λ (z : List ℕ). all_fit o b r (get_or f i 0 ∷ drop (suc i) f) l n z xs) (drop-cons lengths i 0 hl)
      ∙ ap (λ (z : List ℕ). cond (fits o b r z l n (take k xs)) (all_fit o b r (drop (suc i) f) l n (drop (suc i) lengths) (drop k xs)) false) (sym (drop-cons f i 0 hf))
      ∙ ap (λ (z : List ℕ). cond (fits o b r (drop i f) l n z) (all_fit o b r (drop (suc i) f) l n (drop (suc i) lengths) (drop k xs)) false) head
      ∙ ap (λ (z : List ℕ). cond (fits o b r (drop i f) l n (take m xs)) (all_fit o b r (drop (suc i) f) l n (drop (suc i) lengths) z) false) tail
      ∙ ap (λ (j : ℕ). cond (fits o b r (drop i f) l n (take m xs)) (all_fit o b r (drop j f) l n (drop j lengths) (drop m xs)) false) (sym (add-one i))

-- from the checks to the answer
module _ (o b r f l : List ℕ) (n : Counts) (numbers lengths held : List ℕ) (a : Answer) (e : a ≡ nesting_checks (nest o b r f l n)) where
  rest : Bool → Outcome
  rest z = cond z (read_back_alone (nest o b r f l n) numbers held) (outcome (Err (NotReadable 0 0)) held)

  pub checks_stop : {why : Refusal} → a ≡ Err why → outcome (Err why) held ≡ read_lists o b r f l n numbers lengths held
  unfolding read_lists rest
  checks_stop q = ap (λ (z : Answer). after_checks z (rest (parted o b r f l n numbers lengths)) held) (sym q ∙ e)

  module _ (p : a ≡ Ok tt) where
    passed_on : rest (parted o b r f l n numbers lengths) ≡ read_lists o b r f l n numbers lengths held
    unfolding read_lists rest
    passed_on = ap (λ (z : Answer). after_checks z (rest (parted o b r f l n numbers lengths)) held) (sym p ∙ e)

    pub lengths_stop : parted o b r f l n numbers lengths ≡ false → outcome (Err (NotReadable 0 0)) held ≡ read_lists o b r f l n numbers lengths held
    unfolding rest
    lengths_stop q = sym (ap rest q) ∙ passed_on

    pub all_read : parted o b r f l n numbers lengths ≡ true → read_back_alone (nest o b r f l n) numbers held ≡ read_lists o b r f l n numbers lengths held
    unfolding rest
    all_read q = sym (ap rest q) ∙ passed_on
