-- How a cursor goes through the parts of a text, in one pass: the part at the cursor, the parts after it, and one byte on.
use Prim.Native.Nat.{ℕ, zero, suc, ◌+◌, ◌-◌, ◌≤◌, ◌<◌}
use mathlib.Core.Bool.{Bool, true, false, cond}
use mathlib.Core.List.{List, [], ◌∷◌}
use mathlib.Core.Path.{◌≡◌, refl, ◌∙◌, ap}
use native.Mathlib.Omega.{arith}
use native.Mathlib.Numerals.{add-one}
use lib.Dec.{eqb}
use lib.ListN.{length, get_or, take, drop, drop_of_length-le, length-drop}
use lib.Seq.{drop-cons, drop-drop, take_all, take-nil}
use borrow.Author.Tests.{eq-eqb, ne_eqb}
use Rattle.std.specs.List.{count_by}
use Rattle.std.proofs.lemmas.List.Recursion.{is_count_by}
use Rattle.fields.specs.Cut.{until, end_from, on_first, split, nth}

take_until : (b : ℕ) (xs : List ℕ) → take (length (until b xs)) xs ≡ until b xs
unfolding until
take_until b [] = refl
take_until b (x ∷ xs) = by (eqb x b) (take_until b xs)
  where
    by : (t : Bool) → take (length (until b xs)) xs ≡ until b xs
        → take (length (cond t [] (x ∷ until b xs))) (x ∷ xs) ≡ cond t [] (x ∷ until b xs)
    by true ih = refl
    by false ih = ap (λ (l : List ℕ). x ∷ l) ih

until_le : (b : ℕ) (xs : List ℕ) → length (until b xs) ≤ length xs
unfolding until
until_le b [] = omega arith
until_le b (x ∷ xs) = by (eqb x b) (until_le b xs)
  where
    by : (t : Bool) → length (until b xs) ≤ length xs → length (cond t [] (x ∷ until b xs)) ≤ length (x ∷ xs)
    by true ih = omega arith
    by false ih = omega arith

-- no b: one part
split_last : (b : ℕ) (xs : List ℕ) → length xs ≤ length (until b xs) → split b xs ≡ until b xs ∷ []
unfolding until split on_first
split_last b [] h = refl
split_last b (x ∷ xs) h = by (eqb x b) h (λ k. split_last b xs k)
  where
    by : (t : Bool) → length (x ∷ xs) ≤ length (cond t [] (x ∷ until b xs))
        → (length xs ≤ length (until b xs) → split b xs ≡ until b xs ∷ [])
        → cond t ([] ∷ split b xs) (on_first x (split b xs)) ≡ cond t [] (x ∷ until b xs) ∷ []
    by true h ih = absurd (omega arith)
    by false h ih = rw (ih (omega arith))

-- a b: the first part, and those of what stands after it
split_more : (b : ℕ) (xs : List ℕ) → length (until b xs) < length xs → split b xs ≡ until b xs ∷ split b (drop (suc (length (until b xs))) xs)
unfolding until split on_first
split_more b [] h = absurd (omega arith)
split_more b (x ∷ xs) h = by (eqb x b) h (λ k. split_more b xs k)
  where
    by : (t : Bool) → length (cond t [] (x ∷ until b xs)) < length (x ∷ xs)
        → (length (until b xs) < length xs → split b xs ≡ until b xs ∷ split b (drop (suc (length (until b xs))) xs))
        → cond t ([] ∷ split b xs) (on_first x (split b xs))
        ≡ cond t [] (x ∷ until b xs) ∷ split b (drop (suc (length (cond t [] (x ∷ until b xs)))) (x ∷ xs))
    by true h ih = refl
    by false h ih = rw (ih (omega arith))

-- whichever it is, the first part
pub split_cons : (b : ℕ) (xs : List ℕ) → (ps : List (List ℕ)) × (split b xs ≡ until b xs ∷ ps)
unfolding split until on_first
split_cons b [] = ([], refl)
split_cons b (x ∷ xs) = by (eqb x b) (split_cons b xs)
  where
    by : (t : Bool) → (ps : List (List ℕ)) × (split b xs ≡ until b xs ∷ ps)
        → (ps : List (List ℕ)) × (cond t ([] ∷ split b xs) (on_first x (split b xs)) ≡ cond t [] (x ∷ until b xs) ∷ ps)
    by true ih = (split b xs, refl)
    by false ih = (ih.0, rw ih.1)

-- ---- at a cursor p, with the end e that `find` gives

module _ (b p e : ℕ) (s : List ℕ) (h : p ≤ length s) (at : e ≡ end_from b p s) where
  end_is : e ≡ p + length (until b (drop p s))
  unfolding end_from
  end_is = at ∙ omega arith

  pub end_ge : p ≤ e
  end_ge = omega (arith, end_is)

  pub end_le : e ≤ length s
  end_le = omega (arith, end_is, until_le b (drop p s), length-drop p s)

  pub part_is : take (e - p) (drop p s) ≡ until b (drop p s)
  part_is =
      let k : e - p ≡ length (until b (drop p s)) = omega (arith, end_is) in
      rw k (take_until b (drop p s))

  pub at_last : length s ≤ e → split b (drop p s) ≡ take (e - p) (drop p s) ∷ []
  at_last k = split_last b (drop p s) (omega (arith, end_is, length-drop p s)) ∙ rw part_is

  pub at_more : e < length s → split b (drop p s) ≡ take (e - p) (drop p s) ∷ split b (drop (e + 1) s)
  at_more k =
      let n : p + suc (length (until b (drop p s))) ≡ e + 1 = omega (arith, end_is) in
      split_more b (drop p s) (omega (arith, end_is, length-drop p s))
      ∙ rw (part_is, drop-drop (suc (length (until b (drop p s)))) p s, n)

  pub at_any : (ps : List (List ℕ)) × (split b (drop p s) ≡ take (e - p) (drop p s) ∷ ps)
  at_any = ((split_cons b (drop p s)).0, (split_cons b (drop p s)).1 ∙ rw part_is)

-- ---- one byte on

some_parts : (b : ℕ) (xs : List ℕ) → 0 < length (split b xs)
some_parts b xs = rw (split_cons b xs).1 (omega arith)

first_keeps : (x : ℕ) (ps : List (List ℕ)) → 0 < length ps → length (on_first x ps) ≡ length ps
unfolding on_first
first_keeps x [] k = absurd (omega arith)
first_keeps x (q ∷ ps) k = refl

module _ (b i : ℕ) (s : List ℕ) (h : i < length s) where
  pub until_here : get_or s i 0 ≡ b → end_from b i s ≡ i
  unfolding end_from until
  until_here e = rw (drop-cons s i 0 h, eq-eqb (get_or s i 0) b e) (omega arith)

  pub until_next : (get_or s i 0 ≡ b → ⊥) → end_from b (i + 1) s ≡ end_from b i s
  unfolding end_from until
  until_next e = rw (drop-cons s i 0 h, ne_eqb (get_or s i 0) b e, add-one) (omega arith)

-- two, three and four bytes on
module _ (b i : ℕ) (s : List ℕ) (h : i + 1 < length s) (n : get_or s i 0 ≡ b → ⊥) (n₁ : get_or s (i + 1) 0 ≡ b → ⊥) where
  pub until_two : end_from b (i + 2) s ≡ end_from b i s
  until_two =
      let e : i + 2 ≡ i + 1 + 1 = omega arith in
      ap (λ (k : ℕ). end_from b k s) e ∙ until_next b (i + 1) s h n₁ ∙ until_next b i s (omega arith) n

  module _ (h₂ : i + 2 < length s) (n₂ : get_or s (i + 2) 0 ≡ b → ⊥) where
    pub until_three : end_from b (i + 3) s ≡ end_from b i s
    until_three =
        let e : i + 3 ≡ i + 2 + 1 = omega arith in
        ap (λ (k : ℕ). end_from b k s) e ∙ until_next b (i + 2) s h₂ n₂ ∙ until_two

    pub until_four : i + 3 < length s → (get_or s (i + 3) 0 ≡ b → ⊥) → end_from b (i + 4) s ≡ end_from b i s
    until_four h₃ n₃ =
        let e : i + 4 ≡ i + 3 + 1 = omega arith in
        ap (λ (k : ℕ). end_from b k s) e ∙ until_next b (i + 3) s h₃ n₃ ∙ until_three

module _ (b i : ℕ) (s : List ℕ) (h : length s ≤ i) where
  pub until_end : end_from b i s ≡ length s
  unfolding end_from until
  until_end = rw (drop_of_length-le s h) (omega arith)

-- one part more than there are b's
pub count_is : (b : ℕ) (s : List ℕ) → length (split b s) ≡ count_by (λ (x : ℕ). eqb x b) s + 1
unfolding split
count_is b s = omega (arith, is_count_by (λ (xs : List ℕ). length (split b xs) - 1) (λ (x : ℕ). eqb x b) refl (λ x xs. by (eqb x b) x xs) s, some_parts b s)
  where
    by : (t : Bool) (x : ℕ) (xs : List ℕ)
        → length (cond t ([] ∷ split b xs) (on_first x (split b xs))) - 1 ≡ cond t (1 + (length (split b xs) - 1)) (length (split b xs) - 1)
    by true x xs = omega (arith, some_parts b xs)
    by false x xs = ap (λ (n : ℕ). n - 1) (first_keeps x (split b xs) (some_parts b xs))

-- ---- the part at a place
module _ (q : List ℕ) (ps : List (List ℕ)) where
  pub nth_first : (k : ℕ) → k ≤ 0 → nth k (q ∷ ps) ≡ q
  unfolding nth
  nth_first zero h = refl
  nth_first (suc k) h = absurd (omega arith)

  pub nth_next : (k : ℕ) → 0 < k → nth k (q ∷ ps) ≡ nth (k - 1) ps
  unfolding nth
  nth_next zero h = absurd (omega arith)
  nth_next (suc k) h = let e : suc k - 1 ≡ k = omega arith in rw e

pub nth_none : (k : ℕ) → nth k [] ≡ []
unfolding nth
nth_none k = refl

nth_on_first : (x : ℕ) (ps : List (List ℕ)) → nth zero (on_first x ps) ≡ x ∷ nth zero ps
unfolding nth on_first
nth_on_first x [] = refl
nth_on_first x (q ∷ ps) = refl

nth_on_next : (x k : ℕ) (ps : List (List ℕ)) → nth (suc k) (on_first x ps) ≡ nth (suc k) ps
unfolding nth on_first
nth_on_next x k [] = refl
nth_on_next x k (q ∷ ps) = refl

-- a part is no longer than the whole
pub nth_le : (b : ℕ) (s : List ℕ) (k : ℕ) → length (nth k (split b s)) ≤ length s
unfolding nth split
nth_le b [] zero = omega arith
nth_le b [] (suc k) = omega arith
nth_le b (x ∷ s) k = by (eqb x b) k (λ j. nth_le b s j)
  where
    by : (t : Bool) (k : ℕ) → ((j : ℕ) → length (nth j (split b s)) ≤ length s)
        → length (nth k (cond t ([] ∷ split b s) (on_first x (split b s)))) ≤ length (x ∷ s)
    by true zero ih = omega arith
    by true (suc k) ih = let h = ih k in omega arith
    by false zero ih = let h = ih zero in rw nth_on_first (omega arith)
    by false (suc k) ih = let h = ih (suc k) in rw nth_on_next (omega arith)

-- ---- the bytes between two places
module _ (s : List ℕ) (a e : ℕ) where
  pub cut_past : length s ≤ a → take (e - a) (drop a s) ≡ []
  cut_past h = rw (drop_of_length-le s h) (take-nil (e - a))

  pub cut_none : e ≤ a → take (e - a) (drop a s) ≡ []
  cut_none h = let k : e - a ≡ 0 = omega arith in rw k

  pub cut_all : length s ≤ e → take (e - a) (drop a s) ≡ drop a s
  cut_all h = take_all (e - a) (drop a s) (omega (arith, length-drop a s))
