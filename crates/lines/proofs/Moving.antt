-- The fields of a line found one after the other: the place where a field starts, and what stands there.
use Rattle.std.specs.Prelude.{Option, Some, None}
use Prim.Native.Nat.{ℕ, zero, suc, ◌+◌, ◌-◌, ◌≤◌, ◌<◌}
use mathlib.Core.List.{List, [], ◌∷◌}
use mathlib.Core.Logic.{⊎_elim}
use mathlib.Core.Path.{◌≡◌, refl, sym, ◌∙◌, ap}
use native.Mathlib.Omega.{arith}
use native.Mathlib.Numerals.{add-one}
use lib.ListN.{length, take, drop, drop_of_length-le}
use lib.Seq.{take-nil}
use Rattle.cells.proofs.Rows.{lt_or_ge}
use Rattle.fields.specs.Cut.{until, end_from, split, nth}
use Rattle.fields.specs.Number.{unsigned_of, signed_of}
use Rattle.fields.specs.Taken.{part_from, took, taken, unsigned_from, signed_from}
use Rattle.fields.specs.declared.Taken.{Taken}
use Rattle.lines.specs.Place.{field_start}
use Rattle.fields.proofs.Parts.{split_cons, end_le, part_is, at_last, at_more, until_end}
use Rattle.fields.proofs.Takes.{taken_bad, taken_is}

-- ---- what is taken of each width
module _ (b max p : ℕ) (s : List ℕ) where
  pub unsigned_taken : unsigned_from b max p s ≡ taken (unsigned_of max (part_from b p s)) (end_from b p s + 1)
  unfolding unsigned_from
  unsigned_taken = refl

  pub signed_taken : signed_from b max p s ≡ taken (signed_of max (part_from b p s)) (end_from b p s + 1)
  unfolding signed_from
  signed_taken = refl

-- ---- the part at a place, and the parts after it
module _ (b p : ℕ) (s : List ℕ) where
  pub end_few : end_from b p s ≤ length s
  end_few = ⊎_elim (λ h. end_le b p (end_from b p s) s (omega arith) refl) (λ h. omega (arith, until_end b p s h)) (lt_or_ge p (length s))

  pub from_last : p ≤ length s → length s ≤ end_from b p s → split b (drop p s) ≡ part_from b p s ∷ []
  from_last h k = at_last b p (end_from b p s) s h refl k ∙ ap (λ (q : List ℕ). q ∷ []) (part_is b p (end_from b p s) s h refl)

  pub from_more : p ≤ length s → end_from b p s < length s → split b (drop p s) ≡ part_from b p s ∷ split b (drop (end_from b p s + 1) s)
  from_more h k =
      at_more b p (end_from b p s) s h refl k
      ∙ ap (λ (q : List ℕ). q ∷ split b (drop (end_from b p s + 1) s)) (part_is b p (end_from b p s) s h refl)

  slice_part : take (end_from b p s - p) (drop p s) ≡ part_from b p s
  unfolding until
  slice_part = ⊎_elim
      (λ h. part_is b p (end_from b p s) s (omega arith) refl)
      (λ h. rw (drop_of_length-le s h) (take-nil (end_from b p s - p)))
      (lt_or_ge p (length s))

  nth_here : nth 0 (split b (drop p s)) ≡ part_from b p s
  unfolding nth
  nth_here = ap (nth 0) (split_cons b (drop p s)).1

-- past the end there is nothing
nth_past : (b p : ℕ) (s : List ℕ) (j : ℕ) → length s ≤ p → nth j (split b (drop p s)) ≡ []
unfolding nth split
nth_past b p s j h = rw (drop_of_length-le s h) (by j)
  where
    by : (j : ℕ) → nth j ([] ∷ []) ≡ []
    by zero = refl
    by (suc j) = refl

nth_moves : (b p : ℕ) (s : List ℕ) (j : ℕ) → nth (suc j) (split b (drop p s)) ≡ nth j (split b (drop (end_from b p s + 1) s))
unfolding nth
nth_moves b p s j = ⊎_elim
    (λ h. ⊎_elim
    (λ k. ap (nth (suc j)) (from_more b p s (omega arith) k))
    (λ k. ap (nth (suc j)) (from_last b p s (omega arith) k) ∙ sym (nth_past b (end_from b p s + 1) s j (omega arith)))
    (lt_or_ge (end_from b p s) (length s)))
    (λ h. nth_past b p s (suc j) h ∙ sym (nth_past b (end_from b p s + 1) s j (omega (arith, until_end b p s h))))
    (lt_or_ge p (length s))

-- ---- the parts from field k on are those of the text from where it starts
starts : (s : List ℕ) (k j : ℕ) → nth (k + j) (split 9 s) ≡ nth j (split 9 (drop (field_start k s) s))
unfolding field_start
starts s zero j = let e : 0 + j ≡ j = omega arith in rw e
starts s (suc k) j =
    let n : suc k + j ≡ k + suc j = omega arith in
    ap (λ (i : ℕ). nth i (split 9 s)) n ∙ starts s k (suc j) ∙ nth_moves 9 (field_start k s) s j

pub next_start : (s : List ℕ) (k : ℕ) → field_start (k + 1) s ≡ end_from 9 (field_start k s) s + 1
unfolding field_start
next_start s k = ap (λ (i : ℕ). field_start i s) (add-one k)

pub start_first : (s : List ℕ) → 0 ≡ field_start 0 s
unfolding field_start
start_first s = refl

pub field_there : (s : List ℕ) (k : ℕ) → nth k (split 9 s) ≡ part_from 9 (field_start k s) s
field_there s k =
    let n : k ≡ k + 0 = omega arith in
    ap (λ (i : ℕ). nth i (split 9 s)) n ∙ starts s k 0 ∙ nth_here 9 (field_start k s) s

module _ (s : List ℕ) (k p : ℕ) (at : p ≡ field_start k s) where
  pub starts_next : (e : ℕ) → e ≡ end_from 9 p s → e + 1 ≡ field_start (k + 1) s
  starts_next e h = omega (arith, next_start s k, ap (λ (i : ℕ). end_from 9 i s) at)

  -- a field as it is lent
  pub field_is : (e : ℕ) (r : List ℕ) → e ≡ end_from 9 p s → r ≡ take (e - p) (drop p s) → r ≡ nth k (split 9 s)
  field_is e r h f =
      f ∙ ap (λ (i : ℕ). take (i - p) (drop p s)) h ∙ slice_part 9 p s ∙ ap (λ (i : ℕ). part_from 9 i s) at ∙ sym (field_there s k)

  -- a field that was taken as a number
  module _ (f : List ℕ → Option ℕ) (r : Option Taken) (e : r ≡ taken (f (part_from 9 p s)) (end_from 9 p s + 1)) where
    there : nth k (split 9 s) ≡ part_from 9 p s
    there = field_there s k ∙ ap (λ (i : ℕ). part_from 9 i s) (sym at)

    pub number_bad : r ≡ None → f (nth k (split 9 s)) ≡ None
    number_bad h = ap f there ∙ taken_bad (f (part_from 9 p s)) (end_from 9 p s + 1) (sym e ∙ h)

    pub number_is : (n q : ℕ) → r ≡ took n q → f (nth k (split 9 s)) ≡ Some n
    number_is n q h = ap f there ∙ (taken_is (f (part_from 9 p s)) (end_from 9 p s + 1) n q (sym e ∙ h)).0

    pub number_next : (n q : ℕ) → r ≡ took n q → q ≡ field_start (k + 1) s
    number_next n q h =
        (taken_is (f (part_from 9 p s)) (end_from 9 p s + 1) n q (sym e ∙ h)).1 ∙ starts_next (end_from 9 p s) refl
