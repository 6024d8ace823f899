-- Lists read into the entries: a run of writes from a place on, and that the loop over the items gives the list and writes its numbers.
use Rattle.std.specs.Prelude.{Option, Some, None}
use Prim.Native.Nat.{ℕ, suc, ◌+◌, ◌≤◌, ◌<◌, min}
use mathlib.Core.List.{List, [], ◌∷◌, ◌++◌}
use mathlib.Core.Logic.{⊎_elim}
use mathlib.Core.Path.{◌≡◌, refl, sym, ◌∙◌, ap}
use native.Mathlib.Omega.{arith}
use mathlib.Core.Bool.{cond}
use lib.Dec.{leb}
use lib.ListN.{length, drop, set}
use lib.Seq.{sets, set_out}
use borrow.Author.Tests.{le-leb, lt-leb}
use Rattle.cells.proofs.Rows.{lt_or_ge}
use Rattle.fields.specs.Cut.{end_from, split}
use Rattle.fields.specs.Taken.{part_from, took, taken}
use Rattle.fields.specs.declared.Taken.{Taken}
use Rattle.fields.proofs.Parts.{end_ge, end_le}
use Rattle.fields.proofs.Takes.{taken_bad, taken_is}
use Rattle.lines.specs.Field.{ahead, items, list_of}
use Rattle.lines.specs.Into.{onto, good_items, good_of, count_of, Left, left, list_into}
use Rattle.lines.proofs.Kept.{impossible}
use Rattle.lines.proofs.Moving.{from_last, from_more}

-- ---- a run of writes

-- past the end nothing is written
pub sets_out : {A : Type 0} (l : List A) (i : ℕ) (xs : List A) → length l ≤ i → sets l i xs ≡ l
sets_out l i [] h = refl
sets_out l i (x ∷ xs) h = ap (λ m. sets m (suc i) xs) (set_out l i x h) ∙ sets_out l (suc i) xs (omega arith)

-- so a place is as good as the end of the list, where it is past it
pub sets_min : {A : Type 0} (l : List A) (i : ℕ) (xs : List A) → sets l (min i (length l)) xs ≡ sets l i xs
sets_min l i xs = ⊎_elim
    (λ h. let e : min i (length l) ≡ i = omega arith in ap (λ (j : ℕ). sets l j xs) e)
    (λ h. let e : min i (length l) ≡ length l = omega arith in
    ap (λ (j : ℕ). sets l j xs) e ∙ sets_out l (length l) xs (omega arith) ∙ sym (sets_out l i xs h))
    (lt_or_ge i (length l))

-- and so is a place that no list reaches
pub sets_far : {A : Type 0} (l : List A) (i far : ℕ) (xs : List A) → length l ≤ far → sets l (min i far) xs ≡ sets l i xs
sets_far l i far xs h =
    let e : min (min i far) (length l) ≡ min i (length l) = omega arith in
    sym (sets_min l (min i far) xs) ∙ ap (λ (j : ℕ). sets l j xs) e ∙ sets_min l i xs

-- two runs, one after the other
pub sets_append : (l : List ℕ) (i : ℕ) (xs ys : List ℕ) → sets (sets l i xs) (i + length xs) ys ≡ sets l i (xs ++ ys)
sets_append l i [] ys = let e : i + 0 ≡ i = omega arith in ap (λ (j : ℕ). sets l j ys) e
sets_append l i (x ∷ xs) ys =
    let e : i + suc (length xs) ≡ suc i + length xs = omega arith in
    ap (λ (j : ℕ). sets (sets (set l i x) (suc i) xs) j ys) e ∙ sets_append (set l i x) (suc i) xs ys

-- ---- a list, and its numbers up to the first bad one

-- what is read is what is written
items_good : (f : List ℕ → Option ℕ) (ss : List (List ℕ)) (xs : List ℕ) → items f ss ≡ Some xs → good_items f ss ≡ xs
items_good f [] xs e = cc
items_good f (s ∷ ss) xs e = by (f s) (items f ss) refl e (λ ys q. items_good f ss ys q)
  where
    by : (n : Option ℕ) (o : Option (List ℕ)) → items f ss ≡ o → ahead n o ≡ Some xs
        → ((ys : List ℕ) → items f ss ≡ Some ys → good_items f ss ≡ ys) → onto n (good_items f ss) ≡ xs
    by None o q h ih = let z : ◌≡◌ {A = ℕ} 0 1 = cc in absurd (omega arith)
    by (Some n) None q h ih = let z : ◌≡◌ {A = ℕ} 0 1 = cc in absurd (omega arith)
    by (Some n) (Some ys) q h ih = let same : n ∷ ys ≡ xs = cc in ap (λ (zs : List ℕ). n ∷ zs) (ih ys q) ∙ same

pub list_good : (f : List ℕ → Option ℕ) (s xs : List ℕ) → list_of f s ≡ Some xs → good_of f s ≡ xs
unfolding list_of good_of
list_good f [] xs e = cc
list_good f (b ∷ bs) xs e = items_good f (split 44 (b ∷ bs)) xs e

-- ---- the loop over the items

-- an item: its number goes to its place and the rest follows, a bad one ends all
abbrev pub on_item : Option ℕ → List ℕ → (ℕ → Left (Option ℕ)) → Left (Option ℕ)
on_item None l next = left None l
on_item (Some x) l next = next x

-- from the item n on
unfoldable pub run : (List ℕ → Option ℕ) → ℕ → List (List ℕ) → ℕ → List ℕ → Left (Option ℕ)
run f start [] n l = left (Some n) l
run f start (s ∷ ss) n l = on_item (f s) l (λ x. run f start ss (n + 1) (set l (start + n) x))

abbrev count_from : ℕ → Option (List ℕ) → Option ℕ
count_from n None = None
count_from n (Some xs) = Some (n + length xs)

run_is : (f : List ℕ → Option ℕ) (start : ℕ) (ss : List (List ℕ)) (n : ℕ) (l : List ℕ)
    → run f start ss n l ≡ left (count_from n (items f ss)) (sets l (start + n) (good_items f ss))
unfolding run
run_is f start [] n l = let e : n ≡ n + 0 = omega arith in ap (λ (k : ℕ). left (Some k) l) e
run_is f start (s ∷ ss) n l = by (f s) (λ x. run_is f start ss (n + 1) (set l (start + n) x))
  where
    one : (x : ℕ) (o : Option (List ℕ)) → left (count_from (n + 1) o) (sets (set l (start + n) x) (start + (n + 1)) (good_items f ss))
        ≡ left (count_from n (ahead (Some x) o)) (sets l (start + n) (x ∷ good_items f ss))
    one x None = let e : start + (n + 1) ≡ suc (start + n) = omega arith in rw e
    one x (Some xs) =
        let e : start + (n + 1) ≡ suc (start + n) = omega arith in
        let k : n + 1 + length xs ≡ n + suc (length xs) = omega arith in
        rw (e, k)

    by : (v : Option ℕ) → ((x : ℕ) → run f start ss (n + 1) (set l (start + n) x)
        ≡ left (count_from (n + 1) (items f ss)) (sets (set l (start + n) x) (start + (n + 1)) (good_items f ss)))
        → on_item v l (λ x. run f start ss (n + 1) (set l (start + n) x))
        ≡ left (count_from n (ahead v (items f ss))) (sets l (start + n) (onto v (good_items f ss)))
    by None ih = refl
    by (Some x) ih = ih x ∙ one x (items f ss)

-- ---- the ways through `list_into`
module _ (f : List ℕ → Option ℕ) (at : ℕ) (s l : List ℕ) where
  pub list_none : length s ≡ 0 → left (Some 0) l ≡ list_into f at s l
  unfolding list_into list_of good_of
  list_none h = by s h
    where
      by : (s : List ℕ) → length s ≡ 0 → left (Some 0) l ≡ left (count_of (list_of f s)) (sets l at (good_of f s))
      by [] h = refl
      by (b ∷ bs) h = absurd (omega arith)

  pub list_some : (length s ≡ 0 → ⊥) → run f (min at (length l)) (split 44 s) 0 l ≡ list_into f at s l
  unfolding list_into list_of good_of
  list_some h = run_is f (min at (length l)) (split 44 s) 0 l ∙ by s h
    where
      from_none : (o : Option (List ℕ)) → count_from 0 o ≡ count_of o
      from_none None = refl
      from_none (Some xs) = let e : 0 + length xs ≡ length xs = omega arith in ap Some e

      by : (s : List ℕ) → (length s ≡ 0 → ⊥)
          → left (count_from 0 (items f (split 44 s))) (sets l (min at (length l) + 0) (good_items f (split 44 s)))
          ≡ left (count_of (list_of f s)) (sets l at (good_of f s))
      by [] h = absurd (h refl)
      by (b ∷ bs) h =
          let e : min at (length l) + 0 ≡ min at (length l) = omega arith in
          rw (e, sets_min l at (good_items f (split 44 (b ∷ bs))), from_none (items f (split 44 (b ∷ bs))))

module _ (f : List ℕ → Option ℕ) (start : ℕ) (s : List ℕ) (ss : List (List ℕ)) (n : ℕ) (l : List ℕ) where
  item_is : (x : ℕ) → f s ≡ Some x → run f start (s ∷ ss) n l ≡ run f start ss (n + 1) (set l (start + n) x)
  unfolding run
  item_is x k = rw k

  item_bad : f s ≡ None → run f start (s ∷ ss) n l ≡ left None l
  unfolding run
  item_bad k = rw k

-- the items from a place on; past the end there is none
unfoldable pub rest_at : ℕ → List ℕ → List (List ℕ)
rest_at p s = cond (leb p (length s)) (split 44 (drop p s)) []

module _ (p : ℕ) (s : List ℕ) where
  rest_gone : length s < p → rest_at p s ≡ []
  unfolding rest_at
  rest_gone h = rw (lt-leb p (length s) h)

  rest_there : p ≤ length s → rest_at p s ≡ split 44 (drop p s)
  unfolding rest_at
  rest_there h = rw (le-leb p (length s) h)

rest_here : (p : ℕ) (s : List ℕ) → p ≤ length s → rest_at p s ≡ part_from 44 p s ∷ rest_at (end_from 44 p s + 1) s
rest_here p s h = ⊎_elim
    (λ k. rest_there p s h ∙ from_more 44 p s h k
    ∙ ap (λ (ss : List (List ℕ)). part_from 44 p s ∷ ss) (sym (rest_there (end_from 44 p s + 1) s (omega arith))))
    (λ k. rest_there p s h ∙ from_last 44 p s h k
    ∙ ap (λ (ss : List (List ℕ)). part_from 44 p s ∷ ss) (sym (rest_gone (end_from 44 p s + 1) s (omega arith))))
    (lt_or_ge (end_from 44 p s) (length s))

pub rest_all : (s : List ℕ) → rest_at 0 s ≡ split 44 s
rest_all s = rest_there 0 s (omega arith)

-- the item at the cursor p
module _ (f : List ℕ → Option ℕ) (start p n : ℕ) (s l : List ℕ) where
  pub list_over : length s < p → left (Some n) l ≡ run f start (rest_at p s) n l
  unfolding run
  list_over h = rw (rest_gone p s h)

  module _ (h : p ≤ length s) (r : Option Taken) (e : r ≡ taken (f (part_from 44 p s)) (end_from 44 p s + 1)) where
    pub list_stops : r ≡ None → left None l ≡ run f start (rest_at p s) n l
    list_stops k =
        sym (ap (λ (ss : List (List ℕ)). run f start ss n l) (rest_here p s h)
        ∙ item_bad f start (part_from 44 p s) (rest_at (end_from 44 p s + 1) s) n l (taken_bad (f (part_from 44 p s)) (end_from 44 p s + 1) (sym e ∙ k)))

    module _ (x q : ℕ) (k : r ≡ took x q) where
      item_taken : (f (part_from 44 p s) ≡ Some x) × (q ≡ end_from 44 p s + 1)
      item_taken = taken_is (f (part_from 44 p s)) (end_from 44 p s + 1) x q (sym e ∙ k)

      pub list_on : (p < q) × (q ≤ length s + 1)
      list_on =
          (omega (arith, item_taken.1, end_ge 44 p (end_from 44 p s) s h refl), omega (arith, item_taken.1, end_le 44 p (end_from 44 p s) s h refl))

      pub list_goes : run f start (rest_at q s) (n + 1) (set l (start + n) x) ≡ run f start (rest_at p s) n l
      list_goes =
          ap (λ (i : ℕ). run f start (rest_at i s) (n + 1) (set l (start + n) x)) item_taken.1
          ∙ sym (ap (λ (ss : List (List ℕ)). run f start ss n l) (rest_here p s h)
          ∙ item_is f start (part_from 44 p s) (rest_at (end_from 44 p s + 1) s) n l x item_taken.0)

-- ---- how many were read
pub uncounted : (o : Option (List ℕ)) → count_of o ≡ None → o ≡ None
uncounted None h = refl
uncounted (Some xs) h = impossible (cc)

pub counted : (o : Option (List ℕ)) (n : ℕ) → count_of o ≡ Some n → (xs : List ℕ) × (o ≡ Some xs) × (length xs ≡ n)
counted None n h = impossible (cc)
counted (Some xs) n h = let same : length xs ≡ n = cc in (xs, refl, same)

-- ---- what the answer says: a count of the numbers read, which are those written; or that there is no such list
module _ (f : List ℕ → Option ℕ) (at : ℕ) (s l w : List ℕ) where
  pub list_count : (n : ℕ) → left (Some n) w ≡ list_into f at s l
      → (xs : List ℕ) × ((list_of f s ≡ Some xs) × (length xs ≡ n) × (w ≡ sets l at xs))
  unfolding list_into
  list_count n e = by (list_of f s) refl (ap (λ (x : Left (Option ℕ)). x.answer) e)
    where
      by : (o : Option (List ℕ)) → list_of f s ≡ o → Some n ≡ count_of o
          → (xs : List ℕ) × ((list_of f s ≡ Some xs) × (length xs ≡ n) × (w ≡ sets l at xs))
      by None q h = let z : ◌≡◌ {A = ℕ} 0 1 = cc in absurd (omega arith)
      by (Some xs) q h =
          let same : length xs ≡ n = cc in
          (xs, (q, same, ap (λ (x : Left (Option ℕ)). x.entries) e ∙ ap (sets l at) (list_good f s xs q)))

  pub list_bad : left None w ≡ list_into f at s l → list_of f s ≡ None
  unfolding list_into
  list_bad e = by (list_of f s) (ap (λ (x : Left (Option ℕ)). x.answer) e)
    where
      by : (o : Option (List ℕ)) → None ≡ count_of o → o ≡ None
      by None h = refl
      by (Some xs) h = let z : ◌≡◌ {A = ℕ} 0 1 = cc in absurd (omega arith)
