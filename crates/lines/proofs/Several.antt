-- Lines with lists, which stand in the entries one after the other: `O`, `B`, `R`; and how many numbers a list has at most.
use Rattle.std.specs.Prelude.{Option, Some, None, Result}
use Rattle.std.specs.Option.{ok_or}
use Prim.Native.Nat.{ℕ, ◌+◌, ◌≤◌, min}
use mathlib.Core.Bool.{Bool, true, false, cond}
use mathlib.Core.List.{List, [], ◌∷◌, ◌++◌, append-nil}
use mathlib.Core.Path.{◌≡◌, refl, sym, ◌∙◌, ap}
use native.Mathlib.Omega.{arith}
use lib.Dec.{eqb}
use lib.ListN.{length}
use lib.Seq.{sets, length-sets}
use Rattle.fields.specs.Cut.{split, on_first, nth}
use Rattle.lines.specs.Field.{says, list, one_of, id32, list_of}
use Rattle.lines.specs.Line.{operation_line, block_line, region_line}
use Rattle.lines.specs.Into.{onto, good_items, good_of, count_of, Left, left, list_into}
use Rattle.lines.specs.Answer.{bad_field, if_read, if_number, good_lists, operation_of, operation_numbers, operation_into, block_of, block_numbers, block_into, region_of, region_numbers, region_into}
use Rattle.lines.specs.declared.BadField.{BadField}
use Rattle.lines.specs.declared.BlockLine.{BlockLine}
use Rattle.lines.specs.declared.OperationLine.{OperationLine}
use Rattle.lines.proofs.Lists.{sets_far, sets_append, list_good, list_count, list_bad, counted}

-- ---- a list has at most one number more than its field has bytes

parts_few : (b : ℕ) (s : List ℕ) → length (split b s) ≤ length s + 1
unfolding split on_first
parts_few b [] = omega arith
parts_few b (x ∷ s) = by (eqb x b) (split b s) (parts_few b s)
  where
    by : (t : Bool) (ps : List (List ℕ)) → length ps ≤ length s + 1 → length (cond t ([] ∷ ps) (on_first x ps)) ≤ length (x ∷ s) + 1
    by true ps h = omega arith
    by false [] h = omega arith
    by false (p ∷ ps) h = omega arith

items_few : (f : List ℕ → Option ℕ) (ss : List (List ℕ)) → length (good_items f ss) ≤ length ss
items_few f [] = omega arith
items_few f (s ∷ ss) = by (f s) (items_few f ss)
  where
    by : (n : Option ℕ) → length (good_items f ss) ≤ length ss → length (onto n (good_items f ss)) ≤ length (s ∷ ss)
    by None h = omega arith
    by (Some n) h = omega arith

good_few : (f : List ℕ → Option ℕ) (s : List ℕ) → length (good_of f s) ≤ length s + 1
unfolding good_of
good_few f [] = omega arith
good_few f (b ∷ bs) = omega (arith, items_few f (split 44 (b ∷ bs)), parts_few 44 (b ∷ bs))

pub count_few : (f : List ℕ → Option ℕ) (at : ℕ) (s l w : List ℕ) (r : Option ℕ) (n : ℕ) → r ≡ Some n → left r w ≡ list_into f at s l → n ≤ length s + 1
count_few f at s l w r n k e =
    let h = list_count f at s l w n (ap (λ (x : Option ℕ). left x w) (sym k) ∙ e) in
    let few = good_few f s in
    let same : length (good_of f s) ≡ n = ap length (list_good f s h.0 h.1.0) ∙ h.1.1 in
    omega arith

-- ---- what is written of lists one after the other
module _ (f : List ℕ → Option ℕ) (p : List ℕ) (ps : List (List ℕ)) where
  pub lists_first : list_of f p ≡ None → good_of f p ≡ good_lists f (p ∷ ps)
  lists_first e = rw e (sym (append-nil (good_of f p)))

  pub lists_next : (xs : List ℕ) → list_of f p ≡ Some xs → xs ++ good_lists f ps ≡ good_lists f (p ∷ ps)
  lists_next xs e = rw (list_good f p xs e, e)

pub lists_one : (f : List ℕ → Option ℕ) (p : List ℕ) → good_of f p ≡ good_lists f (p ∷ [])
lists_one f p = by (list_of f p)
  where
    by : (o : Option (List ℕ)) → good_of f p ≡ good_of f p ++ if_read o []
    by None = sym (append-nil (good_of f p))
    by (Some xs) = sym (append-nil (good_of f p))

-- the first list was not read: nothing is written after it
module _ (f : List ℕ → Option ℕ) (at : ℕ) (p : List ℕ) (ps : List (List ℕ)) (l w : List ℕ) (e : w ≡ sets l at (good_of f p)) where
  pub lists_stop : list_of f p ≡ None → w ≡ sets l at (good_lists f (p ∷ ps))
  lists_stop h = e ∙ ap (sets l at) (lists_first f p ps h)

  -- it was read: the others stand after it, or nothing more fits
  pub lists_go : (n : ℕ) → count_of (list_of f p) ≡ Some n → (far next : ℕ) → length l ≤ far → next ≡ min (at + n) far
      → (w' : List ℕ) → w' ≡ sets w next (good_lists f ps) → w' ≡ sets l at (good_lists f (p ∷ ps))
  lists_go n k far next h en w' e' =
      let xs = counted (list_of f p) n k in
      let good = list_good f p xs.0 xs.1 in
      let len : length w ≡ length l = ap length e ∙ length-sets l at (good_of f p) in
      e' ∙ ap (λ (i : ℕ). sets w i (good_lists f ps)) en
      ∙ sets_far w (at + n) far (good_lists f ps) (omega arith)
      ∙ ap (λ (v : List ℕ). sets v (at + n) (good_lists f ps)) (e ∙ ap (sets l at) good)
      ∙ ap (λ (i : ℕ). sets (sets l at xs.0) (at + i) (good_lists f ps)) (sym xs.2)
      ∙ sets_append l at xs.0 (good_lists f ps)
      ∙ ap (sets l at) (lists_next f p ps xs.0 xs.1)

-- ---- a list that was read, and one that was not
module _ (f : List ℕ → Option ℕ) (at : ℕ) (s l : List ℕ) (r : Option ℕ) (w : List ℕ) (e : left r w ≡ list_into f at s l) where
  pub read_some : (n : ℕ) → r ≡ Some n → (xs : List ℕ) × ((list_of f s ≡ Some xs) × (length xs ≡ n) × (w ≡ sets l at xs))
  read_some n k = list_count f at s l w n (ap (λ (x : Option ℕ). left x w) (sym k) ∙ e)

  pub read_none : r ≡ None → list_of f s ≡ None
  read_none k = list_bad f at s l w (ap (λ (x : Option ℕ). left x w) (sym k) ∙ e)

  pub read_written : w ≡ sets l at (good_of f s)
  unfolding list_into
  read_written = ap (λ (x : Left (Option ℕ)). x.entries) e

-- an answer and the entries, each by its own equation
pub both : {A : Type 0} (a a' : A) (l l' : List ℕ) → a ≡ a' → l ≡ l' → left a l ≡ left a' l'
both a a' l l' e q = rw (e, q)

-- ---- `B`
module _ (fs : List (List ℕ)) (at : ℕ) (l : List ℕ) (a : Result BlockLine BadField) (w : List ℕ) where
  pub block_left : a ≡ block_of (block_line fs) → w ≡ sets l at (good_lists id32 (nth 1 fs ∷ nth 2 fs ∷ [])) → left a w ≡ block_into at fs l
  unfolding block_into block_numbers
  block_left e q = both _ _ _ _ e q

-- ---- `R`
module _ (fs : List (List ℕ)) (at : ℕ) (l : List ℕ) (a : Result ℕ BadField) (w : List ℕ) where
  pub region_left : a ≡ ok_or (count_of (list_of id32 (nth 1 fs))) (bad_field 2) → w ≡ sets l at (good_of id32 (nth 1 fs)) → left a w ≡ region_into at fs l
  unfolding region_into region_numbers region_line
  region_left e q = both _ _ _ _ (e ∙ by (list_of id32 (nth 1 fs))) q
    where
      by : (o : Option (List ℕ)) → ok_or (count_of o) (bad_field 2) ≡ region_of (list 2 o says)
      by None = refl
      by (Some xs) = refl

-- ---- `O`
module _ (fs : List (List ℕ)) (at : ℕ) (l : List ℕ) (a : Result OperationLine BadField) (w : List ℕ) where
  pub operation_none : one_of 105 (nth 1 fs) ≡ None → a ≡ operation_of (operation_line fs) → w ≡ l → left a w ≡ operation_into at fs l
  unfolding operation_into operation_numbers
  operation_none h e q = both _ _ _ _ e (q ∙ sym (rw h))

  pub operation_left : (op : ℕ) → one_of 105 (nth 1 fs) ≡ Some op → a ≡ operation_of (operation_line fs)
      → w ≡ sets l at (good_lists id32 (nth 2 fs ∷ nth 3 fs ∷ nth 4 fs ∷ [])) → left a w ≡ operation_into at fs l
  unfolding operation_into operation_numbers
  operation_left op h e q = both _ _ _ _ e (q ∙ ap (sets l at) read)
    where
      read : good_lists id32 (nth 2 fs ∷ nth 3 fs ∷ nth 4 fs ∷ []) ≡ if_number (one_of 105 (nth 1 fs)) (good_lists id32 (nth 2 fs ∷ nth 3 fs ∷ nth 4 fs ∷ []))
      read = rw h
