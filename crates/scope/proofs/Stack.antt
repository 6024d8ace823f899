-- The stack by its two arrays: where a value stands on it, and one value more. Assumes nothing.
use Prim.Native.Nat.{ℕ, zero, suc, ◌+◌, ◌-◌, ◌<◌, ◌≤◌}
use native.Mathlib.Nat.{le_of_suc-le-suc}
use native.Mathlib.Numerals.{add-one}
use native.Mathlib.Omega.{arith}
use mathlib.Core.Path.{◌≡◌, refl, sym, ap, ◌∙◌}
use mathlib.Core.Bool.{Bool, true, false}
use mathlib.Core.Logic.{◌⊎◌, inl, inr, ⊎_elim}
use mathlib.Core.Option.{some, none}
use mathlib.Core.List.{List, [], ◌∷◌, ◌++◌}
use lib.ListN.{length, get_or, set, length-set, length-append}
use lib.Seq.{get_or-take, take-suc-set, get_or-set_same, get_or-set_other}
use lib.Dec.{eqb}
use borrow.Author.Tests.{eqb-true, lt-ltb, le-ltb}
use Rattle.cells.specs.Lists.{count, mem}
use Rattle.cells.proofs.Rows.{lt_or_ge}
use Rattle.tables.specs.Place.{position_from}
use Rattle.nesting.specs.In.{In, here, later}
use Rattle.nesting.specs.Live.{nth}
use Rattle.nesting.specs.Fits.{Fits}
use Rattle.nesting.proofs.Lists.{in_split, in_single}
use Rattle.nesting.proofs.Counts.{count_append, count_in, in_nth, position_none, position_is}
use Rattle.nesting.proofs.Theorems.{fits_few}
use Rattle.scope.specs.Stack.{see, Shows}
use Rattle.scope.proofs.Laws.{mem_count, shows_count}

-- ---- lists by their entries

count_none : (v : ℕ) (xs : List ℕ) → ((k : ℕ) → k < length xs → get_or xs k 0 ≡ v → ⊥) → count v xs ≡ 0
count_none v [] f = refl
count_none v (x ∷ xs) f = go (eqb x v) refl (count_none v xs (λ k h. f (suc k) (omega arith)))
  where
    go : (t : Bool) → eqb x v ≡ t → count v xs ≡ 0 → count v (x ∷ xs) ≡ 0
    go true e r = absurd (f 0 (omega arith) (eqb-true x v e))
    go false e r = rw e (omega arith)

-- each entry is found again: none stands twice
count_once : (back : ℕ → ℕ) (xs : List ℕ) → ((k : ℕ) → k < length xs → back (get_or xs k 0) ≡ k) → (v : ℕ) → count v xs ≤ 1
count_once back [] f v = omega arith
count_once back (x ∷ xs) f v =
    go (eqb x v) refl (count_once (λ y. back y - 1) xs (λ k h. omega (arith, f (suc k) (omega arith))) v)
  where
    go : (t : Bool) → eqb x v ≡ t → count v xs ≤ 1 → count v (x ∷ xs) ≤ 1
    go true e r =
        let first : back v ≡ 0 = ap back (sym (eqb-true x v e)) ∙ f 0 (omega arith) in
        let z : count v xs ≡ 0 = count_none v xs (λ k h q. omega (arith, f (suc k) (omega arith), ap back q)) in
        rw e (omega arith)
    go false e r = rw e (omega arith)

in_below : (n : ℕ) (xs : List ℕ) → ((k : ℕ) → k < length xs → get_or xs k 0 < n) → (v : ℕ) → In v xs → v < n
in_below n [] f v x'' = elim x'' [ ]
in_below n (x ∷ xs) f v here = f 0 (omega arith)
in_below n (x ∷ xs) f v (later h) = in_below n xs (λ k l. f (suc k) (omega arith)) v h

nth_at : (xs : List ℕ) (k : ℕ) → k < length xs → nth xs k ≡ some (get_or xs k 0)
nth_at [] k h = absurd (omega arith)
nth_at (x ∷ xs) zero h = refl
nth_at (x ∷ xs) (suc k) h = nth_at xs k (le_of_suc-le-suc h)

-- ---- what the arrays show

module _ {nv : ℕ} {d s : List ℕ} {n : ℕ} {live : List ℕ} (g : Shows nv d s n live) where
  at : (k : ℕ) → k < n → get_or live k 0 ≡ get_or d k 0
  at k h = ap (λ (xs : List ℕ). get_or xs k 0) (sym g.shows) ∙ get_or-take n d k 0 h

  again : (k : ℕ) → k < length live → get_or s (get_or live k 0) 0 ≡ k
  again k h =
      let l : k < n = omega (arith, shows_count g) in
      ap (λ (v : ℕ). get_or s v 0) (at k l) ∙ g.stack.back k l

  -- values, none of them twice
  pub shows_fits : Fits nv live
  shows_fits = record {
    once = count_once (λ v. get_or s v 0) live again;
    values = in_below nv live (λ k h. let l : k < n = omega (arith, shows_count g) in rw (at k l) (g.stack.inside k l));
  }

  -- where v would stand, as the code read it
  module _ (v k : ℕ) (e : k ≡ get_or s v 0) where
    not_on : (k < n → get_or d k 0 ≡ v → ⊥) → count v live ≡ 0
    not_on f = count_none v live (λ j h q.
        let b : j ≡ k = sym (again j h) ∙ ap (λ (w : ℕ). get_or s w 0) q ∙ sym e in
        let l : j < n = omega (arith, shows_count g) in
        f (omega arith) (ap (λ (i : ℕ). get_or d i 0) (sym b) ∙ sym (at j l) ∙ q))

    pub position_past : n ≤ k → none ≡ position_from 0 v live
    position_past h = sym (position_none v 0 live (not_on (λ l q. omega arith)))

    pub position_other : (x : ℕ) → x ≡ get_or d k 0 → (x ≡ v → ⊥) → none ≡ position_from 0 v live
    position_other x ex f = sym (position_none v 0 live (not_on (λ l q. f (ex ∙ q))))

    pub position_here : (x : ℕ) → x ≡ get_or d k 0 → k < n → x ≡ v → some k ≡ position_from 0 v live
    position_here x ex h q =
        let l : k < length live = omega (arith, shows_count g) in
        sym (position_is v 0 live k (nth_at live k l ∙ ap some (at k h ∙ sym ex ∙ q)) (shows_fits.once v) ∙ ap some (let z : 0 + k ≡ k = omega arith in z))

  -- ---- one value more

  module _ (v : ℕ) where
    -- v is no value
    pub see_out : nv ≤ v → Shows nv d s n (see nv live v)
    see_out h = rw (le-ltb v nv h) g

    -- v is live already
    pub see_again : v < nv → mem v live ≡ true → Shows nv d s n (see nv live v)
    see_again h m = rw (lt-ltb v nv h, m) g

    module _ (h : v < nv) where
      one_more : mem v live ≡ false → Fits nv (live ++ (v ∷ []))
      one_more m = record {
        once = λ w. omega (arith, count_append w live (v ∷ []), once w (eqb v w) refl);
        values = λ w i. ⊎_elim (λ a. shows_fits.values w a) (λ b. let e : w ≡ v = in_single b in rw e h) (in_split live i);
      }
        where
          once : (w : ℕ) (t : Bool) → eqb v w ≡ t → count w live + count w (v ∷ []) ≤ 1
          once w true e = let z : count w live ≡ 0 = ap (λ (x : ℕ). count x live) (sym (eqb-true v w e)) ∙ mem_count v live m in rw e (omega arith)
          once w false e = rw e (omega (arith, shows_fits.once w))

      -- a full stack has every value on it
      pub see_full : nv ≤ n → Shows nv d s n (see nv live v)
      see_full f = see_again h (go (mem v live) refl)
        where
          go : (t : Bool) → mem v live ≡ t → t ≡ true
          go true m = refl
          go false m = absurd (omega (arith, fits_few nv (live ++ (v ∷ [])) (one_more m), length-append live (v ∷ []), shows_count g))

      module _ (l : n < nv) (m : mem v live ≡ false) where
        new : (k : ℕ) → k < n → get_or d k 0 ≡ v → ⊥
        new k a e =
            let q : nth live k ≡ some v = nth_at live k (omega (arith, shows_count g)) ∙ ap some (at k a ∙ e) in
            omega (arith, mem_count v live m, count_in (in_nth live k v q))

        inside : (k : ℕ) → (k < n) ⊎ (k ≡ n) → get_or (set d n v) k 0 < nv
        inside k (inl a) = rw (get_or-set_other d n k v 0 (λ e. omega arith)) (g.stack.inside k a)
        inside k (inr e) = rw (e, get_or-set_same d n v 0 (omega (arith, g.stack.dense_room))) h

        back : (k : ℕ) → (k < n) ⊎ (k ≡ n) → get_or (set s v n) (get_or (set d n v) k 0) 0 ≡ k
        back k (inl a) =
            rw (get_or-set_other d n k v 0 (λ e. omega arith), get_or-set_other s v (get_or d k 0) n 0 (new k a)) (g.stack.back k a)
        back k (inr e) =
            rw (e, get_or-set_same d n v 0 (omega (arith, g.stack.dense_room)), get_or-set_same s v n 0 (omega (arith, g.stack.sparse_room)))

        up_to : (k : ℕ) → k < n + 1 → (k < n) ⊎ (k ≡ n)
        up_to k a = ⊎_elim (λ b. inl b) (λ b. inr (omega arith)) (lt_or_ge k n)

        -- v comes last
        pub see_new : Shows nv (set d n v) (set s v n) (n + 1) (see nv live v)
        see_new = record {
          stack = record {
            dense_room = rw length-set g.stack.dense_room;
            sparse_room = rw length-set g.stack.sparse_room;
            fits = omega arith;
            inside = λ k a. inside k (up_to k a);
            back = λ k a. back k (up_to k a);
          };
          shows = rw (lt-ltb v nv h, m, add-one n, take-suc-set d n v (omega (arith, g.stack.dense_room)), g.shows);
        }
