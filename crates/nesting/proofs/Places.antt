-- A value stands at its defining place and at no other. Assumes nothing.
use Prim.Native.Nat.{ℕ, suc, ◌+◌, ◌<◌, ◌≤◌}
use native.Mathlib.Omega.{arith}
use mathlib.Core.Path.{◌≡◌, refl, ap, sym, ◌∙◌, subst}
use mathlib.Core.Logic.{◌⊎◌, inl, inr, ⊎_elim}
use mathlib.Core.Bool.{Bool, true, false, cond}
use mathlib.Core.Option.{Option, some, none}
use mathlib.Core.List.{List, [], ◌∷◌}
use lib.ListN.{length}
use lib.Dec.{eqb}
use borrow.Author.Tests.{eq-eqb, eqb-true, lt-ltb}
use Rattle.cells.specs.Lists.{below, flat, count, find}
use Rattle.tables.specs.Tables.{Tables, arguments, result_types, claim, declared}
use Rattle.tables.specs.Place.{position_from, among_blocks, claimed, defining_place}
use Rattle.tables.specs.Value.{is_claim, value_of}
use Rattle.tables.specs.declared.Place.{Place}
use Rattle.tables.specs.declared.Place.TheVariants.{Argument, Result, Nowhere}
use Rattle.tables.specs.declared.Claim.{Claim}
use Rattle.std.specs.Prelude as std
use Rattle.std.specs.Prelude.{Some, None}
use Rattle.nesting.specs.In.{In, here, later}
use Rattle.nesting.specs.Live.{nth, nesting_of, Real, value_at}
use Rattle.nesting.specs.Passed.{all_arguments, Single, claims}
use Rattle.nesting.proofs.Lists.{in_flat, in_below, below_in}
use Rattle.nesting.proofs.Past.{arguments_past, row_in}
use Rattle.nesting.proofs.Counts.{count_append, count_in, in_nth, find_is, position_none, position_is}

module _ (x : Tables) (v : ℕ) where
  not_among : (js : List ℕ) (p : Place) → count v (flat (arguments x) js) ≡ 0 → among_blocks x v js p ≡ p
  not_among [] p e = refl
  not_among (j ∷ js) p e =
      let s = count_append v (arguments x j) (flat (arguments x) js) in
      rw (position_none v 0 (arguments x j) (omega arith)) (not_among js p (omega arith))

  among : (j k : ℕ) (p : Place) {js : List ℕ} → In j js → nth (arguments x j) k ≡ some v → count v (flat (arguments x) js) ≤ 1
      → among_blocks x v js p ≡ Argument j k
  among j k p (here {xs}) e h =
      let s = count_append v (arguments x j) (flat (arguments x) xs) in
      let a : 0 + k ≡ k = omega arith in
      rw (position_is v 0 (arguments x j) k e (omega arith)) (ap (Argument j) a)
  among j k p (later {x = i} {xs = js} m) e h =
      let s = count_append v (arguments x i) (flat (arguments x) js) in
      let t : 1 ≤ count v (flat (arguments x) js) = count_in (in_flat (arguments x) m (in_nth (arguments x j) k v e)) in
      rw (position_none v 0 (arguments x i) (omega arith)) (among j k p m e (omega arith))

  is_claim_lem : (i k : ℕ) (c : std.Option Claim) → is_claim i k c ≡ true → c ≡ claims i k
  is_claim_lem i k None e = let z : ◌≡◌ {A = ℕ} 0 1 = cc in absurd (omega arith)
  is_claim_lem i k (Some c) e = go (eqb c.operation i) refl (eqb c.index k) refl
    where
      go : (a : Bool) → eqb c.operation i ≡ a → (b : Bool) → eqb c.index k ≡ b → Some c ≡ claims i k
      go true p true q = rw (eqb-true c.operation i p, eqb-true c.index k q)
      go true p false q = let z : ◌≡◌ {A = Bool} false true = rw (p, q) at e in cc
      go false p b q = let z : ◌≡◌ {A = Bool} false true = rw p at e in cc

-- only a block that counts has arguments
pub block_in : (x : Tables) (j v : ℕ) → In v (arguments x j) → j < x.counts.blocks
block_in x j v h = row_in (arguments x) x.counts.blocks (arguments_past x) v j h

-- what the value of a declared result is
pub value_of_lem : (x : Tables) (i k v : ℕ) → value_of x i k ≡ some v → (claim x v ≡ claims i k) × (v < x.counts.values)
unfolding value_of
value_of_lem x i k v e =
    let w = find_is (λ v. is_claim i k (claim x v)) (below x.counts.values) v e in
    (is_claim_lem x v i k (claim x v) w.0, below_in x.counts.values w.1)

module _ (x : Tables) (g : Single x) where
  argument_in : (j k v : ℕ) → nth (arguments x j) k ≡ some v → In v (all_arguments x)
  argument_in j k v e =
      let m = in_nth (arguments x j) k v e in
      in_flat (arguments x) (in_below x.counts.blocks j (block_in x j v m)) m

  -- a place where a value stands is its own
  pub place_is : (p : Place) (v : ℕ) → Real (nesting_of x) p → value_at x p ≡ some v → defining_place x v ≡ p
  unfolding value_at defining_place nesting_of
  place_is (Argument j k) v r e =
      among x v j k (claimed x (claim x v)) (in_below x.counts.blocks j (block_in x j v (in_nth (arguments x j) k v e))) e
      (g.listed_once v (g.in_range v (count_in (argument_in j k v e))))
  place_is (Result i k) v r e =
      let w = value_of_lem x i k v e in
      let d : declared x i k ≡ true = lt-ltb k (length (result_types x i)) r in
      not_among x v (below x.counts.blocks) (claimed x (claim x v)) (g.not_both v i k w.1 w.0 d)
      ∙ rw (w.0, d)
  place_is Nowhere v r e = absurd r

-- ---- and a value that has a defining place stands there

position_at : (v s : ℕ) (xs : List ℕ) (m : ℕ) → position_from s v xs ≡ some m → (k : ℕ) × (m ≡ s + k) × (nth xs k ≡ some v)
position_at v s [] m e = let z : ◌≡◌ {A = ℕ} 0 1 = cc in absurd (omega arith)
position_at v s (x ∷ xs) m e = go (eqb x v) refl (position_at v (suc s) xs m)
  where
    go : (b : Bool) → eqb x v ≡ b → (position_from (suc s) v xs ≡ some m → (k : ℕ) × (m ≡ suc s + k) × (nth xs k ≡ some v))
        → (k : ℕ) × (m ≡ s + k) × (nth (x ∷ xs) k ≡ some v)
    go true q h =
        let f : ◌≡◌ {A = Option ℕ} (some s) (some m) = rw q at e in
        let g : s ≡ m = cc in
        (0, omega arith, ap some (eqb-true x v q))
    go false q h = let w = h (rw q at e) in (suc w.0, omega (arith, w.1), w.2)

-- a search among blocks ends in one that lists v, or in what else is said
among_at : (x : Tables) (v : ℕ) (js : List ℕ) (p : Place)
    → (among_blocks x v js p ≡ p) ⊎ ((j : ℕ) × (k : ℕ) × (among_blocks x v js p ≡ Argument j k) × (nth (arguments x j) k ≡ some v))
among_at x v [] p = inl refl
among_at x v (j ∷ js) p = go (position_from 0 v (arguments x j)) refl (among_at x v js p)
  where
    go : (o : Option ℕ) → position_from 0 v (arguments x j) ≡ o
        → (among_blocks x v js p ≡ p) ⊎ ((j : ℕ) × (k : ℕ) × (among_blocks x v js p ≡ Argument j k) × (nth (arguments x j) k ≡ some v))
        → (among_blocks x v (j ∷ js) p ≡ p) ⊎ ((i : ℕ) × (k : ℕ) × (among_blocks x v (j ∷ js) p ≡ Argument i k) × (nth (arguments x i) k ≡ some v))
    go none e h = rw e h
    go (some m) e h =
        let w = position_at v 0 (arguments x j) m e in
        let q : m ≡ w.0 = omega (arith, w.1) in
        inr (j, w.0, rw e (ap (Argument j) q), w.2)

find_some : (p : ℕ → Bool) {v : ℕ} {xs : List ℕ} → In v xs → p v ≡ true → (w : ℕ) × (find p xs ≡ some w)
find_some p {v} (here {xs}) e = (v, rw e)
find_some p (later {x = y} {xs = ys} m) e = go (p y) (find_some p m e)
  where
    go : (b : Bool) → (w : ℕ) × (find p ys ≡ some w) → (w : ℕ) × (cond b (some y) (find p ys) ≡ some w)
    go true h = (y, refl)
    go false h = h

module _ (x : Tables) (g : Single x) (v : ℕ) (h : v < x.counts.values) where
  claimed_at : (c : std.Option Claim) → claim x v ≡ c → (claimed x c ≡ Nowhere) ⊎ (value_at x (claimed x c) ≡ some v)
  unfolding value_at value_of
  claimed_at None e = inl refl
  claimed_at (Some c) e = go (declared x i k) refl
    where
      i : ℕ
      i = c.operation

      k : ℕ
      k = c.index

      is_own : is_claim i k (claim x v) ≡ true
      is_own = rw (e, eq-eqb i i refl, eq-eqb k k refl)

      go : (b : Bool) → declared x i k ≡ b
          → (cond (declared x i k) (Result i k) Nowhere ≡ Nowhere) ⊎ (value_at x (cond (declared x i k) (Result i k) Nowhere) ≡ some v)
      go false q = inl (rw q)
      go true q =
          let w = find_some (λ v. is_claim i k (claim x v)) (in_below x.counts.values v h) is_own in
          let u = value_of_lem x i k w.0 w.1 in
          let s : w.0 ≡ v = g.one_claim w.0 v i k u.1 h u.0 e q in
          inr (rw q (w.1 ∙ ap some s))

  pub own_place : (defining_place x v ≡ Nowhere) ⊎ (value_at x (defining_place x v) ≡ some v)
  unfolding defining_place value_at
  own_place =
      ⊎_elim
      (λ e. subst (λ (p : Place). (p ≡ Nowhere) ⊎ (value_at x p ≡ some v)) (sym e) (claimed_at (claim x v) refl))
      (λ w. inr (rw w.2 w.3))
      (among_at x v (below x.counts.blocks) (claimed x (claim x v)))
