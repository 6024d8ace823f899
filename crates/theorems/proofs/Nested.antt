-- What the walks visit is exactly what is nested, at whatever depth it stands. Assumes nothing.
use Prim.Native.Nat.{ℕ, zero, suc, ◌+◌, ◌-◌, ◌≤◌}
use native.Mathlib.Omega.{arith}
use mathlib.Core.Path.{◌≡◌, ap, sym, ◌∙◌, subst}
use mathlib.Core.Logic.{◌↔◌, ⊎_elim}
use mathlib.Core.List.{List, [], ◌∷◌}
use Rattle.cells.specs.Lists.{flat}
use Rattle.tables.specs.Sizes.{max_depth}
use Rattle.tables.specs.Tables.{Tables, functions, regions, blocks, operations}
use Rattle.tables.specs.Answer.{each, Answer}
use Rattle.std.specs.Prelude.{Ok}
use Rattle.tables.proofs.Each.{both_accept}
use Rattle.walk.specs.Depth.{operation_depth, block_depth, region_depth, too_deep}
use Rattle.walk.specs.Order.{operation_order, block_order, region_order}
use Rattle.nesting.specs.In.{In, here, later}
use Rattle.nesting.specs.Shape.{Shape, whole_visits, first, entry_visits}
use Rattle.nesting.specs.Live.{valued}
use Rattle.nesting.proofs.Lists.{in_none, in_single, in_split, in_flat, from_flat}
use Rattle.theorems.proofs.Depth.{Over, ops, nested_in, nested_in_entry, over_valued, opened, flat_judged, region_same, region_ops, whole_operations, entry_operations}

-- operation i stands in a block of a region of operation g
pub record Holds (x : Tables) (g i : ℕ) : Type 0 where
  pub region : ℕ
  pub block : ℕ
  pub in_operation_lem : In region (regions x g)
  pub in_region_lem : In block (blocks x region)
  pub in_block : In i (operations x block)

-- operation i is nested in operation g, however deep
pub data Nested (x : Tables) (g : ℕ) : ℕ → Type 0 where
  held : {i : ℕ} → Holds x g i → Nested x g i
  deeper : {o i : ℕ} → Nested x g o → Holds x o i → Nested x g i

-- operation i stands in block j, or is nested in one that does
pub data Within (x : Tables) (j : ℕ) : ℕ → Type 0 where
  itself : {i : ℕ} → In i (operations x j) → Within x j i
  inside : {o i : ℕ} → In o (operations x j) → Nested x o i → Within x j i

module _ (x : Tables) where
  -- ---- one depth more

  -- where g is in one order, i is in the other: they are carried from the regions to the blocks
  carried : (g i : ℕ) (h h' : ℕ → List ℕ) → In i (operation_order h' x g) → ((k : ℕ) → In g (h k) → In i (h' k)) → (j : ℕ)
      → In g (block_order h x j) → In i (block_order h' x j)
  unfolding block_order operation_order
  carried g i h h' own each_region j p =
      let f = from_flat (operation_order h x) (operations x j) p in
      let o = f.parent in
      in_flat (operation_order h' x) f.listed
      (⊎_elim
      (λ q. subst (λ (z : ℕ). In i (operation_order h' x z)) (in_single q) own)
      (λ q. let r = from_flat h (regions x o) q in later (in_flat h' r.listed (each_region r.parent r.holds)))
      (in_split (o ∷ []) f.holds))

  one_more : (g i : ℕ) → ((d : ℕ) → In i (operation_order (region_order (suc d) x) x g)) → (d k : ℕ)
      → In g (region_order d x k) → In i (region_order (suc d) x k)
  unfolding region_order
  one_more g i own zero k p = in_none p
  one_more g i own (suc d) k p =
      let f = from_flat (block_order (region_order d x) x) (blocks x k) p in
      in_flat (block_order (region_order (suc d) x) x) f.listed
      (carried g i (region_order d x) (region_order (suc d) x) (own d) (one_more g i own d) f.parent f.holds)

  -- what is held by g stands below it
  below_it : (g i : ℕ) → Holds x g i → (d : ℕ) → In i (flat (region_order (suc d) x) (regions x g))
  unfolding region_order block_order operation_order
  below_it g i h d =
      in_flat (region_order (suc d) x) h.in_operation_lem
      (in_flat (block_order (region_order d x) x) h.in_region_lem (in_flat (operation_order (region_order d x) x) h.in_block here))

  -- so a depth more has what is held by what is there, and keeps what is there
  holds_more : (g i : ℕ) → Holds x g i → (d k : ℕ) → In g (region_order d x k) → In i (region_order (suc d) x k)
  unfolding operation_order
  holds_more g i h = one_more g i (λ d. later (below_it g i h d))

  keeps : (i d e k : ℕ) → In i (region_order d x k) → In i (region_order (e + d) x k)
  unfolding operation_order
  keeps i d zero k p = let q : 0 + d ≡ d = omega arith in rw q p
  keeps i d (suc e) k p = let q : suc e + d ≡ suc (e + d) = omega arith in rw q (one_more i i (λ d. here) (e + d) k (keeps i d e k p))

  -- ---- everything nested is there at some depth

  record There (g i : ℕ) : Type 0 where
    depth : ℕ
    there : In i (flat (region_order depth x) (regions x g))

  there : (g i : ℕ) → Nested x g i → There g i
  there g i (held h) = record { depth = 1; there = below_it g i h 0 }
  there g i (deeper {o = o} n h) =
      let t = there g o n in
      let f = from_flat (region_order t.depth x) (regions x g) t.there in
      record { depth = suc t.depth; there = in_flat (region_order (suc t.depth) x) f.listed (holds_more o i h t.depth f.parent f.holds) }

  -- ---- where no more than d blocks stand inside each other below g

  module _ (d g : ℕ) (e : operation_depth (region_depth d x) x g ≡ Ok tt) where
    same_depth : (n : ℕ) → d ≤ n → flat (region_order n x) (regions x g) ≡ flat (region_order d x) (regions x g)
    unfolding operation_depth
    same_depth n l =
        let order = region_ops x (valued x) (over_valued x) in
        flat_judged (region_depth d x g) (region_order n x) (region_order d x)
        (λ k p. sym (order n [] k) ∙ ap ops (region_same x (valued x) (over_valued x) n d l g k p []) ∙ order d [] k) (regions x g) e

    all_there : (i : ℕ) → Nested x g i → In i (flat (region_order d x) (regions x g))
    all_there i n =
        let t = there g i n in
        let f = from_flat (region_order t.depth x) (regions x g) t.there in
        subst (λ (is : List ℕ). In i is) (same_depth (d + t.depth) (omega arith))
        (in_flat (region_order (d + t.depth) x) f.listed (keeps i t.depth d f.parent f.holds))

  -- ---- and nothing else is there

  from_region_lem : (g d k i : ℕ) → ((j o : ℕ) → In j (blocks x k) → In o (operations x j) → Nested x g o) → In i (region_order d x k) → Nested x g i
  unfolding region_order block_order operation_order
  from_region_lem g zero k i n p = in_none p
  from_region_lem g (suc d) k i n p =
      let b = from_flat (block_order (region_order d x) x) (blocks x k) p in
      let f = from_flat (operation_order (region_order d x) x) (operations x b.parent) b.holds in
      let o = f.parent in
      let m : Nested x g o = n b.parent o b.listed f.listed in
      ⊎_elim
      (λ q. subst (Nested x g) (sym (in_single q)) m)
      (λ q. let r = from_flat (region_order d x) (regions x o) q in
      from_region_lem g d r.parent i
      (λ j z u v. deeper m (record { region = r.parent; block = j; in_operation_lem = r.listed; in_region_lem = u; in_block = v })) r.holds)
      (in_split (o ∷ []) f.holds)

  none_else : (d g i : ℕ) → In i (flat (region_order d x) (regions x g)) → Nested x g i
  none_else d g i p =
      let r = from_flat (region_order d x) (regions x g) p in
      from_region_lem g d r.parent i
      (λ j z u v. held (record { region = r.parent; block = j; in_operation_lem = r.listed; in_region_lem = u; in_block = v })) r.holds

  accepted : (f : ℕ → Answer) {k : ℕ} (ks : List ℕ) → each f ks ≡ Ok tt → In k ks → f k ≡ Ok tt
  accepted f {k = k} [] e p = elim p [ ]
  accepted f (k ∷ ks) e here = (both_accept (f k) (each f ks) e).0
  accepted f (k ∷ ks) e (later p) = accepted f ks (both_accept (f k) (each f ks) e).1 p

  module _ (three : too_deep x ≡ Ok tt) (f : ℕ) (m : In f (functions x)) where
    fine : operation_depth (region_depth max_depth x) x f ≡ Ok tt
    unfolding too_deep
    fine = accepted (operation_depth (region_depth max_depth x) x) (functions x) three m

    -- what the whole walk visits of function f is exactly what is nested in it
    nested_exactly : (i : ℕ) → In i (nested_in x f) ↔ Nested x f i
    nested_exactly i = (none_else max_depth f i, all_there max_depth f fine i)

    -- what the entry walk visits, where j is the first block of the first region of f, is exactly what is within that block
    module _ (k j : ℕ) (p : In k (regions x f)) (q : In j (blocks x k)) where
      fine_in_block : (o : ℕ) → In o (operations x j) → operation_depth (region_depth (max_depth - 1) x) x o ≡ Ok tt
      unfolding operation_depth block_depth
      fine_in_block o r =
          let a : region_depth max_depth x f k ≡ (Ok tt) = accepted (region_depth max_depth x f) (regions x f) fine p in
          let b : block_depth (region_depth (max_depth - 1) x) x j ≡ (Ok tt) =
          accepted (block_depth (region_depth (max_depth - 1) x) x) (blocks x k) (opened x (max_depth - 1) f k ∙ a) q in
          accepted (operation_depth (region_depth (max_depth - 1) x) x) (operations x j) b r

      goes : (i : ℕ) → In i (nested_in_entry x j) → Within x j i
      unfolding block_order operation_order
      goes i h =
          let r = from_flat (operation_order (region_order (max_depth - 1) x) x) (operations x j) h in
          ⊎_elim
          (λ s. itself (subst (λ (z : ℕ). In z (operations x j)) (sym (in_single s)) r.listed))
          (λ s. inside r.listed (none_else (max_depth - 1) r.parent i s))
          (in_split (r.parent ∷ []) r.holds)

      comes : (i : ℕ) → Within x j i → In i (nested_in_entry x j)
      unfolding block_order operation_order
      comes i (itself r) = in_flat (operation_order (region_order (max_depth - 1) x) x) r here
      comes i (inside {o = o} r n) =
          in_flat (operation_order (region_order (max_depth - 1) x) x) r (later (all_there (max_depth - 1) o (fine_in_block o r) i n))

      within_exactly : (i : ℕ) → In i (nested_in_entry x j) ↔ Within x j i
      within_exactly i = (goes i, comes i)

-- ---- of the walks themselves

-- operation i is nested in a function
pub record Reached (x : Tables) (i : ℕ) : Type 0 where
  pub function : ℕ
  pub listed : In function (functions x)
  pub nested : Nested x function i

module _ {A : Type 0} (x : Tables) (s : Shape A) (over : Over x s) (three : too_deep x ≡ Ok tt) where
  -- the whole walk visits exactly the operations that are nested in a function
  pub visited_exactly : (i : ℕ) → In i (ops (whole_visits s)) ↔ Reached x i
  visited_exactly i = (
    λ p.
        let f = from_flat (nested_in x) (functions x) (subst (λ (is : List ℕ). In i is) (whole_operations x s over) p) in
        record { function = f.parent; listed = f.listed; nested = (nested_exactly x three f.parent f.listed i).0 f.holds },
    λ r.
        subst (λ (is : List ℕ). In i is) (sym (whole_operations x s over))
        (in_flat (nested_in x) r.listed ((nested_exactly x three r.function r.listed i).1 r.nested)),
  )

  -- the entry walk of function f exactly those within the first block, j, of its first region, k
  pub entered_exactly : (f k j : ℕ) (ks js : List ℕ) → In f (functions x) → regions x f ≡ k ∷ ks → blocks x k ≡ j ∷ js
      → (i : ℕ) → In i (ops (entry_visits s f)) ↔ Within x j i
  entered_exactly f k j ks js m e q i =
      let walk : ops (entry_visits s f) ≡ nested_in_entry x j =
      entry_operations x s over f
      ∙ ap (first (λ k. first (nested_in_entry x) (blocks x k))) e ∙ ap (first (nested_in_entry x)) q in
      let exactly = within_exactly x three f m k j (rw e here) (rw q here) i in
      (λ p. exactly.0 (subst (λ (is : List ℕ). In i is) walk p), λ w. subst (λ (is : List ℕ). In i is) (sym walk) (exactly.1 w))
