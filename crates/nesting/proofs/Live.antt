-- Where nothing is listed twice and each value has one place, no value is live twice. Assumes nothing.
use Prim.Native.Nat.{ℕ, zero, suc, ◌<◌, ◌≤◌}
use native.Mathlib.Omega.{arith}
use mathlib.Core.Path.{◌≡◌, refl, ap, sym, ◌∙◌, subst}
use mathlib.Core.Bool.{Bool, true, false}
use mathlib.Core.Logic.{⊎_elim}
use mathlib.Core.Option.{Option, some, none}
use mathlib.Core.List.{List, [], ◌∷◌, ◌++◌, map, append_assoc, append-nil}
use lib.ListN.{length}
use lib.Dec.{ltb}
use borrow.Author.Tests.{ltb-true, ltb-false}
use Rattle.cells.specs.Lists.{from, below, flat, count}
use Rattle.tables.specs.Sizes.{max_depth}
use Rattle.tables.specs.Tables.{Tables, functions, regions, blocks, operations, arguments, result_types, claim}
use Rattle.tables.specs.Place.{defining_place}
use Rattle.tables.specs.Value.{value_of}
use Rattle.tables.specs.declared.Place.{Place}
use Rattle.tables.specs.declared.Place.TheVariants.{Argument, Result, Nowhere}
use Rattle.nesting.specs.In.{In, here, later}
use Rattle.nesting.specs.Shape.{Shape, Visit, visit, operation_visits, operations_visits, block_visits, region_visits, whole_visits}
use Rattle.nesting.specs.Live.{to_list, result_values, valued, nesting_of, nth, value_at}
use Rattle.tables.specs.declared.Claim.{Claim}
use Rattle.nesting.specs.Passed.{Apart, all_arguments, Single, claims}
use Rattle.nesting.proofs.Lists.{in_none, in_single, in_split, in_flat, in_below, below_in, in_map, from_flat, from_least, flat_append}
use Rattle.nesting.proofs.Past.{regions_past, blocks_past, operations_past, arguments_past, row_in}
use Rattle.nesting.proofs.Places.{value_of_lem, place_is}
use Rattle.nesting.proofs.Distinct.{Distinct, empty, more, distinct_map, Once, once_flat, counted_once, Sub, sub_refl, sub_none, sub_trans, sub_append, sub_flat, sub_map, sub_begin, sub_one, sub_single, sub_distinct, apart, once_rows}
use Rattle.nesting.proofs.Forest.{opens, forest}

-- what a walk opens: operations and blocks
data Opened : Type 0 where
  op : ℕ → Opened
  block : ℕ → Opened

abbrev kids : {A : Type 0} → Shape A → Opened → List Opened
kids s (op i) = map block (flat s.blocks (s.regions i))
kids s (block j) = map op (s.operations j)

-- what becomes live with it
abbrev brings : {A : Type 0} → Shape A → Opened → List A
brings s (op i) = s.results i
brings s (block j) = s.arguments j

-- what is live at a visit, and then the results of the operation there
abbrev pub after : {A : Type 0} → Shape A → Visit A → List A
after s u = u.live ++ s.results u.op

abbrev twice : ℕ → ℕ
twice zero = 0
twice (suc d) = suc (suc (twice d))

-- a block and an operation at each depth
abbrev levels : ℕ
levels = twice max_depth

module _ {A : Type 0} (s : Shape A) (inn : (i : ℕ) → Sub (s.inner i) (s.results i)) where
  -- all that becomes live in a walk of depth e from xs
  abbrev brought : ℕ → List Opened → List A
  brought e xs = flat (brings s) (flat (opens (kids s) e) xs)

  sub_brought : (e : ℕ) {js ks : List ℕ} → Sub js ks → Sub (brought e (map block js)) (brought e (map block ks))
  sub_brought e p = sub_flat (brings s) (sub_flat (opens (kids s) e) (sub_map block p))

  -- what operation i brings, then what is brought below it and by the operations after it
  next_brought : (e : ℕ) (live : List A) (i : ℕ) (is : List ℕ)
      → (live ++ s.results i) ++ (brought e (kids s (op i)) ++ brought (suc e) (map op is)) ≡ live ++ brought (suc e) (map op (i ∷ is))
  next_brought e live i is =
      append_assoc live (s.results i) (brought e (kids s (op i)) ++ brought (suc e) (map op is))
      ∙ ap (λ (z : List A). live ++ (s.results i ++ z))
      (sym (flat_append (brings s) (flat (opens (kids s) e) (kids s (op i))) (flat (opens (kids s) (suc e)) (map op is))))

  module _ (e : ℕ) (inside : List A → ℕ → List (Visit A))
      (ih : (live : List A) (k : ℕ) (u : Visit A) → In u (inside live k) → Sub (after s u) (live ++ brought e (map block (s.blocks k)))) where
    inner_sub : (live : List A) (i : ℕ) (u : Visit A) → In u (flat (inside (live ++ s.inner i)) (s.regions i))
        → Sub (after s u) ((live ++ s.results i) ++ brought e (kids s (op i)))
    inner_sub live i u h =
        let f = from_flat (inside (live ++ s.inner i)) (s.regions i) h in
        sub_trans (ih (live ++ s.inner i) f.parent u f.holds)
        (sub_append (sub_append (sub_refl live) (inn i)) (sub_brought e (sub_one s.blocks f.listed)))

    operation_sub : (live : List A) (i : ℕ) (u : Visit A) → In u (operation_visits inside s live i)
        → Sub (after s u) ((live ++ s.results i) ++ brought e (kids s (op i)))
    unfolding operation_visits
    operation_sub live i u h =
        let more = brought e (kids s (op i)) in
        ⊎_elim
        (λ p. subst (λ (w : Visit A). Sub (after s w) ((live ++ s.results i) ++ more)) (sym (in_single p)) (sub_begin (live ++ s.results i) more))
        (inner_sub live i u)
        (in_split (visit i live ∷ []) h)

    operations_sub : (live : List A) (is : List ℕ) (u : Visit A) → In u (operations_visits inside s live is)
        → Sub (after s u) (live ++ brought (suc e) (map op is))
    operations_sub live [] u h = in_none h
    operations_sub live (i ∷ is) u h =
        let more = brought e (kids s (op i)) in
        let rest = brought (suc e) (map op is) in
        let so_far = sub_refl (live ++ s.results i) in
        subst (Sub (after s u)) (next_brought e live i is)
        (⊎_elim
        (λ p. sub_trans (operation_sub live i u p) (sub_append so_far (sub_begin more rest)))
        (λ p. sub_trans (operations_sub (live ++ s.results i) is u p) (sub_append so_far (sub_append (sub_none more) (sub_refl rest))))
        (in_split (operation_visits inside s live i) h))

    block_sub : (live : List A) (j : ℕ) (u : Visit A) → In u (block_visits inside s live j)
        → Sub (after s u) (live ++ brought (suc (suc e)) (block j ∷ []))
    unfolding block_visits
    block_sub live j u h =
        let opened = flat (opens (kids s) (suc e)) (map op (s.operations j)) in
        let one : flat (brings s) (opened ++ []) ≡ flat (brings s) opened = ap (flat (brings s)) (append-nil opened) in
        subst (λ (z : List A). Sub (after s u) (live ++ (s.arguments j ++ z))) (sym one)
        (subst (Sub (after s u)) (append_assoc live (s.arguments j) _) (operations_sub (live ++ s.arguments j) (s.operations j) u h))

  region_sub : (d : ℕ) (live : List A) (k : ℕ) (u : Visit A) → In u (region_visits d s live k)
      → Sub (after s u) (live ++ brought (twice d) (map block (s.blocks k)))
  unfolding region_visits
  region_sub zero live k u h = in_none h
  region_sub (suc d) live k u h =
      let f = from_flat (block_visits (region_visits d s) s live) (s.blocks k) h in
      sub_trans (block_sub (twice d) (region_visits d s) (region_sub d) live f.parent u f.holds)
      (sub_append (sub_refl live) (sub_brought (suc (suc (twice d))) (sub_single f.listed)))

  -- what is live after a visit is, in order, a part of what the walk brings in all
  whole_sub : (u : Visit A) → In u (whole_visits s) → Sub (after s u) (brought (suc levels) (map op s.functions))
  unfolding whole_visits
  whole_sub u h =
      let f = from_flat (λ (i : ℕ). flat (region_visits max_depth s []) (s.regions i)) s.functions h in
      let g = from_flat (region_visits max_depth s []) (s.regions f.parent) f.holds in
      let a : Sub (after s u) (brought levels (map block (s.blocks g.parent))) = region_sub max_depth [] g.parent u g.holds in
      let b : Sub (after s u) (brought levels (kids s (op f.parent))) = sub_trans a (sub_brought levels (sub_one s.blocks g.listed)) in
      let c : Sub (after s u) (flat (brings s) (opens (kids s) (suc levels) (op f.parent))) =
      sub_trans b (sub_append (sub_none (s.results f.parent)) (sub_refl _)) in
      sub_trans c (sub_flat (brings s) (sub_map_one f.listed))
    where
      sub_map_one : {i : ℕ} {is : List ℕ} → In i is → Sub (opens (kids s) (suc levels) (op i)) (flat (opens (kids s) (suc levels)) (map op is))
      sub_map_one {i} (here {xs}) = sub_begin (opens (kids s) (suc levels) (op i)) (flat (opens (kids s) (suc levels)) (map op xs))
      sub_map_one (later {x = j} m) = sub_append (sub_none (opens (kids s) (suc levels) (op j))) (sub_map_one m)

-- ---- where nothing is listed twice, the walk opens nothing twice

module _ (x : Tables) (a : Apart x) where
  listed : Distinct (functions x ++ flat (operations x) (below x.counts.blocks))
  listed = counted_once (functions x ++ flat (operations x) (below x.counts.blocks)) a.operations

  operations_once : Once (operations x)
  operations_once =
      once_rows (operations x) x.counts.blocks (operations_past x)
      (sub_distinct (sub_append (sub_none (functions x)) (sub_refl (flat (operations x) (below x.counts.blocks)))) listed)

  blocks_once : Once (blocks x)
  blocks_once =
      once_rows (blocks x) x.counts.regions (blocks_past x)
      (counted_once (flat (blocks x) (below x.counts.regions)) a.blocks)

  regions_once : Once (regions x)
  regions_once =
      once_rows (regions x) x.counts.operations (regions_past x)
      (counted_once (flat (regions x) (below x.counts.operations)) a.regions)

  kids_once : Once (kids (valued x))
  unfolding valued
  kids_once = record { same = λ {a} {b} {y} p q. same a b y p q; one = one }
    where
      same : (a b y : Opened) → In y (kids (valued x) a) → In y (kids (valued x) b) → a ≡ b
      same (op i) (op j) y p q =
          let a = in_map block (flat (blocks x) (regions x i)) p in
          let b = in_map block (flat (blocks x) (regions x j)) q in
          let f = from_flat (blocks x) (regions x i) a.listed in
          let h = from_flat (blocks x) (regions x j) b.listed in
          let e : block b.it ≡ block a.it = b.is ∙ sym a.is in
          let z : b.it ≡ a.it = cc in
          let k : f.parent ≡ h.parent = blocks_once.same f.holds (subst (λ (z : ℕ). In z (blocks x h.parent)) z h.holds) in
          ap op (regions_once.same f.listed (subst (λ (z : ℕ). In z (regions x j)) (sym k) h.listed))
      same (op i) (block j) y p q =
          let a = in_map block (flat (blocks x) (regions x i)) p in
          let b = in_map op (operations x j) q in
          let e : op b.it ≡ block a.it = b.is ∙ sym a.is in cc
      same (block i) (op j) y p q =
          let a = in_map op (operations x i) p in
          let b = in_map block (flat (blocks x) (regions x j)) q in
          let e : block b.it ≡ op a.it = b.is ∙ sym a.is in cc
      same (block i) (block j) y p q =
          let a = in_map op (operations x i) p in
          let b = in_map op (operations x j) q in
          let e : op b.it ≡ op a.it = b.is ∙ sym a.is in
          let z : b.it ≡ a.it = cc in
          ap block (operations_once.same a.listed (subst (λ (z : ℕ). In z (operations x j)) z b.listed))

      one : (a : Opened) → Distinct (kids (valued x) a)
      one (op i) = distinct_map block (λ a b e. cc) (once_flat (blocks x) blocks_once (regions_once.one i))
      one (block j) = distinct_map op (λ a b e. cc) (operations_once.one j)

  -- a function stands in no block
  root : (f : ℕ) → In f (functions x) → (p : Opened) → In (op f) (kids (valued x) p) → ⊥
  unfolding valued
  root f h (op i) q =
      let a = in_map block (flat (blocks x) (regions x i)) q in
      let e : block a.it ≡ op f = a.is in
      let z : ◌≡◌ {A = ℕ} 0 1 = cc in omega arith
  root f h (block j) q =
      let a = in_map op (operations x j) q in
      let e : op a.it ≡ op f = a.is in
      let z : a.it ≡ f = cc in
      let m : In f (operations x j) = subst (λ (z : ℕ). In z (operations x j)) z a.listed in
      let b : j < x.counts.blocks = row_in (operations x) x.counts.blocks (operations_past x) f j m in
      apart (functions x) listed h (in_flat (operations x) (in_below x.counts.blocks j b) m)

  opens_once : Distinct (flat (opens (kids (valued x)) (suc levels)) (map op (functions x)))
  opens_once =
      forest (kids (valued x)) kids_once (suc levels) 0 (map op (functions x))
      (distinct_map op (λ a b e. cc) (sub_distinct (sub_begin (functions x) (flat (operations x) (below x.counts.blocks))) listed))
      (λ y h. let a = in_map op (functions x) h in record { root = op a.it; is_root = root a.it a.listed; reached = a.is })

-- ---- where each value has one place, it is brought once

nth_in : {A : Type 0} {v : A} {xs : List A} → In v xs → (k : ℕ) × (nth xs k ≡ some v)
nth_in here = (0, refl)
nth_in (later h) = let r = nth_in h in (suc r.0, r.1)

in_to_list : (o : Option ℕ) (v : ℕ) → In v (to_list o) → o ≡ some v
in_to_list none v h = in_none h
in_to_list (some w) v h = ap some (sym (in_single h))

distinct_from : (s n : ℕ) → Distinct (from s n)
distinct_from s zero = empty
distinct_from s (suc n) = more (λ i. let q : suc s ≤ s = from_least (suc s) n i in omega arith) (distinct_from (suc s) n)

-- what is open where a place's value becomes live
abbrev owner : Place → Opened
owner (Argument j k) = block j
owner (Result i k) = op i
owner Nowhere = op 0

-- the values of an operation's results
pub record ResultOf (x : Tables) (i v : ℕ) : Type 0 where
  pub index : ℕ
  pub declared : index < length (result_types x i)
  pub value : value_of x i index ≡ some v

pub result_of : (x : Tables) (i v : ℕ) → In v (result_values x i) → ResultOf x i v
unfolding result_values
result_of x i v h =
    let f = from_flat (λ k. to_list (value_of x i k)) (below (length (result_types x i))) h in
    record {
      index = f.parent;
      declared = below_in (length (result_types x i)) f.listed;
      value = in_to_list (value_of x i f.parent) v f.holds;
    }

module _ (x : Tables) (g : Single x) where
  brings_owner : (o : Opened) (v : ℕ) → In v (brings (valued x) o) → owner (defining_place x v) ≡ o
  unfolding valued value_at nesting_of
  brings_owner (op i) v h =
      let r = result_of x i v h in
      ap owner (place_is x g (Result i r.index) v r.declared r.value)
  brings_owner (block j) v h =
      let r = nth_in h in
      ap owner (place_is x g (Argument j r.0) v (nth_short (arguments x j) r.0 r.1) r.1)
    where
      nth_short : (xs : List ℕ) (k : ℕ) → nth xs k ≡ some v → k < length xs
      nth_short [] k e = let z : ◌≡◌ {A = ℕ} 0 1 = cc in absurd (omega arith)
      nth_short (w ∷ xs) zero e = omega arith
      nth_short (w ∷ xs) (suc k) e = omega (arith, nth_short xs k e)

  arguments_once : Once (arguments x)
  arguments_once =
      once_rows (arguments x) x.counts.blocks (arguments_past x)
      (counted_once (all_arguments x) (λ v. go v (ltb 0 (count v (all_arguments x))) refl))
    where
      go : (v : ℕ) (b : Bool) → ltb 0 (count v (all_arguments x)) ≡ b → count v (all_arguments x) ≤ 1
      go v true e = g.listed_once v (g.in_range v (ltb-true 0 (count v (all_arguments x)) e))
      go v false e = omega (arith, ltb-false 0 (count v (all_arguments x)) e)

  results_once : (i : ℕ) → Once (λ k. to_list (value_of x i k))
  results_once i = record {
    same = λ {a} {b} {y = v} p q.
        let e : claim x v ≡ claims i a = (value_of_lem x i a v (in_to_list (value_of x i a) v p)).0 in
        let f : claim x v ≡ claims i b = (value_of_lem x i b v (in_to_list (value_of x i b) v q)).0 in
        index_is (sym e ∙ f);
    one = λ k. single (value_of x i k);
  }
    where
      index_is : {a b : ℕ} → claims i a ≡ claims i b → a ≡ b
      index_is {a} {b} e =
          let q : ◌≡◌ {A = Claim} (record { operation = i; index = a }) (record { operation = i; index = b }) = cc in
          ap (λ (c : Claim). c.index) q

      single : (o : Option ℕ) → Distinct (to_list o)
      single none = empty
      single (some v) = more {xs = []} in_none empty

  brings_once : Once (brings (valued x))
  unfolding valued result_values
  brings_once = record {
    same = λ {a} {b} {y = v} p q. sym (brings_owner a v p) ∙ brings_owner b v q;
    one = one;
  }
    where
      one : (o : Opened) → Distinct (brings (valued x) o)
      one (op i) = once_flat (λ k. to_list (value_of x i k)) (results_once i) (distinct_from 0 (length (result_types x i)))
      one (block j) = arguments_once.one j

  pub after_distinct : Apart x → (u : Visit ℕ) → In u (whole_visits (valued x)) → Distinct (after (valued x) u)
  unfolding valued
  after_distinct a u h =
      sub_distinct (whole_sub (valued x) (λ i. sub_refl (result_values x i)) u h)
      (once_flat (brings (valued x)) brings_once (opens_once x a))

  pub live_distinct : Apart x → (u : Visit ℕ) → In u (whole_visits (valued x)) → Distinct u.live
  live_distinct a u h = sub_distinct (sub_begin u.live ((valued x).results u.op)) (after_distinct a u h)
