-- The walk: a loop that visits ids one by one while what is live grows and numbers are written, and what the definitions say of the lists
-- that the code read. Assumes nothing.
use Prim.Native.Nat.{ℕ, suc, ◌+◌, ◌-◌, ◌<◌, ◌≤◌}
use native.Mathlib.Omega.{arith}
use mathlib.Core.Path.{◌≡◌, refl, sym, ap, ◌∙◌, subst}
use mathlib.Core.List.{List, [], ◌∷◌, ◌++◌, append-nil}
use lib.ListN.{length, get_or, drop}
use Rattle.cells.proofs.Parts.{left_step, left_end}
use Rattle.tables.specs.Tables.{Tables, lent, regions, blocks, operations, arguments}
use Rattle.std.specs.Prelude.{Ok, Err}
use Rattle.tables.specs.declared.Refusal.{Refusal}
use Rattle.walk.specs.Written.{Filled, filled, push_all}
use Rattle.walk.proofs.Filling.{push_all_append}
use Rattle.nesting.specs.Shape.{visit}
use Rattle.nesting.specs.Live.{valued, result_values}
use Rattle.nesting.specs.Numbering.{Listing, fine, refused, join}
use Rattle.nesting.specs.Direct.{numbers_among}
use Rattle.nesting.specs.Ask.{listings, all, fold_operation, fold_operations, fold_block, fold_region}
use Rattle.nesting.proofs.Answers.{listings_lawful}
use Rattle.scope.specs.Stack.{see_all, Shows}
use Rattle.scope.specs.declared.Scope.{Scope}
use Rattle.scope.proofs.Laws.{Begins, begins_same, begins_on, begins_all, rolled}
use Rattle.numbering_walk.specs.Walk.{Tells, Visited, Level, Stands, Reached, Went, told, asked, after, region_numbered, block_numbered, operation_numbered, regions_numbered}
use Rattle.numbering_walk.specs.declared.Walked.{Walked}

-- ---- lists that are joined

pub join_nil : (a : Listing ℕ) → join (fine []) a ≡ a
join_nil a = listings_lawful.unit a

pub join_more : (xs ys : List ℕ) (a : Listing ℕ) → join (fine (xs ++ ys)) a ≡ join (fine xs) (join (fine ys) a)
join_more xs ys a = listings_lawful.assoc (fine xs) (fine ys) a

pub join_none : (xs : List ℕ) → join (fine xs) (fine []) ≡ fine xs
join_none xs = ap fine (append-nil xs)

-- ---- what a visit says

pub level_is : {w : Visited} {u : Walked} {d : ℕ} → Level w d → w ≡ Ok u → u.scope.depth ≡ d
level_is {d = d} h e = subst (λ (z : Visited). Level z d) e h

module _ {w : Visited} {nv : ℕ} {d s live held : List ℕ} {p : Filled} {a : Listing ℕ} (v : Went w nv d s live held p a) where
  pub stands_is : {u : Walked} → w ≡ Ok u → Shows nv d s u.scope.next live
  stands_is e = subst (λ (z : Visited). Stands z nv d s live) e v.stands

  pub wrote_is : {u : Walked} → w ≡ Ok u → filled held u.done ≡ push_all p v.list
  wrote_is e = subst (λ (z : Visited). Reached z held (push_all p v.list)) e v.wrote

  pub fine_is : {u : Walked} → w ≡ Ok u → a ≡ fine v.list
  fine_is e = sym v.answer ∙ ap (λ (z : Visited). told z v.list) e

  pub stops_is : {why : Refusal} → w ≡ Err why → a ≡ refused why
  stops_is e = sym v.answer ∙ ap (λ (z : Visited). told z v.list) e

-- a refusal, with any arrays
pub stopped : {why : Refusal} {nv : ℕ} {d s live held : List ℕ} {p : Filled} {a : Listing ℕ} → refused why ≡ a → Went (Err why) nv d s live held p a
stopped e = record { list = []; answer = e; stands = tt; wrote = tt }

-- nothing is written
pub unwritten : {u : Walked} {nv : ℕ} {d s live held : List ℕ} {a : Listing ℕ} → fine [] ≡ a → Shows nv d s u.scope.next live → Went (Ok u) nv d s live held (filled held u.done) a
unwritten e g = record { list = []; answer = e; stands = g; wrote = refl }

told_join : (w : Visited) (xs ys : List ℕ) → told w (xs ++ ys) ≡ join (fine xs) (told w ys)
told_join (Ok u) xs ys = refl
told_join (Err r) xs ys = refl

-- xs was written first
pub went_after : {w : Visited} {nv : ℕ} {d s live held : List ℕ} {p q : Filled} {a b : Listing ℕ} (xs : List ℕ) → q ≡ push_all p xs → a ≡ fine xs
    → Went w nv d s live held q b → Went w nv d s live held p (join a b)
went_after {w} {held = held} {p = p} {b = b} xs eq ea v = record {
  list = xs ++ v.list;
  answer = told_join w xs v.list ∙ ap (join (fine xs)) v.answer ∙ ap (λ (z : Listing ℕ). join z b) (sym ea);
  stands = v.stands;
  wrote = subst (Reached w held) (ap (λ (z : Filled). push_all z v.list) eq ∙ sym (push_all_append p xs v.list)) v.wrote;
}

-- ---- ids visited one by one: f numbers each, and g is what is live after it

abbrev pub fold_ids : (List ℕ → ℕ → Listing ℕ) → (List ℕ → ℕ → List ℕ) → List ℕ → List ℕ → Listing ℕ
fold_ids f g live [] = fine []
fold_ids f g live (x ∷ xs) = join (f live x) (fold_ids f g (g live x) xs)

abbrev pub grown : (List ℕ → ℕ → List ℕ) → List ℕ → List ℕ → List ℕ
grown g live [] = live
grown g live (x ∷ xs) = grown g (g live x) xs

-- a region and a block leave what is live as it was
abbrev pub same : Tables → List ℕ → ℕ → List ℕ
same x live k = live

-- i of the ids xs are visited: the list so far is written from p on, and something is live now that the rest is visited with
pub record Going (f : ℕ → List ℕ → ℕ → Listing ℕ) (depth : ℕ) (g : List ℕ → ℕ → List ℕ) (xs live : List ℕ) (nv : ℕ) (p : Filled)
    (d s : List ℕ) (next : ℕ) (held : List ℕ) (done i : ℕ) : Type 0 where
  pub now_live : List ℕ
  pub stands : Shows nv d s next now_live
  pub list : List ℕ
  pub wrote : filled held done ≡ push_all p list
  pub said : join (fine list) (fold_ids (f depth) g now_live (drop i xs)) ≡ fold_ids (f depth) g live xs
  pub leads : grown g now_live (drop i xs) ≡ grown g live xs

-- what each loop keeps, whatever the tables are that the walk does not read
pub record Loop (x : Tables) (bases claims : List ℕ) (f : Tables → ℕ → List ℕ → ℕ → Listing ℕ) (g : Tables → List ℕ → ℕ → List ℕ)
    (xs d₀ s₀ held₀ : List ℕ) (from : Walked) (d s held : List ℕ) (to : Walked) (i : ℕ) : Type 0 where
  pub depth : to.scope.depth ≡ from.scope.depth
  pub going : (t v a fs : List ℕ) → let y = lent t v x.o a x.b x.r fs x.l x.counts in Tells y bases claims → (live : List ℕ)
      → Shows x.counts.values d₀ s₀ from.scope.next live
      → Going (f y) from.scope.depth (g y) xs live x.counts.values (filled held₀ from.done) d s to.scope.next held to.done i

pub loop_start : {x : Tables} {bases claims : List ℕ} {f : Tables → ℕ → List ℕ → ℕ → Listing ℕ} {g : Tables → List ℕ → ℕ → List ℕ}
    {xs d s held : List ℕ} {from : Walked} → Loop x bases claims f g xs d s held from d s held from 0
loop_start = record {
  depth = refl;
  going = λ t v a fs tells live h. record { now_live = live; stands = h; list = []; wrote = refl; said = join_nil _; leads = refl };
}

module _ {f : ℕ → List ℕ → ℕ → Listing ℕ} {depth : ℕ} {g : List ℕ → ℕ → List ℕ} {xs live : List ℕ} {nv : ℕ} {p : Filled} {d s : List ℕ} {next : ℕ}
    {held : List ℕ} {done i : ℕ} (inv : Going f depth g xs live nv p d s next held done i) where
  pub going_said : length xs ≤ i → fine inv.list ≡ fold_ids (f depth) g live xs
  going_said h = sym (join_none inv.list) ∙ (rw (left_end xs i 0 h) at inv.said)

  pub going_live : length xs ≤ i → Shows nv d s next (grown g live xs)
  going_live h = let q : inv.now_live ≡ grown g live xs = rw (left_end xs i 0 h) at inv.leads in rw q at inv.stands

  -- the end: what is rolled back to
  pub going_end : {u : Scope} {d' s' live' : List ℕ} {a : Listing ℕ} → length xs ≤ i → fold_ids (f depth) g live xs ≡ a → Shows nv d' s' u.next live'
      → Went (Ok (record { scope = u; done = done })) nv d' s' live' held p a
  going_end h e g' = record { list = inv.list; answer = going_said h ∙ e; stands = g'; wrote = inv.wrote }

  -- a turn: the visit of the id at i
  module _ {w : Visited} {d' s' held' : List ℕ} {depth' : ℕ} (h : i < length xs) (e : depth' ≡ depth)
      (v : Went w nv d' s' (g inv.now_live (get_or xs i 0)) held' (filled held done) (f depth' inv.now_live (get_or xs i 0))) where
    deep : f depth inv.now_live (get_or xs i 0) ≡ f depth' inv.now_live (get_or xs i 0)
    deep = ap (λ (z : ℕ). f z inv.now_live (get_or xs i 0)) (sym e)

    pub going_stop : {why : Refusal} → w ≡ Err why → refused why ≡ fold_ids (f depth) g live xs
    going_stop {why} q =
        let z : f depth inv.now_live (get_or xs i 0) ≡ refused why = deep ∙ stops_is v q in
        rw (left_step xs i 0 h, z) at inv.said

    pub going_more : {u : Walked} → w ≡ Ok u → Going f depth g xs live nv p d' s' u.scope.next held' u.done (i + 1)
    going_more q =
        let z : f depth inv.now_live (get_or xs i 0) ≡ fine v.list = deep ∙ fine_is v q in
        record {
          now_live = g inv.now_live (get_or xs i 0);
          stands = stands_is v q;
          list = inv.list ++ v.list;
          wrote = wrote_is v q ∙ ap (λ (k : Filled). push_all k v.list) inv.wrote ∙ sym (push_all_append p inv.list v.list);
          said =
              join_more inv.list v.list (fold_ids (f depth) g (g inv.now_live (get_or xs i 0)) (drop (i + 1) xs))
              ∙ (rw (left_step xs i 0 h, z) at inv.said);
          leads = rw (left_step xs i 0 h) at inv.leads;
        }

-- ---- the lists as the definitions have them

all_is : (f : List ℕ → ℕ → Listing ℕ) (x : Tables) (live xs : List ℕ) → fold_ids f (same x) live xs ≡ all listings (f live) xs
all_is f x live [] = refl
all_is f x live (k ∷ ks) = ap (join (f live k)) (all_is f x live ks)

pub grown_same : (x : Tables) (live xs : List ℕ) → grown (same x) live xs ≡ live
grown_same x live [] = refl
grown_same x live (k ∷ ks) = grown_same x live ks

pub begins_after : (x : Tables) (live xs : List ℕ) → Begins live (grown (after x) live xs)
begins_after x live [] = begins_same live
begins_after x live (i ∷ is) = begins_on (begins_all x.counts.values live (result_values x i)) (begins_after x (after x live i) is)

module _ (sheet : List ℕ) where
  operations_is : (x : Tables) (d : ℕ) (live is : List ℕ)
      → fold_ids (operation_numbered sheet x d) (after x) live is
      ≡ fold_operations listings (see_all x.counts.values) (numbers_among sheet x) (valued x) (region_numbered sheet x d) live is
  unfolding valued
  operations_is x d live [] = refl
  operations_is x d live (i ∷ is) = ap (join (operation_numbered sheet x d live i)) (operations_is x d (after x live i) is)

  module _ (x : Tables) (d : ℕ) (live : List ℕ) where
    pub regions_are : (ks : List ℕ) → fold_ids (region_numbered sheet x d) (same x) live ks ≡ regions_numbered sheet x d live ks
    regions_are ks = all_is (region_numbered sheet x d) x live ks

    pub block_is : {d₀ : ℕ} {args is : List ℕ} (j : ℕ) → d₀ ≡ d → args ≡ arguments x j → is ≡ operations x j
        → fold_ids (operation_numbered sheet x d₀) (after x) (see_all x.counts.values live args) is ≡ block_numbered sheet x d live j
    unfolding fold_block valued
    block_is j e ea ei = rw (e, ea, ei) (operations_is x d (see_all x.counts.values live (arguments x j)) (operations x j))

    pub region_is : {d₀ : ℕ} {js : List ℕ} (k : ℕ) → (d ≡ 0 → ⊥) → d₀ ≡ d - 1 → js ≡ blocks x k
        → fold_ids (block_numbered sheet x d₀) (same x) live js ≡ region_numbered sheet x d live k
    unfolding fold_region valued
    region_is k h e ej =
        let q : suc (d - 1) ≡ d = omega (arith, h) in
        rw (e, ej) (all_is (block_numbered sheet x (d - 1)) x live (blocks x k)) ∙ ap (λ (z : ℕ). region_numbered sheet x z live k) q

    pub region_none : (k : ℕ) → d ≡ 0 → fine [] ≡ region_numbered sheet x d live k
    unfolding fold_region
    region_none k e = rw e

    module _ (i : ℕ) {w : Visited} {nv : ℕ} {d₁ s₁ l₁ held : List ℕ} {p : Filled} (v : Went w nv d₁ s₁ l₁ held p (asked sheet x i live)) where
      pub operation_stops : {why : Refusal} → w ≡ Err why → refused why ≡ operation_numbered sheet x d live i
      unfolding fold_operation asked numbers_among
      operation_stops {why} e = let q : numbers_among sheet x (visit i live) ≡ refused why = stops_is v e in rw q

      pub operation_goes : {u : Walked} {ks : List ℕ} {w' : Visited} {d₂ s₂ l₂ held' : List ℕ} → w ≡ Ok u → u.scope.depth ≡ d → ks ≡ regions x i
          → Went w' nv d₂ s₂ l₂ held' (filled held u.done) (regions_numbered sheet x u.scope.depth (after x live i) ks)
          → Went w' nv d₂ s₂ l₂ held' p (operation_numbered sheet x d live i)
      unfolding fold_operation valued asked numbers_among
      operation_goes e ed ek v' = went_after v.list (wrote_is v e) (fine_is v e) (rw (ed, ek) at v')

-- ---- rolled back

pub back_to : {u scope : Scope} {nv n : ℕ} {d s d₀ s₀ live live₀ : List ℕ} → u ≡ scope → Shows nv d s n live → Begins live₀ live
    → Shows nv d₀ s₀ scope.next live₀ → Shows nv d s u.next live₀
back_to {nv = nv} {d = d} {s = s} {live₀ = live₀} e h p g = subst (λ (z : Scope). Shows nv d s z.next live₀) (sym e) (rolled h p g)

-- ---- a step of the stack, whose count of values was read from the tables

pub by_count : {nv nv' n n' : ℕ} {d s d' s' live : List ℕ} (seen : ℕ → List ℕ) → nv' ≡ nv → (Shows nv' d s n live → Shows nv' d' s' n' (seen nv'))
    → Shows nv d s n live → Shows nv d' s' n' (seen nv)
by_count {n = n} {n' = n'} {d = d} {s = s} {d' = d'} {s' = s'} {live = live} seen e step h =
    subst (λ (m : ℕ). Shows m d' s' n' (seen m)) e (step (subst (λ (m : ℕ). Shows m d s n live) (sym e) h))
