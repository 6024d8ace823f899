-- Marks tell how often a list has an id: once, or more than once. Lists marked one after the other.
-- Assumes nothing.
use Prim.Native.Nat.{ℕ, zero, suc, ◌+◌, ◌≤◌, ◌<◌}
use native.Mathlib.Omega.{arith}
use mathlib.Core.Path.{◌≡◌, refl, sym, ap, ◌∙◌}
use mathlib.Core.Bool.{Bool, true, false, cond}
use mathlib.Core.List.{List, [], ◌∷◌, ◌++◌}
use lib.Dec.{eqb, ltb}
use lib.ListN.{length, get_or, length-set, replicate, length-replicate, get_or-replicate}
use lib.Seq.{get_or-set_same, get_or-set_other}
use borrow.Author.Tests.{eqb-true, eqb-false, lt-ltb}
use Rattle.cells.specs.Lists.{below, flat, count}
use Rattle.listed.specs.Marks.{once_more, mark, mark_all, lowest_marked, lowest_seen}
use Rattle.tables.specs.Tables.{Tables, cut, functions, operations, blocks, regions}
use Rattle.tables.specs.declared.Counts.{Counts}
use Rattle.tables.specs.Answer.{Answer}
use Rattle.listed.specs.Twice.{listed_operations, listed_blocks, listed_regions, lowest_twice, refused}
use Rattle.listed.proofs.Find.{later, later_step, find_same}

-- the mark of an id that is listed n times
abbrev pub cap : ℕ → ℕ
cap zero = 0
cap (suc zero) = 1
cap (suc (suc n)) = 2

more_cap : (n : ℕ) → once_more (cap n) ≡ cap (suc n)
unfolding once_more
more_cap zero = refl
more_cap (suc zero) = refl
more_cap (suc (suc n)) = refl

pub cap_twice : (n : ℕ) → ltb 1 (cap n) ≡ ltb 1 n
cap_twice zero = refl
cap_twice (suc zero) = refl
cap_twice (suc (suc n)) = sym (lt-ltb 1 (suc (suc n)) (omega arith))

pub cap_once : (n : ℕ) → ltb 0 (cap n) ≡ ltb 0 n
cap_once zero = refl
cap_once (suc zero) = refl
cap_once (suc (suc n)) = sym (lt-ltb 0 (suc (suc n)) (omega arith))

length_mark : (m : List ℕ) (x : ℕ) → length (mark m x) ≡ length m
unfolding mark
length_mark m x = length-set m x (once_more (get_or m x 0))

mark_here : (m : List ℕ) (x n : ℕ) → x < length m → get_or m x 0 ≡ cap n → get_or (mark m x) x 0 ≡ cap (suc n)
unfolding mark
mark_here m x n h e = get_or-set_same m x (once_more (get_or m x 0)) 0 h ∙ ap once_more e ∙ more_cap n

mark_other : (m : List ℕ) (x y : ℕ) → (x ≡ y → ⊥) → get_or (mark m y) x 0 ≡ get_or m x 0
unfolding mark
mark_other m x y f = get_or-set_other m y x (once_more (get_or m y 0)) 0 f

marked : (m xs : List ℕ) (x n : ℕ) → x < length m → get_or m x 0 ≡ cap n → get_or (mark_all m xs) x 0 ≡ cap (n + count x xs)
marked m [] x n h e = let q : n + 0 ≡ n = omega arith in rw q e
marked m (y ∷ xs) x n h e = go (eqb y x) refl (marked (mark m y) xs x)
  where
    go : (t : Bool) → eqb y x ≡ t
        → ((n : ℕ) → x < length (mark m y) → get_or (mark m y) x 0 ≡ cap n → get_or (mark_all (mark m y) xs) x 0 ≡ cap (n + count x xs))
        → get_or (mark_all (mark m y) xs) x 0 ≡ cap (n + (cond t 1 0 + count x xs))
    go true t f =
        let q : y ≡ x = eqb-true y x t in
        let k : suc n + count x xs ≡ n + (1 + count x xs) = omega arith in
        f (suc n) (omega (arith, length_mark m y)) (rw q (mark_here m x n h e)) ∙ ap cap k
    go false t f =
        let k : n + count x xs ≡ n + (0 + count x xs) = omega arith in
        f n (omega (arith, length_mark m y)) (mark_other m x y (λ q. eqb-false y x t (sym q)) ∙ e) ∙ ap cap k

-- the mark of an id that there is room for
pub mark_of : (size : ℕ) (xs : List ℕ) (x : ℕ) → x < size → get_or (mark_all (replicate size 0) xs) x 0 ≡ cap (count x xs)
mark_of size xs x h =
    let k : 0 + count x xs ≡ count x xs = omega arith in
    marked (replicate size 0) xs x 0 (omega (arith, length-replicate {A = ℕ} size 0)) (get_or-replicate size x 0 0 h) ∙ ap cap k

-- with room for every id that is asked, the marks tell what is listed twice
pub seen_is : (size : ℕ) (xs : List ℕ) (n : ℕ) → n ≤ size → lowest_seen size xs n ≡ lowest_twice xs n
unfolding lowest_twice lowest_marked
seen_is size xs n h =
    find_same _ _ 0 n (λ i _ g. ap (ltb 1) (mark_of size xs i (omega arith)) ∙ cap_twice (count i xs))

-- the same of tables whose counts are cut: `y` is what the code cut them to, `a` what it answered
module _ (x y : Tables) (e : y ≡ cut x) where
  pub operations_seen : {a : Answer} → a ≡ refused 0 (lowest_seen 2048 (listed_operations y) y.counts.operations)
      → a ≡ refused 0 (lowest_twice (listed_operations (cut x)) (cut x).counts.operations)
  operations_seen q = q ∙ rw e (ap (refused 0) (seen_is 2048 (listed_operations (cut x)) (cut x).counts.operations (omega arith)))

  module _ (n : Counts) (k : n ≡ y.counts) where
    pub blocks_seen : {a : Answer} → a ≡ refused 1 (lowest_seen 512 (flat (blocks y) (below n.regions)) n.blocks)
        → a ≡ refused 1 (lowest_twice (listed_blocks (cut x)) (cut x).counts.blocks)
    blocks_seen q = q ∙ rw (k, e) (ap (refused 1) (seen_is 512 (listed_blocks (cut x)) (cut x).counts.blocks (omega arith)))

    pub regions_seen : {a : Answer} → a ≡ refused 2 (lowest_seen 512 (flat (regions y) (below n.operations)) n.regions)
        → a ≡ refused 2 (lowest_twice (listed_regions (cut x)) (cut x).counts.regions)
    regions_seen q = q ∙ rw (k, e) (ap (refused 2) (seen_is 512 (listed_regions (cut x)) (cut x).counts.regions (omega arith)))

mark_all_append : (m xs ys : List ℕ) → mark_all m (xs ++ ys) ≡ mark_all (mark_all m xs) ys
mark_all_append m [] ys = refl
mark_all_append m (x ∷ xs) ys = mark_all_append (mark m x) xs ys

pub both_marked : (z m m' xs ys : List ℕ) → m ≡ mark_all z xs → m' ≡ mark_all m ys → m' ≡ mark_all z (xs ++ ys)
both_marked z m m' xs ys e e' = e' ∙ ap (λ (k : List ℕ). mark_all k ys) e ∙ sym (mark_all_append z xs ys)

pub operations_marked : (x : Tables) {m m' : List ℕ} → m ≡ mark_all (replicate 2048 0) (functions x)
    → m' ≡ mark_all m (flat (operations x) (below x.counts.blocks)) → m' ≡ mark_all (replicate 2048 0) (listed_operations x)
operations_marked x e e' = both_marked (replicate 2048 0) _ _ (functions x) (flat (operations x) (below x.counts.blocks)) e e'

-- the lists of the numbers below n, one after the other, i of them done
abbrev pub Marking : (ℕ → List ℕ) → ℕ → List ℕ → ℕ → List ℕ → Type 0
Marking f n old i m = mark_all m (flat f (later n i)) ≡ mark_all old (flat f (below n))

module _ (f : ℕ → List ℕ) (n : ℕ) (old : List ℕ) (i : ℕ) (m : List ℕ) (inv : Marking f n old i m) where
  pub lists_step : (m' xs : List ℕ) → i < n → xs ≡ f i → m' ≡ mark_all m xs → Marking f n old (i + 1) m'
  lists_step m' xs h e k =
      ap (λ (z : List ℕ). mark_all z (flat f (later n (i + 1)))) (k ∙ ap (mark_all m) e)
      ∙ sym (mark_all_append m (f i) (flat f (later n (i + 1))))
      ∙ (rw (later_step n i h) at inv)
