-- Lists without an entry twice, lists with entries left out, and lists that are apart from each other. Assumes nothing.
use Prim.Native.Nat.{ℕ, ◌+◌, ◌≤◌}
use native.Mathlib.Omega.{arith}
use mathlib.Core.Path.{◌≡◌, refl, sym, subst}
use mathlib.Core.Bool.{Bool, true, false}
use mathlib.Core.Logic.{⊎_elim}
use mathlib.Core.List.{List, [], ◌∷◌, ◌++◌, map}
use lib.Dec.{eqb, ltb}
use borrow.Author.Tests.{eq-eqb, eqb-true, ltb-true, ltb-false}
use Rattle.cells.specs.Lists.{below, flat, count}
use Rattle.nesting.specs.In.{In, here, later}
use Rattle.nesting.proofs.Lists.{in_right, in_split, in_flat, in_below, in_map, from_flat}
use Rattle.nesting.proofs.Counts.{count_in}
use Rattle.nesting.proofs.Past.{row_in}

pub data Distinct {A : Type 0} : List A → Type 0 where
  empty : Distinct []
  more : {x : A} {xs : List A} → (In x xs → ⊥) → Distinct xs → Distinct (x ∷ xs)

pub distinct_append : {A : Type 0} {xs ys : List A} → Distinct xs → Distinct ys → ((x : A) → In x xs → In x ys → ⊥) → Distinct (xs ++ ys)
distinct_append empty q f = q
distinct_append (more {x} {xs} h p) q f =
    more (λ i. ⊎_elim (λ a. h a) (λ b. f x here b) (in_split xs i)) (distinct_append p q (λ y a b. f y (later a) b))

pub distinct_map : {A B : Type 0} (f : A → B) → ((a b : A) → f a ≡ f b → a ≡ b) → {xs : List A} → Distinct xs → Distinct (map f xs)
distinct_map f g empty = empty
distinct_map f g (more {x} {xs} h d) =
    more (λ i. let r = in_map f xs i in h (subst (λ z. In z xs) (g r.it x r.is) r.listed)) (distinct_map f g d)

-- each entry stands in one list only, and there once
pub record Once {A B : Type 0} (f : A → List B) : Type 0 where
  pub same : {a b : A} {y : B} → In y (f a) → In y (f b) → a ≡ b
  pub one : (a : A) → Distinct (f a)

pub once_flat : {A B : Type 0} (f : A → List B) → Once f → {xs : List A} → Distinct xs → Distinct (flat f xs)
once_flat f o empty = empty
once_flat f o (more {x} {xs} h p) =
    distinct_append (o.one x) (once_flat f o p) (λ y a b.
    let r = from_flat f xs b in
    h (subst (λ z. In z xs) (o.same r.holds a) r.listed))

-- ---- counted once and distinct

pub distinct_count : {xs : List ℕ} → Distinct xs → (v : ℕ) → count v xs ≤ 1
distinct_count empty v = omega arith
distinct_count (more {x} {xs} h d) v = go (eqb x v) refl (distinct_count d v)
  where
    none : (w : ℕ) (ys : List ℕ) → (In w ys → ⊥) → count w ys ≡ 0
    none w [] f = refl
    none w (y ∷ ys) f = here_not (eqb y w) refl (none w ys (λ i. f (later i)))
      where
        here_not : (b : Bool) → eqb y w ≡ b → count w ys ≡ 0 → count w (y ∷ ys) ≡ 0
        here_not true e q = absurd (f (subst (λ (z : ℕ). In w (z ∷ ys)) (sym (eqb-true y w e)) here))
        here_not false e q = rw e (omega arith)

    go : (b : Bool) → eqb x v ≡ b → count v xs ≤ 1 → count v (x ∷ xs) ≤ 1
    go true e q =
        let z : count x xs ≡ 0 = none x xs h in
        let y : count v xs ≡ 0 = subst (λ (w : ℕ). count w xs ≡ 0) (eqb-true x v e) z in
        rw e (omega arith)
    go false e q = rw e (omega arith)

pub counted_once : (xs : List ℕ) → ((v : ℕ) → count v xs ≤ 1) → Distinct xs
counted_once [] h = empty
counted_once (x ∷ xs) h =
    more {x = x} {xs = xs} (λ i. let q : 1 + count x xs ≤ 1 = rw (eq-eqb x x refl) at (h x) in omega (arith, count_in i))
    (counted_once xs (λ v. omega (arith, h v)))

-- ---- a list with entries left out

pub data Sub {A : Type 0} : List A → List A → Type 0 where
  done : Sub [] []
  keep : {x : A} {xs ys : List A} → Sub xs ys → Sub (x ∷ xs) (x ∷ ys)
  skip : {y : A} {xs ys : List A} → Sub xs ys → Sub xs (y ∷ ys)

pub sub_refl : {A : Type 0} (xs : List A) → Sub xs xs
sub_refl [] = done
sub_refl (x ∷ xs) = keep (sub_refl xs)

pub sub_none : {A : Type 0} (ys : List A) → Sub [] ys
sub_none [] = done
sub_none (y ∷ ys) = skip (sub_none ys)

pub sub_trans : {A : Type 0} {xs ys zs : List A} → Sub xs ys → Sub ys zs → Sub xs zs
sub_trans p done = p
sub_trans (keep p) (keep q) = keep (sub_trans p q)
sub_trans (skip p) (keep q) = skip (sub_trans p q)
sub_trans p (skip q) = skip (sub_trans p q)

pub sub_append : {A : Type 0} {xs ys vs ws : List A} → Sub xs ys → Sub vs ws → Sub (xs ++ vs) (ys ++ ws)
sub_append done q = q
sub_append (keep p) q = keep (sub_append p q)
sub_append (skip p) q = skip (sub_append p q)

pub sub_flat : {A B : Type 0} (f : A → List B) {xs ys : List A} → Sub xs ys → Sub (flat f xs) (flat f ys)
sub_flat f done = done
sub_flat f (keep {x} p) = sub_append (sub_refl (f x)) (sub_flat f p)
sub_flat f (skip {y} p) = sub_append (sub_none (f y)) (sub_flat f p)

pub sub_map : {A B : Type 0} (f : A → B) {xs ys : List A} → Sub xs ys → Sub (map f xs) (map f ys)
sub_map f done = done
sub_map f (keep p) = keep (sub_map f p)
sub_map f (skip p) = skip (sub_map f p)

pub sub_begin : {A : Type 0} (xs ys : List A) → Sub xs (xs ++ ys)
sub_begin [] ys = sub_none ys
sub_begin (x ∷ xs) ys = keep (sub_begin xs ys)

pub sub_one : {A B : Type 0} (f : A → List B) {x : A} {xs : List A} → In x xs → Sub (f x) (flat f xs)
sub_one f {x} (here {xs}) = sub_begin (f x) (flat f xs)
sub_one f (later {x = y} h) = sub_append (sub_none (f y)) (sub_one f h)

pub sub_single : {A : Type 0} {x : A} {xs : List A} → In x xs → Sub (x ∷ []) xs
sub_single (here {xs}) = keep (sub_none xs)
sub_single (later h) = skip (sub_single h)

sub_in : {A : Type 0} {x : A} {xs ys : List A} → Sub xs ys → In x xs → In x ys
sub_in {A = A} done h = elim h [ ]
sub_in (keep p) here = here
sub_in (keep p) (later h) = later (sub_in p h)
sub_in (skip p) h = later (sub_in p h)

pub sub_distinct : {A : Type 0} {xs ys : List A} → Sub xs ys → Distinct ys → Distinct xs
sub_distinct done d = d
sub_distinct (keep p) (more h d) = more (λ i. h (sub_in p i)) (sub_distinct p d)
sub_distinct (skip p) (more h d) = sub_distinct p d

-- ---- lists that are distinct together

pub apart : {A : Type 0} {y : A} (xs : List A) {ys : List A} → Distinct (xs ++ ys) → In y xs → In y ys → ⊥
apart {A = A} {y = y} [] {ys = ys} _ x4 j = elim x4 [ ]
apart (x ∷ xs) (more h d) here j = h (in_right xs j)
apart (x ∷ xs) (more h d) (later i) j = apart xs d i j

module _ (f : ℕ → List ℕ) where
  one_list : {a b y : ℕ} {xs : List ℕ} → Distinct (flat f xs) → In a xs → In b xs → In y (f a) → In y (f b) → a ≡ b
  one_list d here here p q = refl
  one_list {a} d (here {xs}) (later j) p q = absurd (apart (f a) d p (in_flat f j q))
  one_list {b = b} d (later i) (here {xs}) p q = absurd (apart (f b) d q (in_flat f i p))
  one_list {xs = x ∷ xs} d (later i) (later j) p q = one_list (sub_distinct (sub_append (sub_none (f x)) (sub_refl (flat f xs))) d) i j p q

  -- the lists of n entries, distinct together
  pub once_rows : (n : ℕ) → ((i : ℕ) → n ≤ i → f i ≡ []) → Distinct (flat f (below n)) → Once f
  once_rows n past d = record {
    same = λ {a} {b} {y} p q. one_list d (row a y p) (row b y q) p q;
    one = λ a. go a (ltb a n) refl;
  }
    where
      row : (a y : ℕ) → In y (f a) → In a (below n)
      row a y p = in_below n a (row_in f n past y a p)

      go : (a : ℕ) (b : Bool) → ltb a n ≡ b → Distinct (f a)
      go a true e = sub_distinct (sub_one f (in_below n a (ltb-true a n e))) d
      go a false e = rw (past a (ltb-false a n e)) empty
