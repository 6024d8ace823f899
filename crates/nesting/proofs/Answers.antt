-- Laws of answers that are joined one after the other, for every way of joining them. Assumes nothing.
use Prim.Native.Nat.{ℕ}
use native.Mathlib.Omega.{arith}
use mathlib.Core.Path.{◌≡◌, refl, ap, sym, ◌∙◌}
use mathlib.Core.List.{List, [], ◌∷◌, ◌++◌, append_assoc}
use Rattle.cells.specs.Lists.{flat}
use Rattle.tables.specs.Answer.{and_then, each, Answer}
use Rattle.std.specs.Prelude.{Ok, Err}
use Rattle.nesting.specs.In.{In, here, later}
use Rattle.nesting.specs.Shape.{first}
use Rattle.nesting.specs.Numbering.{Listing, fine, refused, join, collect}
use Rattle.nesting.specs.Ask.{Way, answers, listings, all, of_first}

pub record Lawful {B : Type 0} (w : Way B) : Type 0 where
  pub unit : (a : B) → w.both w.nothing a ≡ a
  pub assoc : (a b c : B) → w.both (w.both a b) c ≡ w.both a (w.both b c)

then_assoc : (a b c : Answer) → and_then (and_then a b) c ≡ and_then a (and_then b c)
then_assoc (Ok _) b c = refl
then_assoc (Err r) b c = refl

pub answers_lawful : Lawful answers
answers_lawful = record { unit = λ a. refl; assoc = then_assoc }

join_assoc : {A : Type 0} (a b c : Listing A) → join (join a b) c ≡ join a (join b c)
join_assoc (refused r) b c = refl
join_assoc (fine xs) (refused r) c = refl
join_assoc (fine xs) (fine ys) (refused r) = refl
join_assoc (fine xs) (fine ys) (fine zs) = ap fine (append_assoc xs ys zs)

join_nil : {A : Type 0} (a : Listing A) → join (fine []) a ≡ a
join_nil (refused r) = refl
join_nil (fine xs) = refl

pub listings_lawful : {A : Type 0} → Lawful (listings {A = A})
listings_lawful = record { unit = join_nil; assoc = join_assoc }

-- `each` and `collect` are the two ways
pub all_each : {A : Type 0} (f : A → Answer) (xs : List A) → all answers f xs ≡ each f xs
all_each f [] = refl
all_each f (x ∷ xs) = ap (and_then (f x)) (all_each f xs)

pub all_collect : {A B : Type 0} (f : A → Listing B) (xs : List A) → all listings f xs ≡ collect f xs
all_collect f [] = refl
all_collect f (x ∷ xs) = ap (join (f x)) (all_collect f xs)

-- two questions that agree on a list have one answer
pub all_agree : {A B : Type 0} (w : Way B) (f g : A → B) (xs : List A) → ((x : A) → In x xs → f x ≡ g x) → all w f xs ≡ all w g xs
all_agree w f g [] h = refl
all_agree w f g (x ∷ xs) h =
    ap (λ (b : _). w.both b (all w f xs)) (h x here)
    ∙ ap (w.both (g x)) (all_agree w f g xs (λ y m. h y (later m)))

pub all_same : {A B : Type 0} (w : Way B) (f g : A → B) → ((x : A) → f x ≡ g x) → (xs : List A) → all w f xs ≡ all w g xs
all_same w f g h xs = all_agree w f g xs (λ x m. h x)

module _ {B : Type 0} (w : Way B) (l : Lawful w) {A : Type 0} (f : A → B) where
  pub all_append : (xs ys : List A) → all w f (xs ++ ys) ≡ w.both (all w f xs) (all w f ys)
  all_append [] ys = sym (l.unit (all w f ys))
  all_append (x ∷ xs) ys = ap (w.both (f x)) (all_append xs ys) ∙ sym (l.assoc (f x) (all w f xs) (all w f ys))

  module _ {X : Type 0} (g : X → List A) (h : X → B) (e : (x : X) → all w f (g x) ≡ h x) where
    pub all_flat : (xs : List X) → all w f (flat g xs) ≡ all w h xs
    all_flat [] = refl
    all_flat (x ∷ xs) = all_append (g x) (flat g xs) ∙ rw (e x, all_flat xs)

    pub all_first : (xs : List X) → all w f (first g xs) ≡ of_first w h xs
    all_first [] = refl
    all_first (x ∷ xs) = e x

-- two steps, both fine
pub record Both {A : Type 0} (a b : Listing A) (zs : List A) : Type 0 where
  pub xs : List A
  pub ys : List A
  pub left : a ≡ fine xs
  pub right : b ≡ fine ys
  pub whole : xs ++ ys ≡ zs

pub join_fine : {A : Type 0} (a b : Listing A) (zs : List A) → join a b ≡ fine zs → Both a b zs
join_fine (refused r) b zs e = let z : ◌≡◌ {A = ℕ} 0 1 = cc in absurd (omega arith)
join_fine (fine xs) (refused r) zs e = let z : ◌≡◌ {A = ℕ} 0 1 = cc in absurd (omega arith)
join_fine (fine xs) (fine ys) zs e = record { xs = xs; ys = ys; left = refl; right = refl; whole = cc }
