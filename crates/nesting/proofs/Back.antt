-- Written numbers read back to the defining place of each operand; so one list of numbers has one list of places. Assumes nothing.
use Prim.Native.Nat.{ℕ, suc, ◌+◌}
use native.Mathlib.Omega.{arith}
use mathlib.Core.Path.{◌≡◌, refl, ap, sym, ◌∙◌}
use mathlib.Core.Bool.{Bool, true, false}
use mathlib.Core.Option.{Option, some, none}
use mathlib.Core.List.{List, [], ◌∷◌, ◌++◌, map, append-nil}
use lib.ListN.{length, get_or}
use lib.Dec.{eqb}
use borrow.Author.Tests.{eq-eqb, eqb-true}
use Rattle.cells.specs.Lists.{from, below, flat}
use Rattle.tables.specs.Tables.{Tables, opcode, operands, result_types}
use Rattle.tables.specs.Sheet.{fixed_count_in}
use Rattle.tables.specs.Place.{defining_place}
use Rattle.std.specs.Prelude as std
use Rattle.std.specs.Prelude.{Some, None}
use Rattle.tables.specs.declared.Place.{Place}
use Rattle.tables.specs.declared.Place.TheVariants.{Argument, Result}
use Rattle.tables.specs.declared.Refusal.{Refusal}
use Rattle.tables.specs.declared.Refusal.TheVariants.{NoNumber, ResultCount, NoValue}
use Rattle.nesting.specs.In.{In, here, later}
use Rattle.nesting.specs.Shape.{Visit, whole_visits, entries_visits}
use Rattle.nesting.specs.Live.{Nesting, nesting_of, placed, Real, value_at, nth}
use Rattle.nesting.specs.Numbering.{Listing, fine, refused, collect, found, there, is, number, look, counted, values_there, numbers_at, numbering}
use Rattle.nesting.specs.ReadBack.{Use, uses_at, uses, zip, read, read_back, operand_places}
use Rattle.nesting.specs.Passed.{Single}
use Rattle.nesting.proofs.Lists.{in_map, below_in}
use Rattle.nesting.proofs.Answers.{join_fine}
use Rattle.nesting.proofs.Places.{place_is}
use Rattle.nesting.proofs.Walked.{All, Brings, whole_all, entry_in}

-- ---- every live place is one that the counts have

real_brings : (n : Nesting) → Brings (Real n) (placed n)
unfolding placed
real_brings n = record {
  arguments = λ j p h. let s = in_map (Argument j) (below (n.arguments j)) h in rw (← s.is) (below_in (n.arguments j) s.listed);
  results = λ i p h. result i p h;
  inner = λ i p h. result i p h;
}
  where
    result : (i : ℕ) (p : Place) → In p (map (Result i) (below (n.results i))) → Real n p
    result i p h = let s = in_map (Result i) (below (n.results i)) h in rw (← s.is) (below_in (n.results i) s.listed)

live_real : (n : Nesting) (u : Visit Place) → In u (whole_visits (placed n)) → All (Real n) u.live
live_real n u h = whole_all (Real n) (placed n) (real_brings n) u h

-- ---- the place with v's number is one where v stands

is_true : (v : ℕ) (o : Option ℕ) → is v o ≡ true → o ≡ some v
is_true v none e = let z : ◌≡◌ {A = ℕ} 0 1 = cc in absurd (omega arith)
is_true v (some w) e = ap some (eqb-true w v e)

record Found (x : Tables) (v : ℕ) (ps : List Place) (n : ℕ) : Type 0 where
  place : Place
  listed : In place ps
  at : nth ps n ≡ some place
  holds : value_at x place ≡ some v

number_at : (x : Tables) (v : ℕ) (ps : List Place) (n : ℕ) → number x v ps ≡ some n → Found x v ps n
number_at x v [] n e = let z : ◌≡◌ {A = ℕ} 0 1 = cc in absurd (omega arith)
number_at x v (p ∷ ps) n e = go (is v (value_at x p)) refl (number x v ps) refl (number_at x v ps)
  where
    go : (b : Bool) → is v (value_at x p) ≡ b → (m : Option ℕ) → number x v ps ≡ m
        → ((k : ℕ) → number x v ps ≡ some k → Found x v ps k) → Found x v (p ∷ ps) n
    go true f m q h =
        let z : ◌≡◌ {A = Option ℕ} (some 0) (some n) = rw f at e in
        let y : n ≡ 0 = cc in
        record { place = p; listed = here; at = rw y; holds = is_true v (value_at x p) f }
    go false f none q h = let z : ◌≡◌ {A = Option ℕ} none (some n) = rw (f, q) at e in let y : ◌≡◌ {A = ℕ} 0 1 = cc in absurd (omega arith)
    go false f (some k) q h =
        let z : ◌≡◌ {A = Option ℕ} (some (suc k)) (some n) = rw (f, q) at e in
        let y : n ≡ suc k = cc in
        let s = h k q in
        record { place = s.place; listed = later s.listed; at = rw y s.at; holds = s.holds }

-- ---- where all is fine, the list is what the operands' look-ups give

only_nil : (c : std.Option ℕ) (i n : ℕ) (zs : List ℕ) → counted c i n ≡ fine zs → zs ≡ []
only_nil None i n zs e = cc
only_nil (Some m) i n zs e = go (eqb m n) refl
  where
    go : (b : Bool) → eqb m n ≡ b → zs ≡ []
    go true q = let z : ◌≡◌ {A = Listing ℕ} (fine []) (fine zs) = rw q at e in cc
    go false q = let z : ◌≡◌ {A = Listing ℕ} (refused (ResultCount i n)) (fine zs) = rw q at e in cc

there_nil : {A : Type 0} (o : Option A) (r : Refusal) (zs : List ℕ) → there o r ≡ fine zs → zs ≡ []
there_nil none r zs e = cc
there_nil (some a) r zs e = cc

all_nil : {X : Type 0} (f : X → Listing ℕ) → ((a : X) (zs : List ℕ) → f a ≡ fine zs → zs ≡ []) → (xs : List X) (zs : List ℕ)
    → collect f xs ≡ fine zs → zs ≡ []
all_nil f h [] zs e = cc
all_nil f h (a ∷ xs) zs e =
    let q = join_fine (f a) (collect f xs) zs e in
    sym q.whole ∙ rw (h a q.xs q.left, all_nil f h xs q.ys q.right)

visit_looks : (sheet : List ℕ) (x : Tables) (u : Visit Place) (zs : List ℕ) → numbers_at sheet x u ≡ fine zs
    → look x u.live u.op 0 (operands x u.op) ≡ fine zs
unfolding numbers_at
visit_looks sheet x u zs e =
    let q = join_fine (look x u.live u.op 0 (operands x u.op)) _ zs e in
    let fixed = fixed_count_in sheet (opcode x u.op) in
    let n = length (result_types x u.op) in
    let p = join_fine (counted fixed u.op n) (values_there x u.op) q.ys q.right in
    let a : p.xs ≡ [] = only_nil fixed u.op n p.xs p.left in
    let b : p.ys ≡ [] =
    all_nil (λ (k : ℕ). there (value_at x (Result u.op k)) (NoValue u.op k))
    (λ k. there_nil (value_at x (Result u.op k)) (NoValue u.op k)) (below n) p.ys p.right in
    let c : q.ys ≡ [] = sym p.whole ∙ rw (a, b) in
    q.left ∙ ap fine (sym (append-nil q.xs) ∙ ap (λ (r : List ℕ). q.xs ++ r) (sym c) ∙ q.whole)

-- ---- each number reads back to its operand's place

abbrev place_of_use : Tables → Use → Place
place_of_use x u = defining_place x (get_or (operands x u.op) u.index 0)

data Reads (x : Tables) : List Use → List ℕ → Type 0 where
  none_read : Reads x [] []
  one_read : {u : Use} {n : ℕ} {us : List Use} {zs : List ℕ} → nth u.live n ≡ some (place_of_use x u) → Reads x us zs
      → Reads x (u ∷ us) (n ∷ zs)

reads_append : {x : Tables} {us vs : List Use} {ys zs : List ℕ} → Reads x us ys → Reads x vs zs → Reads x (us ++ vs) (ys ++ zs)
reads_append none_read s = s
reads_append (one_read e r) s = one_read e (reads_append r s)

reads_long : {x : Tables} {us : List Use} {zs : List ℕ} → Reads x us zs → length zs ≡ length us
reads_long none_read = refl
reads_long (one_read e r) = ap suc (reads_long r)

reads_fine : {x : Tables} {us : List Use} {zs : List ℕ} → Reads x us zs → collect read (zip us zs) ≡ fine (map (place_of_use x) us)
reads_fine none_read = refl
reads_fine (one_read e r) = rw (e, reads_fine r)

module _ (x : Tables) (g : Single x) where
  abbrev use_at : ℕ → List Place → ℕ → Use
  use_at i live k = record { op = i; index = k; live = live }

  look_reads : (i : ℕ) (live : List Place) → All (Real (nesting_of x)) live → (s : ℕ) (vs : List ℕ)
      → ((k : ℕ) → get_or (operands x i) (s + k) 0 ≡ get_or vs k 0) → (zs : List ℕ) → look x live i s vs ≡ fine zs
      → Reads x (map (use_at i live) (from s (length vs))) zs
  look_reads i live real s [] h zs e = let q : zs ≡ [] = cc in rw q none_read
  look_reads i live real s (v ∷ vs) h zs e =
      let q = join_fine (found (number x v live) (NoNumber i s)) (look x live i (suc s) vs) zs e in
      go (number x v live) refl q.xs q.ys q.left q.whole
      (look_reads i live real (suc s) vs
      (λ k. let a : suc s + k ≡ s + suc k = omega arith in ap (λ (m : ℕ). get_or (operands x i) m 0) a ∙ h (suc k)) q.ys q.right)
    where
      go : (m : Option ℕ) → number x v live ≡ m → (xs ys : List ℕ) → found (number x v live) (NoNumber i s) ≡ fine xs → xs ++ ys ≡ zs
          → Reads x (map (use_at i live) (from (suc s) (length vs))) ys → Reads x (map (use_at i live) (from s (length (v ∷ vs)))) zs
      go none p xs ys l w r =
          let z : ◌≡◌ {A = Listing ℕ} (refused (NoNumber i s)) (fine xs) = rw p at l in
          let y : ◌≡◌ {A = ℕ} 0 1 = cc in absurd (omega arith)
      go (some n) p xs ys l w r =
          let z : ◌≡◌ {A = Listing ℕ} (fine (n ∷ [])) (fine xs) = rw p at l in
          let y : xs ≡ n ∷ [] = cc in
          let t : zs ≡ n ∷ ys = sym w ∙ ap (λ (a : List ℕ). a ++ ys) y in
          let f = number_at x v live n p in
          let a : s + 0 ≡ s = omega arith in
          let b : get_or (operands x i) s 0 ≡ v = ap (λ (m : ℕ). get_or (operands x i) m 0) (sym a) ∙ h 0 in
          let c : defining_place x (get_or (operands x i) s 0) ≡ f.place =
          ap (defining_place x) b ∙ place_is x g f.place v (real f.place f.listed) f.holds in
          rw t (one_read (f.at ∙ ap some (sym c)) r)

  module _ (sheet : List ℕ) where
    visit_reads : (u : Visit Place) → All (Real (nesting_of x)) u.live → (zs : List ℕ) → numbers_at sheet x u ≡ fine zs
        → Reads x (uses_at (nesting_of x).operands u) zs
    unfolding nesting_of
    visit_reads u real zs e =
        look_reads u.op u.live real 0 (operands x u.op)
        (λ k. let a : 0 + k ≡ k = omega arith in ap (λ (m : ℕ). get_or (operands x u.op) m 0) a) zs (visit_looks sheet x u zs e)

    visits_reads : (us : List (Visit Place)) → ((u : Visit Place) → In u us → All (Real (nesting_of x)) u.live) → (zs : List ℕ)
        → collect (numbers_at sheet x) us ≡ fine zs
        → Reads x (flat (uses_at (nesting_of x).operands) us) zs
    visits_reads [] real zs e = let q : zs ≡ [] = cc in rw q none_read
    visits_reads (u ∷ us) real zs e =
        let q = join_fine (numbers_at sheet x u) (collect (numbers_at sheet x) us) zs e in
        rw (← q.whole)
        (reads_append (visit_reads u (real u here) q.xs q.left) (visits_reads us (λ w h. real w (later h)) q.ys q.right))

    pub back : (zs : List ℕ) → numbering sheet x ≡ fine zs → read_back (nesting_of x) zs ≡ fine (operand_places x)
    unfolding numbering uses read_back operand_places
    back zs e =
        let n = nesting_of x in
        let r = visits_reads (entries_visits (placed n)) (λ u h. live_real n u (entry_in (placed n) u h)) zs e in
        rw (eq-eqb _ _ (reads_long r)) (reads_fine r)

pub places_same : (s s' : List ℕ) (x y : Tables) → Single x → Single y → nesting_of x ≡ nesting_of y
    → (zs : List ℕ) → numbering s x ≡ fine zs → numbering s' y ≡ fine zs → operand_places x ≡ operand_places y
places_same s s' x y g h n zs e f =
    let a : fine (operand_places x) ≡ fine (operand_places y) =
    sym (back x g s zs e) ∙ ap (λ (m : Nesting). read_back m zs) n ∙ back y h s' zs f in
    cc
