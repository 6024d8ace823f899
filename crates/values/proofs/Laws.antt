-- What the bases and the claims tell where there is room: where each declared result stands, and its value. Where code 4 passes, each
-- value has one place and each declared result one value. Assumes nothing.
use Prim.Native.Nat.{ℕ, zero, suc, ◌+◌, ◌≤◌, ◌<◌}
use native.Mathlib.Numerals.{add-one}
use native.Mathlib.Omega.{arith}
use mathlib.Core.Path.{◌≡◌, refl, sym, ap, ◌∙◌}
use mathlib.Core.Bool.{Bool, true, false, cond, ◌&&◌, ◌||◌, true≢false, false≢true}
use mathlib.Core.List.{List, [], ◌∷◌}
use mathlib.Core.Logic.{⊎_elim}
use mathlib.Core.Option.{Option, some, none}
use lib.Dec.{eqb, ltb}
use lib.ListN.{length, get_or, set, length-set}
use lib.Seq.{get_or-set_same, get_or-set_other}
use borrow.Author.Tests.{eq-eqb, eqb-true, eqb-false, ltb-true, ltb-false, le-leb}
use Rattle.cells.specs.Lists.{from, find, count}
use Rattle.cells.proofs.Rows.{lt_or_ge}
use Rattle.tables.specs.Sizes.{max_entries}
use Rattle.tables.specs.Tables.{Tables, lent, result_types, claim, declared}
use Rattle.tables.specs.Value.{is_claim, value_of}
use Rattle.tables.specs.declared.Claim.{Claim}
use Rattle.std.specs.Prelude as std
use Rattle.std.specs.Prelude.{Ok, Some, None}
use Rattle.listed.proofs.Find.{find_none, find_same}
use Rattle.values.specs.Results.{declared_in}
use Rattle.values.specs.Guarded.{guarded_twice}
use Rattle.values.specs.Single.{Single}
use Rattle.values.specs.Twice.{all_arguments, claimed_below, twice_by, defined_twice, refused, values_twice}
use Rattle.values.specs.Claims.{base_of, fill_below, bases_after, put_claim, claims_by, claims_after, number_of, value_in}
use Rattle.values.proofs.Results.{declared_up, result_before, result_apart, result_counted}

-- ---- the bases

length_fill : (f : ℕ → ℕ) (n : ℕ) (xs : List ℕ) → length (fill_below f n xs) ≡ length xs
length_fill f zero xs = refl
length_fill f (suc n) xs = length-set (fill_below f n xs) n (f n) ∙ length_fill f n xs

fill_at : (f : ℕ → ℕ) (n : ℕ) (xs : List ℕ) (i : ℕ) → n ≤ length xs → i < n → get_or (fill_below f n xs) i 0 ≡ f i
fill_at f zero xs i h g = absurd (omega arith)
fill_at f (suc n) xs i h g = go (eqb i n) refl (fill_at f n xs i)
  where
    go : (t : Bool) → eqb i n ≡ t → (n ≤ length xs → i < n → get_or (fill_below f n xs) i 0 ≡ f i) → get_or (set (fill_below f n xs) n (f n)) i 0 ≡ f i
    go true t r =
        let q : i ≡ n = eqb-true i n t in
        rw q (get_or-set_same (fill_below f n xs) n (f n) 0 (omega (arith, length_fill f n xs)))
    go false t r =
        let q : i ≡ n → ⊥ = eqb-false i n t in
        get_or-set_other (fill_below f n xs) n i (f n) 0 q ∙ r (omega arith) (omega (arith, q))

module _ (x : Tables) (few : declared_in x x.counts.operations ≤ max_entries) where
  pub base_is : (i : ℕ) → i ≤ x.counts.operations → base_of x i ≡ declared_in x i
  base_is i h = omega (arith, declared_up x i x.counts.operations h)

  pub bases_tell : (bases : List ℕ) → x.counts.operations ≤ length bases
      → (i : ℕ) → i < x.counts.operations → get_or (bases_after x bases) i 0 ≡ declared_in x i
  bases_tell bases room i h = fill_at (base_of x) x.counts.operations bases i room h ∙ base_is i (omega arith)

-- ---- the claims

both_eq : (a b c d : ℕ) → eqb a b && eqb c d ≡ true → (a ≡ b) × (c ≡ d)
both_eq a b c d = go (eqb a b) (eqb c d) refl refl
  where
    go : (s t : Bool) → eqb a b ≡ s → eqb c d ≡ t → s && t ≡ true → (a ≡ b) × (c ≡ d)
    go true true p q e = (eqb-true a b p, eqb-true c d q)
    go true false p q e = absurd (false≢true e)
    go false t p q e = absurd (false≢true e)

not_both : (a b c d : ℕ) → (a ≡ b → c ≡ d → ⊥) → eqb a b && eqb c d ≡ false
not_both a b c d f = go (eqb a b && eqb c d) refl
  where
    go : (t : Bool) → eqb a b && eqb c d ≡ t → t ≡ false
    go true e = let p = both_eq a b c d e in absurd (f p.0 p.1)
    go false e = refl

length_put : (d : ℕ → ℕ → Bool) (bases : List ℕ) (number : ℕ) (c : std.Option Claim) (cells : List ℕ) → length (put_claim d bases number c cells) ≡ length cells
unfolding put_claim
length_put d bases number None cells = refl
length_put d bases number (Some c) cells = go (d c.operation c.index)
  where
    go : (t : Bool) → length (cond t (set cells (get_or bases c.operation 0 + c.index) number) cells) ≡ length cells
    go true = length-set cells (get_or bases c.operation 0 + c.index) number
    go false = refl

length_claims : (put : ℕ → List ℕ → List ℕ) → ((v : ℕ) (cells : List ℕ) → length (put v cells) ≡ length cells)
    → (vs cells : List ℕ) → length (claims_by put vs cells) ≡ length cells
length_claims put f [] cells = refl
length_claims put f (v ∷ vs) cells = f v (claims_by put vs cells) ∙ length_claims put f vs cells

-- the number of the value, or what the cell held before where there is none
abbrev pub number_or : ℕ → Option ℕ → ℕ
number_or held none = held
number_or held (some v) = v + 1

or_none : (value : Option ℕ) → number_or 0 value ≡ number_of value
or_none none = refl
or_none (some v) = refl

number_cond : (t : Bool) (v held : ℕ) (o : Option ℕ) → cond t (v + 1) (number_or held o) ≡ number_or held (cond t (some v) o)
number_cond true v held o = refl
number_cond false v held o = refl

module _ (x : Tables) (bases : List ℕ) (based : (i : ℕ) → i < x.counts.operations → get_or bases i 0 ≡ declared_in x i)
    (i k : ℕ) (h : k < length (result_types x i)) where
  -- one claim changes the cell of the result that it claims, and no other
  put_at : (number : ℕ) (c : std.Option Claim) (cells : List ℕ) → declared_in x x.counts.operations ≤ length cells
      → get_or (put_claim (declared x) bases number c cells) (declared_in x i + k) 0 ≡ cond (is_claim i k c) number (get_or cells (declared_in x i + k) 0)
  unfolding put_claim
  put_at number None cells room = refl
  put_at number (Some c) cells room = go (declared x c.operation c.index) refl
    where
      there : ℕ
      there = get_or bases c.operation 0 + c.index

      set_there : c.index < length (result_types x c.operation) → (t : Bool) → eqb (declared_in x i + k) there ≡ t
          → get_or (set cells there number) (declared_in x i + k) 0 ≡ cond (eqb c.operation i && eqb c.index k) number (get_or cells (declared_in x i + k) 0)
      set_there h' true t =
          let e : declared_in x i + k ≡ there = eqb-true (declared_in x i + k) there t in
          let b : get_or bases c.operation 0 ≡ declared_in x c.operation = based c.operation (result_counted x c.operation c.index h') in
          let p : i ≡ c.operation = result_apart x i k c.operation c.index h h' (omega arith) in
          let q : k ≡ c.index = omega (arith, ap (declared_in x) p) in
          rw (eq-eqb c.operation i (sym p), eq-eqb c.index k (sym q), e) (get_or-set_same cells there number 0 (omega (arith, result_before x i k x.counts.operations h (result_counted x i k h))))
      set_there h' false t =
          let f : declared_in x i + k ≡ there → ⊥ = eqb-false (declared_in x i + k) there t in
          let b : get_or bases c.operation 0 ≡ declared_in x c.operation = based c.operation (result_counted x c.operation c.index h') in
          let n : eqb c.operation i && eqb c.index k ≡ false = not_both c.operation i c.index k (λ p q. f (omega (arith, ap (declared_in x) p))) in
          rw n (get_or-set_other cells there (declared_in x i + k) number 0 f)

      go : (t : Bool) → declared x c.operation c.index ≡ t
          → get_or (cond t (set cells there number) cells) (declared_in x i + k) 0 ≡ cond (eqb c.operation i && eqb c.index k) number (get_or cells (declared_in x i + k) 0)
      go true t = set_there (ltb-true c.index (length (result_types x c.operation)) t) (eqb (declared_in x i + k) there) refl
      go false t =
          let n : eqb c.operation i && eqb c.index k ≡ false = not_both c.operation i c.index k (λ p q.
          let g : length (result_types x c.operation) ≤ c.index = ltb-false c.index (length (result_types x c.operation)) t in
          omega (arith, ap (λ (j : ℕ). length (result_types x j)) p)) in
          rw n

  module _ (cells : List ℕ) (room : declared_in x x.counts.operations ≤ length cells) where
    abbrev held : ℕ
    held = get_or cells (declared_in x i + k) 0

    abbrev put : ℕ → List ℕ → List ℕ
    put v = put_claim (declared x) bases (v + 1) (claim x v)

    claims_at : (s n : ℕ) → get_or (claims_by put (from s n) cells) (declared_in x i + k) 0 ≡ number_or held (find (λ v. is_claim i k (claim x v)) (from s n))
    claims_at s zero = refl
    claims_at s (suc n) =
        let l : length (claims_by put (from (suc s) n) cells) ≡ length cells = length_claims put (λ v. length_put (declared x) bases (v + 1) (claim x v)) (from (suc s) n) cells in
        put_at (s + 1) (claim x s) (claims_by put (from (suc s) n) cells) (omega arith)
        ∙ ap (cond (is_claim i k (claim x s)) (s + 1)) (claims_at (suc s) n)
        ∙ number_cond (is_claim i k (claim x s)) s held (find (λ v. is_claim i k (claim x v)) (from (suc s) n))

    -- a declared result's cell holds the number of its value, if it has one
    pub claims_tell : get_or (claims_after x bases cells) (declared_in x i + k) 0 ≡ number_or held (value_of x i k)
    unfolding value_of
    claims_tell = claims_at 0 x.counts.values

-- what the code reads at the base of an operation and a result's index
module _ (x : Tables) (bases cells : List ℕ) (few : declared_in x x.counts.operations ≤ max_entries)
    (bases_room : x.counts.operations ≤ length bases) (cells_room : declared_in x x.counts.operations ≤ length cells) where
  pub cell_at : (i k : ℕ) → k < length (result_types x i)
      → get_or (claims_after x (bases_after x bases) cells) (get_or (bases_after x bases) i 0 + k) 0 ≡ number_or (get_or cells (declared_in x i + k) 0) (value_of x i k)
  cell_at i k h =
      ap (λ (b : ℕ). get_or (claims_after x (bases_after x bases) cells) (b + k) 0) (bases_tell x few bases bases_room i (result_counted x i k h))
      ∙ claims_tell x (bases_after x bases) (bases_tell x few bases bases_room) i k h cells cells_room

  -- the same from zeros
  pub value_at_lem : ((j : ℕ) → j < declared_in x x.counts.operations → get_or cells j 0 ≡ 0) → (i k : ℕ) → k < length (result_types x i)
      → get_or (claims_after x (bases_after x bases) cells) (get_or (bases_after x bases) i 0 + k) 0 ≡ number_of (value_of x i k)
  value_at_lem zeros i k h =
      cell_at i k h
      ∙ ap (λ (d : ℕ). number_or d (value_of x i k)) (zeros (declared_in x i + k) (result_before x i k x.counts.operations h (result_counted x i k h)))
      ∙ or_none (value_of x i k)

-- the value that stands in a cell, by what the cell holds: `o` is the value that there is
pub value_found : (o : Option ℕ) (n v : ℕ) → n ≡ number_of o → value_in n ≡ Some v → o ≡ some v
value_found none n v e q =
    absurd (let z : ◌≡◌ {A = std.Option ℕ} None (Some v) = sym (ap value_in e) ∙ q in let y : ◌≡◌ {A = ℕ} 0 1 = cc in omega arith)
value_found (some w) n v e q =
    let z : ◌≡◌ {A = std.Option ℕ} (Some w) (Some v) = sym (ap value_in (e ∙ add-one w)) ∙ q in
    let y : w ≡ v = cc in
    ap some y

pub none_found : (o : Option ℕ) (n : ℕ) → n ≡ number_of o → value_in n ≡ None → o ≡ none
none_found none n e q = refl
none_found (some w) n e q =
    absurd (let z : ◌≡◌ {A = std.Option ℕ} (Some w) None = sym (ap value_in (e ∙ add-one w)) ∙ q in let y : ◌≡◌ {A = ℕ} 0 1 = cc in omega arith)

-- ---- where code 4 passes

either : (a b : Bool) → a || b ≡ false → (a ≡ false) × (b ≡ false)
either true b e = absurd (true≢false e)
either false b e = (refl, e)

pub claim_is : (i k : ℕ) (c : std.Option Claim) → c ≡ Some (record { operation = i; index = k }) → is_claim i k c ≡ true
claim_is i k c e = rw (e, eq-eqb i i refl, eq-eqb k k refl)

-- none of the values below v claims it
pub claimed_none : (x : Tables) (i k v : ℕ) → claimed_below x i k v ≡ false → (w : ℕ) → w < v → is_claim i k (claim x w) ≡ false
claimed_none x i k zero e w h = absurd (omega arith)
claimed_none x i k (suc v) e w h =
    let p = either (is_claim i k (claim x v)) (claimed_below x i k v) e in
    go p.0 (eqb w v) refl (claimed_none x i k v p.1 w)
  where
    go : is_claim i k (claim x v) ≡ false → (t : Bool) → eqb w v ≡ t → (w < v → is_claim i k (claim x w) ≡ false) → is_claim i k (claim x w) ≡ false
    go q true t r = rw (eqb-true w v t) q
    go q false t r = let n : w ≡ v → ⊥ = eqb-false w v t in r (omega (arith, n))

accepted : (found : Option ℕ) → refused found ≡ Ok tt → found ≡ none
accepted none e = refl
accepted (some v) e = absurd (let z : ◌≡◌ {A = ℕ} 0 1 = cc in omega arith)

module _ (x : Tables) (passed : values_twice x ≡ Ok tt) where
  not_twice : (v : ℕ) → v < x.counts.values → twice_by x (count v (all_arguments x)) v (claim x v) ≡ false
  unfolding values_twice defined_twice
  not_twice v h = find_none (defined_twice x) 0 x.counts.values v (accepted _ passed) (omega arith) (omega arith)

  once_listed : (v times : ℕ) (c : std.Option Claim) → twice_by x times v c ≡ false → times ≤ 1
  once_listed v times None e = ltb-false 1 times e
  once_listed v times (Some c) e = ltb-false 1 times (either (ltb 1 times) _ e).0

  module _ (v i k : ℕ) (h : v < x.counts.values) (e : claim x v ≡ Some (record { operation = i; index = k })) (d : declared x i k ≡ true) where
    -- it is not listed, and no lower value claims the same
    alone : (ltb 0 (count v (all_arguments x)) ≡ false) × (claimed_below x i k v ≡ false)
    alone =
        let p = either (ltb 1 (count v (all_arguments x))) _ (rw e at (not_twice v h)) in
        either (ltb 0 (count v (all_arguments x))) (claimed_below x i k v) (rw d at p.1)

  no_lower : (v w i k : ℕ) → w < x.counts.values → claim x v ≡ Some (record { operation = i; index = k }) → claim x w ≡ Some (record { operation = i; index = k }) → declared x i k ≡ true → v < w → ⊥
  no_lower v w i k h e e' d l =
      true≢false (sym (claim_is i k (claim x v) e) ∙ claimed_none x i k w (alone w i k h e' d).1 v l)

  pub single : Single x
  single = record {
    arguments = λ v h. once_listed v (count v (all_arguments x)) (claim x v) (not_twice v h);
    results = λ v i k h e d. omega (arith, ltb-false 0 (count v (all_arguments x)) (alone v i k h e d).0);
    claims = λ v w i k h h' e e' d.
        ⊎_elim
        (λ l. absurd (no_lower v w i k h' e e' d l))
        (λ g. ⊎_elim
        (λ l. absurd (no_lower w v i k h e' e d l))
        (λ g'. omega arith)
        (lt_or_ge w v))
        (lt_or_ge v w);
  }

-- ---- the answer

pub guard_holds : (x : Tables) → declared_in x x.counts.operations ≤ max_entries → guarded_twice x ≡ values_twice x
guard_holds x h = rw (le-leb (declared_in x x.counts.operations) max_entries h)

-- it goes by values, operations, blocks and list entries alone
module _ (x : Tables) where
  abbrev bare : Tables
  bare = lent [] x.v x.o [] x.b [] [] x.l x.counts

  claimed_bare : (i k v : ℕ) → claimed_below bare i k v ≡ claimed_below x i k v
  claimed_bare i k zero = refl
  claimed_bare i k (suc v) = ap (λ (t : Bool). is_claim i k (claim x v) || t) (claimed_bare i k v)

  twice_bare : (times v : ℕ) (c : std.Option Claim) → twice_by bare times v c ≡ twice_by x times v c
  twice_bare times v None = refl
  twice_bare times v (Some c) =
      ap (λ (t : Bool). ltb 1 times || (declared x c.operation c.index && (ltb 0 times || t))) (claimed_bare c.operation c.index v)

  pub bare_twice : values_twice (lent [] x.v x.o [] x.b [] [] x.l x.counts) ≡ values_twice x
  unfolding values_twice defined_twice
  bare_twice =
      ap refused (find_same (defined_twice bare) (defined_twice x) 0 x.counts.values (λ v _ _. twice_bare (count v (all_arguments x)) v (claim x v)))
