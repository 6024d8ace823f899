-- What is seen by the marks, the bases and the claims is what is defined twice, where there is room. Assumes nothing.
use Prim.Native.Nat.{ℕ, zero, suc, ◌+◌, ◌≤◌, ◌<◌}
use native.Mathlib.Omega.{arith}
use mathlib.Core.Path.{◌≡◌, refl, sym, ap, ◌∙◌}
use mathlib.Core.Bool.{Bool, true, false, not, ◌&&◌, ◌||◌, false≢true}
use mathlib.Core.List.{List}
use lib.Dec.{eqb, ltb}
use lib.ListN.{length, get_or, replicate, length-replicate}
use borrow.Author.Tests.{eq-eqb, ne_eqb, ltb-true, lt-leb}
use Rattle.cells.specs.Lists.{below, find, count}
use Rattle.tables.specs.Sizes.{max_entries, max_values}
use Rattle.tables.specs.Tables.{Tables, result_types, claim, declared}
use Rattle.tables.specs.Value.{is_claim, value_of}
use Rattle.tables.specs.declared.Claim.{Claim}
use Rattle.tables.specs.Answer.{Answer}
use Rattle.std.specs.Prelude as std
use Rattle.std.specs.Prelude.{Ok, Some, None}
use Rattle.listed.specs.Marks.{mark_all}
use Rattle.listed.proofs.Find.{find_same, find_at, find_low}
use Rattle.listed.proofs.Marks.{cap, cap_once, cap_twice, mark_of}
use Rattle.values.specs.Results.{declared_in}
use Rattle.values.specs.Guarded.{guarded_twice}
use Rattle.values.specs.Claims.{base_of, bases_after, claims_after, seen_twice, lowest_seen}
use Rattle.values.specs.Twice.{all_arguments, claimed_below, twice_by, defined_twice, refused, values_twice}
use Rattle.values.proofs.Laws.{number_or, cell_at, claim_is, claimed_none, guard_holds}

-- one of the values below v claims it
claimed_some : (x : Tables) (i k v : ℕ) → claimed_below x i k v ≡ true → (w : ℕ) × ((w < v) × (is_claim i k (claim x w) ≡ true))
claimed_some x i k zero e = absurd (false≢true e)
claimed_some x i k (suc v) e = go (is_claim i k (claim x v)) refl e (claimed_some x i k v)
  where
    go : (t : Bool) → is_claim i k (claim x v) ≡ t → t || claimed_below x i k v ≡ true
        → (claimed_below x i k v ≡ true → (w : ℕ) × ((w < v) × (is_claim i k (claim x w) ≡ true)))
        → (w : ℕ) × ((w < suc v) × (is_claim i k (claim x w) ≡ true))
    go true t e r = (v, (omega arith, t))
    go false t e r = let s = r e in (s.0, (omega (arith, s.1.0), s.1.1))

-- a value that claims a result is the one found, unless a lower one claims it
number_tells : (x : Tables) (held i k v : ℕ) → v < x.counts.values → is_claim i k (claim x v) ≡ true
    → not (eqb (number_or held (value_of x i k)) (v + 1)) ≡ claimed_below x i k v
unfolding value_of
number_tells x held i k v h e = go (claimed_below x i k v) refl
  where
    go : (t : Bool) → claimed_below x i k v ≡ t → not (eqb (number_or held (find (λ w. is_claim i k (claim x w)) (below x.counts.values))) (v + 1)) ≡ t
    go true t =
        let s = claimed_some x i k v t in
        let f = find_low (λ w. is_claim i k (claim x w)) 0 x.counts.values s.0 s.1.1 (omega arith) (omega (arith, s.1.0)) in
        rw (f.1.0, ne_eqb (f.0 + 1) (v + 1) (λ q. omega (arith, f.1.1, s.1.0)))
    go false t =
        let f = find_at (λ w. is_claim i k (claim x w)) 0 x.counts.values v e (omega arith) (omega arith) (λ w _ g. claimed_none x i k v t w g) in
        rw (f, eq-eqb (v + 1) (v + 1) refl)

module _ (x : Tables) (bases cells : List ℕ) (held : ℕ → ℕ → ℕ)
    (told : (i k : ℕ) → k < length (result_types x i) → get_or cells (get_or bases i 0 + k) 0 ≡ number_or (held i k) (value_of x i k))
    (v n : ℕ) (h : v < x.counts.values) where
  seen_by : (c : std.Option Claim) → claim x v ≡ c → seen_twice (declared x) bases cells (cap n) (v + 1) c ≡ twice_by x n v c
  unfolding seen_twice
  seen_by None e = cap_twice n
  seen_by (Some c) e = go (declared x c.operation c.index) refl
    where
      go : (t : Bool) → declared x c.operation c.index ≡ t
          → ltb 1 (cap n) || (t && (ltb 0 (cap n) || not (eqb (get_or cells (get_or bases c.operation 0 + c.index) 0) (v + 1))))
          ≡ ltb 1 n || (t && (ltb 0 n || claimed_below x c.operation c.index v))
      go true t =
          let q = told c.operation c.index (ltb-true c.index (length (result_types x c.operation)) t) in
          let m = number_tells x (held c.operation c.index) c.operation c.index v h (claim_is c.operation c.index (claim x v) e) in
          rw (cap_twice n, cap_once n, q, m)
      go false t = rw (cap_twice n)

-- the arrays of the code: what stood in the cells before is read nowhere
module _ (x : Tables) (bases₀ cells₀ bases marks cells : List ℕ)
    (few_values : x.counts.values ≤ max_values)
    (few_results : declared_in x x.counts.operations ≤ max_entries)
    (bases_room : x.counts.operations ≤ length bases₀) (cells_room : max_entries ≤ length cells₀)
    (eb : bases ≡ bases_after x bases₀)
    (em : marks ≡ mark_all (replicate max_values 0) (all_arguments x))
    (ec : cells ≡ claims_after x bases cells₀) where
  abbrev held : ℕ → ℕ → ℕ
  held i k = get_or cells₀ (declared_in x i + k) 0

  told : (i k : ℕ) → k < length (result_types x i) → get_or cells (get_or bases i 0 + k) 0 ≡ number_or (held i k) (value_of x i k)
  told i k h = rw (ec, eb) (cell_at x bases₀ cells₀ few_results bases_room (omega arith) i k h)

  lowest_is : lowest_seen x marks bases cells ≡ find (defined_twice x) (below x.counts.values)
  unfolding lowest_seen defined_twice
  lowest_is = find_same _ _ 0 x.counts.values (λ v _ h.
      let e : get_or marks v 0 ≡ cap (count v (all_arguments x)) = rw em (mark_of max_values (all_arguments x) v (omega arith)) in
      rw e (seen_by x bases cells held told v (count v (all_arguments x)) (omega arith) (claim x v) refl))

  pub seen_answer : (r : Answer) → r ≡ refused (lowest_seen x marks bases cells) → r ≡ guarded_twice x
  unfolding values_twice
  seen_answer r e = e ∙ ap refused lowest_is ∙ sym (guard_holds x few_results)

-- cells that are too short are no zeros of full length
pub no_zeros : (cells : List ℕ) (n : ℕ) → length cells < n → cells ≡ replicate n 0 → ⊥
no_zeros cells n h e = omega (arith, ap (length {A = ℕ}) e, length-replicate {A = ℕ} n 0)

-- what the total tells
module _ (x : Tables) (total : ℕ) (e : total ≡ base_of x x.counts.operations) where
  pub few : total ≤ max_entries → declared_in x x.counts.operations ≤ max_entries
  few h = omega arith

  pub not_few : max_entries < total → declared_in x x.counts.operations ≤ max_entries → ⊥
  not_few h f = omega arith

  pub many : max_entries < total → Ok tt ≡ guarded_twice x
  many h = rw (lt-leb (declared_in x x.counts.operations) max_entries (omega arith))
