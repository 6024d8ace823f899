-- A number taken from the part of a text that starts at a place: reading on from a cursor up to the byte that ends the part.
use Rattle.std.specs.Prelude.{Option, Some, None}
use Prim.Native.Nat.{ℕ, ◌+◌, ◌-◌, ◌*◌, ◌^◌, ◌≤◌, ◌<◌}
use mathlib.Core.Bool.{true, false}
use mathlib.Core.List.{List, [], ◌∷◌}
use mathlib.Core.Path.{◌≡◌, refl, sym, ◌∙◌, ap}
use native.Mathlib.Omega.{arith}
use native.Mathlib.Numerals.{add-one}
use lib.ListN.{length, get_or, drop_of_length-le}
use lib.Seq.{drop-cons, take_all}
use borrow.Author.Tests.{eq-eqb, ne_eqb, le-leb}
use Rattle.fields.specs.Cut.{until, end_from}
use Rattle.fields.specs.Number.{value_after, is_decimal, decimal_of, written, unsigned_of}
use Rattle.fields.specs.Taken.{part_from, took, taken, unsigned_from, signed_from}
use Rattle.fields.specs.declared.Taken.{Taken}
use Rattle.fields.proofs.Digits.{follows, read_on, empty, zero_first, start, nothing_within, signed_empty, signed_plain, after_first, minus_bad, minus_zero, minus_size}
use Rattle.fields.proofs.Parts.{until_here, until_next, until_end}

impossible {ℓ} : {X : Type ℓ} → ◌≡◌ {A = ℕ} 0 1 → X
impossible e = absurd (omega arith)

-- ---- what was taken, and what was not
abbrev number_of : Option Taken → ℕ
number_of None = 0
number_of (Some t) = t.number

abbrev next_of : Option Taken → ℕ
next_of None = 0
next_of (Some t) = t.next

module _ (a : Option ℕ) (e : ℕ) where
  pub taken_bad : taken a e ≡ None → a ≡ None
  taken_bad h = by a h
    where
      by : (a : Option ℕ) → taken a e ≡ None → a ≡ None
      by None h = refl
      by (Some n) h = impossible (cc)

  pub taken_is : (n next : ℕ) → taken a e ≡ took n next → (a ≡ Some n) × (next ≡ e)
  taken_is n next h = by a h
    where
      by : (a : Option ℕ) → taken a e ≡ took n next → (a ≡ Some n) × (next ≡ e)
      by None h = impossible (cc)
      by (Some m) h = (ap Some (ap number_of h), sym (ap next_of h))

-- ---- the part at a cursor
module _ (b i : ℕ) (s : List ℕ) where
  part_end : length s ≤ i → part_from b i s ≡ []
  unfolding until
  part_end h = rw (drop_of_length-le s h)

  part_here : i < length s → get_or s i 0 ≡ b → part_from b i s ≡ []
  unfolding until
  part_here h e = rw (drop-cons s i 0 h, eq-eqb (get_or s i 0) b e)

  part_on : i < length s → (get_or s i 0 ≡ b → ⊥) → part_from b i s ≡ get_or s i 0 ∷ part_from b (i + 1) s
  unfolding until
  part_on h n = rw (drop-cons s i 0 h, ne_eqb (get_or s i 0) b n, add-one)

-- ---- reading on from i after digits of the value x
unfoldable pub take_on : ℕ → ℕ → ℕ → ℕ → List ℕ → Option Taken
take_on b max x i s = taken (read_on max x (part_from b i s)) (end_from b i s + 1)

module _ (b max x i : ℕ) (s : List ℕ) where
  pub take_end : length s ≤ i → i ≤ length s → took x (i + 1) ≡ take_on b max x i s
  unfolding take_on read_on
  take_end h k = let e : i ≡ end_from b i s = omega (arith, until_end b i s h) in rw (part_end b i s h, ← e)

  module _ (h : i < length s) where
    pub take_here : get_or s i 0 ≡ b → took x (i + 1) ≡ take_on b max x i s
    unfolding take_on read_on
    take_here e = rw (part_here b i s h e, until_here b i s h e)

    pub take_stuck : (get_or s i 0 ≡ b → ⊥) → follows max x (get_or s i 0) ≡ false → None ≡ take_on b max x i s
    unfolding take_on read_on
    take_stuck n e = rw (part_on b i s h n, e)

    pub take_onward : (get_or s i 0 ≡ b → ⊥) → follows max x (get_or s i 0) ≡ true
        → take_on b max (x * 10 + (get_or s i 0 - 48)) (i + 1) s ≡ take_on b max x i s
    unfolding take_on read_on
    take_onward n e = rw (part_on b i s h n, e, until_next b i s h n)

-- ---- the ways into the loop

zero_is : (max d : ℕ) → d ≡ 48 → Some 0 ≡ unsigned_of max (d ∷ [])
unfolding unsigned_of written decimal_of is_decimal value_after
zero_is max d e = rw (e, le-leb 0 max (omega arith))

module _ (b max p : ℕ) (s : List ℕ) where
  pub no_part : length s ≤ p → None ≡ unsigned_from b max p s
  unfolding unsigned_from
  no_part h = rw (part_end b p s h, ← empty max [] refl)

  module _ (h : p < length s) where
    pub empty_part : get_or s p 0 ≡ b → None ≡ unsigned_from b max p s
    unfolding unsigned_from
    empty_part e = rw (part_here b p s h e, ← empty max [] refl)

    module _ (n : get_or s p 0 ≡ b → ⊥) where
      pub take_start : (get_or s p 0 ≡ 48 → ⊥) → take_on b max 0 p s ≡ unsigned_from b max p s
      unfolding unsigned_from take_on
      take_start k =
          rw (part_on b p s h n)
          (ap (λ (a : Option ℕ). taken a (end_from b p s + 1)) (start max (get_or s p 0 ∷ part_from b (p + 1) s) (omega arith) (λ e. absurd (k e))))

      alone : get_or s p 0 ≡ 48 → part_from b (p + 1) s ≡ [] → end_from b (p + 1) s ≡ p + 1 → took 0 (p + 2) ≡ unsigned_from b max p s
      unfolding unsigned_from
      alone z e f =
          let there : p + 2 ≡ end_from b p s + 1 = omega (arith, until_next b p s h n, f) in
          ap (took 0) there
          ∙ ap (λ (a : Option ℕ). taken a (end_from b p s + 1)) (zero_is max (get_or s p 0) z ∙ ap (unsigned_of max) (sym (part_on b p s h n ∙ rw e)))

      pub zero_last : get_or s p 0 ≡ 48 → length s ≤ p + 1 → took 0 (p + 2) ≡ unsigned_from b max p s
      zero_last z k = alone z (part_end b (p + 1) s k) (omega (arith, until_end b (p + 1) s k))

      pub zero_alone : get_or s p 0 ≡ 48 → p + 1 < length s → get_or s (p + 1) 0 ≡ b → took 0 (p + 2) ≡ unsigned_from b max p s
      zero_alone z k e = alone z (part_here b (p + 1) s k e) (until_here b (p + 1) s k e)

      pub zero_leads : get_or s p 0 ≡ 48 → p + 1 < length s → (get_or s (p + 1) 0 ≡ b → ⊥) → None ≡ unsigned_from b max p s
      unfolding unsigned_from
      zero_leads z k e =
          rw (part_on b p s h n, part_on b (p + 1) s k e)
          (ap (λ (a : Option ℕ). taken a (end_from b p s + 1)) (zero_first max (get_or s p 0 ∷ get_or s (p + 1) 0 ∷ part_from b (p + 1 + 1) s) z (omega arith)))

-- ---- signed
module _ (b half p : ℕ) (s : List ℕ) where
  pub signed_no_part : length s ≤ p → None ≡ signed_from b half p s
  unfolding signed_from
  signed_no_part h = rw (part_end b p s h, ← signed_empty half [] refl)

  pub signed_no_range : half ≡ 0 → None ≡ signed_from b half p s
  unfolding signed_from
  signed_no_range e = rw (← nothing_within half (part_from b p s) e)

  module _ (h : p < length s) where
    pub signed_empty_part : get_or s p 0 ≡ b → None ≡ signed_from b half p s
    unfolding signed_from
    signed_empty_part e = rw (part_here b p s h e, ← signed_empty half [] refl)

    module _ (n : get_or s p 0 ≡ b → ⊥) where
      pub signed_plain_part : 0 < half → (get_or s p 0 ≡ 45 → ⊥) → unsigned_from b (half - 1) p s ≡ signed_from b half p s
      unfolding signed_from unsigned_from
      signed_plain_part l m =
          rw (part_on b p s h n)
          (ap (λ (a : Option ℕ). taken a (end_from b p s + 1)) (signed_plain half (get_or s p 0 ∷ part_from b (p + 1) s) l (omega arith) m))

      module _ (m : get_or s p 0 ≡ 45) (r : Option Taken) (read : r ≡ unsigned_from b half (p + 1) s) where
        after : unsigned_of half (part_from b (p + 1) s) ≡ unsigned_of half (after_first (get_or s p 0 ∷ part_from b (p + 1) s))
        after = ap (unsigned_of half) (sym (take_all (length (get_or s p 0 ∷ part_from b (p + 1) s) - 1) (part_from b (p + 1) s) (omega arith)))

        pub minus_part_bad : r ≡ None → None ≡ signed_from b half p s
        unfolding signed_from unsigned_from
        minus_part_bad e =
            let a = taken_bad (unsigned_of half (part_from b (p + 1) s)) (end_from b (p + 1) s + 1) (sym read ∙ e) in
            rw (part_on b p s h n)
            (ap (λ (a : Option ℕ). taken a (end_from b p s + 1))
            (minus_bad half (get_or s p 0 ∷ part_from b (p + 1) s) (omega arith) m (unsigned_of half (part_from b (p + 1) s)) after a))

        module _ (size next : ℕ) (e : r ≡ took size next) where
          got : (unsigned_of half (part_from b (p + 1) s) ≡ Some size) × (next ≡ end_from b (p + 1) s + 1)
          unfolding unsigned_from
          got = taken_is (unsigned_of half (part_from b (p + 1) s)) (end_from b (p + 1) s + 1) size next (sym read ∙ e)

          pub minus_part_zero : size ≡ 0 → None ≡ signed_from b half p s
          unfolding signed_from
          minus_part_zero z =
              rw (part_on b p s h n)
              (ap (λ (a : Option ℕ). taken a (end_from b p s + 1))
              (minus_zero half (get_or s p 0 ∷ part_from b (p + 1) s) (omega arith) m (unsigned_of half (part_from b (p + 1) s)) after size got.0 z))

          pub minus_part_size : (size ≡ 0 → ⊥) → size < 2 ^ 64 → took (2 ^ 64 - 1 - size + 1) next ≡ signed_from b half p s
          unfolding signed_from
          minus_part_size z l =
              let there : next ≡ end_from b p s + 1 = omega (arith, got.1, until_next b p s h n) in
              ap (took (2 ^ 64 - 1 - size + 1)) there
              ∙ rw (part_on b p s h n)
              (ap (λ (a : Option ℕ). taken a (end_from b p s + 1))
              (minus_size half (get_or s p 0 ∷ part_from b (p + 1) s) (omega arith) m (unsigned_of half (part_from b (p + 1) s)) after size got.0 z l))
