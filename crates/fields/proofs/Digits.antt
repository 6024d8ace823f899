-- A number read digit by digit, as the loop of `unsigned` does, is `unsigned_of`; and what a minus makes of it is `signed_of`.
use Rattle.std.specs.Prelude.{nat_eq, Option, Some, None}
use Prim.Native.Nat.{ℕ, zero, suc, ◌+◌, ◌-◌, ◌*◌, ◌^◌, ◌≤◌, ◌<◌}
use mathlib.Core.Bool.{Bool, true, false, cond, ◌&&◌}
use mathlib.Core.List.{List, [], ◌∷◌}
use mathlib.Core.Path.{◌≡◌, refl, sym, ◌∙◌, ap}
use native.Mathlib.Omega.{arith}
use native.Mathlib.Numerals.{add-one}
use lib.Dec.{leb, ltb, eqb}
use lib.ListN.{length, get_or, take, drop, drop_of_length-le}
use lib.IntN.{ℤ, pos, negsuc}
use lib.Seq.{drop-cons, take_all}
use borrow.Author.Tests.{le-leb, lt-leb, leb-true, leb-false, lt-ltb, le-ltb, ltb-true, ltb-false, eq-eqb, ne_eqb, eqb-true}
use Rattle.fields.specs.Number.{is_digit, all_digits, value_after, is_decimal, decimal_of, plain, minus, written, up_to, within, unsigned_of, signed_of}

-- what `is_empty` says of a length
module _ {t : Bool} {n : ℕ} (e : t ≡ nat_eq n 0) where
  pub none_left : t ≡ true → n ≡ 0
  none_left k = grind arith

  pub some_left : t ≡ false → 0 < n
  some_left k = grind arith

-- the byte b may follow digits of the value x
abbrev pub follows : ℕ → ℕ → ℕ → Bool
follows max x b = is_digit b && leb (x * 10 + (b - 48)) max

-- what reading on after digits of the value x gives
unfoldable pub read_on : ℕ → ℕ → List ℕ → Option ℕ
read_on max x [] = Some x
read_on max x (b ∷ bs) = cond (follows max x b) (read_on max (x * 10 + (b - 48)) bs) None

value_grows : (x : ℕ) (bs : List ℕ) → x ≤ value_after x bs
unfolding value_after
value_grows x [] = omega arith
value_grows x (b ∷ bs) = let h = value_grows (x * 10 + (b - 48)) bs in omega arith

both_false : (t : Bool) → t && false ≡ false
both_false true = refl
both_false false = refl

bad_anyway : (t : Bool) → ◌≡◌ {A = Option ℕ} (cond t None None) None
bad_anyway true = refl
bad_anyway false = refl

-- the bound is asked at each digit, or once at the end
abbrev bounded : ℕ → ℕ → List ℕ → Option ℕ
bounded max x bs = cond (all_digits bs) (cond (leb (value_after x bs) max) (Some (value_after x bs)) None) None

read_on_lem : (max x : ℕ) (bs : List ℕ) → x ≤ max → read_on max x bs ≡ bounded max x bs
unfolding read_on all_digits value_after
read_on_lem max x [] h = rw (le-leb x max h)
read_on_lem max x (b ∷ bs) h = by (is_digit b) (leb y max) refl (λ k. read_on_lem max y bs k)
  where
    y : ℕ
    y = x * 10 + (b - 48)

    by : (d t : Bool) → leb y max ≡ t → (y ≤ max → read_on max y bs ≡ bounded max y bs)
        → cond (d && t) (read_on max y bs) None ≡ cond (d && all_digits bs) (cond (leb (value_after y bs) max) (Some (value_after y bs)) None) None
    by false t e ih = refl
    by true true e ih = ih (leb-true y max e)
    by true false e ih =
        let more = value_grows y bs in
        let over = leb-false y max e in
        rw (lt-leb (value_after y bs) max (omega arith)) (sym (bad_anyway (all_digits bs)))

-- a minus is no digit, so what it starts is no decimal number
no_minus : (max : ℕ) (o : Option ℕ) → up_to max (minus o) ≡ None
no_minus max None = refl
no_minus max (Some zero) = refl
no_minus max (Some (suc n)) = refl

minus_first : (b : ℕ) (bs : List ℕ) → b ≡ 45 → is_decimal (b ∷ bs) ≡ false
unfolding is_decimal all_digits
minus_first b [] e = rw e
minus_first b (c ∷ bs) e = rw e

unsigned_decimal : (max : ℕ) (s : List ℕ) → unsigned_of max s ≡ up_to max (plain (decimal_of s))
unfolding unsigned_of written decimal_of is_decimal
unsigned_decimal max [] = refl
unsigned_decimal max (b ∷ bs) = by (eqb b 45) refl
  where
    by : (t : Bool) → eqb b 45 ≡ t → up_to max (cond t (minus (decimal_of bs)) (plain (decimal_of (b ∷ bs)))) ≡ up_to max (plain (decimal_of (b ∷ bs)))
    by true e = no_minus max (decimal_of bs) ∙ rw (minus_first b bs (eqb-true b 45 e))
    by false e = refl

-- ---- the ways through the loop

pub empty : (max : ℕ) (s : List ℕ) → length s ≡ 0 → None ≡ unsigned_of max s
unfolding unsigned_of written
empty max [] h = refl
empty max (b ∷ bs) h = absurd (omega arith)

pub zero_first : (max : ℕ) (s : List ℕ) → get_or s 0 0 ≡ 48 → 1 < length s → None ≡ unsigned_of max s
unfolding decimal_of is_decimal
zero_first max [] e h = absurd (omega arith)
zero_first max (b ∷ []) e h = absurd (omega arith)
zero_first max (b ∷ c ∷ bs) e h = sym (unsigned_decimal max (b ∷ c ∷ bs) ∙ rw (eq-eqb b 48 e))

one_digit : (t : Bool) → t && true ≡ t
one_digit true = refl
one_digit false = refl

bounded_is : (max : ℕ) (s : List ℕ) → is_decimal s ≡ all_digits s → bounded max 0 s ≡ unsigned_of max s
unfolding decimal_of
bounded_is max s e = by (all_digits s) ∙ sym (unsigned_decimal max s ∙ rw e)
  where
    by : (t : Bool) → cond t (cond (leb (value_after 0 s) max) (Some (value_after 0 s)) None) None ≡ up_to max (plain (cond t (Some (value_after 0 s)) None))
    by true = refl
    by false = refl

pub start : (max : ℕ) (s : List ℕ) → 0 < length s → (get_or s 0 0 ≡ 48 → length s ≤ 1) → read_on max 0 (drop 0 s) ≡ unsigned_of max s
unfolding is_decimal all_digits
start max [] h k = absurd (omega arith)
start max (b ∷ []) h k = read_on_lem max 0 (b ∷ []) (omega arith) ∙ bounded_is max (b ∷ []) (sym (one_digit (is_digit b)))
start max (b ∷ c ∷ bs) h k =
    read_on_lem max 0 (b ∷ c ∷ bs) (omega arith) ∙ bounded_is max (b ∷ c ∷ bs) (rw (ne_eqb b 48 (λ e. let l = k e in omega arith)))

module _ (max x i : ℕ) (s : List ℕ) (h : i < length s) where
  pub stuck : follows max x (get_or s i 0) ≡ false → None ≡ read_on max x (drop i s)
  unfolding read_on
  stuck e = rw (drop-cons s i 0 h, e)

  pub onward : follows max x (get_or s i 0) ≡ true → read_on max (x * 10 + (get_or s i 0 - 48)) (drop (i + 1) s) ≡ read_on max x (drop i s)
  unfolding read_on
  onward e = rw (drop-cons s i 0 h, e, add-one)

pub ended : (max x i : ℕ) (s : List ℕ) → length s ≤ i → Some x ≡ read_on max x (drop i s)
unfolding read_on
ended max x i s h = rw (drop_of_length-le s h)

-- ---- whether a byte follows, from the tests of the code
module _ (max x b : ℕ) where
  pub low : b < 48 → follows max x b ≡ false
  low h = rw (lt-leb 48 b h)

  pub high : 57 < b → follows max x b ≡ false
  high h = rw (lt-leb b 57 h, both_false (leb 48 b))

  pub over : max < x * 10 + (b - 48) → follows max x b ≡ false
  over h = rw (lt-leb (x * 10 + (b - 48)) max h, both_false (is_digit b))

  pub fine : 48 ≤ b → b ≤ 57 → x * 10 + (b - 48) ≤ max → follows max x b ≡ true
  fine h k l = rw (le-leb 48 b h, le-leb b 57 k, le-leb (x * 10 + (b - 48)) max l)

-- ---- signed

-- no number lies in an empty range
pub nothing_within : (half : ℕ) (s : List ℕ) → half ≡ 0 → None ≡ signed_of half s
unfolding signed_of
nothing_within half s e = rw e (by (written s))
  where
    by : (o : Option ℤ) → None ≡ within 0 o
    by None = refl
    by (Some (pos n)) = rw (le-ltb n 0 (omega arith))
    by (Some (negsuc n)) = rw (le-ltb n 0 (omega arith))

pub signed_empty : (half : ℕ) (s : List ℕ) → length s ≡ 0 → None ≡ signed_of half s
unfolding signed_of written
signed_empty half [] h = refl
signed_empty half (b ∷ bs) h = absurd (omega arith)

-- without a minus the greatest number is half - 1
pub signed_plain : (half : ℕ) (s : List ℕ) → 0 < half → 0 < length s → (get_or s 0 0 ≡ 45 → ⊥) → unsigned_of (half - 1) s ≡ signed_of half s
unfolding signed_of unsigned_of written
signed_plain half [] p h e = absurd (omega arith)
signed_plain half (b ∷ bs) p h e = rw (ne_eqb b 45 e) (by (decimal_of (b ∷ bs)))
  where
    same : (n : ℕ) → leb n (half - 1) ≡ ltb n half
    same n = test (ltb n half) refl
      where
        test : (t : Bool) → ltb n half ≡ t → leb n (half - 1) ≡ ltb n half
        test true e = let l = ltb-true n half e in le-leb n (half - 1) (omega arith) ∙ sym e
        test false e = let l = ltb-false n half e in lt-leb n (half - 1) (omega arith) ∙ sym e

    by : (o : Option ℕ) → up_to (half - 1) (plain o) ≡ within half (plain o)
    by None = refl
    by (Some n) = rw (same n)

-- after a minus the size is nonzero, and at most half
abbrev negated : Option ℕ → Option ℕ
negated None = None
negated (Some m) = cond (eqb m 0) None (Some (2 ^ 64 - m))

negated_is : (half : ℕ) (o : Option ℕ) → within half (minus o) ≡ negated (up_to half (plain o))
negated_is half None = refl
negated_is half (Some zero) = rw (le-leb 0 half (omega arith))
negated_is half (Some (suc n)) = by (leb (suc n) half) refl
  where
    by : (t : Bool) → leb (suc n) half ≡ t → cond (ltb n half) (Some (2 ^ 64 - suc n)) None ≡ negated (cond t (Some (suc n)) None)
    by true e = rw (lt-ltb n half (leb-true (suc n) half e), ne_eqb (suc n) 0 (λ z. omega arith))
    by false e = let h = leb-false (suc n) half e in rw (le-ltb n half (omega arith))

-- the bytes after the first, as the code lends them
abbrev pub after_first : List ℕ → List ℕ
after_first s = take (length s - 1) (drop 1 s)

signed_minus : (half : ℕ) (s : List ℕ) → 0 < length s → get_or s 0 0 ≡ 45 → signed_of half s ≡ negated (unsigned_of half (after_first s))
unfolding signed_of written
signed_minus half [] h e = absurd (omega arith)
signed_minus half (b ∷ bs) h e =
    rw (eq-eqb b 45 e, take_all (length (b ∷ bs) - 1) bs (omega arith), unsigned_decimal half bs) (negated_is half (decimal_of bs))

module _ (half : ℕ) (s : List ℕ) (h : 0 < length s) (first : get_or s 0 0 ≡ 45) (r : Option ℕ) (read : r ≡ unsigned_of half (after_first s)) where
  pub minus_bad : r ≡ None → None ≡ signed_of half s
  minus_bad e = sym (signed_minus half s h first ∙ rw (← read, e))

  pub minus_zero : (m : ℕ) → r ≡ Some m → m ≡ 0 → None ≡ signed_of half s
  minus_zero m e z = sym (signed_minus half s h first ∙ rw (← read, e, eq-eqb m 0 z))

  pub minus_size : (m : ℕ) → r ≡ Some m → (m ≡ 0 → ⊥) → m < 2 ^ 64 → Some (2 ^ 64 - 1 - m + 1) ≡ signed_of half s
  minus_size m e z l = sym (signed_minus half s h first ∙ rw (← read, e, ne_eqb m 0 z) (ap Some (omega arith)))
