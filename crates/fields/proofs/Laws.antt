-- What a reader may rely on, whatever reads: the number that is read is the number written and lies in the range, a number has one
-- writing, and the parts of a text, put together again, are the text.
use Rattle.std.specs.Prelude.{Option, Some, None}
use Prim.Native.Nat.{ℕ, zero, suc, ◌+◌, ◌-◌, ◌*◌, ◌^◌, ◌≤◌, ◌<◌}
use mathlib.Core.Bool.{Bool, true, false, cond, not, ◌&&◌}
use mathlib.Core.List.{List, [], ◌∷◌, ◌++◌}
use mathlib.Core.Path.{◌≡◌, refl, sym, ◌∙◌, ap}
use native.Mathlib.Omega.{arith}
use lib.Dec.{leb, ltb, eqb}
use lib.IntN.{ℤ, pos, negsuc}
use lib.ListN.{length}
use lib.Signed.{mag}
use borrow.Author.Tests.{leb-true, leb-false, ltb-true, ltb-false, eqb-true, eqb-false, not-true}
use mir.Syntax.{w64}
use mir.Val.{of_z}
use Rattle.fields.specs.Number.{is_digit, all_digits, value_after, is_decimal, decimal_of, plain, minus, written, up_to, within, unsigned_of, signed_of}
use Rattle.fields.specs.Cut.{until, on_first, split}
use Rattle.fields.proofs.Parts.{split_cons}

impossible {ℓ} : {X : Type ℓ} → ◌≡◌ {A = ℕ} 0 1 → X
impossible e = absurd (omega arith)

-- ---- what is read is what is written

-- an unsigned number is the number written, and at most max
pub unsigned_is : (max : ℕ) (s : List ℕ) (n : ℕ) → unsigned_of max s ≡ Some n → (written s ≡ Some (pos n)) × (n ≤ max)
unfolding unsigned_of
unsigned_is max s n e = by (written s) e
  where
    by : (o : Option ℤ) → up_to max o ≡ Some n → (o ≡ Some (pos n)) × (n ≤ max)
    by None h = impossible (cc)
    by (Some (negsuc k)) h = impossible (cc)
    by (Some (pos k)) h = test (leb k max) refl h
      where
        test : (t : Bool) → leb k max ≡ t → cond t (Some k) None ≡ Some n → (Some (pos k) ≡ Some (pos n)) × (n ≤ max)
        test false q h = impossible (cc)
        test true q h = let same : k ≡ n = cc in let l = leb-true k max q in (ap (λ (j : ℕ). Some (pos j)) same, omega arith)

-- a signed number is the number written, in 64 bits as the language writes an i64, and from -half to half - 1: `mag` of -(n + 1) is n
pub signed_is : (half : ℕ) (s : List ℕ) (n : ℕ) → signed_of half s ≡ Some n → (z : ℤ) × ((written s ≡ Some z) × (n ≡ of_z w64 z) × (mag z < half))
unfolding signed_of
signed_is half s n e = by (written s) e
  where
    test : (z : ℤ) (t : Bool) → ltb (mag z) half ≡ t → cond t (Some (of_z w64 z)) None ≡ Some n
        → (y : ℤ) × ((Some z ≡ Some y) × (n ≡ of_z w64 y) × (mag y < half))
    test z false q h = impossible (cc)
    test z true q h = let same : n ≡ of_z w64 z = cc in (z, (refl, same, ltb-true (mag z) half q))

    by : (o : Option ℤ) → within half o ≡ Some n → (z : ℤ) × ((o ≡ Some z) × (n ≡ of_z w64 z) × (mag z < half))
    by None h = impossible (cc)
    by (Some (pos k)) h = test (pos k) (ltb k half) refl h
    by (Some (negsuc k)) h = test (negsuc k) (ltb k half) refl h

-- ---- a number has one writing

both : (t : Bool) {u : Bool} → t && u ≡ true → (t ≡ true) × (u ≡ true)
both true e = (refl, e)
both false e = impossible (cc)

digit : (b : ℕ) → is_digit b ≡ true → (48 ≤ b) × (b ≤ 57)
digit b e = let h = both (leb 48 b) e in (leb-true 48 b h.0, leb-true b 57 h.1)

-- as many digits after x as after y, of one value: x is y, and the digits are the same
aligned : (x y : ℕ) (s t : List ℕ) → all_digits s ≡ true → all_digits t ≡ true → length s ≡ length t → value_after x s ≡ value_after y t
    → (x ≡ y) × (s ≡ t)
unfolding all_digits value_after
aligned x y [] [] d f l e = (e, refl)
aligned x y [] (c ∷ t) d f l e = absurd (omega arith)
aligned x y (b ∷ s) [] d f l e = absurd (omega arith)
aligned x y (b ∷ s) (c ∷ t) d f l e =
    let db = both (is_digit b) d in
    let dc = both (is_digit c) f in
    let rest = aligned (x * 10 + (b - 48)) (y * 10 + (c - 48)) s t db.1 dc.1 (omega arith) e in
    let hb = digit b db.0 in
    let hc = digit c dc.0 in
    let first : b ≡ c = omega (arith, rest.0) in
    (omega (arith, rest.0), ap (λ (q : ℕ). q ∷ s) first ∙ ap (λ (q : List ℕ). c ∷ q) rest.1)

-- digits after a nonzero value never have the value of as many digits, or fewer, alone
longer : (s : List ℕ) (y : ℕ) (t : List ℕ) → all_digits s ≡ true → all_digits t ≡ true → 0 < y → length s ≤ length t
    → value_after 0 s ≡ value_after y t → ⊥
unfolding all_digits value_after
longer s y [] d f p l e = let h = aligned 0 y s [] d f (omega arith) e in omega (arith, h.0)
longer s y (c ∷ t) d f p l e =
    by (leb (length s) (length t)) refl (λ k. longer s (y * 10 + (c - 48)) t d (both (is_digit c) f).1 (omega arith) k e)
  where
    by : (r : Bool) → leb (length s) (length t) ≡ r → (length s ≤ length t → ⊥) → ⊥
    by true q ih = ih (leb-true (length s) (length t) q)
    by false q ih =
        let k = leb-false (length s) (length t) q in
        let h = aligned 0 y s (c ∷ t) d f (omega arith) e in
        omega (arith, h.0)

decimal_digits : (s : List ℕ) → is_decimal s ≡ true → all_digits s ≡ true
unfolding is_decimal all_digits
decimal_digits [] e = impossible (cc)
decimal_digits (b ∷ []) e = rw e
decimal_digits (b ∷ c ∷ s) e = (both (not (eqb b 48)) e).1

-- a decimal number of more digits than another has another value
more_digits : (s t : List ℕ) → is_decimal s ≡ true → is_decimal t ≡ true → length s < length t → value_after 0 s ≡ value_after 0 t → ⊥
unfolding is_decimal all_digits value_after
more_digits s [] d f l e = omega arith
more_digits [] (c ∷ []) d f l e = impossible (cc)
more_digits (b ∷ s) (c ∷ []) d f l e = omega arith
more_digits s (c ∷ c' ∷ t) d f l e =
    let h = both (not (eqb c 48)) f in
    let g = both (is_digit c) h.1 in
    let low = digit c g.0 in
    let no_zero : (c ≡ 48 → ⊥) = eqb-false c 48 (not-true (eqb c 48) h.0) in
    longer s (0 * 10 + (c - 48)) (c' ∷ t) (decimal_digits s d) g.1 (omega arith) (omega arith) e

decimal_once : (s t : List ℕ) → is_decimal s ≡ true → is_decimal t ≡ true → value_after 0 s ≡ value_after 0 t → s ≡ t
decimal_once s t d f e = by (ltb (length s) (length t)) (ltb (length t) (length s)) refl refl
  where
    by : (p q : Bool) → ltb (length s) (length t) ≡ p → ltb (length t) (length s) ≡ q → s ≡ t
    by true q h k = absurd (more_digits s t d f (ltb-true (length s) (length t) h) e)
    by false true h k = absurd (more_digits t s f d (ltb-true (length t) (length s) k) (sym e))
    by false false h k =
        let a = ltb-false (length s) (length t) h in
        let b = ltb-false (length t) (length s) k in
        (aligned 0 0 s t (decimal_digits s d) (decimal_digits t f) (omega arith) e).1

decimal_is : (s : List ℕ) (n : ℕ) → decimal_of s ≡ Some n → (is_decimal s ≡ true) × (value_after 0 s ≡ n)
unfolding decimal_of
decimal_is s n e = by (is_decimal s) refl e
  where
    by : (t : Bool) → is_decimal s ≡ t → cond t (Some (value_after 0 s)) None ≡ Some n → (is_decimal s ≡ true) × (value_after 0 s ≡ n)
    by true q h = let same : value_after 0 s ≡ n = cc in (q, same)
    by false q h = impossible (cc)

-- the bytes are the size of z, with a minus in front where z is below 0
abbrev Writes : ℤ → List ℕ → Type 0
Writes (pos n) s = decimal_of s ≡ Some n
Writes (negsuc n) s = (t : List ℕ) × ((s ≡ 45 ∷ t) × (decimal_of t ≡ Some (suc n)))

written_is : (z : ℤ) (s : List ℕ) → written s ≡ Some z → Writes z s
unfolding written
written_is z [] e = impossible (cc)
written_is z (b ∷ bs) e = by (eqb b 45) refl e
  where
    with_minus : (z : ℤ) (o : Option ℕ) → decimal_of bs ≡ o → b ≡ 45 → minus o ≡ Some z → Writes z (b ∷ bs)
    with_minus z None q m h = impossible (cc)
    with_minus z (Some zero) q m h = impossible (cc)
    with_minus (pos k) (Some (suc n)) q m h = impossible (cc)
    with_minus (negsuc k) (Some (suc n)) q m h =
        let same : n ≡ k = cc in
        (bs, (ap (λ (x : ℕ). x ∷ bs) m, q ∙ ap (λ (x : ℕ). Some (suc x)) same))

    without : (z : ℤ) (o : Option ℕ) → decimal_of (b ∷ bs) ≡ o → plain o ≡ Some z → Writes z (b ∷ bs)
    without z None q h = impossible (cc)
    without (pos k) (Some n) q h = let same : n ≡ k = cc in q ∙ ap (λ (x : ℕ). Some x) same
    without (negsuc k) (Some n) q h = impossible (cc)

    by : (t : Bool) → eqb b 45 ≡ t → cond t (minus (decimal_of bs)) (plain (decimal_of (b ∷ bs))) ≡ Some z → Writes z (b ∷ bs)
    by true q h = with_minus z (decimal_of bs) refl (eqb-true b 45 q) h
    by false q h = without z (decimal_of (b ∷ bs)) refl h

size_once : (s t : List ℕ) (n : ℕ) → decimal_of s ≡ Some n → decimal_of t ≡ Some n → s ≡ t
size_once s t n e f =
    let a = decimal_is s n e in
    let b = decimal_is t n f in
    decimal_once s t a.0 b.0 (a.1 ∙ sym b.1)

-- "decimal numbers without leading zeros; minus only before a nonzero number": two writings of one number are one
pub written_once : (z : ℤ) (s t : List ℕ) → written s ≡ Some z → written t ≡ Some z → s ≡ t
written_once (pos n) s t e f = size_once s t n (written_is (pos n) s e) (written_is (pos n) t f)
written_once (negsuc n) s t e f =
    let a = written_is (negsuc n) s e in
    let b = written_is (negsuc n) t f in
    a.1.0 ∙ ap (λ (q : List ℕ). 45 ∷ q) (size_once a.0 b.0 (suc n) a.1.1 b.1.1) ∙ sym b.1.0

pub unsigned_once : (max n : ℕ) (s t : List ℕ) → unsigned_of max s ≡ Some n → unsigned_of max t ≡ Some n → s ≡ t
unsigned_once max n s t e f = written_once (pos n) s t (unsigned_is max s n e).0 (unsigned_is max t n f).0

-- up to 2^63 the bits tell the number
bits_once : (half : ℕ) (y z : ℤ) → half ≤ 2 ^ 63 → mag y < half → mag z < half → of_z w64 y ≡ of_z w64 z → y ≡ z
bits_once half (pos m) (pos n) h p q e = ap pos e
bits_once half (pos m) (negsuc n) h p q e = absurd (omega arith)
bits_once half (negsuc m) (pos n) h p q e = absurd (omega arith)
bits_once half (negsuc m) (negsuc n) h p q e = let same : m ≡ n = omega arith in ap negsuc same

-- so up to 2^63 a signed number has one writing too
pub signed_once : (half n : ℕ) (s t : List ℕ) → half ≤ 2 ^ 63 → signed_of half s ≡ Some n → signed_of half t ≡ Some n → s ≡ t
signed_once half n s t h e f =
    let a = signed_is half s n e in
    let b = signed_is half t n f in
    let same = bits_once half a.0 b.0 h a.1.2 b.1.2 (sym a.1.1 ∙ b.1.1) in
    written_once b.0 s t (a.1.0 ∙ ap Some same) b.1.0

-- ---- the parts are the whole text

-- the parts with b between them
abbrev pub join : ℕ → List (List ℕ) → List ℕ
join b [] = []
join b (p ∷ []) = p
join b (p ∷ q ∷ ps) = p ++ b ∷ join b (q ∷ ps)

-- what is cut at b is put together again by b, so a text is known by its parts
pub join_split : (b : ℕ) (s : List ℕ) → join b (split b s) ≡ s
unfolding split on_first
join_split b [] = refl
join_split b (x ∷ s) = by (eqb x b) refl (split b s) (split_cons b s).0 (split_cons b s).1 (join_split b s)
  where
    on_first_lem : (p : List ℕ) (ps : List (List ℕ)) → join b ((x ∷ p) ∷ ps) ≡ x ∷ join b (p ∷ ps)
    on_first_lem p [] = refl
    on_first_lem p (q ∷ ps) = refl

    by : (t : Bool) → eqb x b ≡ t → (ps : List (List ℕ)) (r : List (List ℕ)) → ps ≡ until b s ∷ r → join b ps ≡ s
        → join b (cond t ([] ∷ ps) (on_first x ps)) ≡ x ∷ s
    by true q [] r e ih = impossible (cc)
    by true q (p ∷ ps) r e ih = let same : x ≡ b = eqb-true x b q in ap (λ (l : List ℕ). b ∷ l) ih ∙ ap (λ (k : ℕ). k ∷ s) (sym same)
    by false q [] r e ih = impossible (cc)
    by false q (p ∷ ps) r e ih = on_first_lem p ps ∙ ap (λ (l : List ℕ). x ∷ l) ih
