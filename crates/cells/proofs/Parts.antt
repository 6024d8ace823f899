-- Going along a list by an index: the start, a step and the end of what is left; the same for the entries of a span; what a write
-- before or behind leaves; a list that is copied from the front; and numbers in a row. Over the element type where no number is read. Assumes
-- nothing.
use mathlib.Core.Path.{◌≡◌, refl, sym, ap, ◌∙◌}
use mathlib.Core.List.{List, [], ◌∷◌, ◌++◌, append_assoc, append-nil}
use Prim.Native.Nat.{ℕ, zero, suc, ◌+◌, ◌-◌, ◌≤◌, ◌<◌}
use native.Mathlib.Numerals.{add-one}
use native.Mathlib.Omega.{arith}
use lib.ListN.{length, get_or, set, take, drop, replicate, length-replicate, length-set, length-take, length-drop, drop_of_length-le}
use lib.Seq.{drop-cons, take-suc, take_all, take-length, drop-length, length-take-le, get_or-take, get_or-drop, set_at, take-set-le, drop-set-lt, drop-set-add}
use Rattle.cells.specs.Cell.{entries_of, copied}
use Rattle.cells.specs.Lists.{from}
use Rattle.cells.specs.declared.Span.{Span}

-- what is left of a list from i on, and what was passed
module _ {ℓ} {A : Type ℓ} (xs : List A) (i : ℕ) (d : A) where
  pub left_start : drop 0 xs ≡ xs
  left_start = refl

  pub left_step : i < length xs → drop i xs ≡ get_or xs i d ∷ drop (i + 1) xs
  left_step h = rw add-one (drop-cons xs i d h)

  pub left_end : length xs ≤ i → drop i xs ≡ []
  left_end h = drop_of_length-le xs h

  pub passed_step : i < length xs → take (i + 1) xs ≡ take i xs ++ (get_or xs i d ∷ [])
  passed_step h = rw add-one (take-suc xs i d h)

  pub passed_end : length xs ≤ i → take i xs ≡ xs
  passed_end h = take_all i xs h

-- the entries of a span
module _ (l : List ℕ) (s : Span) where
  pub entries_short : length (entries_of l s) ≤ s.len
  entries_short = simp (length-take) (omega arith)

  pub entries_whole : s.start + s.len ≤ length l → length (entries_of l s) ≡ s.len
  entries_whole h = simp (length-take, length-drop) (omega arith)

  pub entry_at : (i : ℕ) → i < s.len → get_or (entries_of l s) i 0 ≡ get_or l (s.start + i) 0
  entry_at i h = get_or-take s.len (drop s.start l) i 0 h ∙ get_or-drop s.start l i 0

  -- a write before or behind the span
  pub entries_behind : (k x : ℕ) → s.start + s.len ≤ k → entries_of (set l k x) s ≡ entries_of l s
  entries_behind k x h =
      let e : k ≡ s.start + (k - s.start) = omega arith in
      ap (λ (j : ℕ). take s.len (drop s.start (set l j x))) e
      ∙ ap (take s.len) (drop-set-add s.start l (k - s.start) x)
      ∙ take-set-le s.len (drop s.start l) (k - s.start) x (omega arith)

  pub entries_before : (k x : ℕ) → k < s.start → entries_of (set l k x) s ≡ entries_of l s
  entries_before k x h = ap (take s.len) (drop-set-lt s.start l k x h)

-- clearing from the front, i entries done
abbrev pub Cleared : {A : Type 0} → A → List A → ℕ → List A → Type 0
Cleared z old i s = (i ≤ length old) × (s ≡ replicate i z ++ drop i old)

-- one more of the same stands at the front as well as at the back
replicate_shift : {A : Type 0} (i : ℕ) (z : A) (rest : List A) → replicate i z ++ (z ∷ rest) ≡ replicate (suc i) z ++ rest
replicate_shift zero z rest = refl
replicate_shift (suc i) z rest = ap (λ r. z ∷ r) (replicate_shift i z rest)

module _ {A : Type 0} (z : A) (old : List A) where
  pub clear_start : Cleared z old 0 old
  clear_start = (omega arith, refl)

  cleared_more : (i : ℕ) → i < length old → set (replicate i z ++ drop i old) i z ≡ replicate (i + 1) z ++ drop (i + 1) old
  cleared_more i h =
      ap (λ (r : List A). set (replicate i z ++ r) i z) (left_step old i z h)
      ∙ set_at (replicate i z) (get_or old i z) (drop (i + 1) old) z i (length-replicate i z)
      ∙ rw add-one (replicate_shift i z (drop (suc i) old))

  pub clear_step : (i : ℕ) (s : List A) → Cleared z old i s → i < length old → Cleared z old (i + 1) (set s i z)
  clear_step i s inv h = (omega arith, ap (λ (t : List A). set t i z) inv.1 ∙ cleared_more i h)

  pub clear_end : (i : ℕ) (s : List A) → Cleared z old i s → length old ≤ i → s ≡ replicate (length old) z
  clear_end i s inv h =
      let e : i ≡ length old = omega arith in
      inv.1 ∙ rw (e, drop-length old, append-nil)

-- within a list the default does not count
pub get_or_within : {A : Type 0} (xs : List A) (i : ℕ) (d e : A) → i < length xs → get_or xs i d ≡ get_or xs i e
get_or_within [] i d e h = elim h [ ]
get_or_within (x ∷ xs) zero d e h = refl
get_or_within (x ∷ xs) (suc i) d e h = get_or_within xs i d e (omega arith)

-- copying from the front, i entries done
abbrev pub Copied : List ℕ → List ℕ → ℕ → List ℕ → Type 0
Copied from old i to = (length to ≡ length old) × (i ≤ length old) × (i ≤ length from) × (to ≡ take i from ++ drop i old)

pub copy_start : (from old : List ℕ) → Copied from old 0 old
copy_start from old = (refl, omega arith, omega arith, refl)

module _ (from old : List ℕ) (i : ℕ) (to : List ℕ) (inv : Copied from old i to) where
  stored : i < length from → i < length old → set (take i from ++ drop i old) i (get_or from i 0) ≡ take (i + 1) from ++ drop (i + 1) old
  stored h k =
      ap (λ (r : List ℕ). set (take i from ++ r) i (get_or from i 0)) (left_step old i 0 k)
      ∙ set_at (take i from) (get_or old i 0) (drop (i + 1) old) (get_or from i 0) i (length-take-le i from (omega arith))
      ∙ sym (ap (λ (p : List ℕ). p ++ drop (i + 1) old) (passed_step from i 0 h) ∙ append_assoc (take i from) (get_or from i 0 ∷ []) (drop (i + 1) old))

  pub copy_step : i < length from → i < length to → Copied from old (i + 1) (set to i (get_or from i 0))
  copy_step h k = (
    simp length-set inv.0,
    omega arith,
    omega arith,
    ap (λ (t : List ℕ). set t i (get_or from i 0)) inv.3 ∙ stored h (omega arith),
  )

  pub copy_all : length from ≤ i → to ≡ copied from old
  copy_all h =
      let e : i ≡ length from = omega arith in
      inv.3 ∙ rw (e, take-length from, take_all (length old) from (omega arith))

  pub copy_full : length to ≤ i → to ≡ copied from old
  copy_full h =
      let e : i ≡ length old = omega arith in
      inv.3 ∙ rw (e, drop-length old, drop_of_length-le old {i = length from} (omega arith))

-- numbers in a row: how many, and which
pub from_length : (s n : ℕ) → length (from s n) ≡ n
from_length s zero = refl
from_length s (suc n) = ap suc (from_length (suc s) n)

pub from_at : (s n k : ℕ) → k < n → get_or (from s n) k 0 ≡ s + k
from_at s zero k h = elim h [ ]
from_at s (suc n) zero h = omega arith
from_at s (suc n) (suc k) h = from_at (suc s) n k (omega arith) ∙ omega arith
