-- The live places: one that is pushed, those that are taken back, and the place of a number. Assumes nothing.
use Prim.Native.Nat.{ℕ, zero, suc, ◌+◌, ◌-◌, ◌≤◌, ◌<◌, min}
use native.Mathlib.Nat.{le_of_suc-le-suc}
use native.Mathlib.Omega.{arith}
use mathlib.Core.Path.{◌≡◌, refl, ap, sym, ◌∙◌}
use mathlib.Core.Logic.{⊎_elim}
use mathlib.Core.Option.{some, none}
use mathlib.Core.List.{List, [], ◌∷◌, ◌++◌, map, append_assoc, append-nil}
use lib.ListN.{length, get_or, set, take, length-append, length-take}
use lib.Seq.{get_or-take, take_all, take-append_seam}
use borrow.Author.Tests.{lt-ltb, le-ltb}
use Rattle.cells.proofs.Rows.{lt_or_ge}
use Rattle.cells.specs.Lists.{from, below}
use Rattle.ranges.proofs.Find.{from_step, from_end}
use Rattle.tables.specs.declared.Place.{Place}
use Rattle.nesting.specs.Live.{nth}
use Rattle.read_back.specs.Live.{grow, grow_all}

-- ---- what was pushed lies above what was there

pub record Above (base live : List Place) : Type 0 where
  pub more : List Place
  pub is : live ≡ base ++ more

pub above_none : (live : List Place) → Above live live
above_none live = record { more = []; is = sym (append-nil live) }

above_one : {base live : List Place} (p : Place) → Above base live → Above base (grow live p)
above_one {base} {live} p a = ⊎_elim
    (λ h. record { more = a.more ++ (p ∷ []); is = rw (lt-ltb (length live) 8192 h) (ap (λ (l : List Place). l ++ (p ∷ [])) a.is ∙ append_assoc base a.more (p ∷ [])) })
    (λ h. rw (le-ltb (length live) 8192 h) a)
    (lt_or_ge (length live) 8192)

pub above_all : {base live : List Place} (ps : List Place) → Above base live → Above base (grow_all live ps)
above_all {live = live} [] a = a
above_all {base = base} {live = live} (p ∷ ps) a = above_all {live = grow live p} ps (above_one p a)

pub take_back : {base live : List Place} → Above base live → take (length base) live ≡ base
take_back {base} {live} a = ap (take (length base)) a.is ∙ take-append_seam base a.more

-- ---- where all has room, growing is concatenation

pub grown_plain : (live more : List Place) → length (live ++ more) ≤ 8192 → grow_all live more ≡ live ++ more
grown_plain live [] h = sym (append-nil live)
grown_plain live (p ∷ ps) h =
    let e : length live < 8192 = omega (arith, simp length-append at h) in
    rw (lt-ltb (length live) 8192 e)
    (grown_plain (live ++ (p ∷ [])) ps (rw (append_assoc live (p ∷ []) ps) h) ∙ append_assoc live (p ∷ []) ps)

-- ---- a number is a position

nth_in : (live : List Place) (k : ℕ) (d : Place) → k < length live → nth live k ≡ some (get_or live k d)
nth_in [] k d h = absurd (omega arith)
nth_in (p ∷ live) zero d h = refl
nth_in (p ∷ live) (suc k) d h = nth_in live k d (le_of_suc-le-suc h)

nth_past : (live : List Place) (k : ℕ) → length live ≤ k → nth live k ≡ none
nth_past [] k h = refl
nth_past (p ∷ live) zero h = absurd (omega arith)
nth_past (p ∷ live) (suc k) h = nth_past live k (le_of_suc-le-suc h)

-- ---- the first n places of a list with room are what is live

module _ (xs : List Place) (n : ℕ) where
  pub place_at : (k : ℕ) (d : Place) → k < n → n ≤ length xs → nth (take n xs) k ≡ some (get_or xs k d)
  place_at k d h l =
      nth_in (take n xs) k d (simp length-take (omega arith)) ∙ ap some (get_or-take n xs k d h)

  pub no_place : (k : ℕ) → n ≤ k → nth (take n xs) k ≡ none
  no_place k h = nth_past (take n xs) k (simp length-take (omega arith))

-- ---- a place for each index, k of them pushed

module _ (make : ℕ → Place) (count : ℕ) (live : List Place) where
  abbrev pub Pushing : List Place → ℕ → Type 0
  Pushing now k = grow_all now (map make (from k (count - k))) ≡ grow_all live (map make (below count))

  pub pushing_start : Pushing live 0
  pushing_start =
      let e : count - 0 ≡ count = omega arith in
      ap (λ (n : ℕ). grow_all live (map make (from 0 n))) e

  module _ (now : List Place) (k : ℕ) (inv : Pushing now k) where
    pub pushing_step : k < count → (p : Place) → p ≡ make k → (next : List Place) → next ≡ grow now p → Pushing next (k + 1)
    pushing_step h p e next f = rw (f, e) (rw (from_step count k h) at inv)

    pub pushing_end : count ≤ k → now ≡ grow_all live (map make (below count))
    pushing_end h = rw (from_end count k h) at inv
