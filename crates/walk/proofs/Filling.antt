-- A list that is filled entry by entry from a place on: one entry, one list after another, and from the front all that has room.
-- Assumes nothing.
use Prim.Native.Nat.{ℕ, suc, ◌+◌, ◌<◌, ◌≤◌, min}
use native.Mathlib.Omega.{arith}
use mathlib.Core.Path.{◌≡◌, refl, ap, sym, ◌∙◌}
use mathlib.Core.List.{List, [], ◌∷◌, ◌++◌, append_assoc}
use mathlib.Core.Bool.{false, true≢false}
use lib.ListN.{length, set, length-append}
use lib.Seq.{take-nil, drop-nil, set_at}
use borrow.Author.Tests.{lt-ltb, le-ltb}
use Rattle.cells.specs.Cell.{copied}
use Rattle.tables.specs.Answer.{Answer}
use Rattle.std.specs.Prelude.{Result, Ok, Err}
use Rattle.std.specs.Result.{is_err}
use Rattle.tables.specs.declared.Refusal.{Refusal}
use Rattle.walk.specs.Written.{Filled, filled, written, push, push_all, Visited, wrote, walked}

module _ (out : List ℕ) (used x : ℕ) where
  pub push_in : used < length out → filled (set out used x) (used + 1) ≡ push (filled out used) x
  push_in h = rw (lt-ltb used (length out) h)

  pub push_out : length out ≤ used → filled out used ≡ push (filled out used) x
  push_out h = rw (le-ltb used (length out) h)

pub push_all_append : (p : Filled) (xs ys : List ℕ) → push_all p (xs ++ ys) ≡ push_all (push_all p xs) ys
push_all_append p [] ys = refl
push_all_append p (x ∷ xs) ys = push_all_append (push p x) xs ys

-- behind what stands in front, all that has room
from_place : (front : List ℕ) (xs rest : List ℕ) (k : ℕ) → length front ≡ k
    → push_all (filled (front ++ rest) k) xs ≡ filled (front ++ copied xs rest) (k + min (length xs) (length rest))
from_place front [] rest k e =
    let z : k ≡ k + min 0 (length rest) = omega arith in
    rw take-nil (ap (filled (front ++ rest)) z)
from_place front (x ∷ xs) [] k e =
    let z : k + min (length xs) 0 ≡ k + min (suc (length xs)) 0 = omega arith in
    ap (λ (p : Filled). push_all p xs) (sym (push_out (front ++ []) k x (simp length-append (omega arith))))
    ∙ from_place front xs [] k e
    ∙ rw (drop-nil (length xs)) (ap (filled (front ++ [])) z)
from_place front (x ∷ xs) (y ∷ rest) k e =
    let z : k + 1 + min (length xs) (length rest) ≡ k + min (suc (length xs)) (suc (length rest)) = omega arith in
    ap (λ (p : Filled). push_all p xs) (sym (push_in (front ++ (y ∷ rest)) k x (simp length-append (omega arith))))
    ∙ ap (λ (l : List ℕ). push_all (filled l (k + 1)) xs) (set_at front y rest x k e ∙ sym (append_assoc front (x ∷ []) rest))
    ∙ from_place (front ++ (x ∷ [])) xs rest (k + 1) (simp length-append (omega arith))
    ∙ rw append_assoc (ap (filled (front ++ (x ∷ copied xs rest))) z)

pub all_written : (out xs : List ℕ) → push_all (filled out 0) xs ≡ written out xs
all_written out xs =
    let z : 0 + min (length xs) (length out) ≡ min (length xs) (length out) = omega arith in
    from_place [] xs out 0 refl ∙ ap (filled (copied xs out)) z

-- the answer of a walk that nothing stops
pub walked_whole : (w : Result ℕ Refusal) (a : Answer) (out out' xs : List ℕ) → is_err w ≡ false → Visited w out' (filled out 0) a xs
    → filled out' (wrote w) ≡ walked a out xs
walked_whole (Ok m) a out out' xs e v =
    let h : a ≡ (Ok tt) = sym v.answer in
    rw h (v.reached ∙ all_written out xs)
walked_whole (Err r) a out out' xs e v = absurd (true≢false e)
