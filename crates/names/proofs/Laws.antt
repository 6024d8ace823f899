-- No two of the names are equal: each name's number is its own place in the list, counted from 1.
use mathlib.Core.Path.{◌≡◌, refl, sym, ap, ◌∙◌}
use mathlib.Core.List.{List, [], ◌∷◌, map}
use Prim.Native.Nat.{ℕ, zero, suc, ◌+◌, ◌<◌}
use native.Mathlib.Omega.{arith}
use lib.ListN.{length, get_or, get_or-map}
use Rattle.names.specs.Names.{names, number_of}

abbrev pub up_from : ℕ → ℕ → List ℕ
up_from from zero = []
up_from from (suc n) = from ∷ up_from (suc from) n

get_d_up_from : (from n k : ℕ) → k < n → get_or (up_from from n) k 0 ≡ k + from
get_d_up_from from zero k h = omega arith
get_d_up_from from (suc n) zero h = omega arith
get_d_up_from from (suc n) (suc k) h = get_d_up_from (suc from) n k (omega arith) ∙ omega arith

-- by computation over the list
pub numbered : map number_of names ≡ up_from 1 (length names)
unfolding names number_of
numbered = refl

pub own_number : (k : ℕ) → k < length names → number_of (get_or names k []) ≡ k + 1
unfolding names number_of
own_number k h =
    sym (get_or-map number_of names k []) ∙ ap (λ (l : List ℕ). get_or l k 0) numbered ∙ get_d_up_from 1 (length names) k h
