-- The live set: "the rolled-back map a counted stack of places". A stack of values, and for each value where it would stand on it.
use Rattle.std.specs.Prelude.{ℕ, ◌-◌, ◌<◌, ◌≤◌, ◌≡◌, cond, List, [], ◌∷◌, ◌++◌, length, get_or, take, ltb, Some, None}
use Rattle.std.specs.Prelude as std
use Rattle.std.proofs.Math.Option.{Option, some, none}
use Rattle.cells.specs.Lists.{mem}
use Rattle.scope.specs.declared.Scope.{Scope}
use Rattle.scope.specs.declared.Live.{Live}

-- what is live once v is seen: v comes last, where it is a value and not live yet
abbrev pub see : ℕ → List ℕ → ℕ → List ℕ
see nv live v = cond (ltb v nv) (cond (mem v live) live (live ++ (v ∷ []))) live

abbrev pub see_all : ℕ → List ℕ → List ℕ → List ℕ
see_all nv live [] = live
see_all nv live (v ∷ vs) = see_all nv (see nv live v) vs

-- the first n entries of dense are the stack: each is one of nv values and is found again through sparse
pub record Stacked (nv : ℕ) (dense sparse : List ℕ) (n : ℕ) : Type 0 where
  pub dense_room : nv ≤ length dense
  pub sparse_room : nv ≤ length sparse
  pub fits : n ≤ nv
  pub inside : (k : ℕ) → k < n → get_or dense k 0 < nv
  pub back : (k : ℕ) → k < n → get_or sparse (get_or dense k 0) 0 ≡ k

-- and they are what is live
pub record Shows (nv : ℕ) (dense sparse : List ℕ) (n : ℕ) (live : List ℕ) : Type 0 where
  pub stack : Stacked nv dense sparse n
  pub shows : take n dense ≡ live

-- a stack of so many values shows what is live
pub record Holds (nv : ℕ) {N : ℕ} (stack : Live N) (n : ℕ) (live : List ℕ) : Type 0 where
  pub count : stack.values ≡ nv
  pub shown : Shows nv stack.dense stack.sparse n live

-- the number of a value that was looked up
abbrev pub number_in : std.Option ℕ → Option ℕ
number_in (Some k) = some k
number_in None = none

-- one block deeper, where a depth is left: "a falling remaining depth of 32"
abbrev pub deeper : Scope → Scope
deeper s = record { next = s.next; depth = s.depth - 1 }
