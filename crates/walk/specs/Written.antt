-- What the walk answers and leaves: a lent list is filled from the front with the operations in walk order, as far as it has room.
use Rattle.std.specs.Prelude.{ℕ, ◌+◌, min, ◌≡◌, cond, List, [], ◌∷◌, length, set, replicate, ltb, Result, Ok, Err}
use Rattle.cells.specs.Cell.{copied}
use Rattle.tables.specs.Answer.{Answer}
use Rattle.tables.specs.declared.Refusal.{Refusal}

-- what a lent list holds, and how many of its entries were written
pub record Filled : Type 0 where
  pub held : List ℕ
  pub used : ℕ

abbrev pub filled : List ℕ → ℕ → Filled
filled out m = record { held = out; used = m }

-- all of xs from the front, as far as there is room; "lent entries past it keep what they held"
abbrev pub written : List ℕ → List ℕ → Filled
written out xs = filled (copied xs out) (min (length xs) (length out))

-- what an answer tells, and how many operations it says were written
abbrev pub told : Result ℕ Refusal → Answer
told (Ok m) = Ok tt
told (Err r) = Err r

abbrev pub wrote : Result ℕ Refusal → ℕ
wrote (Ok m) = m
wrote (Err r) = 0

-- the order is written where nothing is refused; a refusal leaves the list all zero
abbrev pub walked : Answer → List ℕ → List ℕ → Filled
walked (Ok _) out xs = written out xs
walked (Err r) out xs = filled (replicate (length out) 0) 0

-- ---- on the way: the next free place goes by value

-- x at the next free place, where there is one
abbrev pub push : Filled → ℕ → Filled
push p x = cond (ltb p.used (length p.held)) (filled (set p.held p.used x) (p.used + 1)) p

abbrev pub push_all : Filled → List ℕ → Filled
push_all p [] = p
push_all p (x ∷ xs) = push_all (push p x) xs

-- an answer that is fine says where the next free place is
abbrev pub Reached : Result ℕ Refusal → List ℕ → Filled → Type 0
Reached (Ok m) out p = filled out m ≡ p
Reached (Err r) out p = Unit

-- a visit that began at p gives the answer a and, where that is fine, has written the ids
pub record Visited (w : Result ℕ Refusal) (out : List ℕ) (p : Filled) (a : Answer) (ids : List ℕ) : Type 0 where
  pub answer : told w ≡ a
  pub reached : Reached w out (push_all p ids)
