-- How often each id is listed, as the code keeps it: 0, 1, or 2 for more, at each id that there is room for.
use Rattle.std.specs.Prelude.{ℕ, cond, List, [], ◌∷◌, ltb, eqb, get_or, set, replicate}
use Rattle.std.proofs.Math.Option.{Option}
use Rattle.cells.specs.Lists.{below, find}

-- a mark, once more
unfoldable pub once_more : ℕ → ℕ
once_more m = cond (eqb m 0) 1 2

-- one more of x, and one more of each entry of a list
unfoldable pub mark : List ℕ → ℕ → List ℕ
mark marks x = set marks x (once_more (get_or marks x 0))

abbrev pub mark_all : List ℕ → List ℕ → List ℕ
mark_all marks [] = marks
mark_all marks (x ∷ xs) = mark_all (mark marks x) xs

-- the lowest of n ids that is marked more than once
unfoldable pub lowest_marked : List ℕ → ℕ → Option ℕ
lowest_marked marks n = find (λ i. ltb 1 (get_or marks i 0)) (below n)

-- the same by the marks of a list, with room for `size` ids
abbrev pub lowest_seen : ℕ → List ℕ → ℕ → Option ℕ
lowest_seen size xs n = lowest_marked (mark_all (replicate size 0) xs) n
