-- "A value's defining place, read off the tables alone, is the block that lists it as argument and its position there, or else the
-- operation and index of the declared result it claims."
use Rattle.std.specs.Prelude as std
use Rattle.std.specs.Prelude.{ℕ, suc, cond, List, [], ◌∷◌, eqb, Some, None}
use Rattle.std.proofs.Math.Option.{Option, some, none}
use Rattle.cells.specs.Lists.{below}
use Rattle.tables.specs.Tables.{Tables, arguments, claim, declared}
use Rattle.tables.specs.declared.Place.{Place}
use Rattle.tables.specs.declared.Place.TheVariants.{Argument, Result, Nowhere}
use Rattle.tables.specs.declared.Claim.{Claim}

-- the position of v in a list whose entries are numbered from k
abbrev pub position_from : ℕ → ℕ → List ℕ → Option ℕ
position_from k v [] = none
position_from k v (x ∷ xs) = cond (eqb x v) (some k) (position_from (suc k) v xs)

-- block j lists it, or what else is said
abbrev pub in_block : ℕ → Option ℕ → Place → Place
in_block j none p = p
in_block j (some k) p = Argument j k

-- the first of the blocks js that lists v, or what else is said
abbrev pub among_blocks : Tables → ℕ → List ℕ → Place → Place
among_blocks x v [] p = p
among_blocks x v (j ∷ js) p = in_block j (position_from 0 v (arguments x j)) (among_blocks x v js p)

-- the declared result that is claimed
abbrev pub claimed : Tables → std.Option Claim → Place
claimed x None = Nowhere
claimed x (Some c) = cond (declared x c.operation c.index) (Result c.operation c.index) Nowhere

unfoldable pub defining_place : Tables → ℕ → Place
defining_place x v = among_blocks x v (below x.counts.blocks) (claimed x (claim x v))
