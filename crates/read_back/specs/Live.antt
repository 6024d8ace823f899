-- The live places: room for as many as lists have entries. A number is a position among them.
use Rattle.std.specs.Prelude.{ℕ, cond, List, [], ◌∷◌, ◌++◌, ltb, length, Some, None}
use Rattle.std.specs.Prelude as std
use Rattle.std.proofs.Math.Option.{Option, some, none}
use Rattle.tables.specs.Sizes.{max_entries}
use Rattle.tables.specs.declared.Place.{Place}

-- p more, where there is room; and each of a list
abbrev pub grow : List Place → Place → List Place
grow live p = cond (ltb (length live) max_entries) (live ++ (p ∷ [])) live

abbrev pub grow_all : List Place → List Place → List Place
grow_all live [] = live
grow_all live (p ∷ ps) = grow_all (grow live p) ps

-- a place that was looked up
abbrev pub place_in : std.Option Place → Option Place
place_in (Some p) = some p
place_in None = none
