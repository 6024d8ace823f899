-- What becomes live: values, and places. A place is a block and a position of it, or an operation and a result of it.
use Rattle.std.specs.Prelude.{ℕ, zero, suc, ◌<◌, List, [], ◌∷◌, map, length}
use Rattle.std.proofs.Math.Option.{Option, some, none}
use Rattle.cells.specs.Lists.{below, flat}
use Rattle.tables.specs.Tables.{Tables, functions, regions, blocks, operations, arguments, result_types, operands}
use Rattle.tables.specs.declared.Place.{Place}
use Rattle.tables.specs.declared.Place.TheVariants.{Argument, Result, Nowhere}
use Rattle.tables.specs.Value.{value_of}
use Rattle.nesting.specs.Shape.{Shape}

abbrev pub to_list : Option ℕ → List ℕ
to_list none = []
to_list (some v) = v ∷ []

-- the values of operation i's declared results, of those that have one: "A declared result without a value is not refused here."
unfoldable pub result_values : Tables → ℕ → List ℕ
result_values x i = flat (λ k. to_list (value_of x i k)) (below (length (result_types x i)))

-- the walk in which values become live; an enclosing operation's results count
unfoldable pub valued : Tables → Shape ℕ
valued x = record {
  functions = functions x;
  regions = regions x;
  blocks = blocks x;
  operations = operations x;
  arguments = arguments x;
  results = result_values x;
  inner = result_values x;
}

-- what a reader of numbers sees: "nesting, counts and numbers, never value ids"
pub record Nesting : Type 0 where
  pub functions : List ℕ
  pub regions : ℕ → List ℕ
  pub blocks : ℕ → List ℕ
  pub operations : ℕ → List ℕ
  pub arguments : ℕ → ℕ
  pub results : ℕ → ℕ
  pub operands : ℕ → ℕ

unfoldable pub nesting_of : Tables → Nesting
nesting_of x = record {
  functions = functions x;
  regions = regions x;
  blocks = blocks x;
  operations = operations x;
  arguments = λ j. length (arguments x j);
  results = λ i. length (result_types x i);
  operands = λ i. length (operands x i);
}

-- the walk in which places become live; a missing result is a place that no value has
unfoldable pub placed : Nesting → Shape Place
placed n = record {
  functions = n.functions;
  regions = n.regions;
  blocks = n.blocks;
  operations = n.operations;
  arguments = λ j. map (Argument j) (below (n.arguments j));
  results = λ i. map (Result i) (below (n.results i));
  inner = λ i. map (Result i) (below (n.results i));
}

-- a place that the counts have
abbrev pub Real : Nesting → Place → Type 0
Real n (Argument j k) = k < n.arguments j
Real n (Result i k) = k < n.results i
Real n Nowhere = ⊥

abbrev pub nth : {A : Type 0} → List A → ℕ → Option A
nth [] k = none
nth (x ∷ xs) zero = some x
nth (x ∷ xs) (suc k) = nth xs k

-- the value at a place, if there is one
unfoldable pub value_at : Tables → Place → Option ℕ
value_at x (Argument j k) = nth (arguments x j) k
value_at x (Result i k) = value_of x i k
value_at x Nowhere = none

-- the values at places, of those that have one
abbrev pub values_at : Tables → List Place → List ℕ
values_at x ps = flat (λ p. to_list (value_at x p)) ps
