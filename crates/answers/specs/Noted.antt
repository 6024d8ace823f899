-- What an exported function takes and leaves: counts in a slice of seven, and the answer's three numbers in a slice, 0 0 0 for accepted.
use Rattle.std.specs.Prelude.{ℕ, List, get_or, set, Result, Ok, Err}
use Rattle.tables.specs.Answer.{numbers_of}
use Rattle.tables.specs.declared.Refusal.{Refusal}
use Rattle.tables.specs.declared.Counts.{Counts}
use Rattle.tables.specs.declared.Target.{Target}
use Rattle.tables.specs.declared.Numbers.{Numbers}

-- types, values, operations, attributes, blocks, regions, functions
abbrev pub counts_of : List ℕ → Counts
counts_of n = record {
  types = get_or n 0 0;
  values = get_or n 1 0;
  operations = get_or n 2 0;
  attributes = get_or n 3 0;
  blocks = get_or n 4 0;
  regions = get_or n 5 0;
  functions = get_or n 6 0;
}

abbrev pub target_of : ℕ → ℕ → Target
target_of version sm = record { version = version; sm = sm }

abbrev pub none : Numbers
none = record { code = 0; id = 0; detail = 0 }

-- whatever is held where nothing is refused
unfoldable pub told : {A : Type 0} → Result A Refusal → Numbers
told (Ok _) = none
told (Err r) = numbers_of r

-- code, id and detail, where there is room for them
unfoldable pub noted : Numbers → List ℕ → List ℕ
noted n out = set (set (set out 0 n.code) 1 n.id) 2 n.detail

-- version and sm number, where there is room for them
unfoldable pub header_noted : ℕ → ℕ → List ℕ → List ℕ
header_noted version sm out = set (set out 0 version) 1 sm

-- the seven counts in the tables' order, where there is room for them
unfoldable pub counts_noted : Counts → List ℕ → List ℕ
counts_noted n out =
    set (set (set (set (set (set (set out 0 n.types) 1 n.values) 2 n.operations) 3 n.attributes) 4 n.blocks) 5 n.regions) 6 n.functions
