-- The seven tables in turn: what the passes over them said, up to the first refusal, is the verdict. Assumes nothing.
use mathlib.Core.Path.{◌≡◌, refl, sym, ap, ◌∙◌}
use mathlib.Core.Bool.{Bool, ◌&&◌, not}
use mathlib.Core.List.{List}
use mathlib.Core.Option.{Option, some, none}
use Prim.Native.Nat.{ℕ, ◌+◌}
use native.Mathlib.Omega.{arith}
use lib.Dec.{ltb}
use lib.ListN.{length, get_or}
use Rattle.cells.specs.Lists.{below, find}
use Rattle.tables.specs.Sizes.{max_types, max_values, max_operations, max_attributes, max_blocks, max_regions, max_functions, type_table, value_table, operation_table, attribute_table, block_table, region_table, function_table}
use Rattle.tables.specs.Tables.{Tables, functions}
use Rattle.tables.specs.Answer.{and_then, Answer}
use Rattle.std.specs.Prelude.{Result, Ok, Err}
use Rattle.tables.specs.declared.Refusal.{Refusal}
use Rattle.tables.specs.declared.Refusal.TheVariants.{OutOfRange}
use Rattle.ranges.specs.Entry.{good_type, good_value, good_operation, good_attribute, good_block, good_region}
use Rattle.ranges.specs.Range.{sum, room_at, listed_by_operation, listed_by_attribute, listed_by_block, listed_by_region, before_attributes, before_blocks, before_regions, stands, refused, first_bad, table_ranges}
use Rattle.ranges.specs.Part.{first_of, scanned, scan_of}
use Rattle.ranges.specs.declared.Pass.{Pass}

-- one answer, then the rest
passed : (a b : Answer) → a ≡ Ok tt → and_then a b ≡ b
passed a b e = ap (λ (c : Answer). and_then c b) e

stopped : (a b : Answer) (r : Refusal) → a ≡ Err r → and_then a b ≡ Err r
stopped a b r e = ap (λ (c : Answer). and_then c b) e

module _ (x : Tables) where
  -- the verdict on each table, and from each table on
  abbrev pub on_types : Answer
  on_types = first_bad type_table max_types 16 x.t x.counts.types (good_type x)

  abbrev pub on_values : Answer
  on_values = first_bad value_table max_values 4 x.v x.counts.values (good_value x)

  abbrev pub on_operations : Answer
  on_operations = first_bad operation_table max_operations 16 x.o x.counts.operations (λ i. good_operation x i && room_at 0 (listed_by_operation x) i)

  abbrev pub on_attributes : Answer
  on_attributes =
      first_bad attribute_table max_attributes 8 x.a x.counts.attributes
      (λ k. good_attribute x k && room_at (before_attributes x) (listed_by_attribute x) k)

  abbrev pub on_blocks : Answer
  on_blocks = first_bad block_table max_blocks 4 x.b x.counts.blocks (λ j. good_block x j && room_at (before_blocks x) (listed_by_block x) j)

  abbrev pub on_regions : Answer
  on_regions = first_bad region_table max_regions 2 x.r x.counts.regions (λ k. good_region x k && room_at (before_regions x) (listed_by_region x) k)

  abbrev pub on_functions : Answer
  on_functions = first_bad function_table max_functions 1 x.f x.counts.functions (λ p. ltb (get_or (functions x) p 0) x.counts.operations)

  abbrev pub from_regions : Answer
  from_regions = and_then on_regions on_functions

  abbrev pub from_blocks : Answer
  from_blocks = and_then on_blocks from_regions

  abbrev pub from_attributes : Answer
  from_attributes = and_then on_attributes from_blocks

  abbrev pub from_operations : Answer
  from_operations = and_then on_operations from_attributes

  abbrev pub from_values : Answer
  from_values = and_then on_values from_operations

-- a table as the pass over it sees it, by its cells
module _ (table size width : ℕ) (cells : List ℕ) (n : ℕ) where
  abbrev pub pass : Pass
  pass = record { table = table; size = size; width = width; cells = length cells; count = n }

  pub first_is : (good : ℕ → Bool) → first_of pass good ≡ first_bad table size width cells n good
  unfolding first_of first_bad
  first_is good = refl

  -- what a pass over a table with lists answered is what the verdict has, and where it accepts, how many list entries there are
  module _ (good : ℕ → Bool) (listed : ℕ → ℕ) (before : ℕ) (s : Result ℕ Refusal) (e : s ≡ scan_of pass good listed before) where
    abbrev whole : Answer
    whole = first_bad table size width cells n (λ i. good i && room_at before listed i)

    pub scan_stops : (r : Refusal) → s ≡ Err r → whole ≡ Err r
    unfolding scan_of first_bad
    scan_stops r q = by_cases (find (λ i. not (stands size width cells i && (good i && room_at before listed i))) (below n)) (sym e ∙ q)
      where
        by_cases : (o : Option ℕ) → scanned table o (before + sum listed n) ≡ Err r → refused table o ≡ Err r
        by_cases none z = absurd (let y : ◌≡◌ {A = ℕ} 0 1 = cc in omega arith)
        by_cases (some i) z = let y : OutOfRange table i ≡ r = cc in ap Err y

    pub scan_goes : (u : ℕ) → s ≡ Ok u → (whole ≡ Ok tt) × (u ≡ before + sum listed n)
    unfolding scan_of first_bad
    scan_goes u q = by_cases (find (λ i. not (stands size width cells i && (good i && room_at before listed i))) (below n)) (sym e ∙ q)
      where
        by_cases : (o : Option ℕ) → scanned table o (before + sum listed n) ≡ Ok u → (refused table o ≡ Ok tt) × (u ≡ before + sum listed n)
        by_cases none z = (refl, cc)
        by_cases (some i) z = absurd (let y : ◌≡◌ {A = ℕ} 0 1 = cc in omega arith)

-- the same of a pass that the code made
module _ {t u : Pass} (e : t ≡ u) where
  pub first_as : (p : ℕ → Bool) {a : Answer} → a ≡ first_of t p → a ≡ first_of u p
  first_as p q = rw (← e) q

  pub scan_as : (p : ℕ → Bool) (f : ℕ → ℕ) (b : ℕ) {s : Result ℕ Refusal} → s ≡ scan_of t p f b → s ≡ scan_of u p f b
  scan_as p f b q = rw (← e) q

-- the tables one after the other, as the passes over them answered
module _ (x : Tables) {types : Answer} (e₁ : types ≡ first_of (pass type_table max_types 16 x.t x.counts.types) (good_type x)) where
  on_types_is : types ≡ on_types x
  on_types_is = e₁ ∙ first_is type_table max_types 16 x.t x.counts.types (good_type x)

  pub types_stop : {r : Refusal} → types ≡ Err r → table_ranges x ≡ Err r
  unfolding table_ranges
  types_stop {r} q = stopped (on_types x) (from_values x) r (sym on_types_is ∙ q)

  module _ (q₁ : types ≡ Ok tt) {values : Answer} (e₂ : values ≡ first_of (pass value_table max_values 4 x.v x.counts.values) (good_value x)) where
    on_values_is : values ≡ on_values x
    on_values_is = e₂ ∙ first_is value_table max_values 4 x.v x.counts.values (good_value x)

    types_pass : table_ranges x ≡ from_values x
    unfolding table_ranges
    types_pass = passed (on_types x) (from_values x) (sym on_types_is ∙ q₁)

    pub values_stop : {r : Refusal} → values ≡ Err r → table_ranges x ≡ Err r
    values_stop {r} q = types_pass ∙ stopped (on_values x) (from_operations x) r (sym on_values_is ∙ q)

    module _ (q₂ : values ≡ Ok tt) {o : Result ℕ Refusal}
        (e₃ : o ≡ scan_of (pass operation_table max_operations 16 x.o x.counts.operations) (good_operation x) (listed_by_operation x) 0) where
      values_pass : table_ranges x ≡ from_operations x
      values_pass = types_pass ∙ passed (on_values x) (from_operations x) (sym on_values_is ∙ q₂)

      pub operations_stop : {r : Refusal} → o ≡ Err r → table_ranges x ≡ Err r
      operations_stop {r} q =
          values_pass
          ∙ stopped (on_operations x) (from_attributes x) r
          (scan_stops operation_table max_operations 16 x.o x.counts.operations (good_operation x) (listed_by_operation x) 0 o e₃ r q)

      module _ {u : ℕ} (q₃ : o ≡ Ok u) {a : Result ℕ Refusal}
          (e₄ : a ≡ scan_of (pass attribute_table max_attributes 8 x.a x.counts.attributes) (good_attribute x) (listed_by_attribute x) u) where
        operations_go : (on_operations x ≡ Ok tt) × (u ≡ 0 + before_attributes x)
        operations_go = scan_goes operation_table max_operations 16 x.o x.counts.operations (good_operation x) (listed_by_operation x) 0 o e₃ u q₃

        operations_pass : table_ranges x ≡ from_attributes x
        operations_pass = values_pass ∙ passed (on_operations x) (from_attributes x) operations_go.0

        attributes_are : a ≡ scan_of (pass attribute_table max_attributes 8 x.a x.counts.attributes) (good_attribute x) (listed_by_attribute x) (before_attributes x)
        attributes_are =
            let z : u ≡ before_attributes x = omega (arith, operations_go.1) in
            e₄ ∙ ap (scan_of (pass attribute_table max_attributes 8 x.a x.counts.attributes) (good_attribute x) (listed_by_attribute x)) z

        pub attributes_stop : {r : Refusal} → a ≡ Err r → table_ranges x ≡ Err r
        attributes_stop {r} q =
            operations_pass
            ∙ stopped (on_attributes x) (from_blocks x) r
            (scan_stops attribute_table max_attributes 8 x.a x.counts.attributes (good_attribute x) (listed_by_attribute x) (before_attributes x) a attributes_are r q)

        module _ {v : ℕ} (q₄ : a ≡ Ok v) {b : Result ℕ Refusal}
            (e₅ : b ≡ scan_of (pass block_table max_blocks 4 x.b x.counts.blocks) (good_block x) (listed_by_block x) v) where
          attributes_go : (on_attributes x ≡ Ok tt) × (v ≡ before_blocks x)
          attributes_go =
              scan_goes attribute_table max_attributes 8 x.a x.counts.attributes (good_attribute x) (listed_by_attribute x) (before_attributes x) a
              attributes_are v q₄

          attributes_pass : table_ranges x ≡ from_blocks x
          attributes_pass = operations_pass ∙ passed (on_attributes x) (from_blocks x) attributes_go.0

          blocks_are : b ≡ scan_of (pass block_table max_blocks 4 x.b x.counts.blocks) (good_block x) (listed_by_block x) (before_blocks x)
          blocks_are = e₅ ∙ ap (scan_of (pass block_table max_blocks 4 x.b x.counts.blocks) (good_block x) (listed_by_block x)) attributes_go.1

          pub blocks_stop : {r : Refusal} → b ≡ Err r → table_ranges x ≡ Err r
          blocks_stop {r} q =
              attributes_pass
              ∙ stopped (on_blocks x) (from_regions x) r
              (scan_stops block_table max_blocks 4 x.b x.counts.blocks (good_block x) (listed_by_block x) (before_blocks x) b blocks_are r q)

          module _ {w : ℕ} (q₅ : b ≡ Ok w) {k : Result ℕ Refusal}
              (e₆ : k ≡ scan_of (pass region_table max_regions 2 x.r x.counts.regions) (good_region x) (listed_by_region x) w) where
            blocks_go : (on_blocks x ≡ Ok tt) × (w ≡ before_regions x)
            blocks_go = scan_goes block_table max_blocks 4 x.b x.counts.blocks (good_block x) (listed_by_block x) (before_blocks x) b blocks_are w q₅

            blocks_pass : table_ranges x ≡ from_regions x
            blocks_pass = attributes_pass ∙ passed (on_blocks x) (from_regions x) blocks_go.0

            regions_are : k ≡ scan_of (pass region_table max_regions 2 x.r x.counts.regions) (good_region x) (listed_by_region x) (before_regions x)
            regions_are = e₆ ∙ ap (scan_of (pass region_table max_regions 2 x.r x.counts.regions) (good_region x) (listed_by_region x)) blocks_go.1

            pub regions_stop : {r : Refusal} → k ≡ Err r → table_ranges x ≡ Err r
            regions_stop {r} q =
                blocks_pass
                ∙ stopped (on_regions x) (on_functions x) r
                (scan_stops region_table max_regions 2 x.r x.counts.regions (good_region x) (listed_by_region x) (before_regions x) k regions_are r q)

            pub functions_end : {y : ℕ} → k ≡ Ok y → {r : Answer}
                → r ≡ first_of (pass function_table max_functions 1 x.f x.counts.functions) (λ p. ltb (get_or (functions x) p 0) x.counts.operations)
                → r ≡ table_ranges x
            functions_end {y} q e₇ =
                let g = scan_goes region_table max_regions 2 x.r x.counts.regions (good_region x) (listed_by_region x) (before_regions x) k regions_are y q in
                e₇
                ∙ first_is function_table max_functions 1 x.f x.counts.functions (λ p. ltb (get_or (functions x) p 0) x.counts.operations)
                ∙ sym (blocks_pass ∙ passed (on_regions x) (on_functions x) g.0)
