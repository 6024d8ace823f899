-- What an accepted answer says of the tables: every count within its size, every id within its table, every list whole. Assumes nothing.
use mathlib.Core.Path.{◌≡◌, refl, sym, ap, ◌∙◌}
use mathlib.Core.Bool.{Bool, true, false, ◌&&◌, not, and-eq-true_iff, false≢true}
use mathlib.Core.List.{List}
use mathlib.Core.Logic.{⊎_elim}
use mathlib.Core.Option.{Option, some, none}
use Prim.Native.Nat.{ℕ, zero, suc, ◌+◌, ◌*◌, ◌≤◌, ◌<◌, min}
use native.Mathlib.Omega.{arith}
use borrow.Author.Tests.{le-ltb, le-leb, ltb-true, leb-true}
use lib.Dec.{ltb, leb}
use lib.ListN.{length, get_or, length-take}
use Rattle.cells.specs.Cell.{entries_of}
use Rattle.cells.specs.Lists.{below, find}
use Rattle.cells.specs.declared.Span.{Span}
use Rattle.cells.proofs.Parts.{entries_whole}
use Rattle.cells.proofs.Rows.{lt_or_ge}
use Rattle.names.specs.Names.{names}
use Rattle.tables.proofs.Each.{both_accept}
use Rattle.tables.specs.Layout.{counted_span, result_types_span_in, operands_span_in, regions_span_in, attributes_span_in, arguments_span_in, operations_span_in, blocks_span_in, blocks_in, numbers_span_in, numbers_in, result_types_in, operands_in, regions_in, arguments_in, operations_in, claim_in, claim_flag_in, functions_in}
use Rattle.tables.specs.Sizes.{max_types, max_values, max_operations, max_attributes, max_blocks, max_regions, max_functions, opcodes, type_table, value_table, operation_table, attribute_table, block_table, region_table, function_table}
use Rattle.tables.specs.Tables.{Tables, cut, functions, opcode, value_type, claim, claim_flag, attribute_name, attribute_form, attribute_numbers, attribute_absent, result_types_span, operands_span, regions_span, attributes_span, numbers_span, arguments_span, operations_span, blocks_span}
use Rattle.std.specs.Prelude as std
use Rattle.tables.specs.declared.Claim.{Claim}
use Rattle.std.specs.Prelude.{Ok, Err, Some, None}
use Rattle.ranges.specs.Entry.{all_below, good_type, good_claim, good_value, good_operation, good_numbers, good_attribute, good_block, good_region}
use Rattle.ranges.specs.Range.{sum, room_at, listed_by_operation, listed_by_attribute, listed_by_block, listed_by_region, before_attributes, before_blocks, before_regions, stands, refused, first_bad, table_ranges}
use Rattle.ranges.specs.Part.{good_list}
use Rattle.ranges.specs.Ranged.{Below, Ranged}
use Rattle.ranges.proofs.Find.{all_pass, all_at}
use Rattle.ranges.proofs.Tests.{block_tests, operation_tests}
use Rattle.ranges.proofs.Verdict.{on_types, on_values, on_operations, on_attributes, on_blocks, on_regions, on_functions, from_values, from_operations, from_attributes, from_blocks, from_regions}

-- two tests that hold
both : (a b : Bool) → (a && b) ≡ true → (a ≡ true) × (b ≡ true)
both a b e = (and-eq-true_iff a b).0 e

-- a table that passes: each entry stands and is good, so the count is within the size
module _ (table size width : ℕ) (cells : List ℕ) (n : ℕ) (good : ℕ → Bool) (e : first_bad table size width cells n good ≡ Ok tt) where
  none_bad : find (λ i. not (stands size width cells i && good i)) (below n) ≡ none
  unfolding first_bad
  none_bad = by_cases (find (λ i. not (stands size width cells i && good i)) (below n)) e
    where
      by_cases : (o : Option ℕ) → refused table o ≡ Ok tt → o ≡ none
      by_cases none z = refl
      by_cases (some i) z = absurd (let y : ◌≡◌ {A = ℕ} 0 1 = cc in omega arith)

  passes : (i : ℕ) → i < n → (stands size width cells i ≡ true) × (good i ≡ true)
  passes i h = both (stands size width cells i) (good i) (all_pass (λ k. stands size width cells k && good k) n none_bad i h)

  entry_good : (i : ℕ) → i < n → good i ≡ true
  entry_good i h = (passes i h).1

  entry_small : (i : ℕ) → i < n → i < size
  entry_small i h = ltb-true i size (both (ltb i size) (leb (suc i * width) (length cells)) (passes i h).0).0

  entry_whole : (i : ℕ) → i < n → suc i * width ≤ length cells
  entry_whole i h = leb-true (suc i * width) (length cells) (both (ltb i size) (leb (suc i * width) (length cells)) (passes i h).0).1

  count_fits : n ≤ size
  count_fits = ⊎_elim (λ h. absurd (omega (arith, entry_small size h))) (λ h. h) (lt_or_ge size n)

-- a table with lists that passes
entry_held : (table size width : ℕ) (cells : List ℕ) (n : ℕ) (good : ℕ → Bool) (listed : ℕ → ℕ) (before : ℕ)
    → first_bad table size width cells n (λ i. good i && room_at before listed i) ≡ Ok tt
    → (i : ℕ) → i < n → (good i ≡ true) × (room_at before listed i ≡ true)
entry_held table size width cells n good listed before e i h =
    both (good i) (room_at before listed i) (entry_good table size width cells n (λ k. good k && room_at before listed k) e i h)

-- the list entries up to a table's end, where there is room at each entry
room_held : (before : ℕ) (f : ℕ → ℕ) (n : ℕ) → before ≤ 8192 → ((i : ℕ) → i < n → room_at before f i ≡ true) → before + sum f n ≤ 8192
room_held before f zero h g = omega arith
room_held before f (suc n) h g = leb-true (before + sum f (suc n)) 8192 (g n (omega arith))

-- a list that passes
module _ (l : List ℕ) (s : Span) (n : ℕ) (e : good_list l s n ≡ true) where
  list_whole : length (entries_of l s) ≡ s.len
  list_whole = entries_whole l s (leb-true (s.start + s.len) (length l) (both (leb (s.start + s.len) (length l)) (all_below n (entries_of l s)) e).0)

  list_below : Below (entries_of l s) n
  list_below k h =
      ltb-true (get_or (entries_of l s) k 0) n
      (all_at (λ x. ltb x n) (entries_of l s) (both (leb (s.start + s.len) (length l)) (all_below n (entries_of l s)) e).1 k h)

-- a list of a row past the count
past_good : (l : List ℕ) (m n w : ℕ) (xs : List ℕ) (i j : ℕ) → n ≤ i → good_list l (counted_span n w xs i j) m ≡ true
past_good l m n w xs i j h = rw (le-ltb i n h) (rw (le-leb (0 + 0) (length l) (omega arith)))

five : (a b c d e : Bool) → (a && b && c && d && e) ≡ true → (a ≡ true) × (b ≡ true) × (c ≡ true) × (d ≡ true) × (e ≡ true)
five true true true true true q = (refl, refl, refl, refl, refl)
five false b c d e q = absurd (false≢true q)
five true false c d e q = absurd (false≢true q)
five true true false d e q = absurd (false≢true q)
five true true true false e q = absurd (false≢true q)
five true true true true false q = absurd (false≢true q)

module _ (x : Tables) (e : table_ranges x ≡ Ok tt) where
  -- every table passes
  types_passed : (on_types x ≡ Ok tt) × (from_values x ≡ Ok tt)
  unfolding table_ranges
  types_passed = both_accept (on_types x) (from_values x) e

  values_passed : (on_values x ≡ Ok tt) × (from_operations x ≡ Ok tt)
  values_passed = both_accept (on_values x) (from_operations x) types_passed.1

  operations_passed : (on_operations x ≡ Ok tt) × (from_attributes x ≡ Ok tt)
  operations_passed = both_accept (on_operations x) (from_attributes x) values_passed.1

  attributes_passed : (on_attributes x ≡ Ok tt) × (from_blocks x ≡ Ok tt)
  attributes_passed = both_accept (on_attributes x) (from_blocks x) operations_passed.1

  blocks_passed : (on_blocks x ≡ Ok tt) × (from_regions x ≡ Ok tt)
  blocks_passed = both_accept (on_blocks x) (from_regions x) attributes_passed.1

  regions_passed : (on_regions x ≡ Ok tt) × (on_functions x ≡ Ok tt)
  regions_passed = both_accept (on_regions x) (on_functions x) blocks_passed.1

  -- every entry that counts is good, and there is room for its lists
  pub every_type : (i : ℕ) → i < x.counts.types → good_type x i ≡ true
  every_type = entry_good type_table max_types 16 x.t x.counts.types (good_type x) types_passed.0

  pub every_value : (i : ℕ) → i < x.counts.values → good_value x i ≡ true
  every_value = entry_good value_table max_values 4 x.v x.counts.values (good_value x) values_passed.0

  operation_held : (i : ℕ) → i < x.counts.operations → (good_operation x i ≡ true) × (room_at 0 (listed_by_operation x) i ≡ true)
  operation_held =
      entry_held operation_table max_operations 16 x.o x.counts.operations (good_operation x) (listed_by_operation x) 0 operations_passed.0

  attribute_held : (k : ℕ) → k < x.counts.attributes
      → (good_attribute x k ≡ true) × (room_at (before_attributes x) (listed_by_attribute x) k ≡ true)
  attribute_held =
      entry_held attribute_table max_attributes 8 x.a x.counts.attributes (good_attribute x) (listed_by_attribute x) (before_attributes x)
      attributes_passed.0

  block_held : (j : ℕ) → j < x.counts.blocks → (good_block x j ≡ true) × (room_at (before_blocks x) (listed_by_block x) j ≡ true)
  block_held = entry_held block_table max_blocks 4 x.b x.counts.blocks (good_block x) (listed_by_block x) (before_blocks x) blocks_passed.0

  region_held : (k : ℕ) → k < x.counts.regions → (good_region x k ≡ true) × (room_at (before_regions x) (listed_by_region x) k ≡ true)
  region_held = entry_held region_table max_regions 2 x.r x.counts.regions (good_region x) (listed_by_region x) (before_regions x) regions_passed.0

  pub every_attribute : (k : ℕ) → k < x.counts.attributes → good_attribute x k ≡ true
  every_attribute k h = (attribute_held k h).0

  -- the list entries, table by table
  entries_held : before_regions x + sum (listed_by_region x) x.counts.regions ≤ 8192
  entries_held =
      room_held (before_regions x) (listed_by_region x) x.counts.regions
      (room_held (before_blocks x) (listed_by_block x) x.counts.blocks
      (room_held (before_attributes x) (listed_by_attribute x) x.counts.attributes
      (omega (arith, room_held 0 (listed_by_operation x) x.counts.operations (omega arith) (λ i h. (operation_held i h).1)))
      (λ i h. (attribute_held i h).1))
      (λ i h. (block_held i h).1))
      (λ i h. (region_held i h).1)

  -- an operation's five tests
  tests : (i : ℕ) → i < x.counts.operations
      → (ltb (opcode x i) opcodes ≡ true)
      × (good_list x.l (result_types_span x i) x.counts.types ≡ true)
      × (good_list x.l (operands_span x i) x.counts.values ≡ true)
      × (good_list x.l (regions_span x i) x.counts.regions ≡ true)
      × (leb ((attributes_span x i).start + (attributes_span x i).len) x.counts.attributes ≡ true)
  tests i h =
      five (ltb (opcode x i) opcodes) (good_list x.l (result_types_span x i) x.counts.types) (good_list x.l (operands_span x i) x.counts.values)
      (good_list x.l (regions_span x i) x.counts.regions) (leb ((attributes_span x i).start + (attributes_span x i).len) x.counts.attributes)
      (operation_tests x i ∙ (operation_held i h).0)

  -- a block's two
  block_lists : (j : ℕ) → j < x.counts.blocks
      → (good_list x.l (arguments_span x j) x.counts.values ≡ true) × (good_list x.l (operations_span x j) x.counts.operations ≡ true)
  block_lists j h =
      both (good_list x.l (arguments_span x j) x.counts.values) (good_list x.l (operations_span x j) x.counts.operations)
      (block_tests x j ∙ (block_held j h).0)

  -- the lists of every row
  result_types_good : (i : ℕ) → good_list x.l (result_types_span x i) x.counts.types ≡ true
  unfolding result_types_span_in
  result_types_good i = ⊎_elim
      (λ h. (tests i h).1)
      (λ h. past_good x.l x.counts.types x.counts.operations 16 x.o i 1 h)
      (lt_or_ge i x.counts.operations)

  operands_good : (i : ℕ) → good_list x.l (operands_span x i) x.counts.values ≡ true
  unfolding operands_span_in
  operands_good i = ⊎_elim
      (λ h. (tests i h).2)
      (λ h. past_good x.l x.counts.values x.counts.operations 16 x.o i 3 h)
      (lt_or_ge i x.counts.operations)

  regions_good : (i : ℕ) → good_list x.l (regions_span x i) x.counts.regions ≡ true
  unfolding regions_span_in
  regions_good i = ⊎_elim
      (λ h. (tests i h).3)
      (λ h. past_good x.l x.counts.regions x.counts.operations 16 x.o i 5 h)
      (lt_or_ge i x.counts.operations)

  arguments_good : (j : ℕ) → good_list x.l (arguments_span x j) x.counts.values ≡ true
  unfolding arguments_span_in
  arguments_good j = ⊎_elim
      (λ h. (block_lists j h).0)
      (λ h. past_good x.l x.counts.values x.counts.blocks 4 x.b j 0 h)
      (lt_or_ge j x.counts.blocks)

  operations_good : (j : ℕ) → good_list x.l (operations_span x j) x.counts.operations ≡ true
  unfolding operations_span_in
  operations_good j = ⊎_elim
      (λ h. (block_lists j h).1)
      (λ h. past_good x.l x.counts.operations x.counts.blocks 4 x.b j 2 h)
      (lt_or_ge j x.counts.blocks)

  region_list : (k : ℕ) → k < x.counts.regions → good_list x.l (blocks_span x k) x.counts.blocks ≡ true
  unfolding good_region blocks_in
  region_list k h = (region_held k h).0

  blocks_good : (k : ℕ) → good_list x.l (blocks_span x k) x.counts.blocks ≡ true
  unfolding blocks_span_in
  blocks_good k = ⊎_elim
      (region_list k)
      (λ h. past_good x.l x.counts.blocks x.counts.regions 2 x.r k 0 h)
      (lt_or_ge k x.counts.regions)

  attributes_held : (i : ℕ) → (attributes_span x i).start + (attributes_span x i).len ≤ x.counts.attributes
  unfolding attributes_span_in
  attributes_held i = ⊎_elim
      (λ h. leb-true ((attributes_span x i).start + (attributes_span x i).len) x.counts.attributes (tests i h).4)
      (λ h. rw (le-ltb i x.counts.operations h) (omega arith))
      (lt_or_ge i x.counts.operations)

  numbers_held : (k : ℕ) → (numbers_span x k).start + (numbers_span x k).len ≤ length x.l
  unfolding good_attribute numbers_span_in
  numbers_held k = ⊎_elim
      (λ h.
      leb-true ((numbers_span x k).start + (numbers_span x k).len) (length x.l)
      (both (leb (attribute_name x k) (length names)) (leb ((numbers_span x k).start + (numbers_span x k).len) (length x.l))
      (both (leb (attribute_name x k) (length names) && leb ((numbers_span x k).start + (numbers_span x k).len) (length x.l))
      (good_numbers (attribute_form x k) (numbers_span x k).len (attribute_absent x k) (attribute_numbers x k)) (every_attribute k h)).0
      ).1)
      (λ h. rw (le-ltb k x.counts.attributes h) (omega arith))
      (lt_or_ge k x.counts.attributes)

  -- a value's three tests
  value_tests : (v : ℕ) → v < x.counts.values → (ltb (value_type x v) x.counts.types ≡ true) × (good_claim x (claim x v) ≡ true)
  unfolding good_value
  value_tests v h =
      let q = both (ltb (value_type x v) x.counts.types && ltb (claim_flag x v) 2) (good_claim x (claim x v)) (every_value v h) in
      ((both (ltb (value_type x v) x.counts.types) (ltb (claim_flag x v) 2) q.0).0, q.1)

  no_claim : (v : ℕ) → x.counts.values ≤ v → claim x v ≡ None
  unfolding claim_in claim_flag_in
  no_claim v h = rw (le-ltb v x.counts.values h)

  claims_held : (v i k : ℕ) → claim x v ≡ Some (record { operation = i; index = k }) → i < x.counts.operations
  claims_held v i k q = ⊎_elim
      (λ h. ltb-true i x.counts.operations (sym (ap (good_claim x) q) ∙ (value_tests v h).1))
      (λ h. absurd (let z : ◌≡◌ {A = std.Option Claim} None (Some (record { operation = i; index = k })) = sym (no_claim v h) ∙ q in let y : ◌≡◌ {A = ℕ} 0 1 = cc in omega arith))
      (lt_or_ge v x.counts.values)

  functions_held : x.counts.functions ≤ length x.f
  functions_held =
      by_count x.counts.functions
      (entry_whole function_table max_functions 1 x.f x.counts.functions (λ p. ltb (get_or (functions x) p 0) x.counts.operations)
      regions_passed.1)
    where
      by_count : (n : ℕ) → ((i : ℕ) → i < n → suc i * 1 ≤ length x.f) → n ≤ length x.f
      by_count zero g = omega arith
      by_count (suc n) g = omega (arith, g n (omega arith))

  functions_length : length (functions x) ≡ x.counts.functions
  unfolding functions_in
  functions_length = let h = functions_held in simp length-take (omega arith)

  pub ranged : Ranged x
  unfolding result_types_in operands_in regions_in numbers_in arguments_in operations_in blocks_in
  ranged = record {
    types_fit = count_fits type_table max_types 16 x.t x.counts.types (good_type x) types_passed.0;
    values_fit = count_fits value_table max_values 4 x.v x.counts.values (good_value x) values_passed.0;
    operations_fit =
        count_fits operation_table max_operations 16 x.o x.counts.operations (λ i. good_operation x i && room_at 0 (listed_by_operation x) i) operations_passed.0;
    attributes_fit =
        count_fits attribute_table max_attributes 8 x.a x.counts.attributes
        (λ k. good_attribute x k && room_at (before_attributes x) (listed_by_attribute x) k) attributes_passed.0;
    blocks_fit =
        count_fits block_table max_blocks 4 x.b x.counts.blocks (λ j. good_block x j && room_at (before_blocks x) (listed_by_block x) j) blocks_passed.0;
    regions_fit =
        count_fits region_table max_regions 2 x.r x.counts.regions (λ k. good_region x k && room_at (before_regions x) (listed_by_region x) k) regions_passed.0;
    functions_fit =
        count_fits function_table max_functions 1 x.f x.counts.functions (λ p. ltb (get_or (functions x) p 0) x.counts.operations) regions_passed.1;
    value_types = λ v h. ltb-true (value_type x v) x.counts.types (value_tests v h).0;
    claims = claims_held;
    opcodes_known = λ i h. ltb-true (opcode x i) opcodes (tests i h).0;
    result_types_below = λ i. list_below x.l (result_types_span x i) x.counts.types (result_types_good i);
    operands_below = λ i. list_below x.l (operands_span x i) x.counts.values (operands_good i);
    regions_below = λ i. list_below x.l (regions_span x i) x.counts.regions (regions_good i);
    arguments_below = λ j. list_below x.l (arguments_span x j) x.counts.values (arguments_good j);
    operations_below = λ j. list_below x.l (operations_span x j) x.counts.operations (operations_good j);
    blocks_below = λ k. list_below x.l (blocks_span x k) x.counts.blocks (blocks_good k);
    functions_below = λ p h.
        ltb-true (get_or (functions x) p 0) x.counts.operations
        (entry_good function_table max_functions 1 x.f x.counts.functions (λ k. ltb (get_or (functions x) k 0) x.counts.operations) regions_passed.1 p
        (omega (arith, functions_length)));
    result_types_whole = λ i. list_whole x.l (result_types_span x i) x.counts.types (result_types_good i);
    operands_whole = λ i. list_whole x.l (operands_span x i) x.counts.values (operands_good i);
    regions_whole = λ i. list_whole x.l (regions_span x i) x.counts.regions (regions_good i);
    numbers_whole = λ k. entries_whole x.l (numbers_span x k) (numbers_held k);
    arguments_whole = λ j. list_whole x.l (arguments_span x j) x.counts.values (arguments_good j);
    operations_whole = λ j. list_whole x.l (operations_span x j) x.counts.operations (operations_good j);
    blocks_whole = λ k. list_whole x.l (blocks_span x k) x.counts.blocks (blocks_good k);
    functions_whole = functions_length;
    attributes_within = attributes_held;
    entries_fit = entries_held;
  }

-- the checks after code 1 look at the counts cut at the sizes: at all there is
pub cut_is : (x : Tables) → Ranged x → cut x ≡ x
cut_is x h =
    let t : min x.counts.types max_types ≡ x.counts.types = omega (arith, h.types_fit) in
    let v : min x.counts.values max_values ≡ x.counts.values = omega (arith, h.values_fit) in
    let o : min x.counts.operations max_operations ≡ x.counts.operations = omega (arith, h.operations_fit) in
    let a : min x.counts.attributes max_attributes ≡ x.counts.attributes = omega (arith, h.attributes_fit) in
    let b : min x.counts.blocks max_blocks ≡ x.counts.blocks = omega (arith, h.blocks_fit) in
    let r : min x.counts.regions max_regions ≡ x.counts.regions = omega (arith, h.regions_fit) in
    let f : min x.counts.functions max_functions ≡ x.counts.functions = omega (arith, h.functions_fit) in
    rw (t, v, o, a, b, r, f)
