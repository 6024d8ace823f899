-- Code 1 of the nesting: the passes in turn are the verdict, and what an accepted verdict says of the tables. Assumes nothing.
use Prim.Native.Nat.{ℕ, zero, suc, ◌+◌, ◌≤◌, ◌<◌, min}
use native.Mathlib.Omega.{arith}
use mathlib.Core.Path.{◌≡◌, refl, sym, ap, ◌∙◌}
use mathlib.Core.Bool.{Bool, true, ◌&&◌, not, and-eq-true_iff}
use mathlib.Core.Logic.{⊎_elim}
use mathlib.Core.Option.{Option, some, none}
use mathlib.Core.List.{List}
use lib.Dec.{ltb, leb}
use lib.ListN.{length, get_or, length-take}
use borrow.Author.Tests.{le-ltb, le-leb, ltb-true, leb-true}
use Rattle.cells.specs.Cell.{entries_of}
use Rattle.cells.specs.Lists.{below, find}
use Rattle.cells.specs.declared.Span.{Span}
use Rattle.cells.proofs.Rows.{lt_or_ge}
use Rattle.tables.specs.Layout.{counted_span, regions_span_in, regions_in, operations_span_in, operations_in, blocks_span_in, blocks_in, functions_in}
use Rattle.tables.specs.Tables.{Tables, functions, regions, blocks, operations, regions_span, blocks_span, operations_span, cut}
use Rattle.tables.specs.Answer.{and_then, Answer}
use Rattle.std.specs.Prelude.{Result, Ok, Err}
use Rattle.tables.specs.Sizes.{max_operations, max_blocks, max_regions, max_functions, operation_table, block_table, region_table, function_table}
use Rattle.tables.specs.declared.Refusal.TheVariants.{OutOfRange}
use Rattle.tables.specs.declared.Refusal.{Refusal}
use Rattle.ranges.specs.Entry.{good_region}
use Rattle.ranges.specs.Range.{sum, room_at, stands, refused, first_bad, listed_by_operation, listed_by_block, listed_by_region}
use Rattle.ranges.specs.Part.{good_list, first_of, scanned, scan_of}
use Rattle.ranges.specs.declared.Pass.{Pass}
use Rattle.ranges.specs.Ranged.{Below}
use Rattle.ranges.proofs.Find.{all_pass, all_at}
use Rattle.listed.specs.Twice.{listed_twice}
use Rattle.tables.proofs.Each.{both_accept}
use Rattle.nesting_check.specs.Checks.{nested_operation, nested_block, up_to_operations, up_to_blocks, nesting_ranges}

module _ (x : Tables) where
  -- the verdict on each table, and from each table on
  abbrev pub on_operations : Answer
  on_operations = first_bad 3 2048 16 x.o x.counts.operations (λ i. nested_operation x i && room_at 0 (listed_by_operation x) i)

  abbrev pub on_blocks : ℕ → Answer
  on_blocks before = first_bad 5 512 4 x.b x.counts.blocks (λ j. nested_block x j && room_at before (listed_by_block x) j)

  abbrev pub on_regions : ℕ → Answer
  on_regions before = first_bad 6 512 2 x.r x.counts.regions (λ k. good_region x k && room_at before (listed_by_region x) k)

  abbrev pub on_functions : Answer
  on_functions = first_bad 7 64 1 x.f x.counts.functions (λ p. ltb (get_or (functions x) p 0) x.counts.operations)

  abbrev from_regions : Answer
  from_regions = and_then (on_regions (up_to_blocks x)) on_functions

  abbrev from_blocks : Answer
  from_blocks = and_then (on_blocks (up_to_operations x)) from_regions

  -- the tables as the passes over them see them
  abbrev pub of_operations : Pass
  of_operations = record { table = operation_table; size = max_operations; width = 16; cells = length x.o; count = x.counts.operations }

  abbrev pub of_blocks : Pass
  of_blocks = record { table = block_table; size = max_blocks; width = 4; cells = length x.b; count = x.counts.blocks }

  abbrev pub of_regions : Pass
  of_regions = record { table = region_table; size = max_regions; width = 2; cells = length x.r; count = x.counts.regions }

  abbrev pub of_functions : Pass
  of_functions = record { table = function_table; size = max_functions; width = 1; cells = length x.f; count = x.counts.functions }

-- ---- a pass over a table that holds lists, in the turn of the verdict with the tables after it

module _ (table size width : ℕ) (cells : List ℕ) (n : ℕ) (good : ℕ → Bool) (listed : ℕ → ℕ) (before : ℕ) where
  abbrev whole : Answer
  whole = first_bad table size width cells n (λ i. good i && room_at before listed i)

  module _ (s : Result ℕ Refusal)
      (e : s ≡ scan_of (record { table = table; size = size; width = width; cells = length cells; count = n }) good listed before) where
    pub scan_stops : (r : Refusal) → s ≡ Err r → whole ≡ Err r
    unfolding scan_of first_bad
    scan_stops r q = by_cases (find (λ i. not (stands size width cells i && (good i && room_at before listed i))) (below n)) (sym e ∙ q)
      where
        by_cases : (o : Option ℕ) → scanned table o (before + sum listed n) ≡ Err r → refused table o ≡ Err r
        by_cases none z = absurd (let y : ◌≡◌ {A = ℕ} 0 1 = cc in omega arith)
        by_cases (some i) z = let y : OutOfRange table i ≡ r = cc in ap Err y

    pub scan_passes : (u : ℕ) → s ≡ Ok u → (whole ≡ Ok tt) × (u ≡ before + sum listed n)
    unfolding scan_of first_bad
    scan_passes u q = by_cases (find (λ i. not (stands size width cells i && (good i && room_at before listed i))) (below n)) (sym e ∙ q)
      where
        by_cases : (o : Option ℕ) → scanned table o (before + sum listed n) ≡ Ok u → (refused table o ≡ Ok tt) × (u ≡ before + sum listed n)
        by_cases none z = (refl, cc)
        by_cases (some i) z = absurd (let y : ◌≡◌ {A = ℕ} 0 1 = cc in omega arith)

passed : (a b : Answer) → a ≡ Ok tt → and_then a b ≡ b
passed a b e = ap (λ (c : Answer). and_then c b) e

stopped : (a b : Answer) (r : Refusal) → a ≡ Err r → and_then a b ≡ Err r
stopped a b r e = ap (λ (c : Answer). and_then c b) e

module _ (x : Tables) (o : Result ℕ Refusal) (s : o ≡ scan_of (of_operations x) (nested_operation x) (listed_by_operation x) 0) where
  pub operations_stop : (r : Refusal) → o ≡ Err r → Err r ≡ nesting_ranges x
  unfolding nesting_ranges
  operations_stop r q = sym (stopped (on_operations x) (from_blocks x) r (scan_stops 3 2048 16 x.o x.counts.operations _ _ 0 o s r q))

  module _ (u : ℕ) (p : o ≡ Ok u) (b : Result ℕ Refusal) (t : b ≡ scan_of (of_blocks x) (nested_block x) (listed_by_block x) u) where
    after_operations : nesting_ranges x ≡ from_blocks x
    unfolding nesting_ranges
    after_operations = passed (on_operations x) (from_blocks x) (scan_passes 3 2048 16 x.o x.counts.operations _ _ 0 o s u p).0

    before_blocks_lem : u ≡ up_to_operations x
    before_blocks_lem = omega (arith, (scan_passes 3 2048 16 x.o x.counts.operations (nested_operation x) (listed_by_operation x) 0 o s u p).1)

    pub blocks_stop : (r : Refusal) → b ≡ Err r → Err r ≡ nesting_ranges x
    blocks_stop r q =
        sym (after_operations
        ∙ ap (λ (k : ℕ). and_then (on_blocks x k) (from_regions x)) (sym before_blocks_lem)
        ∙ stopped (on_blocks x u) (from_regions x) r (scan_stops 5 512 4 x.b x.counts.blocks _ _ u b t r q))

    module _ (v : ℕ) (q : b ≡ Ok v) (k : Result ℕ Refusal) (w : k ≡ scan_of (of_regions x) (good_region x) (listed_by_region x) v) where
      blocks_passed : (on_blocks x u ≡ Ok tt) × (v ≡ u + sum (listed_by_block x) x.counts.blocks)
      blocks_passed = scan_passes 5 512 4 x.b x.counts.blocks (nested_block x) (listed_by_block x) u b t v q

      after_blocks : nesting_ranges x ≡ from_regions x
      after_blocks =
          after_operations
          ∙ ap (λ (k : ℕ). and_then (on_blocks x k) (from_regions x)) (sym before_blocks_lem)
          ∙ passed (on_blocks x u) (from_regions x) blocks_passed.0

      before_regions_lem : v ≡ up_to_blocks x
      before_regions_lem = blocks_passed.1 ∙ ap (λ (m : ℕ). m + sum (listed_by_block x) x.counts.blocks) before_blocks_lem

      pub regions_stop : (r : Refusal) → k ≡ Err r → Err r ≡ nesting_ranges x
      regions_stop r z =
          sym (after_blocks
          ∙ ap (λ (m : ℕ). and_then (on_regions x m) (on_functions x)) (sym before_regions_lem)
          ∙ stopped (on_regions x v) (on_functions x) r (scan_stops 6 512 2 x.r x.counts.regions _ _ v k w r z))

      pub functions_end : (m : ℕ) → k ≡ Ok m → (a : Answer)
          → a ≡ first_of (of_functions x) (λ p. ltb (get_or (functions x) p 0) x.counts.operations)
          → a ≡ nesting_ranges x
      unfolding first_of first_bad
      functions_end m z a e =
          e
          ∙ sym (after_blocks
          ∙ ap (λ (m : ℕ). and_then (on_regions x m) (on_functions x)) (sym before_regions_lem)
          ∙ passed (on_regions x v) (on_functions x) (scan_passes 6 512 2 x.r x.counts.regions (good_region x) (listed_by_region x) v k w m z).0)

-- ---- a table that passes

module _ (table size width : ℕ) (cells : List ℕ) (n : ℕ) (good : ℕ → Bool) (e : first_bad table size width cells n good ≡ Ok tt) where
  none_bad : find (λ i. not (stands size width cells i && good i)) (below n) ≡ none
  unfolding first_bad
  none_bad = by_cases (find (λ i. not (stands size width cells i && good i)) (below n)) e
    where
      by_cases : (o : Option ℕ) → refused table o ≡ Ok tt → o ≡ none
      by_cases none z = refl
      by_cases (some i) z = absurd (let y : ◌≡◌ {A = ℕ} 0 1 = cc in omega arith)

  pub passes : (i : ℕ) → i < n → (stands size width cells i ≡ true) × (good i ≡ true)
  passes i h = (and-eq-true_iff (stands size width cells i) (good i)).0 (all_pass (λ k. stands size width cells k && good k) n none_bad i h)

  entry_small : (i : ℕ) → i < n → i < size
  entry_small i h = ltb-true i size ((and-eq-true_iff (ltb i size) _).0 (passes i h).0).0

  count_fits : n ≤ size
  count_fits = ⊎_elim (λ h. absurd (omega (arith, entry_small size h))) (λ h. h) (lt_or_ge size n)

-- the list entries up to a table's end
room_held : (before : ℕ) (f : ℕ → ℕ) (n : ℕ) → before ≤ 8192 → ((i : ℕ) → i < n → room_at before f i ≡ true) → before + sum f n ≤ 8192
room_held before f zero h g = omega arith
room_held before f (suc n) h g = leb-true (before + sum f (suc n)) 8192 (g n (omega arith))

-- a list of an entry that passes, and of one past the count
list_below : (l : List ℕ) (s : Span) (n : ℕ) → good_list l s n ≡ true → Below (entries_of l s) n
list_below l s n e k h = ltb-true (get_or (entries_of l s) k 0) n (all_at (λ x. ltb x n) (entries_of l s) ((and-eq-true_iff (leb (s.start + s.len) (length l)) _).0 e).1 k h)

past_good : (l : List ℕ) (m n w : ℕ) (xs : List ℕ) (i j : ℕ) → n ≤ i → good_list l (counted_span n w xs i j) m ≡ true
past_good l m n w xs i j h = rw (le-ltb i n h) (rw (le-leb (0 + 0) (length l) (omega arith)))

-- what the nesting has where its code 1 passes
pub record Nested (x : Tables) : Type 0 where
  pub operations_fit : x.counts.operations ≤ 2048
  pub blocks_fit : x.counts.blocks ≤ 512
  pub regions_fit : x.counts.regions ≤ 512
  pub functions_fit : x.counts.functions ≤ 64
  pub regions_below : (i : ℕ) → Below (regions x i) x.counts.regions
  pub operations_below : (j : ℕ) → Below (operations x j) x.counts.operations
  pub blocks_below : (k : ℕ) → Below (blocks x k) x.counts.blocks
  pub functions_below : Below (functions x) x.counts.operations
  pub entries_fit : up_to_blocks x ≤ 8192

module _ (x : Tables) (e : nesting_ranges x ≡ Ok tt) where
  turn₁ : (on_operations x ≡ Ok tt) × (from_blocks x ≡ Ok tt)
  unfolding nesting_ranges
  turn₁ = both_accept (on_operations x) (from_blocks x) e

  turn₂ : (on_blocks x (up_to_operations x) ≡ Ok tt) × (from_regions x ≡ Ok tt)
  turn₂ = both_accept (on_blocks x (up_to_operations x)) (from_regions x) turn₁.1

  turn₃ : (on_regions x (up_to_blocks x) ≡ Ok tt) × (on_functions x ≡ Ok tt)
  turn₃ = both_accept (on_regions x (up_to_blocks x)) (on_functions x) turn₂.1

  operation_held : (i : ℕ) → i < x.counts.operations → (nested_operation x i ≡ true) × (room_at 0 (listed_by_operation x) i ≡ true)
  operation_held i h = (and-eq-true_iff (nested_operation x i) _).0 (passes 3 2048 16 x.o x.counts.operations _ turn₁.0 i h).1

  block_held : (j : ℕ) → j < x.counts.blocks → (nested_block x j ≡ true) × (room_at (up_to_operations x) (listed_by_block x) j ≡ true)
  block_held j h = (and-eq-true_iff (nested_block x j) _).0 (passes 5 512 4 x.b x.counts.blocks _ turn₂.0 j h).1

  region_held : (k : ℕ) → k < x.counts.regions → good_region x k ≡ true
  region_held k h = ((and-eq-true_iff (good_region x k) _).0 (passes 6 512 2 x.r x.counts.regions _ turn₃.0 k h).1).0

  regions_good : (i : ℕ) → good_list x.l (regions_span x i) x.counts.regions ≡ true
  unfolding nested_operation regions_in regions_span_in
  regions_good i = ⊎_elim
      (λ h. (operation_held i h).0)
      (λ h. past_good x.l x.counts.regions x.counts.operations 16 x.o i 5 h)
      (lt_or_ge i x.counts.operations)

  operations_good : (j : ℕ) → good_list x.l (operations_span x j) x.counts.operations ≡ true
  unfolding nested_block operations_in operations_span_in
  operations_good j = ⊎_elim
      (λ h. (block_held j h).0)
      (λ h. past_good x.l x.counts.operations x.counts.blocks 4 x.b j 2 h)
      (lt_or_ge j x.counts.blocks)

  blocks_good : (k : ℕ) → good_list x.l (blocks_span x k) x.counts.blocks ≡ true
  unfolding good_region blocks_in blocks_span_in
  blocks_good k = ⊎_elim
      (region_held k)
      (λ h. past_good x.l x.counts.blocks x.counts.regions 2 x.r k 0 h)
      (lt_or_ge k x.counts.regions)

  functions_short : length (functions x) ≤ x.counts.functions
  unfolding functions_in
  functions_short = simp length-take (omega arith)

  pub nested : Nested x
  unfolding regions_in operations_in blocks_in
  nested = record {
    operations_fit = count_fits 3 2048 16 x.o x.counts.operations _ turn₁.0;
    blocks_fit = count_fits 5 512 4 x.b x.counts.blocks _ turn₂.0;
    regions_fit = count_fits 6 512 2 x.r x.counts.regions _ turn₃.0;
    functions_fit = count_fits 7 64 1 x.f x.counts.functions _ turn₃.1;
    regions_below = λ i. list_below x.l (regions_span x i) x.counts.regions (regions_good i);
    operations_below = λ j. list_below x.l (operations_span x j) x.counts.operations (operations_good j);
    blocks_below = λ k. list_below x.l (blocks_span x k) x.counts.blocks (blocks_good k);
    functions_below = λ p h.
        ltb-true (get_or (functions x) p 0) x.counts.operations
        (passes 7 64 1 x.f x.counts.functions _ turn₃.1 p (omega (arith, functions_short))).1;
    entries_fit =
        room_held (up_to_operations x) (listed_by_block x) x.counts.blocks
        (omega (arith, room_held 0 (listed_by_operation x) x.counts.operations (omega arith) (λ i h. (operation_held i h).1)))
        (λ j h. (block_held j h).1);
  }

-- code 2 looks at counts cut at the sizes: at all there is of the nesting
pub cut_same : (x : Tables) → Nested x → listed_twice (cut x) ≡ listed_twice x
unfolding listed_twice functions_in regions_in regions_span_in operations_in operations_span_in blocks_in blocks_span_in
cut_same x h =
    let o : min x.counts.operations 2048 ≡ x.counts.operations = omega (arith, h.operations_fit) in
    let b : min x.counts.blocks 512 ≡ x.counts.blocks = omega (arith, h.blocks_fit) in
    let r : min x.counts.regions 512 ≡ x.counts.regions = omega (arith, h.regions_fit) in
    let f : min x.counts.functions 64 ≡ x.counts.functions = omega (arith, h.functions_fit) in
    rw (o, b, r, f)
