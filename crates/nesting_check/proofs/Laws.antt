-- Where all of codes 1 to 3 pass, what reading back asks first passes too. Assumes nothing.
use Prim.Native.Nat.{ℕ, zero, suc, ◌+◌, ◌≤◌, ◌<◌}
use native.Mathlib.Omega.{arith}
use mathlib.Core.Path.{◌≡◌, refl, ap, ◌∙◌}
use mathlib.Core.Bool.{Bool, true, ◌&&◌, not, cond, and-eq-true_iff}
use mathlib.Core.Option.{some, none}
use mathlib.Core.List.{List}
use lib.Dec.{ltb, leb}
use borrow.Author.Tests.{le-leb, leb-true}
use Rattle.cells.specs.Lists.{from, find}
use Rattle.tables.specs.Layout.{regions_in, operations_in}
use Rattle.tables.specs.Tables.{Tables, opcode, result_types_span, operands_span, regions_span, attributes_span, arguments_span, operations_span}
use Rattle.tables.specs.Sizes.{opcodes}
use Rattle.tables.specs.Answer.{and_then, Answer}
use Rattle.std.specs.Prelude.{Ok}
use Rattle.ranges.specs.Entry.{good_operation, good_block, good_region}
use Rattle.ranges.specs.Range.{sum, room_at, stands, refused, first_bad, listed_by_operation, listed_by_block, listed_by_region, before_blocks, before_regions, table_ranges}
use Rattle.ranges.specs.Part.{good_list}
use Rattle.ranges.proofs.Tests.{operation_tests, block_tests}
use Rattle.ranges.proofs.Verdict as all
use Rattle.listed.specs.Twice.{listed_twice}
use Rattle.tables.proofs.Each.{both_accept}
use Rattle.walk.specs.Depth.{too_deep}
use Rattle.nesting_check.specs.Checks.{nested_operation, nested_block, up_to_operations, up_to_blocks, nesting_ranges, nesting_checks}
use Rattle.nesting_check.proofs.Ranged.{on_operations, on_blocks, on_regions, on_functions, passes}

accepts : (a b : Answer) → a ≡ Ok tt → b ≡ Ok tt → and_then a b ≡ Ok tt
accepts a b e f = ap (λ (c : Answer). and_then c b) e ∙ f

none_found : (p : ℕ → Bool) (n s : ℕ) → ((i : ℕ) → s ≤ i → i < s + n → p i ≡ true) → find (λ i. not (p i)) (from s n) ≡ none
none_found p zero s h = refl
none_found p (suc n) s h =
    ap (λ (b : Bool). cond (not b) (some s) (find (λ i. not (p i)) (from (suc s) n))) (h s (omega arith) (omega arith))
    ∙ none_found p n (suc s) (λ i l k. h i (omega arith) (omega arith))

-- a table that passes does so where less is asked
still_passes : (table size width : ℕ) (cells : List ℕ) (n : ℕ) (more less : ℕ → Bool) → ((i : ℕ) → more i ≡ true → less i ≡ true)
    → first_bad table size width cells n more ≡ Ok tt → first_bad table size width cells n less ≡ Ok tt
unfolding first_bad
still_passes table size width cells n more less f e =
    ap (refused table)
    (none_found (λ i. stands size width cells i && less i) n 0
    (λ i _ h.
    let q = passes table size width cells n more e i (omega arith) in
    (and-eq-true_iff (stands size width cells i) (less i)).1 (q.0, f i q.1)))

-- and where fewer list entries stand before its own
with_room : (good less : Bool) (before fewer : ℕ) (listed : ℕ → ℕ) (i : ℕ) → (good ≡ true → less ≡ true) → fewer ≤ before
    → (good && room_at before listed i) ≡ true → (less && room_at fewer listed i) ≡ true
with_room good less before fewer listed i f h e =
    let q = (and-eq-true_iff good (room_at before listed i)).0 e in
    (and-eq-true_iff less (room_at fewer listed i)).1
    (f q.0, le-leb (fewer + sum listed (suc i)) 8192 (omega (arith, leb-true (before + sum listed (suc i)) 8192 q.1)))

module _ (x : Tables) where
  operation_nested : (i : ℕ) → good_operation x i ≡ true → nested_operation x i ≡ true
  unfolding nested_operation regions_in
  operation_nested i e =
      let lists = ltb (opcode x i) opcodes && good_list x.l (result_types_span x i) x.counts.types && good_list x.l (operands_span x i) x.counts.values in
      let regions = good_list x.l (regions_span x i) x.counts.regions in
      ((and-eq-true_iff lists regions).0
      ((and-eq-true_iff (lists && regions) (leb ((attributes_span x i).start + (attributes_span x i).len) x.counts.attributes)).0 (operation_tests x i ∙ e)).0).1

  block_nested : (j : ℕ) → good_block x j ≡ true → nested_block x j ≡ true
  unfolding nested_block operations_in
  block_nested j e =
      ((and-eq-true_iff (good_list x.l (arguments_span x j) x.counts.values) (good_list x.l (operations_span x j) x.counts.operations)).0 (block_tests x j ∙ e)).1

  ranges_pass : table_ranges x ≡ Ok tt → nesting_ranges x ≡ Ok tt
  unfolding table_ranges nesting_ranges
  ranges_pass e =
      let t = both_accept (all.on_types x) (all.from_values x) e in
      let v = both_accept (all.on_values x) (all.from_operations x) t.1 in
      let o = both_accept (all.on_operations x) (all.from_attributes x) v.1 in
      let a = both_accept (all.on_attributes x) (all.from_blocks x) o.1 in
      let b = both_accept (all.on_blocks x) (all.from_regions x) a.1 in
      let r = both_accept (all.on_regions x) (all.on_functions x) b.1 in
      let os : on_operations x ≡ (Ok tt) =
      still_passes 3 2048 16 x.o x.counts.operations (λ i. good_operation x i && room_at 0 (listed_by_operation x) i)
      (λ i. nested_operation x i && room_at 0 (listed_by_operation x) i)
      (λ i. with_room (good_operation x i) (nested_operation x i) 0 0 (listed_by_operation x) i (operation_nested i) (omega arith)) o.0 in
      let bs : on_blocks x (up_to_operations x) ≡ (Ok tt) =
      still_passes 5 512 4 x.b x.counts.blocks (λ j. good_block x j && room_at (before_blocks x) (listed_by_block x) j)
      (λ j. nested_block x j && room_at (up_to_operations x) (listed_by_block x) j)
      (λ j. with_room (good_block x j) (nested_block x j) (before_blocks x) (up_to_operations x) (listed_by_block x) j (block_nested j) (omega arith)) b.0 in
      let rs : on_regions x (up_to_blocks x) ≡ (Ok tt) =
      still_passes 6 512 2 x.r x.counts.regions (λ k. good_region x k && room_at (before_regions x) (listed_by_region x) k)
      (λ k. good_region x k && room_at (up_to_blocks x) (listed_by_region x) k)
      (λ k. with_room (good_region x k) (good_region x k) (before_regions x) (up_to_blocks x) (listed_by_region x) k (λ z. z) (omega arith)) r.0 in
      accepts (on_operations x) (and_then (on_blocks x (up_to_operations x)) (and_then (on_regions x (up_to_blocks x)) (on_functions x))) os
      (accepts (on_blocks x (up_to_operations x)) (and_then (on_regions x (up_to_blocks x)) (on_functions x)) bs
      (accepts (on_regions x (up_to_blocks x)) (on_functions x) rs r.1))

  pub checks_pass : table_ranges x ≡ Ok tt → listed_twice x ≡ Ok tt → too_deep x ≡ Ok tt → nesting_checks x ≡ Ok tt
  unfolding nesting_checks
  checks_pass e f g =
      accepts (nesting_ranges x) (and_then (listed_twice x) (too_deep x)) (ranges_pass e) (accepts (listed_twice x) (too_deep x) f g)
