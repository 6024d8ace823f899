-- Of entries that are well formed but for their ids, code 1 asks for the ids alone. Assumes nothing.
use Prim.Native.Nat.{ℕ, zero, suc, ◌+◌, ◌*◌, ◌≤◌, ◌<◌}
use mathlib.Core.Bool.{Bool, true, false, ◌&&◌, not, cond, and-eq-true_iff}
use mathlib.Core.Path.{◌≡◌, refl, sym, ◌∙◌, ap, subst}
use mathlib.Core.List.{List, [], ◌∷◌}
use mathlib.Core.Option.{Option, some, none}
use native.Mathlib.Omega.{arith}
use lib.Dec.{ltb, leb}
use lib.ListN.{length, get_or, length-take}
use borrow.Author.Tests.{lt-ltb, le-leb, leb-true, not-true}
use Rattle.cells.specs.Lists.{from, below, find}
use Rattle.tables.specs.Answer.{and_then, Answer}
use Rattle.tables.specs.Layout.{functions_in}
use Rattle.tables.specs.Sizes.{type_table, value_table, operation_table, attribute_table, block_table, region_table, function_table, opcodes, max_types, max_values, max_operations, max_attributes, max_blocks, max_regions, max_functions}
use Rattle.tables.specs.Tables.{Tables, functions, opcode, result_types, operands, regions, arguments, operations, blocks, value_type, claim, claim_flag, result_types_span, operands_span, regions_span, attributes_span, arguments_span, operations_span}
use Rattle.std.specs.Prelude.{Ok, Err}
use Rattle.tables.specs.declared.Refusal.{Refusal}
use Rattle.tables.specs.declared.Refusal.TheVariants.{OutOfRange}
use Rattle.tables.specs.declared.Claim.{Claim}
use Rattle.std.specs.Prelude.{Option as Claimed, Some, None}
use Rattle.stores.proofs.Stores.{impossible}
use Rattle.ranges.specs.Entry.{all_below, within, good_type, good_claim, good_value, good_operation, good_attribute, good_block, good_region}
use Rattle.ranges.specs.Range.{sum, room_at, listed_by_operation, listed_by_attribute, listed_by_block, listed_by_region, before_attributes, before_blocks, before_regions, stands, refused, first_bad, table_ranges}
use Rattle.ranges.specs.Ranged.{Below}
use Rattle.reading.specs.Formed.{Formed, IdsInRange, value_ids, operation_ids, block_ids, region_ids, function_ids, first_out, id_ranges, NamesAnId, of_value, of_operation, of_block, of_region, of_function}
use Rattle.reading.proofs.Rows.{sum_rises}

-- ---- searches below a count

find_same : (p q : ℕ → Bool) (s n : ℕ) → ((i : ℕ) → i < s + n → p i ≡ q i) → find p (from s n) ≡ find q (from s n)
find_same p q s zero f = refl
find_same p q s (suc n) f = rw (f s (omega arith), find_same p q (suc s) n (λ i h. f i (omega arith)))

find_nothing : (s n : ℕ) → find (λ i. not true) (from s n) ≡ none
find_nothing s zero = refl
find_nothing s (suc n) = find_nothing (suc s) n

-- a table in which every entry stands, and is good where its ids are in range
module _ (table size width : ℕ) (cells : List ℕ) (n : ℕ) (good ids : ℕ → Bool) (e : (i : ℕ) → i < n → stands size width cells i ≡ true)
    (f : (i : ℕ) → i < n → good i ≡ ids i) where
  pub first_same : first_bad table size width cells n good ≡ first_out table n ids
  unfolding first_bad
  first_same =
      ap (refused table)
      (find_same (λ i. not (stands size width cells i && good i)) (λ i. not (ids i)) 0 n
      (λ i h. rw (e i (omega arith), f i (omega arith))))

-- every entry's ids are in range
first_none : (table n : ℕ) (ids : ℕ → Bool) → ((i : ℕ) → i < n → ids i ≡ true) → first_out table n ids ≡ Ok tt
first_none table n ids f =
    ap (refused table) (find_same (λ i. not (ids i)) (λ i. not true) 0 n (λ i h. ap not (f i (omega arith))) ∙ find_nothing 0 n)

-- ---- tests that hold go away

second_holds : (a b c : Bool) → b ≡ true → (a && b && c) ≡ (a && c)
second_holds true b c e = rw e
second_holds false b c e = refl

five_hold : (p a b c d e f g : Bool) → p ≡ true → a ≡ true → c ≡ true → e ≡ true → g ≡ true → (p && a && b && c && d && e && f && g) ≡ (b && d && f)
five_hold p a b c d e f g hp ha hc he hg = rw (hp, ha, hc, he, hg) (by b d f)
  where
    by : (b d f : Bool) → (b && true && d && true && f && true) ≡ (b && d && f)
    by false d f = refl
    by true false f = refl
    by true true false = refl
    by true true true = refl

two_hold : (a b c d : Bool) → a ≡ true → c ≡ true → (a && b && c && d) ≡ (b && d)
two_hold a b c d ha hc = rw (ha, hc) (by b)
  where
    by : (b : Bool) → (b && true && d) ≡ (b && d)
    by false = refl
    by true = refl

last_holds : (a b : Bool) → b ≡ true → (a && b) ≡ a
last_holds true b e = e
last_holds false b e = refl

module _ (x : Tables) (h : Formed x) where
  -- ---- room among the list entries, table by table

  up_to : (f : ℕ → ℕ) (n i before : ℕ) → i < n → before + sum f n ≤ 8192 → room_at before f i ≡ true
  up_to f n i before l k = le-leb (before + sum f (suc i)) 8192 (omega (arith, sum_rises f n (suc i) l))

  region_room : (k : ℕ) → k < x.counts.regions → room_at (before_regions x) (listed_by_region x) k ≡ true
  region_room k l = up_to (listed_by_region x) x.counts.regions k (before_regions x) l h.entries_fit

  block_room : (j : ℕ) → j < x.counts.blocks → room_at (before_blocks x) (listed_by_block x) j ≡ true
  block_room j l = up_to (listed_by_block x) x.counts.blocks j (before_blocks x) l (omega (arith, h.entries_fit))

  attribute_room : (k : ℕ) → k < x.counts.attributes → room_at (before_attributes x) (listed_by_attribute x) k ≡ true
  attribute_room k l = up_to (listed_by_attribute x) x.counts.attributes k (before_attributes x) l (omega (arith, h.entries_fit))

  operation_room : (i : ℕ) → i < x.counts.operations → room_at 0 (listed_by_operation x) i ≡ true
  operation_room i l = up_to (listed_by_operation x) x.counts.operations i 0 l (omega (arith, h.entries_fit))

  -- ---- an entry is good where its ids are in range

  value_same : (v : ℕ) → v < x.counts.values → good_value x v ≡ value_ids x v
  unfolding good_value
  value_same v l =
      second_holds (ltb (value_type x v) x.counts.types) (ltb (claim_flag x v) 2) (good_claim x (claim x v)) (lt-ltb (claim_flag x v) 2 (h.flags_good v l))

  operation_same : (i : ℕ) → i < x.counts.operations → (good_operation x i && room_at 0 (listed_by_operation x) i) ≡ operation_ids x i
  unfolding good_operation
  operation_same i l =
      last_holds _ (room_at 0 (listed_by_operation x) i) (operation_room i l)
      ∙ five_hold (ltb (opcode x i) opcodes) (within x (result_types_span x i)) (all_below x.counts.types (result_types x i))
      (within x (operands_span x i)) (all_below x.counts.values (operands x i)) (within x (regions_span x i)) (all_below x.counts.regions (regions x i))
      (leb ((attributes_span x i).start + (attributes_span x i).len) x.counts.attributes)
      (lt-ltb (opcode x i) opcodes (h.opcodes_known i l)) (h.result_types_within i l) (h.operands_within i l) (h.regions_within i l)
      (le-leb ((attributes_span x i).start + (attributes_span x i).len) x.counts.attributes (h.attributes_within i l))

  attribute_same : (k : ℕ) → k < x.counts.attributes → (good_attribute x k && room_at (before_attributes x) (listed_by_attribute x) k) ≡ true
  attribute_same k l = rw (h.attributes_good k l, attribute_room k l)

  block_same : (j : ℕ) → j < x.counts.blocks → (good_block x j && room_at (before_blocks x) (listed_by_block x) j) ≡ block_ids x j
  unfolding good_block
  block_same j l =
      last_holds _ (room_at (before_blocks x) (listed_by_block x) j) (block_room j l)
      ∙ two_hold (within x (arguments_span x j)) (all_below x.counts.values (arguments x j)) (within x (operations_span x j))
      (all_below x.counts.operations (operations x j)) (h.arguments_within j l) (h.operations_within j l)

  region_same : (k : ℕ) → k < x.counts.regions → (good_region x k && room_at (before_regions x) (listed_by_region x) k) ≡ region_ids x k
  unfolding good_region
  region_same k l =
      last_holds _ (room_at (before_regions x) (listed_by_region x) k) (region_room k l)
      ∙ ap (λ (t : Bool). t && region_ids x k) (h.blocks_within k l)

  -- ---- so code 1 asks for ids alone

  pub only_ids : table_ranges x ≡ id_ranges x
  unfolding table_ranges id_ranges
  only_ids =
      rw (
        first_same type_table max_types 16 x.t x.counts.types (good_type x) (λ i. true) h.types_stand h.types_good,
        first_none type_table x.counts.types (λ i. true) (λ i l. refl),
        first_same value_table max_values 4 x.v x.counts.values (good_value x) (value_ids x) h.values_stand value_same,
        first_same operation_table max_operations 16 x.o x.counts.operations (λ i. good_operation x i && room_at 0 (listed_by_operation x) i)
            (operation_ids x) h.operations_stand operation_same,
        first_same attribute_table max_attributes 8 x.a x.counts.attributes
            (λ k. good_attribute x k && room_at (before_attributes x) (listed_by_attribute x) k) (λ k. true) h.attributes_stand attribute_same,
        first_none attribute_table x.counts.attributes (λ k. true) (λ k l. refl),
        first_same block_table max_blocks 4 x.b x.counts.blocks (λ j. good_block x j && room_at (before_blocks x) (listed_by_block x) j) (block_ids x)
            h.blocks_stand block_same,
        first_same region_table max_regions 2 x.r x.counts.regions (λ k. good_region x k && room_at (before_regions x) (listed_by_region x) k)
            (region_ids x) h.regions_stand region_same,
        first_same function_table max_functions 1 x.f x.counts.functions (function_ids x) (function_ids x) h.functions_stand (λ p l. refl),
      )

  -- ---- and accepts where they are in range

  all_below_lem : (n : ℕ) (xs : List ℕ) → Below xs n → all_below n xs ≡ true
  all_below_lem n [] f = refl
  all_below_lem n (y ∷ ys) f = rw (lt-ltb y n (f 0 (omega arith)), all_below_lem n ys (λ k l. f (suc k) (omega arith)))

  claim_in_lem : (c : Claimed Claim) → ((i k : ℕ) → c ≡ Some (record { operation = i; index = k }) → i < x.counts.operations) → good_claim x c ≡ true
  claim_in_lem None f = refl
  claim_in_lem (Some c) f = lt-ltb c.operation x.counts.operations (f c.operation c.index refl)

  function_there : (p : ℕ) → p < x.counts.functions → p < length (functions x)
  unfolding functions_in
  function_there p l =
      let s = leb-true (suc p * 1) (length x.f) ((and-eq-true_iff (ltb p 64) (leb (suc p * 1) (length x.f))).0 (h.functions_stand p l)).1 in
      simp length-take (omega arith)

  pub in_range : IdsInRange x → id_ranges x ≡ Ok tt
  unfolding id_ranges
  in_range d =
      rw (
        first_none value_table x.counts.values (value_ids x)
            (λ v l. rw (lt-ltb (value_type x v) x.counts.types (d.value_types v l), claim_in_lem (claim x v) (λ i k. d.claims v i k l))),
        first_none operation_table x.counts.operations (operation_ids x)
            (λ i l. rw (
              all_below_lem x.counts.types (result_types x i) (d.result_types_lem i l),
              all_below_lem x.counts.values (operands x i) (d.operands i l),
              all_below_lem x.counts.regions (regions x i) (d.regions i l),
            )),
        first_none block_table x.counts.blocks (block_ids x)
            (λ j l. rw (all_below_lem x.counts.values (arguments x j) (d.arguments j l), all_below_lem x.counts.operations (operations x j) (d.operations j l))),
        first_none region_table x.counts.regions (region_ids x) (λ k l. all_below_lem x.counts.blocks (blocks x k) (d.blocks k l)),
        first_none function_table x.counts.functions (function_ids x)
            (λ p l. lt-ltb (get_or (functions x) p 0) x.counts.operations (d.functions p (function_there p l))),
      )

-- ---- a refusal names the first entry with an id out of range

find_some : (p : ℕ → Bool) (s n i : ℕ) → find p (from s n) ≡ some i → (i < s + n) × (p i ≡ true)
find_some p s zero i e = impossible (cc)
find_some p s (suc n) i e = by (p s) refl (λ q. find_some p (suc s) n i q) e
  where
    by : (t : Bool) → p s ≡ t → (find p (from (suc s) n) ≡ some i → (i < suc s + n) × (p i ≡ true))
        → cond t (some s) (find p (from (suc s) n)) ≡ some i → (i < s + suc n) × (p i ≡ true)
    by true q f h = let same : s ≡ i = cc in (omega arith, ap p (sym same) ∙ q)
    by false q f h = let r = f h in (omega (arith, r.0), r.1)

first_found : (table n : ℕ) (ids : ℕ → Bool) (q : Refusal) → first_out table n ids ≡ Err q
    → (i : ℕ) × ((i < n) × (ids i ≡ false) × (OutOfRange table i ≡ q))
first_found table n ids q e = by (find (λ i. not (ids i)) (below n)) refl e
  where
    by : (o : Option ℕ) → find (λ i. not (ids i)) (below n) ≡ o → refused table o ≡ Err q
        → (i : ℕ) × ((i < n) × (ids i ≡ false) × (OutOfRange table i ≡ q))
    by none r h = impossible (cc)
    by (some i) r h =
        let f = find_some (λ k. not (ids k)) 0 n i r in
        (i, (omega (arith, f.0), not-true (ids i) f.1, cc))

-- a refusal of the first of two answers, or of the second
either_refuses : {P : Type 0} (a b : Answer) (q : Refusal) → (a ≡ Err q → P) → (b ≡ Err q → P) → and_then a b ≡ Err q → P
either_refuses (Ok _) b q f g e = g e
either_refuses (Err r) b q f g e = f e

pub names_an_id : (x : Tables) (q : Refusal) → id_ranges x ≡ Err q → NamesAnId x q
unfolding id_ranges
names_an_id x q =
    either_refuses (first_out value_table x.counts.values (value_ids x)) _ q
    (λ e. let f = first_found value_table x.counts.values (value_ids x) q e in subst (NamesAnId x) f.1.2 (of_value f.0 f.1.0 f.1.1))
    (either_refuses (first_out operation_table x.counts.operations (operation_ids x)) _ q
    (λ e. let f = first_found operation_table x.counts.operations (operation_ids x) q e in subst (NamesAnId x) f.1.2 (of_operation f.0 f.1.0 f.1.1))
    (either_refuses (first_out block_table x.counts.blocks (block_ids x)) _ q
    (λ e. let f = first_found block_table x.counts.blocks (block_ids x) q e in subst (NamesAnId x) f.1.2 (of_block f.0 f.1.0 f.1.1))
    (either_refuses (first_out region_table x.counts.regions (region_ids x)) (first_out function_table x.counts.functions (function_ids x)) q
    (λ e. let f = first_found region_table x.counts.regions (region_ids x) q e in subst (NamesAnId x) f.1.2 (of_region f.0 f.1.0 f.1.1))
    (λ e. let f = first_found function_table x.counts.functions (function_ids x) q e in subst (NamesAnId x) f.1.2 (of_function f.0 f.1.0 f.1.1)))))
