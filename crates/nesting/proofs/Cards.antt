-- Case M of the paper and its cards 2 to 5, by computation. Assumes nothing.
use Prim.Native.Nat.{ℕ, ◌+◌, ◌-◌, ◌^◌}
use mathlib.Core.Path.{◌≡◌, refl}
use mathlib.Core.List.{List, [], ◌∷◌, ◌++◌}
use lib.ListN.{length, replicate}
use Rattle.cells.specs.Lists.{flat}
use Rattle.tables.specs.Layout.{opcode_in, result_types_span_in, result_types_in, operands_span_in, operands_in, regions_span_in, regions_in, arguments_span_in, arguments_in, operations_span_in, operations_in, blocks_span_in, blocks_in, functions_in, claim_flag_in, claim_in}
use Rattle.tables.specs.Sheet.{fixed_flag_in, fixed_count_in}
use Rattle.tables.specs.Tables.{Tables}
use Rattle.tables.specs.Place.{defining_place}
use Rattle.tables.specs.Value.{value_of}
use Rattle.tables.specs.declared.Place.TheVariants.{Argument, Result, Nowhere}
use Rattle.std.specs.Prelude.{Ok, Err}
use Rattle.tables.specs.declared.Refusal.TheVariants.{NotVisible, NotReadable, ResultCount}
use Rattle.nesting.specs.Shape.{operation_visits, block_visits, region_visits, whole_visits, entry_visits, entries_visits}
use Rattle.nesting.specs.Live.{result_values, valued, nesting_of, placed, value_at}
use Rattle.nesting.specs.Dominance.{dominance}
use Rattle.nesting.specs.Sentence.{visible, from_region, stands, sentence}
use Rattle.nesting.specs.Numbering.{fine, refused, numbers_at, numbering}
use Rattle.nesting.specs.ReadBack.{uses, read_back, operand_places}
use Rattle.nesting.specs.Ask.{fold_operation, fold_block, fold_region, fold_entry, fold_entries}
use Rattle.nesting.specs.Direct.{numbers_among, direct}

-- ---- a module by its lines, laid out in rows

-- `O` opcode, result types, operands, regions
record Operation : Type 0 where
  opcode : ℕ
  types : List ℕ
  operands : List ℕ
  regions : List ℕ

abbrev o : ℕ → List ℕ → List ℕ → List ℕ → Operation
o opcode types operands regions = record { opcode = opcode; types = types; operands = operands; regions = regions }

-- `B` arguments, operations
record Block : Type 0 where
  arguments : List ℕ
  operations : List ℕ

abbrev b : List ℕ → List ℕ → Block
b arguments operations = record { arguments = arguments; operations = operations }

abbrev listed_by : Operation → List ℕ
listed_by p = p.types ++ (p.operands ++ p.regions)

-- 16 cells an operation, 4 a block, 2 a region; the lists stand one after the other from s on
abbrev operation_rows : ℕ → List Operation → List ℕ
operation_rows s [] = []
operation_rows s (p ∷ ps) =
    let n = length p.types in
    let m = n + length p.operands in
    (p.opcode ∷ s ∷ n ∷ (s + n) ∷ length p.operands ∷ (s + m) ∷ length p.regions ∷ replicate 9 0)
    ++ operation_rows (s + length (listed_by p)) ps

abbrev block_rows : ℕ → List Block → List ℕ
block_rows s [] = []
block_rows s (p ∷ ps) =
    let n = length p.arguments in
    s ∷ n ∷ (s + n) ∷ length p.operations ∷ block_rows (s + n + length p.operations) ps

abbrev region_rows : ℕ → List (List ℕ) → List ℕ
region_rows s [] = []
region_rows s (js ∷ ks) = s ∷ length js ∷ region_rows (s + length js) ks

-- one type, `T|1|4|0|0|-1|`; a value is its row of four cells
abbrev module_of : List (List ℕ) → List Operation → List Block → List (List ℕ) → List ℕ → Tables
module_of vs os bs rs fs =
    let in_operations = flat listed_by os in
    let in_blocks = flat (λ p. p.arguments ++ p.operations) bs in
    record {
      t = 1 ∷ 4 ∷ 0 ∷ 0 ∷ (2 ^ 64 - 1) ∷ 0 ∷ replicate 10 0;
      v = flat (λ r. r) vs;
      o = operation_rows 0 os;
      a = [];
      b = block_rows (length in_operations) bs;
      r = region_rows (length in_operations + length in_blocks) rs;
      f = fs;
      l = in_operations ++ (in_blocks ++ flat (λ js. js) rs);
      counts = record {
        types = 1;
        values = length vs;
        operations = length os;
        attributes = 0;
        blocks = length bs;
        regions = length rs;
        functions = length fs;
      };
    }

-- `V` of no result, and of a result
abbrev free : List ℕ
free = 0 ∷ 0 ∷ 0 ∷ 0 ∷ []

abbrev result : ℕ → ℕ → List ℕ
result i k = 0 ∷ 1 ∷ i ∷ k ∷ []

-- `sheet|1`, and with the line `c|3|2`
abbrev sheet : List ℕ
sheet = replicate 320 0

abbrev sheet_of_two : List ℕ
sheet_of_two = replicate 6 0 ++ (1 ∷ 2 ∷ replicate 312 0)

-- case M, with what the cards change: the operands of operations 1, 3 and 4, the result types of operation 2, a value more, the functions
abbrev like_m : List ℕ → List ℕ → List ℕ → List ℕ → List (List ℕ) → List ℕ → Tables
like_m ones twos threes fours more fs =
    module_of (free ∷ free ∷ result 1 0 ∷ result 3 0 ∷ more)
    (o 22 [] [] (0 ∷ [])
    ∷ o 3 (0 ∷ []) ones []
    ∷ o 38 twos (2 ∷ []) (1 ∷ [])
    ∷ o 3 (0 ∷ []) threes []
    ∷ o 74 [] fours []
    ∷ [])
    (b (0 ∷ 1 ∷ []) (1 ∷ 2 ∷ 4 ∷ []) ∷ b [] (3 ∷ []) ∷ [])
    ((0 ∷ []) ∷ (1 ∷ []) ∷ []) fs

unfoldable m : Tables
m = like_m (0 ∷ 1 ∷ []) [] (2 ∷ 0 ∷ []) (2 ∷ []) [] (0 ∷ [])

unfoldable card2 : Tables
card2 = like_m (0 ∷ 1 ∷ []) [] (2 ∷ 0 ∷ []) (3 ∷ []) [] (0 ∷ [])

unfoldable card3 : Tables
card3 = like_m (2 ∷ 1 ∷ []) [] (2 ∷ 0 ∷ []) (2 ∷ []) [] (0 ∷ [])

unfoldable card4 : Tables
card4 = like_m (0 ∷ 1 ∷ []) (0 ∷ []) (4 ∷ 0 ∷ []) (2 ∷ []) (result 2 0 ∷ []) (0 ∷ [])

unfoldable card5 : Tables
card5 = like_m (0 ∷ 1 ∷ []) [] (2 ∷ 0 ∷ []) (2 ∷ []) [] []

-- ---- what each says

dominance_cards :
    (dominance m ≡ Ok tt)
    × (dominance card2 ≡ Err (NotVisible 4 0))
    × (dominance card3 ≡ Err (NotVisible 1 0))
    × (dominance card4 ≡ Ok tt)
    × (dominance card5 ≡ Ok tt)
unfolding m card2 card3 card4 card5 dominance whole_visits region_visits block_visits operation_visits valued result_values value_of claim_in
    claim_flag_in functions_in blocks_in blocks_span_in operations_in operations_span_in arguments_in arguments_span_in regions_in regions_span_in
    operands_in operands_span_in result_types_in result_types_span_in
dominance_cards = (refl, refl, refl, refl, refl)

sentence_cards :
    (sentence m ≡ Ok tt)
    × (sentence card2 ≡ Err (NotVisible 4 0))
    × (sentence card3 ≡ Err (NotVisible 1 0))
    × (sentence card4 ≡ Ok tt)
    × (sentence card5 ≡ Ok tt)
unfolding m card2 card3 card4 card5 sentence stands from_region visible result_values value_of claim_in claim_flag_in functions_in blocks_in
    blocks_span_in operations_in operations_span_in arguments_in arguments_span_in regions_in regions_span_in operands_in operands_span_in result_types_in
    result_types_span_in
sentence_cards = (refl, refl, refl, refl, refl)

numbering_cards :
    (numbering sheet m ≡ fine (0 ∷ 1 ∷ 2 ∷ 2 ∷ 0 ∷ 2 ∷ []))
    × (numbering sheet card4 ≡ fine (0 ∷ 1 ∷ 2 ∷ 3 ∷ 0 ∷ 2 ∷ []))
    × (numbering sheet card5 ≡ fine [])
    × (numbering sheet_of_two m ≡ refused (ResultCount 1 1))
unfolding m card4 card5 numbering numbers_at entries_visits entry_visits region_visits block_visits operation_visits placed nesting_of value_at
    value_of claim_in claim_flag_in functions_in blocks_in blocks_span_in operations_in operations_span_in arguments_in arguments_span_in regions_in
    regions_span_in operands_in operands_span_in result_types_in result_types_span_in opcode_in fixed_count_in fixed_flag_in
numbering_cards = (refl, refl, refl, refl)

-- the same by the fold that code promises
direct_cards :
    (direct sheet m ≡ fine (0 ∷ 1 ∷ 2 ∷ 2 ∷ 0 ∷ 2 ∷ []))
    × (direct sheet card4 ≡ fine (0 ∷ 1 ∷ 2 ∷ 3 ∷ 0 ∷ 2 ∷ []))
unfolding m card4 direct numbers_among fold_entries fold_entry fold_region fold_block fold_operation valued result_values value_at value_of claim_in
    claim_flag_in functions_in blocks_in blocks_span_in operations_in operations_span_in arguments_in arguments_span_in regions_in regions_span_in
    operands_in operands_span_in result_types_in result_types_span_in opcode_in fixed_count_in fixed_flag_in
direct_cards = (refl, refl)

read_back_cards :
    (read_back (nesting_of m) (0 ∷ 1 ∷ 2 ∷ 2 ∷ 0 ∷ 2 ∷ [])
    ≡ fine (Argument 0 0 ∷ Argument 0 1 ∷ Result 1 0 ∷ Result 1 0 ∷ Argument 0 0 ∷ Result 1 0 ∷ []))
    × (read_back (nesting_of card4) (0 ∷ 1 ∷ 2 ∷ 3 ∷ 0 ∷ 2 ∷ [])
    ≡ fine (Argument 0 0 ∷ Argument 0 1 ∷ Result 1 0 ∷ Result 2 0 ∷ Argument 0 0 ∷ Result 1 0 ∷ []))
    × (read_back (nesting_of m) (0 ∷ []) ≡ refused (NotReadable 0 0))
    × (read_back (nesting_of m) (0 ∷ 2 ∷ 2 ∷ 2 ∷ 0 ∷ 2 ∷ []) ≡ refused (NotReadable 1 2))
unfolding m card4 read_back uses entries_visits entry_visits region_visits block_visits operation_visits placed nesting_of functions_in blocks_in
    blocks_span_in operations_in operations_span_in arguments_in arguments_span_in regions_in regions_span_in operands_in operands_span_in result_types_in
    result_types_span_in
read_back_cards = (refl, refl, refl, refl)

place_cards :
    (operand_places m ≡ Argument 0 0 ∷ Argument 0 1 ∷ Result 1 0 ∷ Result 1 0 ∷ Argument 0 0 ∷ Result 1 0 ∷ [])
    × (defining_place m 1 ≡ Argument 0 1)
    × (defining_place m 3 ≡ Result 3 0)
    × (defining_place m 4 ≡ Nowhere)
unfolding m operand_places defining_place uses entries_visits entry_visits region_visits block_visits operation_visits placed nesting_of claim_in
    claim_flag_in functions_in blocks_in blocks_span_in operations_in operations_span_in arguments_in arguments_span_in regions_in regions_span_in
    operands_in operands_span_in result_types_in result_types_span_in
place_cards = (refl, refl, refl, refl)
