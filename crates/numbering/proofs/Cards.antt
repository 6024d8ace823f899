-- Case M of the paper and its cards 2, 3 and 5 where numbering is asked alone, with what the lent lists hold, by computation.
-- Assumes nothing.
use Prim.Native.Nat.{ℕ}
use mathlib.Core.Path.{◌≡◌, refl}
use mathlib.Core.List.{List, [], ◌∷◌}
use lib.ListN.{replicate}
use Rattle.tables.specs.Layout.{opcode_in, result_types_span_in, result_types_in, operands_span_in, operands_in, regions_span_in, regions_in, arguments_span_in, arguments_in, operations_span_in, operations_in, blocks_span_in, blocks_in, functions_in, claim_flag_in, claim_in}
use Rattle.tables.specs.Sheet.{fixed_flag_in, fixed_count_in}
use Rattle.tables.specs.Tables.{Tables, lent}
use Rattle.tables.specs.Value.{value_of}
use Rattle.tables.specs.declared.Refusal.TheVariants.{NoNumber, TooShort}
use Rattle.nesting.specs.Shape.{operation_visits, block_visits, region_visits, entry_visits, entries_visits}
use Rattle.nesting.specs.Live.{nesting_of, placed, value_at}
use Rattle.nesting.specs.Numbering.{numbers_at, numbering}
use Rattle.numbering.specs.Alone.{Outcome, outcome, size, sizes, handed}
use Rattle.std.specs.Prelude.{Ok, Err}

-- case M with so many functions, the first operand of operation 1 and the operand of operation 4
unfoldable m : ℕ → ℕ → ℕ → Tables
m functions one four =
    lent [] (0 ∷ 0 ∷ 0 ∷ 0 ∷ 0 ∷ 0 ∷ 0 ∷ 0 ∷ 0 ∷ 1 ∷ 1 ∷ 0 ∷ 0 ∷ 1 ∷ 3 ∷ 0 ∷ [])
    (22 ∷ 0 ∷ 0 ∷ 0 ∷ 0 ∷ 0 ∷ 1 ∷ 0 ∷ 0 ∷ 0 ∷ 0 ∷ 0 ∷ 0 ∷ 0 ∷ 0 ∷ 0 ∷ 3 ∷ 1 ∷ 1 ∷ 2 ∷ 2 ∷ 4 ∷ 0 ∷ 0 ∷ 0 ∷ 0 ∷ 0 ∷ 0 ∷ 0 ∷ 0 ∷ 0 ∷ 0 ∷ 38 ∷ 4 ∷ 0 ∷ 4 ∷ 1 ∷ 5 ∷ 1 ∷ 0 ∷ 0 ∷ 0 ∷ 0 ∷ 0 ∷ 0 ∷ 0 ∷ 0 ∷ 0 ∷ 3 ∷ 6 ∷ 1 ∷ 7 ∷ 2 ∷ 9 ∷ 0 ∷ 0 ∷ 0 ∷ 0 ∷ 0 ∷ 0 ∷ 0 ∷ 0 ∷ 0 ∷ 0 ∷ 74 ∷ 9 ∷ 0 ∷ 9 ∷ 1 ∷ 10 ∷ 0 ∷ 0 ∷ 0 ∷ 0 ∷ 0 ∷ 0 ∷ 0 ∷ 0 ∷ 0 ∷ 0 ∷ [])
    []
    (10 ∷ 2 ∷ 12 ∷ 3 ∷ 15 ∷ 0 ∷ 15 ∷ 1 ∷ [])
    (16 ∷ 1 ∷ 17 ∷ 1 ∷ [])
    (0 ∷ [])
    (0 ∷ 0 ∷ one ∷ 1 ∷ 2 ∷ 1 ∷ 0 ∷ 2 ∷ 0 ∷ four ∷ 0 ∷ 1 ∷ 1 ∷ 2 ∷ 4 ∷ 3 ∷ 0 ∷ 1 ∷ [])
    (record { types = 1; values = 4; operations = 5; attributes = 0; blocks = 2; regions = 2; functions = functions })

-- `sheet|1`
unfoldable handed_of : Tables → List ℕ → List ℕ → Outcome
handed_of x numbers lengths = handed (numbering (replicate 320 0) x) (sizes x) numbers lengths

cards :
    (handed_of (m 1 0 2) (9 ∷ 9 ∷ 9 ∷ 9 ∷ 9 ∷ 9 ∷ 9 ∷ []) (8 ∷ 8 ∷ []) ≡ outcome (Ok 6) (0 ∷ 1 ∷ 2 ∷ 2 ∷ 0 ∷ 2 ∷ 9 ∷ []) (6 ∷ 8 ∷ []))
    × (handed_of (m 1 0 2) (9 ∷ 9 ∷ []) [] ≡ outcome (Err (TooShort 6)) (9 ∷ 9 ∷ []) [])
    × (handed_of (m 1 0 2) (9 ∷ 9 ∷ 9 ∷ 9 ∷ 9 ∷ 9 ∷ []) [] ≡ outcome (Err (TooShort 1)) (9 ∷ 9 ∷ 9 ∷ 9 ∷ 9 ∷ 9 ∷ []) [])
    × (handed_of (m 1 0 3) (9 ∷ []) (8 ∷ []) ≡ outcome (Err (NoNumber 4 0)) (9 ∷ []) (8 ∷ []))
    × (handed_of (m 1 2 2) (9 ∷ []) (8 ∷ []) ≡ outcome (Err (NoNumber 1 0)) (9 ∷ []) (8 ∷ []))
    × (handed_of (m 0 0 2) (9 ∷ []) (8 ∷ []) ≡ outcome (Ok 0) (9 ∷ []) (8 ∷ []))
unfolding m handed_of size numbering numbers_at entries_visits entry_visits region_visits block_visits operation_visits placed nesting_of value_at
    value_of claim_in claim_flag_in functions_in blocks_in blocks_span_in operations_in operations_span_in arguments_in arguments_span_in regions_in
    regions_span_in operands_in operands_span_in result_types_in result_types_span_in opcode_in fixed_count_in fixed_flag_in
cards = (refl, refl, refl, refl, refl, refl)
