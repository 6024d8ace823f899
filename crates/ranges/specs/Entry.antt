-- When an entry of a table is good: every clause of code 1, table by table.
-- "Ids are ranged by the check; a form, kind, opcode, mode or flag outside its list, an unknown tag (field 1) or a number too wide is
-- 15, in tables 1. Signed 32 bits: permutations, sparse axes, dims of forms 4 to 6; unsigned: masks 16, ids and pointer attributes 32,
-- divisors 64; signed 64: the rest."
use Rattle.std.specs.Prelude.{ℕ, ◌+◌, ◌-◌, ◌^◌, Bool, true, ◌&&◌, ◌||◌, cond, List, [], ◌∷◌, length, ltb, leb, eqb, Option, Some, None}
use Rattle.cells.specs.declared.Span.{Span}
use Rattle.names.specs.Names.{names, integer_form, bool_form, integers_form, bools_form, permutation_form, divisor_form, sizes_form, endpoints_form, other_form}
use Rattle.tables.specs.Sizes.{opcodes, kinds, type_forms, max_rank}
use Rattle.tables.specs.Tables.{Tables, opcode, result_types, operands, regions, arguments, operations, blocks, value_type, claim, claim_flag, type_form, type_kind, type_pointer, type_padded, type_sparse, type_rank, type_dims, attribute_name, attribute_form, attribute_numbers, attribute_absent, result_types_span, operands_span, regions_span, attributes_span, numbers_span, arguments_span, operations_span, blocks_span}
use Rattle.tables.specs.declared.Claim.{Claim}

-- every entry of a list has a property
abbrev pub all : (ℕ → Bool) → List ℕ → Bool
all p [] = true
all p (x ∷ xs) = p x && all p xs

-- every id of a list is one of n
abbrev pub all_below : ℕ → List ℕ → Bool
all_below n xs = all (λ x. ltb x n) xs

-- the 64 bits of a signed number of 32 bits
abbrev pub signed32 : ℕ → Bool
signed32 x = ltb x (2 ^ 31) || leb (2 ^ 64 - 2 ^ 31) x

-- a list stands within the list entries
abbrev pub within : Tables → Span → Bool
within x s = leb (s.start + s.len) (length x.l)

-- a type: a token's other columns mean nothing
unfoldable pub good_type : Tables → ℕ → Bool
good_type x i =
    eqb (type_form x i) 0
    || (ltb (type_form x i) type_forms
    && ltb (type_kind x i) kinds
    && ltb (type_pointer x i) (2 ^ 32)
    && ltb (type_padded x i) 2
    && signed32 (type_sparse x i)
    && leb (type_rank x i) max_rank
    && (ltb (type_form x i) 4 || all signed32 (type_dims x i)))

-- what a value claims: any index of an operation that there is
abbrev pub good_claim : Tables → Option Claim → Bool
good_claim x None = true
good_claim x (Some c) = ltb c.operation x.counts.operations

unfoldable pub good_value : Tables → ℕ → Bool
good_value x i = ltb (value_type x i) x.counts.types && ltb (claim_flag x i) 2 && good_claim x (claim x i)

unfoldable pub good_operation : Tables → ℕ → Bool
good_operation x i =
    ltb (opcode x i) opcodes
    && within x (result_types_span x i)
    && all_below x.counts.types (result_types x i)
    && within x (operands_span x i)
    && all_below x.counts.values (operands x i)
    && within x (regions_span x i)
    && all_below x.counts.regions (regions x i)
    && leb ((attributes_span x i).start + (attributes_span x i).len) x.counts.attributes

-- the numbers that an attribute of a form has: how many (`n`), which may be absent (`m`), and how wide they are
abbrev pub good_numbers : ℕ → ℕ → ℕ → List ℕ → Bool
good_numbers form n m xs =
    cond (eqb form integer_form) (eqb n 1 && eqb m 0)
    (cond (eqb form bool_form) (eqb n 1 && eqb m 0 && all_below 2 xs)
    (cond (eqb form integers_form) (eqb m 0)
    (cond (eqb form bools_form) (eqb m 0 && all_below 2 xs)
    (cond (eqb form permutation_form) (eqb m 0 && all signed32 xs)
    (cond (eqb form divisor_form) (eqb n 3 && (eqb m 0 || eqb m 2 || eqb m 4 || eqb m 6))  -- every and along may be absent
    (cond (eqb form sizes_form) (eqb m 0)
    (cond (eqb form endpoints_form) (eqb n 2 && ltb m 4)  -- either endpoint may be absent
    (eqb form other_form && eqb n 0 && eqb m 0))))))))

unfoldable pub good_attribute : Tables → ℕ → Bool
good_attribute x k =
    leb (attribute_name x k) (length names)
    && within x (numbers_span x k)
    && good_numbers (attribute_form x k) (numbers_span x k).len (attribute_absent x k) (attribute_numbers x k)

unfoldable pub good_block : Tables → ℕ → Bool
good_block x j =
    within x (arguments_span x j)
    && all_below x.counts.values (arguments x j)
    && within x (operations_span x j)
    && all_below x.counts.operations (operations x j)

unfoldable pub good_region : Tables → ℕ → Bool
good_region x k = within x (blocks_span x k) && all_below x.counts.blocks (blocks x k)
