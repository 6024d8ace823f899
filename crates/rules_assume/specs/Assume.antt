-- The arm of Assume: the attributes in list order, each by its form, "names ignored". `value` is the tile of operand 0, and `view` says
-- that its type is a tensor view.
use Rattle.std.specs.Prelude.{ℕ, ◌/◌, ◌%◌, ◌^◌, Bool, false, not, cond, ◌&&◌, ◌||◌, List, [], ◌∷◌, map, eqb, ltb, get_or, Option, Some, None, Ok}
use Rattle.std.specs.Int.Signed.{lt_z}
use Rattle.cells.specs.Lists.{from}
use Rattle.arith.specs.Signed.{signed_of, fits_width}
use Rattle.arith.specs.Power.{is_power_of_two}
use Rattle.names.specs.Names.{divisor_form, sizes_form, endpoints_form}
use Rattle.tables.specs.Layout.{attributes_in, attribute_form_in, numbers_in, absent_in, form_in}
use Rattle.tables.specs.Tables.{Tables}
use Rattle.tables.specs.declared.Counts.{Counts}
use Rattle.tiles.specs.Kind.{bits_in}
use Rattle.tiles.specs.Tile.{is_tile, is_integers, is_integers_or_pointers}
use Rattle.tiles.specs.Rules.{is_group_outside, is_groups_outside}
use Rattle.tiles.specs.declared.Tile.{Tile}
use Rattle.lookups.specs.Lookup.{is_absent}
use Rattle.lookups.specs.Typed.{operand_type_in, operand_tile_in}
use Rattle.lookups.specs.Verdict.{Verdict, fail_if, or_else}

-- ---- a number of an attribute

-- bit j of the 32 of a cell
unfoldable pub has_bit : ℕ → ℕ → Bool
has_bit mask j = ltb j 32 && eqb (mask / 2 ^ j % 2) 1

-- number j of attribute k, as its 64 bits; "bit k for number k" says that it is absent
unfoldable pub number_in : List ℕ → List ℕ → Counts → ℕ → ℕ → Option ℕ
number_in a l n k j = cond (has_bit (absent_in a n k) j) None (Some (get_or (numbers_in a l n k) j 0))

-- ---- div_by: "`d` divisor, every, along (empty when absent)"

-- no power of two, above 2^62, or one of every and along without the other
unfoldable pub is_divisor_wrong : ℕ → Option ℕ → Option ℕ → Bool
is_divisor_wrong divisor every along =
    not (is_power_of_two divisor) || ltb (2 ^ 62) divisor
    || (is_absent every && not (is_absent along)) || (not (is_absent every) && is_absent along)

-- where both are there: on a tile, an axis of it and a group size of that axis
unfoldable pub group_rule : Tile → Option ℕ → Option ℕ → Verdict
group_rule value (Some every) (Some along) =
    fail_if (not (is_tile value)) 3
    (fail_if (is_group_outside value (signed_of every) (signed_of along)) 4
    (Ok tt))
group_rule value (Some every) None = Ok tt
group_rule value None along = Ok tt

unfoldable pub div_by_rule : Tile → Bool → ℕ → Option ℕ → Option ℕ → Verdict
div_by_rule value view divisor every along =
    fail_if (is_divisor_wrong divisor every along) 1
    (fail_if (not (is_integers_or_pointers value) && not view) 2
    (group_rule value every along))

-- ---- same_elements: "`s` sizes"

unfoldable pub same_elements_rule : Tile → List ℕ → Verdict
same_elements_rule value sizes =
    fail_if (not (is_integers_or_pointers value)) 5
    (fail_if (is_groups_outside value (map signed_of sizes)) 6
    (Ok tt))

-- ---- bounded: "`r` two endpoints (likewise)"

-- "bounded endpoints fit the signed range of the width. At 0 bits no endpoint fits."
unfoldable pub is_outside_width : ℕ → Option ℕ → Bool
is_outside_width bits (Some endpoint) = not (fits_width bits (signed_of endpoint))
is_outside_width bits None = false

-- both are there, and the lower is above the upper
unfoldable pub is_reversed : Option ℕ → Option ℕ → Bool
is_reversed (Some lb) (Some ub) = lt_z (signed_of ub) (signed_of lb)
is_reversed (Some lb) None = false
is_reversed None ub = false

unfoldable pub is_bound_wrong : ℕ → Option ℕ → Option ℕ → Bool
is_bound_wrong bits lb ub = is_outside_width bits lb || is_outside_width bits ub || is_reversed lb ub

unfoldable pub bounded_rule : List ℕ → Tile → Option ℕ → Option ℕ → Verdict
bounded_rule sheet value lb ub =
    fail_if (not (is_integers value)) 7
    (fail_if (is_bound_wrong (bits_in sheet value.kind) lb ub) 8
    (Ok tt))

-- ---- the arm

-- what attribute k asks, by its form; a form that is none of the three asks nothing
unfoldable pub attribute_rule : List ℕ → List ℕ → List ℕ → Counts → Tile → Bool → ℕ → Verdict
attribute_rule a l sheet n value view k =
    let form = attribute_form_in a n k in
    let numbers = numbers_in a l n k in
    let number = number_in a l n k in
    cond (eqb form divisor_form) (div_by_rule value view (get_or numbers 0 0) (number 1) (number 2))
    (cond (eqb form sizes_form) (same_elements_rule value numbers)
    (cond (eqb form endpoints_form) (bounded_rule sheet value (number 0) (number 1))
    (Ok tt)))

-- the first answer that does not hold
abbrev pub in_turn : (ℕ → Verdict) → List ℕ → Verdict
in_turn rule [] = Ok tt
in_turn rule (k ∷ ks) = or_else (rule k) (in_turn rule ks)

-- "3 tensor view", through any pointer attribute
abbrev pub is_tensor_view : List ℕ → Counts → Option ℕ → Bool
is_tensor_view t n (Some id) = eqb (form_in t n id) 3
is_tensor_view t n None = false

unfoldable pub assume_in : List ℕ → List ℕ → List ℕ → List ℕ → List ℕ → List ℕ → Counts → ℕ → Verdict
assume_in t v o a l sheet n i =
    let value = operand_tile_in t v o l sheet n i 0 in
    let view = is_tensor_view t n (operand_type_in v o l n i 0) in
    let s = attributes_in o n i in
    in_turn (attribute_rule a l sheet n value view) (from s.start s.len)

abbrev pub assume_arm : List ℕ → Tables → ℕ → Verdict
assume_arm sheet x i = assume_in x.t x.v x.o x.a x.l sheet x.counts i
