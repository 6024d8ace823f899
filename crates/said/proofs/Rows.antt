-- An entry as its row and the list entries tell it, kind by kind: what a line stores is what it says, what later lines store leaves it, and
-- it is what the accessors read. Assumes nothing.
use Prim.Native.Nat.{ℕ, ◌+◌, ◌*◌, ◌≤◌, ◌<◌, min}
use mathlib.Core.Bool.{cond}
use mathlib.Core.Path.{◌≡◌, sym, ◌∙◌, ap}
use mathlib.Core.List.{List, ◌++◌, append_assoc}
use native.Mathlib.Omega.{arith}
use lib.Dec.{eqb}
use lib.ListN.{length, get_or, take, drop, length-append, length-take, length-drop}
use lib.Seq.{sets, get_or-take, length-take-le}
use Rattle.tables.specs.Layout.{dims_in, opcode_in, result_types_span_in, result_types_in, operands_span_in, operands_in, regions_span_in, regions_in, arguments_span_in, arguments_in, operations_span_in, operations_in, blocks_span_in, blocks_in, functions_in, value_type_in, claim_flag_in, claim_in, pointer_in, name_in, attribute_form_in, numbers_span_in, numbers_in, absent_in}
use Rattle.tables.specs.Tables.{Tables, functions, blocks, type_rank, type_dims}
use Rattle.std.specs.Prelude.{Some, None}
use Rattle.lines.specs.Line.{TypeRow, OperationRow, AttributeRow, BlockRow}
use Rattle.stores.specs.Rows.{type_cells, operation_cells, attribute_cells, block_cells, region_cells}
use Rattle.reading.proofs.Rows.{row, cell_is, span_is, part_kept, part_new}
use Rattle.reading.proofs.Types.{TypeHeld, dims_back, form_is, kind_is, padded_is, sparse_is, rank_is, dims_is}
use Rattle.reading.proofs.Operations.{OperationHeld}
use Rattle.reading.proofs.Attributes.{AttributeHeld}
use Rattle.reading.proofs.Blocks.{BlockHeld, RegionHeld}
use Rattle.said.specs.Said.{Value, type_at, value_at, operation_at, attribute_at, block_at, function_at, meant_type}
use Rattle.said.proofs.Parts.{written, front_part, next_part}

-- so many list entries from a start on
abbrev pub part : List ℕ → ℕ → ℕ → List ℕ
part l start len = take len (drop start l)

-- ---- T

abbrev pub type_of : List ℕ → TypeRow
type_of r = record {
  form = get_or r 0 0;
  kind = get_or r 1 0;
  pointer = cond (eqb (get_or r 0 0) 0) 0 (get_or r 2 0);
  padded = get_or r 3 0;
  sparse = get_or r 4 0;
  dims = take (get_or r 5 0) (drop 8 r);
}

pub type_new : (w : TypeRow) → length w.dims ≤ 8 → type_of (type_cells w) ≡ meant_type w
type_new w l = rw (dims_back w l)

pub type_at_lem : (x : Tables) (i : ℕ) → i < x.counts.types → TypeHeld (row 16 x.t i) → type_at x i ≡ type_of (row 16 x.t i)
unfolding pointer_in
type_at_lem x i h r =
    rw (
      form_is x i h r,
      kind_is x i h r,
      padded_is x i h r,
      sparse_is x i h r,
      dims_is x i h r,
      cell_is 16 x.t x.counts.types i h 2 (omega arith),
    )

pub rank_at : (x : Tables) (i : ℕ) → i < x.counts.types → i < 1024 → 16384 ≤ length x.t → TypeHeld (row 16 x.t i)
    → type_rank x i ≡ length (type_dims x i)
unfolding dims_in
rank_at x i h k l r =
    let e = rank_is x i h r in
    sym
    (length-take (min (type_rank x i) 8) (drop (i * 16 + 8) x.t) ∙ rw (length-drop (i * 16 + 8) x.t) (omega (arith, r.rank)))

-- ---- V

abbrev pub value_of : List ℕ → Value
value_of r = record { type_id = get_or r 0 0; owner = cond (eqb (get_or r 1 0) 1) (Some (record { operation = get_or r 2 0; index = get_or r 3 0 })) None }

pub value_at_lem : (x : Tables) (v : ℕ) → v < x.counts.values → value_at x v ≡ value_of (row 4 x.v v)
unfolding value_type_in claim_in claim_flag_in
value_at_lem x v h =
    rw (
      cell_is 4 x.v x.counts.values v h 0 (omega arith),
      cell_is 4 x.v x.counts.values v h 1 (omega arith),
      cell_is 4 x.v x.counts.values v h 2 (omega arith),
      cell_is 4 x.v x.counts.values v h 3 (omega arith),
    )

-- ---- O, without its attributes

abbrev pub operation_of : List ℕ → List ℕ → OperationRow
operation_of l r = record {
  opcode = get_or r 0 0;
  results = part l (get_or r 1 0) (get_or r 2 0);
  operands = part l (get_or r 3 0) (get_or r 4 0);
  regions = part l (get_or r 5 0) (get_or r 6 0);
}

pub operation_new : (l : List ℕ) (e first : ℕ) (w : OperationRow) → e + length (w.results ++ w.operands ++ w.regions) ≤ length l
    → operation_of (sets l e (w.results ++ w.operands ++ w.regions)) (operation_cells e first w) ≡ w
operation_new l e first w h =
    let a = w.results in
    let b = w.operands in
    let c = w.regions in
    let L = sets l e (a ++ b ++ c) in
    let rest = drop (e + length (a ++ b ++ c)) l in
    let there : drop e L ≡ a ++ b ++ c ++ rest = written (a ++ b ++ c) l e h in
    let long : length (a ++ b) ≡ length a + length b = length-append a b in
    let spot : e + length (a ++ b) ≡ e + length a + length b = omega arith in
    let one : part L e (length a) ≡ a = front_part L e a (b ++ c ++ rest) (there ∙ append_assoc (a ++ b) c rest ∙ append_assoc a b (c ++ rest) ∙ ap (λ (t : List ℕ). a ++ t) (sym (append_assoc b c rest))) in
    let two : part L (e + length a) (length b) ≡ b = next_part L e a b (c ++ rest) (there ∙ append_assoc (a ++ b) c rest) in
    let three : part L (e + length a + length b) (length c) ≡ c
    = ap (λ (k : ℕ). part L k (length c)) (sym spot) ∙ next_part L e (a ++ b) c rest there in
    rw (one, two, three)

pub operation_later : (l new : List ℕ) (e n : ℕ) (r : List ℕ) → OperationHeld e n r → operation_of (sets l e new) r ≡ operation_of l r
operation_later l new e n r h =
    rw (
      part_kept new l e (get_or r 1 0) (get_or r 2 0) h.results,
      part_kept new l e (get_or r 3 0) (get_or r 4 0) h.operands,
      part_kept new l e (get_or r 5 0) (get_or r 6 0) h.regions,
    )

pub operation_at_lem : (x : Tables) (i : ℕ) → i < x.counts.operations → operation_at x i ≡ operation_of x.l (row 16 x.o i)
unfolding opcode_in result_types_in result_types_span_in operands_in operands_span_in regions_in regions_span_in
operation_at_lem x i h =
    rw (
      cell_is 16 x.o x.counts.operations i h 0 (omega arith),
      span_is 16 x.o x.counts.operations i h 1 (omega arith),
      span_is 16 x.o x.counts.operations i h 3 (omega arith),
      span_is 16 x.o x.counts.operations i h 5 (omega arith),
    )

-- ---- A

abbrev pub attribute_of : List ℕ → List ℕ → AttributeRow
attribute_of l r = record { name = get_or r 0 0; form = get_or r 1 0; numbers = part l (get_or r 2 0) (get_or r 3 0); missing = get_or r 4 0 }

pub attribute_new : (l : List ℕ) (e : ℕ) (w : AttributeRow) → e + length w.numbers ≤ length l
    → attribute_of (sets l e w.numbers) (attribute_cells e w) ≡ w
attribute_new l e w h = rw (part_new w.numbers l e h)

pub attribute_later : (l new : List ℕ) (e : ℕ) (r : List ℕ) → AttributeHeld l e r → attribute_of (sets l e new) r ≡ attribute_of l r
attribute_later l new e r h = rw (part_kept new l e (get_or r 2 0) (get_or r 3 0) h.whole)

pub attribute_at_lem : (x : Tables) (k : ℕ) → k < x.counts.attributes → attribute_at x k ≡ attribute_of x.l (row 8 x.a k)
unfolding name_in attribute_form_in numbers_in numbers_span_in absent_in
attribute_at_lem x k h =
    rw (
      cell_is 8 x.a x.counts.attributes k h 0 (omega arith),
      cell_is 8 x.a x.counts.attributes k h 1 (omega arith),
      cell_is 8 x.a x.counts.attributes k h 4 (omega arith),
      span_is 8 x.a x.counts.attributes k h 2 (omega arith),
    )

-- ---- B

abbrev pub block_of : List ℕ → List ℕ → BlockRow
block_of l r = record { arguments = part l (get_or r 0 0) (get_or r 1 0); operations = part l (get_or r 2 0) (get_or r 3 0) }

pub block_new : (l : List ℕ) (e : ℕ) (w : BlockRow) → e + length (w.arguments ++ w.operations) ≤ length l
    → block_of (sets l e (w.arguments ++ w.operations)) (block_cells e w) ≡ w
block_new l e w h =
    let a = w.arguments in
    let b = w.operations in
    let L = sets l e (a ++ b) in
    let rest = drop (e + length (a ++ b)) l in
    let there : drop e L ≡ a ++ b ++ rest = written (a ++ b) l e h in
    let one : part L e (length a) ≡ a = front_part L e a (b ++ rest) (there ∙ append_assoc a b rest) in
    let two : part L (e + length a) (length b) ≡ b = next_part L e a b rest there in
    rw (one, two)

pub block_later : (l new : List ℕ) (e : ℕ) (r : List ℕ) → BlockHeld e r → block_of (sets l e new) r ≡ block_of l r
block_later l new e r h =
    rw (part_kept new l e (get_or r 0 0) (get_or r 1 0) h.arguments, part_kept new l e (get_or r 2 0) (get_or r 3 0) h.operations)

pub block_at_lem : (x : Tables) (j : ℕ) → j < x.counts.blocks → block_at x j ≡ block_of x.l (row 4 x.b j)
unfolding arguments_in arguments_span_in operations_in operations_span_in
block_at_lem x j h =
    rw (span_is 4 x.b x.counts.blocks j h 0 (omega arith), span_is 4 x.b x.counts.blocks j h 2 (omega arith))

-- ---- R

abbrev pub region_of : List ℕ → List ℕ → List ℕ
region_of l r = part l (get_or r 0 0) (get_or r 1 0)

pub region_new : (l : List ℕ) (e : ℕ) (blocks : List ℕ) → e + length blocks ≤ length l
    → region_of (sets l e blocks) (region_cells e blocks) ≡ blocks
region_new l e blocks h = part_new blocks l e h

pub region_later : (l new : List ℕ) (e : ℕ) (r : List ℕ) → RegionHeld e r → region_of (sets l e new) r ≡ region_of l r
region_later l new e r h = part_kept new l e (get_or r 0 0) (get_or r 1 0) h.blocks

pub region_at : (x : Tables) (k : ℕ) → k < x.counts.regions → blocks x k ≡ region_of x.l (row 2 x.r k)
unfolding blocks_in blocks_span_in
region_at x k h = rw (span_is 2 x.r x.counts.regions k h 0 (omega arith))

-- ---- F

pub function_at_lem : (x : Tables) (p : ℕ) → p < x.counts.functions → function_at x p ≡ get_or x.f p 0
unfolding functions_in
function_at_lem x p h = get_or-take x.counts.functions x.f p 0 h

pub functions_all : (x : Tables) → x.counts.functions ≤ length x.f → length (functions x) ≡ x.counts.functions
unfolding functions_in
functions_all x h = length-take-le x.counts.functions x.f h
