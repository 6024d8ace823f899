-- The tables as one record, and everything the paper speaks of, read off it. Definitions above this crate use these names alone.
use Rattle.std.specs.Prelude.{ℕ, List, [], Bool, length, ltb, Option}
use Rattle.cells.specs.Lists.{from}
use Rattle.tables.specs.Layout.{opcode_in, result_types_span_in, result_types_in, operands_span_in, operands_in, regions_span_in, regions_in, attributes_span_in, attributes_in, arguments_span_in, arguments_in, operations_span_in, operations_in, blocks_span_in, blocks_in, functions_in, value_type_in, claim_flag_in, claim_in, form_in, kind_in, pointer_in, padded_in, sparse_in, rank_in, dims_in, name_in, attribute_form_in, numbers_span_in, numbers_in, absent_in}
use Rattle.cells.specs.declared.Span.{Span}
use Rattle.tables.specs.Sizes.{cut_counts}
use Rattle.tables.specs.declared.Counts.{Counts}
use Rattle.tables.specs.declared.Claim.{Claim}

-- the lent slices, in the order T, V, O, A, B, R, F and the list entries, and how many entries of each table count
pub record Tables : Type 0 where
  pub t : List ℕ
  pub v : List ℕ
  pub o : List ℕ
  pub a : List ℕ
  pub b : List ℕ
  pub r : List ℕ
  pub f : List ℕ
  pub l : List ℕ
  pub counts : Counts

-- the tables that a call was lent
abbrev pub lent : List ℕ → List ℕ → List ℕ → List ℕ → List ℕ → List ℕ → List ℕ → List ℕ → Counts → Tables
lent t v o a b r f l n = record { t = t; v = v; o = o; a = a; b = b; r = r; f = f; l = l; counts = n }

-- the nesting alone: no types, values and attributes
abbrev pub nest : List ℕ → List ℕ → List ℕ → List ℕ → List ℕ → Counts → Tables
nest o b r f l n = lent [] [] o [] b r f l n

-- the same tables with their counts cut at the sizes
abbrev pub cut : Tables → Tables
cut x = lent x.t x.v x.o x.a x.b x.r x.f x.l (cut_counts x.counts)

-- ---- nesting: "the lists of functions, regions, blocks and operations"

abbrev pub functions : Tables → List ℕ
functions x = functions_in x.f x.counts

abbrev pub regions : Tables → ℕ → List ℕ
regions x i = regions_in x.o x.l x.counts i

abbrev pub blocks : Tables → ℕ → List ℕ
blocks x k = blocks_in x.r x.l x.counts k

abbrev pub operations : Tables → ℕ → List ℕ
operations x j = operations_in x.b x.l x.counts j

-- ---- of an operation and of a block

abbrev pub opcode : Tables → ℕ → ℕ
opcode x i = opcode_in x.o x.counts i

abbrev pub result_types : Tables → ℕ → List ℕ
result_types x i = result_types_in x.o x.l x.counts i

abbrev pub operands : Tables → ℕ → List ℕ
operands x i = operands_in x.o x.l x.counts i

-- the ids of its attributes, in order
abbrev pub attributes : Tables → ℕ → List ℕ
attributes x i = let s = attributes_in x.o x.counts i in from s.start s.len

abbrev pub arguments : Tables → ℕ → List ℕ
arguments x j = arguments_in x.b x.l x.counts j

-- ---- of a value

abbrev pub value_type : Tables → ℕ → ℕ
value_type x v = value_type_in x.v x.counts v

abbrev pub claim : Tables → ℕ → Option Claim
claim x v = claim_in x.v x.counts v

-- "A declared result is one whose index lies below its operation's result count."
abbrev pub declared : Tables → ℕ → ℕ → Bool
declared x i k = ltb k (length (result_types x i))

-- ---- of a type

abbrev pub type_form : Tables → ℕ → ℕ
type_form x i = form_in x.t x.counts i

abbrev pub type_kind : Tables → ℕ → ℕ
type_kind x i = kind_in x.t x.counts i

abbrev pub type_pointer : Tables → ℕ → ℕ
type_pointer x i = pointer_in x.t x.counts i

abbrev pub type_padded : Tables → ℕ → ℕ
type_padded x i = padded_in x.t x.counts i

abbrev pub type_sparse : Tables → ℕ → ℕ
type_sparse x i = sparse_in x.t x.counts i

abbrev pub type_rank : Tables → ℕ → ℕ
type_rank x i = rank_in x.t x.counts i

abbrev pub type_dims : Tables → ℕ → List ℕ
type_dims x i = dims_in x.t x.counts i

-- ---- of an attribute

abbrev pub attribute_name : Tables → ℕ → ℕ
attribute_name x k = name_in x.a x.counts k

abbrev pub attribute_form : Tables → ℕ → ℕ
attribute_form x k = attribute_form_in x.a x.counts k

abbrev pub attribute_numbers : Tables → ℕ → List ℕ
attribute_numbers x k = numbers_in x.a x.l x.counts k

abbrev pub attribute_absent : Tables → ℕ → ℕ
attribute_absent x k = absent_in x.a x.counts k

-- ---- where the lists stand, which only code 1 and reading back ask

abbrev pub result_types_span : Tables → ℕ → Span
result_types_span x i = result_types_span_in x.o x.counts i

abbrev pub operands_span : Tables → ℕ → Span
operands_span x i = operands_span_in x.o x.counts i

abbrev pub regions_span : Tables → ℕ → Span
regions_span x i = regions_span_in x.o x.counts i

abbrev pub attributes_span : Tables → ℕ → Span
attributes_span x i = attributes_span_in x.o x.counts i

abbrev pub numbers_span : Tables → ℕ → Span
numbers_span x k = numbers_span_in x.a x.counts k

abbrev pub arguments_span : Tables → ℕ → Span
arguments_span x j = arguments_span_in x.b x.counts j

abbrev pub operations_span : Tables → ℕ → Span
operations_span x j = operations_span_in x.b x.counts j

abbrev pub blocks_span : Tables → ℕ → Span
blocks_span x k = blocks_span_in x.r x.counts k

-- whether a value claims a result, as a flag
abbrev pub claim_flag : Tables → ℕ → ℕ
claim_flag x v = claim_flag_in x.v x.counts v
