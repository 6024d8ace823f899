-- Case M of the paper, read by the definitions, and small texts that are refused, by computation.
use Prim.Native.Nat.{ℕ}
use mathlib.Core.Path.{◌≡◌, refl}
use mathlib.Core.List.{List, [], ◌∷◌, ◌++◌}
use lib.ListN.{replicate}
use Rattle.names.specs.Names.{bytes}
use Rattle.fields.specs.Cut.{split, nth, on_first}
use Rattle.fields.specs.Number.{written, decimal_of, is_decimal, all_digits, value_after, unsigned_of, signed_of}
use Rattle.tables.specs.Tables.{Tables, lent}
use Rattle.std.specs.Prelude.{Ok, Err}
use Rattle.tables.specs.declared.Refusal.TheVariants.{OutOfRange, TooShort, NotInForm}
use Rattle.lines.specs.Field.{list_of}
use Rattle.lines.specs.Line.{header_line, type_line, value_line, operation_line, attribute_line, block_line, region_line, function_line}
use Rattle.house.specs.State.{State}
use Rattle.house.specs.House.{no_counts, state, counts, judged, line_of}
use Rattle.module_text.specs.Whole.{room, fresh, lines_of}

m : List ℕ
m = bytes "tile\t1\t4\t100\nT\t1\t4\t0\t0\t-1\t\nV\t0\t\t\nV\t0\t\t\nV\t0\t1\t0\nV\t0\t3\t0\nO\t22\t\t\t0\nO\t3\t0\t0,1\t\nO\t38\t\t2\t1\nO\t3\t0\t2,0\t\nO\t74\t\t2\t\nB\t0,1\t1,2,4\nB\t\t3\nR\t0\nR\t1\nF\t0\n"

-- tables as large as M needs, with nothing in them
small : Tables
small = lent (replicate 16 0) (replicate 16 0) (replicate 80 0) (replicate 8 0) (replicate 8 0) (replicate 4 0) (replicate 1 0) (replicate 18 0) no_counts

-- what a text gives from there
reads : List ℕ → State
reads text = lines_of (fresh small) (split 10 text)

types : List ℕ
types = 1 ∷ 4 ∷ 0 ∷ 0 ∷ 18446744073709551615 ∷ 0 ∷ 0 ∷ 0 ∷ replicate 8 0

values : List ℕ
values =
    0 ∷ 0 ∷ 0 ∷ 0
    ∷ 0 ∷ 0 ∷ 0 ∷ 0
    ∷ 0 ∷ 1 ∷ 1 ∷ 0
    ∷ 0 ∷ 1 ∷ 3 ∷ 0 ∷ []

operations : List ℕ
operations =
    (22 ∷ 0 ∷ 0 ∷ 0 ∷ 0 ∷ 0 ∷ 1 ∷ 0 ∷ replicate 8 0)
    ++ (3 ∷ 1 ∷ 1 ∷ 2 ∷ 2 ∷ 4 ∷ 0 ∷ 0 ∷ replicate 8 0)
    ++ (38 ∷ 4 ∷ 0 ∷ 4 ∷ 1 ∷ 5 ∷ 1 ∷ 0 ∷ replicate 8 0)
    ++ (3 ∷ 6 ∷ 1 ∷ 7 ∷ 2 ∷ 9 ∷ 0 ∷ 0 ∷ replicate 8 0)
    ++ (74 ∷ 9 ∷ 0 ∷ 9 ∷ 1 ∷ 10 ∷ 0 ∷ 0 ∷ replicate 8 0)

blocks : List ℕ
blocks = 10 ∷ 2 ∷ 12 ∷ 3 ∷ 15 ∷ 0 ∷ 15 ∷ 1 ∷ []

regions : List ℕ
regions = 16 ∷ 1 ∷ 17 ∷ 1 ∷ []

entries : List ℕ
entries = 0 ∷ 0 ∷ 0 ∷ 1 ∷ 2 ∷ 1 ∷ 0 ∷ 2 ∷ 0 ∷ 2 ∷ 0 ∷ 1 ∷ 1 ∷ 2 ∷ 4 ∷ 3 ∷ 0 ∷ 1 ∷ []

read_m : reads m ≡ state 6 16 134 18 4 100 (lent types values operations (replicate 8 0) blocks regions (0 ∷ []) entries (counts 1 4 5 0 2 2 1)) (Ok tt)
unfolding split on_first nth lines_of line_of judged written decimal_of is_decimal all_digits value_after unsigned_of signed_of list_of header_line type_line value_line operation_line attribute_line block_line region_line function_line m small reads types values operations blocks regions entries
read_m = refl

-- an empty text
no_line : (reads ([])).answer ≡ Err (NotInForm 1 0)
unfolding split on_first nth lines_of line_of judged written decimal_of is_decimal all_digits value_after unsigned_of signed_of list_of header_line type_line value_line operation_line attribute_line block_line region_line function_line small reads
no_line = refl

-- M without its last LF
cut_off : (reads (bytes "tile\t1\t4\t100\nT\t1\t4\t0\t0\t-1\t\nV\t0\t\t\nV\t0\t\t\nV\t0\t1\t0\nV\t0\t3\t0\nO\t22\t\t\t0\nO\t3\t0\t0,1\t\nO\t38\t\t2\t1\nO\t3\t0\t2,0\t\nO\t74\t\t2\t\nB\t0,1\t1,2,4\nB\t\t3\nR\t0\nR\t1\nF\t0")).answer ≡ Err (NotInForm 16 0)
unfolding split on_first nth lines_of line_of judged written decimal_of is_decimal all_digits value_after unsigned_of signed_of list_of header_line type_line value_line operation_line attribute_line block_line region_line function_line small reads
cut_off = refl

-- M and an empty line
empty_line : (reads (bytes "tile\t1\t4\t100\nT\t1\t4\t0\t0\t-1\t\nV\t0\t\t\nV\t0\t\t\nV\t0\t1\t0\nV\t0\t3\t0\nO\t22\t\t\t0\nO\t3\t0\t0,1\t\nO\t38\t\t2\t1\nO\t3\t0\t2,0\t\nO\t74\t\t2\t\nB\t0,1\t1,2,4\nB\t\t3\nR\t0\nR\t1\nF\t0\n\n")).answer ≡ Err (NotInForm 17 1)
unfolding split on_first nth lines_of line_of judged written decimal_of is_decimal all_digits value_after unsigned_of signed_of list_of header_line type_line value_line operation_line attribute_line block_line region_line function_line small reads
empty_line = refl

-- a `B` after an `F`, and its bad field
out_of_order : (reads (bytes "tile\t1\t4\t100\nF\t0\nB\tx\t\n")).answer ≡ Err (NotInForm 3 0)
unfolding split on_first nth lines_of line_of judged written decimal_of is_decimal all_digits value_after unsigned_of signed_of list_of header_line type_line value_line operation_line attribute_line block_line region_line function_line small reads
out_of_order = refl

-- a field too many, and a bad one
too_many_fields : (reads (bytes "tile\t1\t4\tx\t9\n")).answer ≡ Err (NotInForm 1 0)
unfolding split on_first nth lines_of line_of judged written decimal_of is_decimal all_digits value_after unsigned_of signed_of list_of header_line type_line value_line operation_line attribute_line block_line region_line function_line small reads
too_many_fields = refl

-- a tag of the sheet
other_tag : (reads (bytes "tile\t1\t4\t100\nc\t3\t1\n")).answer ≡ Err (NotInForm 2 1)
unfolding split on_first nth lines_of line_of judged written decimal_of is_decimal all_digits value_after unsigned_of signed_of list_of header_line type_line value_line operation_line attribute_line block_line region_line function_line small reads
other_tag = refl

-- a CR
carriage_return : (reads (bytes "tile\t1\t4\t100\r\n")).answer ≡ Err (NotInForm 1 4)
unfolding split on_first nth lines_of line_of judged written decimal_of is_decimal all_digits value_after unsigned_of signed_of list_of header_line type_line value_line operation_line attribute_line block_line region_line function_line small reads
carriage_return = refl

-- two bad fields
leftmost : (reads (bytes "tile\t1\tx\ty\n")).answer ≡ Err (NotInForm 1 3)
unfolding split on_first nth lines_of line_of judged written decimal_of is_decimal all_digits value_after unsigned_of signed_of list_of header_line type_line value_line operation_line attribute_line block_line region_line function_line small reads
leftmost = refl

-- nine dims
nine_dims : (reads (bytes "tile\t1\t4\t100\nT\t1\t4\t0\t0\t-1\t1,1,1,1,1,1,1,1,1\n")).answer ≡ Err (OutOfRange 1 0)
unfolding split on_first nth lines_of line_of judged written decimal_of is_decimal all_digits value_after unsigned_of signed_of list_of header_line type_line value_line operation_line attribute_line block_line region_line function_line small reads
nine_dims = refl

-- "The first lent table below full size (list entries last) gives 13 with that size before any line"
full_size : room 16384 16384 32768 32768 2048 1024 64 8192 ≡ Ok tt
unfolding room
full_size = refl

two_short : room 16384 16384 32768 32767 2048 1024 64 8191 ≡ Err (TooShort 4096)
unfolding room
two_short = refl

entries_short : room 16384 16384 32768 32768 2048 1024 64 8191 ≡ Err (TooShort 8192)
unfolding room
entries_short = refl
