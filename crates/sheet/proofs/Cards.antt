-- Sheets read by the definitions, by computation.
use Prim.Native.Nat.{ℕ}
use Prim.Native.String.{String}
use mathlib.Core.Path.{◌≡◌, refl}
use mathlib.Core.Bool.{true}
use mathlib.Core.List.{List, [], ◌∷◌, ◌++◌, map}
use lib.ListN.{replicate, get_or, take, drop}
use Rattle.names.specs.Names.{bytes}
use Rattle.fields.specs.Cut.{split, nth, on_first}
use Rattle.fields.specs.Number.{written, decimal_of, is_decimal, all_digits, value_after, unsigned_of, signed_of}
use Rattle.tables.specs.Answer.{three, numbers_of, Answer}
use Rattle.tables.specs.Sheet.{fixed_flag_in, fixed_count_in, mode_mask_in, contained_mask_in, byte_width_in, tile_flag_in, tile_through_in}
use Rattle.std.specs.Prelude.{Ok, Err, Some, None}
use Rattle.tables.specs.declared.Numbers.{Numbers}
use Rattle.lines.specs.Into.{left}
use Rattle.sheet.specs.Line.{sheet_line, keyed_line, through_line, judged, stored}
use Rattle.sheet.specs.Sheet.{line_of, last_of, lines_of, read_sheet}

-- whatever was lent
lent : List ℕ
lent = replicate 320 7

-- the sheet after a text, and the three numbers of its refusal, all 0 where it is read
sheet_of : List ℕ → List ℕ
sheet_of text = (read_sheet text lent).entries

numbers_in : Answer → Numbers
numbers_in (Ok _) = three 0 0 0
numbers_in (Err r) = numbers_of r

refusal : String → Numbers
refusal text = numbers_in (read_sheet (bytes text) lent).answer

-- "missing lines mean none, 0 or absent"
nothing : read_sheet (bytes "sheet\t1\n") lent ≡ left (Ok tt) (replicate 320 0)
unfolding lent read_sheet split on_first nth lines_of line_of last_of judged sheet_line keyed_line through_line stored written decimal_of is_decimal all_digits value_after unsigned_of signed_of
nothing = refl

-- one line of each kind, with a count that only the table check refuses
each_kind : List ℕ
each_kind = bytes "sheet\t1\nc\t3\t1\nc\t104\t-1\nm\t9\t1840\np\t6\t22592\nw\t5\t8\nt\t1\n"

read_each : (read_sheet each_kind lent).answer ≡ Ok tt
unfolding lent each_kind read_sheet split on_first nth lines_of line_of last_of judged sheet_line keyed_line through_line stored written decimal_of is_decimal all_digits value_after unsigned_of signed_of
read_each = refl

counts_each : map (fixed_count_in (sheet_of each_kind)) (2 ∷ 3 ∷ 104 ∷ []) ≡ None ∷ Some 1 ∷ Some 0xFFFF_FFFF_FFFF_FFFF ∷ []
unfolding lent sheet_of each_kind read_sheet split on_first nth lines_of line_of last_of judged sheet_line keyed_line through_line stored written decimal_of is_decimal all_digits value_after unsigned_of signed_of fixed_flag_in fixed_count_in mode_mask_in contained_mask_in byte_width_in tile_flag_in tile_through_in
counts_each = refl

masks_each : mode_mask_in (sheet_of each_kind) 9 ∷ mode_mask_in (sheet_of each_kind) 8 ∷ contained_mask_in (sheet_of each_kind) 6 ∷ byte_width_in (sheet_of each_kind) 5 ∷ tile_flag_in (sheet_of each_kind) ∷ []
    ≡ 1840 ∷ 0 ∷ 22592 ∷ 8 ∷ 1 ∷ []
unfolding lent sheet_of each_kind read_sheet split on_first nth lines_of line_of last_of judged sheet_line keyed_line through_line stored written decimal_of is_decimal all_digits value_after unsigned_of signed_of fixed_flag_in fixed_count_in mode_mask_in contained_mask_in byte_width_in tile_flag_in tile_through_in
masks_each = refl

-- refusals, each by its three numbers
refusals : map refusal
    ("" ∷ "sheet\t1" ∷ "\n" ∷ "tile\t1\t4\t100\n" ∷ "c\t3\t1\n" ∷ "sheet\t2\n" ∷ "sheet\t1\t1\n" ∷ "sheet\t1\nsheet\t1\n"
    ∷ "sheet\t1\nc\t3\t1\nc\t3\tx\n" ∷ "sheet\t1\nc\t105\t1\n" ∷ "sheet\t1\nc\tx\tx\n" ∷ "sheet\t1\nm\t1\t65536\n" ∷ "sheet\t1\nm\t1\t1\nc\t2\t1\n"
    ∷ "sheet\t1\nt\t0\nt\t1\n" ∷ "sheet\t1\nt\t2\n" ∷ "sheet\t1\nT\n" ∷ "sheet\t1\nT" ∷ [])
    ≡ three 15 1 0 ∷ three 15 1 0 ∷ three 15 1 1 ∷ three 15 1 1 ∷ three 15 1 0 ∷ three 15 1 2 ∷ three 15 1 0 ∷ three 15 2 0
    ∷ three 15 3 0 ∷ three 15 2 2 ∷ three 15 2 2 ∷ three 15 2 3 ∷ three 15 3 0
    ∷ three 15 3 0 ∷ three 15 2 2 ∷ three 15 2 1 ∷ three 15 2 0 ∷ []
unfolding lent refusal numbers_in read_sheet split on_first nth lines_of line_of last_of judged sheet_line keyed_line through_line stored written decimal_of is_decimal all_digits value_after unsigned_of signed_of
refusals = refl

-- a refusal leaves zeros, a short slice is 13 before any line, and what stands past the sheet is kept
zeroed : (read_sheet (bytes "sheet\t1\nc\t3\t1\nc\t3\t1\n") lent).entries ≡ replicate 320 0
unfolding lent read_sheet split on_first nth lines_of line_of last_of judged sheet_line keyed_line through_line stored written decimal_of is_decimal all_digits value_after unsigned_of signed_of
zeroed = refl

short : numbers_in (read_sheet (bytes "x") (replicate 319 7)).answer ≡ three 13 0 320
unfolding numbers_in read_sheet split on_first nth lines_of line_of last_of judged sheet_line keyed_line through_line stored written decimal_of is_decimal all_digits value_after unsigned_of signed_of
short = refl

past : get_or (read_sheet (bytes "sheet\t1\n") (replicate 322 7)).entries 321 0 ≡ 7
unfolding numbers_in read_sheet split on_first nth lines_of line_of last_of judged sheet_line keyed_line through_line stored written decimal_of is_decimal all_digits value_after unsigned_of signed_of
past = refl

-- the test sheet, read off the running crate
test_sheet : List ℕ
test_sheet = bytes "sheet\t1\nm\t0\t48\nm\t1\t48\nm\t2\t48\nm\t3\t48\nm\t4\t1472\nm\t5\t48\nm\t6\t48\nm\t7\t48\nm\t8\t48\nm\t9\t1840\np\t6\t22592\np\t7\t55424\np\t8\t56256\np\t9\t56000\np\t10\t65472\np\t11\t18432\np\t12\t20480\np\t13\t8192\np\t14\t16384\np\t15\t55296\nw\t0\t1\nw\t1\t1\nw\t2\t1\nw\t3\t2\nw\t4\t4\nw\t5\t8\nw\t6\t2\nw\t7\t2\nw\t8\t4\nw\t9\t4\nw\t10\t8\nw\t11\t1\nw\t12\t1\nw\t13\t1\nw\t14\t1\nw\t15\t1\nt\t1\n"

read_test : (read_sheet test_sheet lent).answer ≡ Ok tt
unfolding lent test_sheet read_sheet split on_first nth lines_of line_of last_of judged sheet_line keyed_line through_line stored written decimal_of is_decimal all_digits value_after unsigned_of signed_of
read_test = refl

cells_test : take 48 (drop 256 (sheet_of test_sheet))
    ≡ (48 ∷ 48 ∷ 48 ∷ 48 ∷ 1472 ∷ 48 ∷ 48 ∷ 48 ∷ 48 ∷ 1840 ∷ 0 ∷ 0 ∷ 0 ∷ 0 ∷ 0 ∷ 0 ∷ [])
    ++ (0 ∷ 0 ∷ 0 ∷ 0 ∷ 0 ∷ 0 ∷ 22592 ∷ 55424 ∷ 56256 ∷ 56000 ∷ 65472 ∷ 18432 ∷ 20480 ∷ 8192 ∷ 16384 ∷ 55296 ∷ [])
    ++ 1 ∷ 1 ∷ 1 ∷ 2 ∷ 4 ∷ 8 ∷ 2 ∷ 2 ∷ 4 ∷ 4 ∷ 8 ∷ 1 ∷ 1 ∷ 1 ∷ 1 ∷ 1 ∷ []
unfolding lent sheet_of test_sheet read_sheet split on_first nth lines_of line_of last_of judged sheet_line keyed_line through_line stored written decimal_of is_decimal all_digits value_after unsigned_of signed_of
cells_test = refl

through_test : tile_through_in (sheet_of test_sheet) ≡ true
unfolding lent sheet_of test_sheet read_sheet split on_first nth lines_of line_of last_of judged sheet_line keyed_line through_line stored written decimal_of is_decimal all_digits value_after unsigned_of signed_of tile_flag_in tile_through_in
through_test = refl
