-- Texts of numbers read by the definitions, by computation.
use Prim.Native.Nat.{ℕ}
use Prim.Native.String.{String}
use mathlib.Core.Path.{◌≡◌, refl}
use mathlib.Core.List.{List, [], ◌∷◌, ◌++◌, map}
use lib.ListN.{length, replicate}
use Rattle.names.specs.Names.{bytes}
use Rattle.fields.specs.Cut.{split, nth, on_first}
use Rattle.fields.specs.Number.{written, decimal_of, is_decimal, all_digits, value_after, unsigned_of}
use Rattle.tables.specs.Answer.{three, numbers_of}
use Rattle.tables.specs.declared.Numbers.{Numbers}
use Rattle.tables.specs.declared.Refusal.TheVariants.{NotInForm}
use Rattle.lines.specs.Field.{says, list_of}
use Rattle.number_text.specs.declared.Lists.{Lists}
use Rattle.std.specs.Prelude.{Result, Ok, Err}
use Rattle.tables.specs.declared.Refusal.{Refusal}
use Rattle.number_text.specs.Line.{list_line}
use Rattle.number_text.specs.Text.{state, Step, goes, refuses, outcome, lists, listed, taken, line_of, last_of, lines_of, read_numbers}

-- whatever was lent
numbers : List ℕ
numbers = replicate 8192 7

lengths : List ℕ
lengths = replicate 64 9

numbers_in : Result Lists Refusal → Numbers
numbers_in (Ok read) = three 0 read.count read.functions
numbers_in (Err r) = numbers_of r

-- 0, the count of numbers and of functions where a text is read; else its refusal
answer : String → Numbers
answer text = numbers_in (read_numbers (bytes text) numbers lengths).answer

-- the same of one step
step_numbers : Step → Numbers
step_numbers (goes s) = three 0 (length s.numbers) (length s.lengths)
step_numbers (refuses r) = numbers_of r

all_functions : List ℕ
all_functions = bytes "n\t0\t\nn\t1\t\nn\t2\t\nn\t3\t\nn\t4\t\nn\t5\t\nn\t6\t\nn\t7\t\nn\t8\t\nn\t9\t\nn\t10\t\nn\t11\t\nn\t12\t\nn\t13\t\nn\t14\t\nn\t15\t\nn\t16\t\nn\t17\t\nn\t18\t\nn\t19\t\nn\t20\t\nn\t21\t\nn\t22\t\nn\t23\t\nn\t24\t\nn\t25\t\nn\t26\t\nn\t27\t\nn\t28\t\nn\t29\t\nn\t30\t\nn\t31\t\nn\t32\t\nn\t33\t\nn\t34\t\nn\t35\t\nn\t36\t\nn\t37\t\nn\t38\t\nn\t39\t\nn\t40\t\nn\t41\t\nn\t42\t\nn\t43\t\nn\t44\t\nn\t45\t\nn\t46\t\nn\t47\t\nn\t48\t\nn\t49\t\nn\t50\t\nn\t51\t\nn\t52\t\nn\t53\t\nn\t54\t\nn\t55\t\nn\t56\t\nn\t57\t\nn\t58\t\nn\t59\t\nn\t60\t\nn\t61\t\nn\t62\t\nn\t63\t\n"

-- case M's list, and what stands past it is kept
case_m : read_numbers (bytes "n\t0\t0,1,2,2,0,2\n") numbers lengths
    ≡ outcome (Ok (lists 6 1)) ((0 ∷ 1 ∷ 2 ∷ 2 ∷ 0 ∷ 2 ∷ []) ++ replicate 8186 7) ((6 ∷ []) ++ replicate 63 9)
unfolding numbers lengths read_numbers split on_first nth lines_of line_of last_of taken list_line list_of written decimal_of is_decimal all_digits value_after unsigned_of
case_m = refl

-- a refusal leaves zeros, however far the list was read
zeroed : read_numbers (bytes "n\t0\t1,2\nn\t1\t3,x\n") numbers lengths ≡ outcome (Err (NotInForm 2 203)) (replicate 8192 0) (replicate 64 0)
unfolding numbers lengths read_numbers split on_first nth lines_of line_of last_of taken list_line list_of written decimal_of is_decimal all_digits value_after unsigned_of
zeroed = refl

-- `ok` or not, empty lists, no functions, and the greatest number
read : map answer ("" ∷ "ok\n" ∷ "ok\nn\t0\t\n" ∷ "n\t0\t5\nn\t1\t\nn\t2\t18446744073709551615,0\n" ∷ [])
    ≡ three 0 0 0 ∷ three 0 0 0 ∷ three 0 0 1 ∷ three 0 3 3 ∷ []
unfolding answer numbers_in numbers lengths read_numbers split on_first nth lines_of line_of last_of taken list_line list_of written decimal_of is_decimal all_digits value_after unsigned_of
read = refl

-- refusals, each by its three numbers: a missing LF, fields too many or too few, `ok` twice, a position that is not the next
out_of_place : map answer ("ok" ∷ "n\t0\t1" ∷ "n\t0\n" ∷ "n\t0\t1\t\n" ∷ "ok\t\n" ∷ "ok\nok\n" ∷ "n\t1\tx\n" ∷ "n\t0\t\nn\t0\t\n" ∷ [])
    ≡ three 15 1 200 ∷ three 15 1 200 ∷ three 15 1 200 ∷ three 15 1 200 ∷ three 15 1 200 ∷ three 15 2 200 ∷ three 15 1 200 ∷ three 15 2 200 ∷ []
unfolding answer numbers_in numbers lengths read_numbers split on_first nth lines_of line_of last_of taken list_line list_of written decimal_of is_decimal all_digits value_after unsigned_of
out_of_place = refl

-- an unknown tag, an empty line, a refusal as the bench prints it; a position, a list that is none
bad_fields : map answer ("x\n" ∷ "\n" ∷ "no\t5\t4\t0\n" ∷ "n\t00\tx\n" ∷ "n\t-1\t\n" ∷ "n\t\t\n" ∷ "n\t0\t1,\n" ∷ "n\t0\t-1\n" ∷ "n\t0\t18446744073709551616\n" ∷ [])
    ≡ three 15 1 201 ∷ three 15 1 201 ∷ three 15 1 201 ∷ three 15 1 202 ∷ three 15 1 202 ∷ three 15 1 202 ∷ three 15 1 203 ∷ three 15 1 203 ∷ three 15 1 203 ∷ []
unfolding answer numbers_in numbers lengths read_numbers split on_first nth lines_of line_of last_of taken list_line list_of written decimal_of is_decimal all_digits value_after unsigned_of
bad_fields = refl

-- 13 before any line, the numbers first
short : numbers_in (read_numbers (bytes "x") (replicate 8191 7) (replicate 63 7)).answer
    ∷ numbers_in (read_numbers (bytes "x") numbers (replicate 63 7)).answer ∷ [] ≡ three 13 0 8192 ∷ three 13 0 64 ∷ []
unfolding numbers_in numbers lengths read_numbers
short = refl

-- 64 functions are read, the 65th is too many
many : numbers_in (read_numbers all_functions numbers lengths).answer
    ∷ numbers_in (read_numbers (all_functions ++ bytes "n\t64\t\n") numbers lengths).answer ∷ [] ≡ three 0 0 64 ∷ three 1 0 0 ∷ []
unfolding all_functions numbers_in numbers lengths read_numbers split on_first nth lines_of line_of last_of taken list_line list_of written decimal_of is_decimal all_digits value_after unsigned_of
many = refl

-- after 8,190 numbers two more are read, and three are too many
numbers_full : map (λ xs. step_numbers (listed (state 2 9 (replicate 8190 0) (8190 ∷ [])) 20 (says xs))) ((1 ∷ 2 ∷ []) ∷ (1 ∷ 2 ∷ 3 ∷ []) ∷ [])
    ≡ three 0 8192 2 ∷ three 1 0 0 ∷ []
unfolding step_numbers
numbers_full = refl

-- a line whose LF is byte 262,144 is read; one byte more is 1 before its other faults, and so is a last line without LF
bytes_full : map (λ at. step_numbers (line_of (state 1 at [] []) (bytes "n\t0\t1"))) (262138 ∷ 262139 ∷ [])
    ++ map (λ at. step_numbers (last_of (state 1 at [] []) (bytes "n\t0\t1"))) (262139 ∷ 262140 ∷ [])
    ≡ three 0 1 1 ∷ three 1 0 0 ∷ three 15 1 200 ∷ three 1 0 0 ∷ []
unfolding step_numbers split on_first nth line_of last_of taken list_line list_of written decimal_of is_decimal all_digits value_after unsigned_of
bytes_full = refl
