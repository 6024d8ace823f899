-- The kinds of elements and their widths.
use Rattle.std.specs.Prelude.{ℕ, ◌*◌, min, Bool, cond, ◌||◌, List, eqb, leb}
use Rattle.tables.specs.Sheet.{byte_width_in}

-- "Kinds, 0 to 15: I1 I4 I8 I16 I32 I64 F16 BF16 F32 TF32 F64 F8E4M3FN F8E5M2 F8E8M0FNU F4E2M1FN F8E5M3FNU."
abbrev pub I1 : ℕ
I1 = 0

abbrev pub I4 : ℕ
I4 = 1

abbrev pub I8 : ℕ
I8 = 2

abbrev pub I16 : ℕ
I16 = 3

abbrev pub I32 : ℕ
I32 = 4

abbrev pub I64 : ℕ
I64 = 5

abbrev pub F16 : ℕ
F16 = 6

abbrev pub BF16 : ℕ
BF16 = 7

abbrev pub F32 : ℕ
F32 = 8

abbrev pub TF32 : ℕ
TF32 = 9

abbrev pub F64 : ℕ
F64 = 10

abbrev pub F8E4M3FN : ℕ
F8E4M3FN = 11

abbrev pub F8E5M2 : ℕ
F8E5M2 = 12

abbrev pub F8E8M0FNU : ℕ
F8E8M0FNU = 13

abbrev pub F4E2M1FN : ℕ
F4E2M1FN = 14

abbrev pub F8E5M3FNU : ℕ
F8E5M3FNU = 15

-- "0 to 5 are integers, the rest floats."
unfoldable pub is_integer : ℕ → Bool
is_integer kind = leb kind I64

-- The bits of an element: 1 of I1, 4 of I4 and F4E2M1FN, 8 times the sheet's width of any other. "Widths are 0 to 8 bytes": a sheet that
-- says more is refused before any rule, and its width counts as 8 here.
unfoldable pub bits_in : List ℕ → ℕ → ℕ
bits_in sheet kind =
    cond (eqb kind I1) 1 (cond (eqb kind I4 || eqb kind F4E2M1FN) 4 (8 * min (byte_width_in sheet kind) 8))
