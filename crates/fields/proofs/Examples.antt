-- The definitions at their edges, by computation.
use Rattle.std.specs.Prelude.{Option, Some, None}
use Prim.Native.Char.{code}
use Prim.Native.Nat.{ℕ, ◌-◌, ◌^◌}
use Prim.Native.String.{String, [] as []ˢ, ◌∷◌ as ◌∷ˢ◌}
use mathlib.Core.List.{List, [], ◌∷◌, ◌++◌, map}
use mathlib.Core.Path.{◌≡◌, refl}
use Rattle.fields.specs.Number.{all_digits, value_after, is_decimal, decimal_of, written, unsigned_of, signed_of}
use Rattle.fields.specs.Cut.{until, end_from, on_first, split, nth}

-- the bytes of a text of ASCII characters
abbrev bytes : String → List ℕ
bytes []ˢ = []
bytes (c ∷ˢ s) = code c ∷ bytes s

abbrev unsigneds : ℕ → List String → List (Option ℕ)
unsigneds max texts = map (λ (t : String). unsigned_of max (bytes t)) texts

abbrev signeds : ℕ → List String → List (Option ℕ)
signeds half texts = map (λ (t : String). signed_of half (bytes t)) texts

unsigned_64 : unsigneds (2 ^ 64 - 1) ("0" ∷ "10" ∷ "18446744073709551615" ∷ "18446744073709551616" ∷ []) ≡ Some 0 ∷ Some 10 ∷ Some (2 ^ 64 - 1) ∷ None ∷ []
unfolding unsigned_of written decimal_of is_decimal all_digits value_after
unsigned_64 = refl

unsigned_16 : unsigneds (2 ^ 16 - 1) ("65535" ∷ "65536" ∷ []) ≡ Some 65535 ∷ None ∷ []
unfolding unsigned_of written decimal_of is_decimal all_digits value_after
unsigned_16 = refl

-- no digit; a leading zero; a minus; a plus; a space
not_unsigned : unsigneds (2 ^ 64 - 1) ("" ∷ "00" ∷ "01" ∷ "-0" ∷ "-1" ∷ "+1" ∷ " 1" ∷ "1 " ∷ []) ≡ None ∷ None ∷ None ∷ None ∷ None ∷ None ∷ None ∷ None ∷ []
unfolding unsigned_of written decimal_of is_decimal all_digits value_after
not_unsigned = refl

-- a CR is an ordinary byte
carriage_return : unsigned_of (2 ^ 64 - 1) (bytes "100" ++ 13 ∷ []) ≡ None
unfolding unsigned_of written decimal_of is_decimal all_digits value_after
carriage_return = refl

signed_64 : signeds (2 ^ 63) ("0" ∷ "-1" ∷ "9223372036854775807" ∷ "9223372036854775808" ∷ "-9223372036854775808" ∷ "-9223372036854775809" ∷ [])
    ≡ Some 0 ∷ Some (2 ^ 64 - 1) ∷ Some (2 ^ 63 - 1) ∷ None ∷ Some (2 ^ 63) ∷ None ∷ []
unfolding signed_of written decimal_of is_decimal all_digits value_after
signed_64 = refl

signed_32 : signeds (2 ^ 31) ("2147483647" ∷ "2147483648" ∷ "-2147483648" ∷ "-2147483649" ∷ []) ≡ Some (2 ^ 31 - 1) ∷ None ∷ Some (2 ^ 64 - 2 ^ 31) ∷ None ∷ []
unfolding signed_of written decimal_of is_decimal all_digits value_after
signed_32 = refl

not_signed : signeds (2 ^ 63) ("" ∷ "-" ∷ "-0" ∷ "-01" ∷ "--1" ∷ "+1" ∷ []) ≡ None ∷ None ∷ None ∷ None ∷ None ∷ None ∷ []
unfolding signed_of written decimal_of is_decimal all_digits value_after
not_signed = refl

-- an empty range, and one that 64 bits do not tell apart
other_halves : signeds 0 ("0" ∷ []) ++ signeds (2 ^ 64 - 1) ("1" ∷ "-18446744073709551615" ∷ []) ≡ None ∷ Some 1 ∷ Some 1 ∷ []
unfolding signed_of written decimal_of is_decimal all_digits value_after
other_halves = refl

-- an empty part counts, at the end too
items : split 44 (bytes "0,,12,") ≡ bytes "0" ∷ [] ∷ bytes "12" ∷ [] ∷ []
unfolding split on_first
items = refl

one_part : split 44 [] ≡ [] ∷ []
unfolding split
one_part = refl

last_and_past : nth 1 (split 44 (bytes "7,8")) ++ nth 2 (split 44 (bytes "7,8")) ≡ bytes "8"
unfolding nth split on_first
last_and_past = refl

-- from a byte before the comma, from the comma, after it, and past the end
ends : map (λ (p : ℕ). end_from 44 p (bytes "7,8")) (0 ∷ 1 ∷ 2 ∷ 9 ∷ []) ≡ 1 ∷ 1 ∷ 3 ∷ 3 ∷ []
unfolding end_from until
ends = refl
