-- Numbers as the house text writes them. Paper: "decimal numbers without leading zeros; minus only before a nonzero number."
use Rattle.std.specs.Prelude.{ℕ, zero, suc, ◌+◌, ◌-◌, ◌*◌, ◌^◌, Bool, true, false, cond, not, ◌&&◌, List, [], ◌∷◌, ltb, leb, eqb, ℤ, pos, negsuc, Option, Some, None}

-- the digits 0 to 9 are the bytes 48 to 57
abbrev pub is_digit : ℕ → Bool
is_digit b = leb 48 b && leb b 57

unfoldable pub all_digits : List ℕ → Bool
all_digits [] = true
all_digits (b ∷ bs) = is_digit b && all_digits bs

-- the value of digits that stand after digits of the value x
unfoldable pub value_after : ℕ → List ℕ → ℕ
value_after x [] = x
value_after x (b ∷ bs) = value_after (x * 10 + (b - 48)) bs

-- "without leading zeros": one digit or more, and no 0 before another
unfoldable pub is_decimal : List ℕ → Bool
is_decimal [] = false
is_decimal (b ∷ []) = is_digit b
is_decimal (b ∷ c ∷ bs) = not (eqb b 48) && all_digits (b ∷ c ∷ bs)

-- the value of a decimal number, if it is one
unfoldable pub decimal_of : List ℕ → Option ℕ
decimal_of s = cond (is_decimal s) (Some (value_after 0 s)) None

abbrev pub plain : Option ℕ → Option ℤ
plain None = None
plain (Some n) = Some (pos n)

-- "minus only before a nonzero number"; `negsuc n` is -(n + 1)
abbrev pub minus : Option ℕ → Option ℤ
minus None = None
minus (Some zero) = None
minus (Some (suc n)) = Some (negsuc n)

-- the number that the bytes write, if they write one; the minus is the byte 45
unfoldable pub written : List ℕ → Option ℤ
written [] = None
written (b ∷ bs) = cond (eqb b 45) (minus (decimal_of bs)) (plain (decimal_of (b ∷ bs)))

-- a number from 0 to max
abbrev pub up_to : ℕ → Option ℤ → Option ℕ
up_to max None = None
up_to max (Some (pos n)) = cond (leb n max) (Some n) None
up_to max (Some (negsuc n)) = None

-- Paper: "unsigned: masks 16, ids and pointer attributes 32, divisors 64": max is 2^16 - 1, 2^32 - 1, 2^64 - 1
unfoldable pub unsigned_of : ℕ → List ℕ → Option ℕ
unsigned_of max s = up_to max (written s)

-- a number from -half to half - 1, as the 64 bits of its two's complement
abbrev pub within : ℕ → Option ℤ → Option ℕ
within half None = None
within half (Some (pos n)) = cond (ltb n half) (Some n) None
within half (Some (negsuc n)) = cond (ltb n half) (Some (2 ^ 64 - suc n)) None

-- Paper: "Signed 32 bits: permutations, sparse axes, dims of forms 4 to 6"; "signed 64: the rest": half is 2^31, 2^63.
-- At 0 the range is empty. Above 2^63 the range is that wide all the same, and numbers that are 2^64 apart have the same bits.
unfoldable pub signed_of : ℕ → List ℕ → Option ℕ
signed_of half s = within half (written s)
