-- The arm of the token operations.
use Rattle.std.specs.Prelude.{ℕ, Bool, false, not, ◌&&◌, ◌||◌, List, [], ◌∷◌, eqb, ltb, length, Ok}
use Rattle.tables.specs.Layout.{form_in, value_type_in}
use Rattle.tables.specs.Tables.{Tables, opcode, result_types, operands}
use Rattle.tables.specs.declared.Counts.{Counts}
use Rattle.lookups.specs.Verdict.{Verdict, fail_if}

-- "0 token (no kind, other columns mean nothing)"
unfoldable pub is_token : List ℕ → Counts → ℕ → Bool
is_token t n id = eqb (form_in t n id) 0

-- the types are one token: `[Type::Token]`
unfoldable pub is_one_token : List ℕ → Counts → List ℕ → Bool
is_one_token t n [] = false
is_one_token t n (id ∷ []) = is_token t n id
is_one_token t n (id ∷ id' ∷ ids) = false

-- some operand is no token
unfoldable pub some_typed : List ℕ → List ℕ → Counts → List ℕ → Bool
some_typed t v n [] = false
some_typed t v n (x ∷ xs) = not (is_token t n (value_type_in v n x)) || some_typed t v n xs

abbrev pub memory_fence_alias_tko : ℕ
memory_fence_alias_tko = 104

-- one token comes out, and none or one goes in; into the fence, one
unfoldable pub is_signature : List ℕ → List ℕ → Counts → ℕ → List ℕ → List ℕ → Bool
is_signature t v n op types vs =
    not (not (is_one_token t n types) || some_typed t v n vs || ltb 1 (length vs)
    || (eqb op memory_fence_alias_tko && not (eqb (length vs) 1)))

-- 101 GdcLaunchDependentsTko, 102 GdcWaitTko, 104 MemoryFenceAliasTko
unfoldable pub tokens : Tables → ℕ → Verdict
tokens x i =
    fail_if (not (is_signature x.t x.v x.counts (opcode x i) (result_types x i) (operands x i))) 1 (Ok tt)
