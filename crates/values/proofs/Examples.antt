-- Code 4 on the values of case M, by computation; and the cells of its declared results. Assumes nothing.
use Prim.Native.Nat.{ℕ}
use mathlib.Core.Path.{◌≡◌, refl}
use mathlib.Core.List.{List, [], ◌∷◌, ◌++◌}
use Rattle.tables.specs.Layout.{arguments_in, arguments_span_in, result_types_in, result_types_span_in, claim_in, claim_flag_in}
use Rattle.tables.specs.Tables.{Tables, lent, cut}
use Rattle.std.specs.Prelude.{Ok, Err}
use Rattle.tables.specs.declared.Refusal.TheVariants.{DefinedTwice}
use Rattle.values.specs.Claims.{bases_after, put_claim, claims_after}
use Rattle.values.specs.Guarded.{guarded_twice}
use Rattle.values.specs.Twice.{defined_twice, values_twice}

-- an operation's row, by how many results it declares
abbrev row : ℕ → List ℕ
row n = 0 ∷ 0 ∷ n ∷ 0 ∷ 0 ∷ 0 ∷ 0 ∷ 0 ∷ 0 ∷ 0 ∷ 0 ∷ 0 ∷ 0 ∷ 0 ∷ 0 ∷ 0 ∷ []

-- values 0 and a are the arguments of block 0, value 2 claims the result of operation 1, value 3 result k of operation i
abbrev module_m : ℕ → ℕ → ℕ → Tables
module_m a i k =
    cut
    (lent []
    (0 ∷ 0 ∷ 0 ∷ 0 ∷ 0 ∷ 0 ∷ 0 ∷ 0 ∷ 0 ∷ 1 ∷ 1 ∷ 0 ∷ 0 ∷ 1 ∷ i ∷ k ∷ [])
    (row 0 ++ row 1 ++ row 0 ++ row 1 ++ row 0)
    []
    (0 ∷ 2 ∷ 0 ∷ 0 ∷ 0 ∷ 0 ∷ 0 ∷ 0 ∷ [])
    []
    []
    (0 ∷ a ∷ [])
    (record { types = 1; values = 4; operations = 5; attributes = 0; blocks = 2; regions = 2; functions = 1 }))

fine : guarded_twice (module_m 1 3 0) ≡ Ok tt
unfolding values_twice defined_twice arguments_in arguments_span_in result_types_in result_types_span_in claim_in claim_flag_in
fine = refl

-- listed twice; listed and declared; claimed by a lower value; a claim of no declared result is none
listed_twice_lem : guarded_twice (module_m 0 3 0) ≡ Err (DefinedTwice 0)
unfolding values_twice defined_twice arguments_in arguments_span_in result_types_in result_types_span_in claim_in claim_flag_in
listed_twice_lem = refl

listed_and_declared : guarded_twice (module_m 2 3 0) ≡ Err (DefinedTwice 2)
unfolding values_twice defined_twice arguments_in arguments_span_in result_types_in result_types_span_in claim_in claim_flag_in
listed_and_declared = refl

claimed_before : guarded_twice (module_m 1 1 0) ≡ Err (DefinedTwice 3)
unfolding values_twice defined_twice arguments_in arguments_span_in result_types_in result_types_span_in claim_in claim_flag_in
claimed_before = refl

undeclared : guarded_twice (module_m 3 1 1) ≡ Ok tt
unfolding values_twice defined_twice arguments_in arguments_span_in result_types_in result_types_span_in claim_in claim_flag_in
undeclared = refl

-- operations 1 and 3 declare a result each: their cells are 0 and 1, and the lowest claim stays
bases : bases_after (module_m 1 3 0) (9 ∷ 9 ∷ 9 ∷ 9 ∷ 9 ∷ 9 ∷ []) ≡ 0 ∷ 0 ∷ 1 ∷ 1 ∷ 2 ∷ 9 ∷ []
unfolding result_types_in result_types_span_in
bases = refl

cells : claims_after (module_m 1 3 0) (0 ∷ 0 ∷ 1 ∷ 1 ∷ 2 ∷ []) (0 ∷ 0 ∷ 0 ∷ []) ≡ 3 ∷ 4 ∷ 0 ∷ []
unfolding put_claim result_types_in result_types_span_in claim_in claim_flag_in
cells = refl

cells_lowest : claims_after (module_m 1 1 0) (0 ∷ 0 ∷ 1 ∷ 1 ∷ 2 ∷ []) (0 ∷ 0 ∷ 0 ∷ []) ≡ 3 ∷ 0 ∷ 0 ∷ []
unfolding put_claim result_types_in result_types_span_in claim_in claim_flag_in
cells_lowest = refl
