-- Small tables and sheets, and what code 1 says of them, by computation. Assumes nothing.
use Prim.Native.Nat.{ℕ, ◌-◌, ◌^◌}
use mathlib.Core.Path.{◌≡◌, refl}
use mathlib.Core.List.{List, [], ◌∷◌}
use lib.ListN.{replicate, set}
use Rattle.tables.specs.Layout.{functions_in, form_in, kind_in, pointer_in, padded_in, sparse_in, rank_in, dims_in}
use Rattle.tables.specs.Sheet.{fixed_flag_in, fixed_count_in, mode_mask_in, contained_mask_in, byte_width_in, tile_flag_in}
use Rattle.tables.specs.Tables.{Tables, lent}
use Rattle.std.specs.Prelude.{Ok, Err}
use Rattle.tables.specs.declared.Refusal.TheVariants.{OutOfRange}
use Rattle.ranges.specs.Entry.{good_type}
use Rattle.ranges.specs.Range.{first_bad, table_ranges, good_sheet, sheet_range}

-- tables of types and functions alone
abbrev two : List ℕ → ℕ → List ℕ → ℕ → Tables
two t types f functions =
    lent t [] [] [] [] [] f []
    (record { types = types; values = 0; operations = 0; attributes = 0; blocks = 0; regions = 0; functions = functions })

nothing : table_ranges (two [] 0 [] 0) ≡ Ok tt
unfolding table_ranges first_bad
nothing = refl

not_lent : table_ranges (two [] 3 [] 0) ≡ Err (OutOfRange 1 0)
unfolding table_ranges first_bad
not_lent = refl

no_operation : table_ranges (two [] 0 (0 ∷ []) 1) ≡ Err (OutOfRange 7 0)
unfolding table_ranges first_bad functions_in
no_operation = refl

-- "0 token (no kind, other columns mean nothing)"
token : table_ranges (two (0 ∷ replicate 15 99) 1 [] 0) ≡ Ok tt
unfolding table_ranges first_bad good_type form_in
token = refl

tile : ℕ → ℕ → ℕ → List ℕ
tile form sparse dim = form ∷ 4 ∷ 0 ∷ 0 ∷ sparse ∷ 1 ∷ 0 ∷ 0 ∷ dim ∷ replicate 7 0

-- dims are signed numbers of 32 bits from form 4 on
wide_dim : table_ranges (two (tile 3 (2 ^ 64 - 1) (2 ^ 31)) 1 [] 0) ≡ Ok tt
unfolding table_ranges first_bad good_type form_in kind_in pointer_in padded_in sparse_in rank_in dims_in tile
wide_dim = refl

too_wide_dim : table_ranges (two (tile 4 (2 ^ 64 - 1) (2 ^ 31)) 1 [] 0) ≡ Err (OutOfRange 1 0)
unfolding table_ranges first_bad good_type form_in kind_in pointer_in padded_in sparse_in rank_in dims_in tile
too_wide_dim = refl

least_sparse : table_ranges (two (tile 6 (2 ^ 64 - 2 ^ 31) 0) 1 [] 0) ≡ Ok tt
unfolding table_ranges first_bad good_type form_in kind_in pointer_in padded_in sparse_in rank_in dims_in tile
least_sparse = refl

empty_sheet : sheet_range (replicate 320 0) ≡ Ok tt
unfolding sheet_range good_sheet fixed_flag_in fixed_count_in mode_mask_in contained_mask_in byte_width_in tile_flag_in
empty_sheet = refl

nine_bytes : sheet_range (set (replicate 320 0) 303 9) ≡ Err (OutOfRange 8 0)
unfolding sheet_range good_sheet fixed_flag_in fixed_count_in mode_mask_in contained_mask_in byte_width_in tile_flag_in
nine_bytes = refl
