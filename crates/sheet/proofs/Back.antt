-- What a line stores is what the sheet's readers find (tables/specs/Sheet.antt), in any slice that is long enough.
use Prim.Native.Nat.{ℕ, ◌+◌, ◌*◌, ◌≤◌, ◌<◌}
use mathlib.Core.List.{List}
use mathlib.Core.Path.{◌≡◌, ◌∙◌}
use native.Mathlib.Omega.{arith}
use lib.ListN.{length, get_or, set, length-set}
use lib.Seq.{get_or-set_same, get_or-set_other}
use borrow.Author.Tests.{lt-ltb}
use Rattle.tables.specs.Sheet.{fixed_flag_in, fixed_count_in, mode_mask_in, contained_mask_in, byte_width_in, tile_flag_in}
use Rattle.std.specs.Prelude.{Some}
use Rattle.sheet.specs.Line.{row, stored}

module _ (s : List ℕ) (h : 320 ≤ length s) (k v : ℕ) where
  -- one cell to a key, from a first cell on
  cell_back : (at : ℕ) → k * 1 + at < length s → get_or (set s (k * 1 + at) v) (k * 1 + at) 0 ≡ v
  cell_back at q = get_or-set_same s (k * 1 + at) v 0 q

  pub mode_back : k < 16 → mode_mask_in (stored (row 3 k v) s) k ≡ v
  unfolding mode_mask_in stored
  mode_back q = rw (lt-ltb k 16 q) (cell_back 256 (omega arith))

  pub contained_back : k < 16 → contained_mask_in (stored (row 4 k v) s) k ≡ v
  unfolding contained_mask_in stored
  contained_back q = rw (lt-ltb k 16 q) (cell_back 272 (omega arith))

  pub bytes_back : k < 16 → byte_width_in (stored (row 5 k v) s) k ≡ v
  unfolding byte_width_in stored
  bytes_back q = rw (lt-ltb k 16 q) (cell_back 288 (omega arith))

  pub through_back : tile_flag_in (stored (row 6 k v) s) ≡ v
  unfolding tile_flag_in stored
  through_back = get_or-set_same s 304 v 0 (omega arith)

  -- the flag and the count stand beside each other
  pub count_back : k < 105 → fixed_count_in (stored (row 2 k v) s) k ≡ Some v
  unfolding fixed_count_in fixed_flag_in stored
  count_back q =
      let flag : get_or (set (set s (k * 2 + 0) 1) (k * 2 + 1) v) (k * 2 + 0) 0 ≡ 1 =
      get_or-set_other (set s (k * 2 + 0) 1) (k * 2 + 1) (k * 2 + 0) v 0 (λ e. omega arith)
      ∙ get_or-set_same s (k * 2 + 0) 1 0 (omega arith) in
      let count : get_or (set (set s (k * 2 + 0) 1) (k * 2 + 1) v) (k * 2 + 1) 0 ≡ v =
      get_or-set_same (set s (k * 2 + 0) 1) (k * 2 + 1) v 0 (simp length-set (omega arith)) in
      rw (lt-ltb k 105 q, flag, count)
