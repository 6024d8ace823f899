-- The cells of a type as a part of the table: what is read there is what the columns hold.
use mathlib.Core.Path.{◌≡◌, refl, sym, ap, ◌∙◌}
use mathlib.Core.Bool.{Bool, true, false, cond, ◌&&◌, ◌||◌}
use mathlib.Core.List.{List, [], ◌∷◌}
use mathlib.Core.Logic.{⊎_elim}
use Prim.Native.Nat.{ℕ, zero, suc, ◌+◌, ◌*◌, ◌<◌, min}
use native.Mathlib.Omega.{arith}
use native.Mathlib.Nat.{add-zero, add-suc}
use borrow.Author.Tests.{eqb-true}
use lib.Dec.{eqb, ltb}
use lib.ListN.{length, get_or, take, drop}
use lib.Seq.{get_or-take, get_or-drop, take-take, drop-drop, take_all}
use Rattle.cells.proofs.Rows.{lt_or_ge}
use Rattle.tables.specs.Layout.{counted_cell, form_in, pointer_in, rank_in, dims_in}
use Rattle.tables.specs.Sheet.{tile_through_in}
use Rattle.tables.specs.declared.Counts.{Counts}
use Rattle.tiles.specs.Tile.{no_tile, eight_of, cells_of, row_tile, seen_in}

take_none : (b : ℕ) → ◌≡◌ {A = List ℕ} (take b []) []
take_none zero = refl
take_none (suc b) = refl

drop_take : (a b : ℕ) (xs : List ℕ) → drop a (take (b + a) xs) ≡ take b (drop a xs)
drop_take zero b xs = ap (λ (k : ℕ). take k xs) (add-zero b)
drop_take (suc a) b [] = rw (add-suc b a) (sym (take_none b))
drop_take (suc a) b (x ∷ xs) = rw (add-suc b a) (drop_take a b xs)

-- as many as there are
pub take_least : (m : ℕ) (xs : List ℕ) → take (min m (length xs)) xs ≡ take m xs
take_least m xs = ⊎_elim
    (λ h. let q : min m (length xs) ≡ m = omega arith in ap (λ (k : ℕ). take k xs) q)
    (λ h. take_all (min m (length xs)) xs (omega arith) ∙ sym (take_all m xs h))
    (lt_or_ge m (length xs))

module _ (t : List ℕ) (n : Counts) (id : ℕ) where
  pub cells_at : (j : ℕ) → j < 16 → get_or (cells_of t n id) j 0 ≡ counted_cell n.types 16 t id j
  unfolding cells_of
  cells_at j h = by_test (ltb id n.types)
    where
      by_test : (b : Bool) → get_or (take (cond b 16 0) (drop (id * 16) t)) j 0 ≡ cond b (get_or t (id * 16 + j) 0) 0
      by_test true = get_or-take 16 (drop (id * 16) t) j 0 h ∙ get_or-drop (id * 16) t j 0
      by_test false = refl

  pub form_at : get_or (cells_of t n id) 0 0 ≡ form_in t n id
  unfolding form_in
  form_at = cells_at 0 (omega arith)

  pub dims_are : take (min (get_or (cells_of t n id) 5 0) 8) (drop 8 (cells_of t n id)) ≡ dims_in t n id
  unfolding dims_in rank_in cells_of
  dims_are = by_test (ltb id n.types)
    where
      by_test : (b : Bool) →
          let row = take (cond b 16 0) (drop (id * 16) t) in
          take (min (get_or row 5 0) 8) (drop 8 row) ≡ take (min (cond b (get_or t (id * 16 + 5) 0) 0) 8) (drop (id * 16 + 8) t)
      by_test true =
          let m = min (get_or t (id * 16 + 5) 0) 8 in
          let rank : get_or (take 16 (drop (id * 16) t)) 5 0 ≡ get_or t (id * 16 + 5) 0 = get_or-take 16 (drop (id * 16) t) 5 0 (omega arith) ∙ get_or-drop (id * 16) t 5 0 in
          rw rank (ap (take m) (drop_take 8 8 (drop (id * 16) t)) ∙ take-take m 8 (drop 8 (drop (id * 16) t)) (omega arith) ∙ ap (take m) (drop-drop 8 (id * 16) t))
      by_test false = refl

-- no cells, no tile
pub no_row : row_tile 0 [] ≡ no_tile
unfolding row_tile eight_of no_tile
no_row = refl

-- a token's pointer attribute is not asked: it is no tile
seen_same : (f p : ℕ) (s : Bool) → ((eqb f 1 || eqb f 2) && (eqb (cond (eqb f 0) 0 p) 0 || s)) ≡ ((eqb f 1 || eqb f 2) && (eqb p 0 || s))
seen_same f p s = by_test (eqb f 0) refl
  where
    by_test : (b : Bool) → eqb f 0 ≡ b → ((eqb f 1 || eqb f 2) && (eqb (cond b 0 p) 0 || s)) ≡ ((eqb f 1 || eqb f 2) && (eqb p 0 || s))
    by_test true e = rw (eqb-true f 0 e)
    by_test false e = refl

-- whether a type is seen as a tile, by its cells
module _ (t sheet : List ℕ) (n : Counts) (id : ℕ) where
  abbrev pub sees : Bool
  sees =
      let row = cells_of t n id in
      (eqb (get_or row 0 0) 1 || eqb (get_or row 0 0) 2) && (eqb (get_or row 2 0) 0 || tile_through_in sheet)

  pub seen_by : seen_in t sheet n id ≡ cond sees (cells_of t n id) []
  unfolding seen_in form_in pointer_in
  seen_by =
      rw (cells_at t n id 0 (omega arith), cells_at t n id 2 (omega arith))
      (ap (λ (b : Bool). cond b (cells_of t n id) []) (seen_same (counted_cell n.types 16 t id 0) (counted_cell n.types 16 t id 2) (tile_through_in sheet)))
