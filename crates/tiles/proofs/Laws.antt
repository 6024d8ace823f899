-- What a reader may rely on: how a tile that is read off the tables looks, and when two tiles are the same.
use mathlib.Core.Path.{◌≡◌, refl, sym, ap, ◌∙◌}
use mathlib.Core.Bool.{Bool, true, false, cond, ◌&&◌}
use mathlib.Core.List.{List, [], ◌∷◌, ◌++◌, map}
use Prim.Native.Nat.{ℕ, zero, suc, ◌≤◌, min}
use native.Mathlib.Omega.{arith}
use lib.Dec.{eqb, leb}
use lib.IntN.{ℤ, pos}
use lib.ListN.{length, get_or, take, drop, replicate, length-take, length-map}
use lib.Seq.{take-take, take-append-le}
use borrow.Author.Tests.{eq-eqb, eqb-true}
use Rattle.arith.specs.Signed.{signed_of}
use Rattle.tables.specs.Layout.{form_in, kind_in, dims_in}
use Rattle.tables.specs.declared.Counts.{Counts}
use Rattle.tiles.specs.Tile.{no_tile, eight_of, cells_of, row_tile, seen_in, tile_in, view_in, dims_of, rank_of, same_element}
use Rattle.tiles.specs.Shape.{eq_z, all_pairs, same_rank, same_shape, same_tile}
use Rattle.tiles.specs.declared.Tile.{Tile}
use Rattle.tiles.proofs.Equal.{eq_z_refl, eq_z_true}
use Rattle.tiles.proofs.Rows.{take_least, cells_at, dims_are}

-- ---- read off the tables

none_rank : no_tile.rank ≤ 8
unfolding no_tile
none_rank = omega arith

row_rank : (form : ℕ) (row : List ℕ) → (row_tile form row).rank ≤ 8
unfolding row_tile
row_rank form row = simp length-take (omega arith)

-- its rank is at most 8,
pub tile_rank : (t sheet : List ℕ) (n : Counts) (id : ℕ) → (tile_in t sheet n id).rank ≤ 8
unfolding tile_in
tile_rank t sheet n id = row_rank (get_or (seen_in t sheet n id) 0 0) (seen_in t sheet n id)

pub view_rank : (t : List ℕ) (n : Counts) (id : ℕ) → (view_in t n id).rank ≤ 8
unfolding view_in
view_rank t n id = either_rank (leb 4 (form_in t n id) && leb (form_in t n id) 6) (row_tile 1 (cells_of t n id)) (row_rank 1 (cells_of t n id))
  where
    either_rank : (b : Bool) (x : Tile) → x.rank ≤ 8 → (cond b x no_tile).rank ≤ 8
    either_rank true x h = h
    either_rank false x h = none_rank

-- its kind is that of the type,
pub row_kind : (form : ℕ) (t : List ℕ) (n : Counts) (id : ℕ) → (row_tile form (cells_of t n id)).kind ≡ kind_in t n id
unfolding row_tile kind_in
row_kind form t n id = cells_at t n id 1 (omega arith)

-- and its dims are those of the type.
take_map : (k : ℕ) (xs : List ℕ) → take k (map signed_of xs) ≡ map signed_of (take k xs)
take_map zero xs = refl
take_map (suc k) [] = refl
take_map (suc k) (x ∷ xs) = ap (◌∷◌ (signed_of x)) (take_map k xs)

pub row_dims : (form : ℕ) (t : List ℕ) (n : Counts) (id : ℕ) → dims_of (row_tile form (cells_of t n id)) ≡ map signed_of (dims_in t n id)
unfolding row_tile dims_of eight_of
row_dims form t n id =
    let all = drop 8 (cells_of t n id) in
    let m = min (get_or (cells_of t n id) 5 0) 8 in
    let r = length (take m all) in
    let e : r ≡ min m (length all) = length-take m all in
    let l : length (map signed_of all) ≡ length all = length-map all signed_of in
    take-take r 8 (map signed_of all ++ replicate 8 (pos 0)) (omega arith)
    ∙ take-append-le r (map signed_of all) (replicate 8 (pos 0)) (omega arith)
    ∙ take_map r all
    ∙ ap (map signed_of) (ap (λ (k : ℕ). take k all) e ∙ take_least m all ∙ dims_are t n id)

-- ---- the same tile: "equal in form, kind and dims"

and_left : (a b : Bool) → (a && b) ≡ true → a ≡ true
and_left true b e = refl
and_left false b e = e

and_right : (a b : Bool) → (a && b) ≡ true → b ≡ true
and_right true b e = e
and_right false b e = absurd (let z : ◌≡◌ {A = ℕ} 0 1 = cc in omega arith)

all_true : (xs ys : List ℤ) → length xs ≡ length ys → all_pairs eq_z xs ys ≡ true → xs ≡ ys
unfolding all_pairs
all_true [] [] l e = refl
all_true [] (y ∷ ys) l e = absurd (omega arith)
all_true (x ∷ xs) [] l e = absurd (omega arith)
all_true (x ∷ xs) (y ∷ ys) l e =
    let p = eq_z_true x y (and_left (eq_z x y) (all_pairs eq_z xs ys) e) in
    let q = all_true xs ys (omega arith) (and_right (eq_z x y) (all_pairs eq_z xs ys) e) in
    rw (p, q)

all_refl : (xs : List ℤ) → all_pairs eq_z xs xs ≡ true
unfolding all_pairs
all_refl [] = refl
all_refl (x ∷ xs) = rw (eq_z_refl x) (all_refl xs)

-- form, kind and dims, one by one
pub record Equal (a b : Tile) : Type 0 where
  pub forms : a.form ≡ b.form
  pub kinds : a.kind ≡ b.kind
  pub shapes : dims_of a ≡ dims_of b

pub same_only : (a b : Tile) → same_tile a b ≡ true → Equal a b
unfolding same_tile same_element same_shape same_rank rank_of
same_only a b e =
    let f = eqb a.form b.form in
    let k = eqb a.kind b.kind in
    let r = eqb (length (dims_of a)) (length (dims_of b)) in
    let p = all_pairs eq_z (dims_of a) (dims_of b) in
    let element = and_left (f && k) (r && p) e in
    let shape = and_right (f && k) (r && p) e in
    record {
      forms = eqb-true a.form b.form (and_left f k element);
      kinds = eqb-true a.kind b.kind (and_right f k element);
      shapes = all_true (dims_of a) (dims_of b) (eqb-true (length (dims_of a)) (length (dims_of b)) (and_left r p shape)) (and_right r p shape);
    }

pub same_is : (a b : Tile) → Equal a b → same_tile a b ≡ true
unfolding same_tile same_element same_shape same_rank rank_of
same_is a b e =
    rw (eq-eqb a.form b.form e.forms, eq-eqb a.kind b.kind e.kinds, ← e.shapes)
    (rw (eq-eqb (length (dims_of a)) (length (dims_of a)) refl) (all_refl (dims_of a)))

-- so it is an equivalence
pub same_refl : (a : Tile) → same_tile a a ≡ true
same_refl a = same_is a a (record { forms = refl; kinds = refl; shapes = refl })

pub same_sym : (a b : Tile) → same_tile a b ≡ true → same_tile b a ≡ true
same_sym a b e =
    let s = same_only a b e in
    same_is b a (record { forms = sym s.forms; kinds = sym s.kinds; shapes = sym s.shapes })

pub same_trans : (a b c : Tile) → same_tile a b ≡ true → same_tile b c ≡ true → same_tile a c ≡ true
same_trans a b c e f =
    let s = same_only a b e in
    let r = same_only b c f in
    same_is a c (record { forms = s.forms ∙ r.forms; kinds = s.kinds ∙ r.kinds; shapes = s.shapes ∙ r.shapes })
