-- The dims of a tile that count, and those that are read off the tables.
use mathlib.Core.Path.{◌≡◌, refl, sym, ap, ◌∙◌}
use mathlib.Core.List.{List, [], ◌∷◌, ◌++◌, map}
use mathlib.Core.Logic.{⊎_elim}
use Prim.Native.Nat.{ℕ, zero, suc, ◌<◌, min}
use native.Mathlib.Omega.{arith}
use lib.IntN.{ℤ, pos}
use lib.ListN.{length, get_or, take, replicate, length-append, length-take, length-map, length-replicate, get_or-map}
use lib.Seq.{get_or-take, ext_get_or, take_all}
use Rattle.cells.proofs.Rows.{lt_or_ge}
use Rattle.arith.specs.Signed.{signed_of}
use Rattle.tiles.specs.Tile.{eight_of, dims_of, rank_of}
use Rattle.tiles.specs.declared.Tile.{Tile}

pub rank_is : (t : Tile) → length t.dims ≡ 8 → rank_of t ≡ min t.rank 8
unfolding rank_of dims_of
rank_is t e = simp (length-take, e)

-- as many as count, from the front
pub first_dims : (t : Tile) (n : ℕ) → n ≡ min t.rank (length t.dims) → take n t.dims ≡ dims_of t
unfolding dims_of
first_dims t n e = ⊎_elim
    (λ h. let q : n ≡ t.rank = omega arith in ap (λ (k : ℕ). take k t.dims) q)
    (λ h. take_all n t.dims (omega arith) ∙ sym (take_all t.rank t.dims h))
    (lt_or_ge t.rank (length t.dims))

zeros_at : (n k : ℕ) → get_or (replicate n (pos 0)) k (pos 0) ≡ pos 0
zeros_at zero k = refl
zeros_at (suc n) zero = refl
zeros_at (suc n) (suc k) = zeros_at n k

padded_at : (xs : List ℤ) (n k : ℕ) → get_or (xs ++ replicate n (pos 0)) k (pos 0) ≡ get_or xs k (pos 0)
padded_at [] n k = zeros_at n k
padded_at (x ∷ xs) n zero = refl
padded_at (x ∷ xs) n (suc k) = padded_at xs n k

pub signed_at : (bits : List ℕ) (k : ℕ) → get_or (map signed_of bits) k (pos 0) ≡ signed_of (get_or bits k 0)
unfolding signed_of
signed_at bits k = get_or-map signed_of bits k 0

-- eight numbers are those of the bits, with 0 after them
pub eight_is : (xs : List ℤ) (bits : List ℕ) → length xs ≡ 8 → ((k : ℕ) → k < 8 → get_or xs k (pos 0) ≡ signed_of (get_or bits k 0)) → xs ≡ eight_of bits
unfolding eight_of
eight_is xs bits l h =
    ext_get_or (pos 0) xs (eight_of bits)
    (l ∙ sym (simp (length-take, length-append, length-map, length-replicate) (omega arith)))
    (λ k p. h k (omega arith)
    ∙ sym (get_or-take 8 (map signed_of bits ++ replicate 8 (pos 0)) k (pos 0) (omega arith) ∙ padded_at (map signed_of bits) 8 k ∙ signed_at bits k))
