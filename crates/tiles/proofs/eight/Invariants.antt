-- `eight` meets its contract: each number before i stands in its place.
use mathlib.Core.Path.{◌≡◌}
use Prim.Native.Nat.{ℕ, ◌<◌}
use lib.IntN.{pos}
use lib.ListN.{length, get_or}
use Rattle.arith.specs.Signed.{signed_of}
use Rattle.tiles.proofs.eight.Given as goal

abbrev pub invariant-loop-i : goal.invariant-loop-i
invariant-loop-i l =
    (length l.dims ≡ 8) × ((k : ℕ) → k < l.i → get_or l.dims k (pos 0) ≡ signed_of (get_or l.bits k 0))
