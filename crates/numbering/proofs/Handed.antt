-- All of a list copied to the front of a lent one. Assumes nothing.
use Prim.Native.Nat.{ℕ, ◌≤◌}
use mathlib.Core.Path.{◌≡◌, ap}
use mathlib.Core.List.{List, ◌++◌}
use lib.ListN.{length, drop}
use lib.Seq.{take_all}
use Rattle.cells.specs.Cell.{copied}
use Rattle.numbering.specs.Alone.{over}

-- all of a list, where there is room
pub copied_is : (zs held : List ℕ) → length zs ≤ length held → copied zs held ≡ over zs held
copied_is zs held h = ap (λ (p : List ℕ). p ++ drop (length zs) held) (take_all (length held) zs h)
