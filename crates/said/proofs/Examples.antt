-- A small text: its lines by kind, and the `A` lines after each `O` line, by computation.
use mathlib.Core.Path.{◌≡◌, refl}
use mathlib.Core.List.{List, [], ◌∷◌}
use Prim.Native.Nat.{ℕ}
use Rattle.names.specs.Names.{bytes}
use Rattle.fields.specs.Cut.{split, nth, on_first}
use Rattle.said.specs.Said.{cut_lines, with_tag, lines_in, lines_with, attributes_first, attributes_after}

-- two operations, the first with two attributes, and a region; the last line has no LF and is none
small : List ℕ
small = bytes "tile\t1\t4\t100\nO\t3\t\t0,1\t\nA\tn\ti\t5\nA\tm\tx\t\nO\t22\t\t\t0\nR\t\nR\t0"

operations : lines_with "O" small
    ≡ (bytes "O" ∷ bytes "3" ∷ [] ∷ bytes "0,1" ∷ [] ∷ []) ∷ (bytes "O" ∷ bytes "22" ∷ [] ∷ [] ∷ bytes "0" ∷ []) ∷ []
unfolding small split on_first nth cut_lines with_tag
operations = refl

regions : lines_with "R" small ≡ (bytes "R" ∷ [] ∷ []) ∷ []
unfolding small split on_first nth cut_lines with_tag
regions = refl

no_types : lines_with "T" small ≡ []
unfolding small split on_first nth cut_lines with_tag
no_types = refl

after_each : attributes_after (lines_in small)
    ≡ ((bytes "A" ∷ bytes "n" ∷ bytes "i" ∷ bytes "5" ∷ []) ∷ (bytes "A" ∷ bytes "m" ∷ bytes "x" ∷ [] ∷ []) ∷ []) ∷ [] ∷ []
unfolding small split on_first nth cut_lines attributes_first attributes_after
after_each = refl
