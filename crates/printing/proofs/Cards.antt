-- Lines by computation: case M's numbers and places, a function without operands, and a refusal.
use mathlib.Core.Path.{◌≡◌, refl}
use mathlib.Core.List.{[], ◌∷◌}
use Rattle.names.specs.Names.{bytes}
use Rattle.printing.specs.Lines.{number_lines, place_lines, no_line, lines, line, parted, others, mark_at, decimal, decimal_in}

case_m : number_lines (0 ∷ 1 ∷ 2 ∷ 2 ∷ 0 ∷ 2 ∷ []) (6 ∷ []) ≡ bytes "ok\nn\t0\t0,1,2,2,0,2\n"
unfolding number_lines lines line parted others mark_at decimal decimal_in
case_m = refl

two_functions : number_lines (10 ∷ 4095 ∷ []) (0 ∷ 2 ∷ []) ≡ bytes "ok\nn\t0\t\nn\t1\t10,4095\n"
unfolding number_lines lines line parted others mark_at decimal decimal_in
two_functions = refl

places : place_lines (0 ∷ 0 ∷ 0 ∷ 1 ∷ 1 ∷ 0 ∷ []) (2 ∷ []) ≡ bytes "ok\np\t0\t0,0,0;1,1,0\n"
unfolding place_lines lines line parted others mark_at decimal decimal_in
places = refl

refusal : no_line (record { code = 15; id = 100; detail = 0 }) ≡ bytes "no\t15\t100\t0\n"
unfolding no_line decimal decimal_in
refusal = refl
