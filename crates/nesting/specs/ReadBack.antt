-- Reading numbers back: "Reading back uses nesting and counts only". "A list of the wrong length is 14 with 0, 0. Else the first number not
-- below the count live at its place is 14 with the operation and operand plus 1. Else three numbers per operand, for the place with its
-- number there".
use Rattle.std.specs.Prelude.{ℕ, suc, cond, List, [], ◌∷◌, map, length, get_or, eqb}
use Rattle.cells.specs.Lists.{below, flat}
use Rattle.tables.specs.Tables.{Tables, operands}
use Rattle.tables.specs.Place.{defining_place}
use Rattle.tables.specs.declared.Place.{Place}
use Rattle.tables.specs.declared.Refusal.TheVariants.{NotReadable}
use Rattle.nesting.specs.Shape.{Visit, entries_visits}
use Rattle.nesting.specs.Live.{Nesting, nesting_of, placed, nth}
use Rattle.nesting.specs.Numbering.{Listing, refused, collect, found}

-- an operand: its operation, its index there, and the places live where it is used
pub record Use : Type 0 where
  pub op : ℕ
  pub index : ℕ
  pub live : List Place

abbrev pub uses_at : (ℕ → ℕ) → Visit Place → List Use
uses_at count u = map (λ k. record { op = u.op; index = k; live = u.live }) (below (count u.op))

-- every operand of the entry walks, in walk order
unfoldable pub uses : Nesting → List Use
uses n = flat (uses_at n.operands) (entries_visits (placed n))

abbrev pub zip : {A B : Type 0} → List A → List B → List (A × B)
zip [] ys = []
zip (x ∷ xs) [] = []
zip (x ∷ xs) (y ∷ ys) = (x, y) ∷ zip xs ys

abbrev pub read : Use × ℕ → Listing Place
read p = found (nth p.0.live p.1) (NotReadable p.0.op (suc p.0.index))

unfoldable pub read_back : Nesting → List ℕ → Listing Place
read_back n numbers = cond (eqb (length numbers) (length (uses n))) (collect read (zip (uses n) numbers)) (refused (NotReadable 0 0))

-- the defining place of each operand of the entry walks, read off the tables alone
unfoldable pub operand_places : Tables → List Place
operand_places x = map (λ (u : Use). defining_place x (get_or (operands x u.op) u.index 0)) (uses (nesting_of x))
