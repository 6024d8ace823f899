-- What dominance and numbering mean, said of the stands alone.
use Rattle.std.specs.Prelude.{ℕ, ◌≡◌, Bool, true, false, List, [], ◌∷◌, ◌++◌, length}
use Rattle.std.proofs.Math.Option.{Option, some, none}
use Rattle.tables.specs.Tables.{Tables, operands}
use Rattle.tables.specs.declared.Place.{Place}
use Rattle.tables.specs.declared.Refusal.{Refusal}
use Rattle.tables.specs.declared.Refusal.TheVariants.{NotVisible}
use Rattle.nesting.specs.In.{In}
use Rattle.nesting.specs.Shape.{Visit}
use Rattle.nesting.specs.Numbering.{number}
use Rattle.nesting.specs.Sentence.{Stand, func, under, visible, stands}

abbrev pub operation_at : Stand → ℕ
operation_at (func f) = f
operation_at (under p j es i) = i

-- the operands that are asked at a stand; of a function operation none
abbrev pub asked : Tables → Stand → List ℕ
asked x (func f) = []
asked x (under p j es i) = operands x i

-- at every one of the stands every operand that is asked is visible
abbrev pub AllSeen : Tables → List Stand → Type 0
AllSeen x ps = (p : Stand) → In p ps → (v : ℕ) → In v (asked x p) → visible x p v ≡ true

-- r names the first operand, in walk order, that is not visible
pub record FirstHidden (x : Tables) (r : Refusal) : Type 0 where
  pub before : List Stand
  pub stand : Stand
  pub behind : List Stand
  pub stands_are : stands x ≡ before ++ (stand ∷ behind)
  pub seen_before : AllSeen x before
  pub left : List ℕ
  pub value : ℕ
  pub right : List ℕ
  pub operands_are : asked x stand ≡ left ++ (value ∷ right)
  pub seen_left : (v : ℕ) → In v left → visible x stand v ≡ true
  pub not_visible : visible x stand value ≡ false
  pub named : r ≡ NotVisible (operation_at stand) (length left)

abbrev pub given : Option ℕ → Bool
given none = false
given (some n) = true

-- at a visit of an entry walk: it is at one of the stands, and there a value has a number exactly when it is visible
pub record Numbered (x : Tables) (u : Visit Place) : Type 0 where
  pub stand : Stand
  pub reached : In stand (stands x)
  pub is_operation : operation_at stand ≡ u.op
  pub operands_are : asked x stand ≡ operands x u.op
  pub exactly : (v : ℕ) → visible x stand v ≡ given (number x v u.live)
