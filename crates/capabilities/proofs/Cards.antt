-- Card 9: sm_90 under 13.2 lacks what the target asks for itself, and under 13.3 passes that step, whatever the tables are. Assumes nothing.
use Prim.Native.Nat.{ℕ}
use mathlib.Core.Path.{◌≡◌, refl}
use mathlib.Core.List.{List}
use Rattle.tables.specs.Answer.{each, numbers_of, three}
use Rattle.tables.specs.Tables.{Tables}
use Rattle.std.specs.Prelude.{Err}
use Rattle.tables.specs.declared.Refusal.TheVariants.{VersionLow}
use Rattle.tables.specs.declared.Target.{Target}
use Rattle.requirements.specs.Feature.{features, requirement_of}
use Rattle.requirements.specs.Met.{met_by}
use Rattle.requirements.specs.Target.{targets, target_feature}
use Rattle.capabilities.specs.Ask.{ask, operation_asks, capabilities}

-- a target: its minor version and its sm
abbrev target : ℕ → ℕ → Target
target version sm = record { version = version; sm = sm }

pub under_13_2 : (x : Tables) (order : List ℕ) → capabilities (target 2 90) x order ≡ Err (VersionLow 0 32)
unfolding capabilities ask target_feature targets requirement_of features met_by
under_13_2 x order = refl

pub under_13_3 : (x : Tables) (order : List ℕ) → capabilities (target 3 90) x order ≡ each (operation_asks (target 3 90) x) order
unfolding capabilities ask target_feature targets requirement_of features met_by
under_13_3 x order = refl

pub its_numbers : numbers_of (VersionLow 0 32) ≡ three 9 0 32
its_numbers = refl
