-- An arm of the operation rules: one line for each `fail` of the Rust arm, in its order, with its condition and its place.
-- "Reason is the place of the `fail` in its arm, counted from 1 in source order".
use Rattle.std.specs.Prelude.{ℕ, Bool, true, false, Result, Ok, Err, ⊤}
use Rattle.lookups.specs.declared.Fault.{Fault}
use Rattle.lookups.specs.declared.Fault.TheVariants.{Broken, Leaves}

-- all kept, or the first fault
abbrev pub Verdict : Type 0
Verdict = Result ⊤ Fault

unfoldable pub fail_if : Bool → ℕ → Verdict → Verdict
fail_if true reason rest = Err (Broken reason)
fail_if false reason rest = rest

-- a product outside i64: "a partial product outside i64 is code 12"
unfoldable pub leave_if : Bool → Verdict → Verdict
leave_if true rest = Err Leaves
leave_if false rest = rest

-- the first of two that does not hold
abbrev pub or_else : Verdict → Verdict → Verdict
or_else (Ok _) rest = rest
or_else (Err fault) rest = Err fault
