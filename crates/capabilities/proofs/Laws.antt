-- Where codes 9 and 10 pass for a target, they pass for the same sm at each later minor version. Assumes nothing.
use Prim.Native.Nat.{ℕ, ◌≤◌}
use native.Mathlib.Omega.{arith}
use mathlib.Core.Path.{◌≡◌, refl, ap}
use mathlib.Core.List.{List}
use Rattle.tables.specs.Answer.{each}
use Rattle.tables.specs.Tables.{Tables, opcode, operands, result_types, attributes}
use Rattle.std.specs.Prelude.{Ok, Option, Some, None, Result, Err, ⊤}
use Rattle.tables.specs.declared.Target.{Target}
use Rattle.requirements.specs.Feature.{requirement_of}
use Rattle.requirements.specs.Opcode.{opcode_feature}
use Rattle.requirements.specs.Target.{target_feature}
use Rattle.requirements.specs.declared.Unmet.{Unmet}
use Rattle.requirements.specs.declared.Unmet.TheVariants.{VersionLow, ArchitectureNot}
use Rattle.requirements.proofs.Laws.{met_later}
use Rattle.capabilities.specs.Ask.{ask, answered, operation_asks, capabilities}
use Rattle.capabilities.specs.Part.{attribute_asks, operand_asks, result_asks}
use Rattle.tables.proofs.Each.{both_accept, then_accepts, each_accepts}

answered_yes : (i f : ℕ) (m : Result ⊤ Unmet) → answered i f m ≡ Ok tt → m ≡ Ok tt
answered_yes i f (Ok tt) e = refl
answered_yes i f (Err VersionLow) e = absurd (let z : ◌≡◌ {A = ℕ} 0 1 = cc in omega arith)
answered_yes i f (Err ArchitectureNot) e = absurd (let z : ◌≡◌ {A = ℕ} 0 1 = cc in omega arith)

-- the same sm at another version
abbrev pub at_version : Target → ℕ → Target
at_version g version = record { version = version; sm = g.sm }

module _ (g : Target) (later : ℕ) (h : g.version ≤ later) where
  pub ask_later : (i : ℕ) (asked : Option ℕ) → ask g i asked ≡ Ok tt → ask (at_version g later) i asked ≡ Ok tt
  unfolding ask
  ask_later i None e = refl
  ask_later i (Some f) e =
      ap (answered i f) (met_later (requirement_of f) g.version later g.sm h (answered_yes i f _ e))

  pub operation_later : (x : Tables) (i : ℕ) → operation_asks g x i ≡ Ok tt → operation_asks (at_version g later) x i ≡ Ok tt
  unfolding operation_asks
  operation_later x i e =
      let p = both_accept (ask g i (opcode_feature (opcode x i))) _ e in
      let q = both_accept (each (attribute_asks g x i) (attributes x i)) _ p.1 in
      let r = both_accept (each (operand_asks g x i) (operands x i)) _ q.1 in
      then_accepts (ask_later i _ p.0)
      (then_accepts (each_accepts (attribute_asks g x i) (attribute_asks (at_version g later) x i) (λ k. ask_later i _) (attributes x i) q.0)
      (then_accepts (each_accepts (operand_asks g x i) (operand_asks (at_version g later) x i) (λ v. ask_later i _) (operands x i) r.0)
      (each_accepts (result_asks g x i) (result_asks (at_version g later) x i) (λ ty. ask_later i _) (result_types x i) r.1)))

  pub later_version : (x : Tables) (order : List ℕ) → capabilities g x order ≡ Ok tt → capabilities (at_version g later) x order ≡ Ok tt
  unfolding capabilities
  later_version x order e =
      let p = both_accept (ask g 0 (target_feature g.sm)) _ e in
      then_accepts (ask_later 0 _ p.0)
      (each_accepts (operation_asks g x) (operation_asks (at_version g later) x) (operation_later x) order p.1)
