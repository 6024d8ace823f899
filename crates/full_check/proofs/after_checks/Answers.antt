-- `after_checks`: the parts in turn, then 13 and the lent lists. Assumes nothing.
use Rattle.std.proofs.Common.{rules, ◌≡◌}
use Prim.Native.Nat.{ℕ}
use native.Mathlib.Omega.{arith}
use mathlib.Core.Path.{sym, ap, ◌∙◌}
use mathlib.Core.List.{List}
use lib.ListN.{length-replicate}
use Rattle.std.specs.Prelude.{Err}
use Rattle.tables.specs.Answer.{and_then}
use Rattle.tables.specs.Sizes.{max_entries, max_functions}
use Rattle.capabilities.specs.Ask.{capabilities}
use Rattle.rules.specs.Operation.{rules as rules_of}
use Rattle.nesting.specs.Numbering.{numbering}
use Rattle.numbering.specs.Alone.{sizes, handed}
use Rattle.numbering.proofs.Passed.{sizes_long, list_handed}
use Rattle.full_check.proofs.Parts.{numbering_stops, numbering_goes, dominance_stops, numbers_stop, over_stops, all_pass}
use Rattle.full_check.proofs.after_checks.Goals as goal

pub returns-in_err-after_checks : goal.returns-in_err-after_checks
returns-in_err-after_checks c =
    λ e q claimed.
    let p = c.args in
    let x = p.x.now in
    let sheet = p.sheet.now in
    let rest = handed (numbering sheet x) (sizes x) p.numbers.now p.lengths.now in
    let r : c.from_residual.result ≡ Err c.in_err-after_checks.field-0.0 = search rules in
    rw r (dominance_stops p.g sheet x rest p.numbers.now p.lengths.now (sym (c.after_checks.ensures x.t x.v x.a e claimed) ∙ c.in_err-after_checks.was))

pub returns-in_err-count : goal.returns-in_err-count
returns-in_err-count c =
    λ e q claimed.
    let p = c.args in
    let x = p.x.now in
    let sheet = p.sheet.now in
    let rest = handed (numbering sheet x) (sizes x) p.numbers.now p.lengths.now in
    let r : c.from_residual-in_err-count.result ≡ Err c.in_err-count.field-0.0 = search rules in
    let d = sym (c.after_checks.ensures x.t x.v x.a e claimed) ∙ c.in_ok-after_checks.was in
    let filled = c.after_checks-2.ensures x.t x.v x.a e claimed (omega (arith, length-replicate {A = ℕ} max_entries 0)) (omega (arith, length-replicate {A = ℕ} max_functions 0)) in
    rw r (numbers_stop p.g sheet x rest p.numbers.now p.lengths.now d (numbering_stops (sizes x) _ _ _ _ (numbering sheet x) filled c.in_err-count.was))

pub returns-in_err-over_operations : goal.returns-in_err-over_operations
returns-in_err-over_operations c =
    λ e q claimed.
    let p = c.args in
    let x = p.x.now in
    let sheet = p.sheet.now in
    let rest = handed (numbering sheet x) (sizes x) p.numbers.now p.lengths.now in
    let r : c.from_residual-in_err-over_operations.result ≡ Err c.in_err-over_operations.field-0.0 = search rules in
    let d = sym (c.after_checks.ensures x.t x.v x.a e claimed) ∙ c.in_ok-after_checks.was in
    let filled = c.after_checks-2.ensures x.t x.v x.a e claimed (omega (arith, length-replicate {A = ℕ} max_entries 0)) (omega (arith, length-replicate {A = ℕ} max_functions 0)) in
    let m = numbering_goes (sizes x) _ _ _ _ (numbering sheet x) filled c.in_ok-count.was in
    let o = ap (λ (is : List ℕ). and_then (capabilities p.g x is) (rules_of p.g.version sheet x is)) (sym q) ∙ sym c.over_operations.ensures ∙ c.in_err-over_operations.was in
    rw r (over_stops p.g sheet x rest p.numbers.now p.lengths.now d m o)

pub returns : goal.returns
returns c =
    λ e q claimed.
    let p = c.args in
    let x = p.x.now in
    let sheet = p.sheet.now in
    let rest = handed (numbering sheet x) (sizes x) p.numbers.now p.lengths.now in
    let d = sym (c.after_checks.ensures x.t x.v x.a e claimed) ∙ c.in_ok-after_checks.was in
    let filled = c.after_checks-2.ensures x.t x.v x.a e claimed (omega (arith, length-replicate {A = ℕ} max_entries 0)) (omega (arith, length-replicate {A = ℕ} max_functions 0)) in
    let m = numbering_goes (sizes x) _ _ _ _ (numbering sheet x) filled c.in_ok-count.was in
    let o = ap (λ (is : List ℕ). and_then (capabilities p.g x is) (rules_of p.g.version sheet x is)) (sym q) ∙ sym c.over_operations.ensures ∙ c.in_ok-over_operations.was in
    list_handed (numbering sheet x) (sizes x) _ _ _ _ p.numbers.now p.lengths.now filled c.in_ok-count.was (sizes_long x e) (rw c.counts.ensures at c.hand_over.ensures)
    ∙ all_pass p.g sheet x rest p.numbers.now p.lengths.now d m o
