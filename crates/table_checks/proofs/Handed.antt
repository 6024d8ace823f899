-- What a caller has of what the checks hand on: where nothing is refused, the list's first entries are the walk order, and the cells tell
-- the value of each declared result. Assumes nothing.
use Prim.Native.Nat.{ℕ, ◌+◌, ◌≤◌, ◌<◌}
use native.Mathlib.Omega.{arith}
use mathlib.Core.Path.{◌≡◌, sym, ap, ◌∙◌}
use mathlib.Core.List.{List, ◌++◌}
use lib.ListN.{length, get_or, replicate, take, drop, length-replicate, get_or-replicate}
use lib.Seq.{take-append_seam}
use Rattle.tables.specs.Sizes.{max_operations, max_entries}
use Rattle.tables.specs.Tables.{Tables, result_types}
use Rattle.tables.specs.Value.{value_of}
use Rattle.tables.specs.Answer.{Answer}
use Rattle.std.specs.Prelude.{Result, Ok, Err}
use Rattle.tables.specs.declared.Refusal.{Refusal}
use Rattle.walk.specs.Order.{order}
use Rattle.walk.specs.Written.{Filled, filled, walked}
use Rattle.walk.proofs.Laws.{written_whole}
use Rattle.values.specs.Claims.{number_of, Filled as Claims}
use Rattle.values.proofs.Laws.{value_at_lem}
use Rattle.table_checks.specs.Checks.{table_checks}
use Rattle.table_checks.specs.Checked.{answer_of, wrote, Settles}
use Rattle.table_checks.proofs.Bare.{few_results}
use Rattle.table_checks.proofs.Laws.{passes_1}
use Rattle.table_checks.proofs.Reach.{order_fits}

pub refused_is : {after before xs : List ℕ} {a : Answer} (w : Result ℕ Refusal) (why : Refusal) → w ≡ Err why → Settles w after before a xs → a ≡ Err why
refused_is w why e h = sym h.answer ∙ ap answer_of e

pub fine_is : {after before xs : List ℕ} {a : Answer} (w : Result ℕ Refusal) (m : ℕ) → w ≡ Ok m → Settles w after before a xs → a ≡ Ok tt
fine_is w m e h = sym h.answer ∙ ap answer_of e

module _ (x : Tables) {after before : List ℕ} (w : Result ℕ Refusal) (m : ℕ) (e : w ≡ Ok m) (h : Settles w after before (table_checks x) (order x)) where
  pub order_is : max_operations ≤ length before → take m after ≡ order x
  order_is room =
      let passed : table_checks x ≡ (Ok tt) = fine_is w m e h in
      let few : length (order x) ≤ length before = omega (arith, order_fits x passed, (passes_1 x passed).operations_fit) in
      let f : filled after m ≡ filled (order x ++ drop (length (order x)) before) (length (order x)) =
      ap (λ (v : Result ℕ Refusal). filled after (wrote v)) (sym e) ∙ h.list
      ∙ ap (λ (a : Answer). walked a before (order x)) passed ∙ written_whole before (order x) few in
      let held : after ≡ order x ++ drop (length (order x)) before = ap (λ (p : Filled). p.held) f in
      let used : m ≡ length (order x) = ap (λ (p : Filled). p.used) f in
      rw (used, held) (take-append_seam (order x) (drop (length (order x)) before))

module _ (x : Tables) (passed : table_checks x ≡ Ok tt) (bases cells : List ℕ) (h : Claims x bases cells) where
  pub claims_tell : (i k : ℕ) → k < length (result_types x i) → get_or cells (get_or bases i 0 + k) 0 ≡ number_of (value_of x i k)
  claims_tell i k l =
      let few = few_results x (passes_1 x passed) in
      rw (h.1, h.0)
      (value_at_lem x (replicate max_operations 0) (replicate max_entries 0) few
      (omega (arith, length-replicate {A = ℕ} max_operations 0, (passes_1 x passed).operations_fit))
      (omega (arith, length-replicate {A = ℕ} max_entries 0, few))
      (λ j g. get_or-replicate max_entries j 0 0 (omega (arith, few))) i k l)
