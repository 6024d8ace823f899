-- `store_value` meets its contract: each way through it is the definition's.
use Prim.Native.Nat.{◌*◌}
use mathlib.Core.Path.{sym, ◌∙◌, ap}
use lib.Seq.{sets}
use Rattle.std.specs.Prelude.{Option}
use Rattle.tables.specs.declared.Claim.{Claim}
use Rattle.stores.proofs.Stores.{not_stored, value_bad, value_full, value_taken, claimed}
use Rattle.stores.proofs.store_value.Goals as goal
use Rattle.stores.proofs.store_value.Goals.{in-Some, in-None}

pub returns-in_err-w : goal.returns-in_err-w
returns-in_err-w c =
    value_bad _ _ _ _ _ c.value_line.ensures _ c.in_err-w.was _ (not_stored c.from_residual.ensures.1)

pub returns-then-n-ge-MAX_VALUES : goal.returns-then-n-ge-MAX_VALUES
returns-then-n-ge-MAX_VALUES c =
    value_full _ _ _ _ _ c.value_line.ensures _ c.in_ok-w.was c.if-n-ge-MAX_VALUES.true

pub returns : goal.returns
returns c =
    value_taken _ _ _ _ _ c.value_line.ensures _ c.in_ok-w.was c.if-n-ge-MAX_VALUES.false _
    (c.put_row.ensures ∙ ap (sets c.args.v.now (c.args.n * 4))
    (elim c.match-w.branch [
      | in-Some w ↦ w.row-is ∙ sym (ap (λ (x : Option Claim). claimed x c.in_ok-w.w.type_id) w.in-Some.is)
      | in-None w ↦ w.row-is ∙ sym (ap (λ (x : Option Claim). claimed x c.in_ok-w.w.type_id) w.in-None.is)
    ]))
