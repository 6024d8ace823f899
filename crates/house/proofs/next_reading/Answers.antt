-- `next_reading` meets its contract: each kind of line is stored, and the reading after it is the definition's.
use native.Mathlib.Omega.{arith}
use Prim.Native.Nat.{ℕ, ◌+◌, ◌*◌, ◌%◌, ◌^◌}
use mathlib.Core.Path.{◌∙◌, ap}
use lib.ListN.{length, get_or, set}
use Rattle.std.specs.Prelude.{Ok, Err}
use Rattle.fields.specs.Cut.{split}
use Rattle.tables.specs.Tables.{lent}
use Rattle.house.specs.House.{no_counts}
use Rattle.house.specs.declared.Kind.TheVariants.{Header, «Type», Value, Operation, Attribute, Block, Region, Function}
use Rattle.house.proofs.Take.{took_header, took_type_lem, took_value_lem, took_operation_lem, took_attribute_lem, took_block_lem, took_region_lem, took_function_lem, judged_far, lines_small, attributes_small, near_kind, near_bad}
use Rattle.house.proofs.next_reading.Goals as goal

pub returns-then-too_far : goal.returns-then-too_far
returns-then-too_far c =
    let p = c.args in
    let s = p.s in
    let x = lent p.t.now p.v.now p.o.now p.a.now p.b.now p.r.now p.f.now p.l.now no_counts in
    let line = p.line.now in
    judged_far s x line _ c.too_far.ensures _ c.if-too_far.true c.refusing.ensures

pub returns-in-Err : goal.returns-in-Err
returns-in-Err c =
    let p = c.args in
    let s = p.s in
    let x = lent p.t.now p.v.now p.o.now p.a.now p.b.now p.r.now p.f.now p.l.now no_counts in
    let line = p.line.now in
    near_bad s x line _ c.too_far.ensures c.if-too_far.false (s.bytes + length line + 1) (omega arith) _ c.kind_of.ensures _ _ (c.in-Err.is ∙ ap Err c.in-Err.field-0-is) c.bad_line.ensures

pub returns-in-Ok-Header : goal.returns-in-Ok-Header
returns-in-Ok-Header c =
    let p = c.args in
    let s = p.s in
    let x = lent p.t.now p.v.now p.o.now p.a.now p.b.now p.r.now p.f.now p.l.now no_counts in
    let line = p.line.now in
    took_header s _ (s.bytes + length line + 1) x (split 9 line) (lines_small s x line _ c.too_far.ensures c.if-too_far.false) c.header_next.ensures
    ∙ near_kind s x line _ c.too_far.ensures c.if-too_far.false (s.bytes + length line + 1) (omega arith) _ c.kind_of.ensures Header (c.in-Ok-Header.is ∙ ap Ok c.in-Ok-Header.field-0-is)

pub returns-in-Ok-Type : goal.returns-in-Ok-Type
returns-in-Ok-Type c =
    let p = c.args in
    let s = p.s in
    let x = lent p.t.now p.v.now p.o.now p.a.now p.b.now p.r.now p.f.now p.l.now no_counts in
    let line = p.line.now in
    took_type_lem s _ (s.bytes + length line + 1) p.t.now p.v.now p.o.now p.a.now p.b.now p.r.now p.f.now p.l.now (split 9 line) (lines_small s x line _ c.too_far.ensures c.if-too_far.false) _ _ c.store_type-step.ensures c.advance.ensures
    ∙ near_kind s x line _ c.too_far.ensures c.if-too_far.false (s.bytes + length line + 1) (omega arith) _ c.kind_of.ensures «Type» (c.in-Ok-Type.is ∙ ap Ok c.in-Ok-Type.field-0-is)

pub returns-in-Ok-Value : goal.returns-in-Ok-Value
returns-in-Ok-Value c =
    let p = c.args in
    let s = p.s in
    let x = lent p.t.now p.v.now p.o.now p.a.now p.b.now p.r.now p.f.now p.l.now no_counts in
    let line = p.line.now in
    took_value_lem s _ (s.bytes + length line + 1) p.t.now p.v.now p.o.now p.a.now p.b.now p.r.now p.f.now p.l.now (split 9 line) (lines_small s x line _ c.too_far.ensures c.if-too_far.false) _ _ c.store_value-step.ensures c.advance-in-Ok-Value.ensures
    ∙ near_kind s x line _ c.too_far.ensures c.if-too_far.false (s.bytes + length line + 1) (omega arith) _ c.kind_of.ensures Value (c.in-Ok-Value.is ∙ ap Ok c.in-Ok-Value.field-0-is)

pub returns-in-Ok-Operation : goal.returns-in-Ok-Operation
returns-in-Ok-Operation c =
    let p = c.args in
    let s = p.s in
    let x = lent p.t.now p.v.now p.o.now p.a.now p.b.now p.r.now p.f.now p.l.now no_counts in
    let line = p.line.now in
    took_operation_lem s _ (s.bytes + length line + 1) p.t.now p.v.now p.o.now p.a.now p.b.now p.r.now p.f.now p.l.now (split 9 line) (lines_small s x line _ c.too_far.ensures c.if-too_far.false) (attributes_small s x line _ c.too_far.ensures c.if-too_far.false) _ _ _ c.store_operation-step.ensures c.advance-in-Ok-Operation.ensures
    ∙ near_kind s x line _ c.too_far.ensures c.if-too_far.false (s.bytes + length line + 1) (omega arith) _ c.kind_of.ensures Operation (c.in-Ok-Operation.is ∙ ap Ok c.in-Ok-Operation.field-0-is)

pub returns-in-Ok-Attribute : goal.returns-in-Ok-Attribute
returns-in-Ok-Attribute c =
    let p = c.args in
    let s = p.s in
    let x = lent p.t.now p.v.now p.o.now p.a.now p.b.now p.r.now p.f.now p.l.now no_counts in
    let line = p.line.now in
    took_attribute_lem s _ (s.bytes + length line + 1) p.t.now p.v.now p.o.now p.a.now p.b.now p.r.now p.f.now p.l.now (split 9 line) (lines_small s x line _ c.too_far.ensures c.if-too_far.false) _ _ _ _ (c.count_attribute.ensures ∙ ap (λ (i : ℕ). set p.o.now (i * 16 + 8) ((get_or p.o.now (i * 16 + 8) 0 + 1) % 2 ^ 32)) c.saturating_sub.ensures) c.store_attribute-step.ensures c.advance-in-Ok-Attribute.ensures
    ∙ near_kind s x line _ c.too_far.ensures c.if-too_far.false (s.bytes + length line + 1) (omega arith) _ c.kind_of.ensures Attribute (c.in-Ok-Attribute.is ∙ ap Ok c.in-Ok-Attribute.field-0-is)

pub returns-in-Ok-Block : goal.returns-in-Ok-Block
returns-in-Ok-Block c =
    let p = c.args in
    let s = p.s in
    let x = lent p.t.now p.v.now p.o.now p.a.now p.b.now p.r.now p.f.now p.l.now no_counts in
    let line = p.line.now in
    took_block_lem s _ (s.bytes + length line + 1) p.t.now p.v.now p.o.now p.a.now p.b.now p.r.now p.f.now p.l.now (split 9 line) (lines_small s x line _ c.too_far.ensures c.if-too_far.false) _ _ _ c.store_block-step.ensures c.advance-in-Ok-Block.ensures
    ∙ near_kind s x line _ c.too_far.ensures c.if-too_far.false (s.bytes + length line + 1) (omega arith) _ c.kind_of.ensures Block (c.in-Ok-Block.is ∙ ap Ok c.in-Ok-Block.field-0-is)

pub returns-in-Ok-Region : goal.returns-in-Ok-Region
returns-in-Ok-Region c =
    let p = c.args in
    let s = p.s in
    let x = lent p.t.now p.v.now p.o.now p.a.now p.b.now p.r.now p.f.now p.l.now no_counts in
    let line = p.line.now in
    took_region_lem s _ (s.bytes + length line + 1) p.t.now p.v.now p.o.now p.a.now p.b.now p.r.now p.f.now p.l.now (split 9 line) (lines_small s x line _ c.too_far.ensures c.if-too_far.false) _ _ _ c.store_region-step.ensures c.advance-in-Ok-Region.ensures
    ∙ near_kind s x line _ c.too_far.ensures c.if-too_far.false (s.bytes + length line + 1) (omega arith) _ c.kind_of.ensures Region (c.in-Ok-Region.is ∙ ap Ok c.in-Ok-Region.field-0-is)

pub returns-in-Ok-Function : goal.returns-in-Ok-Function
returns-in-Ok-Function c =
    let p = c.args in
    let s = p.s in
    let x = lent p.t.now p.v.now p.o.now p.a.now p.b.now p.r.now p.f.now p.l.now no_counts in
    let line = p.line.now in
    took_function_lem s _ (s.bytes + length line + 1) p.t.now p.v.now p.o.now p.a.now p.b.now p.r.now p.f.now p.l.now (split 9 line) (lines_small s x line _ c.too_far.ensures c.if-too_far.false) _ _ c.store_function-step.ensures c.advance-in-Ok-Function.ensures
    ∙ near_kind s x line _ c.too_far.ensures c.if-too_far.false (s.bytes + length line + 1) (omega arith) _ c.kind_of.ensures Function (c.in-Ok-Function.is ∙ ap Ok c.in-Ok-Function.field-0-is)
