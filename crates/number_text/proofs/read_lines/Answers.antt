-- `read_lines` meets its contract: the lines from the cursor on, after what the lent lists hold, give what the whole text gives.
use native.Mathlib.Omega.{arith}
use mathlib.Core.Path.{◌∙◌, ap}
use Rattle.std.proofs.lemmas.Result.{err_from_is_err_and}
use Rattle.fields.proofs.Parts.{end_ge}
use Rattle.number_text.specs.Text.{Step, ended}
use Rattle.number_text.proofs.Whole.{at_end, at_far, at_refused, at_read}
use Rattle.number_text.proofs.read_lines.Goals as goal

pub returns-then-text-e : goal.returns-then-text-e
returns-then-text-e c =
    let a = c.args in
    let l = c.loop-so_far in
    at_end l.line l.p _ l.so_far.functions l.so_far.count l.numbers l.lengths a.numbers.now a.lengths.now a.text.now (omega arith) c.find-e.ensures (omega arith) (omega arith) (omega arith) (omega arith) (omega arith) (omega arith) l.invariant.6 l.invariant.7 c.if-text-e.true _ c.last_line.ensures
    ∙ ap (λ (x : Step). ended x a.numbers.now a.lengths.now) l.invariant.8

pub returns-then-e-ge-MAX_BYTES : goal.returns-then-e-ge-MAX_BYTES
returns-then-e-ge-MAX_BYTES c =
    let a = c.args in
    let l = c.loop-so_far in
    at_far l.line l.p _ l.so_far.functions l.so_far.count l.numbers l.lengths a.numbers.now a.lengths.now a.text.now (omega arith) c.find-e.ensures (omega arith) (omega arith) (omega arith) (omega arith) (omega arith) (omega arith) l.invariant.6 l.invariant.7 c.if-text-e.false (omega arith)
    ∙ ap (λ (x : Step). ended x a.numbers.now a.lengths.now) l.invariant.8

pub returns-in_err-so_far : goal.returns-in_err-so_far
returns-in_err-so_far c =
    let a = c.args in
    let l = c.loop-so_far in
    let p = err_from_is_err_and c.from_residual.result c.from_residual.ensures.1 in
    rw (p.1, p.2)
    (at_refused l.line l.p _ l.so_far.functions l.so_far.count l.numbers l.lengths a.numbers.now a.lengths.now a.text.now (omega arith) c.find-e.ensures (omega arith) (omega arith) (omega arith) (omega arith) (omega arith) (omega arith) l.invariant.6 l.invariant.7 c.if-text-e.false (omega arith) _ c.between.ensures _ _ _ c.take_line.ensures _ c.in_err-so_far.was
    ∙ ap (λ (x : Step). ended x a.numbers.now a.lengths.now) l.invariant.8)

pub loop-so_far-smaller : goal.loop-so_far-smaller
loop-so_far-smaller c =
    omega (arith, end_ge 10 c.loop-so_far.p _ c.args.text.now (omega arith) c.find-e.ensures)

pub loop-so_far-preserved : goal.loop-so_far-preserved
loop-so_far-preserved c =
    let ge = end_ge 10 c.loop-so_far.p _ c.args.text.now (omega arith) c.find-e.ensures in
    let a = c.args in
    let l = c.loop-so_far in
    let z = at_read l.line l.p _ l.so_far.functions l.so_far.count l.numbers l.lengths a.numbers.now a.lengths.now a.text.now (omega arith) c.find-e.ensures (omega arith) (omega arith) (omega arith) (omega arith) (omega arith) (omega arith) l.invariant.6 l.invariant.7 c.if-text-e.false (omega arith) _ c.between.ensures _ _ _ c.take_line.ensures _ _ c.in_ok-so_far.was in
    (omega arith, omega arith, z.1, z.2, omega arith, omega arith, z.3, z.4, z.0 ∙ l.invariant.8)
