-- `find` meets its contract: bytes that were passed are not the one, so the end is the same from the place after them.
use Prim.Native.Nat.{◌+◌}
use mathlib.Core.Path.{refl, sym, ◌∙◌}
use native.Mathlib.Omega.{arith}
use Rattle.fields.proofs.Parts.{until_here, until_next, until_two, until_three, until_four, until_end}
use Rattle.fields.proofs.find.Goals as goal

pub returns-then-n-i : goal.returns-then-n-i
returns-then-n-i c =
    sym (until_end _ _ _ (omega arith))

pub returns-then-s-i : goal.returns-then-s-i
returns-then-s-i c =
    let l = c.loop-i in
    sym (until_here _ l.i _ (omega arith) c.if-s-i.true) ∙ l.invariant.2

pub returns-then-s-i-2 : goal.returns-then-s-i-2
returns-then-s-i-2 c =
    let a = c.args in
    let l = c.loop-i in
    sym (until_here a.byte (l.i + 1) a.s.now (omega arith) c.if-s-i-2.true) ∙ until_next a.byte l.i a.s.now (omega arith) c.if-s-i.false ∙ l.invariant.2

pub returns-then-s-i-3 : goal.returns-then-s-i-3
returns-then-s-i-3 c =
    let a = c.args in
    let l = c.loop-i in
    sym (until_here a.byte (l.i + 2) a.s.now (omega arith) c.if-s-i-3.true)
    ∙ until_two a.byte l.i a.s.now (omega arith) c.if-s-i.false c.if-s-i-2.false ∙ l.invariant.2

pub returns-then-s-i-4 : goal.returns-then-s-i-4
returns-then-s-i-4 c =
    let a = c.args in
    let l = c.loop-i in
    sym (until_here a.byte (l.i + 3) a.s.now (omega arith) c.if-s-i-4.true)
    ∙ until_three a.byte l.i a.s.now (omega arith) c.if-s-i.false c.if-s-i-2.false (omega arith) c.if-s-i-3.false ∙ l.invariant.2

pub loop-i-preserved : goal.loop-i-preserved
loop-i-preserved c =
    let a = c.args in
    let l = c.loop-i in (
      refl,
      omega arith,
      until_four a.byte l.i a.s.now (omega arith) c.if-s-i.false c.if-s-i-2.false (omega arith) c.if-s-i-3.false (omega arith) c.if-s-i-4.false ∙ l.invariant.2,
    )
