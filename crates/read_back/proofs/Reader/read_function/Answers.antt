-- `Reader::read_function`: the first block of the first region, where there is one. Assumes nothing.
use native.Mathlib.Omega.{arith}
use mathlib.Core.Path.{refl}
use Rattle.read_back.proofs.Visits.{entry_none, entry_bare, entry_went}
use Rattle.read_back.proofs.Reader.read_function.Goals as goal

pub returns-in_default : goal.returns-in_default
returns-in_default c e =
    let a = c.args in
    entry_none a.self.now.numbers.now a.self.now.x.now a.id _ _ _ c.regions.ensures (rw c.in_default.is at c.first.ensures.item.3) (record { lives = e; reached = refl })

pub returns-in_default-first : goal.returns-in_default-first
returns-in_default-first c e =
    let a = c.args in
    let region = c.in-Some.ensures.item in
    entry_bare a.self.now.numbers.now a.self.now.x.now a.id _ _ _ c.regions.ensures region.3.0 c.in-Some.field-0.now (region.4 (omega arith) 0) c.blocks-2.ensures
    (rw c.in_default-first.is at c.first-2.ensures.item.3) (record { lives = e; reached = refl })

pub returns : goal.returns
returns c e =
    let a = c.args in
    let region = c.in-Some.ensures.item in
    let block = c.in-Some-first.ensures.item in
    entry_went a.self.now.numbers.now a.self.now.x.now a.id _ _ _ c.regions.ensures region.3.0 c.in-Some.field-0.now (region.4 (omega arith) 0) c.blocks-2.ensures
    block.3.0 c.in-Some-first.field-0.now (block.4 (omega arith) 0) (rw e at c.visit_block.ensures)
