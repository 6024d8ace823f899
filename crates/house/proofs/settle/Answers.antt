-- `settle` meets its contract.
use Rattle.tables.specs.Tables.{lent}
use Rattle.house.specs.House.{no_counts}
use Rattle.house.proofs.Take.{settle_kept, settle_refused}
use Rattle.house.proofs.settle.Goals as goal

pub returns-in-Ok : goal.returns-in-Ok
returns-in-Ok c =
    let p = c.args in
    settle_kept p.s (lent p.t.now p.v.now p.o.now p.a.now p.b.now p.r.now p.f.now p.l.now no_counts) c.in-Ok.is

pub returns-in-Err : goal.returns-in-Err
returns-in-Err c =
    let p = c.args in
    settle_refused p.s (lent p.t.now p.v.now p.o.now p.a.now p.b.now p.r.now p.f.now p.l.now no_counts) _ _ c.in-Err.is c.refusing.ensures _ _ _ _ _ _ _ _ c.clear.ensures c.clear-in-Err.ensures c.clear-in-Err-2.ensures c.clear-in-Err-3.ensures c.clear-in-Err-4.ensures c.clear-in-Err-5.ensures c.clear-in-Err-6.ensures c.clear-in-Err-7.ensures
