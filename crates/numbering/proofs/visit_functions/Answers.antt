-- `visit_functions`: the functions in order, each on an empty stack and behind the numbers of the last. Assumes nothing.
use Prim.Native.Nat.{ℕ, ◌<◌, ◌≤◌}
use native.Mathlib.Omega.{arith}
use mathlib.Core.Path.{sym, ap, ◌∙◌}
use mathlib.Core.List.{List}
use lib.ListN.{length, get_or}
use Rattle.std.proofs.lemmas.Result.{err_from_is_err_and}
use Rattle.tables.specs.Tables.{Tables, lent, functions}
use Rattle.nesting.specs.Numbering.{Listing}
use Rattle.numbering.specs.Alone.{sizes, filled_by}
use Rattle.numbering_walk.specs.Walk.{function_numbered}
use Rattle.numbering_walk.proofs.Walks.{stops_is, fine_is, wrote_is, stands_is}
use Rattle.numbering.proofs.Sizes.{function_size}
use Rattle.numbering.proofs.Fill.{filling_stop, filling_more, filling_end, entries_are}
use Rattle.numbering.proofs.visit_functions.Goals as goal

pub returns-in_err-walked : goal.returns-in_err-walked
returns-in_err-walked c = λ t v a tells room.
    let y : Tables = lent t v c.args.x.now.o a c.args.x.now.b c.args.x.now.r c.args.x.now.f c.args.x.now.l c.args.x.now.counts in
    let lp = c.loop-i in
    let at = lp.invariant.1 t v a tells room in
    let h : lp.i < length (functions y) = omega (arith, c.loop-i-test.true, ap length c.loop-i.invariant.0) in
    let id = c.from-id.ensures ∙ ap (λ (xs : List ℕ). get_or xs lp.i 0) c.loop-i.invariant.0 in
    let p = err_from_is_err_and c.from_residual.result c.from_residual.ensures.1 in
    rw (p.1, p.2)
    (filling_stop at.2 h (ap (function_numbered c.args.sheet.now y) (sym id) ∙ stops_is (c.visit_function.ensures t v a c.args.x.now.f tells at.0 at.1) c.in_err-walked.was)
    ∙ entries_are c.args.sheet.now y)

pub loop-i-preserved : goal.loop-i-preserved
loop-i-preserved c = (
  c.loop-i.invariant.0,
  λ t v a tells room.
      let y : Tables = lent t v c.args.x.now.o a c.args.x.now.b c.args.x.now.r c.args.x.now.f c.args.x.now.l c.args.x.now.counts in
      let lp = c.loop-i in
      let at = lp.invariant.1 t v a tells room in
      let h : lp.i < length (functions y) = omega (arith, c.loop-i-test.true, ap length lp.invariant.0) in
      let id = c.from-id.ensures ∙ ap (λ (xs : List ℕ). get_or xs lp.i 0) lp.invariant.0 in
      let went = c.visit_function.ensures t v a c.args.x.now.f tells at.0 at.1 in
      let here = ap (function_numbered c.args.sheet.now y) (sym id) ∙ fine_is went c.in_ok-walked.was in (
        (stands_is went c.in_ok-walked.was).stack.dense_room,
        (stands_is went c.in_ok-walked.was).stack.sparse_room,
        filling_more at.2 room.all room.each h here (function_size y c.args.sheet.now _ went.list here) (wrote_is went c.in_ok-walked.was) c.saturating_sub.ensures c.put.ensures,
      ),
)

pub returns : goal.returns
returns c = λ t v a tells room.
    let y : Tables = lent t v c.args.x.now.o a c.args.x.now.b c.args.x.now.r c.args.x.now.f c.args.x.now.l c.args.x.now.counts in
    let h : length (functions y) ≤ c.loop-i.i = omega (arith, c.loop-i-test.false, ap length c.loop-i.invariant.0) in
    filling_end (c.loop-i.invariant.1 t v a tells room).2 room.all room.each h
    ∙ ap (λ (z : Listing ℕ). filled_by z (sizes y) c.args.numbers.now c.args.lengths.now) (entries_are c.args.sheet.now y)
