-- `find` meets its contract: it is the library's search along the ids of the attributes.
use Rattle.std.proofs.Common.{rules, tests, refl}
use Prim.Native.Nat.{◌+◌}
use native.Mathlib.Omega.{arith}
use mathlib.Core.Path.{sym, ap, ◌∙◌}
use Rattle.std.proofs.lemmas.Iterator.{YieldsList-from_range}
use Rattle.std.proofs.lemmas.Iterator.Search.{find_from_yields_List}
use Rattle.cells.specs.Lists.{from, find as find_in}
use Rattle.cells.specs.declared.Span.{Span}
use Rattle.lookups.specs.Lookup.{is_entry, entered, entry_in}
use Rattle.lookups.proofs.Search.{same, along}
use Rattle.lookups.proofs.find.Goals as goal

pub returns : goal.returns
unfolding entry_in
returns c =
    let a = c.args in
    let x = a.x.now in
    let s = c.attributes-span.result in
    let p = is_entry x.a x.l x.counts a.name a.wanted in
    sym (same c.find.result)
    ∙ find_from_yields_List p c.find.new.self _ c.find.result c.find.ensures.ran (YieldsList-from_range s.start (s.start + s.len) s.len refl (omega arith)) (λ x b q k. search (rules, tests))
    ∙ along p s.start s.len
    ∙ ap (λ (r : Span). entered (find_in p (from r.start r.len))) c.attributes-span.ensures.rows
