-- `region_line` meets its contract: its one list.
use Prim.Native.Nat.{ℕ}
use mathlib.Core.List.{List}
use mathlib.Core.Path.{refl, ◌∙◌, ap}
use lib.Seq.{sets}
use Rattle.lines.specs.Field.{id32, list_of}
use Rattle.lines.specs.Into.{count_of, good_of}
use Rattle.lines.proofs.Several.{region_left}
use Rattle.lines.proofs.Walk.{first, there, here}
use Rattle.lines.proofs.region_line.Goals as goal

pub returns : goal.returns
returns c =
    let at1 = first c.new.ensures.line c.new.ensures.read in
    region_left _ _ _ _ _ (here at1 (λ p. count_of (list_of id32 p)) c.list.ensures.list)
    (c.list.ensures.written ∙ ap (λ (p : List ℕ). sets c.args.l.now c.args.at (good_of id32 p)) (there at1 refl))
