-- `good_sheet`: every part of the sheet in range. Assumes nothing.
use mathlib.Core.Path.{refl, ◌∙◌}
use Rattle.std.proofs.Common.{rules, tests}
use Rattle.std.proofs.lemmas.Iterator.{YieldsList-from_range}
use Rattle.std.proofs.lemmas.Iterator.Search.{all_from_yields_List}
use Rattle.ranges.specs.Range.{good_sheet}
use Rattle.ranges.specs.Part.{good_fixed, good_mode, good_kind}
use Rattle.ranges.proofs.Find.{all_from}
use Rattle.ranges.proofs.good_sheet.Goals as goal

pub returns : goal.returns
unfolding good_sheet
returns c =
    let s = c.args.sheet.now in
    let opcodes =
    all_from_yields_List (good_fixed s) _ _ c.all.result c.all.ensures.ran (YieldsList-from_range 0 105 105 refl refl)
    (λ x b q k. search (rules, tests)) ∙ all_from (good_fixed s) 0 105 in
    let modes =
    all_from_yields_List (good_mode s) _ _ c.all-2.result c.all-2.ensures.ran (YieldsList-from_range 0 16 16 refl refl)
    (λ x b q k. search (rules, tests)) ∙ all_from (good_mode s) 0 16 in
    let kinds =
    all_from_yields_List (good_kind s) _ _ c.all-3.result c.all-3.ensures.ran (YieldsList-from_range 0 16 16 refl refl)
    (λ x b q k. search (rules, tests)) ∙ all_from (good_kind s) 0 16 in
    rw (opcodes, modes, kinds, c.tile_flag.ensures)
