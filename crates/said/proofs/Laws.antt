-- The tables hold what the lines say: of a text that reads, every accessor of entry i is what line i of its kind says, and there are as many
-- entries as lines. Assumes nothing.
use Prim.Native.Nat.{ℕ, ◌+◌, ◌-◌, ◌≤◌, ◌<◌, min}
use mathlib.Core.Path.{◌≡◌, ◌∙◌, ap, subst}
use mathlib.Core.List.{List, [], map}
use native.Mathlib.Omega.{arith}
use lib.ListN.{get_or}
use Rattle.cells.specs.Lists.{from}
use Rattle.cells.specs.declared.Span.{Span}
use Rattle.tables.specs.Layout.{attributes_span_in, attributes_in}
use Rattle.tables.specs.Tables.{Tables, blocks, attributes_span}
use Rattle.std.specs.Prelude.{Ok}
use Rattle.lines.specs.Line.{header_line, operation_line, attribute_line, block_line, region_line, function_line}
use Rattle.module_text.specs.Whole.{house}
use Rattle.reading.proofs.Rows.{row, span_is}
use Rattle.reading.proofs.Held.{Held}
use Rattle.reading.proofs.Fold.{house_kept}
use Rattle.said.specs.Said.{with_tag, lines_in, lines_with, attributes_after, Holds, TablesHold, header_at, type_at, value_at, operation_at, attribute_at, block_at, function_at, type_said, value_said}
use Rattle.said.proofs.Parts.{holds_still, entries_of_run}
use Rattle.said.proofs.Rows.{type_of, type_at_lem, rank_at, value_of, value_at_lem, operation_of, operation_at_lem, attribute_of, attribute_at_lem, block_of, block_at_lem, region_of, region_at, function_at_lem, functions_all}
use Rattle.said.proofs.Tagged.{tag_text}
use Rattle.said.proofs.Steps.{Says, first_of, many_of}
use Rattle.said.proofs.Fold.{house_told}

pub tables_hold : (text : List ℕ) (x : Tables) → (house text x).answer ≡ Ok tt → TablesHold text (house text x)
unfolding attributes_in attributes_span_in
tables_hold text x reads =
    let y = (house text x).tables in
    let kept : Held (house text x).entries y = house_kept text x reads in
    let begun : 0 < (house text x).lines = (house_told text x reads).begun in
    let told : Says (λ g. with_tag (tag_text g) (lines_in text)) (attributes_after (lines_in text)) (house text x) = (house_told text x reads).seen_all.said in
    record {
      header_held =
          let b = told.begun in
          subst (Holds header_line (lines_with "tile" text) (λ _. header_at (house text x))) (omega arith) told.h;
      types_held =
          holds_still type_said (lines_with "T" text) (λ i. type_of (row 16 y.t i)) (type_at y) y.counts.types told.t
          (λ i l. type_at_lem y i l (kept.t.rows i l));
      ranks_held = λ i l. rank_at y i l (omega (arith, kept.t.fits)) kept.t.long (kept.t.rows i l);
      values_held =
          holds_still value_said (lines_with "V" text) (λ i. value_of (row 4 y.v i)) (value_at y) y.counts.values told.v (value_at_lem y);
      operations_held =
          holds_still operation_line (lines_with "O" text) (λ i. operation_of y.l (row 16 y.o i)) (operation_at y) y.counts.operations told.o
          (operation_at_lem y);
      attributes_held =
          holds_still attribute_line (lines_with "A" text) (λ i. attribute_of y.l (row 8 y.a i)) (attribute_at y) y.counts.attributes told.a
          (attribute_at_lem y);
      own_attributes = λ i l.
          let s : attributes_span y i ≡ record { start = first_of y.o i; len = many_of y.o i } = span_is 16 y.o y.counts.operations i l 7 (omega arith) in
          let within : first_of y.o i + many_of y.o i ≤ y.counts.attributes = (kept.o.rows i l).attributes in
          let all : min (many_of y.o i) (y.counts.attributes - first_of y.o i) ≡ many_of y.o i = omega arith in
          let count = told.a.count in
          ap (λ (p : Span). map (λ k. get_or (lines_with "A" text) k []) (from p.start (min p.len (y.counts.attributes - p.start)))) s
          ∙ ap (λ (m : ℕ). map (λ k. get_or (lines_with "A" text) k []) (from (first_of y.o i) m)) all
          ∙ entries_of_run [] (lines_with "A" text) (first_of y.o i) (many_of y.o i) (omega arith)
          ∙ told.own i l;
      blocks_held =
          holds_still block_line (lines_with "B" text) (λ i. block_of y.l (row 4 y.b i)) (block_at y) y.counts.blocks told.b (block_at_lem y);
      regions_held =
          holds_still region_line (lines_with "R" text) (λ i. region_of y.l (row 2 y.r i)) (blocks y) y.counts.regions told.r (region_at y);
      functions_held =
          holds_still function_line (lines_with "F" text) (λ i. get_or y.f i 0) (function_at y) y.counts.functions told.f (function_at_lem y);
      functions_listed = functions_all y (omega (arith, kept.f.long, kept.f.fits));
      no_other_line = omega (arith, (house_told text x reads).seen_all.all, told.begun);
    }
