-- Rows of A: the name, where the numbers stand, and that they are those of the form. Assumes nothing.
use Prim.Native.Nat.{ℕ, ◌+◌, ◌≤◌, ◌<◌}
use mathlib.Core.Bool.{true}
use mathlib.Core.Path.{◌≡◌, ap}
use mathlib.Core.List.{List}
use native.Mathlib.Omega.{arith}
use lib.ListN.{length, get_or, take, drop}
use lib.Seq.{sets}
use borrow.Author.Tests.{le-leb}
use Rattle.cells.specs.declared.Span.{Span}
use Rattle.names.specs.Names.{names}
use Rattle.tables.specs.Layout.{name_in, attribute_form_in, numbers_span_in, numbers_in, absent_in}
use Rattle.tables.specs.Tables.{Tables, attribute_name, attribute_form, attribute_absent, numbers_span}
use Rattle.lines.specs.Line.{AttributeRow}
use Rattle.stores.specs.Rows.{attribute_cells}
use Rattle.ranges.specs.Entry.{good_numbers, good_attribute}
use Rattle.ranges.specs.Range.{listed_by_attribute}
use Rattle.reading.proofs.Rows.{row, part_kept, part_new, cell_is, span_is}
use Rattle.reading.proofs.Said.{AttributeSaid}

-- e list entries so far, in l
pub record AttributeHeld (l : List ℕ) (e : ℕ) (r : List ℕ) : Type 0 where
  pub name : get_or r 0 0 ≤ length names
  pub whole : get_or r 2 0 + get_or r 3 0 ≤ e
  pub numbers : good_numbers (get_or r 1 0) (get_or r 3 0) (get_or r 4 0) (take (get_or r 3 0) (drop (get_or r 2 0) l)) ≡ true

abbrev pub by_attribute : List ℕ → ℕ
by_attribute r = get_or r 3 0

pub attribute_row_lem : (l : List ℕ) (e : ℕ) (w : AttributeRow) → e + length w.numbers ≤ length l → AttributeSaid w
    → AttributeHeld (sets l e w.numbers) (e + length w.numbers) (attribute_cells e w)
attribute_row_lem l e w h s = record { name = s.name; whole = omega arith; numbers = rw (part_new w.numbers l e h) s.numbers }

pub attribute_later : (l new : List ℕ) (e e' : ℕ) → e ≤ e' → (r : List ℕ) → AttributeHeld l e r → AttributeHeld (sets l e new) e' r
attribute_later l new e e' k r h =
    record { name = h.name; whole = omega (arith, h.whole); numbers = rw (part_kept new l e (get_or r 2 0) (get_or r 3 0) h.whole) h.numbers }

module _ (x : Tables) (k : ℕ) (h : k < x.counts.attributes) where
  name_is : attribute_name x k ≡ get_or (row 8 x.a k) 0 0
  unfolding name_in
  name_is = cell_is 8 x.a x.counts.attributes k h 0 (omega arith)

  form_is : attribute_form x k ≡ get_or (row 8 x.a k) 1 0
  unfolding attribute_form_in
  form_is = cell_is 8 x.a x.counts.attributes k h 1 (omega arith)

  absent_is : attribute_absent x k ≡ get_or (row 8 x.a k) 4 0
  unfolding absent_in
  absent_is = cell_is 8 x.a x.counts.attributes k h 4 (omega arith)

  numbers_span_lem : numbers_span x k ≡ record { start = get_or (row 8 x.a k) 2 0; len = get_or (row 8 x.a k) 3 0 }
  unfolding numbers_span_in
  numbers_span_lem = span_is 8 x.a x.counts.attributes k h 2 (omega arith)

  pub attribute_listed : listed_by_attribute x k ≡ by_attribute (row 8 x.a k)
  attribute_listed = ap (λ (s : Span). s.len) numbers_span_lem

  pub attribute_good : (e : ℕ) → e ≤ length x.l → AttributeHeld x.l e (row 8 x.a k) → good_attribute x k ≡ true
  unfolding good_attribute numbers_in
  attribute_good e l r =
      rw (name_is, numbers_span_lem, form_is, absent_is)
      (rw (
        le-leb (get_or (row 8 x.a k) 0 0) (length names) r.name,
        le-leb (get_or (row 8 x.a k) 2 0 + get_or (row 8 x.a k) 3 0) (length x.l) (omega (arith, r.whole)),
      ) r.numbers)
