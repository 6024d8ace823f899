-- `Reader::read_next`: no number left, one that names no live place, and one that does. Assumes nothing.
use mathlib.Core.Path.{◌∙◌, sym, ap}
use Rattle.nesting.specs.Live.{nth}
use Rattle.read_back.specs.Live.{place_in}
use Rattle.read_back.proofs.Stage.{first_stays, none_left, not_readable, readable}
use Rattle.read_back.proofs.Reader.read_next.Goals as goal

pub returns-in_default : goal.returns-in_default
returns-in_default c =
    let a = c.args in
    none_left a.self.now.numbers.now a.places.now a.reading.now a.operation a.place (rw c.in_default.is at c.get.ensures.lookup.3)

pub returns-in_default-place : goal.returns-in_default-place
returns-in_default-place c =
    let a = c.args in
    let number = c.in-Some.ensures.lookup.3 in
    not_readable a.self.now.numbers.now a.places.now a.reading.now a.operation a.place number.0
    (ap (nth a.reading.now.live) (sym (number.1 0)) ∙ sym c.place.ensures ∙ ap place_in c.in_default-place.is)
    c.and-reading.result (c.and-reading.ensures ∙ first_stays a.reading.now.answer _)

pub returns : goal.returns
returns c =
    let a = c.args in
    let number = c.in-Some.ensures.lookup.3 in
    readable a.self.now.numbers.now a.places.now a.reading.now a.operation a.place number.0 c.in-Some-place.found
    (ap (nth a.reading.now.live) (sym (number.1 0)) ∙ sym c.place.ensures ∙ ap place_in c.in-Some-place.is)
    c.put_place.new.places c.put_place.ensures
