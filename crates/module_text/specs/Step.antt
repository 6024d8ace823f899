-- How the reader ends in steps: the reading after the last LF.
use Rattle.std.specs.Prelude.{ℕ, suc, ◌+◌, ◌&&◌, ◌||◌, cond, eqb, ltb}
use Rattle.tables.specs.Sizes.{max_text, max_attributes}
use Rattle.tables.specs.declared.Refusal.TheVariants.{OutOfRange, NotInForm}
use Rattle.house.specs.Step.{refusing}
use Rattle.house.specs.declared.Reading.{Reading}

-- a reading that is not refused, before a refusal zeroes the tables
unfoldable pub last_reading : Reading → ℕ → Reading
last_reading s left =
    cond (eqb left 0 && ltb 0 s.lines) s
    (cond (ltb max_text (s.bytes + left) || (ltb max_text s.lines || ltb max_attributes s.counts.attributes))
    (refusing (OutOfRange 0 0)) (refusing (NotInForm (suc s.lines) 0)))
