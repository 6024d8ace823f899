-- The check over texts. "The program reads the sheet first; its 15 adds 100 to the field." Then the module is read, and the full check asks its
-- tables with the header's target.
use Rattle.std.specs.Prelude.{ℕ, ◌+◌, cond, List, eqb, Ok, Err}
use Rattle.tables.specs.Tables.{Tables, lent}
use Rattle.tables.specs.Answer.{numbers_of, Answer}
use Rattle.tables.specs.declared.Target.{Target}
use Rattle.tables.specs.declared.Refusal.{Refusal}
use Rattle.tables.specs.declared.Refusal.TheVariants.{NotInForm}
use Rattle.sheet.specs.Sheet.{read_sheet}
use Rattle.house.specs.State.{State}
use Rattle.house.specs.House.{no_counts}
use Rattle.module_text.specs.Whole.{house}
use Rattle.numbering.specs.Alone.{Outcome, outcome, after_checks}
use Rattle.full_check.specs.Full.{full_check}

-- "its 15 adds 100 to the field"; of a 15 the id is the line and the detail the field
unfoldable pub in_sheet : Refusal → Refusal
in_sheet r =
    let n = numbers_of r in
    cond (eqb n.code 15) (NotInForm n.id (n.detail + 100)) r

-- what is said of a sheet that was read
abbrev pub sheet_said : Answer → Answer
sheet_said (Ok _) = Ok tt
sheet_said (Err r) = Err (in_sheet r)

-- ---- what is left at exit: the answer with the numbers and the lengths, the eight tables and the sheet

pub record Texts : Type 0 where
  pub said : Outcome
  pub tables : Tables
  pub sheet : List ℕ

abbrev pub texts : Outcome → Tables → List ℕ → Texts
texts said x sheet = record { said = said; tables = x; sheet = sheet }

-- the slices alone: their counts are in no lent memory
abbrev pub slices : Tables → Tables
slices x = lent x.t x.v x.o x.a x.b x.r x.f x.l no_counts

-- ---- the module: its own refusal, or the check of what was read, with the header's target

abbrev pub target : State → Target
target s = record { version = s.version; sm = s.sm }

unfoldable pub checked : State → List ℕ → List ℕ → List ℕ → Outcome
checked s sheet numbers lengths = after_checks s.answer (full_check (target s) sheet s.tables numbers lengths) numbers lengths

abbrev pub after_sheet : Answer → List ℕ → State → Tables → List ℕ → List ℕ → Texts
after_sheet (Err r) sheet s x numbers lengths = texts (outcome (Err (in_sheet r)) numbers lengths) x sheet
after_sheet (Ok _) sheet s x numbers lengths = texts (checked s sheet numbers lengths) (slices s.tables) sheet

-- a refused sheet leaves the tables as they were; a module that was read stays in them, whatever the check says
unfoldable pub texts_check : List ℕ → List ℕ → Tables → List ℕ → List ℕ → List ℕ → Texts
texts_check sheet_text text x sheet numbers lengths =
    let w = read_sheet sheet_text sheet in
    after_sheet w.answer w.entries (house text x) x numbers lengths
