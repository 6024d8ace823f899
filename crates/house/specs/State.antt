-- Where a reader of the house text stands: what it has read, and where each line it takes is stored.
use Rattle.std.specs.Prelude.{ℕ}
use Rattle.tables.specs.Tables.{Tables}
use Rattle.tables.specs.Answer.{Answer}

-- the kind of line last taken (0 before the header, then T, V, O with its A, B, R, F as 1 to 6), the lines and bytes before this one, the
-- list entries in use, the header, the tables with their counts, and the first refusal
pub record State : Type 0 where
  pub phase : ℕ
  pub lines : ℕ
  pub bytes : ℕ
  pub entries : ℕ
  pub version : ℕ
  pub sm : ℕ
  pub tables : Tables
  pub answer : Answer
