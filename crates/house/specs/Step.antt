-- How the reader takes a line in steps: the kind of a line, and the reading that follows.
use Rattle.std.specs.Prelude.{ℕ, suc, Bool, ◌&&◌, cond, List, eqb, ltb, length, Option, Some, None, Result, Ok, Err}
use Rattle.fields.specs.Cut.{nth}
use Rattle.lines.specs.Field.{Read, says, bad}
use Rattle.lines.specs.Line.{HeaderRow}
use Rattle.tables.specs.declared.Counts.{Counts}
use Rattle.tables.specs.Tables.{Tables, lent}
use Rattle.tables.specs.Answer.{Answer}
use Rattle.tables.specs.declared.Refusal.{Refusal}
use Rattle.tables.specs.declared.Refusal.TheVariants.{OutOfRange, NotInForm}
use Rattle.stores.specs.declared.Unstored.{Unstored}
use Rattle.stores.specs.declared.Unstored.TheVariants.{Bad, Full}
use Rattle.house.specs.State.{State}
use Rattle.house.specs.House.{no_counts, state, refuse, Tag, header, type, value, operation, attribute, block, region, function, unknown, tag_of, fields_of, in_order}
use Rattle.lines.specs.declared.BadField.{BadField}
use Rattle.lines.specs.Answer.{bad_field}
use Rattle.tables.specs.Sizes.{type_table, value_table, operation_table, attribute_table, block_table, region_table, function_table}
use Rattle.house.specs.declared.Reading.{Reading}
use Rattle.house.specs.declared.Kind.{Kind}
use Rattle.house.specs.declared.Kind.TheVariants.{Header, «Type», Value, Operation, Attribute, Block, Region, Function}

-- ---- the kind of a line

abbrev pub kind_at : Tag → Option Kind
kind_at header = Some Header
kind_at type = Some «Type»
kind_at value = Some Value
kind_at operation = Some Operation
kind_at attribute = Some Attribute
kind_at block = Some Block
kind_at region = Some Region
kind_at function = Some Function
kind_at unknown = None

abbrev pub tag_in : Kind → Tag
tag_in Header = header
tag_in «Type» = type
tag_in Value = value
tag_in Operation = operation
tag_in Attribute = attribute
tag_in Block = block
tag_in Region = region
tag_in Function = function

-- the fields and the phase fit the kind
abbrev pub fits : Kind → List (List ℕ) → ℕ → Bool
fits k fs phase = eqb (length fs) (fields_of (tag_in k)) && in_order (tag_in k) phase

-- field 1 is bad where the tag is unknown; field 0 where the line is out of order or has a wrong number of fields
abbrev pub kind_by : List (List ℕ) → ℕ → Option Kind → Result Kind BadField
kind_by fs phase None = Err (bad_field 1)
kind_by fs phase (Some k) = cond (fits k fs phase) (Ok k) (Err (bad_field 0))

unfoldable pub kind_of : List (List ℕ) → ℕ → Result Kind BadField
kind_of fs phase = kind_by fs phase (kind_at (tag_of (nth 0 fs)))

-- ---- the reading that follows

-- one more, of a number that fits a cell
abbrev pub next : ℕ → ℕ
next x = cond (ltb x 0x1_0000_0000) (suc x) x

abbrev pub first_reading : Answer → Reading
first_reading q =
    record { phase = 0; lines = 0; bytes = 0; entries = 0; version = 0; sm = 0; counts = no_counts; answer = q }

abbrev pub refusing : Refusal → Reading
refusing q = first_reading (Err q)

-- the number of a kind's table, and its count; a header has no table, and is counted with the functions
abbrev pub table_of : Kind → ℕ
table_of Header = 0
table_of «Type» = type_table
table_of Value = value_table
table_of Operation = operation_table
table_of Attribute = attribute_table
table_of Block = block_table
table_of Region = region_table
table_of Function = function_table

abbrev pub count_of : Counts → Kind → ℕ
count_of n Header = n.functions
count_of n «Type» = n.types
count_of n Value = n.values
count_of n Operation = n.operations
count_of n Attribute = n.attributes
count_of n Block = n.blocks
count_of n Region = n.regions
count_of n Function = n.functions

-- one entry more in a kind's table
abbrev pub counted : Counts → Kind → Counts
counted n Header = n
counted n «Type» = record n { types = next n.types }
counted n Value = record n { values = next n.values }
counted n Operation = record n { operations = next n.operations }
counted n Attribute = record n { attributes = next n.attributes }
counted n Block = record n { blocks = next n.blocks }
counted n Region = record n { regions = next n.regions }
counted n Function = record n { functions = next n.functions }

-- an `A` leaves the phase of its `O`
abbrev pub phase_of : Kind → ℕ
phase_of Header = 0
phase_of «Type» = 1
phase_of Value = 2
phase_of Operation = 3
phase_of Attribute = 3
phase_of Block = 4
phase_of Region = 5
phase_of Function = 6

unfoldable pub advance_of : Reading → Kind → ℕ → Result ℕ Unstored → Reading
advance_of s k end (Err (Bad field)) = refusing (NotInForm (next s.lines) field)
advance_of s k end (Err Full) = refusing (OutOfRange (table_of k) (count_of s.counts k))
advance_of s k end (Ok entries) =
    record {
      phase = phase_of k;
      lines = next s.lines;
      bytes = end;
      entries = entries;
      version = s.version;
      sm = s.sm;
      counts = counted s.counts k;
      answer = (Ok tt);
    }

unfoldable pub header_next : Reading → ℕ → Read HeaderRow → Reading
header_next s end (bad field) = refusing (NotInForm (next s.lines) field)
header_next s end (says w) =
    record {
      phase = 1;
      lines = next s.lines;
      bytes = end;
      entries = s.entries;
      version = w.version;
      sm = w.sm;
      counts = s.counts;
      answer = (Ok tt);
    }

-- ---- the state of a reading, beside the tables it was lent

abbrev pub state_of : Reading → Tables → State
state_of s x =
    state s.phase s.lines s.bytes s.entries s.version s.sm
    (lent x.t x.v x.o x.a x.b x.r x.f x.l s.counts) s.answer

-- a refusal zeroes the tables, whatever was written to them
abbrev pub settled_by : Answer → State → State
settled_by (Ok _) s = s
settled_by (Err q) s = refuse q s

abbrev pub settled : State → State
settled s = settled_by s.answer s
