-- One line of a rule sheet. "Sheet text: `sheet|1`, then in this order, keys rising, `t` once at most: `c|opcode|count`, `m|mode|mask`,
-- `p|kind|mask`, `w|kind|bytes`, `t|0/1`; missing lines mean none, 0 or absent."
use Rattle.std.specs.Prelude.{ℕ, ◌-◌, ◌^◌, Bool, true, false, ◌&&◌, ◌||◌, cond, List, eqb, ltb, leb, length, set, Option, Some, None, Result, Ok, Err}
use Rattle.cells.specs.Cell.{put_cell}
use Rattle.names.specs.Names.{bytes, equal}
use Rattle.tables.specs.Sizes.{opcodes, kinds, modes}
use Rattle.fields.specs.Number.{unsigned_of}
use Rattle.fields.specs.Cut.{nth}
use Rattle.lines.specs.Field.{Read, says, bad, number, one_of, integer64, only}
use Rattle.lines.specs.declared.BadField.{BadField}
use Rattle.lines.specs.Into.{Left, left}
use Rattle.sheet.specs.declared.Kind.{Kind}
use Rattle.sheet.specs.declared.Kind.TheVariants.{Sheet, Count, Mode, Contained, Bytes, Through}
use Rattle.sheet.specs.declared.Row.{Row as Took}

abbrev pub tag_of : List ℕ → Option Kind
tag_of s =
    cond (equal s (bytes "sheet")) (Some Sheet)
    (cond (equal s (bytes "c")) (Some Count)
    (cond (equal s (bytes "m")) (Some Mode)
    (cond (equal s (bytes "p")) (Some Contained)
    (cond (equal s (bytes "w")) (Some Bytes)
    (cond (equal s (bytes "t")) (Some Through) None)))))

-- the kinds of line, numbered "in this order"; 0 stands for no line yet
abbrev pub sheet_kind : ℕ
sheet_kind = 1

abbrev pub count_kind : ℕ
count_kind = 2

abbrev pub mode_kind : ℕ
mode_kind = 3

abbrev pub contained_kind : ℕ
contained_kind = 4

abbrev pub bytes_kind : ℕ
bytes_kind = 5

abbrev pub through_kind : ℕ
through_kind = 6

-- what a line says: its kind, its key (0 where it has none) and its value
pub record Row : Type 0 where
  pub kind : ℕ
  pub key : ℕ
  pub value : ℕ

abbrev pub row : ℕ → ℕ → ℕ → Row
row kind key value = record { kind = kind; key = key; value = value }

-- "Field 0 is a wrong number of fields, a line out of order or a missing last LF"
abbrev pub placed : Bool → Read Row → Read Row
placed true rest = rest
placed false rest = bad 0

-- after `sheet|1`, and after no kind past `most`
abbrev pub follows : ℕ → ℕ → Bool
follows last most = ltb 0 last && leb last most

-- "keys rising": a line of the same kind as the last one has a greater key
abbrev pub rises : ℕ → ℕ → ℕ → ℕ → Bool
rises last key kind k = ltb last kind || ltb key k

-- "unsigned: masks 16"
abbrev pub mask16 : List ℕ → Option ℕ
mask16 s = unsigned_of (2 ^ 16 - 1) s

-- ---- the line after one of kind `last` with the key `key`

unfoldable pub sheet_line : ℕ → List (List ℕ) → Read Row
sheet_line last fs =
    placed (eqb (length fs) 2 && eqb last 0)
    (number 2 (only 1 (integer64 (nth 1 fs)))
    (λ _. says (row sheet_kind 0 0)))

-- A key outside its list is a bad field 2. Only a key of its list can rise or not: one that does not is out of order, before its value.
unfoldable pub keyed_line : ℕ → (List ℕ → Option ℕ) → (List ℕ → Option ℕ) → ℕ → ℕ → List (List ℕ) → Read Row
keyed_line kind key_of value_of last key fs =
    placed (eqb (length fs) 3 && follows last kind)
    (number 2 (key_of (nth 1 fs))
    (λ k. placed (rises last key kind k)
    (number 3 (value_of (nth 2 fs))
    (λ value. says (row kind k value)))))

-- "`t` once at most": it follows every kind but its own
unfoldable pub through_line : ℕ → List (List ℕ) → Read Row
through_line last fs =
    placed (eqb (length fs) 2 && follows last bytes_kind)
    (number 2 (one_of 2 (nth 1 fs))
    (λ value. says (row through_kind 0 value)))

-- "an unknown tag (field 1)", whatever its fields; counts and bytes are "signed 64: the rest"
abbrev pub line_by : Option Kind → ℕ → ℕ → List (List ℕ) → Read Row
line_by (Some Sheet) last key fs = sheet_line last fs
line_by (Some Count) last key fs = keyed_line count_kind (one_of opcodes) integer64 last key fs
line_by (Some Mode) last key fs = keyed_line mode_kind (one_of modes) mask16 last key fs
line_by (Some Contained) last key fs = keyed_line contained_kind (one_of kinds) mask16 last key fs
line_by (Some Bytes) last key fs = keyed_line bytes_kind (one_of kinds) integer64 last key fs
line_by (Some Through) last key fs = through_line last fs
line_by None last key fs = bad 1

unfoldable pub judged : ℕ → ℕ → List (List ℕ) → Read Row
judged last key fs = line_by (tag_of (nth 0 fs)) last key fs

-- ---- where it stands in the sheet's slice (tables/specs/Sheet.antt)

unfoldable pub stored : Row → List ℕ → List ℕ
stored w s =
    cond (eqb w.kind count_kind) (put_cell 2 (put_cell 2 s w.key 0 1) w.key 1 w.value)
    (cond (eqb w.kind mode_kind) (put_cell 1 s w.key 256 w.value)
    (cond (eqb w.kind contained_kind) (put_cell 1 s w.key 272 w.value)
    (cond (eqb w.kind bytes_kind) (put_cell 1 s w.key 288 w.value)
    (cond (eqb w.kind through_kind) (set s 304 w.value) s))))

-- ---- what the functions take and answer, read as the above

abbrev pub place : Kind → ℕ
place Sheet = sheet_kind
place Count = count_kind
place Mode = mode_kind
place Contained = contained_kind
place Bytes = bytes_kind
place Through = through_kind

abbrev pub row_of : Took → Row
row_of w = row (place w.kind) w.key w.value

-- the kind and the key of the last line; 0 and 0 where there is none
abbrev pub kind_of : Option Took → ℕ
kind_of None = 0
kind_of (Some w) = place w.kind

abbrev pub key_of : Option Took → ℕ
key_of None = 0
key_of (Some w) = w.key

abbrev pub told : Result Took BadField → Read Row
told (Ok w) = says (row_of w)
told (Err e) = bad e.field

-- an answer, and the slice with it
abbrev pub line_into : Read Row → List ℕ → Left (Read Row)
line_into (bad k) s = left (bad k) s
line_into (says w) s = left (says w) (stored w s)
