-- One line of the house text after another. "The first bad line answers, by its leftmost bad field. Field 0 is a wrong number of fields, a
-- line out of order or a missing last LF; an empty text is 15 with 1, 0. A line reaching past byte 65,536 is 1 with 0, 0 before its other
-- faults; a line without field faults that passes a table's size, rank 8 or the list entries (absent ones count, dims do not) is 1 with that
-- table and entry." What follows the last LF, and an empty text, are in crate `module_text`.
use Rattle.std.specs.Prelude.{ℕ, suc, ◌+◌, ◌-◌, ◌*◌, Bool, true, false, ◌&&◌, ◌||◌, cond, List, ◌++◌, eqb, ltb, leb, length, set, replicate, Ok, Err}
use Rattle.std.proofs.lemmas.List.Edits.{sets}
use Rattle.fields.specs.Cut.{split, nth}
use Rattle.names.specs.Names.{bytes, equal}
use Rattle.tables.specs.Sizes.{max_types, max_values, max_operations, max_attributes, max_blocks, max_regions, max_functions, max_entries, max_rank, max_text, type_table, value_table, operation_table, attribute_table, block_table, region_table, function_table}
use Rattle.tables.specs.Tables.{Tables, lent}
use Rattle.tables.specs.declared.Counts.{Counts}
use Rattle.tables.specs.Answer.{Answer}
use Rattle.tables.specs.declared.Refusal.{Refusal}
use Rattle.tables.specs.declared.Refusal.TheVariants.{OutOfRange, NotInForm}
use Rattle.lines.specs.Field.{Read, says, bad}
use Rattle.lines.specs.Line.{HeaderRow, TypeRow, ValueRow, OperationRow, AttributeRow, BlockRow, header_line, type_line, value_line, operation_line, attribute_line, block_line, region_line, function_line}
use Rattle.stores.specs.Rows.{type_cells, value_cells, operation_cells, attribute_cells, block_cells, region_cells}
use Rattle.stores.specs.Store.{one_attribute_more}
use Rattle.house.specs.State.{State}

-- ---- a refusal: "A refused text reading leaves the lent tables all zero"; nothing more is taken

abbrev pub no_counts : Counts
no_counts = record { types = 0; values = 0; operations = 0; attributes = 0; blocks = 0; regions = 0; functions = 0 }

abbrev pub zeros : List ℕ → List ℕ
zeros xs = replicate (length xs) 0

abbrev pub zeroed : Tables → Tables
zeroed x = lent (zeros x.t) (zeros x.v) (zeros x.o) (zeros x.a) (zeros x.b) (zeros x.r) (zeros x.f) (zeros x.l) no_counts

abbrev pub state : ℕ → ℕ → ℕ → ℕ → ℕ → ℕ → Tables → Answer → State
state phase lines bytes entries version sm x answer =
    record { phase = phase; lines = lines; bytes = bytes; entries = entries; version = version; sm = sm; tables = x; answer = answer }

abbrev pub refuse : Refusal → State → State
refuse r s = state 0 0 0 0 0 0 (zeroed s.tables) (Err r)

-- ---- a line that is taken: the next phase, the bytes up to its end, how many list entries it adds, and the tables with it

abbrev pub taken : State → ℕ → ℕ → ℕ → Tables → State
taken s phase bytes more x = state phase (suc s.lines) bytes (s.entries + more) s.version s.sm x (Ok tt)

abbrev pub counts : ℕ → ℕ → ℕ → ℕ → ℕ → ℕ → ℕ → Counts
counts t v o a b r f = record { types = t; values = v; operations = o; attributes = a; blocks = b; regions = r; functions = f }

-- entry e of a table of `size`, in rows; and room for so many list entries more
abbrev pub room_for : ℕ → ℕ → Bool
room_for size e = ltb e size

abbrev pub room_in_lists : State → ℕ → Bool
room_in_lists s more = leb (s.entries + more) max_entries

abbrev pub or_size : Bool → ℕ → ℕ → State → State → State
or_size true table e s next = next
or_size false table e s next = refuse (OutOfRange table e) s

-- a field fault, or what the line says, taken
abbrev pub read : {A : Type 0} → State → Read A → (A → State) → State
read s (bad k) take = refuse (NotInForm (suc s.lines) k) s
read s (says w) take = take w

module _ (s : State) (end : ℕ) where
  abbrev x : Tables
  x = s.tables

  abbrev n : Counts
  n = s.tables.counts

  abbrev pub take_header : HeaderRow → State
  take_header w = state 1 (suc s.lines) end s.entries w.version w.sm x (Ok tt)

  abbrev pub take_type : TypeRow → State
  take_type w =
      or_size (room_for max_types n.types && leb (length w.dims) max_rank) type_table n.types s
      (taken s 1 end 0
      (lent (sets x.t (n.types * 16) (type_cells w)) x.v x.o x.a x.b x.r x.f x.l
      (counts (suc n.types) n.values n.operations n.attributes n.blocks n.regions n.functions)))

  abbrev pub take_value : ValueRow → State
  take_value w =
      or_size (room_for max_values n.values) value_table n.values s
      (taken s 2 end 0
      (lent x.t (sets x.v (n.values * 4) (value_cells w)) x.o x.a x.b x.r x.f x.l
      (counts n.types (suc n.values) n.operations n.attributes n.blocks n.regions n.functions)))

  abbrev pub take_operation : OperationRow → State
  take_operation w =
      let more = w.results ++ w.operands ++ w.regions in
      or_size (room_for max_operations n.operations && room_in_lists s (length more)) operation_table n.operations s
      (taken s 3 end (length more)
      (lent x.t x.v (sets x.o (n.operations * 16) (operation_cells s.entries n.attributes w)) x.a x.b x.r x.f
      (sets x.l s.entries more)
      (counts n.types n.values (suc n.operations) n.attributes n.blocks n.regions n.functions)))

  abbrev pub take_attribute : AttributeRow → State
  take_attribute w =
      or_size (room_for max_attributes n.attributes && room_in_lists s (length w.numbers)) attribute_table n.attributes s
      (taken s 3 end (length w.numbers)
      (lent x.t x.v (one_attribute_more x.o ((n.operations - 1) * 16 + 8)) (sets x.a (n.attributes * 8) (attribute_cells s.entries w))
      x.b x.r x.f (sets x.l s.entries w.numbers)
      (counts n.types n.values n.operations (suc n.attributes) n.blocks n.regions n.functions)))

  abbrev pub take_block : BlockRow → State
  take_block w =
      let more = w.arguments ++ w.operations in
      or_size (room_for max_blocks n.blocks && room_in_lists s (length more)) block_table n.blocks s
      (taken s 4 end (length more)
      (lent x.t x.v x.o x.a (sets x.b (n.blocks * 4) (block_cells s.entries w)) x.r x.f (sets x.l s.entries more)
      (counts n.types n.values n.operations n.attributes (suc n.blocks) n.regions n.functions)))

  abbrev pub take_region : List ℕ → State
  take_region blocks =
      or_size (room_for max_regions n.regions && room_in_lists s (length blocks)) region_table n.regions s
      (taken s 5 end (length blocks)
      (lent x.t x.v x.o x.a x.b (sets x.r (n.regions * 2) (region_cells s.entries blocks)) x.f
      (sets x.l s.entries blocks)
      (counts n.types n.values n.operations n.attributes n.blocks (suc n.regions) n.functions)))

  abbrev pub take_function : ℕ → State
  take_function operation =
      or_size (room_for max_functions n.functions) function_table n.functions s
      (taken s 6 end 0
      (lent x.t x.v x.o x.a x.b x.r (set x.f n.functions operation) x.l
      (counts n.types n.values n.operations n.attributes n.blocks n.regions (suc n.functions))))

-- ---- "Kinds of line in this order: header `tile`; `T`; `V`; `O`, each followed by its `A` lines; `B`; `R`; `F`"

pub data Tag : Type 0 where
  header type value operation attribute block region function unknown : Tag

abbrev pub tag_of : List ℕ → Tag
tag_of s =
    cond (equal s (bytes "tile")) header
    (cond (equal s (bytes "T")) type
    (cond (equal s (bytes "V")) value
    (cond (equal s (bytes "O")) operation
    (cond (equal s (bytes "A")) attribute
    (cond (equal s (bytes "B")) block
    (cond (equal s (bytes "R")) region
    (cond (equal s (bytes "F")) function unknown)))))))

abbrev pub is_unknown : Tag → Bool
is_unknown header = false
is_unknown type = false
is_unknown value = false
is_unknown operation = false
is_unknown attribute = false
is_unknown block = false
is_unknown region = false
is_unknown function = false
is_unknown unknown = true

-- how many fields, the tag among them
abbrev pub fields_of : Tag → ℕ
fields_of header = 4
fields_of type = 7
fields_of value = 4
fields_of operation = 5
fields_of attribute = 4
fields_of block = 3
fields_of region = 2
fields_of function = 2
fields_of unknown = 0

-- the header stands first and once; after it the phases rise; an `A` follows an `O` or its `A`s
abbrev pub in_order : Tag → ℕ → Bool
in_order header phase = eqb phase 0
in_order type phase = eqb phase 1
in_order value phase = ltb 0 phase && leb phase 2
in_order operation phase = ltb 0 phase && leb phase 3
in_order attribute phase = eqb phase 3
in_order block phase = ltb 0 phase && leb phase 4
in_order region phase = ltb 0 phase && leb phase 5
in_order function phase = ltb 0 phase && leb phase 6
in_order unknown phase = true

abbrev pub take_line : State → ℕ → List (List ℕ) → Tag → State
take_line s end fs header = read s (header_line fs) (take_header s end)
take_line s end fs type = read s (type_line fs) (take_type s end)
take_line s end fs value = read s (value_line fs) (take_value s end)
take_line s end fs operation = read s (operation_line fs) (take_operation s end)
take_line s end fs attribute = read s (attribute_line fs) (take_attribute s end)
take_line s end fs block = read s (block_line fs) (take_block s end)
take_line s end fs region = read s (region_line fs) (take_region s end)
take_line s end fs function = read s (function_line fs) (take_function s end)
take_line s end fs unknown = refuse (NotInForm (suc s.lines) 1) s

-- an unknown tag is field 1, whatever its fields; of a known one field 0 comes first, then the leftmost bad field, then the sizes
abbrev pub well_placed : Tag → List (List ℕ) → ℕ → Bool
well_placed tag fs phase = is_unknown tag || (eqb (length fs) (fields_of tag) && in_order tag phase)

abbrev pub placed : State → ℕ → List (List ℕ) → Tag → State
placed s end fs tag = cond (well_placed tag fs s.phase) (take_line s end fs tag) (refuse (NotInForm (suc s.lines) 0) s)

-- ---- one line, without its LF, which counts

abbrev pub onward : Answer → State → State → State
onward (Ok _) s next = next
onward (Err r) s next = s

-- a line past the text; or a state that no text reaches (law `reached` of crate `module_text`): more lines than a text has bytes, or more
-- attributes than there is room for
abbrev pub too_far : State → ℕ → Bool
too_far s end = ltb max_text end || (ltb max_text s.lines || ltb max_attributes s.tables.counts.attributes)

unfoldable pub judged : State → List ℕ → State
judged s line =
    let end = s.bytes + suc (length line) in
    cond (too_far s end) (refuse (OutOfRange 0 0) s) (placed s end (split 9 line) (tag_of (nth 0 (split 9 line))))

unfoldable pub line_of : State → List ℕ → State
line_of s line = onward s.answer s (judged s line)
