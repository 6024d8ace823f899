-- Attributes by name: "An attribute lookup finds the first entry with the name and the wanted form (`Array` is `a` or `z`)."
-- Each lookup stands over the tables that it reads, and then over all of them.
use Rattle.std.specs.Prelude.{ℕ, Bool, true, false, not, cond, ◌&&◌, ◌||◌, List, eqb, ltb, length, get_or, Option, Some, None, is_none, unwrap_or, option_map}
use Rattle.std.proofs.Math.Option.{some, none}
use Rattle.std.proofs.Math.Option.{Option as Searched}
use Rattle.cells.specs.Lists.{from, find}
use Rattle.names.specs.Names.{permutation, operand_segment_sizes, flush_to_zero, integer_form, bool_form, integers_form, bools_form, permutation_form}
use Rattle.tables.specs.Layout.{attributes_in, name_in, attribute_form_in, numbers_in}
use Rattle.tables.specs.Tables.{Tables}
use Rattle.tables.specs.declared.Counts.{Counts}
use Rattle.lookups.specs.declared.Wanted.{Wanted}
use Rattle.lookups.specs.declared.Wanted.TheVariants.{Integer, Array, Permutation, NotFalse}
use Rattle.lookups.specs.declared.SegmentSizes.{SegmentSizes}
use Rattle.lookups.specs.declared.SegmentSizes.TheVariants.{Integers, Bools, Missing}

-- ---- one attribute

-- its form and its first number are as wanted; the last is anything but `b` with 0, which the closing flush_to_zero rule looks for
unfoldable pub is_taken : Wanted → ℕ → ℕ → Bool
is_taken Integer form first = eqb form integer_form
is_taken Array form first = eqb form integers_form || eqb form bools_form
is_taken Permutation form first = eqb form permutation_form
is_taken NotFalse form first = not (eqb form bool_form && eqb first 0)

-- its first number; an integer or a bool has one
unfoldable pub first_in : List ℕ → List ℕ → Counts → ℕ → ℕ
first_in a l n k = get_or (numbers_in a l n k) 0 0

-- attribute k has this name and is as wanted
unfoldable pub is_entry : List ℕ → List ℕ → Counts → ℕ → Wanted → ℕ → Bool
is_entry a l n name wanted k = eqb (name_in a n k) name && is_taken wanted (attribute_form_in a n k) (first_in a l n k)

-- ---- the lookup

abbrev pub entered : Searched ℕ → Option ℕ
entered none = None
entered (some k) = Some k

-- the first attribute of operation i with this name that is as wanted
unfoldable pub entry_in : List ℕ → List ℕ → List ℕ → Counts → ℕ → ℕ → Wanted → Option ℕ
entry_in o a l n i name wanted =
    let s = attributes_in o n i in entered (find (is_entry a l n name wanted) (from s.start s.len))

abbrev pub entry_of : Tables → ℕ → ℕ → Wanted → Option ℕ
entry_of x i name wanted = entry_in x.o x.a x.l x.counts i name wanted

-- ---- integers: the Rust's `integer`, with the number as its 64 bits

abbrev pub numbered : List ℕ → List ℕ → Counts → Option ℕ → Option ℕ
numbered a l n entry = option_map (first_in a l n) entry

unfoldable pub integer_in : List ℕ → List ℕ → List ℕ → Counts → ℕ → ℕ → Option ℕ
integer_in o a l n i name = numbered a l n (entry_in o a l n i name Integer)

abbrev pub integer_of : Tables → ℕ → ℕ → Option ℕ
integer_of x i name = integer_in x.o x.a x.l x.counts i name

-- there is none
abbrev pub is_absent : Option ℕ → Bool
is_absent found = is_none found

-- there is one, with this property: `matches!(r, Some(..))`
abbrev pub is_some : (ℕ → Bool) → Option ℕ → Bool
is_some p (Some bits) = p bits
is_some p None = false

-- the number, or another where there is none: `unwrap_or`
abbrev pub number_or : ℕ → Option ℕ → ℕ
number_or other found = unwrap_or found other

-- ---- the permutation, whose axes are the numbers of the attribute found

unfoldable pub permutation_in : List ℕ → List ℕ → List ℕ → Counts → ℕ → Option ℕ
permutation_in o a l n i = entry_in o a l n i permutation Permutation

abbrev pub permutation_of : Tables → ℕ → Option ℕ
permutation_of x i = permutation_in x.o x.a x.l x.counts i

-- ---- the segment sizes, found as integers or as bools

abbrev pub sized : List ℕ → Counts → Option ℕ → SegmentSizes
sized a n None = Missing
sized a n (Some k) = cond (eqb (attribute_form_in a n k) integers_form) (Integers k) (Bools k)

unfoldable pub segments_in : List ℕ → List ℕ → List ℕ → Counts → ℕ → SegmentSizes
segments_in o a l n i = sized a n (entry_in o a l n i operand_segment_sizes Array)

abbrev pub segments_of : Tables → ℕ → SegmentSizes
segments_of x i = segments_in x.o x.a x.l x.counts i

-- the size at a position: the view arm takes an integer there, and no bool
abbrev pub size_at : List ℕ → List ℕ → Counts → ℕ → SegmentSizes → Option ℕ
size_at a l n j (Integers k) = cond (ltb j (length (numbers_in a l n k))) (Some (get_or (numbers_in a l n k) j 0)) None
size_at a l n j (Bools k) = None
size_at a l n j Missing = None

unfoldable pub segment_in : List ℕ → List ℕ → List ℕ → Counts → ℕ → ℕ → Option ℕ
segment_in o a l n i j = size_at a l n j (segments_in o a l n i)

abbrev pub segment_of : Tables → ℕ → ℕ → Option ℕ
segment_of x i j = segment_in x.o x.a x.l x.counts i j

-- ---- flush_to_zero: some attribute of that name is anything but a false bool

abbrev pub is_at : Option ℕ → Bool
is_at None = false
is_at (Some k) = true

unfoldable pub flushes_in : List ℕ → List ℕ → List ℕ → Counts → ℕ → Bool
flushes_in o a l n i = is_at (entry_in o a l n i flush_to_zero NotFalse)

abbrev pub flushes : Tables → ℕ → Bool
flushes x i = flushes_in x.o x.a x.l x.counts i
