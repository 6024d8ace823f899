-- A sheet's lines have three fields at most, so no 15 of a sheet names a field past 3.
use Rattle.std.specs.Prelude.{Option, Some, None}
use Prim.Native.Nat.{ℕ, suc, ◌+◌, ◌≤◌}
use native.Mathlib.Omega.{arith}
use mathlib.Core.Path.{◌≡◌, refl, subst, ◌∙◌, ap}
use mathlib.Core.Bool.{Bool, true, false, ◌&&◌, cond}
use mathlib.Core.List.{List, [], ◌∷◌}
use lib.Dec.{eqb, ltb}
use lib.ListN.{length}
use Rattle.fields.specs.Cut.{split, nth}
use Rattle.tables.specs.Sizes.{opcodes, modes, kinds, max_text}
use Rattle.tables.specs.Answer.{numbers_of, Answer}
use Rattle.std.specs.Prelude.{Ok, Err}
use Rattle.tables.specs.declared.Refusal.{Refusal}
use Rattle.tables.specs.declared.Refusal.TheVariants.{OutOfRange, TooShort, NotInForm}
use Rattle.lines.specs.Field.{Read, says, bad, number, one_of, integer64, only}
use Rattle.lines.specs.Into.{left}
use Rattle.std.specs.Prelude.{Option, Some, None}
use Rattle.sheet.specs.declared.Kind.{Kind}
use Rattle.sheet.specs.declared.Kind.TheVariants.{Sheet, Count, Mode, Contained, Bytes, Through}
use Rattle.sheet.specs.Line.{Row, row, placed, follows, rises, mask16, sheet_kind, count_kind, mode_kind, contained_kind, bytes_kind, through_kind, line_by, tag_of, judged, sheet_line, keyed_line, through_line}
use Rattle.sheet.specs.Sheet.{State, zeros, refuse, taken, onward, line_of, last_of, lines_of, sheet_cells, blank, fresh, ended, read_sheet}

-- ---- one line

abbrev LowRow : Read Row → Type 0
LowRow y = (k : ℕ) → y ≡ bad k → k ≤ 3

bad_low : (k : ℕ) → k ≤ 3 → LowRow (bad k)
bad_low k h j e = let q : k ≡ j = cc in omega arith

says_low : (w : Row) → LowRow (says w)
says_low w j e = absurd (let z : ◌≡◌ {A = ℕ} 0 1 = cc in omega arith)

placed_low : (b : Bool) {y : Read Row} → LowRow y → LowRow (placed b y)
placed_low true h = h
placed_low false h = bad_low 0 (omega arith)

number_low : (k : ℕ) (n : Option ℕ) {rest : ℕ → Read Row} → k ≤ 3 → ((m : ℕ) → LowRow (rest m)) → LowRow (number k n rest)
number_low k (Some m) h r = r m
number_low k None h r = bad_low k h

sheet_line_low : (last : ℕ) (fs : List (List ℕ)) → LowRow (sheet_line last fs)
unfolding sheet_line
sheet_line_low last fs =
    placed_low (eqb (length fs) 2 && eqb last 0)
    (number_low 2 (only 1 (integer64 (nth 1 fs))) (omega arith)
    (λ m. says_low (row sheet_kind 0 0)))

keyed_line_low : (kind : ℕ) (key_of value_of : List ℕ → Option ℕ) (last key : ℕ) (fs : List (List ℕ)) → LowRow (keyed_line kind key_of value_of last key fs)
unfolding keyed_line
keyed_line_low kind key_of value_of last key fs =
    placed_low (eqb (length fs) 3 && follows last kind)
    (number_low 2 (key_of (nth 1 fs)) (omega arith)
    (λ k. placed_low (rises last key kind k)
    (number_low 3 (value_of (nth 2 fs)) (omega arith)
    (λ m. says_low (row kind k m)))))

through_line_low : (last : ℕ) (fs : List (List ℕ)) → LowRow (through_line last fs)
unfolding through_line
through_line_low last fs =
    placed_low (eqb (length fs) 2 && follows last bytes_kind)
    (number_low 2 (one_of 2 (nth 1 fs)) (omega arith)
    (λ m. says_low (row through_kind 0 m)))

line_by_low : (tag : Option Kind) (last key : ℕ) (fs : List (List ℕ)) → LowRow (line_by tag last key fs)
line_by_low (Some Sheet) last key fs = sheet_line_low last fs
line_by_low (Some Count) last key fs = keyed_line_low count_kind (one_of opcodes) integer64 last key fs
line_by_low (Some Mode) last key fs = keyed_line_low mode_kind (one_of modes) mask16 last key fs
line_by_low (Some Contained) last key fs = keyed_line_low contained_kind (one_of kinds) mask16 last key fs
line_by_low (Some Bytes) last key fs = keyed_line_low bytes_kind (one_of kinds) integer64 last key fs
line_by_low (Some Through) last key fs = through_line_low last fs
line_by_low None last key fs = bad_low 1 (omega arith)

judged_low : (last key : ℕ) (fs : List (List ℕ)) → LowRow (judged last key fs)
unfolding judged
judged_low last key fs = line_by_low (tag_of (nth 0 fs)) last key fs

-- ---- an answer

abbrev pub Low : Answer → Type 0
Low a = (r : Refusal) → a ≡ Err r → (numbers_of r).code ≡ 15 → (numbers_of r).detail ≤ 3

accepted_low : Low (Ok tt)
accepted_low r e c = absurd (let z : ◌≡◌ {A = ℕ} 0 1 = cc in omega arith)

form_low : (line k : ℕ) → k ≤ 3 → Low (Err (NotInForm line k))
form_low line k h r e c = let q : NotInForm line k ≡ r = cc in subst (λ (z : Refusal). (numbers_of z).detail ≤ 3) q h

-- no 15
other_low : (q : Refusal) → ((numbers_of q).code ≡ 15 → ◌≡◌ {A = ℕ} 0 1) → Low (Err q)
other_low q not r e c = absurd (let k : q ≡ r = cc in let z = not (ap (λ (x : Refusal). (numbers_of x).code) k ∙ c) in omega arith)

range_low : Low (Err (OutOfRange 0 0))
range_low = other_low (OutOfRange 0 0) (λ e. absurd (omega arith))

short_low : Low (Err (TooShort sheet_cells))
short_low = other_low (TooShort sheet_cells) (λ e. absurd (omega arith))

-- ---- line after line

taken_low : (s : State) (end : ℕ) (y : Read Row) → LowRow y → Low (taken s end y).answer
taken_low s end (bad k) h = form_low s.line k (h k refl)
taken_low s end (says w) h = accepted_low

onward_low : (a : Answer) (s next : State) → Low s.answer → Low next.answer → Low (onward a s next).answer
onward_low (Ok _) s next h k = k
onward_low (Err r) s next h k = h

far_low : (b : Bool) (s next : State) → Low next.answer → Low (cond b (refuse (OutOfRange 0 0) s) next).answer
far_low true s next k = range_low
far_low false s next k = k

line_low : (s : State) (l : List ℕ) → Low s.answer → Low (line_of s l).answer
unfolding line_of
line_low s l h =
    let end = s.bytes + suc (length l) in
    let next = taken s end (judged s.last s.key (split 9 l)) in
    onward_low s.answer s (cond (ltb max_text end) (refuse (OutOfRange 0 0) s) next) h
    (far_low (ltb max_text end) s next (taken_low s end (judged s.last s.key (split 9 l)) (judged_low s.last s.key (split 9 l))))

last_low : (s : State) (l : List ℕ) → Low s.answer → Low (last_of s l).answer
unfolding last_of
last_low s l h =
    let far = ltb max_text (s.bytes + length l) in
    let next = cond (eqb (length l) 0 && ltb 1 s.line) s (refuse (NotInForm s.line 0) s) in
    onward_low s.answer s (cond far (refuse (OutOfRange 0 0) s) next) h (far_low far s next (by (eqb (length l) 0 && ltb 1 s.line)))
  where
    by : (b : Bool) → Low (cond b s (refuse (NotInForm s.line 0) s)).answer
    by true = h
    by false = form_low s.line 0 (omega arith)

lines_low : (s : State) (ls : List (List ℕ)) → Low s.answer → Low (lines_of s ls).answer
unfolding lines_of
lines_low s [] h = h
lines_low s (l ∷ []) h = last_low s l h
lines_low s (l ∷ m ∷ ls) h = lines_low (line_of s l) (m ∷ ls) (line_low s l h)

pub sheet_low : (text s : List ℕ) → Low (read_sheet text s).answer
unfolding read_sheet
sheet_low text s = by (ltb (length s) sheet_cells)
  where
    by : (b : Bool) → Low (cond b (left (Err (TooShort sheet_cells)) (zeros s)) (ended (lines_of (fresh (blank s)) (split 10 text)))).answer
    by true = short_low
    by false = lines_low (fresh (blank s)) (split 10 text) accepted_low
