-- What holds of every state that a text reaches. The definitions refuse states with more lines than bytes or more attributes than there is
-- room for, and keep a count in 32 bits: no text meets any of that, so that of a text the plain definitions below say the same.
use Prim.Native.Nat.{ℕ, zero, suc, ◌+◌, ◌-◌, ◌*◌, ◌%◌, ◌^◌, ◌≤◌, ◌<◌}
use mathlib.Core.Bool.{Bool, true, false, ◌&&◌, ◌||◌, cond}
use mathlib.Core.List.{List, [], ◌∷◌, ◌++◌}
use mathlib.Core.Path.{◌≡◌, refl, ◌∙◌, ap}
use native.Mathlib.Nat.{mod-eq_of_lt, mod-le}
use native.Mathlib.Omega.{arith}
use lib.Dec.{eqb, ltb, leb}
use lib.ListN.{length, get_or, set, replicate}
use lib.Seq.{sets, get_or-set_other}
use borrow.Author.Tests.{le-ltb, ltb-true, ltb-false, eqb-true}
use Rattle.fields.specs.Cut.{split, nth}
use Rattle.tables.specs.Sizes.{max_text, max_attributes}
use Rattle.tables.specs.Tables.{Tables}
use Rattle.tables.specs.Answer.{Answer}
use Rattle.std.specs.Prelude.{Ok, Err}
use Rattle.tables.specs.declared.Refusal.{Refusal}
use Rattle.tables.specs.declared.Refusal.TheVariants.{OutOfRange, NotInForm}
use Rattle.lines.specs.Field.{Read, says, bad}
use Rattle.lines.specs.Line.{OperationRow, header_line, type_line, value_line, operation_line, attribute_line, block_line, region_line, function_line}
use Rattle.stores.specs.Rows.{operation_cells}
use Rattle.stores.specs.Store.{one_attribute_more}
use Rattle.stores.proofs.Stores.{impossible}
use Rattle.house.specs.State.{State}
use Rattle.house.specs.House.{refuse, read, take_header, take_type, take_value, take_operation, take_attribute, take_block, take_region, take_function, Tag, header, type, value, operation, attribute, block, region, function, unknown, tag_of, well_placed, take_line, placed, onward, too_far, judged, line_of}
use Rattle.module_text.specs.Whole.{fresh, started, start_of, room_in, last_of, lines_of, house}

-- ---- the bounds

-- where the last operation counts its attributes
abbrev pub last_count : State → ℕ
last_count s = (s.tables.counts.operations - 1) * 16 + 8

pub record Sound (s : State) : Type 0 where
  pub lines : s.lines ≤ s.bytes
  pub bytes : s.bytes ≤ max_text
  pub attributes : s.tables.counts.attributes ≤ max_attributes
  -- among the operations and their attributes: those that the last operation counts
  pub last : s.phase ≡ 3 → get_or s.tables.o (last_count s) 0 ≤ s.tables.counts.attributes

refuse_sound : (q : Refusal) (s : State) → Sound (refuse q s)
refuse_sound q s = record { lines = omega arith; bytes = omega arith; attributes = omega arith; last = λ e. absurd (omega arith) }

set_le : (o : List ℕ) (k v : ℕ) → get_or (set o k v) k 0 ≤ v
set_le [] k v = omega arith
set_le (x ∷ xs) zero v = omega arith
set_le (x ∷ xs) (suc k) v = set_le xs k v

sets_below : (vs l : List ℕ) (i k : ℕ) → k < i → get_or (sets l i vs) k 0 ≡ get_or l k 0
sets_below [] l i k h = refl
sets_below (a ∷ vs) l i k h = sets_below vs (set l i a) (suc i) k (omega arith) ∙ get_or-set_other l i k a 0 (λ e. omega arith)

-- a row that begins with these cells and a 0 has that 0 there
zero_in_row : (front rest o : List ℕ) (i : ℕ) → get_or (sets o i (front ++ 0 ∷ rest)) (i + length front) 0 ≤ 0
zero_in_row [] rest o i =
    let e : i + 0 ≡ i = omega arith in
    rw (e, sets_below rest (set o i 0) (suc i) i (omega arith)) (set_le o i 0)
zero_in_row (c ∷ front) rest o i =
    let e : i + suc (length front) ≡ suc i + length front = omega arith in
    rw e (zero_in_row front rest (set o i c) (suc i))

both_true : (t u : Bool) → t && u ≡ true → t ≡ true
both_true true u e = refl
both_true false u e = impossible (cc)

second_true : (t u : Bool) → t && u ≡ true → u ≡ true
second_true true u e = e
second_true false u e = impossible (cc)

either : {P : Type 0} (t : Bool) → (t ≡ true → P) → (t ≡ false → P) → P
either true f g = f refl
either false f g = g refl

-- a line that ends within the text
module _ (s : State) (end : ℕ) (hs : Sound s) (hl : suc s.lines ≤ end) (he : end ≤ 65536) where
  read_sound : {A : Type 0} (y : Read A) (take : A → State) → ((w : A) → Sound (take w)) → Sound (read s y take)
  read_sound (bad k) take f = refuse_sound (NotInForm (suc s.lines) k) s
  read_sound (says w) take f = f w

  -- an `O` counts no attribute yet, and an `A` one more
  counts_none : (w : OperationRow) → get_or (sets s.tables.o (s.tables.counts.operations * 16) (operation_cells s.entries s.tables.counts.attributes w)) ((suc s.tables.counts.operations - 1) * 16 + 8) 0 ≤ s.tables.counts.attributes
  counts_none w =
      let k : (suc s.tables.counts.operations - 1) * 16 + 8 ≡ s.tables.counts.operations * 16 + 8 = omega arith in
      let z =
      zero_in_row
      (w.opcode ∷ s.entries ∷ length w.results ∷ (s.entries + length w.results) ∷ length w.operands
      ∷ (s.entries + length w.results + length w.operands) ∷ length w.regions ∷ s.tables.counts.attributes ∷ [])
      (replicate 7 0) s.tables.o (s.tables.counts.operations * 16)
      in
      rw k (omega (arith, z))

  counts_more : (fs : List (List ℕ)) → well_placed attribute fs s.phase ≡ true → get_or (one_attribute_more s.tables.o (last_count s)) (last_count s) 0 ≤ suc s.tables.counts.attributes
  counts_more fs p =
      let h = hs.last (eqb-true s.phase 3 (second_true (eqb (length fs) 4) (eqb s.phase 3) p)) in
      let a = set_le s.tables.o (last_count s) ((get_or s.tables.o (last_count s) 0 + 1) % 2 ^ 32) in
      let b = mod-le (get_or s.tables.o (last_count s) 0 + 1) (2 ^ 32) in
      omega arith

  line_sound : (fs : List (List ℕ)) (g : Tag) → well_placed g fs s.phase ≡ true → Sound (take_line s end fs g)
  line_sound fs header p = read_sound (header_line fs) (take_header s end) (λ w. record { lines = hl; bytes = he; attributes = hs.attributes; last = λ d. absurd (omega arith) })
  line_sound fs type p =
      read_sound (type_line fs) (take_type s end)
      (λ w. either (ltb s.tables.counts.types 1024 && leb (length w.dims) 8)
      (λ e. rw e (record { lines = hl; bytes = he; attributes = hs.attributes; last = λ d. absurd (omega arith) }))
      (λ e. rw e (refuse_sound (OutOfRange 1 s.tables.counts.types) s)))
  line_sound fs value p =
      read_sound (value_line fs) (take_value s end)
      (λ w. either (ltb s.tables.counts.values 4096)
      (λ e. rw e (record { lines = hl; bytes = he; attributes = hs.attributes; last = λ d. absurd (omega arith) }))
      (λ e. rw e (refuse_sound (OutOfRange 2 s.tables.counts.values) s)))
  line_sound fs operation p =
      read_sound (operation_line fs) (take_operation s end)
      (λ w. either (ltb s.tables.counts.operations 2048 && leb (s.entries + length (w.results ++ w.operands ++ w.regions)) 8192)
      (λ e. rw e (record { lines = hl; bytes = he; attributes = hs.attributes; last = λ d. counts_none w }))
      (λ e. rw e (refuse_sound (OutOfRange 3 s.tables.counts.operations) s)))
  line_sound fs attribute p =
      read_sound (attribute_line fs) (take_attribute s end)
      (λ w. either (ltb s.tables.counts.attributes 4096 && leb (s.entries + length w.numbers) 8192)
      (λ e. rw e (record { lines = hl; bytes = he; attributes = ltb-true s.tables.counts.attributes 4096 (both_true (ltb s.tables.counts.attributes 4096) (leb (s.entries + length w.numbers) 8192) e); last = λ d. counts_more fs p }))
      (λ e. rw e (refuse_sound (OutOfRange 4 s.tables.counts.attributes) s)))
  line_sound fs block p =
      read_sound (block_line fs) (take_block s end)
      (λ w. either (ltb s.tables.counts.blocks 512 && leb (s.entries + length (w.arguments ++ w.operations)) 8192)
      (λ e. rw e (record { lines = hl; bytes = he; attributes = hs.attributes; last = λ d. absurd (omega arith) }))
      (λ e. rw e (refuse_sound (OutOfRange 5 s.tables.counts.blocks) s)))
  line_sound fs region p =
      read_sound (region_line fs) (take_region s end)
      (λ w. either (ltb s.tables.counts.regions 512 && leb (s.entries + length w) 8192)
      (λ e. rw e (record { lines = hl; bytes = he; attributes = hs.attributes; last = λ d. absurd (omega arith) }))
      (λ e. rw e (refuse_sound (OutOfRange 6 s.tables.counts.regions) s)))
  line_sound fs function p =
      read_sound (function_line fs) (take_function s end)
      (λ w. either (ltb s.tables.counts.functions 64)
      (λ e. rw e (record { lines = hl; bytes = he; attributes = hs.attributes; last = λ d. absurd (omega arith) }))
      (λ e. rw e (refuse_sound (OutOfRange 7 s.tables.counts.functions) s)))
  line_sound fs unknown p = refuse_sound (NotInForm (suc s.lines) 1) s

  placed_sound : (fs : List (List ℕ)) (g : Tag) (t : Bool) → well_placed g fs s.phase ≡ t → Sound (cond t (take_line s end fs g) (refuse (NotInForm (suc s.lines) 0) s))
  placed_sound fs g true p = line_sound fs g p
  placed_sound fs g false p = refuse_sound (NotInForm (suc s.lines) 0) s

-- ---- the guards never speak

far_is : (s : State) (end : ℕ) → Sound s → too_far s end ≡ ltb max_text end
far_is s end h =
    rw (le-ltb 65536 s.lines (let b = h.lines in let c = h.bytes in omega arith), le-ltb 4096 s.tables.counts.attributes h.attributes)
    (or_false (ltb 65536 end))
  where
    or_false : (t : Bool) → t || false ≡ t
    or_false true = refl
    or_false false = refl

judged_sound : (s : State) (line : List ℕ) → Sound s → Sound (judged s line)
unfolding judged
judged_sound s line h = rw (far_is s (s.bytes + suc (length line)) h) (by (ltb 65536 (s.bytes + suc (length line))) refl)
  where
    by : (t : Bool) → ltb 65536 (s.bytes + suc (length line)) ≡ t
        → Sound (cond t (refuse (OutOfRange 0 0) s) (placed s (s.bytes + suc (length line)) (split 9 line) (tag_of (nth 0 (split 9 line)))))
    by true e = refuse_sound (OutOfRange 0 0) s
    by false e =
        placed_sound s (s.bytes + suc (length line)) h (let b = h.lines in omega arith) (ltb-false 65536 (s.bytes + suc (length line)) e)
        (split 9 line) (tag_of (nth 0 (split 9 line))) (well_placed (tag_of (nth 0 (split 9 line))) (split 9 line) s.phase) refl

onward_sound : (q : Answer) (s next : State) → Sound s → Sound next → Sound (onward q s next)
onward_sound (Ok _) s next h k = k
onward_sound (Err r) s next h k = h

one_line : (s : State) (line : List ℕ) → Sound s → Sound (line_of s line)
unfolding line_of
one_line s line h = onward_sound s.answer s (judged s line) h (judged_sound s line h)

-- ---- after any lines

unfoldable pub after : State → List (List ℕ) → State
after s [] = s
after s (l ∷ ls) = after (line_of s l) ls

fresh_sound : (x : Tables) → Sound (fresh x)
fresh_sound x = record { lines = omega arith; bytes = omega arith; attributes = omega arith; last = λ e. absurd (omega arith) }

start_sound : (x : Tables) → Sound (start_of x)
start_sound x = by (room_in x)
  where
    by : (q : Answer) → Sound (started q (fresh x))
    by (Ok _) = fresh_sound x
    by (Err r) = refuse_sound r (fresh x)

after_sound : (s : State) (ls : List (List ℕ)) → Sound s → Sound (after s ls)
unfolding after
after_sound s [] h = h
after_sound s (l ∷ ls) h = after_sound (line_of s l) ls (one_line s l h)

-- "text 65,536 bytes", "attributes 4,096": lines ≤ bytes ≤ 65,536 and attributes ≤ 4,096 after any lines
pub reached : (x : Tables) (ls : List (List ℕ)) → Sound (after (start_of x) ls)
reached x ls = after_sound (start_of x) ls (start_sound x)

-- so where an `A` may stand, the count of its operation is one more, and no 32 bits are passed
pub one_more : (x : Tables) (ls : List (List ℕ)) → (after (start_of x) ls).phase ≡ 3
    → one_attribute_more (after (start_of x) ls).tables.o (last_count (after (start_of x) ls))
    ≡ set (after (start_of x) ls).tables.o (last_count (after (start_of x) ls)) (get_or (after (start_of x) ls).tables.o (last_count (after (start_of x) ls)) 0 + 1)
one_more x ls e = by (after (start_of x) ls) (reached x ls) e
  where
    by : (s : State) → Sound s → s.phase ≡ 3
        → one_attribute_more s.tables.o (last_count s) ≡ set s.tables.o (last_count s) (get_or s.tables.o (last_count s) 0 + 1)
    by s h e =
        let l = h.last e in
        let a = h.attributes in
        let small : get_or s.tables.o (last_count s) 0 + 1 < 2 ^ 32 = omega arith in
        ap (set s.tables.o (last_count s)) (mod-eq_of_lt small)

-- ---- the same without the guards: a line is too far exactly where it ends past byte 65,536

abbrev pub plain_line : State → List ℕ → State
plain_line s line =
    let end = s.bytes + suc (length line) in
    onward s.answer s
    (cond (ltb max_text end) (refuse (OutOfRange 0 0) s) (placed s end (split 9 line) (tag_of (nth 0 (split 9 line)))))

abbrev pub plain_last : State → ℕ → State
plain_last s left =
    onward s.answer s
    (cond (eqb left 0 && ltb 0 s.lines) s
    (cond (ltb max_text (s.bytes + left)) (refuse (OutOfRange 0 0) s) (refuse (NotInForm (suc s.lines) 0) s)))

unfoldable pub plain_lines : State → List (List ℕ) → State
plain_lines s [] = s
plain_lines s (l ∷ []) = plain_last s (length l)
plain_lines s (l ∷ m ∷ ls) = plain_lines (plain_line s l) (m ∷ ls)

line_plain : (s : State) (line : List ℕ) → Sound s → line_of s line ≡ plain_line s line
unfolding line_of judged
line_plain s line h =
    ap (λ (t : Bool). onward s.answer s (cond t (refuse (OutOfRange 0 0) s) (placed s (s.bytes + suc (length line)) (split 9 line) (tag_of (nth 0 (split 9 line))))))
    (far_is s (s.bytes + suc (length line)) h)

last_plain : (s : State) (left : ℕ) → Sound s → last_of s left ≡ plain_last s left
last_plain s left h =
    ap (λ (t : Bool). onward s.answer s (cond (eqb left 0 && ltb 0 s.lines) s (cond t (refuse (OutOfRange 0 0) s) (refuse (NotInForm (suc s.lines) 0) s))))
    (far_is s (s.bytes + left) h)

lines_plain : (s : State) (ls : List (List ℕ)) → Sound s → lines_of s ls ≡ plain_lines s ls
unfolding lines_of plain_lines
lines_plain s [] h = refl
lines_plain s (l ∷ []) h = last_plain s (length l) h
lines_plain s (l ∷ m ∷ ls) h = lines_plain (line_of s l) (m ∷ ls) (one_line s l h) ∙ ap (λ (y : State). plain_lines y (m ∷ ls)) (line_plain s l h)

pub house_plain : (text : List ℕ) (x : Tables) → house text x ≡ plain_lines (start_of x) (split 10 text)
unfolding house
house_plain text x = lines_plain (start_of x) (split 10 text) (start_sound x)
