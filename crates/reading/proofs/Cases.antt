-- A line that is taken, by its kind: its tag, what it says, where it may stand and the room that it had. The one place of this crate and of
-- `said` where the kinds of line are gone through. Assumes nothing.
use Prim.Native.Nat.{ℕ, suc, ◌+◌, ◌*◌, ◌-◌, ◌≤◌, ◌<◌}
use mathlib.Core.Bool.{Bool, true, false, ◌&&◌, cond, and-eq-true_iff}
use mathlib.Core.List.{List, ◌++◌}
use mathlib.Core.Path.{◌≡◌, refl}
use native.Mathlib.Omega.{arith}
use lib.Dec.{eqb, ltb, leb}
use lib.ListN.{length, set}
use lib.Seq.{sets}
use borrow.Author.Tests.{ltb-true, leb-true, eqb-true}
use Rattle.fields.specs.Cut.{split, nth}
use Rattle.tables.specs.Tables.{Tables, lent}
use Rattle.tables.specs.declared.Counts.{Counts}
use Rattle.tables.specs.Answer.{Answer}
use Rattle.std.specs.Prelude.{Ok, Err}
use Rattle.tables.specs.declared.Refusal.{Refusal}
use Rattle.tables.specs.declared.Refusal.TheVariants.{OutOfRange, NotInForm}
use Rattle.lines.specs.Field.{Read, says, bad}
use Rattle.lines.specs.Line.{HeaderRow, TypeRow, ValueRow, OperationRow, AttributeRow, BlockRow, header_line, type_line, value_line, operation_line, attribute_line, block_line, region_line, function_line}
use Rattle.stores.specs.Rows.{type_cells, value_cells, operation_cells, attribute_cells, block_cells, region_cells}
use Rattle.stores.specs.Store.{one_attribute_more}
use Rattle.stores.proofs.Stores.{impossible}
use Rattle.house.specs.State.{State}
use Rattle.house.specs.House.{refuse, taken, counts, or_size, read, take_header, take_type, take_value, take_operation, take_attribute, take_block, take_region, take_function, Tag, header, type, value, operation, attribute, block, region, function, unknown, tag_of, well_placed, take_line, onward, too_far, judged, line_of}
use Rattle.module_text.specs.Whole.{last_of}

-- ---- the state after a line that had room

module _ (s : State) (end : ℕ) where
  abbrev x : Tables
  x = s.tables

  abbrev n : Counts
  n = s.tables.counts

  abbrev pub took_type : TypeRow → State
  took_type w =
      taken s 1 end 0
      (lent (sets x.t (n.types * 16) (type_cells w)) x.v x.o x.a x.b x.r x.f x.l
      (counts (suc n.types) n.values n.operations n.attributes n.blocks n.regions n.functions))

  abbrev pub took_value : ValueRow → State
  took_value w =
      taken s 2 end 0
      (lent x.t (sets x.v (n.values * 4) (value_cells w)) x.o x.a x.b x.r x.f x.l
      (counts n.types (suc n.values) n.operations n.attributes n.blocks n.regions n.functions))

  abbrev pub took_operation : OperationRow → State
  took_operation w =
      let more = w.results ++ w.operands ++ w.regions in
      taken s 3 end (length more)
      (lent x.t x.v (sets x.o (n.operations * 16) (operation_cells s.entries n.attributes w)) x.a x.b x.r x.f
      (sets x.l s.entries more)
      (counts n.types n.values (suc n.operations) n.attributes n.blocks n.regions n.functions))

  abbrev pub took_attribute : AttributeRow → State
  took_attribute w =
      taken s 3 end (length w.numbers)
      (lent x.t x.v (one_attribute_more x.o ((n.operations - 1) * 16 + 8)) (sets x.a (n.attributes * 8) (attribute_cells s.entries w))
      x.b x.r x.f (sets x.l s.entries w.numbers)
      (counts n.types n.values n.operations (suc n.attributes) n.blocks n.regions n.functions))

  abbrev pub took_block : BlockRow → State
  took_block w =
      let more = w.arguments ++ w.operations in
      taken s 4 end (length more)
      (lent x.t x.v x.o x.a (sets x.b (n.blocks * 4) (block_cells s.entries w)) x.r x.f (sets x.l s.entries more)
      (counts n.types n.values n.operations n.attributes (suc n.blocks) n.regions n.functions))

  abbrev pub took_region : List ℕ → State
  took_region blocks =
      taken s 5 end (length blocks)
      (lent x.t x.v x.o x.a x.b (sets x.r (n.regions * 2) (region_cells s.entries blocks)) x.f
      (sets x.l s.entries blocks)
      (counts n.types n.values n.operations n.attributes n.blocks (suc n.regions) n.functions))

  abbrev pub took_function : ℕ → State
  took_function i =
      taken s 6 end 0
      (lent x.t x.v x.o x.a x.b x.r (set x.f n.functions i) x.l
      (counts n.types n.values n.operations n.attributes n.blocks n.regions (suc n.functions)))

-- ---- a line of each kind gives P of the state after it

pub record Cases (P : State → Type 0) (s : State) (end : ℕ) (fs : List (List ℕ)) : Type 0 where
  pub on_header : (w : HeaderRow) → tag_of (nth 0 fs) ≡ header → header_line fs ≡ says w → s.phase ≡ 0 → P (take_header s end w)
  pub on_type : (w : TypeRow) → tag_of (nth 0 fs) ≡ type → type_line fs ≡ says w → 0 < s.phase → s.tables.counts.types < 1024
      → length w.dims ≤ 8 → P (took_type s end w)
  pub on_value : (w : ValueRow) → tag_of (nth 0 fs) ≡ value → value_line fs ≡ says w → 0 < s.phase → s.tables.counts.values < 4096
      → P (took_value s end w)
  pub on_operation : (w : OperationRow) → tag_of (nth 0 fs) ≡ operation → operation_line fs ≡ says w → 0 < s.phase
      → s.tables.counts.operations < 2048 → s.entries + length (w.results ++ w.operands ++ w.regions) ≤ 8192 → P (took_operation s end w)
  pub on_attribute : (w : AttributeRow) → tag_of (nth 0 fs) ≡ attribute → attribute_line fs ≡ says w → s.phase ≡ 3
      → s.tables.counts.attributes < 4096 → s.entries + length w.numbers ≤ 8192 → P (took_attribute s end w)
  pub on_block : (w : BlockRow) → tag_of (nth 0 fs) ≡ block → block_line fs ≡ says w → 0 < s.phase → s.tables.counts.blocks < 512
      → s.entries + length (w.arguments ++ w.operations) ≤ 8192 → P (took_block s end w)
  pub on_region : (w : List ℕ) → tag_of (nth 0 fs) ≡ region → region_line fs ≡ says w → 0 < s.phase → s.tables.counts.regions < 512
      → s.entries + length w ≤ 8192 → P (took_region s end w)
  pub on_function : (i : ℕ) → tag_of (nth 0 fs) ≡ function → function_line fs ≡ says i → 0 < s.phase → s.tables.counts.functions < 64
      → P (took_function s end i)

pub both : (t u : Bool) → t && u ≡ true → (t ≡ true) × (u ≡ true)
both t u e = (and-eq-true_iff t u).0 e

module _ (P : State → Type 0) where
  -- of a state that is not refused
  abbrev Kept : State → Type 0
  Kept s = s.answer ≡ Ok tt → P s

  refused_kept : (q : Refusal) (s : State) → Kept (refuse q s)
  refused_kept q s e = impossible (cc)

  module _ (s : State) (end : ℕ) (fs : List (List ℕ)) (c : Cases P s end fs) where
    read_kept : {A : Type 0} (y : Read A) (take : A → State) → ((w : A) → y ≡ says w → Kept (take w)) → Kept (read s y take)
    read_kept (bad k) take f = refused_kept (NotInForm (suc s.lines) k) s
    read_kept (says w) take f = f w refl

    -- room for an entry; for an entry and so much else
    entered : (e size table : ℕ) (next : State) → (e < size → P next) → Kept (or_size (ltb e size) table e s next)
    entered e size table next f = by (ltb e size) refl
      where
        by : (t : Bool) → ltb e size ≡ t → Kept (or_size t table e s next)
        by true q = λ _. f (ltb-true e size q)
        by false q = refused_kept (OutOfRange table e) s

    sized : (e size a m table : ℕ) (next : State) → (e < size → a ≤ m → P next) → Kept (or_size (ltb e size && leb a m) table e s next)
    sized e size a m table next f = by (ltb e size && leb a m) refl
      where
        by : (t : Bool) → ltb e size && leb a m ≡ t → Kept (or_size t table e s next)
        by true q = let b = both (ltb e size) (leb a m) q in λ _. f (ltb-true e size b.0) (leb-true a m b.1)
        by false q = refused_kept (OutOfRange table e) s

    -- a line after the header
    later : (t u : Bool) → t && (ltb 0 s.phase && u) ≡ true → 0 < s.phase
    later t u e = ltb-true 0 s.phase (both (ltb 0 s.phase) u (both t (ltb 0 s.phase && u) e).1).0

    line_kept : (g : Tag) → tag_of (nth 0 fs) ≡ g → well_placed g fs s.phase ≡ true → Kept (take_line s end fs g)
    line_kept header i p =
        read_kept (header_line fs) (take_header s end) (λ w q _. c.on_header w i q (eqb-true s.phase 0 (both (eqb (length fs) 4) (eqb s.phase 0) p).1))
    line_kept type i p =
        read_kept (type_line fs) (take_type s end)
        (λ w q. sized s.tables.counts.types 1024 (length w.dims) 8 1 _
        (c.on_type w i q (one (eqb-true s.phase 1 (both (eqb (length fs) 7) (eqb s.phase 1) p).1))))
      where
        one : s.phase ≡ 1 → 0 < s.phase
        one e = omega arith
    line_kept value i p =
        read_kept (value_line fs) (take_value s end)
        (λ w q. entered s.tables.counts.values 4096 2 _ (c.on_value w i q (later (eqb (length fs) 4) (leb s.phase 2) p)))
    line_kept operation i p =
        read_kept (operation_line fs) (take_operation s end)
        (λ w q. sized s.tables.counts.operations 2048 (s.entries + length (w.results ++ w.operands ++ w.regions)) 8192 3 _
        (c.on_operation w i q (later (eqb (length fs) 5) (leb s.phase 3) p)))
    line_kept attribute i p =
        read_kept (attribute_line fs) (take_attribute s end)
        (λ w q. sized s.tables.counts.attributes 4096 (s.entries + length w.numbers) 8192 4 _
        (c.on_attribute w i q (eqb-true s.phase 3 (both (eqb (length fs) 4) (eqb s.phase 3) p).1)))
    line_kept block i p =
        read_kept (block_line fs) (take_block s end)
        (λ w q. sized s.tables.counts.blocks 512 (s.entries + length (w.arguments ++ w.operations)) 8192 5 _
        (c.on_block w i q (later (eqb (length fs) 3) (leb s.phase 4) p)))
    line_kept region i p =
        read_kept (region_line fs) (take_region s end)
        (λ w q. sized s.tables.counts.regions 512 (s.entries + length w) 8192 6 _
        (c.on_region w i q (later (eqb (length fs) 2) (leb s.phase 5) p)))
    line_kept function i p =
        read_kept (function_line fs) (take_function s end)
        (λ w q. entered s.tables.counts.functions 64 7 _ (c.on_function w i q (later (eqb (length fs) 2) (leb s.phase 6) p)))
    line_kept unknown i p = refused_kept (NotInForm (suc s.lines) 1) s

    placed_kept : (g : Tag) (t : Bool) → tag_of (nth 0 fs) ≡ g → well_placed g fs s.phase ≡ t
        → Kept (cond t (take_line s end fs g) (refuse (NotInForm (suc s.lines) 0) s))
    placed_kept g true i p = line_kept g i p
    placed_kept g false i p = refused_kept (NotInForm (suc s.lines) 0) s

  -- one line; nothing more is taken after a refusal
  pub line_cases : (s : State) (line : List ℕ) → (s.answer ≡ Ok tt → Cases P s (s.bytes + suc (length line)) (split 9 line)) → Kept (line_of s line)
  unfolding line_of judged
  line_cases s line c = by s.answer refl
    where
      end : ℕ
      end = s.bytes + suc (length line)

      fs : List (List ℕ)
      fs = split 9 line

      near : Cases P s end fs → (t : Bool)
          → Kept (cond t (refuse (OutOfRange 0 0) s) (cond (well_placed (tag_of (nth 0 fs)) fs s.phase) (take_line s end fs (tag_of (nth 0 fs))) (refuse (NotInForm (suc s.lines) 0) s)))
      near d true = refused_kept (OutOfRange 0 0) s
      near d false = placed_kept s end fs d (tag_of (nth 0 fs)) (well_placed (tag_of (nth 0 fs)) fs s.phase) refl refl

      by : (q : Answer) → s.answer ≡ q → Kept (onward q s (judged s line))
      by (Ok _) e = near (c e) (too_far s end)
      by (Err r) e = λ a. impossible (cc)

  -- what follows the last LF: nothing, and there was a line
  pub last_cases : (s : State) (left : ℕ) → (s.answer ≡ Ok tt → 0 < s.lines → P s) → Kept (last_of s left)
  last_cases s left f = by s.answer refl (eqb left 0 && ltb 0 s.lines) refl (too_far s (s.bytes + left))
    where
      by : (q : Answer) → s.answer ≡ q → (t : Bool) → eqb left 0 && ltb 0 s.lines ≡ t → (u : Bool)
          → Kept (onward q s (cond t s (cond u (refuse (OutOfRange 0 0) s) (refuse (NotInForm (suc s.lines) 0) s))))
      by (Ok _) e true h u = λ a. f e (ltb-true 0 s.lines (both (eqb left 0) (ltb 0 s.lines) h).1)
      by (Ok _) e false h true = refused_kept (OutOfRange 0 0) s
      by (Ok _) e false h false = refused_kept (NotInForm (suc s.lines) 0) s
      by (Err r) e t h u = λ a. impossible (cc)
