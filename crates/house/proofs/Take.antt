-- One line taken: what was stored and the reading after it, with the tables zeroed where it is refused, is what the definition says.
use Rattle.std.specs.Prelude.{Result, Ok, Err}
use Prim.Native.Nat.{ℕ, suc, ◌+◌, ◌-◌, ◌*◌, ◌%◌, ◌^◌, ◌≤◌, ◌<◌}
use mathlib.Core.Bool.{Bool, true, false, ◌&&◌, ◌||◌, cond}
use mathlib.Core.List.{List, ◌++◌}
use mathlib.Core.Path.{◌≡◌, refl, sym, ◌∙◌, ap}
use native.Mathlib.Omega.{arith}
use native.Mathlib.Nat.{mod-eq_of_lt}
use lib.Dec.{eqb, ltb, leb}
use lib.ListN.{length, get_or, set, length-set}
use lib.Seq.{sets, length-sets}
use borrow.Author.Tests.{lt-ltb, ltb-true, ltb-false}
use Rattle.fields.specs.Cut.{split, nth}
use Rattle.tables.specs.Tables.{Tables, lent}
use Rattle.tables.specs.declared.Counts.{Counts}
use Rattle.tables.specs.Answer.{Answer}
use Rattle.std.specs.Prelude.{Ok, Err}
use Rattle.tables.specs.declared.Refusal.{Refusal}
use Rattle.tables.specs.declared.Refusal.TheVariants.{OutOfRange, NotInForm}
use Rattle.lines.specs.Field.{Read, says, bad}
use Rattle.lines.specs.Line.{HeaderRow, TypeRow, ValueRow, OperationRow, AttributeRow, BlockRow, header_line, type_line, value_line, operation_line, attribute_line, block_line, region_line, function_line}
use Rattle.lines.specs.Into.{Left, left}
use Rattle.lines.specs.Answer.{operation_numbers, attribute_numbers, block_numbers, region_numbers}
use Rattle.lines.proofs.Says.{operation_says, attribute_says, block_says, region_says}
use Rattle.stores.specs.Rows.{type_cells, value_cells, operation_cells, attribute_cells, block_cells, region_cells}
use Rattle.stores.specs.Store.{type_store, value_store, function_store, Both, both, operation_row, operation_store, attribute_row, attribute_store, block_row, block_store, region_row, region_store, one_attribute_more}
use Rattle.house.specs.State.{State}
use Rattle.house.specs.House.{no_counts, zeros, zeroed, refuse, taken, counts, or_size, read, take_header, take_type, take_value, take_operation, take_attribute, take_block, take_region, take_function, Tag, header, type, value, operation, attribute, block, region, function, unknown, tag_of, fields_of, in_order, take_line, well_placed, placed, too_far, judged, onward, line_of}
use Rattle.house.specs.Step.{kind_at, tag_in, fits, kind_by, kind_of, next, first_reading, refusing, table_of, count_of, counted, phase_of, advance_of, header_next, state_of, settled_by, settled}
use Rattle.lines.specs.declared.BadField.{BadField}
use Rattle.lines.specs.Answer.{bad_field}
use Rattle.house.specs.declared.Kind.{Kind}
use Rattle.house.specs.declared.Kind.TheVariants.{Header, «Type», Value, Operation, Attribute, Block, Region, Function}
use Rattle.house.specs.declared.Reading.{Reading}
use Rattle.stores.specs.declared.Unstored.{Unstored}
use Rattle.stores.specs.declared.Unstored.TheVariants.{Bad, Full}

next_is : (x : ℕ) → x < 2 ^ 32 → next x ≡ suc x
next_is x h = rw (lt-ltb x (2 ^ 32) h)

-- ---- the three ways a line ends
module _ (s s' : Reading) (x x' : Tables) where
  pub settled_refused : (q : Refusal) → s' ≡ refusing q → zeroed x' ≡ zeroed x → settled (state_of s' x') ≡ refuse q (state_of s x)
  settled_refused q e z =
      ap (λ (y : Reading). settled (state_of y x')) e
      ∙ ap (λ (y : Tables). record { phase = 0; lines = 0; bytes = 0; entries = 0; version = 0; sm = 0; tables = y; answer = Err q }) z

  module _ (k : Kind) (end : ℕ) where
    pub settled_bad : (field : ℕ) → s' ≡ advance_of s k end (Err (Bad field)) → s.lines < 2 ^ 32 → zeroed x' ≡ zeroed x
        → settled (state_of s' x') ≡ refuse (NotInForm (suc s.lines) field) (state_of s x)
    unfolding advance_of
    settled_bad field e h z =
        settled_refused (NotInForm (suc s.lines) field) (e ∙ ap (λ (n : ℕ). refusing (NotInForm n field)) (next_is s.lines h)) z

    settled_full : s' ≡ advance_of s k end (Err Full) → zeroed x' ≡ zeroed x
        → settled (state_of s' x') ≡ refuse (OutOfRange (table_of k) (count_of s.counts k)) (state_of s x)
    unfolding advance_of
    settled_full e z = settled_refused (OutOfRange (table_of k) (count_of s.counts k)) e z

    settled_taken : (entries more : ℕ) (n : Counts) → s' ≡ advance_of s k end (Ok entries) → s.lines < 2 ^ 32 → entries ≡ s.entries + more
        → counted s.counts k ≡ n
        → settled (state_of s' x') ≡ taken (state_of s x) (phase_of k) end more (lent x'.t x'.v x'.o x'.a x'.b x'.r x'.f x'.l n)
    unfolding advance_of
    settled_taken entries more n e h ee en =
        ap (λ (y : Reading). settled (state_of y x')) e
        ∙ ap (λ (m : ℕ). settled (state_of (at m entries (counted s.counts k)) x')) (next_is s.lines h)
        ∙ ap (λ (m : ℕ). settled (state_of (at (suc s.lines) m (counted s.counts k)) x')) ee
        ∙ ap (λ (m : Counts). settled (state_of (at (suc s.lines) (s.entries + more) m) x')) en
      where
        at : ℕ → ℕ → Counts → Reading
        at line entries n =
            record { phase = phase_of k; lines = line; bytes = end; entries = entries; version = s.version; sm = s.sm; counts = n; answer = (Ok tt) }

both_true : (t u : Bool) → t && u ≡ true → t ≡ true
both_true true u e = refl
both_true false u e = cc

-- ---- `T`
module _ (s s' : Reading) (end : ℕ) (t v o a b r f l : List ℕ) (fs : List (List ℕ)) (h : s.lines < 2 ^ 32) (step : Result ℕ Unstored) (t' : List ℕ)
    (e : left step t' ≡ type_store s.entries s.counts.types (type_line fs) t) (es : s' ≡ advance_of s «Type» end step) where
  pub took_type_lem : settled (state_of s' (lent t' v o a b r f l no_counts)) ≡ take_line (state_of s (lent t v o a b r f l no_counts)) end fs type
  unfolding type_store
  took_type_lem = by (type_line fs) e
    where
      x : Tables
      x = lent t v o a b r f l no_counts

      x' : Tables
      x' = lent t' v o a b r f l no_counts

      long : length t' ≡ length t → zeroed x' ≡ zeroed x
      long q = rw q

      small : (w : TypeRow) → ltb s.counts.types 1024 && leb (length w.dims) 8 ≡ true → s.counts.types < 2 ^ 32
      small w q = let a = ltb-true s.counts.types 1024 (both_true (ltb s.counts.types 1024) (leb (length w.dims) 8) q) in omega arith

      room : (T : Bool) (w : TypeRow) → ltb s.counts.types 1024 && leb (length w.dims) 8 ≡ T → left step t' ≡ cond T (left (Ok s.entries) (sets t (s.counts.types * 16) (type_cells w))) (left (Err Full) t)
          → settled (state_of s' x') ≡ or_size T 1 s.counts.types (state_of s x)
          (taken (state_of s x) 1 end 0 (lent (sets t (s.counts.types * 16) (type_cells w)) v o a b r f l (counts (suc s.counts.types) s.counts.values s.counts.operations s.counts.attributes s.counts.blocks s.counts.regions s.counts.functions)))
      room true w q d =
          let st : step ≡ Ok s.entries = ap (λ (y : Left (Result ℕ Unstored)). y.answer) d in
          let tb : t' ≡ sets t (s.counts.types * 16) (type_cells w) = ap (λ (y : Left (Result ℕ Unstored)). y.entries) d in
          settled_taken s s' x x' «Type» end s.entries 0 (counts (suc s.counts.types) s.counts.values s.counts.operations s.counts.attributes s.counts.blocks s.counts.regions s.counts.functions) (es ∙ ap (advance_of s «Type» end) st) h (omega arith)
          (ap (λ (m : ℕ). counts m s.counts.values s.counts.operations s.counts.attributes s.counts.blocks s.counts.regions s.counts.functions) (next_is s.counts.types (small w q)))
          ∙ ap (λ (y : List ℕ). taken (state_of s x) 1 end 0 (lent y v o a b r f l (counts (suc s.counts.types) s.counts.values s.counts.operations s.counts.attributes s.counts.blocks s.counts.regions s.counts.functions))) tb
      room false w q d =
          let st : step ≡ Err Full = ap (λ (y : Left (Result ℕ Unstored)). y.answer) d in
          let tb : t' ≡ t = ap (λ (y : Left (Result ℕ Unstored)). y.entries) d in
          settled_full s s' x x' «Type» end (es ∙ ap (advance_of s «Type» end) st) (long (ap length tb))

      by : (y : Read TypeRow) → left step t' ≡ type_store s.entries s.counts.types y t
          → settled (state_of s' x') ≡ read (state_of s x) y (take_type (state_of s x) end)
      by (bad k) d =
          let st : step ≡ Err (Bad k) = ap (λ (y : Left (Result ℕ Unstored)). y.answer) d in
          let tb : t' ≡ t = ap (λ (y : Left (Result ℕ Unstored)). y.entries) d in
          settled_bad s s' x x' «Type» end k (es ∙ ap (advance_of s «Type» end) st) h (long (ap length tb))
      by (says w) d = room (ltb s.counts.types 1024 && leb (length w.dims) 8) w refl d

-- ---- `V`
module _ (s s' : Reading) (end : ℕ) (t v o a b r f l : List ℕ) (fs : List (List ℕ)) (h : s.lines < 2 ^ 32) (step : Result ℕ Unstored) (v' : List ℕ)
    (e : left step v' ≡ value_store s.entries s.counts.values (value_line fs) v) (es : s' ≡ advance_of s Value end step) where
  pub took_value_lem : settled (state_of s' (lent t v' o a b r f l no_counts)) ≡ take_line (state_of s (lent t v o a b r f l no_counts)) end fs value
  unfolding value_store
  took_value_lem = by (value_line fs) e
    where
      x : Tables
      x = lent t v o a b r f l no_counts

      x' : Tables
      x' = lent t v' o a b r f l no_counts

      long : length v' ≡ length v → zeroed x' ≡ zeroed x
      long q = rw q

      small : (w : ValueRow) → ltb s.counts.values 4096 ≡ true → s.counts.values < 2 ^ 32
      small w q = let a = ltb-true s.counts.values 4096 q in omega arith

      room : (T : Bool) (w : ValueRow) → ltb s.counts.values 4096 ≡ T → left step v' ≡ cond T (left (Ok s.entries) (sets v (s.counts.values * 4) (value_cells w))) (left (Err Full) v)
          → settled (state_of s' x') ≡ or_size T 2 s.counts.values (state_of s x)
          (taken (state_of s x) 2 end 0 (lent t (sets v (s.counts.values * 4) (value_cells w)) o a b r f l (counts s.counts.types (suc s.counts.values) s.counts.operations s.counts.attributes s.counts.blocks s.counts.regions s.counts.functions)))
      room true w q d =
          let st : step ≡ Ok s.entries = ap (λ (y : Left (Result ℕ Unstored)). y.answer) d in
          let tb : v' ≡ sets v (s.counts.values * 4) (value_cells w) = ap (λ (y : Left (Result ℕ Unstored)). y.entries) d in
          settled_taken s s' x x' Value end s.entries 0 (counts s.counts.types (suc s.counts.values) s.counts.operations s.counts.attributes s.counts.blocks s.counts.regions s.counts.functions) (es ∙ ap (advance_of s Value end) st) h (omega arith)
          (ap (λ (m : ℕ). counts s.counts.types m s.counts.operations s.counts.attributes s.counts.blocks s.counts.regions s.counts.functions) (next_is s.counts.values (small w q)))
          ∙ ap (λ (y : List ℕ). taken (state_of s x) 2 end 0 (lent t y o a b r f l (counts s.counts.types (suc s.counts.values) s.counts.operations s.counts.attributes s.counts.blocks s.counts.regions s.counts.functions))) tb
      room false w q d =
          let st : step ≡ Err Full = ap (λ (y : Left (Result ℕ Unstored)). y.answer) d in
          let tb : v' ≡ v = ap (λ (y : Left (Result ℕ Unstored)). y.entries) d in
          settled_full s s' x x' Value end (es ∙ ap (advance_of s Value end) st) (long (ap length tb))

      by : (y : Read ValueRow) → left step v' ≡ value_store s.entries s.counts.values y v
          → settled (state_of s' x') ≡ read (state_of s x) y (take_value (state_of s x) end)
      by (bad k) d =
          let st : step ≡ Err (Bad k) = ap (λ (y : Left (Result ℕ Unstored)). y.answer) d in
          let tb : v' ≡ v = ap (λ (y : Left (Result ℕ Unstored)). y.entries) d in
          settled_bad s s' x x' Value end k (es ∙ ap (advance_of s Value end) st) h (long (ap length tb))
      by (says w) d = room (ltb s.counts.values 4096) w refl d

-- ---- `F`
module _ (s s' : Reading) (end : ℕ) (t v o a b r f l : List ℕ) (fs : List (List ℕ)) (h : s.lines < 2 ^ 32) (step : Result ℕ Unstored) (f' : List ℕ)
    (e : left step f' ≡ function_store s.entries s.counts.functions (function_line fs) f) (es : s' ≡ advance_of s Function end step) where
  pub took_function_lem : settled (state_of s' (lent t v o a b r f' l no_counts)) ≡ take_line (state_of s (lent t v o a b r f l no_counts)) end fs function
  unfolding function_store
  took_function_lem = by (function_line fs) e
    where
      x : Tables
      x = lent t v o a b r f l no_counts

      x' : Tables
      x' = lent t v o a b r f' l no_counts

      long : length f' ≡ length f → zeroed x' ≡ zeroed x
      long q = rw q

      small : (w : ℕ) → ltb s.counts.functions 64 ≡ true → s.counts.functions < 2 ^ 32
      small w q = let a = ltb-true s.counts.functions 64 q in omega arith

      room : (T : Bool) (w : ℕ) → ltb s.counts.functions 64 ≡ T → left step f' ≡ cond T (left (Ok s.entries) (set f s.counts.functions w)) (left (Err Full) f)
          → settled (state_of s' x') ≡ or_size T 7 s.counts.functions (state_of s x)
          (taken (state_of s x) 6 end 0 (lent t v o a b r (set f s.counts.functions w) l (counts s.counts.types s.counts.values s.counts.operations s.counts.attributes s.counts.blocks s.counts.regions (suc s.counts.functions))))
      room true w q d =
          let st : step ≡ Ok s.entries = ap (λ (y : Left (Result ℕ Unstored)). y.answer) d in
          let tb : f' ≡ set f s.counts.functions w = ap (λ (y : Left (Result ℕ Unstored)). y.entries) d in
          settled_taken s s' x x' Function end s.entries 0 (counts s.counts.types s.counts.values s.counts.operations s.counts.attributes s.counts.blocks s.counts.regions (suc s.counts.functions)) (es ∙ ap (advance_of s Function end) st) h (omega arith)
          (ap (λ (m : ℕ). counts s.counts.types s.counts.values s.counts.operations s.counts.attributes s.counts.blocks s.counts.regions m) (next_is s.counts.functions (small w q)))
          ∙ ap (λ (y : List ℕ). taken (state_of s x) 6 end 0 (lent t v o a b r y l (counts s.counts.types s.counts.values s.counts.operations s.counts.attributes s.counts.blocks s.counts.regions (suc s.counts.functions)))) tb
      room false w q d =
          let st : step ≡ Err Full = ap (λ (y : Left (Result ℕ Unstored)). y.answer) d in
          let tb : f' ≡ f = ap (λ (y : Left (Result ℕ Unstored)). y.entries) d in
          settled_full s s' x x' Function end (es ∙ ap (advance_of s Function end) st) (long (ap length tb))

      by : (y : Read ℕ) → left step f' ≡ function_store s.entries s.counts.functions y f
          → settled (state_of s' x') ≡ read (state_of s x) y (take_function (state_of s x) end)
      by (bad k) d =
          let st : step ≡ Err (Bad k) = ap (λ (y : Left (Result ℕ Unstored)). y.answer) d in
          let tb : f' ≡ f = ap (λ (y : Left (Result ℕ Unstored)). y.entries) d in
          settled_bad s s' x x' Function end k (es ∙ ap (advance_of s Function end) st) h (long (ap length tb))
      by (says w) d = room (ltb s.counts.functions 64) w refl d

-- ---- `R`
module _ (s s' : Reading) (end : ℕ) (t v o a b r f l : List ℕ) (fs : List (List ℕ)) (h : s.lines < 2 ^ 32) (step : Result ℕ Unstored) (r' l' : List ℕ)
    (e : both step r' l' ≡ region_store s.entries s.counts.regions fs r l) (es : s' ≡ advance_of s Region end step) where
  pub took_region_lem : settled (state_of s' (lent t v o a b r' f l' no_counts)) ≡ take_line (state_of s (lent t v o a b r f l no_counts)) end fs region
  unfolding region_store
  took_region_lem = by (region_line fs) refl e
    where
      x : Tables
      x = lent t v o a b r f l no_counts

      x' : Tables
      x' = lent t v o a b r' f l' no_counts

      long : length r' ≡ length r → length l' ≡ length l → zeroed x' ≡ zeroed x
      long q0 q1 = rw (q0, q1)

      small : (w : List ℕ) → ltb s.counts.regions 512 && leb (s.entries + length w) 8192 ≡ true → s.counts.regions < 2 ^ 32
      small w q = let m = ltb-true s.counts.regions 512 (both_true (ltb s.counts.regions 512) (leb (s.entries + length w) 8192) q) in omega arith

      room : (T : Bool) (w : List ℕ) → region_line fs ≡ says w → ltb s.counts.regions 512 && leb (s.entries + length w) 8192 ≡ T
          → both step r' l' ≡ cond T (both (Ok (s.entries + length w)) (sets r (s.counts.regions * 2) (region_cells s.entries w)) (sets l s.entries (region_numbers fs))) (both (Err Full) r (sets l s.entries (region_numbers fs)))
          → settled (state_of s' x') ≡ or_size T 6 s.counts.regions (state_of s x) (taken (state_of s x) 5 end (length w) (lent t v o a b (sets r (s.counts.regions * 2) (region_cells s.entries w)) f (sets l s.entries (w)) (counts s.counts.types s.counts.values s.counts.operations s.counts.attributes s.counts.blocks (suc s.counts.regions) s.counts.functions)))
      room true w p q d =
          let st : step ≡ Ok (s.entries + length w) = ap (λ (y : Both). y.answer) d in
          let tb : r' ≡ sets r (s.counts.regions * 2) (region_cells s.entries w) = ap (λ (y : Both). y.table) d in
          let lb : l' ≡ sets l s.entries (w) = ap (λ (y : Both). y.entries) d ∙ ap (sets l s.entries) (region_says fs w p) in
          settled_taken s s' x x' Region end (s.entries + length w) (length w) (counts s.counts.types s.counts.values s.counts.operations s.counts.attributes s.counts.blocks (suc s.counts.regions) s.counts.functions) (es ∙ ap (advance_of s Region end) st) h refl
          (ap (λ (m : ℕ). counts s.counts.types s.counts.values s.counts.operations s.counts.attributes s.counts.blocks m s.counts.functions) (next_is s.counts.regions (small w q)))
          ∙ ap (λ (y : List ℕ). taken (state_of s x) 5 end (length w) (lent t v o a b y f l' (counts s.counts.types s.counts.values s.counts.operations s.counts.attributes s.counts.blocks (suc s.counts.regions) s.counts.functions))) tb
          ∙ ap (λ (y : List ℕ). taken (state_of s x) 5 end (length w) (lent t v o a b (sets r (s.counts.regions * 2) (region_cells s.entries w)) f y (counts s.counts.types s.counts.values s.counts.operations s.counts.attributes s.counts.blocks (suc s.counts.regions) s.counts.functions))) lb
      room false w p q d =
          let st : step ≡ Err Full = ap (λ (y : Both). y.answer) d in
          settled_full s s' x x' Region end (es ∙ ap (advance_of s Region end) st) (long (ap (λ (y : Both). length y.table) d) (ap (λ (y : Both). length y.entries) d ∙ length-sets l s.entries (region_numbers fs)))

      by : (y : Read (List ℕ)) → region_line fs ≡ y → both step r' l' ≡ region_row s.entries s.counts.regions y r (sets l s.entries (region_numbers fs)) → settled (state_of s' x') ≡ read (state_of s x) y (take_region (state_of s x) end)
      by (bad k) p d =
          let st : step ≡ Err (Bad k) = ap (λ (y : Both). y.answer) d in
          settled_bad s s' x x' Region end k (es ∙ ap (advance_of s Region end) st) h (long (ap (λ (y : Both). length y.table) d) (ap (λ (y : Both). length y.entries) d ∙ length-sets l s.entries (region_numbers fs)))
      by (says w) p d = room (ltb s.counts.regions 512 && leb (s.entries + length w) 8192) w p refl d

-- ---- `B`
module _ (s s' : Reading) (end : ℕ) (t v o a b r f l : List ℕ) (fs : List (List ℕ)) (h : s.lines < 2 ^ 32) (step : Result ℕ Unstored) (b' l' : List ℕ)
    (e : both step b' l' ≡ block_store s.entries s.counts.blocks fs b l) (es : s' ≡ advance_of s Block end step) where
  pub took_block_lem : settled (state_of s' (lent t v o a b' r f l' no_counts)) ≡ take_line (state_of s (lent t v o a b r f l no_counts)) end fs block
  unfolding block_store
  took_block_lem = by (block_line fs) refl e
    where
      x : Tables
      x = lent t v o a b r f l no_counts

      x' : Tables
      x' = lent t v o a b' r f l' no_counts

      long : length b' ≡ length b → length l' ≡ length l → zeroed x' ≡ zeroed x
      long q0 q1 = rw (q0, q1)

      small : (w : BlockRow) → ltb s.counts.blocks 512 && leb (s.entries + length (w.arguments ++ w.operations)) 8192 ≡ true → s.counts.blocks < 2 ^ 32
      small w q = let m = ltb-true s.counts.blocks 512 (both_true (ltb s.counts.blocks 512) (leb (s.entries + length (w.arguments ++ w.operations)) 8192) q) in omega arith

      room : (T : Bool) (w : BlockRow) → block_line fs ≡ says w → ltb s.counts.blocks 512 && leb (s.entries + length (w.arguments ++ w.operations)) 8192 ≡ T
          → both step b' l' ≡ cond T (both (Ok (s.entries + length (w.arguments ++ w.operations))) (sets b (s.counts.blocks * 4) (block_cells s.entries w)) (sets l s.entries (block_numbers fs))) (both (Err Full) b (sets l s.entries (block_numbers fs)))
          → settled (state_of s' x') ≡ or_size T 5 s.counts.blocks (state_of s x) (taken (state_of s x) 4 end (length (w.arguments ++ w.operations)) (lent t v o a (sets b (s.counts.blocks * 4) (block_cells s.entries w)) r f (sets l s.entries (w.arguments ++ w.operations)) (counts s.counts.types s.counts.values s.counts.operations s.counts.attributes (suc s.counts.blocks) s.counts.regions s.counts.functions)))
      room true w p q d =
          let st : step ≡ Ok (s.entries + length (w.arguments ++ w.operations)) = ap (λ (y : Both). y.answer) d in
          let tb : b' ≡ sets b (s.counts.blocks * 4) (block_cells s.entries w) = ap (λ (y : Both). y.table) d in
          let lb : l' ≡ sets l s.entries (w.arguments ++ w.operations) = ap (λ (y : Both). y.entries) d ∙ ap (sets l s.entries) (block_says fs w p) in
          settled_taken s s' x x' Block end (s.entries + length (w.arguments ++ w.operations)) (length (w.arguments ++ w.operations)) (counts s.counts.types s.counts.values s.counts.operations s.counts.attributes (suc s.counts.blocks) s.counts.regions s.counts.functions) (es ∙ ap (advance_of s Block end) st) h refl
          (ap (λ (m : ℕ). counts s.counts.types s.counts.values s.counts.operations s.counts.attributes m s.counts.regions s.counts.functions) (next_is s.counts.blocks (small w q)))
          ∙ ap (λ (y : List ℕ). taken (state_of s x) 4 end (length (w.arguments ++ w.operations)) (lent t v o a y r f l' (counts s.counts.types s.counts.values s.counts.operations s.counts.attributes (suc s.counts.blocks) s.counts.regions s.counts.functions))) tb
          ∙ ap (λ (y : List ℕ). taken (state_of s x) 4 end (length (w.arguments ++ w.operations)) (lent t v o a (sets b (s.counts.blocks * 4) (block_cells s.entries w)) r f y (counts s.counts.types s.counts.values s.counts.operations s.counts.attributes (suc s.counts.blocks) s.counts.regions s.counts.functions))) lb
      room false w p q d =
          let st : step ≡ Err Full = ap (λ (y : Both). y.answer) d in
          settled_full s s' x x' Block end (es ∙ ap (advance_of s Block end) st) (long (ap (λ (y : Both). length y.table) d) (ap (λ (y : Both). length y.entries) d ∙ length-sets l s.entries (block_numbers fs)))

      by : (y : Read BlockRow) → block_line fs ≡ y → both step b' l' ≡ block_row s.entries s.counts.blocks y b (sets l s.entries (block_numbers fs)) → settled (state_of s' x') ≡ read (state_of s x) y (take_block (state_of s x) end)
      by (bad k) p d =
          let st : step ≡ Err (Bad k) = ap (λ (y : Both). y.answer) d in
          settled_bad s s' x x' Block end k (es ∙ ap (advance_of s Block end) st) h (long (ap (λ (y : Both). length y.table) d) (ap (λ (y : Both). length y.entries) d ∙ length-sets l s.entries (block_numbers fs)))
      by (says w) p d = room (ltb s.counts.blocks 512 && leb (s.entries + length (w.arguments ++ w.operations)) 8192) w p refl d

-- ---- `O`
module _ (s s' : Reading) (end : ℕ) (t v o a b r f l : List ℕ) (fs : List (List ℕ)) (h : s.lines < 2 ^ 32) (ha : s.counts.attributes < 2 ^ 32) (step : Result ℕ Unstored) (o' l' : List ℕ)
    (e : both step o' l' ≡ operation_store s.entries s.counts.operations s.counts.attributes fs o l) (es : s' ≡ advance_of s Operation end step) where
  pub took_operation_lem : settled (state_of s' (lent t v o' a b r f l' no_counts)) ≡ take_line (state_of s (lent t v o a b r f l no_counts)) end fs operation
  unfolding operation_store
  took_operation_lem = by (operation_line fs) refl e
    where
      x : Tables
      x = lent t v o a b r f l no_counts

      x' : Tables
      x' = lent t v o' a b r f l' no_counts

      long : length o' ≡ length o → length l' ≡ length l → zeroed x' ≡ zeroed x
      long q0 q1 = rw (q0, q1)

      small : (w : OperationRow) → ltb s.counts.operations 2048 && leb (s.entries + length (w.results ++ w.operands ++ w.regions)) 8192 ≡ true → s.counts.operations < 2 ^ 32
      small w q = let m = ltb-true s.counts.operations 2048 (both_true (ltb s.counts.operations 2048) (leb (s.entries + length (w.results ++ w.operands ++ w.regions)) 8192) q) in omega arith

      room : (T : Bool) (w : OperationRow) → operation_line fs ≡ says w → ltb s.counts.operations 2048 && leb (s.entries + length (w.results ++ w.operands ++ w.regions)) 8192 ≡ T
          → both step o' l' ≡ cond T (both (Ok (s.entries + length (w.results ++ w.operands ++ w.regions))) (sets o (s.counts.operations * 16) (operation_cells s.entries (s.counts.attributes % 2 ^ 32) w)) (sets l s.entries (operation_numbers fs))) (both (Err Full) o (sets l s.entries (operation_numbers fs)))
          → settled (state_of s' x') ≡ or_size T 3 s.counts.operations (state_of s x) (taken (state_of s x) 3 end (length (w.results ++ w.operands ++ w.regions)) (lent t v (sets o (s.counts.operations * 16) (operation_cells s.entries s.counts.attributes w)) a b r f (sets l s.entries (w.results ++ w.operands ++ w.regions)) (counts s.counts.types s.counts.values (suc s.counts.operations) s.counts.attributes s.counts.blocks s.counts.regions s.counts.functions)))
      room true w p q d =
          let st : step ≡ Ok (s.entries + length (w.results ++ w.operands ++ w.regions)) = ap (λ (y : Both). y.answer) d in
          let tb : o' ≡ sets o (s.counts.operations * 16) (operation_cells s.entries s.counts.attributes w) = ap (λ (y : Both). y.table) d ∙ ap (λ (i : ℕ). sets o (s.counts.operations * 16) (operation_cells s.entries i w)) (mod-eq_of_lt ha) in
          let lb : l' ≡ sets l s.entries (w.results ++ w.operands ++ w.regions) = ap (λ (y : Both). y.entries) d ∙ ap (sets l s.entries) (operation_says fs w p) in
          settled_taken s s' x x' Operation end (s.entries + length (w.results ++ w.operands ++ w.regions)) (length (w.results ++ w.operands ++ w.regions)) (counts s.counts.types s.counts.values (suc s.counts.operations) s.counts.attributes s.counts.blocks s.counts.regions s.counts.functions) (es ∙ ap (advance_of s Operation end) st) h refl
          (ap (λ (m : ℕ). counts s.counts.types s.counts.values m s.counts.attributes s.counts.blocks s.counts.regions s.counts.functions) (next_is s.counts.operations (small w q)))
          ∙ ap (λ (y : List ℕ). taken (state_of s x) 3 end (length (w.results ++ w.operands ++ w.regions)) (lent t v y a b r f l' (counts s.counts.types s.counts.values (suc s.counts.operations) s.counts.attributes s.counts.blocks s.counts.regions s.counts.functions))) tb
          ∙ ap (λ (y : List ℕ). taken (state_of s x) 3 end (length (w.results ++ w.operands ++ w.regions)) (lent t v (sets o (s.counts.operations * 16) (operation_cells s.entries s.counts.attributes w)) a b r f y (counts s.counts.types s.counts.values (suc s.counts.operations) s.counts.attributes s.counts.blocks s.counts.regions s.counts.functions))) lb
      room false w p q d =
          let st : step ≡ Err Full = ap (λ (y : Both). y.answer) d in
          settled_full s s' x x' Operation end (es ∙ ap (advance_of s Operation end) st) (long (ap (λ (y : Both). length y.table) d) (ap (λ (y : Both). length y.entries) d ∙ length-sets l s.entries (operation_numbers fs)))

      by : (y : Read OperationRow) → operation_line fs ≡ y → both step o' l' ≡ operation_row s.entries s.counts.operations s.counts.attributes y o (sets l s.entries (operation_numbers fs)) → settled (state_of s' x') ≡ read (state_of s x) y (take_operation (state_of s x) end)
      by (bad k) p d =
          let st : step ≡ Err (Bad k) = ap (λ (y : Both). y.answer) d in
          settled_bad s s' x x' Operation end k (es ∙ ap (advance_of s Operation end) st) h (long (ap (λ (y : Both). length y.table) d) (ap (λ (y : Both). length y.entries) d ∙ length-sets l s.entries (operation_numbers fs)))
      by (says w) p d = room (ltb s.counts.operations 2048 && leb (s.entries + length (w.results ++ w.operands ++ w.regions)) 8192) w p refl d

-- ---- `A`
module _ (s s' : Reading) (end : ℕ) (t v o a b r f l : List ℕ) (fs : List (List ℕ)) (h : s.lines < 2 ^ 32) (step : Result ℕ Unstored) (o' a' l' : List ℕ) (eo : o' ≡ set o ((s.counts.operations - 1) * 16 + 8) ((get_or o ((s.counts.operations - 1) * 16 + 8) 0 + 1) % 2 ^ 32))
    (e : both step a' l' ≡ attribute_store s.entries s.counts.attributes fs a l) (es : s' ≡ advance_of s Attribute end step) where
  pub took_attribute_lem : settled (state_of s' (lent t v o' a' b r f l' no_counts)) ≡ take_line (state_of s (lent t v o a b r f l no_counts)) end fs attribute
  unfolding attribute_store
  took_attribute_lem = by (attribute_line fs) refl e
    where
      x : Tables
      x = lent t v o a b r f l no_counts

      x' : Tables
      x' = lent t v o' a' b r f l' no_counts

      long : length o' ≡ length o → length a' ≡ length a → length l' ≡ length l → zeroed x' ≡ zeroed x
      long q0 q1 q2 = rw (q0, q1, q2)

      small : (w : AttributeRow) → ltb s.counts.attributes 4096 && leb (s.entries + length w.numbers) 8192 ≡ true → s.counts.attributes < 2 ^ 32
      small w q = let m = ltb-true s.counts.attributes 4096 (both_true (ltb s.counts.attributes 4096) (leb (s.entries + length w.numbers) 8192) q) in omega arith

      room : (T : Bool) (w : AttributeRow) → attribute_line fs ≡ says w → ltb s.counts.attributes 4096 && leb (s.entries + length w.numbers) 8192 ≡ T
          → both step a' l' ≡ cond T (both (Ok (s.entries + length w.numbers)) (sets a (s.counts.attributes * 8) (attribute_cells s.entries w)) (sets l s.entries (attribute_numbers fs))) (both (Err Full) a (sets l s.entries (attribute_numbers fs)))
          → settled (state_of s' x') ≡ or_size T 4 s.counts.attributes (state_of s x) (taken (state_of s x) 3 end (length w.numbers) (lent t v (one_attribute_more o ((s.counts.operations - 1) * 16 + 8)) (sets a (s.counts.attributes * 8) (attribute_cells s.entries w)) b r f (sets l s.entries w.numbers) (counts s.counts.types s.counts.values s.counts.operations (suc s.counts.attributes) s.counts.blocks s.counts.regions s.counts.functions)))
      room true w p q d =
          let st : step ≡ Ok (s.entries + length w.numbers) = ap (λ (y : Both). y.answer) d in
          let tb : a' ≡ sets a (s.counts.attributes * 8) (attribute_cells s.entries w) = ap (λ (y : Both). y.table) d in
          let ob : o' ≡ one_attribute_more o ((s.counts.operations - 1) * 16 + 8) = eo in
          let lb : l' ≡ sets l s.entries w.numbers = ap (λ (y : Both). y.entries) d ∙ ap (sets l s.entries) (attribute_says fs w p).numbers in
          settled_taken s s' x x' Attribute end (s.entries + length w.numbers) (length w.numbers) (counts s.counts.types s.counts.values s.counts.operations (suc s.counts.attributes) s.counts.blocks s.counts.regions s.counts.functions) (es ∙ ap (advance_of s Attribute end) st) h refl
          (ap (λ (m : ℕ). counts s.counts.types s.counts.values s.counts.operations m s.counts.blocks s.counts.regions s.counts.functions) (next_is s.counts.attributes (small w q)))
          ∙ ap (λ (y : List ℕ). taken (state_of s x) 3 end (length w.numbers) (lent t v y a' b r f l' (counts s.counts.types s.counts.values s.counts.operations (suc s.counts.attributes) s.counts.blocks s.counts.regions s.counts.functions))) ob
          ∙ ap (λ (y : List ℕ). taken (state_of s x) 3 end (length w.numbers) (lent t v (one_attribute_more o ((s.counts.operations - 1) * 16 + 8)) y b r f l' (counts s.counts.types s.counts.values s.counts.operations (suc s.counts.attributes) s.counts.blocks s.counts.regions s.counts.functions))) tb
          ∙ ap (λ (y : List ℕ). taken (state_of s x) 3 end (length w.numbers) (lent t v (one_attribute_more o ((s.counts.operations - 1) * 16 + 8)) (sets a (s.counts.attributes * 8) (attribute_cells s.entries w)) b r f y (counts s.counts.types s.counts.values s.counts.operations (suc s.counts.attributes) s.counts.blocks s.counts.regions s.counts.functions))) lb
      room false w p q d =
          let st : step ≡ Err Full = ap (λ (y : Both). y.answer) d in
          settled_full s s' x x' Attribute end (es ∙ ap (advance_of s Attribute end) st) (long (ap length eo ∙ simp length-set) (ap (λ (y : Both). length y.table) d) (ap (λ (y : Both). length y.entries) d ∙ length-sets l s.entries (attribute_numbers fs)))

      by : (y : Read AttributeRow) → attribute_line fs ≡ y → both step a' l' ≡ attribute_row s.entries s.counts.attributes y a (sets l s.entries (attribute_numbers fs)) → settled (state_of s' x') ≡ read (state_of s x) y (take_attribute (state_of s x) end)
      by (bad k) p d =
          let st : step ≡ Err (Bad k) = ap (λ (y : Both). y.answer) d in
          settled_bad s s' x x' Attribute end k (es ∙ ap (advance_of s Attribute end) st) h (long (ap length eo ∙ simp length-set) (ap (λ (y : Both). length y.table) d) (ap (λ (y : Both). length y.entries) d ∙ length-sets l s.entries (attribute_numbers fs)))
      by (says w) p d = room (ltb s.counts.attributes 4096 && leb (s.entries + length w.numbers) 8192) w p refl d

-- ---- `tile`
pub took_header : (s s' : Reading) (end : ℕ) (x : Tables) (fs : List (List ℕ)) → s.lines < 2 ^ 32 → s' ≡ header_next s end (header_line fs)
    → settled (state_of s' x) ≡ take_line (state_of s x) end fs header
unfolding header_next
took_header s s' end x fs h e = by (header_line fs) e
  where
    by : (y : Read HeaderRow) → s' ≡ header_next s end y → settled (state_of s' x) ≡ read (state_of s x) y (take_header (state_of s x) end)
    by (bad k) q =
        settled_refused s s' x x (NotInForm (suc s.lines) k) (q ∙ ap (λ (n : ℕ). refusing (NotInForm n k)) (next_is s.lines h)) refl
    by (says w) q =
        ap (λ (y : Reading). settled (state_of y x)) q
        ∙ ap (λ (n : ℕ). settled (state_of (record { phase = 1; lines = n; bytes = end; entries = s.entries; version = w.version; sm = w.sm; counts = s.counts; answer = (Ok tt) }) x)) (next_is s.lines h)

-- ---- the kind of a line says where it goes

abbrev by_kind : State → ℕ → List (List ℕ) → Result Kind BadField → State
by_kind s end fs (Ok k) = take_line s end fs (tag_in k)
by_kind s end fs (Err e) = refuse (NotInForm (suc s.lines) e.field) s

module _ (s : State) (end : ℕ) (fs : List (List ℕ)) (phase : ℕ) where
  pick : (t : Bool) (k : Kind) → cond t (take_line s end fs (tag_in k)) (refuse (NotInForm (suc s.lines) 0) s)
      ≡ by_kind s end fs (cond t (Ok k) (Err (bad_field 0)))
  pick true k = refl
  pick false k = refl

  placed_by : (g : Tag) → cond (well_placed g fs phase) (take_line s end fs g) (refuse (NotInForm (suc s.lines) 0) s) ≡ by_kind s end fs (kind_by fs phase (kind_at g))
  placed_by header = pick (fits Header fs phase) Header
  placed_by type = pick (fits «Type» fs phase) «Type»
  placed_by value = pick (fits Value fs phase) Value
  placed_by operation = pick (fits Operation fs phase) Operation
  placed_by attribute = pick (fits Attribute fs phase) Attribute
  placed_by block = pick (fits Block fs phase) Block
  placed_by region = pick (fits Region fs phase) Region
  placed_by function = pick (fits Function fs phase) Function
  placed_by unknown = refl

-- ---- a line, before a refusal zeroes the tables
module _ (s : Reading) (x : Tables) (line : List ℕ) (far : Bool)
    (ef : far ≡ ltb 65536 (s.bytes + suc (length line)) || (ltb 65536 s.lines || ltb 4096 s.counts.attributes)) where
  pub judged_far : (s' : Reading) → far ≡ true → s' ≡ refusing (OutOfRange 0 0) → settled (state_of s' x) ≡ judged (state_of s x) line
  unfolding judged
  judged_far s' k e = settled_refused s s' x x (OutOfRange 0 0) e refl ∙ sym (by (too_far (state_of s x) (s.bytes + suc (length line))) (sym ef ∙ k))
    where
      by : (t : Bool) → t ≡ true
          → cond t (refuse (OutOfRange 0 0) (state_of s x)) (placed (state_of s x) (s.bytes + suc (length line)) (split 9 line) (tag_of (nth 0 (split 9 line))))
          ≡ refuse (OutOfRange 0 0) (state_of s x)
      by t q = rw q

  module _ (k : far ≡ false) where
    near : (ltb 65536 (s.bytes + suc (length line)) ≡ false) × (ltb 65536 s.lines ≡ false) × (ltb 4096 s.counts.attributes ≡ false)
    near = by (ltb 65536 (s.bytes + suc (length line))) (ltb 65536 s.lines) (ltb 4096 s.counts.attributes) (sym ef ∙ k)
      where
        by : (a b c : Bool) → a || (b || c) ≡ false → (a ≡ false) × (b ≡ false) × (c ≡ false)
        by true b c q = cc
        by false true c q = cc
        by false false true q = cc
        by false false false q = (refl, refl, refl)

    pub end_small : s.bytes + suc (length line) ≤ 65536
    end_small = ltb-false 65536 (s.bytes + suc (length line)) near.0

    pub lines_small : s.lines < 2 ^ 32
    lines_small = let h = ltb-false 65536 s.lines near.1 in omega arith

    pub attributes_small : s.counts.attributes < 2 ^ 32
    attributes_small = let h = ltb-false 4096 s.counts.attributes near.2 in omega arith

    module _ (end : ℕ) (ee : end ≡ s.bytes + suc (length line)) (kind : Result Kind BadField) (ek : kind ≡ kind_of (split 9 line) s.phase) where
      judged_by : by_kind (state_of s x) end (split 9 line) kind ≡ judged (state_of s x) line
      unfolding judged kind_of
      judged_by =
          ap (by_kind (state_of s x) end (split 9 line)) ek
          ∙ sym (placed_by (state_of s x) end (split 9 line) s.phase (tag_of (nth 0 (split 9 line))))
          ∙ ap (λ (n : ℕ). placed (state_of s x) n (split 9 line) (tag_of (nth 0 (split 9 line)))) ee
          ∙ sym (by (too_far (state_of s x) (s.bytes + suc (length line))) (sym ef ∙ k))
        where
          by : (t : Bool) → t ≡ false
              → cond t (refuse (OutOfRange 0 0) (state_of s x)) (placed (state_of s x) (s.bytes + suc (length line)) (split 9 line) (tag_of (nth 0 (split 9 line))))
              ≡ placed (state_of s x) (s.bytes + suc (length line)) (split 9 line) (tag_of (nth 0 (split 9 line)))
          by t q = rw q

      pub near_kind : (K : Kind) → kind ≡ Ok K → take_line (state_of s x) end (split 9 line) (tag_in K) ≡ judged (state_of s x) line
      near_kind K h = ap (by_kind (state_of s x) end (split 9 line)) (sym h) ∙ judged_by

      pub near_bad : (e : BadField) (s' : Reading) → kind ≡ Err e → s' ≡ refusing (NotInForm (next s.lines) e.field) → settled (state_of s' x) ≡ judged (state_of s x) line
      near_bad e s' h q =
          settled_refused s s' x x (NotInForm (suc s.lines) e.field) (q ∙ ap (λ (n : ℕ). refusing (NotInForm n e.field)) (next_is s.lines lines_small)) refl
          ∙ ap (by_kind (state_of s x) end (split 9 line)) (sym h) ∙ judged_by

-- ---- a refusal zeroes the tables, and nothing more is taken after one
module _ (s : Reading) (x : Tables) where
  pub settle_kept : s.answer ≡ Ok tt → state_of s x ≡ settled (state_of s x)
  settle_kept h = sym (ap (λ (q : Answer). settled_by q (state_of s x)) h)

  pub settle_refused : (q : Refusal) (s' : Reading) → s.answer ≡ Err q → s' ≡ refusing q → (t v o a b r f l : List ℕ)
      → t ≡ zeros x.t → v ≡ zeros x.v → o ≡ zeros x.o → a ≡ zeros x.a → b ≡ zeros x.b → r ≡ zeros x.r → f ≡ zeros x.f
      → l ≡ zeros x.l → state_of s' (lent t v o a b r f l no_counts) ≡ settled (state_of s x)
  settle_refused q s' h e t v o a b r f l et ev eo ea eb er ef el =
      ap (λ (y : Reading). state_of y (lent t v o a b r f l no_counts)) e
      ∙ ap (λ (y : Tables). record { phase = 0; lines = 0; bytes = 0; entries = 0; version = 0; sm = 0; tables = y; answer = Err q })
      (all t v o a b r f l et ev eo ea eb er ef el)
      ∙ sym (ap (λ (y : Answer). settled_by y (state_of s x)) h)
    where
      all : (t v o a b r f l : List ℕ) → t ≡ zeros x.t → v ≡ zeros x.v → o ≡ zeros x.o → a ≡ zeros x.a → b ≡ zeros x.b
          → r ≡ zeros x.r → f ≡ zeros x.f → l ≡ zeros x.l → lent t v o a b r f l no_counts ≡ zeroed x
      all t v o a b r f l et ev eo ea eb er ef el = rw (et, ev, eo, ea, eb, er, ef, el)

  module _ (line : List ℕ) where
    pub line_kept : (q : Refusal) → s.answer ≡ Err q → state_of s x ≡ line_of (state_of s x) line
    unfolding line_of
    line_kept q h = sym (ap (λ (y : Answer). onward y (state_of s x) (judged (state_of s x) line)) h)

    pub line_onward : s.answer ≡ Ok tt → judged (state_of s x) line ≡ line_of (state_of s x) line
    unfolding line_of
    line_onward h = sym (ap (λ (y : Answer). onward y (state_of s x) (judged (state_of s x) line)) h)
