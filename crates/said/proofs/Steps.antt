-- One line taken: the entries before it stay as their lines said them, and its own is as it says. Assumes nothing.
use Prim.Native.Nat.{ℕ, suc, ◌+◌, ◌-◌, ◌*◌, ◌%◌, ◌^◌, ◌≤◌, ◌<◌, min}
use mathlib.Core.Path.{◌≡◌, refl, sym, ◌∙◌, ap, subst}
use mathlib.Core.List.{List, [], ◌∷◌, ◌++◌}
use mathlib.Core.Logic.{⊎_elim}
use native.Mathlib.Nat.{mod-eq_of_lt}
use native.Mathlib.Omega.{arith}
use lib.ListN.{length, get_or, set, take, drop, length-append, get_or-append}
use lib.Seq.{sets, get_or_at, get_or-set_same, get_or-set_other}
use Rattle.cells.proofs.Rows.{lt_or_ge, put_here, other_row}
use Rattle.tables.specs.Tables.{Tables}
use Rattle.tables.specs.declared.Counts.{Counts}
use Rattle.names.specs.Names.{equal}
use Rattle.lines.specs.Field.{says}
use Rattle.lines.specs.Line.{HeaderRow, TypeRow, ValueRow, OperationRow, AttributeRow, BlockRow, header_line, type_line, value_line, operation_line, attribute_line, block_line, region_line, function_line}
use Rattle.stores.specs.Rows.{type_cells, value_cells, operation_cells, attribute_cells, block_cells, region_cells}
use Rattle.stores.specs.Store.{one_attribute_more}
use Rattle.house.specs.State.{State}
use Rattle.house.specs.House.{take_header, Tag, header, type, value, operation, attribute, block, region, function}
use Rattle.reading.proofs.Rows.{row, row_room, row_old, row_new, row_at}
use Rattle.reading.proofs.Types.{TypeHeld, type_width}
use Rattle.reading.proofs.Values.{ValueHeld}
use Rattle.reading.proofs.Operations.{OperationHeld, kept}
use Rattle.reading.proofs.Attributes.{AttributeHeld}
use Rattle.reading.proofs.Blocks.{BlockHeld, RegionHeld}
use Rattle.reading.proofs.Held.{Held}
use Rattle.reading.proofs.Cases.{took_type, took_value, took_operation, took_attribute, took_block, took_region, took_function}
use Rattle.said.specs.Said.{Holds, header_at, type_said, value_said, meaning, meant_type, meant_value}
use Rattle.said.proofs.Parts.{holds_still, holds_more, part_before, part_grows}
use Rattle.said.proofs.Rows.{type_of, type_new, value_of, operation_of, operation_new, operation_later, attribute_of, attribute_new, attribute_later, block_of, block_new, block_later, region_of, region_new, region_later}
use Rattle.said.proofs.Tagged.{added, tag_text}

-- ---- the attributes of operation i, as its row tells them: the first, and how many

abbrev pub first_of : List ℕ → ℕ → ℕ
first_of o i = get_or (row 16 o i) 7 0

abbrev pub many_of : List ℕ → ℕ → ℕ
many_of o i = get_or (row 16 o i) 8 0

-- one more of operation m
module _ (o : List ℕ) (m : ℕ) where
  abbrev more : List ℕ
  more = one_attribute_more o (m * 16 + 8)

  many_other : (i : ℕ) → (i ≡ m → ⊥) → many_of more i ≡ many_of o i
  many_other i d =
      row_at 16 more i 8 (omega arith) ∙ other_row 16 o m 8 ((get_or o (m * 16 + 8) 0 + 1) % 2 ^ 32) i 8 (omega arith) (omega arith) d
      ∙ sym (row_at 16 o i 8 (omega arith))

  many_same : m * 16 + 8 < length o → many_of o m + 1 < 2 ^ 32 → many_of more m ≡ many_of o m + 1
  many_same h k =
      let e = row_at 16 o m 8 (omega arith) in
      row_at 16 more m 8 (omega arith) ∙ put_here 16 o m 8 ((get_or o (m * 16 + 8) 0 + 1) % 2 ^ 32) h
      ∙ mod-eq_of_lt (omega arith) ∙ omega arith

  operation_counted : (l : List ℕ) (i : ℕ) → operation_of l (row 16 more i) ≡ operation_of l (row 16 o i)
  operation_counted l i =
      rw (
        kept o m i 0 (omega arith) (λ d. omega arith),
        kept o m i 1 (omega arith) (λ d. omega arith),
        kept o m i 2 (omega arith) (λ d. omega arith),
        kept o m i 3 (omega arith) (λ d. omega arith),
        kept o m i 4 (omega arith) (λ d. omega arith),
        kept o m i 5 (omega arith) (λ d. omega arith),
        kept o m i 6 (omega arith) (λ d. omega arith),
      )

-- ---- what the lines seen so far said: k gives those of a kind, gs the `A` lines after each `O` line

pub record Says (k : Tag → List (List (List ℕ))) (gs : List (List (List (List ℕ)))) (s : State) : Type 0 where
  pub begun : min s.lines 1 ≡ min s.phase 1
  pub h : Holds header_line (k header) (λ _. header_at s) (min s.phase 1)
  pub t : Holds type_said (k type) (λ i. type_of (row 16 s.tables.t i)) s.tables.counts.types
  pub v : Holds value_said (k value) (λ i. value_of (row 4 s.tables.v i)) s.tables.counts.values
  pub o : Holds operation_line (k operation) (λ i. operation_of s.tables.l (row 16 s.tables.o i)) s.tables.counts.operations
  pub a : Holds attribute_line (k attribute) (λ i. attribute_of s.tables.l (row 8 s.tables.a i)) s.tables.counts.attributes
  pub b : Holds block_line (k block) (λ i. block_of s.tables.l (row 4 s.tables.b i)) s.tables.counts.blocks
  pub r : Holds region_line (k region) (λ i. region_of s.tables.l (row 2 s.tables.r i)) s.tables.counts.regions
  pub f : Holds function_line (k function) (λ i. get_or s.tables.f i 0) s.tables.counts.functions
  -- each operation's attributes are the `A` lines after its `O` line; those of the last one are the last of all
  pub groups : length gs ≡ s.tables.counts.operations
  pub own : (i : ℕ) → i < s.tables.counts.operations → take (many_of s.tables.o i) (drop (first_of s.tables.o i) (k attribute)) ≡ get_or gs i []
  pub last : s.phase ≡ 3 → (i : ℕ) → suc i ≡ s.tables.counts.operations → first_of s.tables.o i + many_of s.tables.o i ≡ s.tables.counts.attributes

-- with a line of kind g more
abbrev pub with : (Tag → List (List (List ℕ))) → Tag → List (List ℕ) → Tag → List (List (List ℕ))
with k g fs g' = added (equal (tag_text g) (tag_text g')) (k g') fs

module _ (k : Tag → List (List (List ℕ))) (gs : List (List (List (List ℕ)))) (s : State) (y : Says k gs s) (held : Held s.entries s.tables)
    (end : ℕ) (fs : List (List ℕ)) where
  abbrev x : Tables
  x = s.tables

  abbrev n : Counts
  n = s.tables.counts

  -- a line after the header
  header_still : (p : ℕ) → 0 < s.phase → 0 < p → Holds header_line (k header) (λ _. header_at s) (min p 1)
  header_still p h l = subst (Holds header_line (k header) (λ _. header_at s)) (omega arith) y.h

  pub header_says : (w : HeaderRow) → header_line fs ≡ says w → s.phase ≡ 0 → Says (with k header fs) gs (take_header s end w)
  header_says w e p = record {
    begun = omega arith;
    h =
        holds_more header_line (k header) (λ _. header_at s) (λ _. w) 0 (subst (Holds header_line (k header) (λ _. header_at s)) (omega arith) y.h)
        (λ i l. absurd (omega arith)) fs e;
    t = y.t;
    v = y.v;
    o = y.o;
    a = y.a;
    b = y.b;
    r = y.r;
    f = y.f;
    groups = y.groups;
    own = y.own;
    last = λ q. absurd (omega arith);
  }

  pub type_says : (w : TypeRow) → type_line fs ≡ says w → 0 < s.phase → n.types < 1024 → length w.dims ≤ 8
      → Says (with k type fs) gs (took_type s end w)
  type_says w e p l d = record {
    begun = omega arith;
    h = header_still 1 p (omega arith);
    t =
        holds_more type_said (k type) (λ i. type_of (row 16 x.t i)) (λ i. type_of (row 16 (sets x.t (n.types * 16) (type_cells w)) i)) n.types y.t
        (λ i m. ap type_of (row_old 16 x.t (type_cells w) n.types i m)) fs
        (ap (meaning meant_type) e
        ∙ ap says (sym (ap type_of
        (row_new 16 x.t (type_cells w) n.types (type_width w d) (row_room 16 1024 TypeHeld x.t n.types held.t l)) ∙ type_new w d)));
    v = y.v;
    o = y.o;
    a = y.a;
    b = y.b;
    r = y.r;
    f = y.f;
    groups = y.groups;
    own = y.own;
    last = λ q. absurd (omega arith);
  }

  pub value_says : (w : ValueRow) → value_line fs ≡ says w → 0 < s.phase → n.values < 4096
      → Says (with k value fs) gs (took_value s end w)
  value_says w e p l = record {
    begun = omega arith;
    h = header_still 2 p (omega arith);
    t = y.t;
    v =
        holds_more value_said (k value) (λ i. value_of (row 4 x.v i)) (λ i. value_of (row 4 (sets x.v (n.values * 4) (value_cells w)) i)) n.values y.v
        (λ i m. ap value_of (row_old 4 x.v (value_cells w) n.values i m)) fs
        (ap (meaning meant_value) e
        ∙ ap says (sym (ap value_of
        (row_new 4 x.v (value_cells w) n.values refl (row_room 4 4096 ValueHeld x.v n.values held.v l)))));
    o = y.o;
    a = y.a;
    b = y.b;
    r = y.r;
    f = y.f;
    groups = y.groups;
    own = y.own;
    last = λ q. absurd (omega arith);
  }

  pub function_says : (i : ℕ) → function_line fs ≡ says i → 0 < s.phase → n.functions < 64
      → Says (with k function fs) gs (took_function s end i)
  function_says w e p l = record {
    begun = omega arith;
    h = header_still 6 p (omega arith);
    t = y.t;
    v = y.v;
    o = y.o;
    a = y.a;
    b = y.b;
    r = y.r;
    f =
        holds_more function_line (k function) (λ i. get_or x.f i 0) (λ i. get_or (set x.f n.functions w) i 0) n.functions y.f
        (λ i m. get_or-set_other x.f n.functions i w 0 (λ q. omega arith)) fs
        (e ∙ ap says (sym (get_or-set_same x.f n.functions w 0 (let m = held.f.long in omega arith))));
    groups = y.groups;
    own = y.own;
    last = λ q. absurd (omega arith);
  }

  -- a line that adds list entries: the entries before it stay
  module _ (new : List ℕ) where
    later_o : Holds operation_line (k operation) (λ i. operation_of (sets x.l s.entries new) (row 16 x.o i)) n.operations
    later_o =
        holds_still operation_line (k operation) (λ i. operation_of x.l (row 16 x.o i)) (λ i. operation_of (sets x.l s.entries new) (row 16 x.o i))
        n.operations y.o (λ i m. operation_later x.l new s.entries n.attributes (row 16 x.o i) (held.o.rows i m))

    later_a : Holds attribute_line (k attribute) (λ i. attribute_of (sets x.l s.entries new) (row 8 x.a i)) n.attributes
    later_a =
        holds_still attribute_line (k attribute) (λ i. attribute_of x.l (row 8 x.a i)) (λ i. attribute_of (sets x.l s.entries new) (row 8 x.a i))
        n.attributes y.a (λ i m. attribute_later x.l new s.entries (row 8 x.a i) (held.a.rows i m))

    later_b : Holds block_line (k block) (λ i. block_of (sets x.l s.entries new) (row 4 x.b i)) n.blocks
    later_b =
        holds_still block_line (k block) (λ i. block_of x.l (row 4 x.b i)) (λ i. block_of (sets x.l s.entries new) (row 4 x.b i))
        n.blocks y.b (λ i m. block_later x.l new s.entries (row 4 x.b i) (held.b.rows i m))

    later_r : Holds region_line (k region) (λ i. region_of (sets x.l s.entries new) (row 2 x.r i)) n.regions
    later_r =
        holds_still region_line (k region) (λ i. region_of x.l (row 2 x.r i)) (λ i. region_of (sets x.l s.entries new) (row 2 x.r i))
        n.regions y.r (λ i m. region_later x.l new s.entries (row 2 x.r i) (held.r.rows i m))

  pub block_says : (w : BlockRow) → block_line fs ≡ says w → 0 < s.phase → n.blocks < 512 → s.entries + length (w.arguments ++ w.operations) ≤ 8192
      → Says (with k block fs) gs (took_block s end w)
  block_says w e p l m =
      let new = w.arguments ++ w.operations in
      record {
        begun = omega arith;
        h = header_still 4 p (omega arith);
        t = y.t;
        v = y.v;
        o = later_o new;
        a = later_a new;
        b =
            holds_more block_line (k block) (λ i. block_of (sets x.l s.entries new) (row 4 x.b i))
            (λ i. block_of (sets x.l s.entries new) (row 4 (sets x.b (n.blocks * 4) (block_cells s.entries w)) i)) n.blocks (later_b new)
            (λ i q. ap (block_of (sets x.l s.entries new)) (row_old 4 x.b (block_cells s.entries w) n.blocks i q)) fs
            (e
            ∙ ap says (sym (ap (block_of (sets x.l s.entries new))
            (row_new 4 x.b (block_cells s.entries w) n.blocks refl (row_room 4 512 (BlockHeld s.entries) x.b n.blocks held.b l))
            ∙ block_new x.l s.entries w (let q = held.l in omega arith))));
        r = later_r new;
        f = y.f;
        groups = y.groups;
        own = y.own;
        last = λ q. absurd (omega arith);
      }

  pub region_says : (blocks : List ℕ) → region_line fs ≡ says blocks → 0 < s.phase → n.regions < 512 → s.entries + length blocks ≤ 8192
      → Says (with k region fs) gs (took_region s end blocks)
  region_says new e p l m = record {
    begun = omega arith;
    h = header_still 5 p (omega arith);
    t = y.t;
    v = y.v;
    o = later_o new;
    a = later_a new;
    b = later_b new;
    r =
        holds_more region_line (k region) (λ i. region_of (sets x.l s.entries new) (row 2 x.r i))
        (λ i. region_of (sets x.l s.entries new) (row 2 (sets x.r (n.regions * 2) (region_cells s.entries new)) i)) n.regions (later_r new)
        (λ i q. ap (region_of (sets x.l s.entries new)) (row_old 2 x.r (region_cells s.entries new) n.regions i q)) fs
        (e
        ∙ ap says (sym (ap (region_of (sets x.l s.entries new))
        (row_new 2 x.r (region_cells s.entries new) n.regions refl (row_room 2 512 (RegionHeld s.entries) x.r n.regions held.r l))
        ∙ region_new x.l s.entries new (let q = held.l in omega arith))));
    f = y.f;
    groups = y.groups;
    own = y.own;
    last = λ q. absurd (omega arith);
  }

  -- an `O` line: no `A` line yet
  pub operation_says : (w : OperationRow) → operation_line fs ≡ says w → 0 < s.phase → n.operations < 2048
      → s.entries + length (w.results ++ w.operands ++ w.regions) ≤ 8192
      → Says (with k operation fs) (gs ++ [] ∷ []) (took_operation s end w)
  operation_says w e p l m =
      let new = w.results ++ w.operands ++ w.regions in
      let cells = operation_cells s.entries n.attributes w in
      let here : row 16 (sets x.o (n.operations * 16) cells) n.operations ≡ cells
      = row_new 16 x.o cells n.operations refl (row_room 16 2048 (OperationHeld s.entries n.attributes) x.o n.operations held.o l) in
      let before = row_old 16 x.o cells n.operations in
      record {
        begun = omega arith;
        h = header_still 3 p (omega arith);
        t = y.t;
        v = y.v;
        o =
            holds_more operation_line (k operation) (λ i. operation_of (sets x.l s.entries new) (row 16 x.o i))
            (λ i. operation_of (sets x.l s.entries new) (row 16 (sets x.o (n.operations * 16) cells) i)) n.operations (later_o new)
            (λ i q. ap (operation_of (sets x.l s.entries new)) (before i q)) fs
            (e
            ∙ ap says (sym (ap (operation_of (sets x.l s.entries new)) here
            ∙ operation_new x.l s.entries n.attributes w (let q = held.l in omega arith))));
        a = later_a new;
        b = later_b new;
        r = later_r new;
        f = y.f;
        groups = length-append gs ([] ∷ []) ∙ (let q = y.groups in omega arith);
        own = λ i q. ⊎_elim
            (λ u.
            ap (λ (c : List ℕ). take (get_or c 8 0) (drop (get_or c 7 0) (k attribute))) (before i u) ∙ y.own i u
            ∙ sym (get_or-append gs ([] ∷ []) [] i (let z = y.groups in omega arith)))
            (λ u.
            let z : n.operations ≡ i = omega arith in
            ap (λ (j : ℕ). take (many_of (sets x.o (n.operations * 16) cells) j) (drop (first_of (sets x.o (n.operations * 16) cells) j) (k attribute))) (sym z)
            ∙ ap (λ (c : List ℕ). take (get_or c 8 0) (drop (get_or c 7 0) (k attribute))) here
            ∙ sym (get_or_at gs [] [] [] i (y.groups ∙ z)))
            (lt_or_ge i n.operations);
        last = λ q i u.
            let z : n.operations ≡ i = omega arith in
            ap (λ (j : ℕ). first_of (sets x.o (n.operations * 16) cells) j + many_of (sets x.o (n.operations * 16) cells) j) (sym z)
            ∙ ap (λ (c : List ℕ). get_or c 7 0 + get_or c 8 0) here
            ∙ omega arith;
      }

  -- an `A` line: one more of the last `O` line's
  pub attribute_says : (w : AttributeRow) → attribute_line fs ≡ says w → s.phase ≡ 3 → n.attributes < 4096
      → s.entries + length w.numbers ≤ 8192 → (front : List (List (List (List ℕ)))) (g : List (List (List ℕ))) → gs ≡ front ++ g ∷ []
      → Says (with k attribute fs) (front ++ (g ++ fs ∷ []) ∷ []) (took_attribute s end w)
  attribute_says w e p l m front g q =
      let new = w.numbers in
      let cells = attribute_cells s.entries w in
      let at = n.operations - 1 in
      let now = one_attribute_more x.o (at * 16 + 8) in
      let long : suc (length front) ≡ n.operations
      = omega (arith, length-append front (g ∷ []), ap length q, y.groups) in
      let whole = y.a.count in
      let room : at * 16 + 8 < length x.o
      = omega (arith, held.o.long, held.o.fits) in
      let those : (i : ℕ) → i < n.operations → first_of x.o i + many_of x.o i ≤ n.attributes = λ i z. (held.o.rows i z).attributes in
      let first_same : (i : ℕ) → first_of now i ≡ first_of x.o i = λ i. kept x.o at i 7 (omega arith) (λ d. omega arith) in
      let small : many_of x.o at + 1 < 2 ^ 32 = omega (arith, those at (omega arith)) in
      let counted : many_of now at ≡ many_of x.o at + 1 = many_same x.o at room small in
      let all : first_of x.o at + many_of x.o at ≡ n.attributes = y.last p at (omega arith) in
      record {
        begun = omega arith;
        h = header_still 3 (omega arith) (omega arith);
        t = y.t;
        v = y.v;
        o =
            holds_still operation_line (k operation) (λ i. operation_of (sets x.l s.entries new) (row 16 x.o i))
            (λ i. operation_of (sets x.l s.entries new) (row 16 now i)) n.operations (later_o new)
            (λ i z. operation_counted x.o at (sets x.l s.entries new) i);
        a =
            holds_more attribute_line (k attribute) (λ i. attribute_of (sets x.l s.entries new) (row 8 x.a i))
            (λ i. attribute_of (sets x.l s.entries new) (row 8 (sets x.a (n.attributes * 8) cells) i)) n.attributes (later_a new)
            (λ i z. ap (attribute_of (sets x.l s.entries new)) (row_old 8 x.a cells n.attributes i z)) fs
            (e
            ∙ ap says (sym (ap (attribute_of (sets x.l s.entries new))
            (row_new 8 x.a cells n.attributes refl (row_room 8 4096 (AttributeHeld x.l s.entries) x.a n.attributes held.a l))
            ∙ attribute_new x.l s.entries w (let z = held.l in omega arith))));
        b = later_b new;
        r = later_r new;
        f = y.f;
        groups = length-append front ((g ++ fs ∷ []) ∷ []) ∙ omega arith;
        own = λ i z. ⊎_elim
            (λ u.
            ap (λ (j : ℕ). take (many_of now i) (drop j (k attribute ++ fs ∷ []))) (first_same i)
            ∙ ap (λ (j : ℕ). take j (drop (first_of x.o i) (k attribute ++ fs ∷ []))) (many_other x.o at i (λ d. omega arith))
            ∙ part_before (k attribute) (first_of x.o i) (many_of x.o i) (fs ∷ []) (let d = those i z in omega arith)
            ∙ y.own i z
            ∙ ap (λ (ls : List (List (List (List ℕ)))). get_or ls i []) q
            ∙ get_or-append front (g ∷ []) [] i u
            ∙ sym (get_or-append front ((g ++ fs ∷ []) ∷ []) [] i u))
            (λ u.
            let d : at ≡ i = omega arith in
            ap (λ (j : ℕ). take (many_of now j) (drop (first_of now j) (k attribute ++ fs ∷ []))) (sym d)
            ∙ ap (λ (j : ℕ). take (many_of now at) (drop j (k attribute ++ fs ∷ []))) (first_same at)
            ∙ ap (λ (j : ℕ). take j (drop (first_of x.o at) (k attribute ++ fs ∷ []))) counted
            ∙ part_grows (k attribute) (first_of x.o at) (many_of x.o at) fs (all ∙ sym whole)
            ∙ ap (λ (ls : List (List (List ℕ))). ls ++ fs ∷ [])
            (y.own at (omega arith) ∙ ap (λ (ls : List (List (List (List ℕ)))). get_or ls at []) q ∙ get_or_at front g [] [] at (omega arith))
            ∙ sym (get_or_at front (g ++ fs ∷ []) [] [] i (omega arith)))
            (lt_or_ge i (length front));
        last = λ _ i u.
            let d : at ≡ i = omega arith in
            ap (λ (j : ℕ). first_of now j + many_of now j) (sym d)
            ∙ ap (λ (j : ℕ). j + many_of now at) (first_same at)
            ∙ ap (λ (j : ℕ). first_of x.o at + j) counted
            ∙ omega arith;
      }
