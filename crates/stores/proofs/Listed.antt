-- Lines with lists stored: the ways through the functions that store an `O`, `A`, `B` or `R` line and their room in the list entries.
use Prim.Native.Nat.{ℕ, ◌+◌, ◌*◌, ◌%◌, ◌^◌, ◌≤◌, ◌<◌}
use mathlib.Core.Bool.{Bool, true, false}
use mathlib.Core.List.{List, [], ◌∷◌, ◌++◌}
use mathlib.Core.Path.{◌≡◌, refl, sym, ◌∙◌, ap}
use native.Mathlib.Omega.{arith}
use native.Mathlib.Nat.{mod-eq_of_lt}
use lib.Dec.{ltb, leb}
use lib.ListN.{length, replicate, length-append}
use lib.Seq.{sets}
use borrow.Author.Tests.{lt-ltb, le-ltb, le-leb, lt-leb, leb-true, leb-false}
use Rattle.std.specs.Prelude.{Result, Ok, Err}
use Rattle.lines.specs.Field.{Read, says, bad}
use Rattle.lines.specs.Line.{OperationRow, AttributeRow, BlockRow, operation_line, attribute_line, block_line, region_line}
use Rattle.lines.specs.Into.{Left, left}
use Rattle.lines.specs.Answer.{operation_line_of, attribute_line_of, block_line_of, operation_of, operation_numbers, operation_into, attribute_of, attribute_numbers, attribute_into, block_of, block_numbers, block_into, region_of, region_numbers, region_into}
use Rattle.lines.specs.declared.OperationLine.{OperationLine}
use Rattle.lines.specs.declared.AttributeLine.{AttributeLine}
use Rattle.lines.specs.declared.BlockLine.{BlockLine}
use Rattle.lines.specs.declared.BadField.{BadField}
use Rattle.lines.proofs.Lists.{sets_append}
use Rattle.lines.proofs.Says.{operation_small, attribute_says}
use Rattle.stores.specs.Rows.{operation_cells, attribute_cells, block_cells, region_cells}
use Rattle.stores.specs.Store.{both, with_lists, operation_row, operation_store, attribute_row, attribute_store, block_row, block_store, region_row, region_store}
use Rattle.stores.specs.declared.Unstored.{Unstored}
use Rattle.stores.specs.declared.Unstored.TheVariants.{Bad, Full}
use Rattle.stores.proofs.Stores.{answered_bad, answered_row, and_false}

-- a cell keeps a number below 2^32
low : (x y : ℕ) → x ≡ y % 2 ^ 32 → y < 2 ^ 32 → x ≡ y
low x y e h = e ∙ mod-eq_of_lt h

-- ---- room in the table and in the entries
module _ (size at n more : ℕ) (new t l : List ℕ) where
  lists_full : size ≤ n → both (Err Full) t l ≡ with_lists size at n more new t l
  lists_full h = rw (le-ltb n size h)

  lists_crowded : (room : Bool) (m : ℕ) → room ≡ leb (at + m) 8192 → m ≡ more → room ≡ false → both (Err Full) t l ≡ with_lists size at n more new t l
  lists_crowded room m er em k =
      let over = leb-false (at + m) 8192 (sym er ∙ k) in
      rw (lt-leb (at + more) 8192 (omega arith), and_false (ltb n size))

  lists_taken : (room : Bool) (m : ℕ) → room ≡ leb (at + m) 8192 → m ≡ more → room ≡ true → n < size → (next : ℕ) → next ≡ at + more
      → both (Ok next) new l ≡ with_lists size at n more new t l
  lists_taken room m er em k h next en =
      let within = leb-true (at + m) 8192 (sym er ∙ k) in
      ap (λ (x : ℕ). both (Ok x) new l) en ∙ sym (rw (lt-ltb n size h, le-leb (at + more) 8192 (omega arith)))

pub room_within : (room : Bool) (at m : ℕ) → room ≡ leb (at + m) 8192 → room ≡ true → at + m ≤ 8192
room_within room at m er k = leb-true (at + m) 8192 (sym er ∙ k)

-- ---- `R`
module _ (fs : List (List ℕ)) (at n : ℕ) (r l : List ℕ) (w : Result ℕ BadField) (l' : List ℕ) (e : left w l' ≡ region_into at fs l) where
  region_answer : w ≡ region_of (region_line fs)
  unfolding region_into
  region_answer = ap (λ (x : Left (Result ℕ BadField)). x.answer) e

  region_entries : l' ≡ sets l at (region_numbers fs)
  unfolding region_into
  region_entries = ap (λ (x : Left (Result ℕ BadField)). x.entries) e

  region_store_lem : (y : Read (List ℕ)) → region_line fs ≡ y → region_row at n y r l' ≡ region_store at n fs r l
  unfolding region_store
  region_store_lem y q = ap (region_row at n y r) region_entries ∙ ap (λ (x : Read (List ℕ)). region_row at n x r (sets l at (region_numbers fs))) (sym q)

  pub region_bad : (b' : BadField) → w ≡ Err b' → (x : Result ℕ Unstored) → x ≡ Err (Bad b'.field) → both x r l' ≡ region_store at n fs r l
  region_bad b' q x e' =
      ap (λ (y : Result ℕ Unstored). both y r l') e'
      ∙ region_store_lem (bad b'.field) (answered_bad length (region_line fs) w region_answer b' q)

  module _ (m : ℕ) (q : w ≡ Ok m) where
    region_said : (v : List ℕ) × ((region_line fs ≡ says v) × (m ≡ length v))
    region_said = answered_row length (region_line fs) w region_answer m q

    pub region_full : 512 ≤ n → both (Err Full) r l' ≡ region_store at n fs r l
    region_full h = let s = region_said in lists_full 512 at n _ _ r l' h ∙ region_store_lem (says s.0) s.1.0

    module _ (room : Bool) (er : room ≡ leb (at + (m + 0 + 0)) 8192) where
      pub region_crowded : room ≡ false → both (Err Full) r l' ≡ region_store at n fs r l
      region_crowded k =
          let s = region_said in
          lists_crowded 512 at n _ _ r l' room (m + 0 + 0) er (omega (arith, s.1.1)) k ∙ region_store_lem (says s.0) s.1.0

      pub region_taken : room ≡ true → n < 512 → (x y : ℕ) → x ≡ at % 2 ^ 32 → y ≡ m % 2 ^ 32 → (r' : List ℕ) → r' ≡ sets r (n * 2) (x ∷ y ∷ [])
          → both (Ok (at + m)) r' l' ≡ region_store at n fs r l
      region_taken k h x y ex ey r' e' =
          let s = region_said in
          let within = room_within room at (m + 0 + 0) er k in
          let lx : x ≡ at = low x at ex (omega arith) in
          let ly : y ≡ length s.0 = low y m ey (omega arith) ∙ s.1.1 in
          ap (λ (t : List ℕ). both (Ok (at + m)) t l') (e' ∙ ap (λ (z : ℕ). sets r (n * 2) (z ∷ y ∷ [])) lx ∙ ap (λ (z : ℕ). sets r (n * 2) (at ∷ z ∷ [])) ly)
          ∙ lists_taken 512 at n (length s.0) (sets r (n * 2) (region_cells at s.0)) r l' room (m + 0 + 0) er (omega (arith, s.1.1)) k h (at + m) (ap (λ (z : ℕ). at + z) s.1.1)
          ∙ region_store_lem (says s.0) s.1.0

-- ---- `B`
module _ (fs : List (List ℕ)) (at n : ℕ) (b l : List ℕ) (w : Result BlockLine BadField) (l' : List ℕ) (e : left w l' ≡ block_into at fs l) where
  block_answer : w ≡ block_of (block_line fs)
  unfolding block_into
  block_answer = ap (λ (x : Left (Result BlockLine BadField)). x.answer) e

  block_entries : l' ≡ sets l at (block_numbers fs)
  unfolding block_into
  block_entries = ap (λ (x : Left (Result BlockLine BadField)). x.entries) e

  block_store_lem : (y : Read BlockRow) → block_line fs ≡ y → block_row at n y b l' ≡ block_store at n fs b l
  unfolding block_store
  block_store_lem y q = ap (block_row at n y b) block_entries ∙ ap (λ (x : Read BlockRow). block_row at n x b (sets l at (block_numbers fs))) (sym q)

  pub block_bad : (b' : BadField) → w ≡ Err b' → (x : Result ℕ Unstored) → x ≡ Err (Bad b'.field) → both x b l' ≡ block_store at n fs b l
  block_bad b' q x e' =
      ap (λ (y : Result ℕ Unstored). both y b l') e'
      ∙ block_store_lem (bad b'.field) (answered_bad block_line_of (block_line fs) w block_answer b' q)

  module _ (got : BlockLine) (q : w ≡ Ok got) where
    block_said : (v : BlockRow) × ((block_line fs ≡ says v) × (got.arguments ≡ length v.arguments) × (got.operations ≡ length v.operations))
    block_said =
        let s = answered_row block_line_of (block_line fs) w block_answer got q in
        (s.0, (s.1.0, ap (λ (x : BlockLine). x.arguments) s.1.1, ap (λ (x : BlockLine). x.operations) s.1.1))

    pub block_full : 512 ≤ n → both (Err Full) b l' ≡ block_store at n fs b l
    block_full h = let s = block_said in lists_full 512 at n _ _ b l' h ∙ block_store_lem (says s.0) s.1.0

    module _ (room : Bool) (er : room ≡ leb (at + (got.arguments + got.operations + 0)) 8192) where
      pub block_crowded : room ≡ false → both (Err Full) b l' ≡ block_store at n fs b l
      block_crowded k =
          let s = block_said in
          let all = length-append s.0.arguments s.0.operations in
          lists_crowded 512 at n _ _ b l' room (got.arguments + got.operations + 0) er (omega (arith, s.1.1, s.1.2)) k ∙ block_store_lem (says s.0) s.1.0

      pub block_taken : room ≡ true → n < 512 → (x y z u : ℕ) → x ≡ at % 2 ^ 32 → y ≡ got.arguments % 2 ^ 32 → z ≡ (at + got.arguments) % 2 ^ 32 → u ≡ got.operations % 2 ^ 32
          → (b' : List ℕ) → b' ≡ sets b (n * 4) (x ∷ y ∷ z ∷ u ∷ []) → both (Ok (at + got.arguments + got.operations)) b' l' ≡ block_store at n fs b l
      block_taken k h x y z u ex ey ez eu b' e' =
          let s = block_said in
          let within = room_within room at (got.arguments + got.operations + 0) er k in
          let all = length-append s.0.arguments s.0.operations in
          let lx : x ≡ at = low x at ex (omega arith) in
          let ly : y ≡ length s.0.arguments = low y got.arguments ey (omega arith) ∙ s.1.1 in
          let lz : z ≡ at + length s.0.arguments = low z (at + got.arguments) ez (omega arith) ∙ ap (λ (i : ℕ). at + i) s.1.1 in
          let lu : u ≡ length s.0.operations = low u got.operations eu (omega arith) ∙ s.1.2 in
          ap (λ (t : List ℕ). both (Ok (at + got.arguments + got.operations)) t l')
          (e' ∙ ap (λ (i : ℕ). sets b (n * 4) (i ∷ y ∷ z ∷ u ∷ [])) lx ∙ ap (λ (i : ℕ). sets b (n * 4) (at ∷ i ∷ z ∷ u ∷ [])) ly
          ∙ ap (λ (i : ℕ). sets b (n * 4) (at ∷ length s.0.arguments ∷ i ∷ u ∷ [])) lz
          ∙ ap (λ (i : ℕ). sets b (n * 4) (at ∷ length s.0.arguments ∷ (at + length s.0.arguments) ∷ i ∷ [])) lu)
          ∙ lists_taken 512 at n (length (s.0.arguments ++ s.0.operations)) (sets b (n * 4) (block_cells at s.0)) b l' room (got.arguments + got.operations + 0) er
          (omega (arith, s.1.1, s.1.2)) k h (at + got.arguments + got.operations) (omega (arith, s.1.1, s.1.2))
          ∙ block_store_lem (says s.0) s.1.0

-- ---- `A`
module _ (fs : List (List ℕ)) (at n : ℕ) (a l : List ℕ) (w : Result AttributeLine BadField) (l' : List ℕ) (e : left w l' ≡ attribute_into at fs l) where
  attribute_answer : w ≡ attribute_of (attribute_line fs)
  unfolding attribute_into
  attribute_answer = ap (λ (x : Left (Result AttributeLine BadField)). x.answer) e

  attribute_entries : l' ≡ sets l at (attribute_numbers fs)
  unfolding attribute_into
  attribute_entries = ap (λ (x : Left (Result AttributeLine BadField)). x.entries) e

  attribute_store_lem : (y : Read AttributeRow) → attribute_line fs ≡ y → attribute_row at n y a l' ≡ attribute_store at n fs a l
  unfolding attribute_store
  attribute_store_lem y q =
      ap (attribute_row at n y a) attribute_entries ∙ ap (λ (x : Read AttributeRow). attribute_row at n x a (sets l at (attribute_numbers fs))) (sym q)

  pub attribute_bad : (b' : BadField) → w ≡ Err b' → (x : Result ℕ Unstored) → x ≡ Err (Bad b'.field) → both x a l' ≡ attribute_store at n fs a l
  attribute_bad b' q x e' =
      ap (λ (y : Result ℕ Unstored). both y a l') e'
      ∙ attribute_store_lem (bad b'.field) (answered_bad attribute_line_of (attribute_line fs) w attribute_answer b' q)

  module _ (got : AttributeLine) (q : w ≡ Ok got) where
    attribute_said : (v : AttributeRow) × ((attribute_line fs ≡ says v) × (got.name ≡ v.name) × (got.form ≡ v.form) × (got.count ≡ length v.numbers) × (got.missing ≡ v.missing))
    attribute_said =
        let s = answered_row attribute_line_of (attribute_line fs) w attribute_answer got q in
        (s.0, (s.1.0, ap (λ (x : AttributeLine). x.name) s.1.1, ap (λ (x : AttributeLine). x.form) s.1.1, ap (λ (x : AttributeLine). x.count) s.1.1, ap (λ (x : AttributeLine). x.missing) s.1.1))

    pub attribute_full : 4096 ≤ n → both (Err Full) a l' ≡ attribute_store at n fs a l
    attribute_full h = let s = attribute_said in lists_full 4096 at n _ _ a l' h ∙ attribute_store_lem (says s.0) s.1.0

    module _ (room : Bool) (er : room ≡ leb (at + (got.count + 0 + 0)) 8192) where
      pub attribute_crowded : room ≡ false → both (Err Full) a l' ≡ attribute_store at n fs a l
      attribute_crowded k =
          let s = attribute_said in
          lists_crowded 4096 at n _ _ a l' room (got.count + 0 + 0) er (omega (arith, s.1.3)) k ∙ attribute_store_lem (says s.0) s.1.0

      pub attribute_taken : room ≡ true → n < 4096 → (x y z u v : ℕ) → x ≡ got.name % 2 ^ 32 → y ≡ got.form % 2 ^ 32 → z ≡ at % 2 ^ 32 → u ≡ got.count % 2 ^ 32
          → v ≡ got.missing % 2 ^ 32 → (a' : List ℕ) → a' ≡ sets a (n * 8) (x ∷ y ∷ z ∷ u ∷ v ∷ 0 ∷ 0 ∷ 0 ∷ [])
          → both (Ok (at + got.count)) a' l' ≡ attribute_store at n fs a l
      attribute_taken k h x y z u v ex ey ez eu ev a' e' =
          let s = attribute_said in
          let small = attribute_says fs s.0 s.1.0 in
          let within = room_within room at (got.count + 0 + 0) er k in
          let lx : x ≡ s.0.name = low x got.name ex (omega (arith, s.1.1, small.name)) ∙ s.1.1 in
          let ly : y ≡ s.0.form = low y got.form ey (omega (arith, s.1.2, small.form)) ∙ s.1.2 in
          let lz : z ≡ at = low z at ez (omega arith) in
          let lu : u ≡ length s.0.numbers = low u got.count eu (omega arith) ∙ s.1.3 in
          let lv : v ≡ s.0.missing = low v got.missing ev (omega (arith, s.1.4, small.missing)) ∙ s.1.4 in
          ap (λ (t : List ℕ). both (Ok (at + got.count)) t l')
          (e' ∙ ap (λ (i : ℕ). sets a (n * 8) (i ∷ y ∷ z ∷ u ∷ v ∷ 0 ∷ 0 ∷ 0 ∷ [])) lx
          ∙ ap (λ (i : ℕ). sets a (n * 8) (s.0.name ∷ i ∷ z ∷ u ∷ v ∷ 0 ∷ 0 ∷ 0 ∷ [])) ly
          ∙ ap (λ (i : ℕ). sets a (n * 8) (s.0.name ∷ s.0.form ∷ i ∷ u ∷ v ∷ 0 ∷ 0 ∷ 0 ∷ [])) lz
          ∙ ap (λ (i : ℕ). sets a (n * 8) (s.0.name ∷ s.0.form ∷ at ∷ i ∷ v ∷ 0 ∷ 0 ∷ 0 ∷ [])) lu
          ∙ ap (λ (i : ℕ). sets a (n * 8) (s.0.name ∷ s.0.form ∷ at ∷ length s.0.numbers ∷ i ∷ 0 ∷ 0 ∷ 0 ∷ [])) lv)
          ∙ lists_taken 4096 at n (length s.0.numbers) (sets a (n * 8) (attribute_cells at s.0)) a l' room (got.count + 0 + 0) er (omega (arith, s.1.3)) k h (at + got.count)
          (ap (λ (i : ℕ). at + i) s.1.3)
          ∙ attribute_store_lem (says s.0) s.1.0

-- ---- `O`
module _ (fs : List (List ℕ)) (at n first : ℕ) (o l : List ℕ) (w : Result OperationLine BadField) (l' : List ℕ) (e : left w l' ≡ operation_into at fs l) where
  operation_answer : w ≡ operation_of (operation_line fs)
  unfolding operation_into
  operation_answer = ap (λ (x : Left (Result OperationLine BadField)). x.answer) e

  operation_entries : l' ≡ sets l at (operation_numbers fs)
  unfolding operation_into
  operation_entries = ap (λ (x : Left (Result OperationLine BadField)). x.entries) e

  operation_store_lem : (y : Read OperationRow) → operation_line fs ≡ y → operation_row at n first y o l' ≡ operation_store at n first fs o l
  unfolding operation_store
  operation_store_lem y q =
      ap (operation_row at n first y o) operation_entries
      ∙ ap (λ (x : Read OperationRow). operation_row at n first x o (sets l at (operation_numbers fs))) (sym q)

  pub operation_bad : (b' : BadField) → w ≡ Err b' → (x : Result ℕ Unstored) → x ≡ Err (Bad b'.field) → both x o l' ≡ operation_store at n first fs o l
  operation_bad b' q x e' =
      ap (λ (y : Result ℕ Unstored). both y o l') e'
      ∙ operation_store_lem (bad b'.field) (answered_bad operation_line_of (operation_line fs) w operation_answer b' q)

  module _ (got : OperationLine) (q : w ≡ Ok got) where
    operation_said : (v : OperationRow) × ((operation_line fs ≡ says v) × (got.opcode ≡ v.opcode) × (got.results ≡ length v.results) × (got.operands ≡ length v.operands) × (got.regions ≡ length v.regions))
    operation_said =
        let s = answered_row operation_line_of (operation_line fs) w operation_answer got q in
        (s.0, (s.1.0, ap (λ (x : OperationLine). x.opcode) s.1.1, ap (λ (x : OperationLine). x.results) s.1.1, ap (λ (x : OperationLine). x.operands) s.1.1, ap (λ (x : OperationLine). x.regions) s.1.1))

    all_lists : (v : OperationRow) → got.results ≡ length v.results → got.operands ≡ length v.operands → got.regions ≡ length v.regions
        → got.results + got.operands + got.regions ≡ length (v.results ++ v.operands ++ v.regions)
    all_lists v a b c =
        omega (arith, length-append (v.results ++ v.operands) v.regions, length-append v.results v.operands)

    pub operation_full : 2048 ≤ n → both (Err Full) o l' ≡ operation_store at n first fs o l
    operation_full h = let s = operation_said in lists_full 2048 at n _ _ o l' h ∙ operation_store_lem (says s.0) s.1.0

    module _ (room : Bool) (er : room ≡ leb (at + (got.results + got.operands + got.regions)) 8192) where
      pub operation_crowded : room ≡ false → both (Err Full) o l' ≡ operation_store at n first fs o l
      operation_crowded k =
          let s = operation_said in
          lists_crowded 2048 at n _ _ o l' room (got.results + got.operands + got.regions) er (all_lists s.0 s.1.2 s.1.3 s.1.4) k
          ∙ operation_store_lem (says s.0) s.1.0

      pub operation_taken : room ≡ true → n < 2048 → (x₁ x₂ x₃ x₄ x₅ x₆ x₇ x₈ : ℕ) → x₁ ≡ got.opcode % 2 ^ 32 → x₂ ≡ at % 2 ^ 32 → x₃ ≡ got.results % 2 ^ 32
          → x₄ ≡ (at + got.results) % 2 ^ 32 → x₅ ≡ got.operands % 2 ^ 32 → x₆ ≡ (at + got.results + got.operands) % 2 ^ 32 → x₇ ≡ got.regions % 2 ^ 32 → x₈ ≡ first % 2 ^ 32 → (o' o'' : List ℕ)
          → o' ≡ sets o (n * 16) (x₁ ∷ x₂ ∷ x₃ ∷ x₄ ∷ x₅ ∷ x₆ ∷ x₇ ∷ x₈ ∷ []) → o'' ≡ sets o' (n * 16 + 8) (replicate 8 0)
          → both (Ok (at + got.results + got.operands + got.regions)) o'' l' ≡ operation_store at n first fs o l
      operation_taken k h x₁ x₂ x₃ x₄ x₅ x₆ x₇ x₈ e₁ e₂ e₃ e₄ e₅ e₆ e₇ e₈ o' o'' e' e'' =
          let s = operation_said in
          let v = s.0 in
          let small = operation_small fs v s.1.0 in
          let within = room_within room at (got.results + got.operands + got.regions) er k in
          let row = row_of x₁ x₂ x₃ x₄ x₅ x₆ x₇ x₈ v (low x₁ got.opcode e₁ (omega (arith, s.1.1)) ∙ s.1.1) (low x₂ at e₂ (omega arith))
          (low x₃ got.results e₃ (omega arith) ∙ s.1.2) (low x₄ (at + got.results) e₄ (omega arith) ∙ ap (λ (z : ℕ). at + z) s.1.2)
          (low x₅ got.operands e₅ (omega arith) ∙ s.1.3) (low x₆ (at + got.results + got.operands) e₆ (omega arith) ∙ omega (arith, s.1.2, s.1.3))
          (low x₇ got.regions e₇ (omega arith) ∙ s.1.4) e₈ in
          ap (λ (t : List ℕ). both (Ok (at + got.results + got.operands + got.regions)) t l')
          (e'' ∙ ap (λ (t : List ℕ). sets t (n * 16 + 8) (replicate 8 0)) (e' ∙ ap (sets o (n * 16)) row) ∙ sets_append o (n * 16) (front v) (replicate 8 0))
          ∙ lists_taken 2048 at n (length (v.results ++ v.operands ++ v.regions)) (sets o (n * 16) (operation_cells at (first % 2 ^ 32) v)) o l' room (got.results + got.operands + got.regions) er
          (all_lists v s.1.2 s.1.3 s.1.4) k h (at + got.results + got.operands + got.regions)
          (let all = all_lists v s.1.2 s.1.3 s.1.4 in omega arith)
          ∙ operation_store_lem (says v) s.1.0
        where
          front : OperationRow → List ℕ
          front v =
              v.opcode ∷ at ∷ length v.results ∷ (at + length v.results) ∷ length v.operands ∷ (at + length v.results + length v.operands)
              ∷ length v.regions ∷ (first % 2 ^ 32) ∷ []

          row_of : (x₁ x₂ x₃ x₄ x₅ x₆ x₇ x₈ : ℕ) (v : OperationRow) → x₁ ≡ v.opcode → x₂ ≡ at → x₃ ≡ length v.results → x₄ ≡ at + length v.results
              → x₅ ≡ length v.operands → x₆ ≡ at + length v.results + length v.operands → x₇ ≡ length v.regions → x₈ ≡ first % 2 ^ 32
              → x₁ ∷ x₂ ∷ x₃ ∷ x₄ ∷ x₅ ∷ x₆ ∷ x₇ ∷ x₈ ∷ [] ≡ front v
          row_of x₁ x₂ x₃ x₄ x₅ x₆ x₇ x₈ v f₁ f₂ f₃ f₄ f₅ f₆ f₇ f₈ = rw (f₁, f₂, f₃, f₄, f₅, f₆, f₇, f₈)

-- two tests that say the same
pub same_test : (a b c d : ℕ) → (a ≤ b → c ≤ d) → (b < a → d < c) → leb a b ≡ leb c d
same_test a b c d f g = by (leb a b) refl
  where
    by : (t : Bool) → leb a b ≡ t → t ≡ leb c d
    by true q = sym (le-leb c d (f (leb-true a b q)))
    by false q = sym (lt-leb c d (g (leb-false a b q)))
