-- A line that reads: what it leaves in the entries is its lists, and what goes into a cell of 32 bits fits there.
use Rattle.std.specs.Prelude.{Option, Some, None}
use Prim.Native.Nat.{ℕ, suc, ◌+◌, ◌-◌, ◌^◌, ◌≤◌, ◌<◌}
use mathlib.Core.Bool.{Bool, true, false, cond}
use mathlib.Core.List.{List, [], ◌∷◌, ◌++◌, append-nil, append_assoc}
use mathlib.Core.Path.{◌≡◌, refl, sym, ◌∙◌, ap}
use native.Mathlib.Omega.{arith}
use lib.Dec.{eqb, ltb}
use lib.ListN.{length}
use borrow.Author.Tests.{ltb-true}
use Rattle.fields.specs.Cut.{split, nth}
use Rattle.fields.proofs.Laws.{unsigned_is}
use Rattle.names.specs.Names.{names, number_from, number_of, equal, integer_form, bool_form, integers_form, bools_form, permutation_form, divisor_form, sizes_form, endpoints_form}
use Rattle.lines.specs.Field.{says, bad, number, list, one_of, id32, unsigned64, integer32, integer64, list_of, Maybe, or_absent}
use Rattle.lines.specs.Line.{OperationRow, AttributeRow, Numbers, BlockRow, held, whole, single, value_in, missing_bit, is_wrong, divisor_numbers, endpoint_numbers, three, two, nothing, numbers_of, form_of, with_numbers, named, operation_line, attribute_line, block_line, region_line, function_line}
use Rattle.lines.specs.Into.{good_of}
use Rattle.lines.specs.Answer.{if_number, good_lists, operation_numbers, block_numbers, region_numbers, held_in, numbers_written, if_named, attribute_numbers}
use Rattle.lines.proofs.Lists.{list_good}
use Rattle.lines.proofs.Several.{lists_next}
use Rattle.lines.proofs.Attributes.{missing_le}

impossible {ℓ} : {X : Type ℓ} → ◌≡◌ {A = ℕ} 0 1 → X
impossible e = absurd (omega arith)

two_lists : (f : List ℕ → Option ℕ) (p q xs ys : List ℕ) → list_of f p ≡ Some xs → list_of f q ≡ Some ys → good_lists f (p ∷ q ∷ []) ≡ xs ++ ys
two_lists f p q xs ys hp hq =
    sym (lists_next f p (q ∷ []) xs hp) ∙ ap (λ (zs : List ℕ). xs ++ zs) (sym (lists_next f q [] ys hq) ∙ append-nil ys)

-- ---- `O`
module _ (fs : List (List ℕ)) (w : OperationRow) where
  operation_parts : operation_line fs ≡ says w
      → (operation_numbers fs ≡ w.results ++ w.operands ++ w.regions) × (w.opcode ≤ 104)
  unfolding operation_line operation_numbers
  operation_parts e = by (one_of 105 (nth 1 fs)) (list_of id32 (nth 2 fs)) (list_of id32 (nth 3 fs)) (list_of id32 (nth 4 fs)) refl refl refl refl e
    where
      row : ℕ → List ℕ → List ℕ → List ℕ → OperationRow
      row op xs ys zs = record { opcode = op; results = xs; operands = ys; regions = zs }

      by : (a : Option ℕ) (o o' o'' : Option (List ℕ)) → one_of 105 (nth 1 fs) ≡ a → list_of id32 (nth 2 fs) ≡ o → list_of id32 (nth 3 fs) ≡ o'
          → list_of id32 (nth 4 fs) ≡ o''
          → number 2 a (λ op. list 3 o (λ xs. list 4 o' (λ ys. list 5 o'' (λ zs. says (row op xs ys zs))))) ≡ says w
          → (if_number a (good_lists id32 (nth 2 fs ∷ nth 3 fs ∷ nth 4 fs ∷ [])) ≡ w.results ++ w.operands ++ w.regions) × (w.opcode ≤ 104)
      by None o o' o'' qa q q' q'' h = impossible (cc)
      by (Some op) None o' o'' qa q q' q'' h = impossible (cc)
      by (Some op) (Some xs) None o'' qa q q' q'' h = impossible (cc)
      by (Some op) (Some xs) (Some ys) None qa q q' q'' h = impossible (cc)
      by (Some op) (Some xs) (Some ys) (Some zs) qa q q' q'' h =
          let same : row op xs ys zs ≡ w = cc in
          let lists : good_lists id32 (nth 2 fs ∷ nth 3 fs ∷ nth 4 fs ∷ []) ≡ xs ++ ys ++ zs
          = sym (lists_next id32 (nth 2 fs) (nth 3 fs ∷ nth 4 fs ∷ []) xs q)
          ∙ ap (λ (vs : List ℕ). xs ++ vs) (two_lists id32 (nth 3 fs) (nth 4 fs) ys zs q' q'')
          ∙ sym (append_assoc xs ys zs) in
          let low = unsigned_is 104 (nth 1 fs) op qa in
          let code = ap (λ (v : OperationRow). v.opcode) same in
          (lists ∙ ap (λ (v : OperationRow). v.results ++ v.operands ++ v.regions) same, omega (arith, low.1))

  pub operation_says : operation_line fs ≡ says w → operation_numbers fs ≡ w.results ++ w.operands ++ w.regions
  operation_says e = (operation_parts e).0

  pub operation_small : operation_line fs ≡ says w → w.opcode < 2 ^ 32
  operation_small e = omega (arith, (operation_parts e).1)

-- ---- `B`
pub block_says : (fs : List (List ℕ)) (w : BlockRow) → block_line fs ≡ says w → block_numbers fs ≡ w.arguments ++ w.operations
unfolding block_line block_numbers
block_says fs w e = by (list_of id32 (nth 1 fs)) (list_of id32 (nth 2 fs)) refl refl e
  where
    row : List ℕ → List ℕ → BlockRow
    row xs ys = record { arguments = xs; operations = ys }

    by : (o o' : Option (List ℕ)) → list_of id32 (nth 1 fs) ≡ o → list_of id32 (nth 2 fs) ≡ o'
        → list 2 o (λ xs. list 3 o' (λ ys. says (row xs ys))) ≡ says w → good_lists id32 (nth 1 fs ∷ nth 2 fs ∷ []) ≡ w.arguments ++ w.operations
    by None o' q q' h = impossible (cc)
    by (Some xs) None q q' h = impossible (cc)
    by (Some xs) (Some ys) q q' h =
        let same : row xs ys ≡ w = cc in
        two_lists id32 (nth 1 fs) (nth 2 fs) xs ys q q' ∙ ap (λ (v : BlockRow). v.arguments ++ v.operations) same

-- ---- `R`
pub region_says : (fs : List (List ℕ)) (blocks : List ℕ) → region_line fs ≡ says blocks → region_numbers fs ≡ blocks
unfolding region_line region_numbers
region_says fs blocks e = by (list_of id32 (nth 1 fs)) refl e
  where
    by : (o : Option (List ℕ)) → list_of id32 (nth 1 fs) ≡ o → list 2 o says ≡ says blocks → good_of id32 (nth 1 fs) ≡ blocks
    by None q h = impossible (cc)
    by (Some xs) q h = let same : xs ≡ blocks = cc in list_good id32 (nth 1 fs) xs q ∙ same

-- ---- `F`
pub function_small : (fs : List (List ℕ)) (i : ℕ) → function_line fs ≡ says i → i < 2 ^ 32
unfolding function_line
function_small fs i e = by (id32 (nth 1 fs)) refl e
  where
    by : (a : Option ℕ) → id32 (nth 1 fs) ≡ a → number 2 a says ≡ says i → i < 2 ^ 32
    by None q h = impossible (cc)
    by (Some n) q h = let same : n ≡ i = cc in omega (arith, (unsigned_is (2 ^ 32 - 1) (nth 1 fs) n q).1)

-- ---- `A`

-- a form's numbers, where they read, are those written; and no bit but the first three is set
abbrev Fine : Option Numbers → List ℕ → Type 0
Fine o xs = (n : Numbers) → o ≡ Some n → (xs ≡ n.held) × (n.missing ≤ 6)

fine_single : (a : Option ℕ) → Fine (single a) (held_in (single a))
fine_single None n e = impossible (cc)
fine_single (Some v) n e = let same : held (v ∷ []) ≡ n = cc in (ap (λ (x : Numbers). x.held) same, omega (arith, ap (λ (x : Numbers). x.missing) same))

fine_whole : (f : List ℕ → Option ℕ) (s : List ℕ) → Fine (whole (list_of f s)) (good_of f s)
fine_whole f s n e = by (list_of f s) refl e
  where
    by : (o : Option (List ℕ)) → list_of f s ≡ o → whole o ≡ Some n → (good_of f s ≡ n.held) × (n.missing ≤ 6)
    by None q h = impossible (cc)
    by (Some xs) q h =
        let same : held xs ≡ n = cc in
        (list_good f s xs q ∙ ap (λ (x : Numbers). x.held) same, omega (arith, ap (λ (x : Numbers). x.missing) same))

fine_held : (o : Option Numbers) → ((n : Numbers) → o ≡ Some n → n.missing ≤ 6) → Fine o (held_in o)
fine_held None h n e = impossible (cc)
fine_held (Some m) h n e = let same : m ≡ n = cc in (ap (λ (x : Numbers). x.held) same, h n e)

three_bits : (a : Option ℕ) (m m' : Maybe) (n : Numbers) → divisor_numbers a m m' ≡ Some n → n.missing ≤ 6
three_bits None m m' n e = impossible (cc)
three_bits (Some d) m m' n e = by (is_wrong m) (is_wrong m') e
  where
    row : Numbers
    row = record { held = d ∷ value_in m ∷ value_in m' ∷ []; missing = missing_bit 2 m + missing_bit 4 m' }

    by : (t t' : Bool) → cond t None (cond t' None (Some row)) ≡ Some n → n.missing ≤ 6
    by true t' h = impossible (cc)
    by false true h = impossible (cc)
    by false false h =
        let same : row ≡ n = cc in
        omega (arith, ap (λ (x : Numbers). x.missing) same, missing_le 2 m, missing_le 4 m')

two_bits : (m m' : Maybe) (n : Numbers) → endpoint_numbers m m' ≡ Some n → n.missing ≤ 6
two_bits m m' n e = by (is_wrong m) (is_wrong m') e
  where
    row : Numbers
    row = record { held = value_in m ∷ value_in m' ∷ []; missing = missing_bit 1 m + missing_bit 2 m' }

    by : (t t' : Bool) → cond t None (cond t' None (Some row)) ≡ Some n → n.missing ≤ 6
    by true t' h = impossible (cc)
    by false true h = impossible (cc)
    by false false h =
        let same : row ≡ n = cc in
        omega (arith, ap (λ (x : Numbers). x.missing) same, missing_le 1 m, missing_le 2 m')

guarded : (t : Bool) (o : Option Numbers) → ((n : Numbers) → o ≡ Some n → n.missing ≤ 6)
    → (n : Numbers) → cond t o None ≡ Some n → n.missing ≤ 6
guarded true o h n e = h n e
guarded false o h n e = impossible (cc)

fine_nothing : (s : List ℕ) → Fine (nothing s) []
fine_nothing [] n e = let same : held [] ≡ n = cc in (ap (λ (x : Numbers). x.held) same, omega (arith, ap (λ (x : Numbers). x.missing) same))
fine_nothing (b ∷ bs) n e = impossible (cc)

-- whichever of two the test picks
fine_cond : (t : Bool) (o o' : Option Numbers) (xs xs' : List ℕ) → Fine o xs → Fine o' xs' → Fine (cond t o o') (cond t xs xs')
fine_cond true o o' xs xs' h h' = h
fine_cond false o o' xs xs' h h' = h'

fine_numbers : (form : ℕ) (s : List ℕ) → Fine (numbers_of form s) (numbers_written form s)
unfolding numbers_of numbers_written
fine_numbers form s =
    fine_cond (eqb form integer_form) _ _ _ _ (fine_single (integer64 s))
    (fine_cond (eqb form bool_form) _ _ _ _ (fine_single (one_of 2 s))
    (fine_cond (eqb form integers_form) _ _ _ _ (fine_whole integer64 s)
    (fine_cond (eqb form bools_form) _ _ _ _ (fine_whole (one_of 2) s)
    (fine_cond (eqb form permutation_form) _ _ _ _ (fine_whole integer32 s)
    (fine_cond (eqb form divisor_form) _ _ _ _
    (fine_held (three (split 44 s)) (guarded (eqb (length (split 44 s)) 3) _ (three_bits (unsigned64 (nth 0 (split 44 s))) (or_absent integer64 (nth 1 (split 44 s))) (or_absent integer64 (nth 2 (split 44 s))))))
    (fine_cond (eqb form sizes_form) _ _ _ _ (fine_whole integer64 s)
    (fine_cond (eqb form endpoints_form) _ _ _ _
    (fine_held (two (split 44 s)) (guarded (eqb (length (split 44 s)) 2) _ (two_bits (or_absent integer64 (nth 0 (split 44 s))) (or_absent integer64 (nth 1 (split 44 s))))))
    (fine_nothing s))))))))

-- the number of a name is one of those that are listed
number_le : (from : ℕ) (ns : List (List ℕ)) (name : List ℕ) → number_from from ns name ≤ from + length ns
number_le from [] name = omega arith
number_le from (n ∷ ns) name = by (equal name n) (number_le (suc from) ns name)
  where
    by : (t : Bool) → number_from (suc from) ns name ≤ suc from + length ns → cond t from (number_from (suc from) ns name) ≤ from + suc (length ns)
    by true h = omega arith
    by false h = omega arith

name_small : (name : List ℕ) → number_of name ≤ 14
unfolding number_of names
name_small name = number_le 1 names name

-- the row of an attribute: its numbers are those written, and its name, form and absent places are small
pub record Small (fs : List (List ℕ)) (w : AttributeRow) : Type 0 where
  pub numbers : attribute_numbers fs ≡ w.numbers
  pub name : w.name < 2 ^ 32
  pub form : w.form < 2 ^ 32
  pub missing : w.missing < 2 ^ 32

pub attribute_says : (fs : List (List ℕ)) (w : AttributeRow) → attribute_line fs ≡ says w → Small fs w
unfolding attribute_line attribute_numbers
attribute_says fs w e =
    let h = by (nth 1 fs) (form_of (nth 2 fs)) (ltb (form_of (nth 2 fs)) 9) refl e in
    record { numbers = h.0; name = omega (arith, h.1); form = omega (arith, h.2); missing = omega (arith, h.3) }
  where
    row : ℕ → ℕ → Numbers → AttributeRow
    row name form n = record { name = name; form = form; numbers = n.held; missing = n.missing }

    filled : (name form : ℕ) (o : Option Numbers) (xs : List ℕ) → name ≤ 14 → form < 9 → Fine o xs → with_numbers name form o ≡ says w
        → (xs ≡ w.numbers) × (w.name ≤ 14) × (w.form < 9) × (w.missing ≤ 6)
    filled name form None xs hn hf fine h = impossible (cc)
    filled name form (Some n) xs hn hf fine h =
        let same : row name form n ≡ w = cc in
        let both = fine n refl in (
          both.0 ∙ ap (λ (v : AttributeRow). v.numbers) same,
          omega (arith, ap (λ (v : AttributeRow). v.name) same),
          omega (arith, ap (λ (v : AttributeRow). v.form) same),
          omega (arith, ap (λ (v : AttributeRow). v.missing) same, both.1),
        )

    by : (s : List ℕ) (form : ℕ) (t : Bool) → ltb form 9 ≡ t
        → named s (cond t (with_numbers (number_of s) form (numbers_of form (nth 3 fs))) (bad 3)) ≡ says w
        → (if_named s (cond t (numbers_written form (nth 3 fs)) []) ≡ w.numbers) × (w.name ≤ 14) × (w.form < 9) × (w.missing ≤ 6)
    by [] form t q h = impossible (cc)
    by (b ∷ s) form false q h = impossible (cc)
    by (b ∷ s) form true q h =
        filled (number_of (b ∷ s)) form (numbers_of form (nth 3 fs)) (numbers_written form (nth 3 fs))
        (name_small (b ∷ s)) (ltb-true form 9 q) (fine_numbers form (nth 3 fs)) h
