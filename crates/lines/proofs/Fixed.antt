-- The ways through the functions of lines without lists of their own in the entries: type, value and function.
use Prim.Native.Nat.{ℕ, ◌<◌}
use mathlib.Core.Bool.{Bool, true, false, cond}
use mathlib.Core.List.{List, [], ◌∷◌}
use mathlib.Core.Path.{◌≡◌, refl, sym, ◌∙◌, ap}
use native.Mathlib.Omega.{arith}
use lib.Dec.{ltb}
use lib.ListN.{length, replicate}
use lib.Seq.{sets}
use Rattle.std.specs.Prelude.{Option, Some, None, Result, Ok, Err}
use Rattle.std.specs.Option.{ok_or}
use Rattle.fields.specs.Cut.{nth}
use Rattle.lines.specs.Field.{says, number, one_of, id32, integer32, integer64, list_of}
use Rattle.lines.specs.Line.{dim_of, type_line, value_row_of, owner, value_line, function_line}
use Rattle.lines.specs.Into.{number_in, good_of, count_of}
use Rattle.lines.specs.Answer.{bad_field, eight, type_of, dim_width, value_of, function_of}
use Rattle.lines.specs.declared.BadField.{BadField}
use Rattle.tables.specs.declared.Claim.{Claim}
use Rattle.lines.specs.declared.TypeLine.{TypeLine}
use Rattle.lines.specs.declared.ValueLine.{ValueLine}
use Rattle.lines.specs.declared.Width.{Width}
use Rattle.lines.specs.declared.Width.TheVariants.{Signed}
use Rattle.lines.proofs.Lists.{sets_out, uncounted, counted, list_good}

-- ---- `V`
abbrev value : ℕ → Option Claim → Result ValueLine BadField
value ty c = Ok (record { type_id = ty; claim = c })

module _ (fs : List (List ℕ)) (ty : ℕ) (k : id32 (nth 1 fs) ≡ Some ty) where
  value_owner : value_of (owner ty (nth 2 fs) (nth 3 fs)) ≡ value_of (value_line fs)
  unfolding value_line
  value_owner = rw k

  pub value_free : length (nth 2 fs) ≡ 0 → length (nth 3 fs) ≡ 0 → value ty None ≡ value_of (value_line fs)
  value_free h i = by (nth 2 fs) (nth 3 fs) h i ∙ value_owner
    where
      by : (o r : List ℕ) → length o ≡ 0 → length r ≡ 0 → value ty None ≡ value_of (owner ty o r)
      by [] [] h k = refl
      by [] (b ∷ r) h k = absurd (omega arith)
      by (b ∷ o) r h k = absurd (omega arith)

  pub value_half : length (nth 2 fs) ≡ 0 → 0 < length (nth 3 fs) → Err (bad_field 3) ≡ value_of (value_line fs)
  value_half h i = by (nth 2 fs) (nth 3 fs) h i ∙ value_owner
    where
      by : (o r : List ℕ) → length o ≡ 0 → 0 < length r → Err (bad_field 3) ≡ value_of (owner ty o r)
      by [] [] h k = absurd (omega arith)
      by [] (b ∷ r) h k = refl
      by (b ∷ o) r h k = absurd (omega arith)

  module _ (h : 0 < length (nth 2 fs)) where
    owned : value_of (number 3 (id32 (nth 2 fs)) (λ i. number 4 (integer64 (nth 3 fs)) (λ k. says (value_row_of ty 1 i k)))) ≡ value_of (value_line fs)
    owned = by (nth 2 fs) h ∙ value_owner
      where
        by : (o : List ℕ) → 0 < length o
            → value_of (number 3 (id32 o) (λ i. number 4 (integer64 (nth 3 fs)) (λ k. says (value_row_of ty 1 i k)))) ≡ value_of (owner ty o (nth 3 fs))
        by [] h = absurd (omega arith)
        by (b ∷ o) h = refl

    pub value_operation : id32 (nth 2 fs) ≡ None → Err (bad_field 3) ≡ value_of (value_line fs)
    value_operation e = sym (rw e) ∙ owned

    module _ (i : ℕ) (e : id32 (nth 2 fs) ≡ Some i) where
      pub value_index : integer64 (nth 3 fs) ≡ None → Err (bad_field 4) ≡ value_of (value_line fs)
      value_index d = sym (rw (e, d)) ∙ owned

      pub value_row : (j : ℕ) → integer64 (nth 3 fs) ≡ Some j → value ty (Some (record { operation = i; index = j })) ≡ value_of (value_line fs)
      value_row j d = sym (rw (e, d)) ∙ owned

-- ---- `F`
pub function_is : (fs : List (List ℕ)) → ok_or (id32 (nth 1 fs)) (bad_field 2) ≡ function_of (function_line fs)
unfolding function_line
function_is fs = by (id32 (nth 1 fs))
  where
    by : (o : Option ℕ) → ok_or o (bad_field 2) ≡ function_of (number 2 o says)
    by None = refl
    by (Some i) = refl

-- ---- `T`

-- the dims as a list of the width that the form has
same_width : {X : Type 0} (P : (List ℕ → Option ℕ) → X) (form : ℕ) → P (number_in (dim_width form)) ≡ P (dim_of form)
same_width {X} P form = by (ltb form 4)
  where
    by : (t : Bool) → P (number_in (cond t (Signed 0x8000_0000_0000_0000) (Signed 0x8000_0000))) ≡ P (λ s. cond t (integer64 s) (integer32 s))
    by true = refl
    by false = refl

-- eight zeros written over from the front
written_eight : (xs : List ℕ) → sets (replicate 8 0) 0 xs ≡ eight xs
written_eight [] = refl
written_eight (a ∷ []) = refl
written_eight (a ∷ b ∷ []) = refl
written_eight (a ∷ b ∷ c ∷ []) = refl
written_eight (a ∷ b ∷ c ∷ d ∷ []) = refl
written_eight (a ∷ b ∷ c ∷ d ∷ e ∷ []) = refl
written_eight (a ∷ b ∷ c ∷ d ∷ e ∷ f ∷ []) = refl
written_eight (a ∷ b ∷ c ∷ d ∷ e ∷ f ∷ g ∷ []) = refl
written_eight (a ∷ b ∷ c ∷ d ∷ e ∷ f ∷ g ∷ h ∷ xs) = sets_out (a ∷ b ∷ c ∷ d ∷ e ∷ f ∷ g ∷ h ∷ []) 8 xs (omega arith)

module _ (fs : List (List ℕ)) {form kind pointer padded sparse : ℕ} (a : one_of 7 (nth 1 fs) ≡ Some form) (b : one_of 16 (nth 2 fs) ≡ Some kind)
    (c : id32 (nth 3 fs) ≡ Some pointer) (d : one_of 2 (nth 4 fs) ≡ Some padded) (e : integer32 (nth 5 fs) ≡ Some sparse)
    (width : Width) (is : width ≡ dim_width form) where
  same_list : list_of (number_in width) (nth 6 fs) ≡ list_of (dim_of form) (nth 6 fs)
  same_list = ap (λ (x : Width). list_of (number_in x) (nth 6 fs)) is ∙ same_width (λ q. list_of q (nth 6 fs)) form

  pub type_dims : count_of (list_of (number_in width) (nth 6 fs)) ≡ None → Err (bad_field 7) ≡ type_of (type_line fs)
  unfolding type_line
  type_dims k = rw (a, b, c, d, e, sym same_list ∙ uncounted (list_of (number_in width) (nth 6 fs)) k)

  abbrev row : ℕ → List ℕ → Result TypeLine BadField
  row rank w = Ok (record { form = form; kind = kind; pointer = pointer; padded = padded; sparse = sparse; rank = rank; dims = w })

  pub type_row : (rank : ℕ) (w : List ℕ) → count_of (list_of (number_in width) (nth 6 fs)) ≡ Some rank
      → w ≡ sets (replicate 8 0) 0 (good_of (number_in width) (nth 6 fs)) → row rank w ≡ type_of (type_line fs)
  unfolding type_line
  type_row rank w k h =
      let read = counted (list_of (number_in width) (nth 6 fs)) rank k in
      ap (λ (n : ℕ). row n w) (sym read.2)
      ∙ ap (row (length read.0)) (h ∙ ap (sets (replicate 8 0) 0) (list_good (number_in width) (nth 6 fs) read.0 read.1) ∙ written_eight read.0)
      ∙ rw (a, b, c, d, e, sym same_list ∙ read.1)
