-- One line stored: the ways through the functions that store a line without lists.
use Prim.Native.Nat.{ℕ, ◌+◌, ◌*◌, ◌%◌, ◌^◌, ◌≤◌, ◌<◌}
use mathlib.Core.Bool.{Bool, true, false, ◌&&◌, cond}
use mathlib.Core.List.{List, [], ◌∷◌}
use mathlib.Core.Path.{◌≡◌, refl, sym, ◌∙◌, ap, subst}
use native.Mathlib.Nat.{mod-eq_of_lt}
use native.Mathlib.Omega.{arith}
use lib.Dec.{ltb, leb}
use lib.ListN.{length, set}
use lib.Seq.{sets}
use borrow.Author.Tests.{lt-ltb, le-ltb, le-leb, lt-leb}
use Rattle.std.specs.Prelude.{Option, Some, None, Result, Ok, Err}
use Rattle.std.specs.Result.{IsErrAnd}
use Rattle.std.proofs.lemmas.Result.{err_from_is_err_and}
use Rattle.fields.specs.Cut.{nth}
use Rattle.lines.specs.Field.{Read, says, bad, number, id32, integer64}
use Rattle.lines.specs.Line.{TypeRow, ValueRow, value_row_of, owner, type_line, value_line, function_line}
use Rattle.lines.specs.Into.{left}
use Rattle.lines.specs.Answer.{bad_field, answered, type_line_of, type_of, claim_of, value_line_of, value_of, function_of}
use Rattle.lines.specs.declared.BadField.{BadField}
use Rattle.tables.specs.declared.Claim.{Claim}
use Rattle.lines.specs.declared.TypeLine.{TypeLine}
use Rattle.lines.specs.declared.ValueLine.{ValueLine}
pub use Rattle.lines.proofs.Kept.{impossible}
use Rattle.lines.proofs.Lists.{sets_append}
use Rattle.lines.proofs.Says.{function_small}
use Rattle.stores.specs.Rows.{type_cells, value_cells}
use Rattle.stores.specs.Store.{type_store, value_store, function_store}
use Rattle.stores.specs.declared.Unstored.{Unstored}
use Rattle.stores.specs.declared.Unstored.TheVariants.{Bad, Full}

-- ---- what a line's answer says of the line
module _ {A B : Type 0} (f : A → B) (y : Read A) (r : Result B BadField) (e : r ≡ answered f y) where
  pub answered_bad : (b : BadField) → r ≡ Err b → y ≡ bad b.field
  answered_bad b q = by y (sym q ∙ e)
    where
      by : (y : Read A) → Err b ≡ answered f y → y ≡ bad b.field
      by (bad k) h = let same : bad_field k ≡ b = cc in ap (λ (x : BadField). bad x.field) same
      by (says v) h = impossible (cc)

  pub answered_row : (row : B) → r ≡ Ok row → (v : A) × ((y ≡ says v) × (row ≡ f v))
  answered_row row q = by y (sym q ∙ e)
    where
      by : (y : Read A) → Ok row ≡ answered f y → (v : A) × ((y ≡ says v) × (row ≡ f v))
      by (bad k) h = impossible (cc)
      by (says v) h = let same : row ≡ f v = cc in (v, (refl, same))

-- the `?` makes of a bad field that the line is not stored
pub not_stored : {A : Type 0} {b : BadField} {r : Result A Unstored} → IsErrAnd r (λ y. y ≡ Bad b.field) → r ≡ Err (Bad b.field)
not_stored {r = r} up = let e = err_from_is_err_and r up in e.1 ∙ ap Err e.2

pub and_false : (t : Bool) → t && false ≡ false
and_false true = refl
and_false false = refl

-- ---- `T`
module _ (fs : List (List ℕ)) (at n : ℕ) (t : List ℕ) (w : Result TypeLine BadField) (e : w ≡ type_of (type_line fs)) where
  pub type_bad : (b : BadField) → w ≡ Err b → (r : Result ℕ Unstored) → r ≡ Err (Bad b.field) → left r t ≡ type_store at n (type_line fs) t
  unfolding type_store
  type_bad b q r er = rw (answered_bad type_line_of (type_line fs) w e b q, er)

  module _ (row : TypeLine) (q : w ≡ Ok row) where
    stores : (v : TypeRow) → type_line fs ≡ says v
        → cond (ltb n 1024 && leb (length v.dims) 8) (left (Ok at) (sets t (n * 16) (type_cells v))) (left (Err Full) t)
        ≡ type_store at n (type_line fs) t
    unfolding type_store
    stores v k = sym (ap (λ (r : Read TypeRow). type_store at n r t) k)

    pub type_full : 1024 ≤ n → left (Err Full) t ≡ type_store at n (type_line fs) t
    type_full h = let s = answered_row type_line_of (type_line fs) w e row q in sym (rw (le-ltb n 1024 h)) ∙ stores s.0 s.1.0

    pub type_deep : 8 < row.rank → left (Err Full) t ≡ type_store at n (type_line fs) t
    type_deep h =
        let s = answered_row type_line_of (type_line fs) w e row q in
        let rank = ap (λ (x : TypeLine). x.rank) s.1.1 in
        sym (rw (lt-leb (length s.0.dims) 8 (omega (arith, rank)), and_false (ltb n 1024))) ∙ stores s.0 s.1.0

    module _ (h : n < 1024) (k : row.rank ≤ 8) (t' t'' : List ℕ)
        (e' : t' ≡ sets t (n * 16) (row.form ∷ row.kind ∷ row.pointer ∷ row.padded ∷ row.sparse ∷ row.rank ∷ 0 ∷ 0 ∷ []))
        (e'' : t'' ≡ sets t' (n * 16 + 8) row.dims) where
      cells : t'' ≡ sets t (n * 16) (row.form ∷ row.kind ∷ row.pointer ∷ row.padded ∷ row.sparse ∷ row.rank ∷ 0 ∷ 0 ∷ row.dims)
      cells =
          e'' ∙ ap (λ (v : List ℕ). sets v (n * 16 + 8) row.dims) e'
          ∙ sets_append t (n * 16) (row.form ∷ row.kind ∷ row.pointer ∷ row.padded ∷ row.sparse ∷ row.rank ∷ 0 ∷ 0 ∷ []) row.dims

      pub type_taken : left (Ok at) t'' ≡ type_store at n (type_line fs) t
      type_taken =
          let s = answered_row type_line_of (type_line fs) w e row q in
          let rank = ap (λ (x : TypeLine). x.rank) s.1.1 in
          let stored : t'' ≡ sets t (n * 16) (type_cells s.0) =
          cells ∙ ap (λ (x : TypeLine). sets t (n * 16) (x.form ∷ x.kind ∷ x.pointer ∷ x.padded ∷ x.sparse ∷ x.rank ∷ 0 ∷ 0 ∷ x.dims)) s.1.1 in
          ap (λ (x : List ℕ). left (Ok at) x) stored
          ∙ sym (rw (lt-ltb n 1024 h, le-leb (length s.0.dims) 8 (omega (arith, rank))))
          ∙ stores s.0 s.1.0

-- ---- `V`
-- a value that claims no result has zeros for it, and one that does is marked by 1
abbrev pub claimed : Option Claim → ℕ → List ℕ
claimed None ty = ty ∷ 0 ∷ 0 ∷ 0 ∷ []
claimed (Some c) ty = ty ∷ 1 ∷ c.operation ∷ c.index ∷ []

value_claims : (fs : List (List ℕ)) (v : ValueRow) → value_line fs ≡ says v → claimed (claim_of v) v.type ≡ value_cells v
unfolding value_line
value_claims fs v e = by (id32 (nth 1 fs)) e
  where
    Cells : ValueRow → Type 0
    Cells x = claimed (claim_of x) x.type ≡ value_cells x

    claims : (ty : ℕ) (a b : Option ℕ) → number 3 a (λ i. number 4 b (λ k. says (value_row_of ty 1 i k))) ≡ says v → Cells v
    claims ty None b h = impossible (cc)
    claims ty (Some i) None h = impossible (cc)
    claims ty (Some i) (Some k) h = let same : value_row_of ty 1 i k ≡ v = cc in subst Cells same refl

    owned : (ty : ℕ) (o r : List ℕ) → owner ty o r ≡ says v → Cells v
    owned ty [] [] h = let same : value_row_of ty 0 0 0 ≡ v = cc in subst Cells same refl
    owned ty [] (b ∷ r) h = impossible (cc)
    owned ty (b ∷ o) r h = claims ty (id32 (b ∷ o)) (integer64 r) h

    by : (a : Option ℕ) → number 2 a (λ ty. owner ty (nth 2 fs) (nth 3 fs)) ≡ says v → Cells v
    by None h = impossible (cc)
    by (Some ty) h = owned ty (nth 2 fs) (nth 3 fs) h

module _ (fs : List (List ℕ)) (at n : ℕ) (v : List ℕ) (w : Result ValueLine BadField) (e : w ≡ value_of (value_line fs)) where
  pub value_bad : (b : BadField) → w ≡ Err b → (r : Result ℕ Unstored) → r ≡ Err (Bad b.field) → left r v ≡ value_store at n (value_line fs) v
  unfolding value_store
  value_bad b q r er = rw (answered_bad value_line_of (value_line fs) w e b q, er)

  module _ (row : ValueLine) (q : w ≡ Ok row) where
    value_said : (x : ValueRow) × ((value_line fs ≡ says x) × (row ≡ value_line_of x))
    value_said = answered_row value_line_of (value_line fs) w e row q

    pub value_full : 4096 ≤ n → left (Err Full) v ≡ value_store at n (value_line fs) v
    unfolding value_store
    value_full h = let s = value_said in sym (ap (λ (r : Read ValueRow). value_store at n r v) s.1.0 ∙ rw (le-ltb n 4096 h))

    pub value_taken : n < 4096 → (v' : List ℕ) → v' ≡ sets v (n * 4) (claimed row.claim row.type_id) → left (Ok at) v' ≡ value_store at n (value_line fs) v
    unfolding value_store
    value_taken h v' s =
        let x = value_said in
        ap (λ (u : List ℕ). left (Ok at) u)
        (s ∙ ap (λ (u : ValueLine). sets v (n * 4) (claimed u.claim u.type_id)) x.1.1 ∙ ap (sets v (n * 4)) (value_claims fs x.0 x.1.0))
        ∙ sym (ap (λ (r : Read ValueRow). value_store at n r v) x.1.0 ∙ rw (lt-ltb n 4096 h))

-- ---- `F`
module _ (fs : List (List ℕ)) (at n : ℕ) (f : List ℕ) (w : Result ℕ BadField) (e : w ≡ function_of (function_line fs)) where
  pub function_bad : (b : BadField) → w ≡ Err b → (r : Result ℕ Unstored) → r ≡ Err (Bad b.field) → left r f ≡ function_store at n (function_line fs) f
  unfolding function_store
  function_bad b q r er = rw (answered_bad (λ i. i) (function_line fs) w e b q, er)

  module _ (i : ℕ) (q : w ≡ Ok i) where
    function_said : function_line fs ≡ says i
    function_said = let s = answered_row (λ i. i) (function_line fs) w e i q in s.1.0 ∙ ap (λ (x : ℕ). says x) (sym s.1.1)

    pub function_full : 64 ≤ n → left (Err Full) f ≡ function_store at n (function_line fs) f
    unfolding function_store
    function_full h = sym (ap (λ (r : Read ℕ). function_store at n r f) function_said ∙ rw (le-ltb n 64 h))

    pub function_taken : n < 64 → (low : ℕ) → low ≡ i % 2 ^ 32 → (f' : List ℕ) → f' ≡ set f n low → left (Ok at) f' ≡ function_store at n (function_line fs) f
    unfolding function_store
    function_taken h low el f' s =
        let same : low ≡ i = el ∙ mod-eq_of_lt (function_small fs i function_said) in
        ap (λ (x : List ℕ). left (Ok at) x) (s ∙ ap (set f n) same)
        ∙ sym (ap (λ (r : Read ℕ). function_store at n r f) function_said ∙ rw (lt-ltb n 64 h))
