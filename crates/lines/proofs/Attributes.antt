-- Lines `A`: the ways through the functions that read a form, a number that may be absent, and the list of each form.
use Prim.Native.Nat.{ℕ, ◌+◌, ◌≤◌, ◌<◌}
use mathlib.Core.Bool.{Bool, true, false, cond, ◌&&◌}
use mathlib.Core.List.{List, [], ◌∷◌}
use mathlib.Core.Path.{◌≡◌, refl, sym, ◌∙◌, ap}
use native.Mathlib.Omega.{arith}
use lib.Dec.{ltb}
use lib.ListN.{length, get_or, set}
use lib.Seq.{sets}
use borrow.Author.Tests.{eq-eqb, ne_eqb}
use Rattle.std.specs.Prelude.{Option, Some, None, Result, Ok, Err}
use Rattle.fields.specs.Cut.{nth}
use Rattle.names.specs.Names.{number_of}
use Rattle.lines.specs.Field.{bad, unsigned64, integer64, list_of, Maybe, here, absent, wrong, or_absent}
use Rattle.lines.specs.Line.{Numbers, value_in, missing_bit, is_wrong, single, whole, three, two, nothing, numbers_of, form_of, with_numbers, named, attribute_line}
use Rattle.lines.specs.Into.{Left, left, list_into}
use Rattle.lines.specs.Answer.{bad_field, form_in, slot_of, filled_of, held_into, whole_into, numbers_written, numbers_into, attribute_of, if_named, attribute_numbers, attribute_into}
use Rattle.lines.specs.declared.BadField.{BadField}
use Rattle.lines.specs.declared.Slot.{Slot}
use Rattle.lines.specs.declared.Filled.{Filled}
use Rattle.lines.specs.declared.AttributeLine.{AttributeLine}
use Rattle.lines.proofs.Kept.{impossible}
use Rattle.lines.proofs.Several.{read_some, read_none, read_written, both}

-- ---- the form of a letter

and_false : (t : Bool) → t && false ≡ false
and_false true = refl
and_false false = refl

letter_long : (s : List ℕ) → (length s ≡ 1 → ⊥) → 9 ≡ form_of s
letter_long [] h = refl
letter_long (x ∷ []) h = absurd (h refl)
letter_long (x ∷ y ∷ s) h = simp and_false

-- one letter that is none of the nine: no form
pub letter_other : (s : List ℕ) → length s ≡ 1 → (get_or s 0 0 ≡ 105 → ⊥) → (get_or s 0 0 ≡ 98 → ⊥) → (get_or s 0 0 ≡ 97 → ⊥)
    → (get_or s 0 0 ≡ 122 → ⊥) → (get_or s 0 0 ≡ 112 → ⊥) → (get_or s 0 0 ≡ 100 → ⊥) → (get_or s 0 0 ≡ 115 → ⊥) → (get_or s 0 0 ≡ 114 → ⊥)
    → (get_or s 0 0 ≡ 120 → ⊥) → 9 ≡ form_of s
letter_other [] l hi hb ha hz hp hd hs hr hx = absurd (omega arith)
letter_other (x ∷ []) l hi hb ha hz hp hd hs hr hx =
    rw (ne_eqb x 105 hi, ne_eqb x 98 hb, ne_eqb x 97 ha, ne_eqb x 122 hz, ne_eqb x 112 hp, ne_eqb x 100 hd, ne_eqb x 115 hs, ne_eqb x 114 hr, ne_eqb x 120 hx)
letter_other (x ∷ y ∷ s) l hi hb ha hz hp hd hs hr hx = absurd (omega arith)

-- a letter that names no form
pub form_long : (s : List ℕ) → (length s ≡ 1 → ⊥) → None ≡ form_in s
form_long s h = let n = letter_long s h in sym (rw (← n))

no_form : (s : List ℕ) → form_in s ≡ None → ltb (form_of s) 9 ≡ false
no_form s h = by (ltb (form_of s) 9) h
  where
    by : (t : Bool) → cond t (Some (form_of s)) None ≡ None → t ≡ false
    by true h = impossible (cc)
    by false h = refl

some_form : (s : List ℕ) (k : ℕ) → form_in s ≡ Some k → (ltb (form_of s) 9 ≡ true) × (form_of s ≡ k)
some_form s k h = by (ltb (form_of s) 9) h
  where
    by : (t : Bool) → cond t (Some (form_of s)) None ≡ Some k → (t ≡ true) × (form_of s ≡ k)
    by true h = let same : form_of s ≡ k = cc in (refl, same)
    by false h = impossible (cc)

-- ---- a number that may be absent
abbrev slot : ℕ → ℕ → Option Slot
slot n m = Some (record { value = n; missing = m })

pub missing_le : (bit : ℕ) (m : Maybe) → missing_bit bit m ≤ bit
missing_le bit (here n) = omega arith
missing_le bit absent = omega arith
missing_le bit wrong = omega arith

module _ (bit : ℕ) (m : Maybe) where
  slot_not : slot_of bit m ≡ None → is_wrong m ≡ true
  slot_not h = by (is_wrong m) h
    where
      by : (t : Bool) → cond t None (slot (value_in m) (missing_bit bit m)) ≡ None → t ≡ true
      by true h = refl
      by false h = impossible (cc)

  slot_is : (x : Slot) → slot_of bit m ≡ Some x → (is_wrong m ≡ false) × (x ≡ record { value = value_in m; missing = missing_bit bit m })
  slot_is x h = by (is_wrong m) h
    where
      by : (t : Bool) → cond t None (slot (value_in m) (missing_bit bit m)) ≡ Some x
          → (t ≡ false) × (x ≡ record { value = value_in m; missing = missing_bit bit m })
      by true h = impossible (cc)
      by false h = let same : x ≡ record { value = value_in m; missing = missing_bit bit m } = cc in (refl, same)

  pub slot_le : (x : Slot) → slot_of bit m ≡ Some x → x.missing ≤ bit
  slot_le x h = let e = ap (λ (y : Slot). y.missing) (slot_is x h).1 in omega (arith, e, missing_le bit m)

-- ---- one number
module _ (at : ℕ) (v : Option ℕ) (l : List ℕ) where
  pub single_bad : (r : Option Filled) → v ≡ None → r ≡ None → left r l ≡ held_into at (single v) l
  unfolding held_into
  single_bad r k e = rw (k, e)

  pub single_held : (n : ℕ) (w : List ℕ) → v ≡ Some n → w ≡ set l at n → left (Some (record { count = 1; missing = 0 })) w ≡ held_into at (single v) l
  unfolding held_into
  single_held n w k q = rw (k, q)

-- ---- a list
module _ (f : List ℕ → Option ℕ) (at : ℕ) (s l : List ℕ) (r : Option ℕ) (w : List ℕ) (e : left r w ≡ list_into f at s l) where
  pub whole_bad : (a : Option Filled) → r ≡ None → a ≡ None → left a w ≡ whole_into f at s l
  unfolding whole_into
  whole_bad a k q = both _ _ _ _ (q ∙ rw (read_none f at s l r w e k)) (read_written f at s l r w e)

  pub whole_held : (n : ℕ) → r ≡ Some n → left (Some (record { count = n; missing = 0 })) w ≡ whole_into f at s l
  unfolding whole_into
  whole_held n k =
      let h = read_some f at s l r w e n k in
      let row : Some (record { count = length h.0; missing = 0 }) ≡ filled_of (whole (list_of f s)) = rw h.1.0 in
      both _ _ _ _ (ap (λ (m : ℕ). Some (record { count = m; missing = 0 })) (sym h.1.1) ∙ row) (read_written f at s l r w e)

-- ---- `d`
abbrev pub maybe : ℕ → List (List ℕ) → Maybe
maybe k ps = or_absent integer64 (nth k ps)

module _ (at : ℕ) (ps : List (List ℕ)) (l : List ℕ) where
  pub divisor_count : (n : ℕ) → n ≡ length ps → (n ≡ 3 → ⊥) → left None l ≡ held_into at (three ps) l
  unfolding held_into
  divisor_count n e h = rw (ne_eqb (length ps) 3 (λ k. h (e ∙ k)))

  module _ (h : length ps ≡ 3) (r : Option Filled) where
    pub divisor_bad : unsigned64 (nth 0 ps) ≡ None → r ≡ None → left r l ≡ held_into at (three ps) l
    unfolding held_into
    divisor_bad k e = rw (eq-eqb (length ps) 3 h, k, e)

    module _ (d : ℕ) (kd : unsigned64 (nth 0 ps) ≡ Some d) where
      pub divisor_every : slot_of 2 (maybe 1 ps) ≡ None → r ≡ None → left r l ≡ held_into at (three ps) l
      unfolding held_into
      divisor_every k e = rw (eq-eqb (length ps) 3 h, kd, slot_not 2 (maybe 1 ps) k, e)

      module _ (every : Slot) (ke : slot_of 2 (maybe 1 ps) ≡ Some every) where
        pub divisor_along : slot_of 4 (maybe 2 ps) ≡ None → r ≡ None → left r l ≡ held_into at (three ps) l
        unfolding held_into
        divisor_along k e = rw (eq-eqb (length ps) 3 h, kd, (slot_is 2 (maybe 1 ps) every ke).0, slot_not 4 (maybe 2 ps) k, e)

        pub divisor_held : (along : Slot) → slot_of 4 (maybe 2 ps) ≡ Some along → (w : List ℕ) → w ≡ sets l at (d ∷ every.value ∷ along.value ∷ [])
            → r ≡ Some (record { count = 3; missing = every.missing + along.missing }) → left r w ≡ held_into at (three ps) l
        unfolding held_into
        divisor_held along ka w e q =
            let x = slot_is 2 (maybe 1 ps) every ke in
            let y = slot_is 4 (maybe 2 ps) along ka in
            both _ _ _ _
            (q ∙ rw (eq-eqb (length ps) 3 h, kd, x.0, y.0, x.1, y.1))
            (e ∙ rw (eq-eqb (length ps) 3 h, kd, x.0, y.0, x.1, y.1))

-- ---- `r`
module _ (at : ℕ) (ps : List (List ℕ)) (l : List ℕ) where
  pub endpoints_count : (n : ℕ) → n ≡ length ps → (n ≡ 2 → ⊥) → left None l ≡ held_into at (two ps) l
  unfolding held_into
  endpoints_count n e h = rw (ne_eqb (length ps) 2 (λ k. h (e ∙ k)))

  module _ (h : length ps ≡ 2) (r : Option Filled) where
    pub endpoints_low : slot_of 1 (maybe 0 ps) ≡ None → r ≡ None → left r l ≡ held_into at (two ps) l
    unfolding held_into
    endpoints_low k e = rw (eq-eqb (length ps) 2 h, slot_not 1 (maybe 0 ps) k, e)

    module _ (low : Slot) (kl : slot_of 1 (maybe 0 ps) ≡ Some low) where
      pub endpoints_high : slot_of 2 (maybe 1 ps) ≡ None → r ≡ None → left r l ≡ held_into at (two ps) l
      unfolding held_into
      endpoints_high k e = rw (eq-eqb (length ps) 2 h, (slot_is 1 (maybe 0 ps) low kl).0, slot_not 2 (maybe 1 ps) k, e)

      pub endpoints_held : (high : Slot) → slot_of 2 (maybe 1 ps) ≡ Some high → (w : List ℕ) → w ≡ sets l at (low.value ∷ high.value ∷ [])
          → r ≡ Some (record { count = 2; missing = low.missing + high.missing }) → left r w ≡ held_into at (two ps) l
      unfolding held_into
      endpoints_held high kh w e q =
          let x = slot_is 1 (maybe 0 ps) low kl in
          let y = slot_is 2 (maybe 1 ps) high kh in
          both _ _ _ _
          (q ∙ rw (eq-eqb (length ps) 2 h, x.0, y.0, x.1, y.1))
          (e ∙ rw (eq-eqb (length ps) 2 h, x.0, y.0, x.1, y.1))

abbrev none_held : Filled
none_held = record { count = 0; missing = 0 }

-- ---- `x`: none of the other forms
module _ (form at : ℕ) (s l : List ℕ) (hi : form ≡ 0 → ⊥) (hb : form ≡ 1 → ⊥) (ha : form ≡ 2 → ⊥) (hz : form ≡ 3 → ⊥) (hp : form ≡ 4 → ⊥)
    (hd : form ≡ 5 → ⊥) (hs : form ≡ 6 → ⊥) (hr : form ≡ 7 → ⊥) where
  other_of : left (filled_of (nothing s)) l ≡ numbers_into form at s l
  unfolding numbers_into numbers_of numbers_written
  other_of =
      rw (ne_eqb form 0 hi, ne_eqb form 1 hb, ne_eqb form 2 ha, ne_eqb form 3 hz, ne_eqb form 4 hp, ne_eqb form 5 hd, ne_eqb form 6 hs, ne_eqb form 7 hr)

  pub other_held : length s ≡ 0 → left (Some none_held) l ≡ numbers_into form at s l
  other_held h = by s h ∙ other_of
    where
      by : (s : List ℕ) → length s ≡ 0 → left (Some none_held) l ≡ left (filled_of (nothing s)) l
      by [] h = refl
      by (b ∷ bs) h = absurd (omega arith)

  pub other_bad : 0 < length s → left None l ≡ numbers_into form at s l
  other_bad h = by s h ∙ other_of
    where
      by : (s : List ℕ) → 0 < length s → left None l ≡ left (filled_of (nothing s)) l
      by [] h = absurd (omega arith)
      by (b ∷ bs) h = refl

-- ---- `A`
module _ (fs : List (List ℕ)) (at : ℕ) (l : List ℕ) where
  pub attribute_unnamed : length (nth 1 fs) ≡ 0 → left (Err (bad_field 2)) l ≡ attribute_into at fs l
  unfolding attribute_into attribute_numbers attribute_line
  attribute_unnamed h = by (nth 1 fs) h
    where
      by : (s : List ℕ) → length s ≡ 0
          → left (Err (bad_field 2)) l
          ≡ left (attribute_of (named s (cond (ltb (form_of (nth 2 fs)) 9)
          (with_numbers (number_of s) (form_of (nth 2 fs)) (numbers_of (form_of (nth 2 fs)) (nth 3 fs))) (bad 3))))
          (sets l at (if_named s (cond (ltb (form_of (nth 2 fs)) 9) (numbers_written (form_of (nth 2 fs)) (nth 3 fs)) [])))
      by [] h = refl
      by (b ∷ bs) h = absurd (omega arith)

  module _ (h : 0 < length (nth 1 fs)) where
    -- what follows a name
    named_of : left (attribute_of (cond (ltb (form_of (nth 2 fs)) 9) (with_numbers (number_of (nth 1 fs)) (form_of (nth 2 fs)) (numbers_of (form_of (nth 2 fs)) (nth 3 fs))) (bad 3)))
        (sets l at (cond (ltb (form_of (nth 2 fs)) 9) (numbers_written (form_of (nth 2 fs)) (nth 3 fs)) []))
        ≡ attribute_into at fs l
    unfolding attribute_into attribute_numbers attribute_line
    named_of = by (nth 1 fs) h
      where
        by : (s : List ℕ) → 0 < length s
            → left (attribute_of (cond (ltb (form_of (nth 2 fs)) 9) (with_numbers (number_of s) (form_of (nth 2 fs)) (numbers_of (form_of (nth 2 fs)) (nth 3 fs))) (bad 3)))
            (sets l at (cond (ltb (form_of (nth 2 fs)) 9) (numbers_written (form_of (nth 2 fs)) (nth 3 fs)) []))
            ≡ left (attribute_of (named s (cond (ltb (form_of (nth 2 fs)) 9)
            (with_numbers (number_of s) (form_of (nth 2 fs)) (numbers_of (form_of (nth 2 fs)) (nth 3 fs))) (bad 3))))
            (sets l at (if_named s (cond (ltb (form_of (nth 2 fs)) 9) (numbers_written (form_of (nth 2 fs)) (nth 3 fs)) [])))
        by [] k = absurd (omega arith)
        by (b ∷ bs) k = refl

    pub attribute_formless : (r : Result AttributeLine BadField) → form_in (nth 2 fs) ≡ None → r ≡ Err (bad_field 3) → left r l ≡ attribute_into at fs l
    attribute_formless r k e = ap (λ (x : Result AttributeLine BadField). left x l) e ∙ sym (rw (no_form (nth 2 fs) k)) ∙ named_of

    module _ (form : ℕ) (k : form_in (nth 2 fs) ≡ Some form) (a : Option Filled) (w : List ℕ) (e : left a w ≡ numbers_into form at (nth 3 fs) l) where
      abbrev filled : Option Filled → Result AttributeLine BadField
      filled None = Err (bad_field 4)
      filled (Some x) = Ok (record { name = number_of (nth 1 fs); form = form; count = x.count; missing = x.missing })

      attribute_lists : left (filled a) w ≡ attribute_into at fs l
      unfolding numbers_into
      attribute_lists =
          let f = some_form (nth 2 fs) form k in
          ap (λ (x : Left (Option Filled)). left (filled x.answer) x.entries) e
          ∙ ap (λ (x : Result AttributeLine BadField). left x (sets l at (numbers_written form (nth 3 fs)))) (by (numbers_of form (nth 3 fs)))
          ∙ sym (rw (f.0, f.1)) ∙ named_of
        where
          by : (o : Option Numbers) → filled (filled_of o) ≡ attribute_of (with_numbers (number_of (nth 1 fs)) form o)
          by None = refl
          by (Some n) = refl

      pub attribute_bad : (r : Result AttributeLine BadField) → a ≡ None → r ≡ Err (bad_field 4) → left r w ≡ attribute_into at fs l
      attribute_bad r q e' = ap (λ (x : Result AttributeLine BadField). left x w) (e' ∙ ap filled (sym q)) ∙ attribute_lists

      pub attribute_row_lem : (x : Filled) (name : ℕ) → a ≡ Some x → name ≡ number_of (nth 1 fs)
          → left (Ok (record { name = name; form = form; count = x.count; missing = x.missing })) w ≡ attribute_into at fs l
      attribute_row_lem x name q n =
          ap (λ (i : ℕ). left (Ok (record { name = i; form = form; count = x.count; missing = x.missing })) w) n
          ∙ ap (λ (y : Option Filled). left (filled y) w) (sym q) ∙ attribute_lists
