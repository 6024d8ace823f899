-- One line more at the end: the lines of each kind, and the `A` lines after each `O` line. Assumes nothing.
use mathlib.Core.Bool.{Bool, true, false, cond, and-eq-true_iff}
use mathlib.Core.List.{List, [], ◌∷◌, ◌++◌}
use mathlib.Core.Path.{◌≡◌, refl, ◌∙◌, ap, subst}
use Prim.Native.Nat.{ℕ}
use lib.Dec.{eqb}
use borrow.Author.Tests.{eqb-true}
use Rattle.fields.specs.Cut.{nth}
use Rattle.names.specs.Names.{bytes, equal}
use Rattle.stores.proofs.Stores.{impossible}
use Rattle.house.specs.House.{Tag, header, type, value, operation, attribute, block, region, function, unknown, is_unknown, tag_of}
use Rattle.said.specs.Said.{has_tag, with_tag, attributes_first, attributes_after}

-- ---- the tag of a kind, as it is written

abbrev pub tag_text : Tag → List ℕ
tag_text header = bytes "tile"
tag_text type = bytes "T"
tag_text value = bytes "V"
tag_text operation = bytes "O"
tag_text attribute = bytes "A"
tag_text block = bytes "B"
tag_text region = bytes "R"
tag_text function = bytes "F"
tag_text unknown = []

equal_same : (a b : List ℕ) → equal a b ≡ true → a ≡ b
equal_same [] [] e = refl
equal_same [] (y ∷ ys) e = impossible (cc)
equal_same (x ∷ xs) [] e = impossible (cc)
equal_same (x ∷ xs) (y ∷ ys) e =
    let h = (and-eq-true_iff (eqb x y) (equal xs ys)).0 e in
    rw (eqb-true x y h.0, equal_same xs ys h.1)

-- a tag that is known is written so
abbrev Written : List ℕ → Tag → Type 0
Written s g = is_unknown g ≡ false → s ≡ tag_text g

tag_written : (s : List ℕ) → Written s (tag_of s)
tag_written s =
    pick header _
    (pick type _
    (pick value _
    (pick operation _
    (pick attribute _
    (pick block _
    (pick region _
    (pick function _ (λ e. impossible (cc)))))))))
  where
    pick : (g rest : Tag) → Written s rest → Written s (cond (equal s (tag_text g)) g rest)
    pick g rest h = by (equal s (tag_text g)) refl
      where
        by : (t : Bool) → equal s (tag_text g) ≡ t → Written s (cond t g rest)
        by true e = λ _. equal_same s (tag_text g) e
        by false e = h

-- a line is of a kind
abbrev pub Is : Tag → List (List ℕ) → Type 0
Is g fs = nth 0 fs ≡ tag_text g

pub tag_is : (g : Tag) (fs : List (List ℕ)) → is_unknown g ≡ false → tag_of (nth 0 fs) ≡ g → Is g fs
tag_is g fs k e = subst (Written (nth 0 fs)) e (tag_written (nth 0 fs)) k

pub is_of : (g g' : Tag) (fs : List (List ℕ)) → Is g fs → has_tag (tag_text g') fs ≡ equal (tag_text g) (tag_text g')
is_of g g' fs e = ap (λ (t : List ℕ). equal t (tag_text g')) e

-- ---- the lines of a kind: those of its own kind get one more

abbrev pub added : Bool → List (List (List ℕ)) → List (List ℕ) → List (List (List ℕ))
added true ls fs = ls ++ fs ∷ []
added false ls fs = ls

kind_more : (g : List ℕ) (fs : List (List ℕ)) (seen : List (List (List ℕ))) → with_tag g (seen ++ fs ∷ []) ≡ added (has_tag g fs) (with_tag g seen) fs
unfolding with_tag
kind_more g fs [] = by (has_tag g fs)
  where
    by : (t : Bool) → cond t (fs ∷ []) [] ≡ added t [] fs
    by true = refl
    by false = refl
kind_more g fs (p ∷ seen) = by (has_tag g p) (has_tag g fs) (with_tag g (seen ++ fs ∷ [])) (kind_more g fs seen)
  where
    by : (t u : Bool) (ls : List (List (List ℕ))) → ls ≡ added u (with_tag g seen) fs → cond t (p ∷ ls) ls ≡ added u (cond t (p ∷ with_tag g seen) (with_tag g seen)) fs
    by true true ls h = ap (λ (m : List (List (List ℕ))). p ∷ m) h
    by true false ls h = ap (λ (m : List (List (List ℕ))). p ∷ m) h
    by false true ls h = h
    by false false ls h = h

pub kind_added : (g g' : Tag) (fs : List (List ℕ)) (seen : List (List (List ℕ))) → Is g fs
    → with_tag (tag_text g') (seen ++ fs ∷ []) ≡ added (equal (tag_text g) (tag_text g')) (with_tag (tag_text g') seen) fs
kind_added g g' fs seen e = kind_more (tag_text g') fs seen ∙ ap (λ (t : Bool). added t (with_tag (tag_text g') seen) fs) (is_of g g' fs e)

-- ---- the `A` lines after each `O` line

abbrev pub AllAttributes : List (List (List ℕ)) → Type 0
AllAttributes [] = Unit {0}
AllAttributes (a ∷ own) = Is attribute a × AllAttributes own

-- they end at any other line
first_ends : (pre rest : List (List (List ℕ))) (o : List (List ℕ)) → has_tag (bytes "A") o ≡ false → attributes_first (pre ++ o ∷ rest) ≡ attributes_first pre
unfolding attributes_first
first_ends [] rest o e = ap (λ (t : Bool). cond t (o ∷ attributes_first rest) []) e
first_ends (p ∷ pre) rest o e = ap (λ (ls : List (List (List ℕ))). cond (has_tag (bytes "A") p) (p ∷ ls) []) (first_ends pre rest o e)

first_all : (own : List (List (List ℕ))) → AllAttributes own → attributes_first own ≡ own
unfolding attributes_first
first_all [] h = refl
first_all (a ∷ own) h =
    ap (λ (t : Bool). cond t (a ∷ attributes_first own) []) (is_of attribute attribute a h.0)
    ∙ ap (λ (ls : List (List (List ℕ))). a ∷ ls) (first_all own h.1)

after_none : (own : List (List (List ℕ))) → AllAttributes own → attributes_after own ≡ []
unfolding attributes_after
after_none [] h = refl
after_none (a ∷ own) h =
    ap (λ (t : Bool). cond t (attributes_first own ∷ attributes_after own) (attributes_after own)) (is_of attribute operation a h.0)
    ∙ after_none own h.1

-- after an `O` line with its `A` lines so far
pub after_operation : (pre own : List (List (List ℕ))) (o : List (List ℕ)) → Is operation o → AllAttributes own
    → attributes_after (pre ++ o ∷ own) ≡ attributes_after pre ++ own ∷ []
unfolding attributes_after
after_operation [] own o e h =
    ap (λ (t : Bool). cond t (attributes_first own ∷ attributes_after own) (attributes_after own)) (is_of operation operation o e)
    ∙ rw (first_all own h, after_none own h)
after_operation (p ∷ pre) own o e h =
    by (has_tag (bytes "O") p)
    (attributes_first (pre ++ o ∷ own)) (attributes_after (pre ++ o ∷ own)) (first_ends pre own o (is_of operation attribute o e)) (after_operation pre own o e h)
  where
    by : (t : Bool) (f : List (List (List ℕ))) (ls : List (List (List (List ℕ)))) → f ≡ attributes_first pre → ls ≡ attributes_after pre ++ own ∷ []
        → cond t (f ∷ ls) ls ≡ cond t (attributes_first pre ∷ attributes_after pre) (attributes_after pre) ++ own ∷ []
    by true f ls q r = rw (q, r)
    by false f ls q r = r

-- a line of another kind
pub after_other : (seen : List (List (List ℕ))) (fs : List (List ℕ)) → has_tag (bytes "O") fs ≡ false → has_tag (bytes "A") fs ≡ false
    → attributes_after (seen ++ fs ∷ []) ≡ attributes_after seen
unfolding attributes_after
after_other [] fs e h = ap (λ (t : Bool). cond t (attributes_first [] ∷ []) []) e
after_other (p ∷ seen) fs e h = rw (first_ends seen [] fs h, after_other seen fs e h)
