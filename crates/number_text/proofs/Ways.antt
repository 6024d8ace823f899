-- Two texts are equal where `==` says so; and the list of an `n` line.
use Prim.Native.Nat.{ℕ}
use mathlib.Core.Bool.{◌&&◌}
use mathlib.Core.List.{List, [], ◌∷◌}
use mathlib.Core.Path.{◌≡◌, refl, ap, ◌∙◌}
use lib.Dec.{eqb}
use lib.ListN.{length}
use lib.Seq.{sets, length-sets}
use borrow.Author.Tests.{eq-eqb}
use Rattle.std.specs.Prelude.{Option, Some, None}
use Rattle.std.specs.Cmp.Lexicographic.{pointwise}
use Rattle.std.specs.Option.{ok_or}
use Rattle.names.specs.Names.{equal}
use Rattle.fields.specs.Cut.{nth}
use Rattle.lines.specs.Answer.{bad_field}
use Rattle.lines.specs.Field.{list, says, unsigned64, list_of}
use Rattle.lines.specs.Into.{Left, left, count_of, good_of, list_into as field_into}
use Rattle.lines.proofs.Lists.{list_good}
use Rattle.number_text.specs.Line.{list_line, kept, list_into}

pub equal_is : (xs ys : List ℕ) → pointwise eqb xs ys ≡ equal xs ys
equal_is [] [] = refl
equal_is [] (y ∷ ys) = refl
equal_is (x ∷ xs) [] = refl
equal_is (x ∷ xs) (y ∷ ys) = ap (λ b. eqb x y && b) (equal_is xs ys)

-- ---- the list of an `n` line, read into the lent numbers

list_held : (at : ℕ) (t l l' : List ℕ) (b : Option ℕ) → left b l' ≡ field_into unsigned64 at t l
    → kept (ok_or b (bad_field 203)) l' ≡ list_into at (list 203 (list_of unsigned64 t) says) l
unfolding field_into
list_held at t l l' b e = by (list_of unsigned64 t) (list_good unsigned64 t) e
  where
    by : (o : Option (List ℕ)) → ((xs : List ℕ) → o ≡ Some xs → good_of unsigned64 t ≡ xs)
        → left b l' ≡ left (count_of o) (sets l at (good_of unsigned64 t))
        → kept (ok_or b (bad_field 203)) l' ≡ list_into at (list 203 o says) l
    by None good q =
        let none : b ≡ None = ap (λ (x : Left (Option ℕ)). x.answer) q in
        let many : length l' ≡ length l = ap (λ (x : Left (Option ℕ)). length x.entries) q ∙ length-sets l at (good_of unsigned64 t) in
        rw (none, many)
    by (Some xs) good q =
        let some : b ≡ Some (length xs) = ap (λ (x : Left (Option ℕ)). x.answer) q in
        let held : l' ≡ sets l at xs = ap (λ (x : Left (Option ℕ)). x.entries) q ∙ ap (sets l at) (good xs refl) in
        rw (some, held)

pub list_row : (functions at : ℕ) (fs : List (List ℕ)) (l l' t : List ℕ) (b : Option ℕ) → length fs ≡ 3 → unsigned64 (nth 1 fs) ≡ Some functions
    → t ≡ nth 2 fs → left b l' ≡ field_into unsigned64 at t l → kept (ok_or b (bad_field 203)) l' ≡ list_into at (list_line functions fs) l
unfolding list_line
list_row functions at fs l l' t b n k et e =
    rw (n, k, eq-eqb functions functions refl, ← et) (list_held at t l l' b e)
