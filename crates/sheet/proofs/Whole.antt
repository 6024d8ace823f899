-- The whole text: a line after another, what follows the last LF, and the sheet before the first line and after a refusal.
use Prim.Native.Nat.{ℕ, suc, ◌+◌, ◌-◌, ◌≤◌, ◌<◌}
use mathlib.Core.Bool.{Bool, true, false, ◌&&◌, cond}
use mathlib.Core.List.{List, [], ◌∷◌, ◌++◌}
use mathlib.Core.Path.{◌≡◌, refl, sym, ◌∙◌, ap}
use native.Mathlib.Omega.{arith}
use native.Mathlib.Numerals.{add-one}
use lib.Dec.{eqb, ltb}
use lib.ListN.{length, replicate, drop, take, length-replicate, length-take, length-drop}
use lib.Seq.{length-take-le}
use borrow.Author.Tests.{lt-ltb, le-ltb, ne_eqb}
use Rattle.fields.specs.Cut.{split, end_from}
use Rattle.fields.proofs.Parts.{split_cons, end_ge, end_le, at_last, at_more}
use Rattle.tables.specs.Answer.{Answer}
use Rattle.std.specs.Prelude.{Ok, Err}
use Rattle.tables.specs.declared.Refusal.{Refusal}
use Rattle.tables.specs.declared.Refusal.TheVariants.{OutOfRange, TooShort, NotInForm}
use Rattle.lines.specs.Field.{Read, says, bad}
use Rattle.lines.specs.Into.{Left, left}
use Rattle.sheet.specs.Line.{Row, judged, stored, line_into}
use Rattle.sheet.specs.Sheet.{State, state, zeros, refuse, taken, line_of, last_of, lines_of, fresh, ended, read_sheet, settled, last_answer}

-- ---- what follows the last LF

last_is : (last key line p : ℕ) (s l : List ℕ) → settled (last_answer line p (p + length l)) s ≡ ended (last_of (state last key line p s (Ok tt)) l)
unfolding last_answer last_of
last_is last key line p s [] = by (ltb 65536 (p + 0)) (ltb 1 line) (le-ltb p (p + 0) (omega arith))
  where
    by : (t u : Bool) → ltb p (p + 0) ≡ false
        → settled (cond t (Err (OutOfRange 0 0)) (cond (ltb p (p + 0)) (Err (NotInForm line 0)) (cond u (Ok tt) (Err (NotInForm line 0))))) s
        ≡ ended (cond t (refuse (OutOfRange 0 0) (state last key line p s (Ok tt))) (cond u (state last key line p s (Ok tt)) (refuse (NotInForm line 0) (state last key line p s (Ok tt)))))
    by true u e = refl
    by false true e = rw e
    by false false e = rw e
last_is last key line p s (b ∷ l) =
    by (ltb 65536 (p + length (b ∷ l))) (eqb (length (b ∷ l)) 0) (lt-ltb p (p + length (b ∷ l)) (omega arith)) (ne_eqb (length (b ∷ l)) 0 (λ h. omega arith))
  where
    by : (t u : Bool) → ltb p (p + length (b ∷ l)) ≡ true → u ≡ false
        → settled (cond t (Err (OutOfRange 0 0)) (cond (ltb p (p + length (b ∷ l))) (Err (NotInForm line 0)) (cond (ltb 1 line) (Ok tt) (Err (NotInForm line 0))))) s
        ≡ ended (cond t (refuse (OutOfRange 0 0) (state last key line p s (Ok tt))) (cond (u && ltb 1 line) (state last key line p s (Ok tt)) (refuse (NotInForm line 0) (state last key line p s (Ok tt)))))
    by true u e z = refl
    by false u e z = rw (e, z)

-- ---- one line after another

-- after a refusal nothing more is taken
refused_stays : (s : State) (r : Refusal) → s.answer ≡ Err r → (ls : List (List ℕ)) → lines_of s ls ≡ s
unfolding lines_of line_of last_of
refused_stays s r e [] = refl
refused_stays s r e (l ∷ []) = rw e
refused_stays s r e (l ∷ m ∷ ls) =
    let stays : line_of s l ≡ s = rw e in
    ap (λ (x : State). lines_of x (m ∷ ls)) stays ∙ refused_stays s r e (m ∷ ls)

lines_more : (s : State) (l t : List ℕ) (ls : List (List ℕ)) → ls ≡ l ∷ split 10 t → lines_of s ls ≡ lines_of (line_of s l) (split 10 t)
unfolding lines_of
lines_more s l t ls e = rw (e, (split_cons 10 t).1)

lines_last : (s : State) (l : List ℕ) (ls : List (List ℕ)) → ls ≡ l ∷ [] → lines_of s ls ≡ last_of s l
unfolding lines_of
lines_last s l ls e = rw e

-- ---- the ways through the loop: a line l from p up to `end`, which counts its LF
module _ (last key line p : ℕ) (s l : List ℕ) (end : ℕ) (he : p + suc (length l) ≡ end) where
  line_far : 65536 < end → line_of (state last key line p s (Ok tt)) l ≡ refuse (OutOfRange 0 0) (state last key line p s (Ok tt))
  unfolding line_of
  line_far h = rw (he, lt-ltb 65536 end h)

  line_near : end ≤ 65536 → line_of (state last key line p s (Ok tt)) l ≡ taken (state last key line p s (Ok tt)) end (judged last key (split 9 l))
  unfolding line_of
  line_near h = rw (he, le-ltb 65536 end h)

  module _ (t : List ℕ) (ls : List (List ℕ)) (el : ls ≡ l ∷ split 10 t) where
    loop_far : 65536 < end → settled (Err (OutOfRange 0 0)) s ≡ ended (lines_of (state last key line p s (Ok tt)) ls)
    loop_far h =
        sym (ap ended (lines_more (state last key line p s (Ok tt)) l t ls el
        ∙ ap (λ (x : State). lines_of x (split 10 t)) (line_far h)
        ∙ refused_stays (refuse (OutOfRange 0 0) (state last key line p s (Ok tt))) (OutOfRange 0 0) refl (split 10 t)))

    module _ (h : end ≤ 65536) (w : Read Row) (s' : List ℕ) (e : left w s' ≡ line_into (judged last key (split 9 l)) s) where
      loop_bad : (f : ℕ) → w ≡ bad f → settled (Err (NotInForm line f)) s' ≡ ended (lines_of (state last key line p s (Ok tt)) ls)
      loop_bad f k =
          by (judged last key (split 9 l)) (ap (λ (x : Read Row). left x s') (sym k) ∙ e)
          ∙ sym (ap ended (lines_more (state last key line p s (Ok tt)) l t ls el ∙ ap (λ (x : State). lines_of x (split 10 t)) (line_near h)))
        where
          by : (y : Read Row) → left (bad f) s' ≡ line_into y s
              → settled (Err (NotInForm line f)) s' ≡ ended (lines_of (taken (state last key line p s (Ok tt)) end y) (split 10 t))
          by (bad j) q =
              let told : bad f ≡ bad j = ap (λ (x : Left (Read Row)). x.answer) q in
              let same : f ≡ j = cc in
              let kept : s' ≡ s = ap (λ (x : Left (Read Row)). x.entries) q in
              rw (kept, same)
              (sym (ap ended (refused_stays (refuse (NotInForm line j) (state last key line p s (Ok tt))) (NotInForm line j) refl (split 10 t))))
          by (says v) q = let told : bad f ≡ says v = ap (λ (x : Left (Read Row)). x.answer) q in cc

      loop_row : (v : Row) → w ≡ says v
          → lines_of (state v.kind v.key (line + 1) end s' (Ok tt)) (split 10 t) ≡ lines_of (state last key line p s (Ok tt)) ls
      loop_row v q =
          ap (λ (x : State). lines_of x (split 10 t)) (by (judged last key (split 9 l)) (ap (λ (x : Read Row). left x s') (sym q) ∙ e))
          ∙ sym (lines_more (state last key line p s (Ok tt)) l t ls el ∙ ap (λ (x : State). lines_of x (split 10 t)) (line_near h))
        where
          by : (y : Read Row) → left (says v) s' ≡ line_into y s
              → state v.kind v.key (line + 1) end s' (Ok tt) ≡ taken (state last key line p s (Ok tt)) end y
          by (bad j) z = let told : says v ≡ bad j = ap (λ (y : Left (Read Row)). y.answer) z in cc
          by (says x) z =
              let told : says v ≡ says x = ap (λ (y : Left (Read Row)). y.answer) z in
              let same : v ≡ x = cc in
              let d : s' ≡ stored x s = ap (λ (y : Left (Read Row)). y.entries) z in
              rw (same, d, add-one)

loop_last : (last key line p end : ℕ) (s l : List ℕ) (ls : List (List ℕ)) (r : Answer) → ls ≡ l ∷ [] → end ≡ p + length l → r ≡ last_answer line p end
    → settled r s ≡ ended (lines_of (state last key line p s (Ok tt)) ls)
loop_last last key line p end s l ls r el en er =
    ap (λ (x : Answer). settled x s) (er ∙ ap (last_answer line p) en)
    ∙ last_is last key line p s l
    ∙ sym (ap ended (lines_last (state last key line p s (Ok tt)) l ls el))

-- ---- the same at a cursor p, with the end e that `find` gives
module _ (last key line p e : ℕ) (s text : List ℕ) (h : p ≤ length text) (at : e ≡ end_from 10 p text) where
  abbrev here : List ℕ
  here = take (e - p) (drop p text)

  here_long : p + length here ≡ e
  here_long =
      let ge = end_ge 10 p e text h at in
      let le = end_le 10 p e text h at in
      simp (length-take, length-drop) (omega arith)

  pub at_end : length text ≤ e → (r : Answer) → r ≡ last_answer line p e
      → settled r s ≡ ended (lines_of (state last key line p s (Ok tt)) (split 10 (drop p text)))
  at_end k r er = loop_last last key line p e s here (split 10 (drop p text)) r (at_last 10 p e text h at k) (sym here_long) er

  module _ (k : e < length text) where
    counted : p + suc (length here) ≡ e + 1
    counted = let n = here_long in omega arith

    pub at_far : 65536 ≤ e → settled (Err (OutOfRange 0 0)) s ≡ ended (lines_of (state last key line p s (Ok tt)) (split 10 (drop p text)))
    at_far n =
        loop_far last key line p s here (e + 1) counted (drop (e + 1) text) (split 10 (drop p text)) (at_more 10 p e text h at k) (omega arith)

    module _ (n : e < 65536) (m : List ℕ) (em : m ≡ here) (w : Read Row) (s' : List ℕ) (ew : left w s' ≡ line_into (judged last key (split 9 m)) s) where
      told : left w s' ≡ line_into (judged last key (split 9 here)) s
      told = ew ∙ ap (λ (x : List ℕ). line_into (judged last key (split 9 x)) s) em

      pub at_bad : (f : ℕ) → w ≡ bad f
          → settled (Err (NotInForm line f)) s' ≡ ended (lines_of (state last key line p s (Ok tt)) (split 10 (drop p text)))
      at_bad =
          loop_bad last key line p s here (e + 1) counted (drop (e + 1) text) (split 10 (drop p text)) (at_more 10 p e text h at k) (omega arith) w s' told

      pub at_row : (v : Row) → w ≡ says v
          → lines_of (state v.kind v.key (line + 1) (e + 1) s' (Ok tt)) (split 10 (drop (e + 1) text))
          ≡ lines_of (state last key line p s (Ok tt)) (split 10 (drop p text))
      at_row =
          loop_row last key line p s here (e + 1) counted (drop (e + 1) text) (split 10 (drop p text)) (at_more 10 p e text h at k) (omega arith) w s' told

-- ---- the sheet before the first line, its own cells cleared to z
pub read_all : (text s z : List ℕ) (r : Answer) (s' : List ℕ) → 320 ≤ length s → z ≡ replicate (length (take 320 s)) 0
    → left r s' ≡ ended (lines_of (fresh (z ++ drop 320 s)) (split 10 text)) → left r s' ≡ read_sheet text s
unfolding read_sheet
read_all text s z r s' h e q =
    let clear : z ≡ replicate 320 0 = e ∙ ap (λ (n : ℕ). replicate n 0) (length-take-le 320 s h) in
    q ∙ ap (λ (x : List ℕ). ended (lines_of (fresh (x ++ drop 320 s)) (split 10 text))) clear ∙ rw (le-ltb (length s) 320 h)
