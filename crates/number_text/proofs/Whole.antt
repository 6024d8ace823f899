-- The whole text: what the lent lists hold is what the lines so far say, a line after another, what follows the last LF, and the lists after a
-- refusal.
use Prim.Native.Nat.{ℕ, suc, ◌+◌, ◌-◌, ◌≤◌, ◌<◌}
use mathlib.Core.Bool.{Bool, true, false, cond}
use mathlib.Core.List.{List, [], ◌∷◌, ◌++◌}
use mathlib.Core.Logic.{⊎_elim}
use mathlib.Core.Path.{◌≡◌, refl, sym, ◌∙◌, ap, subst}
use native.Mathlib.Omega.{arith}
use native.Mathlib.Numerals.{add-one}
use lib.Dec.{eqb, ltb}
use lib.ListN.{length, take, drop, length-append, length-take, length-drop, take-append-drop}
use lib.Seq.{sets, length-sets, sets-eq, length-take-le, take-append_seam, drop-append-add, drop-drop}
use borrow.Author.Tests.{lt-ltb, le-ltb, ne_eqb}
use Rattle.cells.proofs.Rows.{lt_or_ge}
use Rattle.names.specs.Names.{bytes, equal}
use Rattle.fields.specs.Cut.{split, end_from, nth}
use Rattle.fields.proofs.Parts.{split_cons, end_ge, end_le, at_last, at_more}
use Rattle.tables.specs.declared.Refusal.{Refusal}
use Rattle.tables.specs.declared.Refusal.TheVariants.{OutOfRange, TooShort, NotInForm}
use Rattle.lines.specs.Field.{Read as Says, says, bad}
use Rattle.number_text.specs.declared.Lists.{Lists}
use Rattle.std.specs.Prelude.{Result, Ok, Err}
use Rattle.number_text.specs.Line.{ok_stands, list_line, zeros}
use Rattle.number_text.specs.Text.{State, state, Step, goes, refuses, onward, listed, taken, line_of, last_of, lines_of, Outcome, outcome, refused, lists, over, ended, fresh, read_numbers, settled, counted_into, listed_into, taken_into, last_answer}

-- ---- numbers in front of what a lent list held

sets_over : (l : List ℕ) (i : ℕ) (xs : List ℕ) → i + length xs ≤ length l → sets l i xs ≡ over (take i l ++ xs) l
sets_over l i xs h =
    let many : length (take i l ++ xs) ≡ i + length xs =
    length-append (take i l) xs ∙ ap (λ (k : ℕ). k + length xs) (length-take-le i l (omega arith)) in
    sets-eq xs l i h ∙ ap (λ (k : ℕ). (take i l ++ xs) ++ drop k l) (sym many)

-- a longer front hides a shorter one
over_over : (xs ys l : List ℕ) → length xs ≤ length ys → over ys (over xs l) ≡ over ys l
over_over xs ys l h =
    let n : length ys ≡ length xs + (length ys - length xs) = omega arith in
    let rest : drop (length ys) (over xs l) ≡ drop (length ys) l =
    ap (λ (k : ℕ). drop k (over xs l)) n
    ∙ drop-append-add xs (drop (length xs) l) (length ys - length xs)
    ∙ drop-drop (length ys - length xs) (length xs) l
    ∙ ap (λ (k : ℕ). drop k l) (sym n) in
    ap (λ (r : List ℕ). ys ++ r) rest

-- ---- a line over the lent lists is the line over the numbers in front of them
module _ (line p end functions count : ℕ) (ns ls : List ℕ) (hn : 8192 ≤ length ns) (hl : 64 ≤ length ls) (hc : count ≤ 8192) (hf : functions ≤ 64) where
  abbrev here : State
  here = state line p (take count ns) (take functions ls)

  few : length (take functions ls) ≡ functions
  few = length-take-le functions ls (omega arith)

  many : length (take count ns) ≡ count
  many = length-take-le count ns (omega arith)

  counted_is : (xs : List ℕ) → listed_into line functions count (says xs) ns ls ≡ ended (listed here end (says xs)) ns ls
  unfolding counted_into
  counted_is xs = ⊎_elim
      (λ h. rw (few, many, lt-ltb 64 (suc functions) h, length-sets ns count xs))
      (λ h. ⊎_elim
      (λ k. rw (few, many, le-ltb 64 (suc functions) h, lt-ltb 8192 (count + length xs) k, length-sets ns count xs))
      (λ k. rw (few, many, le-ltb 64 (suc functions) h, le-ltb 8192 (count + length xs) k) (fits xs (omega arith) (omega arith)))
      (lt_or_ge 8192 (count + length xs)))
      (lt_or_ge 64 (suc functions))
    where
      fits : (xs : List ℕ) → count + length xs ≤ length ns → functions < length ls
          → outcome (Ok (lists (count + length xs) (suc functions))) (sets ns count xs) (sets ls functions (length xs ∷ []))
          ≡ ended (goes (state (suc line) end (take count ns ++ xs) (take functions ls ++ (length xs ∷ [])))) ns ls
      fits xs h k =
          let a : count + length xs ≡ length (take count ns ++ xs) =
          sym (length-append (take count ns) xs ∙ ap (λ (i : ℕ). i + length xs) many) in
          let b : suc functions ≡ length (take functions ls ++ (length xs ∷ [])) =
          sym (length-append (take functions ls) (length xs ∷ []) ∙ ap (λ (i : ℕ). i + 1) few ∙ add-one functions) in
          let n : sets ns count xs ≡ over (take count ns ++ xs) ns = sets_over ns count xs h in
          let l : sets ls functions (length xs ∷ []) ≡ over (take functions ls ++ (length xs ∷ [])) ls =
          sets_over ls functions (length xs ∷ []) (omega arith) in
          ap (λ (i : ℕ). outcome (Ok (lists i (suc functions))) (sets ns count xs) (sets ls functions (length xs ∷ []))) a
          ∙ ap (λ (i : ℕ). outcome (Ok (lists (length (take count ns ++ xs)) i)) (sets ns count xs) (sets ls functions (length xs ∷ []))) b
          ∙ ap (λ (i : List ℕ). outcome (Ok (lists (length (take count ns ++ xs)) (length (take functions ls ++ (length xs ∷ []))))) i (sets ls functions (length xs ∷ []))) n
          ∙ ap (λ (i : List ℕ). outcome (Ok (lists (length (take count ns ++ xs)) (length (take functions ls ++ (length xs ∷ []))))) (over (take count ns ++ xs) ns) i) l

  kept_is : outcome (Ok (lists count functions)) ns ls ≡ ended (goes (state (suc line) end (take count ns) (take functions ls))) ns ls
  kept_is =
      rw (few, many, take-append-drop count ns, take-append-drop functions ls)

  pub into_is : (fs : List (List ℕ)) → taken_into line functions count fs ns ls ≡ ended (taken here end fs) ns ls
  unfolding taken_into taken
  into_is fs =
      by (equal (nth 0 fs) (bytes "n")) (equal (nth 0 fs) (bytes "ok")) (ok_stands line fs) (list_line functions fs)
      ∙ ap (λ (k : ℕ). ended
      (cond (equal (nth 0 fs) (bytes "n")) (listed here end (list_line k fs))
      (cond (equal (nth 0 fs) (bytes "ok"))
      (cond (ok_stands line fs) (goes (state (suc line) end (take count ns) (take functions ls))) (refuses (NotInForm line 200)))
      (refuses (NotInForm line 201)))) ns ls) (sym few)
    where
      by : (t u v : Bool) (y : Says (List ℕ))
          → cond t (listed_into line functions count y ns ls)
          (cond u (cond v (outcome (Ok (lists count functions)) ns ls) (refused (NotInForm line 200) ns ls)) (refused (NotInForm line 201) ns ls))
          ≡ ended
          (cond t (listed here end y)
          (cond u (cond v (goes (state (suc line) end (take count ns) (take functions ls))) (refuses (NotInForm line 200))) (refuses (NotInForm line 201))))
          ns ls
      by true u v (bad k) = refl
      by true u v (says xs) = counted_is xs
      by false true true y = kept_is
      by false true false y = refl
      by false false v y = refl

-- ---- what a line adds: it moves the reader on, and passes no size
abbrev Moves : State → ℕ → State → Type 0
Moves s end t =
    (t.line ≡ suc s.line) × (t.bytes ≡ end) × (length s.numbers ≤ length t.numbers) × (length t.numbers ≤ 8192)
    × (length s.lengths ≤ length t.lengths) × (length t.lengths ≤ 64)

same_state : (s t : State) → goes s ≡ goes t → s ≡ t
same_state s t e = cc

no_step : (r : Refusal) (s : State) {X : Type 0} → refuses r ≡ goes s → X
no_step r s e = cc

module _ (s : State) (end : ℕ) (hn : length s.numbers ≤ 8192) (hl : length s.lengths ≤ 64) (t : State) where
  moved : (line bytes : ℕ) (ns ls : List ℕ) → goes (state line bytes ns ls) ≡ goes t
      → line ≡ suc s.line → bytes ≡ end → length s.numbers ≤ length ns → length ns ≤ 8192
      → length s.lengths ≤ length ls → length ls ≤ 64 → Moves s end t
  moved line bytes ns ls e a b d f g h =
      let same = same_state (state line bytes ns ls) t e in
      subst (λ (x : State). Moves s end x) same (a, b, d, f, g, h)

  listed_moves : (y : Says (List ℕ)) → listed s end y ≡ goes t → Moves s end t
  listed_moves (bad k) e = no_step (NotInForm s.line k) t e
  listed_moves (says xs) e = ⊎_elim
      (λ h. let full : listed s end (says xs) ≡ refuses (OutOfRange 0 0) = rw (lt-ltb 64 (suc (length s.lengths)) h) in
      no_step (OutOfRange 0 0) t (sym full ∙ e))
      (λ h. ⊎_elim
      (λ k. let full : listed s end (says xs) ≡ refuses (OutOfRange 0 0) =
      rw (le-ltb 64 (suc (length s.lengths)) h, lt-ltb 8192 (length s.numbers + length xs) k) in
      no_step (OutOfRange 0 0) t (sym full ∙ e))
      (λ k. let fits : listed s end (says xs) ≡ goes (state (suc s.line) end (s.numbers ++ xs) (s.lengths ++ (length xs ∷ []))) =
      rw (le-ltb 64 (suc (length s.lengths)) h, le-ltb 8192 (length s.numbers + length xs) k) in
      let n = length-append s.numbers xs in
      let l = length-append s.lengths (length xs ∷ []) in
      moved (suc s.line) end (s.numbers ++ xs) (s.lengths ++ (length xs ∷ [])) (sym fits ∙ e) refl refl
      (omega arith) (omega arith) (omega arith) (omega arith))
      (lt_or_ge 8192 (length s.numbers + length xs)))
      (lt_or_ge 64 (suc (length s.lengths)))

  taken_moves : (fs : List (List ℕ)) → taken s end fs ≡ goes t → Moves s end t
  unfolding taken
  taken_moves fs e = by (equal (nth 0 fs) (bytes "n")) (equal (nth 0 fs) (bytes "ok")) (ok_stands s.line fs) (list_line (length s.lengths) fs) e
    where
      by : (u v w : Bool) (y : Says (List ℕ))
          → cond u (listed s end y)
          (cond v (cond w (goes (state (suc s.line) end s.numbers s.lengths)) (refuses (NotInForm s.line 200))) (refuses (NotInForm s.line 201)))
          ≡ goes t → Moves s end t
      by true v w y e = listed_moves y e
      by false true true y e = moved (suc s.line) end s.numbers s.lengths e refl refl (omega arith) hn (omega arith) hl
      by false true false y e = no_step (NotInForm s.line 200) t e
      by false false w y e = no_step (NotInForm s.line 201) t e

state_is : (t : State) (line bytes : ℕ) (ns ls : List ℕ) → t.line ≡ line → t.bytes ≡ bytes → t.numbers ≡ ns → t.lengths ≡ ls
    → t ≡ state line bytes ns ls
state_is t line bytes ns ls a b n l =
    ap (λ (k : ℕ). state k t.bytes t.numbers t.lengths) a
    ∙ ap (λ (k : ℕ). state line k t.numbers t.lengths) b
    ∙ ap (λ (k : List ℕ). state line bytes k t.lengths) n
    ∙ ap (λ (k : List ℕ). state line bytes ns k) l

-- ---- a line that was taken, by what it left in the lent lists
module _ (line p end functions count : ℕ) (ns ls : List ℕ) (hn : 8192 ≤ length ns) (hl : 64 ≤ length ls) (hc : count ≤ 8192) (hf : functions ≤ 64)
    (fs : List (List ℕ)) (w : Result Lists Refusal) (ns' ls' : List ℕ) (e : settled w ns' ls' ≡ taken_into line functions count fs ns ls) where
  abbrev before : State
  before = state line p (take count ns) (take functions ls)

  left_is : settled w ns' ls' ≡ ended (taken before end fs) ns ls
  left_is = e ∙ into_is line p end functions count ns ls hn hl hc hf fs

  step_refused : (r : Refusal) → w ≡ Err r → (taken before end fs ≡ refuses r) × (zeros ns' ≡ zeros ns) × (zeros ls' ≡ zeros ls)
  step_refused r k = by (taken before end fs) (ap (λ (x : Result Lists Refusal). settled x ns' ls') (sym k) ∙ left_is)
    where
      by : (x : Step) → refused r ns' ls' ≡ ended x ns ls → (x ≡ refuses r) × (zeros ns' ≡ zeros ns) × (zeros ls' ≡ zeros ls)
      by (goes t) z =
          let told : Err r ≡ Ok (lists (length t.numbers) (length t.lengths)) = ap (λ (o : Outcome). o.answer) z in
          cc
      by (refuses q) z =
          let told : Err r ≡ Err q = ap (λ (o : Outcome). o.answer) z in
          let same : q ≡ r = cc in
          (ap refuses same, ap (λ (o : Outcome). o.numbers) z, ap (λ (o : Outcome). o.lengths) z)

  step_read : (c f : ℕ) → w ≡ Ok (lists c f)
      → (taken before end fs ≡ goes (state (suc line) end (take c ns') (take f ls'))) × (c ≤ 8192) × (f ≤ 64) × (count ≤ c) × (functions ≤ f)
      × (length (take c ns') ≡ c) × (length (take f ls') ≡ f) × (over (take c ns') ns ≡ ns') × (over (take f ls') ls ≡ ls')
  step_read c f k = by (taken before end fs) refl (ap (λ (x : Result Lists Refusal). settled x ns' ls') (sym k) ∙ left_is)
    where
      by : (x : Step) → taken before end fs ≡ x → outcome (Ok (lists c f)) ns' ls' ≡ ended x ns ls
          → (taken before end fs ≡ goes (state (suc line) end (take c ns') (take f ls'))) × (c ≤ 8192) × (f ≤ 64) × (count ≤ c) × (functions ≤ f)
          × (length (take c ns') ≡ c) × (length (take f ls') ≡ f) × (over (take c ns') ns ≡ ns') × (over (take f ls') ls ≡ ls')
      by (refuses q) g z =
          let told : Ok (lists c f) ≡ Err q = ap (λ (o : Outcome). o.answer) z in
          cc
      by (goes t) g z =
          let told : Ok (lists c f) ≡ Ok (lists (length t.numbers) (length t.lengths)) = ap (λ (o : Outcome). o.answer) z in
          let same : lists c f ≡ lists (length t.numbers) (length t.lengths) = cc in
          let a : c ≡ length t.numbers = ap (λ (x : Lists). x.count) same in
          let b : f ≡ length t.lengths = ap (λ (x : Lists). x.functions) same in
          let n : ns' ≡ over t.numbers ns = ap (λ (o : Outcome). o.numbers) z in
          let l : ls' ≡ over t.lengths ls = ap (λ (o : Outcome). o.lengths) z in
          let tn : take c ns' ≡ t.numbers =
          ap (λ (i : ℕ). take i ns') a ∙ ap (take (length t.numbers)) n ∙ take-append_seam t.numbers (drop (length t.numbers) ns) in
          let tl : take f ls' ≡ t.lengths =
          ap (λ (i : ℕ). take i ls') b ∙ ap (take (length t.lengths)) l ∙ take-append_seam t.lengths (drop (length t.lengths) ls) in
          let few = length-take-le functions ls (omega arith) in
          let many = length-take-le count ns (omega arith) in
          let m = taken_moves before end (omega arith) (omega arith) t fs g in (
            g ∙ ap goes (state_is t (suc line) end (take c ns') (take f ls') m.0 m.1 (sym tn) (sym tl)),
            omega (arith, m.3),
            omega (arith, m.5),
            omega (arith, m.2),
            omega (arith, m.4),
            ap length tn ∙ sym a,
            ap length tl ∙ sym b,
            ap (λ (x : List ℕ). over x ns) tn ∙ sym n,
            ap (λ (x : List ℕ). over x ls) tl ∙ sym l,
          )

-- ---- one line after another
lines_more : (s : State) (l t : List ℕ) (ls : List (List ℕ)) → ls ≡ l ∷ split 10 t → lines_of s ls ≡ onward (line_of s l) (λ x. lines_of x (split 10 t))
unfolding lines_of
lines_more s l t ls e = rw (e, (split_cons 10 t).1)

lines_last : (s : State) (l : List ℕ) (ls : List (List ℕ)) → ls ≡ l ∷ [] → lines_of s ls ≡ last_of s l
unfolding lines_of
lines_last s l ls e = rw e

-- ---- the ways through the loop, at a cursor p, with the end e that `find` gives; the lent lists hold what the lines before p say
module _ (line p e functions count : ℕ) (ns ls ns₀ ls₀ text : List ℕ) (h : p ≤ length text) (at : e ≡ end_from 10 p text)
    (hn : 8192 ≤ length ns) (hl : 64 ≤ length ls) (hc : count ≤ 8192) (hf : functions ≤ 64)
    (en : length ns ≡ length ns₀) (el : length ls ≡ length ls₀) (on : over (take count ns) ns₀ ≡ ns) (ol : over (take functions ls) ls₀ ≡ ls) where
  abbrev stand : State
  stand = state line p (take count ns) (take functions ls)

  abbrev this : List ℕ
  this = take (e - p) (drop p text)

  this_long : p + length this ≡ e
  this_long =
      let ge = end_ge 10 p e text h at in
      let le = end_le 10 p e text h at in
      simp (length-take, length-drop) (omega arith)

  none_left : (r : Refusal) → refused r ns ls ≡ refused r ns₀ ls₀
  none_left r = rw (en, el)

  all_held : outcome (Ok (lists count functions)) ns ls ≡ ended (goes stand) ns₀ ls₀
  all_held =
      ap (λ (i : ℕ). outcome (Ok (lists i functions)) ns ls) (sym (length-take-le count ns (omega arith)))
      ∙ ap (λ (i : ℕ). outcome (Ok (lists (length (take count ns)) i)) ns ls) (sym (length-take-le functions ls (omega arith)))
      ∙ ap (λ (i : List ℕ). outcome (Ok (lists (length (take count ns)) (length (take functions ls)))) i ls) (sym on)
      ∙ ap (λ (i : List ℕ). outcome (Ok (lists (length (take count ns)) (length (take functions ls)))) (over (take count ns) ns₀) i) (sym ol)

  last_is : (l : List ℕ) → settled (last_answer line p (p + length l) functions count) ns ls ≡ ended (last_of stand l) ns₀ ls₀
  unfolding last_answer last_of
  last_is [] = by (ltb 262144 (p + 0)) (le-ltb p (p + 0) (omega arith))
    where
      by : (t : Bool) → ltb p (p + 0) ≡ false
          → settled (cond t (Err (OutOfRange 0 0)) (cond (ltb p (p + 0)) (Err (NotInForm line 200)) (Ok (lists count functions)))) ns ls
          ≡ ended (cond t (refuses (OutOfRange 0 0)) (goes stand)) ns₀ ls₀
      by true z = none_left (OutOfRange 0 0)
      by false z = rw z all_held
  last_is (b ∷ l) =
      by (ltb 262144 (p + length (b ∷ l))) (eqb (length (b ∷ l)) 0) (lt-ltb p (p + length (b ∷ l)) (omega arith)) (ne_eqb (length (b ∷ l)) 0 (λ h. omega arith))
    where
      by : (t u : Bool) → ltb p (p + length (b ∷ l)) ≡ true → u ≡ false
          → settled (cond t (Err (OutOfRange 0 0)) (cond (ltb p (p + length (b ∷ l))) (Err (NotInForm line 200)) (Ok (lists count functions)))) ns ls
          ≡ ended (cond t (refuses (OutOfRange 0 0)) (cond u (goes stand) (refuses (NotInForm line 200)))) ns₀ ls₀
      by true u z y = none_left (OutOfRange 0 0)
      by false u z y = rw (z, y) (none_left (NotInForm line 200))

  pub at_end : length text ≤ e → (r : Result Lists Refusal) → r ≡ last_answer line p e functions count
      → settled r ns ls ≡ ended (lines_of stand (split 10 (drop p text))) ns₀ ls₀
  at_end k r er =
      ap (λ (x : Result Lists Refusal). settled x ns ls) (er ∙ ap (λ (i : ℕ). last_answer line p i functions count) (sym this_long))
      ∙ last_is this
      ∙ sym (ap (λ (x : Step). ended x ns₀ ls₀) (lines_last stand this (split 10 (drop p text)) (at_last 10 p e text h at k)))

  module _ (k : e < length text) where
    lines_are : lines_of stand (split 10 (drop p text)) ≡ onward (line_of stand this) (λ x. lines_of x (split 10 (drop (e + 1) text)))
    lines_are = lines_more stand this (drop (e + 1) text) (split 10 (drop p text)) (at_more 10 p e text h at k)

    counted : p + suc (length this) ≡ e + 1
    counted = let n = this_long in omega arith

    line_far : 262144 ≤ e → line_of stand this ≡ refuses (OutOfRange 0 0)
    unfolding line_of
    line_far n = rw (counted, lt-ltb 262144 (e + 1) (omega arith))

    pub at_far : 262144 ≤ e → settled (Err (OutOfRange 0 0)) ns ls ≡ ended (lines_of stand (split 10 (drop p text))) ns₀ ls₀
    at_far n =
        none_left (OutOfRange 0 0)
        ∙ sym (ap (λ (x : Step). ended x ns₀ ls₀) (lines_are ∙ ap (λ (x : Step). onward x (λ y. lines_of y (split 10 (drop (e + 1) text)))) (line_far n)))

    module _ (n : e < 262144) (m : List ℕ) (em : m ≡ this) (w : Result Lists Refusal) (ns' ls' : List ℕ)
        (ew : settled w ns' ls' ≡ taken_into line functions count (split 9 m) ns ls) where
      told : settled w ns' ls' ≡ taken_into line functions count (split 9 this) ns ls
      told = ew ∙ ap (λ (x : List ℕ). taken_into line functions count (split 9 x) ns ls) em

      near : line_of stand this ≡ taken stand (e + 1) (split 9 this)
      unfolding line_of
      near = rw (counted, le-ltb 262144 (e + 1) (omega arith))

      next_is : (x : Step) → taken stand (e + 1) (split 9 this) ≡ x
          → lines_of stand (split 10 (drop p text)) ≡ onward x (λ y. lines_of y (split 10 (drop (e + 1) text)))
      next_is x q = lines_are ∙ ap (λ (x : Step). onward x (λ y. lines_of y (split 10 (drop (e + 1) text)))) (near ∙ q)

      pub at_refused : (r : Refusal) → w ≡ Err r → settled (Err r) ns' ls' ≡ ended (lines_of stand (split 10 (drop p text))) ns₀ ls₀
      at_refused r q =
          let z = step_refused line p (e + 1) functions count ns ls hn hl hc hf (split 9 this) w ns' ls' told r q in
          ap (λ (x : List ℕ). outcome (Err r) x (zeros ls')) z.1 ∙ ap (λ (x : List ℕ). outcome (Err r) (zeros ns) x) z.2
          ∙ none_left r ∙ sym (ap (λ (x : Step). ended x ns₀ ls₀) (next_is (refuses r) z.0))

      pub at_read : (c f : ℕ) → w ≡ Ok (lists c f)
          → (lines_of (state (line + 1) (e + 1) (take c ns') (take f ls')) (split 10 (drop (e + 1) text)) ≡ lines_of stand (split 10 (drop p text)))
          × (c ≤ 8192) × (f ≤ 64) × (over (take c ns') ns₀ ≡ ns') × (over (take f ls') ls₀ ≡ ls')
      at_read c f q =
          let z = step_read line p (e + 1) functions count ns ls hn hl hc hf (split 9 this) w ns' ls' told c f q in
          let few = length-take-le functions ls (omega arith) in
          let many = length-take-le count ns (omega arith) in (
            ap (λ (i : ℕ). lines_of (state i (e + 1) (take c ns') (take f ls')) (split 10 (drop (e + 1) text))) (add-one line)
                ∙ sym (next_is (goes (state (suc line) (e + 1) (take c ns') (take f ls'))) z.0),
            z.1,
            z.2,
            sym (over_over (take count ns) (take c ns') ns₀ (omega (arith, z.3, z.5))) ∙ ap (over (take c ns')) on ∙ z.7,
            sym (over_over (take functions ls) (take f ls') ls₀ (omega (arith, z.4, z.6))) ∙ ap (over (take f ls')) ol ∙ z.8,
          )
