-- What laying a text does, and the steps of a decimal number.
use Prim.Native.Nat.{ℕ, zero, suc, ◌+◌, ◌*◌, ◌/◌, ◌^◌, ◌<◌, ◌≤◌, ◌-◌, min}
use mathlib.Core.Path.{◌≡◌, refl, sym, ap, subst, ◌∙◌}
use mathlib.Core.Bool.{Bool, true, false, cond}
use mathlib.Core.List.{List, [], ◌∷◌, ◌++◌, append_assoc}
use borrow.Author.Tests.{lt-ltb, le-ltb, ltb-true}
use native.Mathlib.Omega.{arith}
use native.Mathlib.Nat.{div-lt_iff_lt-mul, pow-suc}
use lib.Dec.{ltb}
use native.Mathlib.Numerals.{add-one}
use Rattle.cells.proofs.Rows.{lt_or_ge, drop_min}
use mathlib.Core.Logic.{⊎_elim}
use lib.ListN.{length, set, take, drop, get_or, length-set, length-take, length-drop, drop_of_length-le, take-append-drop}
use lib.Seq.{drop-cons, take_all, take-length, take-suc-set, drop-set-lt}
use Rattle.io.specs.Counts.{IsPrefixLen}
use Rattle.printing.specs.Laid.{State, state, pushed, laid}
use Rattle.printing.specs.Lines.{digit_of, decimal_in, decimal, mark_at, others, parted, line, lines}

-- one text after another
pub laid_append : (a b : List ℕ) (s : State) → laid (a ++ b) s ≡ laid b (laid a s)
unfolding laid
laid_append [] b s = refl
laid_append (x ∷ a) b s = laid_append a b (pushed s x)

-- a digit alone
pub decimal_small : (n : ℕ) → n < 10 → decimal n ≡ digit_of n ∷ []
unfolding decimal decimal_in
decimal_small n h = simp (lt-ltb _ _ h)

below_tenth : (k n : ℕ) → n < 10 ^ suc (suc k) → n / 10 < 10 ^ suc k
below_tenth k n h = (div-lt_iff_lt-mul {k = 10} {x = n} {y = 10 ^ suc k} (omega arith)).1 (rw (pow-suc 10 (suc k)) at h)

-- room for more digits changes nothing
more : (k n : ℕ) → n < 10 ^ suc k → decimal_in (suc k) n ≡ decimal_in (suc (suc k)) n
unfolding decimal_in
more zero n h = simp (lt-ltb n 10 h)
more (suc k) n h = ap (λ (l : List ℕ). cond (ltb n 10) (digit_of n ∷ []) (l ++ (digit_of n ∷ []))) (more k (n / 10) (below_tenth k n h))

-- the last digit after the others
pub decimal_step : (n : ℕ) → n < 2 ^ 64 → 10 ≤ n → decimal n ≡ decimal (n / 10) ++ (digit_of n ∷ [])
unfolding decimal decimal_in
decimal_step n w h = simp (le-ltb n 10 h) (ap (λ (l : List ℕ). l ++ (digit_of n ∷ [])) (more 18 (n / 10) (omega arith)))

-- a place within the buffer, or just past it
abbrev pub Within : State → Type 0
Within s = s.at ≤ length s.bytes

within_pick : (t : Bool) (s : State) (b : ℕ) → ltb s.at (length s.bytes) ≡ t → Within s → Within (cond t (state (s.at + 1) (set s.bytes s.at b)) s)
within_pick true s b e h = rw length-set (omega (arith, ltb-true s.at (length s.bytes) e))
within_pick false s b e h = h

-- laying never leaves the buffer
pub within : (a : List ℕ) (s : State) → Within s → Within (laid a s)
unfolding laid pushed
within [] s h = h
within (x ∷ a) s h = within a (pushed s x) (within_pick (ltb s.at (length s.bytes)) s x refl h)

-- what is laid from the start counts bytes of the buffer
pub counted : (a : List ℕ) (r : ℕ) (out held : List ℕ) → state r out ≡ laid a (state 0 held) → IsPrefixLen r out
counted a r out held e =
    let h : Within (state r out) = subst Within (sym e) (within a (state 0 held) (omega arith)) in
    (h, simp length-take (omega arith))

-- an empty list, the first entry of another, and each further one
pub parted_none : (outer : ℕ) (list : List ℕ) → length list ≡ 0 → parted outer list ≡ []
unfolding parted
parted_none outer [] h = refl
parted_none outer (n ∷ ns) h = absurd (omega arith)

pub parted_first : (outer : ℕ) (list : List ℕ) (s : State) → 0 < length list →
    laid (parted outer list) s ≡ laid (others outer 1 (drop 1 list)) (laid (decimal (get_or list 0 0)) s)
unfolding parted
parted_first outer [] s h = absurd (omega arith)
parted_first outer (n ∷ ns) s h = laid_append (decimal n) (others outer 1 ns) s

pub others_step : (outer i : ℕ) (list : List ℕ) (s : State) → i < length list →
    laid (others outer i (drop i list)) s
    ≡ laid (others outer (i + 1) (drop (i + 1) list)) (laid (decimal (get_or list i 0)) (pushed s (mark_at outer i)))
unfolding others laid
others_step outer i list s h =
    let x = get_or list i 0 in
    let t = laid (decimal x) (pushed s (mark_at outer i)) in
    ap (λ (l : List ℕ). laid (others outer i l) s) (drop-cons list i 0 h)
    ∙ laid_append (decimal x) (others outer (i + 1) (drop (suc i) list)) (pushed s (mark_at outer i))
    ∙ ap (λ (k : ℕ). laid (others outer (i + 1) (drop k list)) t) (sym (add-one i))

pub others_end : (outer i : ℕ) (list : List ℕ) (s : State) → length list ≤ i → laid (others outer i (drop i list)) s ≡ s
unfolding others laid
others_end outer i list s h = ap (λ (l : List ℕ). laid (others outer i l) s) (drop_of_length-le list h)

-- a part of a list, its length cut at what is there
take_min : (k : ℕ) (xs : List ℕ) → take (min k (length xs)) xs ≡ take k xs
take_min k xs = ⊎_elim
    (λ h. let e : min k (length xs) ≡ k = omega arith in ap (λ (j : ℕ). take j xs) e)
    (λ h. let e : min k (length xs) ≡ length xs = omega arith in ap (λ (j : ℕ). take j xs) e ∙ take-length xs ∙ sym (take_all k xs h))
    (lt_or_ge k (length xs))

-- the line of one function, and those that follow
module _ (letter outer width i m : ℕ) (lengths xs : List ℕ) (s : State) where
  pub lines_step : i < length lengths → m ≡ min (get_or lengths i 0 * width + 0) (length xs) →
      laid (lines letter outer width i (drop i lengths) xs) s
      ≡ laid (lines letter outer width (i + 1) (drop (i + 1) lengths) (drop m xs)) (laid (line letter outer i (take m xs)) s)
  unfolding lines
  lines_step h e =
      let k = get_or lengths i 0 * width in
      let cut : m ≡ min k (length xs) = omega arith in
      let head : take k xs ≡ take m xs = sym (ap (λ (j : ℕ). take j xs) cut ∙ take_min k xs) in
      let tail : drop k xs ≡ drop m xs = sym (ap (λ (j : ℕ). drop j xs) cut ∙ drop_min xs k) in
      ap (λ (l : List ℕ). laid (lines letter outer width i l xs) s) (drop-cons lengths i 0 h)
      ∙ laid_append (line letter outer i (take k xs)) (lines letter outer width (i + 1) (drop (suc i) lengths) (drop k xs)) s
      ∙ ap (λ (l : List ℕ). laid (lines letter outer width (i + 1) (drop (suc i) lengths) (drop k xs)) (laid (line letter outer i l) s)) head
      ∙ ap (λ (l : List ℕ). laid (lines letter outer width (i + 1) (drop (suc i) lengths) l) (laid (line letter outer i (take m xs)) s)) tail
      ∙ ap (λ (j : ℕ). laid (lines letter outer width (i + 1) (drop j lengths) (drop m xs)) (laid (line letter outer i (take m xs)) s)) (sym (add-one i))

pub lines_end : (letter outer width i : ℕ) (lengths list : List ℕ) (s : State) → length lengths ≤ i → laid (lines letter outer width i (drop i lengths) list) s ≡ s
unfolding lines laid
lines_end letter outer width i lengths list s h = ap (λ (l : List ℕ). laid (lines letter outer width i l list) s) (drop_of_length-le lengths h)

-- a text that has room stands at its place, and the rest of the buffer stays
pub laid_room : (a : List ℕ) (at : ℕ) (out : List ℕ) → at + length a ≤ length out →
    laid a (state at out) ≡ state (at + length a) (take at out ++ (a ++ drop (at + length a) out))
unfolding laid pushed
laid_room [] at out h =
    let e : at ≡ at + 0 = omega arith in
    ap (state at) (sym (take-append-drop at out)) ∙ ap (λ (k : ℕ). state k (take at out ++ drop k out)) e
laid_room (x ∷ a) at out h =
    let n = at + 1 + length a in
    let k : at < length out = omega arith in
    let e : n ≡ at + suc (length a) = omega arith in
    let front : take (at + 1) (set out at x) ≡ take at out ++ (x ∷ []) = rw add-one (take-suc-set out at x k) in
    let back : drop n (set out at x) ≡ drop n out = drop-set-lt n out at x (omega arith) in
    rw (lt-ltb at (length out) k)
    (laid_room a (at + 1) (set out at x) (rw length-set (omega arith))
    ∙ ap (λ (l : List ℕ). state n (l ++ (a ++ drop n (set out at x)))) front
    ∙ ap (λ (l : List ℕ). state n ((take at out ++ (x ∷ [])) ++ (a ++ l))) back
    ∙ ap (state n) (append_assoc (take at out) (x ∷ []) (a ++ drop n out))
    ∙ ap (λ (j : ℕ). state j (take at out ++ ((x ∷ a) ++ drop j out))) e)

-- what is printed: the text, then what the buffer held past it
pub printed : (a out : List ℕ) → length a ≤ length out → laid a (state 0 out) ≡ state (length a) (a ++ drop (length a) out)
printed a out h =
    let e : 0 + length a ≡ length a = omega arith in
    laid_room a 0 out (omega arith) ∙ ap (λ (k : ℕ). state k (a ++ drop k out)) e
