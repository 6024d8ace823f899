-- Reading all numbers on the way says and writes what the definition says of the list, where all that is live has room. Assumes nothing.
use Prim.Native.Nat.{ℕ, suc, ◌+◌, ◌*◌, ◌≤◌, ◌<◌}
use native.Mathlib.Omega.{arith}
use mathlib.Core.Path.{◌≡◌, refl, ap, sym, ◌∙◌}
use mathlib.Core.Bool.{Bool, true, false, cond}
use mathlib.Core.Logic.{⊎_elim}
use mathlib.Core.Option.{Option, some, none}
use mathlib.Core.List.{List, [], ◌∷◌, ◌++◌, append_assoc, append-nil}
use lib.Dec.{eqb}
use lib.ListN.{length, get_or, drop, length-append, length-drop}
use lib.Seq.{set_at, drop-drop}
use borrow.Author.Tests.{lt-ltb, le-ltb, eq-eqb, ne_eqb, eqb-true}
use Rattle.cells.specs.Cell.{put_cell}
use Rattle.cells.specs.Lists.{flat}
use Rattle.cells.proofs.Parts.{left_step, left_end}
use Rattle.cells.proofs.Rows.{lt_or_ge}
use Rattle.tables.specs.Tables.{Tables}
use Rattle.tables.specs.Answer.{and_then, Answer}
use Rattle.tables.specs.declared.Place.{Place}
use Rattle.std.specs.Prelude.{Ok, Err}
use Rattle.tables.specs.declared.Refusal.{Refusal}
use Rattle.tables.specs.declared.Refusal.TheVariants.{NotReadable}
use Rattle.nesting.specs.In.{In}
use Rattle.nesting.specs.Shape.{Visit, entries_visits}
use Rattle.nesting.specs.Live.{placed, nth}
use Rattle.nesting.specs.Fits.{FitsAt}
use Rattle.nesting.specs.Numbering.{Listing, fine, refused, join, collect, found}
use Rattle.nesting.specs.ReadBack.{Use, uses_at, uses, zip, read}
use Rattle.nesting.specs.Ask.{all}
use Rattle.nesting.proofs.Answers.{Lawful, join_fine}
use Rattle.nesting.proofs.Folds.{fold_entries_lem}
use Rattle.nesting.proofs.Grown.{entries_grown}
use Rattle.read_back.specs.Alone.{spanned, kind_of, id_of, index_of, three_of}
use Rattle.read_back.specs.Live.{grow_all}
use Rattle.read_back.specs.Stage.{Stage, stage, start, put_place, took, read_next, read_all, lists, entries_uses}
use Rattle.read_back.proofs.Stack.{grown_plain}

-- ---- the operands of the entry walks, over the stack and by the definition

lists_lawful : {A : Type 0} → Lawful (lists {A = A})
lists_lawful = record { unit = λ a. refl; assoc = append_assoc }

all_flat : {A B : Type 0} (f : A → List B) (xs : List A) → all lists f xs ≡ flat f xs
all_flat f [] = refl
all_flat f (x ∷ xs) = ap (λ (r : List _). f x ++ r) (all_flat f xs)

pub entries_uses_lem : (x : Tables)
    → ((u : Visit Place) → In u (entries_visits (placed (spanned x))) → FitsAt (λ live. length live ≤ 8192) (placed (spanned x)) u)
    → entries_uses x ≡ uses (spanned x)
unfolding entries_uses uses
entries_uses_lem x fits =
    let ask = uses_at (spanned x).operands in
    entries_grown (λ live. length live ≤ 8192) grow_all grown_plain lists ask (placed (spanned x)) fits
    ∙ sym (fold_entries_lem lists lists_lawful ask (placed (spanned x)))
    ∙ all_flat ask (entries_visits (placed (spanned x)))

-- ---- what is said of the list

abbrev pub answer_of : Listing Place → Answer
answer_of (fine ps) = Ok tt
answer_of (refused r) = Err r

abbrev wrong : Answer
wrong = Err (NotReadable 0 0)

abbrev said : List ℕ → Stage → Answer
said numbers s = cond (eqb s.at (length numbers)) s.answer wrong

then_accepted : (a : Answer) → and_then a (Ok tt) ≡ a
then_accepted (Ok _) = refl
then_accepted (Err r) = refl

then_refused : (a b : Answer) (r : Refusal) → and_then (and_then a (Err r)) b ≡ and_then a (Err r)
then_refused (Ok _) b r = refl
then_refused (Err q) b r = refl

join_one : (p : Place) (b : Listing Place) → answer_of (join (fine (p ∷ [])) b) ≡ answer_of b
join_one p (fine ps) = refl
join_one p (refused r) = refl

suc_eqb : (a b : ℕ) → eqb (suc a) (suc b) ≡ eqb a b
suc_eqb a b = go (eqb a b) refl
  where
    go : (t : Bool) → eqb a b ≡ t → eqb (suc a) (suc b) ≡ eqb a b
    go true e = eq-eqb (suc a) (suc b) (ap suc (eqb-true a b e)) ∙ sym e
    go false e = ne_eqb (suc a) (suc b) (λ q. let z : a ≡ b = omega arith in let y : true ≡ false = sym (eq-eqb a b z) ∙ e in let k : ◌≡◌ {A = ℕ} 0 1 = cc in omega arith) ∙ sym e

-- the next number, where there is none left and where there is one
next_none : (numbers : List ℕ) (live : List Place) (i place : ℕ) (s : Stage) → length numbers ≤ s.at
    → read_next numbers live i place s ≡ stage s.at wrong s.held
unfolding read_next
next_none numbers live i place s h = rw (le-ltb s.at (length numbers) h)

next_one : (numbers : List ℕ) (live : List Place) (i place : ℕ) (s : Stage) → s.at < length numbers
    → read_next numbers live i place s ≡ took (nth live (get_or numbers s.at 0)) i place s
unfolding read_next
next_one numbers live i place s h = rw (lt-ltb s.at (length numbers) h)

-- no number is left, and an operand asked for one
none_left : (numbers : List ℕ) (us : List Use) (k : ℕ) (held : List ℕ) → length numbers ≡ k → said numbers (read_all numbers (stage k wrong held) us) ≡ wrong
none_left numbers [] k held e = rw (eq-eqb k (length numbers) (sym e))
none_left numbers (u ∷ us) k held e =
    ap (λ (z : Stage). said numbers (read_all numbers z us)) (next_none numbers u.live u.op (suc u.index) (stage k wrong held) (omega arith))
    ∙ none_left numbers us k held e

-- the numbers ns for the operands us
abbrev judged_of : Answer → List ℕ → List Use → Answer
judged_of a ns us = cond (eqb (length ns) (length us)) (and_then a (answer_of (collect read (zip us ns)))) wrong

-- one operand more, whose number is n
one_said : (a : Answer) (n : ℕ) (ns : List ℕ) (u : Use) (us : List Use) (s : Stage) (o : Option Place) → nth u.live n ≡ o → s.answer ≡ a
    → judged_of (took o u.op (suc u.index) s).answer ns us ≡ judged_of a (n ∷ ns) (u ∷ us)
one_said a n ns u us s none q e =
    rw (q, suc_eqb (length ns) (length us), e)
    (ap (λ (b : Answer). cond (eqb (length ns) (length us)) b wrong) (then_refused a (answer_of (collect read (zip us ns))) (NotReadable u.op (suc u.index))))
one_said a n ns u us s (some p) q e =
    rw (q, suc_eqb (length ns) (length us), e)
    (ap (λ (b : Answer). cond (eqb (length ns) (length us)) (and_then a b) wrong) (sym (join_one p (collect read (zip us ns)))))

took_at : (o : Option Place) (i place : ℕ) (s : Stage) → (took o i place s).at ≡ s.at + 1
took_at none i place s = refl
took_at (some p) i place s = refl

all_said : (numbers : List ℕ) (us : List Use) (s : Stage) → s.at ≤ length numbers
    → said numbers (read_all numbers s us) ≡ judged_of s.answer (drop s.at numbers) us
all_said numbers [] s h = ⊎_elim
    (λ l.
    rw (ne_eqb s.at (length numbers) (λ e. omega arith), left_step numbers s.at 0 l, ne_eqb (suc (length (drop (s.at + 1) numbers))) 0 (λ e. omega arith)))
    (λ l. rw (eq-eqb s.at (length numbers) (omega arith), left_end numbers s.at 0 l) (sym (then_accepted s.answer)))
    (lt_or_ge s.at (length numbers))
all_said numbers (u ∷ us) s h = ⊎_elim
    (λ l.
    let o = nth u.live (get_or numbers s.at 0) in
    let t = took o u.op (suc u.index) s in
    let k = took_at o u.op (suc u.index) s in
    ap (λ (z : Stage). said numbers (read_all numbers z us)) (next_one numbers u.live u.op (suc u.index) s l)
    ∙ all_said numbers us t (omega arith)
    ∙ ap (λ (m : ℕ). judged_of t.answer (drop m numbers) us) k
    ∙ one_said s.answer (get_or numbers s.at 0) (drop (s.at + 1) numbers) u us s o refl refl
    ∙ ap (λ (ns : List ℕ). judged_of s.answer ns (u ∷ us)) (sym (left_step numbers s.at 0 l)))
    (λ l.
    ap (λ (z : Stage). said numbers (read_all numbers z us)) (next_none numbers u.live u.op (suc u.index) s l)
    ∙ none_left numbers us s.at s.held (omega arith)
    ∙ sym (ap (λ (b : Bool). cond b (and_then s.answer (answer_of (collect read (zip (u ∷ us) [])))) wrong) (ne_eqb 0 (suc (length us)) (λ e. omega arith)))
    ∙ ap (λ (ns : List ℕ). judged_of s.answer ns (u ∷ us)) (sym (left_end numbers s.at 0 l)))
    (lt_or_ge s.at (length numbers))

answer_cond : (b : Bool) (a c : Listing Place) → cond b (answer_of a) (answer_of c) ≡ answer_of (cond b a c)
answer_cond true a c = refl
answer_cond false a c = refl

-- the answer of all numbers for the operands us
abbrev pub read_for : List Use → List ℕ → Listing Place
read_for us numbers = cond (eqb (length numbers) (length us)) (collect read (zip us numbers)) (refused (NotReadable 0 0))

pub answer_is : (numbers : List ℕ) (us : List Use) (held : List ℕ)
    → cond (eqb (read_all numbers (start held) us).at (length numbers)) (read_all numbers (start held) us).answer (Err (NotReadable 0 0))
    ≡ answer_of (read_for us numbers)
answer_is numbers us held =
    all_said numbers us (start held) (omega arith)
    ∙ answer_cond (eqb (length numbers) (length us)) (collect read (zip us numbers)) (refused (NotReadable 0 0))

-- ---- what is written

three_length : (ps : List Place) → length (flat three_of ps) ≡ 3 * length ps
three_length [] = refl
three_length (p ∷ ps) = omega (arith, three_length ps)

-- a place behind what stands in front
put_three : (front rest : List ℕ) (k : ℕ) (p : Place) → length front ≡ 3 * k → 3 ≤ length rest
    → put_place (front ++ rest) k p ≡ (front ++ three_of p) ++ drop 3 rest
put_three front [] k p e h = absurd (omega arith)
put_three front (a ∷ []) k p e h = absurd (omega arith)
put_three front (a ∷ b ∷ []) k p e h = absurd (omega arith)
put_three front (a ∷ b ∷ c ∷ rest) k p e h =
    ap (λ (xs : List ℕ). put_cell 3 (put_cell 3 xs k 1 (id_of p)) k 2 (index_of p)) (set_at front a (b ∷ c ∷ rest) (kind_of p) (k * 3 + 0) (omega arith) ∙ sym (append_assoc front (kind_of p ∷ []) (b ∷ c ∷ rest)))
    ∙ ap (λ (xs : List ℕ). put_cell 3 xs k 2 (index_of p))
    (set_at (front ++ (kind_of p ∷ [])) b (c ∷ rest) (id_of p) (k * 3 + 1) (simp length-append (omega arith)) ∙ sym (append_assoc (front ++ (kind_of p ∷ [])) (id_of p ∷ []) (c ∷ rest)))
    ∙ set_at ((front ++ (kind_of p ∷ [])) ++ (id_of p ∷ [])) c rest (index_of p) (k * 3 + 2) (simp length-append (omega arith))
    ∙ simp append_assoc

-- each operand's number names a live place
pub data Found : List Use → List ℕ → List Place → Type 0 where
  none_found : Found [] [] []
  one_found : {u : Use} {n : ℕ} {p : Place} {us : List Use} {ns : List ℕ} {ps : List Place} → nth u.live n ≡ some p → Found us ns ps
      → Found (u ∷ us) (n ∷ ns) (p ∷ ps)

found_one : (u : Use) (n : ℕ) (us : List Use) (ns : List ℕ) (ps qs rs : List Place) (o : Option Place) → nth u.live n ≡ o
    → found o (NotReadable u.op (suc u.index)) ≡ fine qs → qs ++ rs ≡ ps → Found us ns rs → Found (u ∷ us) (n ∷ ns) ps
found_one u n us ns ps qs rs none q e w f = let z : ◌≡◌ {A = ℕ} 0 1 = cc in absurd (omega arith)
found_one u n us ns ps qs rs (some p) q e w f =
    let z : p ∷ [] ≡ qs = cc in
    let y : p ∷ rs ≡ ps = ap (λ (l : List Place). l ++ rs) z ∙ w in
    rw (← y) (one_found q f)

all_found : (us : List Use) (ns : List ℕ) (ps : List Place) → length ns ≡ length us → collect read (zip us ns) ≡ fine ps → Found us ns ps
all_found [] [] ps e q = let z : ps ≡ [] = cc in rw z none_found
all_found [] (n ∷ ns) ps e q = absurd (omega arith)
all_found (u ∷ us) [] ps e q = absurd (omega arith)
all_found (u ∷ us) (n ∷ ns) ps e q =
    let j = join_fine (read (u, n)) (collect read (zip us ns)) ps q in
    found_one u n us ns ps j.xs j.ys (nth u.live n) refl j.left j.whole (all_found us ns j.ys (omega arith) j.right)

found_length : {us : List Use} {ns : List ℕ} {ps : List Place} → Found us ns ps → length ps ≡ length ns
found_length none_found = refl
found_length (one_found e f) = ap suc (found_length f)

-- where k numbers are read, the places of the others go behind what stands in front
written_from : (numbers : List ℕ) {us : List Use} {ns : List ℕ} {ps : List Place} → Found us ns ps → (k : ℕ) (a : Answer) (front rest : List ℕ)
    → drop k numbers ≡ ns → length front ≡ 3 * k → 3 * length ps ≤ length rest
    → (read_all numbers (stage k a (front ++ rest)) us).held ≡ (front ++ flat three_of ps) ++ drop (3 * length ps) rest
written_from numbers none_found k a front rest e f h = ap (λ (l : List ℕ). l ++ rest) (sym (append-nil front))
written_from numbers (one_found {u} {n} {p} {us} {ns} {ps} q g) k a front rest e f h =
    let l : k < length numbers = omega (arith, ap length e, length-drop k numbers) in
    let t : get_or numbers k 0 ∷ drop (k + 1) numbers ≡ n ∷ ns = sym (left_step numbers k 0 l) ∙ e in
    let m : get_or numbers k 0 ≡ n = cc in
    let d : drop (k + 1) numbers ≡ ns = cc in
    let c : 3 + 3 * length ps ≡ 3 * suc (length ps) = omega arith in
    let o : nth u.live (get_or numbers k 0) ≡ some p = ap (nth u.live) m ∙ q in
    ap (λ (z : Stage). (read_all numbers z us).held) (next_one numbers u.live u.op (suc u.index) (stage k a (front ++ rest)) l)
    ∙ ap (λ (z : Option Place). (read_all numbers (took z u.op (suc u.index) (stage k a (front ++ rest))) us).held) o
    ∙ ap (λ (z : List ℕ). (read_all numbers (stage (k + 1) a z) us).held) (put_three front rest k p f (omega arith))
    ∙ written_from numbers g (k + 1) a (front ++ three_of p) (drop 3 rest) d (simp length-append (omega arith)) (simp length-drop (omega arith))
    ∙ ap (λ (z : List ℕ). ((front ++ three_of p) ++ flat three_of ps) ++ z) (drop-drop (3 * length ps) 3 rest ∙ ap (λ (z : ℕ). drop z rest) c)
    ∙ ap (λ (z : List ℕ). z ++ drop (3 * length (p ∷ ps)) rest) (append_assoc front (three_of p) (flat three_of ps))

-- ---- the whole: us are the operands of the entry walks

pub record Reads (us : List Use) (numbers : List ℕ) (ps : List Place) : Type 0 where
  pub are : read_for us numbers ≡ fine ps
  pub needed : length (flat three_of ps) ≡ 3 * length numbers
  pub places : Found us numbers ps

pub refused_is : (us : List Use) (numbers : List ℕ) (r : Refusal) → answer_of (read_for us numbers) ≡ Err r → read_for us numbers ≡ refused r
refused_is us numbers r e = go (read_for us numbers) refl e
  where
    go : (l : Listing Place) → read_for us numbers ≡ l → answer_of l ≡ Err r → l ≡ refused r
    go (fine ps) q z = let y : ◌≡◌ {A = ℕ} 0 1 = cc in absurd (omega arith)
    go (refused s) q z = let y : s ≡ r = cc in ap refused y

pub accepted_is : (us : List Use) (numbers : List ℕ) → answer_of (read_for us numbers) ≡ Ok tt → (ps : List Place) × Reads us numbers ps
accepted_is us numbers e = go (eqb (length numbers) (length us)) refl (collect read (zip us numbers)) refl
  where
    go : (b : Bool) → eqb (length numbers) (length us) ≡ b → (l : Listing Place) → collect read (zip us numbers) ≡ l → (ps : List Place) × Reads us numbers ps
    go false q l z =
        let y : ◌≡◌ {A = Answer} (Err (NotReadable 0 0)) (Ok tt) = rw q at e in
        let k : ◌≡◌ {A = ℕ} 0 1 = cc in absurd (omega arith)
    go true q (refused r) z =
        let y : ◌≡◌ {A = Answer} (Err r) (Ok tt) = rw (q, z) at e in
        let k : ◌≡◌ {A = ℕ} 0 1 = cc in absurd (omega arith)
    go true q (fine ps) z =
        let f = all_found us numbers ps (eqb-true (length numbers) (length us) q) z in
        (ps, record { are = rw (q, z); needed = omega (arith, three_length ps, found_length f); places = f })

pub written_is : (us : List Use) (numbers : List ℕ) (ps : List Place) (held : List ℕ) → Reads us numbers ps → 3 * length numbers ≤ length held
    → (read_all numbers (start held) us).held ≡ flat three_of ps ++ drop (length (flat three_of ps)) held
written_is us numbers ps held r h =
    let l : 3 * length ps ≤ length held = omega (arith, three_length ps, r.needed) in
    written_from numbers r.places 0 (Ok tt) [] held refl refl l ∙ ap (λ (c : ℕ). flat three_of ps ++ drop c held) (sym (three_length ps))
