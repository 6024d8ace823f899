-- How the text begins, goes on line by line, and ends.
use Prim.Native.Nat.{ℕ, suc, ◌+◌, ◌-◌, ◌≤◌, ◌<◌}
use mathlib.Core.Bool.{Bool, true, false, ◌&&◌, ◌||◌, cond}
use mathlib.Core.List.{List, [], ◌∷◌}
use mathlib.Core.Path.{◌≡◌, refl, sym, ◌∙◌, ap}
use native.Mathlib.Omega.{arith}
use lib.Dec.{eqb, ltb}
use lib.ListN.{length, take, drop, length-take, length-drop}
use Rattle.fields.specs.Cut.{split, end_from}
use Rattle.fields.proofs.Parts.{split_cons, end_le, at_last, at_more}
use Rattle.tables.specs.Tables.{Tables}
use Rattle.tables.specs.Answer.{Answer}
use Rattle.std.specs.Prelude.{Ok, Err}
use Rattle.tables.specs.declared.Refusal.{Refusal}
use Rattle.tables.specs.declared.Refusal.TheVariants.{OutOfRange, NotInForm}
use Rattle.house.specs.State.{State}
use Rattle.house.specs.House.{refuse, onward, line_of}
use Rattle.house.specs.Step.{first_reading, refusing, state_of, settled}
use Rattle.house.specs.declared.Reading.{Reading}
use Rattle.house.proofs.Take.{settle_kept}
use Rattle.module_text.specs.Whole.{fresh, started, last_of, lines_of, house, start_of}
use Rattle.module_text.specs.Step.{last_reading}

-- ---- before any line
pub first_settled : (q : Answer) (x : Tables) → settled (state_of (first_reading q) x) ≡ started q (fresh x)
first_settled (Ok _) x = refl
first_settled (Err r) x = refl

-- ---- what follows the last LF
module _ (s : Reading) (x : Tables) (left : ℕ) where
  abbrev ends : Bool
  ends = eqb left 0 && ltb 0 s.lines

  abbrev far : Bool
  far = ltb 65536 (s.bytes + left) || (ltb 65536 s.lines || ltb 4096 s.counts.attributes)

  abbrev ending : Bool → Bool → State
  ending t u = cond t (state_of s x) (cond u (refuse (OutOfRange 0 0) (state_of s x)) (refuse (NotInForm (suc s.lines) 0) (state_of s x)))

  pub last_kept : (q : Refusal) → s.answer ≡ Err q → state_of s x ≡ last_of (state_of s x) left
  last_kept q h = sym (ap (λ (a : Answer). onward a (state_of s x) (ending ends far)) h)

  pub last_settled : s.answer ≡ Ok tt → settled (state_of (last_reading s left) x) ≡ last_of (state_of s x) left
  unfolding last_reading
  last_settled h = by ends far ∙ sym (ap (λ (a : Answer). onward a (state_of s x) (ending ends far)) h)
    where
      by : (t u : Bool) → settled (state_of (cond t s (cond u (refusing (OutOfRange 0 0)) (refusing (NotInForm (suc s.lines) 0)))) x) ≡ ending t u
      by true u = sym (settle_kept s x h)
      by false true = refl
      by false false = refl

-- ---- line by line
some : (s : State) (l : List ℕ) (rest : List ℕ) → lines_of s (l ∷ split 10 rest) ≡ lines_of (line_of s l) (split 10 rest)
unfolding lines_of
some s l rest = rw (split_cons 10 rest).1

pub lines_more : (s : State) (ps : List (List ℕ)) (l rest : List ℕ) → ps ≡ l ∷ split 10 rest → lines_of s ps ≡ lines_of (line_of s l) (split 10 rest)
lines_more s ps l rest e = ap (lines_of s) e ∙ some s l rest

pub lines_last : (s : State) (ps : List (List ℕ)) (l : List ℕ) → ps ≡ l ∷ [] → lines_of s ps ≡ last_of s (length l)
unfolding lines_of
lines_last s ps l e = ap (lines_of s) e

-- a refusal stays, whatever lines follow
stays : (a : Answer) (s next : State) (q : Refusal) → a ≡ Err q → onward a s next ≡ s
stays a s next q h = ap (λ (b : Answer). onward b s next) h

pub lines_kept : (s : State) (q : Refusal) → s.answer ≡ Err q → (ls : List (List ℕ)) → lines_of s ls ≡ s
unfolding lines_of line_of
lines_kept s q h [] = refl
lines_kept s q h (l ∷ []) = stays s.answer s _ q h
lines_kept s q h (l ∷ m ∷ ls) = ap (λ (y : State). lines_of y (m ∷ ls)) (stays s.answer s _ q h) ∙ lines_kept s q h (m ∷ ls)

-- ---- at a cursor p in the text, with the end e of the line there
module _ (text : List ℕ) (p e : ℕ) (h : p ≤ length text) (at : e ≡ end_from 10 p text) (s s' whole : State)
    (inv : lines_of s (split 10 (drop p text)) ≡ whole) where
  pub next_line : e < length text → (line : List ℕ) → line ≡ take (e - p) (drop p text) → s' ≡ line_of s line
      → lines_of s' (split 10 (drop (e + 1) text)) ≡ whole
  next_line k line el es =
      ap (λ (y : State). lines_of y (split 10 (drop (e + 1) text))) (es ∙ ap (line_of s) el)
      ∙ sym (lines_more s (split 10 (drop p text)) (take (e - p) (drop p text)) (drop (e + 1) text) (at_more 10 p e text h at k)) ∙ inv

  pub no_line : length text ≤ e → s' ≡ last_of s (e - p) → s' ≡ whole
  no_line k es =
      let n : length (take (e - p) (drop p text)) ≡ e - p = simp (length-take, length-drop) (omega (arith, end_le 10 p e text h at)) in
      es ∙ ap (last_of s) (sym n)
      ∙ sym (lines_last s (split 10 (drop p text)) (take (e - p) (drop p text)) (at_last 10 p e text h at k)) ∙ inv

pub house_is : (text : List ℕ) (x : Tables) → lines_of (start_of x) (split 10 text) ≡ house text x
unfolding house
house_is text x = refl
