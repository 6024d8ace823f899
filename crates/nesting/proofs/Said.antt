-- What the answers of dominance mean: accepted, every operand is visible; refused, the first that is not is named. Assumes nothing.
use Prim.Native.Nat.{ℕ, suc, ◌+◌}
use native.Mathlib.Omega.{arith}
use mathlib.Core.Path.{◌≡◌, refl, ap, sym, ◌∙◌}
use mathlib.Core.Bool.{Bool, true, false, cond}
use mathlib.Core.List.{List, [], ◌∷◌, ◌++◌}
use mathlib.Core.Logic.{◌↔◌}
use lib.ListN.{length}
use Rattle.tables.specs.Tables.{Tables, operands}
use Rattle.tables.specs.Answer.{and_then, each, Answer}
use Rattle.std.specs.Prelude.{Ok, Err}
use Rattle.tables.specs.declared.Refusal.{Refusal}
use Rattle.tables.specs.declared.Refusal.TheVariants.{NotVisible}
use Rattle.nesting.specs.In.{In, here, later}
use Rattle.nesting.specs.Dominance.{dominance}
use Rattle.nesting.specs.Sentence.{Stand, func, under, visible, stands, first_hidden, judged_at, sentence}
use Rattle.nesting.specs.Means.{asked, AllSeen, FirstHidden}
use Rattle.nesting.proofs.Lists.{in_none}
use Rattle.nesting.proofs.Stands.{walk_sentence}

then_both : (a b : Answer) → and_then a b ≡ Ok tt → (a ≡ Ok tt) × (b ≡ Ok tt)
then_both (Ok _) b h = (refl, h)
then_both (Err r) b h = (h, (cc))

each_in : {A : Type 0} (f : A → Answer) {x : A} {xs : List A} → In x xs → each f xs ≡ Ok tt → f x ≡ Ok tt
each_in f {x} (here {xs}) e = (then_both (f x) (each f xs) e).0
each_in f (later {x = y} {xs = ys} m) e = each_in f m (then_both (f y) (each f ys) e).1

in_each : {A : Type 0} (f : A → Answer) (xs : List A) → ((x : A) → In x xs → f x ≡ Ok tt) → each f xs ≡ Ok tt
in_each f [] h = refl
in_each f (y ∷ ys) h = rw (h y here) (in_each f ys (λ x m. h x (later m)))

ask_both : (b : Bool) (a : Answer) (r : Refusal) → cond b a (Err r) ≡ Ok tt → (b ≡ true) × (a ≡ Ok tt)
ask_both true a r h = (refl, h)
ask_both false a r h = ((cc), (cc))

seen_in_lem : (f : ℕ → Bool) (i : ℕ) {v : ℕ} (k : ℕ) {vs : List ℕ} → In v vs → first_hidden f i k vs ≡ Ok tt → f v ≡ true
seen_in_lem f i {v} k (here {xs}) e = (ask_both (f v) (first_hidden f i (suc k) xs) (NotVisible i k) e).0
seen_in_lem f i k (later {x = y} {xs = ys} m) e = seen_in_lem f i (suc k) m (ask_both (f y) (first_hidden f i (suc k) ys) (NotVisible i k) e).1

in_seen : (f : ℕ → Bool) (i k : ℕ) (vs : List ℕ) → ((v : ℕ) → In v vs → f v ≡ true) → first_hidden f i k vs ≡ Ok tt
in_seen f i k [] h = refl
in_seen f i k (x ∷ vs) h = rw (h x here) (in_seen f i (suc k) vs (λ v m. h v (later m)))

-- the first refusal along a list: all before it is accepted
record First {A : Type 0} (f : A → Answer) (xs : List A) (r : Refusal) : Type 0 where
  before : List A
  it : A
  behind : List A
  are : xs ≡ before ++ (it ∷ behind)
  fine : each f before ≡ Ok tt
  says : f it ≡ Err r

each_first : {A : Type 0} (f : A → Answer) (xs : List A) (r : Refusal) → each f xs ≡ Err r → First f xs r
each_first f [] r h = let z : ◌≡◌ {A = ℕ} 0 1 = cc in absurd (omega arith)
each_first f (x ∷ xs) r h = split (f x) refl h (each_first f xs r)
  where
    split : (a : Answer) → f x ≡ a → and_then a (each f xs) ≡ Err r → (each f xs ≡ Err r → First f xs r) → First f (x ∷ xs) r
    split (Ok _) e g ih =
        let w = ih g in
        record { before = x ∷ w.before; it = w.it; behind = w.behind; are = rw w.are; fine = rw e w.fine; says = w.says }
    split (Err s) e g ih = record { before = []; it = x; behind = xs; are = refl; fine = refl; says = e ∙ g }

-- the same for operands
record Hidden (f : ℕ → Bool) (i k : ℕ) (vs : List ℕ) (r : Refusal) : Type 0 where
  left : List ℕ
  value : ℕ
  right : List ℕ
  are : vs ≡ left ++ (value ∷ right)
  seen : first_hidden f i k left ≡ Ok tt
  unseen : f value ≡ false
  named : r ≡ NotVisible i (k + length left)

hidden_first : (f : ℕ → Bool) (i k : ℕ) (vs : List ℕ) (r : Refusal) → first_hidden f i k vs ≡ Err r → Hidden f i k vs r
hidden_first f i k [] r h = let z : ◌≡◌ {A = ℕ} 0 1 = cc in absurd (omega arith)
hidden_first f i k (x ∷ vs) r h = split (f x) refl h (hidden_first f i (suc k) vs r)
  where
    split : (b : Bool) → f x ≡ b → cond b (first_hidden f i (suc k) vs) (Err (NotVisible i k)) ≡ Err r
        → (first_hidden f i (suc k) vs ≡ Err r → Hidden f i (suc k) vs r) → Hidden f i k (x ∷ vs) r
    split true e g ih =
        let w = ih g in
        let q : suc k + length w.left ≡ k + suc (length w.left) = omega arith in
        record {
          left = x ∷ w.left;
          value = w.value;
          right = w.right;
          are = rw w.are;
          seen = rw e w.seen;
          unseen = w.unseen;
          named = w.named ∙ ap (NotVisible i) q;
        }
    split false e g ih =
        let q : k ≡ k + 0 = omega arith in
        let s : NotVisible i k ≡ r = cc in
        record { left = []; value = x; right = vs; are = refl; seen = refl; unseen = e; named = sym s ∙ ap (NotVisible i) q }

module _ (x : Tables) where
  judged_seen : (p : Stand) → judged_at x p ≡ Ok tt → (v : ℕ) → In v (asked x p) → visible x p v ≡ true
  judged_seen (func f) h v m = in_none m
  judged_seen (under p j es i) h v m = seen_in_lem (visible x (under p j es i)) i 0 m h

  seen_judged : (p : Stand) → ((v : ℕ) → In v (asked x p) → visible x p v ≡ true) → judged_at x p ≡ Ok tt
  seen_judged (func f) h = refl
  seen_judged (under p j es i) h = in_seen (visible x (under p j es i)) i 0 (operands x i) h

  pub accepted_is : (dominance x ≡ Ok tt) ↔ AllSeen x (stands x)
  unfolding sentence
  accepted_is = (
    λ h p m. judged_seen p (each_in (judged_at x) m (sym (walk_sentence x) ∙ h)),
    λ h. walk_sentence x ∙ in_each (judged_at x) (stands x) (λ p m. seen_judged p (h p m)),
  )

  hidden_at : (r : Refusal) (ps : List Stand) (p : Stand) (qs : List Stand)
      → stands x ≡ ps ++ (p ∷ qs) → each (judged_at x) ps ≡ Ok tt → judged_at x p ≡ Err r → FirstHidden x r
  hidden_at r ps (func f) qs at fine h = let z : ◌≡◌ {A = ℕ} 0 1 = cc in absurd (omega arith)
  hidden_at r ps (under p j es i) qs at fine h =
      let w = hidden_first (visible x (under p j es i)) i 0 (operands x i) r h in
      let q : 0 + length w.left ≡ length w.left = omega arith in
      record {
        before = ps;
        stand = under p j es i;
        behind = qs;
        stands_are = at;
        seen_before = λ s m. judged_seen s (each_in (judged_at x) m fine);
        left = w.left;
        value = w.value;
        right = w.right;
        operands_are = w.are;
        seen_left = λ v m. seen_in_lem (visible x (under p j es i)) i 0 m w.seen;
        not_visible = w.unseen;
        named = w.named ∙ ap (NotVisible i) q;
      }

  pub refused_is : (r : Refusal) → dominance x ≡ Err r → FirstHidden x r
  unfolding sentence
  refused_is r h =
      let w = each_first (judged_at x) (stands x) r (sym (walk_sentence x) ∙ h) in
      hidden_at r w.before w.it w.behind w.are w.fine w.says
