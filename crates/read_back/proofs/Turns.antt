-- Where the checks of the nesting accept, the stack has room; and from the checks to the answer and the list. Assumes nothing.
use Prim.Native.Nat.{ℕ, ◌*◌, ◌≤◌, ◌<◌}
use native.Mathlib.Omega.{arith}
use mathlib.Core.Path.{◌≡◌, ap, sym, ◌∙◌}
use mathlib.Core.List.{List, ◌++◌}
use lib.ListN.{length, drop}
use borrow.Author.Tests.{eq-eqb, ne_eqb, le-leb, lt-leb}
use Rattle.cells.specs.Lists.{flat}
use Rattle.tables.specs.Tables.{Tables}
use Rattle.tables.specs.declared.Place.{Place}
use Rattle.tables.specs.Answer.{Answer}
use Rattle.std.specs.Prelude.{Ok, Err}
use Rattle.tables.specs.declared.Refusal.{Refusal}
use Rattle.tables.specs.declared.Refusal.TheVariants.{TooShort, NotReadable}
use Rattle.nesting.specs.Live.{placed}
use Rattle.nesting.specs.Numbering.{Listing}
use Rattle.nesting.specs.ReadBack.{Use, uses, read_back}
use Rattle.nesting.proofs.Walked.{entry_in}
use Rattle.nesting_check.specs.Checks.{nesting_checks}
use Rattle.read_back.specs.Alone.{spanned, three_of, Outcome, outcome, written, after_checks, read_back_alone}
use Rattle.read_back.specs.Stage.{staged, start, read_all, judged, judged_all, entries_uses}
use Rattle.read_back.specs.declared.Reading.{Reading}
use Rattle.nesting_check.proofs.Turns.{passed}
use Rattle.read_back.proofs.Room.{room_at}
use Rattle.read_back.proofs.Whole.{entries_uses_lem, answer_of, read_for, answer_is, Reads, refused_is, accepted_is, written_is}

-- ---- where they accept

uses_are : (x : Tables) → nesting_checks x ≡ Ok tt → entries_uses x ≡ uses (spanned x)
uses_are x e =
    let p = passed x e in
    entries_uses_lem x (λ u h. room_at x p.0 p.1 u (entry_in (placed (spanned x)) u h))

-- ---- what is said at the end of the walks

module _ (x : Tables) (numbers held held' : List ℕ) (w : Reading) (e : staged w held' ≡ read_all numbers (start held) (entries_uses x)) where
  pub count_wrong : (w.at ≡ length numbers → ⊥) → outcome (Err (NotReadable 0 0)) held' ≡ judged_all x numbers held
  unfolding judged_all
  count_wrong f =
      sym (ap (λ b. outcome b held') (rw (ne_eqb w.at (length numbers) f))) ∙ ap (judged (length numbers)) e

  pub count_right : w.at ≡ length numbers → outcome w.answer held' ≡ judged_all x numbers held
  unfolding judged_all
  count_right f =
      sym (ap (λ b. outcome b held') (rw (eq-eqb w.at (length numbers) f))) ∙ ap (judged (length numbers)) e

-- ---- the whole

module _ (x : Tables) (numbers held : List ℕ) (a : Answer) (e : a ≡ nesting_checks x) where
  pub checks_stop : {r : Refusal} → a ≡ Err r → outcome (Err r) held ≡ read_back_alone x numbers held
  unfolding read_back_alone
  checks_stop q = ap (λ b. after_checks b (written (read_back (spanned x) numbers) held) held) (sym q ∙ e)

  module _ (p : a ≡ Ok tt) where
    read_alone : written (read_for (uses (spanned x)) numbers) held ≡ read_back_alone x numbers held
    unfolding read_back_alone read_back
    read_alone = ap (λ b. after_checks b (written (read_for (uses (spanned x)) numbers) held) held) (sym p ∙ e)

    same_uses : entries_uses x ≡ uses (spanned x)
    same_uses = uses_are x (sym e ∙ p)

    -- what the walks said, of any list lent to them
    said : (h : List ℕ) {b : Answer} {h' : List ℕ} → outcome b h' ≡ judged_all x numbers h → b ≡ answer_of (read_for (uses (spanned x)) numbers)
    unfolding judged_all
    said h f =
        ap (λ (o : Outcome). o.answer) f
        ∙ answer_is numbers (entries_uses x) h
        ∙ ap (λ (us : List Use). answer_of (read_for us numbers)) same_uses

    module _ (h : List ℕ) {b : Answer} {h' : List ℕ} (f : outcome b h' ≡ judged_all x numbers h) where
      pub judged_stop : {r : Refusal} → b ≡ Err r → outcome (Err r) held ≡ read_back_alone x numbers held
      judged_stop {r} q =
          sym (ap (λ (l : Listing Place). written l held) (refused_is (uses (spanned x)) numbers r (sym (said h f) ∙ q))) ∙ read_alone

      module _ (q : b ≡ Ok tt) where
        reads : (ps : List Place) × Reads (uses (spanned x)) numbers ps
        reads = accepted_is (uses (spanned x)) numbers (sym (said h f) ∙ q)

        pub short_stop : length held < 3 * length numbers → outcome (Err (TooShort (3 * length numbers))) held ≡ read_back_alone x numbers held
        short_stop l =
            let ps = reads.0 in
            let r = reads.1 in
            let n : 3 * length numbers ≡ length (flat three_of ps) = sym r.needed in
            ap (λ (k : ℕ). outcome (Err (TooShort k)) held) n
            ∙ sym (rw (lt-leb (length (flat three_of ps)) (length held) (omega arith)))
            ∙ sym (ap (λ (l : Listing Place). written l held) r.are)
            ∙ read_alone

        pub whole_read : 3 * length numbers ≤ length held → {c : Answer} {held' : List ℕ} → outcome c held' ≡ judged_all x numbers held
            → outcome c held' ≡ read_back_alone x numbers held
        unfolding judged_all
        whole_read l {c} {held'} g =
            let ps = reads.0 in
            let r = reads.1 in
            let zs = flat three_of ps in
            let n : length zs ≡ 3 * length numbers = r.needed in
            let w : held' ≡ zs ++ drop (length zs) held =
            ap (λ (o : Outcome). o.list) g
            ∙ ap (λ (us : List Use). (read_all numbers (start held) us).held) same_uses
            ∙ written_is (uses (spanned x)) numbers ps held r l in
            let k : c ≡ (Ok tt) = said held g ∙ sym (said h f) ∙ q in
            ap (λ (b : Answer). outcome b held') k
            ∙ ap (λ (z : List ℕ). outcome (Ok tt) z) w
            ∙ sym (rw (le-leb (length zs) (length held) (omega arith)))
            ∙ sym (ap (λ (l : Listing Place). written l held) r.are)
            ∙ read_alone
