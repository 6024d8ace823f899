-- The parts in turn: the first that refuses answers, and where none does the list is handed over. Assumes nothing.
use Prim.Native.Nat.{ℕ}
use native.Mathlib.Omega.{arith}
use mathlib.Core.Path.{◌≡◌, refl, sym, ap, ◌∙◌}
use mathlib.Core.List.{List, []}
use Rattle.tables.specs.Tables.{Tables, lent}
use Rattle.tables.specs.Answer.{and_then, Answer}
use Rattle.tables.specs.declared.Target.{Target}
use Rattle.std.specs.Prelude.{Ok, Err}
use Rattle.tables.specs.declared.Refusal.{Refusal}
use Rattle.walk.specs.Order.{order}
use Rattle.table_checks.specs.Checks.{target_check, sheet_checks}
use Rattle.nesting.specs.Dominance.{dominance}
use Rattle.nesting.specs.Numbering.{Listing, fine, refused, numbering}
use Rattle.numbering.specs.Alone.{Numbered, Outcome, outcome, sizes, handed, filled_by, after_checks}
use Rattle.capabilities.specs.Ask.{capabilities}
use Rattle.capability_check.proofs.Bare.{bare_order}
use Rattle.rules.specs.Operation.{rules}
use Rattle.rule_check.proofs.Bare.{rules_bare}
use Rattle.full_check.specs.Full.{refusal_of, parts, refusals, full_check}

-- ---- what numbering answered over lists of its own

module _ (ns all each held₁ held₂ : List ℕ) {w : Numbered} where
  pub numbering_stops : (a : Listing ℕ) {why : Refusal} → outcome w all each ≡ filled_by a ns held₁ held₂ → w ≡ Err why → refusal_of a ≡ Err why
  numbering_stops (fine zs) {why} e ew =
      let q : ◌≡◌ {A = Numbered} (Err why) (Ok _) = sym ew ∙ ap (λ (o : Outcome). o.answer) e in
      absurd (let z : ◌≡◌ {A = ℕ} 0 1 = cc in omega arith)
  numbering_stops (refused r) {why} e ew =
      let q : ◌≡◌ {A = Numbered} (Err why) (Err r) = sym ew ∙ ap (λ (o : Outcome). o.answer) e in
      let s : why ≡ r = cc in
      rw s

  pub numbering_goes : (a : Listing ℕ) {m : ℕ} → outcome w all each ≡ filled_by a ns held₁ held₂ → w ≡ Ok m → refusal_of a ≡ Ok tt
  numbering_goes (fine zs) e ew = refl
  numbering_goes (refused r) {m} e ew =
      let q : ◌≡◌ {A = Numbered} (Ok m) (Err r) = sym ew ∙ ap (λ (o : Outcome). o.answer) e in
      absurd (let z : ◌≡◌ {A = ℕ} 0 1 = cc in omega arith)

-- ---- the operations: they read no block, region or function

module _ (g : Target) (sheet : List ℕ) (x : Tables) (is : List ℕ) (e : is ≡ order x) where
  abbrev over_bare : Answer
  over_bare =
      let y = lent x.t x.v x.o x.a [] [] [] x.l x.counts in
      and_then (capabilities g y is) (rules g.version sheet y is)

  abbrev over : Answer
  over = and_then (capabilities g x (order x)) (rules g.version sheet x (order x))

  pub over_is : over_bare ≡ over
  over_is =
      ap (λ (a : Answer). and_then a (rules g.version sheet (lent x.t x.v x.o x.a [] [] [] x.l x.counts) is)) (bare_order g x is (order x) e)
      ∙ ap (and_then (capabilities g x (order x))) (rules_bare g.version sheet x is ∙ ap (rules g.version sheet x) e)

-- ---- in turn

module _ (g : Target) (sheet : List ℕ) (x : Tables) (rest : Outcome) (numbers lengths : List ℕ) where
  pub dominance_stops : {why : Refusal} → dominance x ≡ Err why → outcome (Err why) numbers lengths ≡ after_checks (parts g sheet x) rest numbers lengths
  unfolding parts
  dominance_stops e = rw e

  pub numbers_stop : {why : Refusal} → dominance x ≡ Ok tt → refusal_of (numbering sheet x) ≡ Err why
      → outcome (Err why) numbers lengths ≡ after_checks (parts g sheet x) rest numbers lengths
  unfolding parts
  numbers_stop d e = rw (d, e)

  module _ (d : dominance x ≡ Ok tt) (e : refusal_of (numbering sheet x) ≡ Ok tt) where
    pub over_stops : {why : Refusal} → and_then (capabilities g x (order x)) (rules g.version sheet x (order x)) ≡ Err why
        → outcome (Err why) numbers lengths ≡ after_checks (parts g sheet x) rest numbers lengths
    unfolding parts
    over_stops q = rw (d, e, q)

    pub all_pass : and_then (capabilities g x (order x)) (rules g.version sheet x (order x)) ≡ Ok tt → rest ≡ after_checks (parts g sheet x) rest numbers lengths
    unfolding parts
    all_pass q = rw (d, e, q)

-- ---- the whole

module _ (g : Target) (sheet : List ℕ) (x : Tables) (numbers lengths : List ℕ) where
  pub target_stops : {why : Refusal} → target_check g ≡ Err why → outcome (Err why) numbers lengths ≡ full_check g sheet x numbers lengths
  unfolding full_check refusals
  target_stops e = rw e

  pub checks_stop : {why : Refusal} → target_check g ≡ Ok tt → sheet_checks sheet x ≡ Err why
      → outcome (Err why) numbers lengths ≡ full_check g sheet x numbers lengths
  unfolding full_check refusals
  checks_stop t e = rw (t, e)

  pub checks_pass : target_check g ≡ Ok tt → sheet_checks sheet x ≡ Ok tt
      → after_checks (parts g sheet x) (handed (numbering sheet x) (sizes x) numbers lengths) numbers lengths ≡ full_check g sheet x numbers lengths
  unfolding full_check refusals
  checks_pass t e = rw (t, e)
