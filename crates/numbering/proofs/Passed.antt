-- What accepted tables give the walk: the stack takes up all that becomes live as it stands, and the lists have room. Assumes nothing.
use Prim.Native.Nat.{ℕ, ◌≤◌}
use native.Mathlib.Omega.{arith}
use mathlib.Core.Path.{◌≡◌, sym, ap, ◌∙◌}
use mathlib.Core.Logic.{⊎_elim}
use mathlib.Core.Bool.{true, false}
use mathlib.Core.List.{List, []}
use lib.ListN.{length, take, drop, replicate, length-map}
use lib.Seq.{take-append_seam}
use Rattle.cells.specs.Lists.{below, count}
use Rattle.cells.proofs.Rows.{lt_or_ge}
use Rattle.tables.specs.Sizes.{max_values, max_entries, max_functions}
use Rattle.tables.specs.Tables.{Tables, functions, arguments}
use Rattle.std.specs.Prelude.{Ok, Err}
use Rattle.std.specs.Result.{is_err}
use Rattle.tables.specs.declared.Refusal.{Refusal}
use Rattle.table_checks.specs.Checks.{table_checks, sheet_checks}
use Rattle.table_checks.proofs.Laws.{passes_1, passes_4}
use Rattle.table_checks.proofs.Reach.{operations_once, blocks_once, regions_once, flat_past}
use Rattle.nesting.specs.Passed.{Apart, Single, all_arguments}
use Rattle.nesting.specs.Numbering.{Listing, fine, refused, numbering}
use Rattle.nesting.proofs.Theorems.{stack_numbering}
use Rattle.scope.specs.Stack.{see_all}
use Rattle.scope.proofs.Laws.{grows}
use Rattle.numbering.specs.Alone.{Numbered, size, sizes, Outcome, outcome, over, handed_over, handed, filled_by, numbering_alone}
use Rattle.numbering.specs.Fill.{Room, Told, entries_numbered}
use Rattle.numbering.proofs.Sizes.{all_fit_lem}

module _ (x : Tables) (e : table_checks x ≡ Ok tt) where
  -- lists of the full sizes have room for all
  pub room : {d s : List ℕ} → x.counts.values ≤ length d → x.counts.values ≤ length s → {numbers lengths : List ℕ} → max_entries ≤ length numbers
      → max_functions ≤ length lengths → Room x d s numbers lengths
  room hd hs hn hl = record {
    dense = hd;
    sparse = hs;
    all = omega (arith, all_fit_lem x e, hn);
    each = omega (arith, (passes_1 x e).functions_whole, (passes_1 x e).functions_fit, hl);
  }

  -- the largest stack has a place for each value
  pub values_fit : x.counts.values ≤ max_values
  values_fit = (passes_1 x e).values_fit

  -- codes 1 and 2
  apart : Apart x
  apart = record { operations = operations_once x e; blocks = blocks_once x e; regions = regions_once x e }

  no_argument : (v : ℕ) → x.counts.values ≤ v → count v (all_arguments x) ≡ 0
  no_argument v g = flat_past v x.counts.values g (arguments x) (passes_1 x e).arguments_below (below x.counts.blocks)

  -- codes 1 and 4
  single : Single x
  single = record {
    in_range = λ v h. ⊎_elim (λ l. l) (λ g. absurd (omega (arith, no_argument v g))) (lt_or_ge v x.counts.values);
    listed_once = (passes_4 x e).arguments;
    not_both = (passes_4 x e).results;
    one_claim = (passes_4 x e).claims;
  }

  pub walk_is : (sheet : List ℕ) → entries_numbered sheet x ≡ numbering sheet x
  walk_is sheet = stack_numbering sheet x apart single (see_all x.counts.values) (grows x.counts.values)

  -- one length for each function
  pub sizes_long : length (sizes x) ≡ x.counts.functions
  sizes_long = length-map (functions x) (size x) ∙ (passes_1 x e).functions_whole

-- ---- after the checks: a refusal leaves both lists all zero

module _ (ns numbers lengths numbers₀ lengths₀ : List ℕ) where
  pub told_kept : {a b : Listing ℕ} (w : Numbered) → Told w a ns numbers lengths numbers₀ lengths₀ → is_err w ≡ false → a ≡ b
      → outcome w numbers lengths ≡ filled_by b ns numbers₀ lengths₀
  told_kept (Ok m) t e eb = rw eb at t
  told_kept (Err why) t e eb = absurd (let z : ◌≡◌ {A = ℕ} 0 1 = cc in omega arith)

  pub told_cleared : {a b : Listing ℕ} (w : Numbered) → Told w a ns numbers lengths numbers₀ lengths₀ → is_err w ≡ true → a ≡ b → {numbers' lengths' : List ℕ}
      → numbers' ≡ replicate (length numbers₀) 0 → lengths' ≡ replicate (length lengths₀) 0 → outcome w numbers' lengths' ≡ filled_by b ns numbers₀ lengths₀
  told_cleared (Ok m) t e eb en el = absurd (let z : ◌≡◌ {A = ℕ} 0 1 = cc in omega arith)
  told_cleared {b = b} (Err why) t e eb en el =
      let q : b ≡ refused why = sym (t ∙ eb) in
      rw (q, en, el)

-- ---- called alone

pub alone_stops : (sheet : List ℕ) (x : Tables) (numbers lengths : List ℕ) {why : Refusal} → sheet_checks sheet x ≡ Err why
    → outcome (Err why) numbers lengths ≡ numbering_alone sheet x numbers lengths
unfolding numbering_alone
alone_stops sheet x numbers lengths e = rw e

pub alone_goes : (sheet : List ℕ) (x : Tables) (numbers lengths : List ℕ) → sheet_checks sheet x ≡ Ok tt
    → handed (numbering sheet x) (sizes x) numbers lengths ≡ numbering_alone sheet x numbers lengths
unfolding numbering_alone
alone_goes sheet x numbers lengths e = rw e

module _ (a : Listing ℕ) (ns all each numbers₀ lengths₀ : List ℕ) {w : Numbered} (numbers lengths : List ℕ) where
  pub refusal_handed : {why : Refusal} → outcome w all each ≡ filled_by a ns numbers₀ lengths₀ → w ≡ Err why → outcome (Err why) numbers lengths ≡ handed a ns numbers lengths
  refusal_handed = go a
    where
      go : (b : Listing ℕ) {why : Refusal} → outcome w all each ≡ filled_by b ns numbers₀ lengths₀ → w ≡ Err why → outcome (Err why) numbers lengths ≡ handed b ns numbers lengths
      go (fine zs) {why} e ew =
          let q : ◌≡◌ {A = Numbered} (Err why) (Ok (length zs)) = sym ew ∙ ap (λ (o : Outcome). o.answer) e in
          absurd (let z : ◌≡◌ {A = ℕ} 0 1 = cc in omega arith)
      go (refused r) {why} e ew =
          let q : ◌≡◌ {A = Numbered} (Err why) (Err r) = sym ew ∙ ap (λ (o : Outcome). o.answer) e in
          let s : why ≡ r = cc in
          rw s

  pub list_handed : {o : Outcome} {m k : ℕ} → outcome w all each ≡ filled_by a ns numbers₀ lengths₀ → w ≡ Ok m → length ns ≡ k
      → ((zs ms : List ℕ) → zs ≡ take m all → length zs ≡ m → ms ≡ take k each → length ms ≡ k → o ≡ handed_over zs ms numbers lengths)
      → o ≡ handed a ns numbers lengths
  list_handed = go a
    where
      go : (b : Listing ℕ) {o : Outcome} {m k : ℕ} → outcome w all each ≡ filled_by b ns numbers₀ lengths₀ → w ≡ Ok m → length ns ≡ k
          → ((zs ms : List ℕ) → zs ≡ take m all → length zs ≡ m → ms ≡ take k each → length ms ≡ k → o ≡ handed_over zs ms numbers lengths)
          → o ≡ handed b ns numbers lengths
      go (refused r) {m = m} e ew ek h =
          let q : ◌≡◌ {A = Numbered} (Ok m) (Err r) = sym ew ∙ ap (λ (o : Outcome). o.answer) e in
          absurd (let z : ◌≡◌ {A = ℕ} 0 1 = cc in omega arith)
      go (fine zs) {m = m} {k = k} e ew ek h =
          let q : ◌≡◌ {A = Numbered} (Ok m) (Ok (length zs)) = sym ew ∙ ap (λ (o : Outcome). o.answer) e in
          let em : length zs ≡ m = cc in
          let ea : all ≡ over zs numbers₀ = ap (λ (o : Outcome). o.numbers) e in
          let ee : each ≡ over ns lengths₀ = ap (λ (o : Outcome). o.lengths) e in
          h zs ns
          (sym (ap (take m) ea ∙ ap (λ (j : ℕ). take j (over zs numbers₀)) (sym em) ∙ take-append_seam zs (drop (length zs) numbers₀))) em
          (sym (ap (take k) ee ∙ ap (λ (j : ℕ). take j (over ns lengths₀)) (sym ek) ∙ take-append_seam ns (drop (length ns) lengths₀))) ek
