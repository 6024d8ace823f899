-- The ways through the check over texts: the sheet is refused, the module is refused, or both are read and asked.
use Prim.Native.Nat.{ℕ, ◌≤◌}
use mathlib.Core.Path.{◌≡◌, refl, sym, ◌∙◌, ap}
use native.Mathlib.Omega.{arith}
use mathlib.Core.List.{List}
use Rattle.tables.specs.Tables.{Tables}
use Rattle.tables.specs.Answer.{numbers_of, Answer}
use Rattle.std.specs.Prelude.{Ok, Err}
use Rattle.tables.specs.declared.Refusal.{Refusal}
use Rattle.tables.specs.declared.Refusal.TheVariants.{OutOfRange, ListedTwice, TooDeep, DefinedTwice, NotVisible, ResultCount, NoValue, NoNumber, VersionLow, ArchitectureNot, RuleBroken, ProductLeaves, TooShort, NotReadable, NotInForm, NoTarget}
use Rattle.lines.specs.Into.{Left, left}
use Rattle.sheet.specs.Sheet.{read_sheet}
use Rattle.house.specs.State.{State}
use Rattle.module_text.specs.Whole.{house}
use Rattle.numbering.specs.Alone.{Outcome, outcome}
use Rattle.full_check.specs.Full.{full_check}
use Rattle.text_check.specs.Texts.{in_sheet, sheet_said, texts, slices, target, checked, after_sheet, texts_check}
use Rattle.text_check.proofs.Low.{sheet_low}

-- ---- a refusal of the sheet that is none of its text's form

pub other_told : (why : Refusal) → ((line field : ℕ) → why ≡ NotInForm line field → ⊥) → why ≡ in_sheet why
unfolding in_sheet
other_told (OutOfRange table entry) h = refl
other_told (ListedTwice id list) h = refl
other_told (TooDeep operation) h = refl
other_told (DefinedTwice value) h = refl
other_told (NotVisible operation operand) h = refl
other_told (ResultCount operation count) h = refl
other_told (NoValue operation result) h = refl
other_told (NoNumber operation operand) h = refl
other_told (VersionLow operation feature) h = refl
other_told (ArchitectureNot operation feature) h = refl
other_told (RuleBroken operation reason) h = refl
other_told (ProductLeaves operation) h = refl
other_told (TooShort needed) h = refl
other_told (NotReadable operation place) h = refl
other_told (NotInForm line field) h = absurd (h line field refl)
other_told NoTarget h = refl

-- ---- what was read

module _ (s : State) (sheet numbers lengths : List ℕ) where
  pub read_stops : {why : Refusal} → s.answer ≡ Err why → outcome (Err why) numbers lengths ≡ checked s sheet numbers lengths
  unfolding checked
  read_stops e = rw e

  pub read_asked : s.answer ≡ Ok tt → full_check (target s) sheet s.tables numbers lengths ≡ checked s sheet numbers lengths
  unfolding checked
  read_asked e = rw e

-- ---- the sheet's text, where its reading answered `a` and left `after`

module _ (text sheet : List ℕ) {a : Answer} {after : List ℕ} (e : left a after ≡ read_sheet text sheet) where
  pub refused_low : {why : Refusal} → a ≡ Err why → (numbers_of why).code ≡ 15 → (numbers_of why).detail ≤ 3
  refused_low {why} q = sheet_low text sheet why (sym (ap (λ (w : Left Answer). w.answer) e) ∙ q)

  pub said_of : (b : Answer) → a ≡ b → sheet_said b ≡ sheet_said (read_sheet text sheet).answer
  said_of b q = ap sheet_said (sym q ∙ ap (λ (w : Left Answer). w.answer) e)

  pub left_of : after ≡ (read_sheet text sheet).entries
  left_of = ap (λ (w : Left Answer). w.entries) e

-- ---- both texts, where the sheet was told as `a`

module _ (sheet_text text : List ℕ) (x : Tables) (sheet numbers lengths : List ℕ) {a : Answer} {after : List ℕ}
    (e : a ≡ sheet_said (read_sheet sheet_text sheet).answer) (f : after ≡ (read_sheet sheet_text sheet).entries) where
  pub sheet_stops : {told : Refusal} → a ≡ Err told
      → texts (outcome (Err told) numbers lengths) x after ≡ texts_check sheet_text text x sheet numbers lengths
  unfolding texts_check
  sheet_stops {told} q = rw f (by (read_sheet sheet_text sheet).answer (sym q ∙ e))
    where
      entries : List ℕ
      entries = (read_sheet sheet_text sheet).entries

      by : (b : Answer) → Err told ≡ sheet_said b → texts (outcome (Err told) numbers lengths) x entries ≡ after_sheet b entries (house text x) x numbers lengths
      by (Err r) z = let k : told ≡ in_sheet r = cc in rw k
      by (Ok _) z = absurd (let k : ◌≡◌ {A = ℕ} 0 1 = cc in omega arith)

  pub both_read : {s : State} {said : Outcome} → a ≡ Ok tt → s ≡ house text x → said ≡ checked s after numbers lengths
      → texts said (slices s.tables) after ≡ texts_check sheet_text text x sheet numbers lengths
  unfolding texts_check
  both_read {s} {said} q m c =
      ap (λ (o : Outcome). texts o (slices s.tables) after) c
      ∙ rw (f, m) (by (read_sheet sheet_text sheet).answer (sym q ∙ e))
    where
      entries : List ℕ
      entries = (read_sheet sheet_text sheet).entries

      y : State
      y = house text x

      by : (b : Answer) → Ok tt ≡ sheet_said b → texts (checked y entries numbers lengths) (slices y.tables) entries ≡ after_sheet b entries y x numbers lengths
      by (Err r) z = absurd (let k : ◌≡◌ {A = ℕ} 0 1 = cc in omega arith)
      by (Ok _) z = refl
