-- Where dominance accepts, no operand of the entry walks lacks a number. Assumes nothing.
use Prim.Native.Nat.{ℕ, suc}
use native.Mathlib.Omega.{arith}
use mathlib.Core.Path.{◌≡◌, refl, ap, sym, ◌∙◌, subst}
use mathlib.Core.Bool.{Bool, true, false}
use mathlib.Core.Logic.{◌⊎◌, inl, inr, ⊎_elim}
use mathlib.Core.Option.{Option, some, none}
use mathlib.Core.List.{List, [], ◌∷◌}
use lib.ListN.{length}
use lib.Dec.{eqb}
use Rattle.cells.specs.Lists.{below}
use Rattle.tables.specs.Tables.{Tables, opcode, operands, result_types}
use Rattle.tables.specs.Sheet.{fixed_count_in}
use Rattle.std.specs.Prelude as std
use Rattle.std.specs.Prelude.{Ok, Some, None}
use Rattle.tables.specs.declared.Place.{Place}
use Rattle.tables.specs.declared.Place.TheVariants.{Result}
use Rattle.tables.specs.declared.Refusal.{Refusal}
use Rattle.tables.specs.declared.Refusal.TheVariants.{NoNumber, ResultCount, NoValue}
use Rattle.nesting.specs.In.{In, here, later}
use Rattle.nesting.specs.Shape.{Visit, entries_visits}
use Rattle.nesting.specs.Live.{nesting_of, placed, value_at}
use Rattle.nesting.specs.Dominance.{dominance}
use Rattle.nesting.specs.Numbering.{Listing, fine, refused, join, collect, found, there, number, look, counted, values_there, numbers_at, numbering}
use Rattle.nesting.specs.Means.{given}
use Rattle.nesting.proofs.Said.{accepted_is}
use Rattle.nesting.proofs.Visible.{numbered}

join_refused : {A : Type 0} (a b : Listing A) (r : Refusal) → join a b ≡ refused r → (a ≡ refused r) ⊎ (b ≡ refused r)
join_refused (refused q) b r e = inl e
join_refused (fine xs) (refused q) r e = inr e
join_refused (fine xs) (fine ys) r e = let z : ◌≡◌ {A = ℕ} 0 1 = cc in absurd (omega arith)

collect_refused : {X A : Type 0} (f : X → Listing A) (xs : List X) (r : Refusal) → collect f xs ≡ refused r
    → (x : X) × In x xs × (f x ≡ refused r)
collect_refused f [] r e = let z : ◌≡◌ {A = ℕ} 0 1 = cc in absurd (omega arith)
collect_refused f (x ∷ xs) r e =
    ⊎_elim (λ p. (x, here, p)) (λ p. let w = collect_refused f xs r p in (w.0, later w.1, w.2)) (join_refused (f x) (collect f xs) r e)

look_refused : (x : Tables) (live : List Place) (i k : ℕ) (vs : List ℕ) (r : Refusal) → look x live i k vs ≡ refused r
    → (v : ℕ) × In v vs × (number x v live ≡ none)
look_refused x live i k [] r e = let z : ◌≡◌ {A = ℕ} 0 1 = cc in absurd (omega arith)
look_refused x live i k (v ∷ vs) r e =
    ⊎_elim (λ p. (v, here, not_found (number x v live) p))
    (λ p. let w = look_refused x live i (suc k) vs r p in (w.0, later w.1, w.2))
    (join_refused (found (number x v live) (NoNumber i k)) (look x live i (suc k) vs) r e)
  where
    not_found : (o : Option ℕ) → found o (NoNumber i k) ≡ refused r → o ≡ none
    not_found none p = refl
    not_found (some n) p = let z : ◌≡◌ {A = ℕ} 0 1 = cc in absurd (omega arith)

count_refused : (c : std.Option ℕ) (i n : ℕ) (r : Refusal) → counted c i n ≡ refused r → r ≡ ResultCount i n
count_refused None i n r e = let z : ◌≡◌ {A = ℕ} 0 1 = cc in absurd (omega arith)
count_refused (Some m) i n r e = go (eqb m n) refl
  where
    go : (b : Bool) → eqb m n ≡ b → r ≡ ResultCount i n
    go true q = let z : ◌≡◌ {A = Listing ℕ} (fine []) (refused r) = rw q at e in let y : ◌≡◌ {A = ℕ} 0 1 = cc in absurd (omega arith)
    go false q = let z : ◌≡◌ {A = Listing ℕ} (refused (ResultCount i n)) (refused r) = rw q at e in cc

there_refused : {A : Type 0} (o : Option A) (q r : Refusal) → there o q ≡ refused r → r ≡ q
there_refused none q r e = cc
there_refused (some a) q r e = let z : ◌≡◌ {A = ℕ} 0 1 = cc in absurd (omega arith)

-- of what an operation is asked, only its operands are refused for want of a number
only_operands : (sheet : List ℕ) (x : Tables) (u : Visit Place) (i k : ℕ) → numbers_at sheet x u ≡ refused (NoNumber i k)
    → look x u.live u.op 0 (operands x u.op) ≡ refused (NoNumber i k)
unfolding numbers_at
only_operands sheet x u i k e =
    let fixed = fixed_count_in sheet (opcode x u.op) in
    let n = length (result_types x u.op) in
    ⊎_elim (λ p. p)
    (λ p. ⊎_elim
    (λ q.
    let z = count_refused fixed u.op n (NoNumber i k) q in
    let y : ◌≡◌ {A = ℕ} 0 1 = cc in
    absurd (omega arith))
    (λ q.
    let w = collect_refused (λ (m : ℕ). there (value_at x (Result u.op m)) (NoValue u.op m)) (below n) (NoNumber i k) q in
    let z = there_refused (value_at x (Result u.op w.0)) (NoValue u.op w.0) (NoNumber i k) w.2 in
    let y : ◌≡◌ {A = ℕ} 0 1 = cc in
    absurd (omega arith))
    (join_refused (counted fixed u.op n) (values_there x u.op) (NoNumber i k) p))
    (join_refused (look x u.live u.op 0 (operands x u.op)) _ (NoNumber i k) e)

pub accepted_numbered : (sheet : List ℕ) (x : Tables) → dominance x ≡ Ok tt → (i k : ℕ) → numbering sheet x ≡ refused (NoNumber i k) → ⊥
unfolding numbering
accepted_numbered sheet x a i k e =
    let w = collect_refused (numbers_at sheet x) (entries_visits (placed (nesting_of x))) (NoNumber i k) e in
    let n = numbered x w.0 w.1 in
    let l = look_refused x w.0.live w.0.op 0 (operands x w.0.op) (NoNumber i k) (only_operands sheet x w.0 i k w.2) in
    let m : In l.0 (operands x w.0.op) = l.1 in
    let s = (accepted_is x).0 a n.stand n.reached l.0 (subst (In l.0) (sym n.operands_are) m) in
    let f : given (number x l.0 w.0.live) ≡ false = ap given l.2 in
    let c : ◌≡◌ {A = Bool} true false = sym s ∙ n.exactly l.0 ∙ f in
    let z : ◌≡◌ {A = ℕ} 0 1 = cc in
    omega arith
