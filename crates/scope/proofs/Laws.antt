-- What becomes live and is rolled back: values that fit are taken up as they stand, and what was live before is still at the front.
-- Assumes nothing.
use Prim.Native.Nat.{ℕ, zero, suc, ◌+◌, ◌<◌, ◌≤◌}
use native.Mathlib.Numerals.{add-one}
use native.Mathlib.Omega.{arith}
use mathlib.Core.Path.{◌≡◌, refl, sym, ap, ◌∙◌, subst}
use mathlib.Core.Bool.{Bool, true, false, cond, ◌||◌}
use mathlib.Core.Option.{some}
use mathlib.Core.List.{List, [], ◌∷◌, ◌++◌, append_assoc, append-nil}
use lib.ListN.{length, take, get_or, replicate, length-append, length-replicate}
use lib.Seq.{take_at, take-take, length-take-le}
use lib.Dec.{eqb, ltb}
use borrow.Author.Tests.{eq-eqb, lt-ltb}
use Rattle.cells.specs.Lists.{count, mem}
use Rattle.tables.specs.Place.{position_from}
use Rattle.nesting.specs.In.{here}
use Rattle.nesting.specs.Fits.{Fits}
use Rattle.nesting.specs.Means.{given}
use Rattle.nesting.proofs.Lists.{in_right}
use Rattle.nesting.proofs.Counts.{count_append}
use Rattle.std.specs.Prelude as std
use Rattle.std.specs.Prelude.{Some, None}
use Rattle.std.specs.Option.{is_some}
use Rattle.scope.specs.Stack.{see, see_all, Shows, Holds, number_in}
use Rattle.scope.specs.declared.Live.{Live}

-- ---- the test of being live, as a count and as a position

pub mem_count : (v : ℕ) (xs : List ℕ) → mem v xs ≡ false → count v xs ≡ 0
mem_count v [] e = refl
mem_count v (x ∷ xs) e = go (eqb x v) refl (mem_count v xs)
  where
    go : (t : Bool) → eqb x v ≡ t → (mem v xs ≡ false → count v xs ≡ 0) → count v (x ∷ xs) ≡ 0
    go true q h = let z : ◌≡◌ true false = rw q at e in absurd (let y : ◌≡◌ {A = ℕ} 0 1 = cc in omega arith)
    go false q h = rw q (omega (arith, h (rw q at e)))

pub count_mem : (v : ℕ) (xs : List ℕ) → count v xs ≡ 0 → mem v xs ≡ false
count_mem v [] e = refl
count_mem v (x ∷ xs) e = go (eqb x v) refl (count_mem v xs)
  where
    go : (t : Bool) → eqb x v ≡ t → (count v xs ≡ 0 → mem v xs ≡ false) → mem v (x ∷ xs) ≡ false
    go true q h = let z : 1 + count v xs ≡ 0 = rw q at e in absurd (omega arith)
    go false q h = let z : 0 + count v xs ≡ 0 = rw q at e in rw q (h (omega arith))

pub some_given : (k : std.Option ℕ) → is_some k ≡ given (number_in k)
some_given (Some k) = refl
some_given None = refl

pub mem_position : (v s : ℕ) (xs : List ℕ) → given (position_from s v xs) ≡ mem v xs
mem_position v s [] = refl
mem_position v s (x ∷ xs) = go (eqb x v) (mem_position v (suc s) xs)
  where
    go : (t : Bool) → given (position_from (suc s) v xs) ≡ mem v xs → given (cond t (some s) (position_from (suc s) v xs)) ≡ t || mem v xs
    go true h = refl
    go false h = h

-- ---- what fits is taken up as it stands

see_fits : (nv : ℕ) (live : List ℕ) (v : ℕ) (more : List ℕ) → Fits nv (live ++ (v ∷ more)) → see nv live v ≡ live ++ (v ∷ [])
see_fits nv live v more f =
    let a : v < nv = f.values v (in_right live here) in
    let b : count v (v ∷ more) ≡ 1 + count v more = rw (eq-eqb v v refl) in
    let c : count v live ≡ 0 = omega (arith, f.once v, count_append v live (v ∷ more)) in
    rw (lt-ltb v nv a, count_mem v live c)

pub grows : (nv : ℕ) (live more : List ℕ) → Fits nv (live ++ more) → see_all nv live more ≡ live ++ more
grows nv live [] f = sym (append-nil live)
grows nv live (v ∷ more) f =
    let e : live ++ (v ∷ more) ≡ (live ++ (v ∷ [])) ++ more = sym (append_assoc live (v ∷ []) more) in
    ap (λ (xs : List ℕ). see_all nv xs more) (see_fits nv live v more f)
    ∙ grows nv (live ++ (v ∷ [])) more (subst (Fits nv) e f)
    ∙ sym e

-- value after value
pub see_next : (nv : ℕ) (live vs : List ℕ) (i : ℕ) → i < length vs → see_all nv live (take (i + 1) vs) ≡ see nv (see_all nv live (take i vs)) (get_or vs i 0)
see_next nv live [] i h = absurd (omega arith)
see_next nv live (v ∷ vs) zero h = refl
see_next nv live (v ∷ vs) (suc i) h =
    rw (add-one (suc i)) (rw (add-one i) at (see_next nv (see nv live v) vs i (omega arith)))

-- ---- what was live stays at the front

pub record Begins (a b : List ℕ) : Type 0 where
  pub more : List ℕ
  pub is : b ≡ a ++ more

pub begins_same : (a : List ℕ) → Begins a a
begins_same a = record { more = []; is = sym (append-nil a) }

pub begins_on : {a b c : List ℕ} → Begins a b → Begins b c → Begins a c
begins_on {a} p q = record {
  more = p.more ++ q.more;
  is = q.is ∙ ap (λ (x : List ℕ). x ++ q.more) p.is ∙ append_assoc a p.more q.more;
}

begins_see : (nv : ℕ) (live : List ℕ) (v : ℕ) → Begins live (see nv live v)
begins_see nv live v = go (ltb v nv) (mem v live)
  where
    go : (s t : Bool) → Begins live (cond s (cond t live (live ++ (v ∷ []))) live)
    go true true = begins_same live
    go true false = record { more = v ∷ []; is = refl }
    go false t = begins_same live

pub begins_all : (nv : ℕ) (live more : List ℕ) → Begins live (see_all nv live more)
begins_all nv live [] = begins_same live
begins_all nv live (v ∷ more) = begins_on (begins_see nv live v) (begins_all nv (see nv live v) more)

-- ---- the stack

-- an empty stack on any arrays with room
pub shows_none : (nv : ℕ) (d s : List ℕ) → nv ≤ length d → nv ≤ length s → Shows nv d s 0 []
shows_none nv d s hd hs = record {
  stack = record { dense_room = hd; sparse_room = hs; fits = omega arith; inside = λ k h. absurd (omega arith); back = λ k h. absurd (omega arith) };
  shows = refl;
}

pub shows_count : {nv : ℕ} {d s : List ℕ} {n : ℕ} {live : List ℕ} → Shows nv d s n live → length live ≡ n
shows_count {d = d} {n = n} h =
    ap length (sym h.shows) ∙ length-take-le n d (omega (arith, h.stack.fits, h.stack.dense_room))

-- rolled back to a count at which something was live that is still at the front
pub rolled : {nv : ℕ} {d s d₀ s₀ : List ℕ} {n n₀ : ℕ} {live live₀ : List ℕ}
    → Shows nv d s n live → Begins live₀ live → Shows nv d₀ s₀ n₀ live₀ → Shows nv d s n₀ live₀
rolled {d = d} {n = n} {n₀ = n₀} {live = live} {live₀ = live₀} h p h₀ =
    let long : n₀ ≤ n = omega (arith, shows_count h, shows_count h₀, ap length p.is, length-append live₀ p.more) in
    record {
      stack = record {
        dense_room = h.stack.dense_room;
        sparse_room = h.stack.sparse_room;
        fits = omega (arith, h.stack.fits, long);
        inside = λ k l. h.stack.inside k (omega (arith, long));
        back = λ k l. h.stack.back k (omega (arith, long));
      };
      shows = sym (take-take n₀ n d long) ∙ ap (take n₀) (h.shows ∙ p.is) ∙ take_at live₀ p.more n₀ (shows_count h₀);
    }

-- ---- the stack as one value

-- a new stack holds nothing, and has room where there are no more values than places
pub holds_none : {N : ℕ} (nv : ℕ) (stack : Live N) → stack.values ≡ nv → nv ≤ length stack.dense → nv ≤ length stack.sparse → Holds nv stack 0 []
holds_none nv stack e hd hs = record { count = e; shown = shows_none nv stack.dense stack.sparse hd hs }

pub holds_new : {N nv values : ℕ} {stack : Live N} → stack ≡ record { dense = replicate N 0; sparse = replicate N 0; values = values } → values ≡ nv → values ≤ N
    → Holds nv stack 0 []
holds_new {N} {nv} {values} e q h =
    let room : nv ≤ length {A = ℕ} (replicate N 0) = omega (arith, length-replicate {A = ℕ} N 0, q, h) in
    rw e (holds_none nv (record { dense = replicate N 0; sparse = replicate N 0; values = values }) q room room)

-- what is live may be forgotten
pub holds_clear : {nv N : ℕ} {stack : Live N} {n : ℕ} {live : List ℕ} → Holds nv stack n live → Holds nv stack 0 []
holds_clear {nv} {stack = stack} h = holds_none nv stack h.count h.shown.stack.dense_room h.shown.stack.sparse_room

pub holds_back : {nv N : ℕ} {stack stack₀ : Live N} {n n₀ : ℕ} {live live₀ : List ℕ}
    → Holds nv stack n live → Begins live₀ live → Holds nv stack₀ n₀ live₀ → Holds nv stack n₀ live₀
holds_back h p h₀ = record { count = h.count; shown = rolled h.shown p h₀.shown }

-- what the stack's own cells show after a step, the stack shows
pub holds_by : {nv N : ℕ} {stack stack' : Live N} {n n' : ℕ} {live : List ℕ} (seen : ℕ → List ℕ) → stack'.values ≡ stack.values → Holds nv stack n live
    → (Shows stack.values stack.dense stack.sparse n live → Shows stack.values stack'.dense stack'.sparse n' (seen stack.values))
    → Holds nv stack' n' (seen nv)
holds_by {stack = stack} {stack' = stack'} {n = n} {n' = n'} {live = live} seen e h step = record {
  count = e ∙ h.count;
  shown =
      subst (λ (m : ℕ). Shows m stack'.dense stack'.sparse n' (seen m)) h.count
      (step (subst (λ (m : ℕ). Shows m stack.dense stack.sparse n live) (sym h.count) h.shown));
}
