-- One operation: its operands judged one by one, and the values of its results taken up one by one. Assumes nothing.
use Prim.Native.Nat.{ℕ, suc, ◌+◌, ◌-◌, ◌<◌, ◌≤◌}
use native.Mathlib.Numerals.{add-one}
use native.Mathlib.Omega.{arith}
use mathlib.Core.Path.{◌≡◌, refl, sym, ap, ◌∙◌}
use mathlib.Core.Bool.{true, false}
use mathlib.Core.Option.{Option, some, none}
use mathlib.Core.List.{List, [], ◌∷◌, ◌++◌}
use lib.ListN.{length, get_or, drop}
use Rattle.cells.specs.Lists.{from, below, flat, mem}
use Rattle.cells.proofs.Parts.{left_step, left_end}
use Rattle.tables.specs.Answer.{Answer}
use Rattle.std.specs.Prelude as std
use Rattle.std.specs.Prelude.{Ok, Err, Some, None}
use Rattle.tables.specs.declared.Refusal.TheVariants.{NotVisible}
use Rattle.values.specs.Claims.{number_of, value_in}
use Rattle.nesting.specs.Live.{to_list}
use Rattle.nesting.specs.Dominance.{judge}
use Rattle.scope.specs.Stack.{see, see_all, Holds}
use Rattle.scope.specs.declared.Live.{Live}

-- ---- operands, k of them passed

module _ (live : List ℕ) (i : ℕ) (vs : List ℕ) (k : ℕ) (a : Answer) (inv : judge live i k (drop k vs) ≡ a) where
  pub judge_more : k < length vs → mem (get_or vs k 0) live ≡ true → judge live i (k + 1) (drop (k + 1) vs) ≡ a
  judge_more h m = rw (add-one k) (rw (left_step vs k 0 h, m, add-one k) at inv)

  pub judge_hidden : k < length vs → mem (get_or vs k 0) live ≡ false → Err (NotVisible i k) ≡ a
  judge_hidden h m = rw (left_step vs k 0 h, m) at inv

  pub judge_end : length vs ≤ k → Ok tt ≡ a
  judge_end h = rw (left_end vs k 0 h) at inv

-- ---- results

-- a result by what the cells hold of it
pub told_none : (number : ℕ) (value : Option ℕ) → value_in number ≡ None → number ≡ number_of value → to_list value ≡ []
told_none number none z e = refl
told_none number (some v) z e = let q : number ≡ suc v = e ∙ add-one v in let y : ◌≡◌ {A = std.Option ℕ} (Some v) None = rw q at z in absurd (let y : ◌≡◌ {A = ℕ} 0 1 = cc in omega arith)

pub told_some : {w : ℕ} (number : ℕ) (value : Option ℕ) → value_in number ≡ Some w → number ≡ number_of value → to_list value ≡ w ∷ []
told_some number none z e = let y : ◌≡◌ {A = std.Option ℕ} None (Some _) = rw e at z in absurd (let y : ◌≡◌ {A = ℕ} 0 1 = cc in omega arith)
told_some {w} number (some v) z e =
    let q : number ≡ suc v = e ∙ add-one v in
    let y : ◌≡◌ {A = std.Option ℕ} (Some v) (Some w) = rw q at z in
    let r : v ≡ w = cc in
    ap (λ (u : ℕ). u ∷ []) r

see_append : (nv : ℕ) (live xs ys : List ℕ) → see_all nv live (xs ++ ys) ≡ see_all nv (see_all nv live xs) ys
see_append nv live [] ys = refl
see_append nv live (x ∷ xs) ys = see_append nv (see nv live x) xs ys

-- k of n lists taken up: something is live now that the rest of them brings to what all of them bring
pub record Taking (nv : ℕ) (g : ℕ → List ℕ) (n : ℕ) (live : List ℕ) {N : ℕ} (stack : Live N) (next k : ℕ) : Type 0 where
  pub now_live : List ℕ
  pub stands : Holds nv stack next now_live
  pub sees : see_all nv now_live (flat g (from k (n - k))) ≡ see_all nv live (flat g (below n))

pub taking_start : {nv : ℕ} {g : ℕ → List ℕ} {n : ℕ} {live : List ℕ} {N : ℕ} {stack : Live N} {next : ℕ} → Holds nv stack next live → Taking nv g n live stack next 0
taking_start {n = n} {live = live} h = record { now_live = live; stands = h; sees = let e : n - 0 ≡ n = omega arith in rw e }

module _ {nv : ℕ} {g : ℕ → List ℕ} {n : ℕ} {live : List ℕ} {N : ℕ} {stack : Live N} {next k : ℕ} (inv : Taking nv g n live stack next k) where
  pub taking_more : {stack' : Live N} {next' : ℕ} → k < n → Holds nv stack' next' (see_all nv inv.now_live (g k)) → Taking nv g n live stack' next' (k + 1)
  taking_more h v =
      let e : n - k ≡ suc (n - (k + 1)) = omega arith in
      record {
        now_live = see_all nv inv.now_live (g k);
        stands = v;
        sees =
            ap (λ (j : ℕ). see_all nv (see_all nv inv.now_live (g k)) (flat g (from j (n - (k + 1))))) (add-one k)
            ∙ sym (see_append nv inv.now_live (g k) (flat g (from (suc k) (n - (k + 1)))))
            ∙ (rw e at inv.sees);
      }

  pub taking_one : {stack' : Live N} {next' v : ℕ} → k < n → g k ≡ v ∷ [] → Holds nv stack' next' (see nv inv.now_live v) → Taking nv g n live stack' next' (k + 1)
  taking_one h e v = taking_more h (rw e v)

  pub taking_skip : k < n → g k ≡ [] → Taking nv g n live stack next (k + 1)
  taking_skip h e = taking_more h (rw e inv.stands)

  pub taking_end : n ≤ k → Holds nv stack next (see_all nv live (flat g (below n)))
  taking_end h =
      let e : n - k ≡ 0 = omega arith in
      let q : inv.now_live ≡ see_all nv live (flat g (below n)) = rw e at inv.sees in
      rw q at inv.stands
