-- One operation: its operands looked up one by one, its count compared, and the values of its results taken up one by one. Assumes nothing.
use Prim.Native.Nat.{ℕ, suc, ◌+◌, ◌-◌, ◌<◌, ◌≤◌}
use native.Mathlib.Numerals.{add-one}
use native.Mathlib.Omega.{arith}
use mathlib.Core.Path.{◌≡◌, refl, sym, ap, ◌∙◌}
use mathlib.Core.Option.{Option, some, none}
use mathlib.Core.List.{List, [], ◌∷◌, ◌++◌}
use lib.ListN.{length, get_or, drop}
use Rattle.cells.specs.Lists.{from, below, flat}
use Rattle.cells.proofs.Parts.{left_step, left_end}
use Rattle.tables.specs.Place.{position_from}
use Rattle.tables.specs.Tables.{Tables, operands, result_types}
use Rattle.tables.specs.Value.{value_of}
use Rattle.std.specs.Prelude as std
use Rattle.std.specs.Prelude.{Ok, Err, Some, None}
use Rattle.tables.specs.declared.Refusal.{Refusal}
use Rattle.tables.specs.declared.Refusal.TheVariants.{NoNumber, NoValue}
use Rattle.values.specs.Claims.{number_of, value_in}
use Rattle.walk.specs.Written.{Filled, filled, push, push_all}
use Rattle.walk.proofs.Filling.{push_all_append}
use Rattle.nesting.specs.Live.{to_list, value_at}
use Rattle.nesting.specs.Numbering.{Listing, fine, refused, join, collect, there, values_there}
use Rattle.nesting.specs.Direct.{look_up}
use Rattle.scope.specs.Stack.{see, see_all, Shows}
use Rattle.scope.specs.declared.Scope.{Scope}
use Rattle.numbering_walk.specs.Walk.{Visited, Went, compared, asked}
use Rattle.numbering_walk.specs.declared.Walked.{Walked}
use Rattle.numbering_walk.proofs.Walks.{join_nil, join_more, join_none, went_after, wrote_is, fine_is, stops_is}

-- ---- operands, k of them looked up

pub record Looking (live : List ℕ) (i : ℕ) (vs : List ℕ) (p : Filled) (held : List ℕ) (done k : ℕ) : Type 0 where
  pub list : List ℕ
  pub wrote : filled held done ≡ push_all p list
  pub said : join (fine list) (look_up live i k (drop k vs)) ≡ look_up live i 0 vs

pub look_start : {live : List ℕ} {i : ℕ} {vs held : List ℕ} {done : ℕ} → Looking live i vs (filled held done) held done 0
look_start = record { list = []; wrote = refl; said = join_nil _ }

module _ {live : List ℕ} {i : ℕ} {vs : List ℕ} {p : Filled} {held : List ℕ} {done k : ℕ} (inv : Looking live i vs p held done k) where
  pub look_more : {held' : List ℕ} {done' m : ℕ} → k < length vs → position_from 0 (get_or vs k 0) live ≡ some m
      → filled held' done' ≡ push (filled held done) m → Looking live i vs p held' done' (k + 1)
  look_more {m = m} h e w = record {
    list = inv.list ++ (m ∷ []);
    wrote = w ∙ ap (λ (q : Filled). push q m) inv.wrote ∙ sym (push_all_append p inv.list (m ∷ []));
    said =
        rw (add-one k)
        (join_more inv.list (m ∷ []) (look_up live i (suc k) (drop (suc k) vs)) ∙ (rw (left_step vs k 0 h, e, add-one k) at inv.said));
  }

  pub look_stop : k < length vs → position_from 0 (get_or vs k 0) live ≡ none → refused (NoNumber i k) ≡ look_up live i 0 vs
  look_stop h e = rw (left_step vs k 0 h, e) at inv.said

  pub look_end : {u : Scope} {nv : ℕ} {d s : List ℕ} → length vs ≤ k → Shows nv d s u.next live
      → Went (Ok (record { scope = u; done = done })) nv d s live held p (look_up live i 0 vs)
  look_end h g = record {
    list = inv.list;
    answer = sym (join_none inv.list) ∙ (rw (left_end vs k 0 h) at inv.said);
    stands = g;
    wrote = inv.wrote;
  }

-- ---- results

-- a result by what the cells hold of it
pub told_none : (number : ℕ) (value : Option ℕ) → value_in number ≡ None → number ≡ number_of value → value ≡ none
told_none number none z e = refl
told_none number (some v) z e = let q : number ≡ suc v = e ∙ add-one v in let y : ◌≡◌ {A = std.Option ℕ} (Some v) None = rw q at z in absurd (let y : ◌≡◌ {A = ℕ} 0 1 = cc in omega arith)

pub told_some : {w : ℕ} (number : ℕ) (value : Option ℕ) → value_in number ≡ Some w → number ≡ number_of value → value ≡ some w
told_some number none z e = let y : ◌≡◌ {A = std.Option ℕ} None (Some _) = rw e at z in absurd (let y : ◌≡◌ {A = ℕ} 0 1 = cc in omega arith)
told_some {w} number (some v) z e =
    let q : number ≡ suc v = e ∙ add-one v in
    let y : ◌≡◌ {A = std.Option ℕ} (Some v) (Some w) = rw q at z in
    let r : v ≡ w = cc in
    ap some r

see_append : (nv : ℕ) (live xs ys : List ℕ) → see_all nv live (xs ++ ys) ≡ see_all nv (see_all nv live xs) ys
see_append nv live [] ys = refl
see_append nv live (x ∷ xs) ys = see_append nv (see nv live x) xs ys

abbrev pub values_of : (ℕ → Option ℕ) → List ℕ → List ℕ
values_of h ks = flat (λ k. to_list (h k)) ks

abbrev pub all_there : (ℕ → Option ℕ) → ℕ → List ℕ → Listing ℕ
all_there h i ks = collect (λ k. there (h k) (NoValue i k)) ks

-- k of n results taken up: something is live now that the rest of them brings to what all of them bring, and none is missing yet
pub record Taking (nv : ℕ) (h : ℕ → Option ℕ) (i n : ℕ) (live d s : List ℕ) (next k : ℕ) : Type 0 where
  pub now_live : List ℕ
  pub stands : Shows nv d s next now_live
  pub sees : see_all nv now_live (values_of h (from k (n - k))) ≡ see_all nv live (values_of h (below n))
  pub said : all_there h i (from k (n - k)) ≡ all_there h i (below n)

pub taking_start : {nv : ℕ} {h : ℕ → Option ℕ} {i n : ℕ} {live d s : List ℕ} {next : ℕ} → Shows nv d s next live → Taking nv h i n live d s next 0
taking_start {n = n} {live = live} g = let e : n - 0 ≡ n = omega arith in record { now_live = live; stands = g; sees = rw e; said = rw e }

module _ {nv : ℕ} {h : ℕ → Option ℕ} {i n : ℕ} {live d s : List ℕ} {next k : ℕ} (inv : Taking nv h i n live d s next k) (l : k < n) where
  more : n - k ≡ suc (n - (k + 1))
  more = omega arith

  pub taking_more : {d' s' : List ℕ} {next' v : ℕ} → h k ≡ some v → Shows nv d' s' next' (see nv inv.now_live v) → Taking nv h i n live d' s' next' (k + 1)
  taking_more {v = v} e g =
      let one : to_list (h k) ≡ v ∷ [] = rw e in
      record {
        now_live = see nv inv.now_live v;
        stands = g;
        sees =
            ap (λ (j : ℕ). see_all nv (see nv inv.now_live v) (values_of h (from j (n - (k + 1))))) (add-one k)
            ∙ sym (see_append nv inv.now_live (v ∷ []) (values_of h (from (suc k) (n - (k + 1)))))
            ∙ (rw (more, one) at inv.sees);
        said =
            ap (λ (j : ℕ). all_there h i (from j (n - (k + 1)))) (add-one k)
            ∙ sym (join_nil (all_there h i (from (suc k) (n - (k + 1)))))
            ∙ (rw (more, e) at inv.said);
      }

  pub taking_stop : h k ≡ none → refused (NoValue i k) ≡ all_there h i (below n)
  taking_stop e = rw (more, e) at inv.said

module _ {nv : ℕ} {h : ℕ → Option ℕ} {i n : ℕ} {live d s : List ℕ} {k : ℕ} {u : Scope} (inv : Taking nv h i n live d s u.next k) where
  pub taking_end : {held : List ℕ} {done : ℕ} → n ≤ k → Went (Ok (record { scope = u; done = done })) nv d s (see_all nv live (values_of h (below n))) held (filled held done) (all_there h i (below n))
  taking_end g =
      let e : n - k ≡ 0 = omega arith in
      let q : inv.now_live ≡ see_all nv live (values_of h (below n)) = rw e at inv.sees in
      record {
        list = [];
        answer = rw e at inv.said;
        stands = rw q at inv.stands;
        wrote = refl;
      }

module _ (x : Tables) (i : ℕ) where
  pub there_is : all_there (value_of x i) i (below (length (result_types x i))) ≡ values_there x i
  unfolding value_at
  there_is = refl

-- ---- all of an operation

module _ (sheet : List ℕ) (x : Tables) (i : ℕ) (live : List ℕ) {w : Visited} {nv : ℕ} {d s l₁ held : List ℕ} {p : Filled} {vs : List ℕ}
    (ev : vs ≡ operands x i) (v : Went w nv d s l₁ held p (look_up live i 0 vs)) where
  pub open_stops : {why : Refusal} → w ≡ Err why → refused why ≡ asked sheet x i live
  unfolding asked
  open_stops {why} e = let q : look_up live i 0 (operands x i) ≡ refused why = ap (look_up live i 0) (sym ev) ∙ stops_is v e in rw q

  module _ {u : Walked} (e : w ≡ Ok u) where
    looked : look_up live i 0 (operands x i) ≡ fine v.list
    looked = ap (look_up live i 0) (sym ev) ∙ fine_is v e

    pub count_stops : {why : Refusal} → refused why ≡ compared sheet x i → refused why ≡ asked sheet x i live
    unfolding asked
    count_stops {why} q = rw (looked, ← q)

    pub open_goes : {w' : Visited} {d₂ s₂ l₂ : List ℕ} → fine [] ≡ compared sheet x i → Went w' nv d₂ s₂ l₂ held (filled held u.done) (values_there x i)
        → Went w' nv d₂ s₂ l₂ held p (asked sheet x i live)
    unfolding asked
    open_goes q v' = went_after v.list (wrote_is v e) looked (went_after [] refl (sym q) v')
