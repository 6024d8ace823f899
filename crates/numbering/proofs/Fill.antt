-- Function after function: the numbers are written one list behind the other, and how many each function has goes to its own list.
-- Assumes nothing.
use Prim.Native.Nat.{ℕ, zero, suc, ◌+◌, ◌-◌, ◌<◌, ◌≤◌}
use native.Mathlib.Omega.{arith}
use mathlib.Core.Path.{◌≡◌, refl, sym, ap, ◌∙◌, subst}
use mathlib.Core.List.{List, [], ◌∷◌, ◌++◌, map}
use lib.ListN.{length, get_or, set, drop, length-append, length-map}
use Rattle.cells.proofs.Parts.{left_step, left_end, Copied, copy_start, copy_step, copy_all}
use Rattle.tables.specs.Tables.{Tables, functions}
use Rattle.tables.specs.declared.Refusal.{Refusal}
use Rattle.walk.specs.Written.{Filled, filled, push_all}
use Rattle.walk.specs.Total.{total}
use Rattle.walk.proofs.Filling.{push_all_append, all_written}
use Rattle.walk.proofs.Laws.{written_whole}
use Rattle.nesting.specs.Live.{valued}
use Rattle.nesting.specs.Numbering.{Listing, fine, refused, join}
use Rattle.nesting.specs.Ask.{listings, all, fold_entry, fold_entries}
use Rattle.numbering.specs.Alone.{outcome, over, filled_by}
use Rattle.numbering_walk.specs.Walk.{function_numbered}
use Rattle.numbering.specs.Fill.{entries_numbered}
use Rattle.std.specs.Prelude.{Ok}
use Rattle.numbering_walk.proofs.Walks.{join_nil, join_more, join_none}
use Rattle.numbering.proofs.Handed.{copied_is}

-- i of the functions fs are passed
pub record Filling (f : ℕ → Listing ℕ) (size : ℕ → ℕ) (fs numbers₀ lengths₀ numbers lengths : List ℕ) (done i : ℕ) : Type 0 where
  pub list : List ℕ
  pub wrote : filled numbers done ≡ push_all (filled numbers₀ 0) list
  pub said : join (fine list) (all listings f (drop i fs)) ≡ all listings f fs
  pub spent : length list + total size (drop i fs) ≡ total size fs
  pub each : Copied (map size fs) lengths₀ i lengths

pub filling_start : {f : ℕ → Listing ℕ} {size : ℕ → ℕ} {fs numbers lengths : List ℕ} → Filling f size fs numbers lengths numbers lengths 0 0
filling_start {f} {size} {fs} {lengths = lengths} = record {
  list = [];
  wrote = refl;
  said = join_nil (all listings f fs);
  spent = omega arith;
  each = copy_start (map size fs) lengths;
}

map_at : (size : ℕ → ℕ) (fs : List ℕ) (i : ℕ) → i < length fs → get_or (map size fs) i 0 ≡ size (get_or fs i 0)
map_at size [] i h = absurd (omega arith)
map_at size (f ∷ fs) zero h = refl
map_at size (f ∷ fs) (suc i) h = map_at size fs i (omega arith)

-- from the front, where there is room
whole : (held zs : List ℕ) → length zs ≤ length held → push_all (filled held 0) zs ≡ filled (over zs held) (length zs)
whole held zs h = all_written held zs ∙ written_whole held zs h

module _ {f : ℕ → Listing ℕ} {size : ℕ → ℕ} {fs numbers₀ lengths₀ numbers lengths : List ℕ} {done i : ℕ}
    (inv : Filling f size fs numbers₀ lengths₀ numbers lengths done i) where
  pub filling_stop : {why : Refusal} → i < length fs → f (get_or fs i 0) ≡ refused why → refused why ≡ all listings f fs
  filling_stop h e = rw (left_step fs i 0 h, e) at inv.said

  module _ (room : total size fs ≤ length numbers₀) (few : length fs ≤ length lengths₀) where
    pub done_is : done ≡ length inv.list
    done_is = ap (λ (p : Filled). p.used) (inv.wrote ∙ whole numbers₀ inv.list (omega (arith, inv.spent)))

    held_is : numbers ≡ over inv.list numbers₀
    held_is = ap (λ (p : Filled). p.held) (inv.wrote ∙ whole numbers₀ inv.list (omega (arith, inv.spent)))

    pub filling_end : length fs ≤ i → outcome (Ok done) numbers lengths ≡ filled_by (all listings f fs) (map size fs) numbers₀ lengths₀
    filling_end h =
        let q : all listings f fs ≡ fine inv.list = sym (sym (join_none inv.list) ∙ (rw (left_end fs i 0 h) at inv.said)) in
        let l : lengths ≡ over (map size fs) lengths₀ =
        copy_all (map size fs) lengths₀ i lengths inv.each (omega (arith, length-map fs size))
        ∙ copied_is (map size fs) lengths₀ (omega (arith, length-map fs size)) in
        rw (q, done_is, held_is, l)

    -- a turn: the function at i has the numbers ys
    module _ (h : i < length fs) {ys numbers' : List ℕ} {used : ℕ} (e : f (get_or fs i 0) ≡ fine ys) (s : length ys ≡ size (get_or fs i 0))
        (w : filled numbers' used ≡ push_all (filled numbers done) ys) where
      more : filled numbers' used ≡ push_all (filled numbers₀ 0) (inv.list ++ ys)
      more = w ∙ ap (λ (p : Filled). push_all p ys) inv.wrote ∙ sym (push_all_append (filled numbers₀ 0) inv.list ys)

      left : total size (drop i fs) ≡ size (get_or fs i 0) + total size (drop (i + 1) fs)
      left = ap (total size) (left_step fs i 0 h)

      now_spent : length (inv.list ++ ys) + total size (drop (i + 1) fs) ≡ total size fs
      now_spent = omega (arith, length-append inv.list ys, left, s, inv.spent)

      used_is : used ≡ length (inv.list ++ ys)
      used_is = ap (λ (p : Filled). p.used) (more ∙ whole numbers₀ (inv.list ++ ys) (omega (arith, now_spent)))

      pub filling_more : {y : ℕ} {lengths' : List ℕ} → y ≡ used - done → lengths' ≡ set lengths i y
          → Filling f size fs numbers₀ lengths₀ numbers' lengths' used (i + 1)
      filling_more {y} {lengths'} ey el =
          let q : y ≡ get_or (map size fs) i 0 = omega (arith, ey, used_is, done_is, s, map_at size fs i h, length-append inv.list ys) in
          record {
            list = inv.list ++ ys;
            wrote = more;
            said = join_more inv.list ys (all listings f (drop (i + 1) fs)) ∙ (rw (left_step fs i 0 h, e) at inv.said);
            spent = now_spent;
            each =
                subst (Copied (map size fs) lengths₀ (i + 1)) (sym (el ∙ ap (set lengths i) q))
                (copy_step (map size fs) lengths₀ i lengths inv.each (omega (arith, length-map fs size)) (omega (arith, inv.each.0)));
          }

pub entries_are : (sheet : List ℕ) (x : Tables) → all listings (function_numbered sheet x) (functions x) ≡ entries_numbered sheet x
unfolding fold_entries fold_entry valued
entries_are sheet x = refl
