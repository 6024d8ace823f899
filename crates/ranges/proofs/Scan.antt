-- A pass over a table, entry by entry: a step, a stop at the first bad entry and the end, for a table with and without lists.
-- Over the table's size, width and tests. Assumes nothing.
use mathlib.Core.Path.{◌≡◌, sym, ap, ◌∙◌}
use mathlib.Core.Bool.{Bool, true, false, ◌&&◌, not, and-eq-true_iff}
use mathlib.Core.Logic.{⊎_elim}
use Prim.Native.Nat.{ℕ, ◌+◌, ◌-◌, ◌^◌, ◌≤◌, ◌<◌, min}
use native.Mathlib.Numerals.{add-one}
use native.Mathlib.Omega.{arith}
use borrow.Author.Tests.{le-leb, lt-leb, leb-true}
use lib.Dec.{leb}
use Rattle.cells.proofs.Rows.{lt_or_ge}
use Rattle.std.specs.Prelude.{Ok, Err}
use Rattle.tables.specs.declared.Refusal.TheVariants.{OutOfRange}
use Rattle.ranges.specs.Range.{sum, room_at, refused}
use Rattle.ranges.specs.Part.{stands_in, first_of, scanned, scan_of}
use Rattle.ranges.specs.declared.Pass.{Pass}
use Rattle.ranges.proofs.Find.{Passed, pass_step, pass_stop, pass_end}

-- an entry that is refused
abbrev pub bad : Pass → (ℕ → Bool) → ℕ → Bool
bad t good i = not (stands_in t i && good i)

-- a table without lists: a and b are what the code's tests said of entry i
module _ (t : Pass) (good : ℕ → Bool) (i : ℕ) (inv : Passed (bad t good) t.count i) where
  module _ (h : i < t.count) (a b : Bool) (ea : a ≡ stands_in t i) (eb : b ≡ good i) where
    told : {v : Bool} → (a && b) ≡ v → bad t good i ≡ not v
    told e = rw (← ea, ← eb, e)

    pub check_step : (a && b) ≡ true → Passed (bad t good) t.count (i + 1)
    check_step e = pass_step (bad t good) t.count i inv h (told e)

    pub check_stop : (a && b) ≡ false → Err (OutOfRange t.table i) ≡ first_of t good
    unfolding first_of
    check_stop e = sym (ap (refused t.table) (pass_stop (bad t good) t.count i inv h (told e)))

  pub check_end : t.count ≤ i → Ok tt ≡ first_of t good
  unfolding first_of
  check_end h = sym (ap (refused t.table) (pass_end (bad t good) t.count i inv h))

-- a table with lists: `used` list entries up to entry i
module _ (t : Pass) (good : ℕ → Bool) (listed : ℕ → ℕ) (before : ℕ) where
  abbrev pub good_with_room : ℕ → Bool
  good_with_room i = good i && room_at before listed i

  abbrev pub Scan : ℕ → ℕ → Type 0
  Scan used i = Passed (bad t good_with_room) t.count i × (used ≡ before + sum listed i)

  module _ (used i : ℕ) (inv : Scan used i) where
    module _ (h : i < t.count) (a b : Bool) (ea : a ≡ stands_in t i) (eb : b ≡ good i)
        (some after : ℕ) (es : some ≡ min (listed i) (2 ^ 64 - 1)) (e : after ≡ min (used + some) 8193) where
      room : leb after 8192 ≡ room_at before listed i
      room = ⊎_elim
          (λ k. lt-leb after 8192 k ∙ sym (lt-leb (before + (sum listed i + listed i)) 8192 (omega arith)))
          (λ k. le-leb after 8192 k ∙ sym (le-leb (before + (sum listed i + listed i)) 8192 (omega arith)))
          (lt_or_ge 8192 after)

      told_room : {v : Bool} → (a && (b && leb after 8192)) ≡ v → bad t good_with_room i ≡ not v
      told_room q = rw (← ea, ← eb, ← room, q)

      pub scan_step : (a && (b && leb after 8192)) ≡ true → Scan after (i + 1)
      scan_step q =
          let t' = ((and-eq-true_iff b (leb after 8192)).0 ((and-eq-true_iff a (b && leb after 8192)).0 q).1).1 in
          let k : after ≤ 8192 = leb-true after 8192 t' in (
            pass_step (bad t good_with_room) t.count i inv.0 h (told_room q),
            rw add-one (omega arith),
          )

      pub scan_stop : (a && (b && leb after 8192)) ≡ false → Err (OutOfRange t.table i) ≡ scan_of t good listed before
      unfolding scan_of
      scan_stop q =
          sym (ap (λ o. scanned t.table o (before + sum listed t.count)) (pass_stop (bad t good_with_room) t.count i inv.0 h (told_room q)))

    pub scan_end : t.count ≤ i → Ok used ≡ scan_of t good listed before
    unfolding scan_of
    scan_end h =
        let e : i ≡ t.count = omega arith in
        sym
        (ap (λ o. scanned t.table o (before + sum listed t.count)) (pass_end (bad t good_with_room) t.count i inv.0 h)
        ∙ ap Ok (ap (λ (k : ℕ). before + sum listed k) (sym e) ∙ sym inv.1))
