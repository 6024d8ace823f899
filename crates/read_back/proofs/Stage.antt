-- Numbers read one after the other: one number, a run of operands, and one walk after the other. Assumes nothing.
use Prim.Native.Nat.{ℕ, suc, ◌+◌, ◌-◌, ◌≤◌, ◌<◌}
use native.Mathlib.Numerals.{add-one}
use native.Mathlib.Omega.{arith}
use mathlib.Core.Path.{◌≡◌, refl, ap, ◌∙◌}
use mathlib.Core.Option.{some, none}
use Rattle.nesting.specs.Live.{nth}
use mathlib.Core.List.{List, [], ◌∷◌, ◌++◌, map}
use lib.ListN.{length, get_or}
use borrow.Author.Tests.{lt-ltb, le-ltb}
use Rattle.cells.specs.Lists.{from, below}
use Rattle.tables.specs.Answer.{and_then, Answer}
use Rattle.tables.specs.declared.Place.{Place}
use Rattle.std.specs.Prelude.{Ok, Err}
use Rattle.std.specs.Result.{result_and}
use Rattle.tables.specs.declared.Refusal.TheVariants.{NotReadable}
use Rattle.ranges.proofs.Find.{from_step, from_end}
use Rattle.nesting.specs.ReadBack.{Use}
use Rattle.read_back.specs.Stage.{Stage, staged, put_place, read_next, read_all, use_of, Went}
use Rattle.read_back.specs.declared.Reading.{Reading}

pub read_append : (numbers : List ℕ) (s : Stage) (us vs : List Use) → read_all numbers s (us ++ vs) ≡ read_all numbers (read_all numbers s us) vs
read_append numbers s [] vs = refl
read_append numbers s (u ∷ us) vs = read_append numbers (read_next numbers u.live u.op (suc u.index) s) us vs

-- the first refusal of two
pub first_stays : (a b : Answer) → result_and a b ≡ and_then a b
first_stays (Ok _) b = refl
first_stays (Err r) b = refl

-- the next number, as the code reads it
module _ (numbers held : List ℕ) (w : Reading) (i place : ℕ) where
  pub none_left : length numbers ≤ w.at
      → Went (record { live = w.live; at = w.at; answer = Err (NotReadable 0 0) }) held w.live (read_next numbers w.live i place (staged w held))
  unfolding read_next
  none_left h = record { lives = refl; reached = rw (le-ltb w.at (length numbers) h) }

  module _ (h : w.at < length numbers) where
    pub not_readable : nth w.live (get_or numbers w.at 0) ≡ none → (a : Answer) → a ≡ and_then w.answer (Err (NotReadable i place))
        → Went (record { live = w.live; at = w.at + 1; answer = a }) held w.live (read_next numbers w.live i place (staged w held))
    unfolding read_next
    not_readable l a q = record { lives = refl; reached = rw (lt-ltb w.at (length numbers) h, l, q) }

    pub readable : (p : Place) → nth w.live (get_or numbers w.at 0) ≡ some p → (held' : List ℕ) → held' ≡ put_place held w.at p
        → Went (record { live = w.live; at = w.at + 1; answer = w.answer }) held' w.live (read_next numbers w.live i place (staged w held))
    unfolding read_next
    readable p l held' q = record { lives = refl; reached = rw (lt-ltb w.at (length numbers) h, l, q) }

-- ---- the operands of operation i, k of them read

pub record Running (numbers : List ℕ) (i count : ℕ) (live : List Place) (s : Stage) (w : Reading) (held : List ℕ) (k : ℕ) : Type 0 where
  pub lives : w.live ≡ live
  pub left : read_all numbers (staged w held) (map (use_of i live) (from k (count - k))) ≡ read_all numbers s (map (use_of i live) (below count))

module _ (numbers : List ℕ) (i count : ℕ) (w : Reading) (held : List ℕ) where
  pub running_start : Running numbers i count w.live (staged w held) w held 0
  running_start =
      let e : count - 0 ≡ count = omega arith in
      record { lives = refl; left = ap (λ (n : ℕ). read_all numbers (staged w held) (map (use_of i w.live) (from 0 n))) e }

module _ {numbers : List ℕ} {i count : ℕ} {live : List Place} {s : Stage} {w : Reading} {held : List ℕ} {k : ℕ}
    (inv : Running numbers i count live s w held k) where
  pub running_step : {w' : Reading} {held' : List ℕ} → k < count → Went w' held' w.live (read_next numbers w.live i (k + 1) (staged w held))
      → Running numbers i count live s w' held' (k + 1)
  running_step h v =
      let r = v.reached
      ∙ ap (λ (l : List Place). read_next numbers l i (k + 1) (staged w held)) inv.lives
      ∙ ap (λ (place : ℕ). read_next numbers live i place (staged w held)) (add-one k) in
      record {
        lives = v.lives ∙ inv.lives;
        left =
            ap (λ (z : Stage). read_all numbers z (map (use_of i live) (from (k + 1) (count - (k + 1))))) r
            ∙ (rw (from_step count k h) at inv.left);
      }

  pub running_end : count ≤ k → Went w held live (read_all numbers s (map (use_of i live) (below count)))
  running_end h = record { lives = inv.lives; reached = rw (from_end count k h) at inv.left }
