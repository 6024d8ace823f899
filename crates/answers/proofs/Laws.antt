-- What an exported function leaves in its lent slices, from what its parts say.
use Prim.Native.Nat.{ℕ}
use mathlib.Core.Path.{◌≡◌, sym, ap, ◌∙◌}
use mathlib.Core.List.{List}
use Rattle.tables.specs.Tables.{Tables, lent}
use Rattle.tables.specs.Answer.{Answer}
use Rattle.tables.specs.declared.Counts.{Counts}
use Rattle.tables.specs.declared.Numbers.{Numbers}
use Rattle.house.specs.State.{State}
use Rattle.numbering.specs.Alone.{Outcome}
use Rattle.answers.specs.Noted.{told, noted, header_noted, counts_noted}

-- numbers that are noted are those of what they tell
pub noted_as : (out : List ℕ) {after : List ℕ} {k n : Numbers} → after ≡ noted k out → k ≡ n → after ≡ noted n out
noted_as out e q = e ∙ ap (λ (m : Numbers). noted m out) q

-- ---- a check d, asked under counts that were read from a slice

pub answer_noted : (d : Counts → Answer) (out : List ℕ) {after : List ℕ} {a : Answer} {m n : Counts}
    → after ≡ noted (told a) out → a ≡ d m → m ≡ n → after ≡ noted (told (d n)) out
answer_noted d out e q h = e ∙ ap (λ (b : Answer). noted (told b) out) (q ∙ ap d h)

-- an outcome with its two lists
pub outcome_left : (d : Counts → Outcome) (out : List ℕ) {after : List ℕ} {w : Outcome} {m n : Counts}
    → w ≡ d m → m ≡ n → after ≡ noted (told w.answer) out
    → (w.numbers ≡ (d n).numbers) × ((w.lengths ≡ (d n).lengths) × (after ≡ noted (told (d n).answer) out))
outcome_left d out {w = w} {n = n} q h e =
    let z : w ≡ d n = q ∙ ap d h in (
      ap (λ (v : Outcome). v.numbers) z,
      (ap (λ (v : Outcome). v.lengths) z, e ∙ ap (λ (v : Outcome). noted (told v.answer) out) z),
    )

-- ---- a reading s that is w: the tables cell by cell under the counts that it gives, and what is noted of it

pub left_as_read : (x y : Tables) → x ≡ y → lent x.t x.v x.o x.a x.b x.r x.f x.l y.counts ≡ y
left_as_read x y e =
    ap (λ (m : Counts). lent x.t x.v x.o x.a x.b x.r x.f x.l m) (sym (ap (λ (z : Tables). z.counts) e)) ∙ e

pub reading_left : (header counts answer : List ℕ) {s w : State} {h n a : List ℕ} → s ≡ w
    → h ≡ header_noted s.version s.sm header → n ≡ counts_noted s.tables.counts counts → a ≡ noted (told s.answer) answer
    → (lent s.tables.t s.tables.v s.tables.o s.tables.a s.tables.b s.tables.r s.tables.f s.tables.l w.tables.counts ≡ w.tables)
    × ((h ≡ header_noted w.version w.sm header) × ((n ≡ counts_noted w.tables.counts counts) × (a ≡ noted (told w.answer) answer)))
reading_left header counts answer {s} {w} e h n a = (
  left_as_read s.tables w.tables (ap (λ (z : State). z.tables) e),
  (
    h ∙ ap (λ (z : State). header_noted z.version z.sm header) e,
    (
      n ∙ ap (λ (z : State). counts_noted z.tables.counts counts) e,
      a ∙ ap (λ (z : State). noted (told z.answer) answer) e,
    ),
  ),
)
