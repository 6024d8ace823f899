-- The lines one after another: every state that is not refused holds what its lines said. Assumes nothing.
use Prim.Native.Nat.{ℕ}
use mathlib.Core.Bool.{Bool, true, false}
use mathlib.Core.List.{List, [], ◌∷◌}
use mathlib.Core.Path.{◌≡◌, refl}
use native.Mathlib.Omega.{arith}
use lib.Dec.{leb}
use lib.ListN.{length}
use borrow.Author.Tests.{leb-true}
use Rattle.fields.specs.Cut.{split}
use Rattle.tables.specs.Tables.{Tables}
use Rattle.tables.specs.Answer.{Answer}
use Rattle.std.specs.Prelude.{Ok, Err}
use Rattle.stores.proofs.Stores.{impossible}
use Rattle.house.specs.State.{State}
use Rattle.house.specs.House.{line_of}
use Rattle.module_text.specs.Whole.{full_size, room, room_in, fresh, started, start_of, last_of, lines_of, house}
use Rattle.reading.proofs.Said.{type_said_lem, value_said_lem, operation_said, attribute_said}
use Rattle.reading.proofs.Cases.{line_cases, last_cases}
use Rattle.reading.proofs.Held.{Held, none_added, type_held, value_held, function_held, operation_held, attribute_held, block_held, region_held}

-- a state that is not refused
abbrev pub Kept : State → Type 0
Kept s = s.answer ≡ Ok tt → Held s.entries s.tables

pub one_line : (s : State) (line : List ℕ) → Kept s → Kept (line_of s line)
one_line s line h =
    line_cases (λ (z : State). Held z.entries z.tables) s line
    (λ e. record {
      on_header = λ w _ q p. h e;
      on_type = λ w _ q p k d. none_added s.entries _ (type_held s.entries s.tables (h e) w (type_said_lem (split 9 line) w q) k d);
      on_value = λ w _ q p k. none_added s.entries _ (value_held s.entries s.tables (h e) w (value_said_lem (split 9 line) w q) k);
      on_operation = λ w _ q p k m. operation_held s.entries s.tables (h e) w (operation_said (split 9 line) w q) k m;
      on_attribute = λ w _ q p k m. attribute_held s.entries s.tables (h e) w (attribute_said (split 9 line) w q) k m;
      on_block = λ w _ q p k m. block_held s.entries s.tables (h e) w k m;
      on_region = λ w _ q p k m. region_held s.entries s.tables (h e) w k m;
      on_function = λ i _ q p k. none_added s.entries _ (function_held s.entries s.tables (h e) i k);
    })

last_line : (s : State) (left : ℕ) → Kept s → Kept (last_of s left)
last_line s left h = last_cases (λ (z : State). Held z.entries z.tables) s left (λ e _. h e)

all_lines : (s : State) (ls : List (List ℕ)) → Kept s → Kept (lines_of s ls)
unfolding lines_of
all_lines s [] h = h
all_lines s (l ∷ []) h = last_line s (length l) h
all_lines s (l ∷ m ∷ ls) h = all_lines (line_of s l) (m ∷ ls) (one_line s l h)

-- ---- the start: every slice is of full size

full : (t : Bool) (size : ℕ) (rest : Answer) → full_size t size rest ≡ Ok tt → (t ≡ true) × (rest ≡ Ok tt)
full true size rest e = (refl, e)
full false size rest e = impossible (cc)

fresh_held : (x : Tables) → room_in x ≡ Ok tt → Held 0 (fresh x).tables
unfolding room
fresh_held x e =
    let t = full (leb 16384 (length x.t)) 1024 _ e in
    let v = full (leb 16384 (length x.v)) 4096 _ t.1 in
    let o = full (leb 32768 (length x.o)) 2048 _ v.1 in
    let a = full (leb 32768 (length x.a)) 4096 _ o.1 in
    let b = full (leb 2048 (length x.b)) 512 _ a.1 in
    let r = full (leb 1024 (length x.r)) 512 _ b.1 in
    let f = full (leb 64 (length x.f)) 64 _ r.1 in
    let l = full (leb 8192 (length x.l)) 8192 _ f.1 in
    record {
      t = record { fits = omega arith; long = leb-true 16384 (length x.t) t.0; rows = λ i k. absurd (omega arith) };
      v = record { fits = omega arith; long = leb-true 16384 (length x.v) v.0; rows = λ i k. absurd (omega arith) };
      o = record { fits = omega arith; long = leb-true 32768 (length x.o) o.0; rows = λ i k. absurd (omega arith) };
      a = record { fits = omega arith; long = leb-true 32768 (length x.a) a.0; rows = λ i k. absurd (omega arith) };
      b = record { fits = omega arith; long = leb-true 2048 (length x.b) b.0; rows = λ i k. absurd (omega arith) };
      r = record { fits = omega arith; long = leb-true 1024 (length x.r) r.0; rows = λ i k. absurd (omega arith) };
      f = record { fits = omega arith; long = leb-true 64 (length x.f) f.0; rows = λ i k. tt };
      l = leb-true 8192 (length x.l) l.0;
      fits = omega arith;
      listed = omega arith;
    }

pub start_kept : (x : Tables) → Kept (start_of x)
start_kept x = by (room_in x) refl
  where
    by : (q : Answer) → room_in x ≡ q → Kept (started q (fresh x))
    by (Ok _) e = λ a. fresh_held x e
    by (Err r) e = λ a. impossible (cc)

pub house_kept : (text : List ℕ) (x : Tables) → Kept (house text x)
unfolding house
house_kept text x = all_lines (start_of x) (split 10 text) (start_kept x)
