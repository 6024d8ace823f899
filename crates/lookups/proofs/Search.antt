-- Where an operation's attributes end; and a search along numbers that follow each other is the library's along a range. Assumes nothing.
use Prim.Native.Nat.{ℕ, zero, suc, ◌+◌, ◌≤◌, ◌<◌}
use native.Mathlib.Numerals.{add-one}
use native.Mathlib.Omega.{arith}
use mathlib.Core.Path.{◌≡◌, refl, ap}
use mathlib.Core.List.{List}
use mathlib.Core.Bool.{Bool, true, false, cond}
use mathlib.Core.Option.{some}
use mathlib.Core.Option.{Option as Searched}
use Rattle.std.specs.Prelude.{Option, Some, None, option_map}
use Rattle.std.specs.List.{find as found_in, range_with_len}
use Rattle.cells.specs.Lists.{from, find}
use Rattle.cells.specs.declared.Span.{Span}
use Rattle.tables.specs.Layout.{attributes_in}
use Rattle.tables.specs.declared.Counts.{Counts}
use Rattle.lookups.specs.Lookup.{entered}

-- they end where the attributes do, or before
pub ends : (o : List ℕ) (n : Counts) (i : ℕ) (s : Span) → s ≡ attributes_in o n i → 0 < s.len → s.start + s.len ≤ n.attributes
unfolding attributes_in
ends o n i s e h =
    let start = ap (λ (r : Span). r.start) e in
    let len = ap (λ (r : Span). r.len) e in
    omega arith

pub same : (r : Option ℕ) → option_map (λ (k : ℕ). k) r ≡ r
same None = refl
same (Some k) = refl

chosen : (b : Bool) (k : ℕ) {r : Option ℕ} (q : Searched ℕ) → r ≡ entered q → cond b (Some k) r ≡ entered (cond b (some k) q)
chosen true k q e = refl
chosen false k q e = e

pub along : (p : ℕ → Bool) (k n : ℕ) → found_in p (range_with_len k n) ≡ entered (find p (from k n))
along p k zero = refl
along p k (suc n) = chosen (p k) k (find p (from (suc k) n)) (rw add-one (along p (suc k) n))
