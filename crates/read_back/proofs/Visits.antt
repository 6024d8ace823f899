-- A loop over ids that are visited one by one, a block's operations, and what the definitions say of the lists that the code read.
-- Assumes nothing.
use Prim.Native.Nat.{ℕ, suc, ◌+◌, ◌-◌, ◌<◌, ◌≤◌}
use native.Mathlib.Omega.{arith}
use mathlib.Core.Path.{◌≡◌, refl, ap, sym, ◌∙◌, subst}
use mathlib.Core.List.{List, [], ◌∷◌, ◌++◌, map}
use Rattle.cells.specs.Lists.{below}
use Rattle.cells.specs.declared.Span.{Span}
use lib.ListN.{length, get_or, drop, take}
use Rattle.cells.proofs.Parts.{left_step, left_end}
use Rattle.tables.specs.Sizes.{max_depth}
use Rattle.tables.specs.Tables.{Tables, functions, regions, blocks, operations, arguments_span, operands_span, result_types_span}
use Rattle.tables.specs.declared.Place.{Place}
use Rattle.tables.specs.declared.Place.TheVariants.{Argument, Result}
use Rattle.nesting.specs.Shape.{visit}
use Rattle.nesting.specs.Live.{placed}
use Rattle.nesting.specs.ReadBack.{Use, uses_at}
use Rattle.nesting.specs.Ask.{all, fold_operation, fold_operations, fold_block, fold_region, fold_entry, fold_entries}
use Rattle.read_back.specs.Alone.{spanned}
use Rattle.read_back.specs.Live.{grow_all}
use Rattle.read_back.specs.Stage.{Stage, staged, read_all, use_of, lists, region_uses, block_uses, inside_uses, entry_uses, entries_uses, Went}
use Rattle.read_back.specs.declared.Reading.{Reading}
use Rattle.read_back.proofs.Stack.{Above, above_none, above_all, take_back}
use Rattle.read_back.proofs.Stage.{read_append}

-- what a loop over the ids xs keeps, the same places being live at each: f are the operands met at one, and i are done
pub record Going (numbers : List ℕ) (f : List Place → ℕ → List Use) (xs : List ℕ) (live : List Place) (s : Stage) (w : Reading) (held : List ℕ) (i : ℕ) : Type 0 where
  pub lives : w.live ≡ live
  pub left : read_all numbers (staged w held) (all lists (f live) (drop i xs)) ≡ read_all numbers s (all lists (f live) xs)

pub going_start : (numbers : List ℕ) (f : List Place → ℕ → List Use) (xs : List ℕ) (w : Reading) (held : List ℕ)
    → Going numbers f xs w.live (staged w held) w held 0
going_start numbers f xs w held = record { lives = refl; left = refl }

module _ {numbers : List ℕ} {f : List Place → ℕ → List Use} {xs : List ℕ} {live : List Place} {s : Stage} {w : Reading} {held : List ℕ} {i : ℕ}
    (inv : Going numbers f xs live s w held i) where
  pub going_next : {w' : Reading} {held' : List ℕ} (k : ℕ) → k ≡ get_or xs i 0 → i < length xs
      → Went w' held' live (read_all numbers (staged w held) (f live k)) → Going numbers f xs live s w' held' (i + 1)
  going_next k e h v = record {
    lives = v.lives;
    left =
        ap (λ (z : Stage). read_all numbers z (all lists (f live) (drop (i + 1) xs)))
        (v.reached ∙ ap (λ (j : ℕ). read_all numbers (staged w held) (f live j)) e)
        ∙ sym (read_append numbers (staged w held) (f live (get_or xs i 0)) (all lists (f live) (drop (i + 1) xs)))
        ∙ (rw (left_step xs i 0 h) at inv.left);
  }

  pub going_step : {w' : Reading} {held' : List ℕ} → i < length xs
      → Went w' held' w.live (read_all numbers (staged w held) (f w.live (get_or xs i 0))) → Going numbers f xs live s w' held' (i + 1)
  going_step h v = going_next (get_or xs i 0) refl h (rw inv.lives at v)

  pub going_end : length xs ≤ i → Went w held live (read_all numbers s (all lists (f live) xs))
  going_end h = record { lives = inv.lives; reached = rw (left_end xs i 0 h) at inv.left }

-- ---- what becomes live in a block and by an operation, as the code counts it off the spans

module _ (x : Tables) (id : ℕ) (live : List Place) where
  pub entered : {ps : List Place} {span : Span} → span ≡ arguments_span x id
      → ps ≡ grow_all live (map (Argument id) (below span.len)) → ps ≡ grow_all live ((placed (spanned x)).arguments id)
  unfolding placed spanned
  entered e q = rw (← e) q

  pub opened : (numbers : List ℕ) (s : Stage) {w : Reading} {held : List ℕ} {ps : List Place} {operands results : Span}
      → operands ≡ operands_span x id → results ≡ result_types_span x id
      → Went w held live (read_all numbers s (map (use_of id live) (below operands.len)))
      → ps ≡ grow_all w.live (map (Result id) (below results.len))
      → Went (record { live = ps; at = w.at; answer = w.answer }) held (grow_all live ((placed (spanned x)).results id))
      (read_all numbers s (uses_at (spanned x).operands (visit id live)))
  unfolding placed spanned
  opened numbers s {results = results} e q v t = record {
    lives = rw (← q) (t ∙ ap (λ (l : List Place). grow_all l (map (Result id) (below results.len))) v.lives);
    reached = rw (← e) v.reached;
  }

-- ---- the operations of a block: each leaves its results live

module _ (numbers : List ℕ) (x : Tables) (d : ℕ) where
  abbrev operations_uses : List Place → List ℕ → List Use
  operations_uses live is = fold_operations lists grow_all (uses_at (spanned x).operands) (placed (spanned x)) (region_uses x d) live is

  -- base is live where the block begins, and i of the operations xs are done
  pub record Onward (xs : List ℕ) (base live : List Place) (s : Stage) (w : Reading) (held : List ℕ) (i : ℕ) : Type 0 where
    pub above : Above base w.live
    pub left : read_all numbers (staged w held) (operations_uses w.live (drop i xs)) ≡ read_all numbers s (operations_uses live xs)

  pub onward_start : (xs : List ℕ) (w : Reading) (held : List ℕ) (base ps : List Place) → w.live ≡ grow_all base ps
      → Onward xs base w.live (staged w held) w held 0
  onward_start xs w held base ps e = record { above = subst (Above base) (sym e) (above_all ps (above_none base)); left = refl }

  -- an operation's operands and results, then its regions
  one_operation : (s : Stage) (live : List Place) (i : ℕ) (is : List ℕ)
      → read_all numbers (read_all numbers (read_all numbers s (uses_at (spanned x).operands (visit i live)))
      (inside_uses x d (grow_all live ((placed (spanned x)).results i)) i)) (operations_uses (grow_all live ((placed (spanned x)).results i)) is)
      ≡ read_all numbers s (operations_uses live (i ∷ is))
  unfolding fold_operation placed spanned
  one_operation s live i is =
      let more = grow_all live ((placed (spanned x)).results i) in
      let ask = uses_at (spanned x).operands (visit i live) in
      let inside = inside_uses x d more i in
      ap (λ (z : Stage). read_all numbers z (operations_uses more is)) (sym (read_append numbers s ask inside))
      ∙ sym (read_append numbers s (ask ++ inside) (operations_uses more is))

  module _ {xs : List ℕ} {base live : List Place} {s : Stage} {w : Reading} {held : List ℕ} {i : ℕ} (inv : Onward xs base live s w held i) where
    pub onward_step : {w' w'' : Reading} {held' held'' : List ℕ} → i < length xs
        → Went w' held' (grow_all w.live ((placed (spanned x)).results (get_or xs i 0)))
        (read_all numbers (staged w held) (uses_at (spanned x).operands (visit (get_or xs i 0) w.live)))
        → Went w'' held'' w'.live (read_all numbers (staged w' held') (inside_uses x d w'.live (get_or xs i 0)))
        → Onward xs base live s w'' held'' (i + 1)
    onward_step {w'} {w''} {held'} {held''} h u v =
        let id = get_or xs i 0 in
        let more = grow_all w.live ((placed (spanned x)).results id) in
        let e : w''.live ≡ more = v.lives ∙ u.lives in
        record {
          above = subst (Above base) (sym e) (above_all ((placed (spanned x)).results id) inv.above);
          left =
              ap (λ (l : List Place). read_all numbers (staged w'' held'') (operations_uses l (drop (i + 1) xs))) e
              ∙ ap (λ (z : Stage). read_all numbers z (operations_uses more (drop (i + 1) xs)))
              (v.reached ∙ ap (λ (l : List Place). read_all numbers (staged w' held') (inside_uses x d l id)) u.lives)
              ∙ ap (λ (z : Stage). read_all numbers (read_all numbers z (inside_uses x d more id)) (operations_uses more (drop (i + 1) xs))) u.reached
              ∙ one_operation (staged w held) w.live id (drop (i + 1) xs)
              ∙ (rw (left_step xs i 0 h) at inv.left);
        }

    -- the end of the block: as much is live as was before
    pub block_went : (w₀ : Reading) (held₀ : List ℕ) (id : ℕ) → length xs ≤ i → xs ≡ operations x id
        → live ≡ grow_all base ((placed (spanned x)).arguments id) → s ≡ staged w₀ held₀ → (ps : List Place) → ps ≡ take (length base) w.live
        → Went (record { live = ps; at = w.at; answer = w.answer }) held base (read_all numbers (staged w₀ held₀) (block_uses x d base id))
    unfolding block_uses fold_block placed spanned
    block_went w₀ held₀ id h e l z ps q = record {
      lives = q ∙ take_back inv.above;
      reached = (rw (left_end xs i 0 h) at inv.left) ∙ rw (e, l, z);
    }

-- ---- the list xs that was read is the one that the definition speaks of

module _ (numbers : List ℕ) (x : Tables) (d id : ℕ) (s : Stage) {w : Reading} {held : List ℕ} {live : List Place} where
  pub region_none : d ≡ 0 → Went w held live s → Went w held live (read_all numbers s (region_uses x d live id))
  unfolding region_uses fold_region
  region_none z v = rw z v

  pub region_went : {xs : List ℕ} → (d ≡ 0 → ⊥) → xs ≡ blocks x id
      → Went w held live (read_all numbers s (all lists (block_uses x (d - 1) live) xs))
      → Went w held live (read_all numbers s (region_uses x d live id))
  unfolding region_uses block_uses fold_region placed spanned
  region_went h e v =
      let k : suc (d - 1) ≡ d = omega (arith, h) in
      subst (λ (z : ℕ). Went w held live (read_all numbers s (region_uses x z live id))) k (rw e at v)

-- ---- the entry walk of a function

module _ (numbers : List ℕ) (x : Tables) (id : ℕ) (s : Stage) (w : Reading) (held : List ℕ) {xs : List ℕ} (e : xs ≡ regions x id) where
  pub entry_none : length xs ≤ 0 → Went w held [] s → Went w held [] (read_all numbers s (entry_uses x id))
  unfolding entry_uses fold_entry placed spanned
  entry_none h v = let q : regions x id ≡ [] = sym e ∙ left_end xs 0 0 h in rw q v

  module _ (h : 0 < length xs) (region : ℕ) (r : region ≡ get_or xs 0 0) {ys : List ℕ} (f : ys ≡ blocks x region) where
    first_region : regions x id ≡ region ∷ drop 1 xs
    first_region = sym e ∙ left_step xs 0 0 h ∙ ap (λ (k : ℕ). k ∷ drop 1 xs) (sym r)

    pub entry_bare : length ys ≤ 0 → Went w held [] s → Went w held [] (read_all numbers s (entry_uses x id))
    unfolding entry_uses fold_entry placed spanned
    entry_bare l v =
        let q : blocks x region ≡ [] = sym f ∙ left_end ys 0 0 l in
        rw (first_region, q) v

    pub entry_went : 0 < length ys → (block : ℕ) → block ≡ get_or ys 0 0
        → Went w held [] (read_all numbers s (block_uses x (max_depth - 1) [] block))
        → Went w held [] (read_all numbers s (entry_uses x id))
    unfolding entry_uses fold_entry block_uses region_uses placed spanned
    entry_went l block b v =
        let q : blocks x region ≡ block ∷ drop 1 ys = sym f ∙ left_step ys 0 0 l ∙ ap (λ (k : ℕ). k ∷ drop 1 ys) (sym b) in
        rw (first_region, q) v

-- ---- the entry walks of all functions

pub entries_went : (numbers : List ℕ) (x : Tables) (s : Stage) {w : Reading} {held xs : List ℕ} → xs ≡ functions x
    → Went w held [] (read_all numbers s (all lists (entry_uses x) xs)) → staged w held ≡ read_all numbers s (entries_uses x)
unfolding entries_uses entry_uses fold_entries placed spanned
entries_went numbers x s e v = rw e at v.reached
