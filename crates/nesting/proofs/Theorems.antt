-- The theorems on visibility, numbers and places, each under its name. Assumes nothing.
use Prim.Native.Nat.{ℕ, ◌<◌, ◌≤◌}
use mathlib.Core.Path.{◌≡◌, ap, sym, ◌∙◌}
use mathlib.Core.List.{List, ◌++◌}
use mathlib.Core.Logic.{◌↔◌, ◌⊎◌}
use mathlib.Core.Option.{some}
use lib.ListN.{length}
use Rattle.cells.specs.Lists.{count}
use Rattle.tables.specs.Tables.{Tables}
use Rattle.std.specs.Prelude.{Ok, Err}
use Rattle.tables.specs.Place.{defining_place}
use Rattle.tables.specs.declared.Place.{Place}
use Rattle.tables.specs.declared.Place.TheVariants.{Nowhere}
use Rattle.tables.specs.declared.Refusal.{Refusal}
use Rattle.tables.specs.declared.Refusal.TheVariants.{NoNumber}
use Rattle.nesting.specs.In.{In}
use Rattle.nesting.specs.Shape.{Shape, Visit, whole_visits, entries_visits}
use Rattle.nesting.specs.Live.{valued, Nesting, nesting_of, placed, Real, value_at, values_at}
use Rattle.nesting.specs.Dominance.{judged, dominance}
use Rattle.nesting.specs.Sentence.{stands, sentence}
use Rattle.nesting.specs.Means.{AllSeen, FirstHidden, Numbered}
use Rattle.nesting.specs.Numbering.{fine, refused, numbers_at, numbering}
use Rattle.nesting.specs.ReadBack.{read_back, operand_places}
use Rattle.nesting.specs.Passed.{Apart, Single}
use Rattle.nesting.specs.Fits.{Fits, FitsAt}
use Rattle.nesting.specs.Alike.{Alike}
use Rattle.nesting.specs.Ask.{answers, listings, fold_whole, fold_entries}
use Rattle.nesting.specs.Direct.{numbers_among, direct}
use Rattle.nesting.proofs.Stands.{walk_sentence}
use Rattle.nesting.proofs.Said.{accepted_is, refused_is}
use Rattle.nesting.proofs.Places.{place_is, own_place}
use Rattle.nesting.proofs.Walked.{entry_in}
use Rattle.nesting.proofs.Back.{back, places_same}
use Rattle.nesting.proofs.Same.{nesting_same}
use Rattle.nesting.proofs.Folds.{dominance_fold, numbering_fold}
use Rattle.nesting.proofs.Values.{direct_numbers}
use Rattle.nesting.proofs.Room.{few, fits_at}
use Rattle.nesting.proofs.Grown.{whole_grown, entries_grown}
use Rattle.nesting.proofs.Visible.{entry_once, numbered}
use Rattle.nesting.proofs.Accepted.{accepted_numbered}

-- ---- dominance

-- the walk with its growing set answers what the paper's sentence answers, on all tables
pub walk_is_the_sentence : (x : Tables) → dominance x ≡ sentence x
walk_is_the_sentence = walk_sentence

-- accepted: exactly when every operand at every stand is visible
pub accepted_means : (x : Tables) → (dominance x ≡ Ok tt) ↔ AllSeen x (stands x)
accepted_means = accepted_is

-- refused: the first operand in walk order that is not visible is named, and nothing else is ever answered
pub hidden_means : (x : Tables) (r : Refusal) → dominance x ≡ Err r → FirstHidden x r
hidden_means = refused_is

-- ---- numbers and places

-- written numbers read back to the defining place of each operand
pub reads_back : (sheet : List ℕ) (x : Tables) → Single x → (zs : List ℕ) → numbering sheet x ≡ fine zs
    → read_back (nesting_of x) zs ≡ fine (operand_places x)
reads_back sheet x g = back x g sheet

-- a reader who has the nesting, the counts and the numbers alone finds the same places
pub reader_finds : (sheet : List ℕ) (x y : Tables) → Single x → Alike x y → (zs : List ℕ) → numbering sheet x ≡ fine zs
    → read_back (nesting_of y) zs ≡ fine (operand_places x)
reader_finds sheet x y g a zs e = ap (λ (n : Nesting). read_back n zs) (sym (nesting_same x y a)) ∙ back x g sheet zs e

-- two sets of tables of one nesting with one list of numbers have their operands at the same places
pub same_list_same_places : (s s' : List ℕ) (x y : Tables) → Single x → Single y → nesting_of x ≡ nesting_of y
    → (zs : List ℕ) → numbering s x ≡ fine zs → numbering s' y ≡ fine zs → operand_places x ≡ operand_places y
same_list_same_places = places_same

-- the nesting is one where the entries that count list the same
pub alike : (x y : Tables) → Alike x y → nesting_of x ≡ nesting_of y
alike = nesting_same

-- a visit of an entry walk is at a stand, and there a value is visible exactly when it has a number
pub visible_exactly_when_numbered : (x : Tables) (u : Visit Place) → In u (entries_visits (placed (nesting_of x))) → Numbered x u
visible_exactly_when_numbered = numbered

-- where dominance accepts, numbering never misses a number: code 8 is met only where numbering is asked alone
pub accepted_has_numbers : (sheet : List ℕ) (x : Tables) → dominance x ≡ Ok tt → (i k : ℕ)
    → numbering sheet x ≡ refused (NoNumber i k) → ⊥
accepted_has_numbers = accepted_numbered

-- a place that has a value is the value's defining place
pub place_of_its_value : (x : Tables) → Single x → (p : Place) (v : ℕ) → Real (nesting_of x) p → value_at x p ≡ some v → defining_place x v ≡ p
place_of_its_value = place_is

-- and a value stands at its defining place, where it has one
pub value_at_its_place : (x : Tables) → Single x → (v : ℕ) → v < x.counts.values
    → (defining_place x v ≡ Nowhere) ⊎ (value_at x (defining_place x v) ≡ some v)
value_at_its_place = own_place

-- ---- what is live

-- at each visit what is live, and what becomes live there, are values, none of them twice
pub all_fits : (x : Tables) → Apart x → Single x → (u : Visit ℕ) → In u (whole_visits (valued x)) → FitsAt (Fits x.counts.values) (valued x) u
all_fits = fits_at

-- so no value is live twice
pub live_once : (x : Tables) → Apart x → Single x → (u : Visit ℕ) → In u (whole_visits (valued x)) → (v : ℕ) → count v u.live ≤ 1
live_once x a g u h = (fits_at x a g u h).live.once

-- ids below n, none twice, are no more than n
pub fits_few : (n : ℕ) (vs : List ℕ) → Fits n vs → length vs ≤ n
fits_few = few

-- so a stack with an entry for each value has room for all that is live
pub live_few : (x : Tables) → Apart x → Single x → (u : Visit ℕ) → In u (whole_visits (valued x)) → length u.live ≤ x.counts.values
live_few x a g u h = few x.counts.values u.live (fits_at x a g u h).live

-- what an entry walk visits, the whole walk visits, with the same live
pub entry_is_walked : {A : Type 0} (s : Shape A) (u : Visit A) → In u (entries_visits s) → In u (whole_visits s)
entry_is_walked = entry_in

-- no value stands at two live places of an entry walk
pub placed_once : (x : Tables) → Apart x → Single x → (u : Visit Place) → In u (entries_visits (placed (nesting_of x))) → (v : ℕ)
    → count v (values_at x u.live) ≤ 1
placed_once = entry_once

-- ---- what code promises

-- dominance asked on the way
pub dominance_folds : (x : Tables) → dominance x ≡ fold_whole answers ◌++◌ (judged x) (valued x)
dominance_folds = dominance_fold

-- numbering asked on the way, over live places
pub numbering_folds : (sheet : List ℕ) (x : Tables) → numbering sheet x ≡ fold_entries listings ◌++◌ (numbers_at sheet x) (placed (nesting_of x))
numbering_folds = numbering_fold

-- and over live values, where a number is a position among them
pub direct_is : (sheet : List ℕ) (x : Tables) → direct sheet x ≡ numbering sheet x
direct_is = direct_numbers

-- a stack that takes up whatever fits is as good as concatenation: dominance
pub stack_dominance : (x : Tables) → Apart x → Single x → (grow : List ℕ → List ℕ → List ℕ)
    → ((live more : List ℕ) → Fits x.counts.values (live ++ more) → grow live more ≡ live ++ more)
    → fold_whole answers grow (judged x) (valued x) ≡ dominance x
stack_dominance x a g grow plain =
    whole_grown (Fits x.counts.values) grow plain answers (judged x) (valued x) (fits_at x a g) ∙ sym (dominance_fold x)

-- and numbering
pub stack_numbering : (sheet : List ℕ) (x : Tables) → Apart x → Single x → (grow : List ℕ → List ℕ → List ℕ)
    → ((live more : List ℕ) → Fits x.counts.values (live ++ more) → grow live more ≡ live ++ more)
    → fold_entries listings grow (numbers_among sheet x) (valued x) ≡ numbering sheet x
unfolding direct
stack_numbering sheet x a g grow plain =
    entries_grown (Fits x.counts.values) grow plain listings (numbers_among sheet x) (valued x)
    (λ u h. fits_at x a g u (entry_in (valued x) u h))
    ∙ direct_numbers sheet x
