-- "Ids are ranged by the check": reading then checking. Tables that a module text was read into are well formed but for their ids, so code 1
-- asks them for ids alone, and refuses only an id out of range. Assumes nothing.
use Prim.Native.Nat.{ℕ}
use mathlib.Core.Bool.{Bool, true, false, cond}
use mathlib.Core.Path.{◌≡◌, sym, ◌∙◌}
use mathlib.Core.List.{List}
use mathlib.Core.Logic.{◌⊎◌, inl, inr}
use Rattle.tables.specs.Tables.{Tables}
use Rattle.tables.specs.Sizes.{sheet_table}
use Rattle.tables.specs.Answer.{and_then, Answer}
use Rattle.std.specs.Prelude.{Ok, Err}
use Rattle.tables.specs.declared.Refusal.{Refusal}
use Rattle.tables.specs.declared.Refusal.TheVariants.{OutOfRange}
use Rattle.ranges.specs.Range.{table_ranges, good_sheet, sheet_range}
use Rattle.ranges.proofs.Laws.{ranged}
use Rattle.module_text.specs.Whole.{house}
use Rattle.reading.specs.Formed.{Formed, IdsInRange, id_ranges, NamesAnId}
use Rattle.reading.proofs.Fold.{house_kept}
use Rattle.reading.proofs.Formed.{formed}
use Rattle.reading.proofs.Ids as ids

-- tables that pass code 1 have their ids in range, read or not
pub ids_needed : (x : Tables) → table_ranges x ≡ Ok tt → IdsInRange x
ids_needed x e =
    let r = ranged x e in
    record {
      value_types = r.value_types;
      claims = λ v i k _ q. r.claims v i k q;
      result_types_lem = λ i _. r.result_types_below i;
      operands = λ i _. r.operands_below i;
      regions = λ i _. r.regions_below i;
      arguments = λ j _. r.arguments_below j;
      operations = λ j _. r.operations_below j;
      blocks = λ k _. r.blocks_below k;
      functions = r.functions_below;
    }

sheet_refuses : (sheet : List ℕ) (q : Refusal) → sheet_range sheet ≡ Err q → q ≡ OutOfRange sheet_table 0
unfolding sheet_range
sheet_refuses sheet q = by (good_sheet sheet)
  where
    by : (t : Bool) → ◌≡◌ {A = Answer} (cond t (Ok tt) (Err (OutOfRange sheet_table 0))) (Err q) → q ≡ OutOfRange sheet_table 0
    by true h = cc
    by false h = cc

-- a text that reads
module _ (text : List ℕ) (x : Tables) (e : (house text x).answer ≡ Ok tt) where
  -- every entry is well formed but for its ids
  pub reads_formed : Formed (house text x).tables
  reads_formed = formed (house text x).entries (house text x).tables (house_kept text x e)

  -- code 1 answers the first table, then the first entry with an id out of range
  pub only_ids : table_ranges (house text x).tables ≡ id_ranges (house text x).tables
  only_ids = ids.only_ids (house text x).tables reads_formed

  -- it accepts where all ids are in range, and there alone (`ids_needed`)
  pub ids_decide : IdsInRange (house text x).tables → table_ranges (house text x).tables ≡ Ok tt
  ids_decide d = only_ids ∙ ids.in_range (house text x).tables reads_formed d

  -- where it refuses, it names an entry with an id out of range
  pub refused_for_an_id : (q : Refusal) → table_ranges (house text x).tables ≡ Err q → NamesAnId (house text x).tables q
  refused_for_an_id q r = ids.names_an_id (house text x).tables q (sym only_ids ∙ r)

  -- and with a sheet, which is table 8 of code 1: such an entry, or the sheet
  pub an_id_or_the_sheet : (sheet : List ℕ) (q : Refusal) → and_then (table_ranges (house text x).tables) (sheet_range sheet) ≡ Err q
      → NamesAnId (house text x).tables q ⊎ (q ≡ OutOfRange sheet_table 0)
  an_id_or_the_sheet sheet q = by (table_ranges (house text x).tables) (refused_for_an_id q)
    where
      by : (a : Answer) → (a ≡ Err q → NamesAnId (house text x).tables q) → and_then a (sheet_range sheet) ≡ Err q
          → NamesAnId (house text x).tables q ⊎ (q ≡ OutOfRange sheet_table 0)
      by (Ok _) f h = inr (sheet_refuses sheet q h)
      by (Err r) f h = inl (f h)
