-- Where all of code 1 passes, the lengths that the spans say are those of the lists: the nesting is the one that numbering walks.
-- Assumes nothing.
use Prim.Native.Nat.{ℕ}
use mathlib.Core.Path.{◌≡◌, sym, fun_ext}
use lib.ListN.{length}
use Rattle.tables.specs.Tables.{Tables, functions, regions, blocks, operations, arguments, result_types, operands, arguments_span, result_types_span, operands_span}
use Rattle.ranges.specs.Ranged.{Ranged}
use Rattle.nesting.specs.Live.{nesting_of}
use Rattle.read_back.specs.Alone.{spanned}

pub spanned_is : (x : Tables) → Ranged x → spanned x ≡ nesting_of x
unfolding spanned nesting_of
spanned_is x r =
    let a : ◌≡◌ {A = ℕ → ℕ} (λ j. (arguments_span x j).len) (λ j. length (arguments x j)) = fun_ext (λ j. sym (r.arguments_whole j)) in
    let b : ◌≡◌ {A = ℕ → ℕ} (λ i. (result_types_span x i).len) (λ i. length (result_types x i)) = fun_ext (λ i. sym (r.result_types_whole i)) in
    let c : ◌≡◌ {A = ℕ → ℕ} (λ i. (operands_span x i).len) (λ i. length (operands x i)) = fun_ext (λ i. sym (r.operands_whole i)) in
    λ i. record {
      functions = functions x;
      regions = regions x;
      blocks = blocks x;
      operations = operations x;
      arguments = a i;
      results = b i;
      operands = c i;
    }
