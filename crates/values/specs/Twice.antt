-- Code 4: "a value is listed as argument twice, or listed and a declared result, or claims one that a lower id claims | lowest such
-- value, 0". Arguments of unattached blocks count too; a claim of a result that is not declared is none.
use Rattle.std.specs.Prelude as std
use Rattle.std.specs.Prelude.{ℕ, zero, suc, Bool, false, ◌&&◌, ◌||◌, List, ltb, Ok, Err, Some, None}
use Rattle.std.proofs.Math.Option.{Option, some, none}
use Rattle.cells.specs.Lists.{below, flat, count, find}
use Rattle.tables.specs.Tables.{Tables, arguments, claim, declared}
use Rattle.tables.specs.Value.{is_claim}
use Rattle.tables.specs.declared.Claim.{Claim}
use Rattle.tables.specs.Answer.{Answer}
use Rattle.tables.specs.declared.Refusal.TheVariants.{DefinedTwice}

-- the arguments of all blocks
abbrev pub all_arguments : Tables → List ℕ
all_arguments x = flat (arguments x) (below x.counts.blocks)

-- one of the values below v claims result k of operation i
abbrev pub claimed_below : Tables → ℕ → ℕ → ℕ → Bool
claimed_below x i k zero = false
claimed_below x i k (suc v) = is_claim i k (claim x v) || claimed_below x i k v

-- a value, listed `times` times as an argument, is defined twice: listed twice; or a declared result, and listed or claimed before
abbrev pub twice_by : Tables → ℕ → ℕ → std.Option Claim → Bool
twice_by x times v None = ltb 1 times
twice_by x times v (Some c) = ltb 1 times || (declared x c.operation c.index && (ltb 0 times || claimed_below x c.operation c.index v))

unfoldable pub defined_twice : Tables → ℕ → Bool
defined_twice x v = twice_by x (count v (all_arguments x)) v (claim x v)

abbrev pub refused : Option ℕ → Answer
refused none = Ok tt
refused (some v) = Err (DefinedTwice v)

unfoldable pub values_twice : Tables → Answer
values_twice x = refused (find (defined_twice x) (below x.counts.values))
