-- `ask_attributes`: what is left of the attributes answers the same. Assumes nothing.
use Prim.Native.Nat.{◌-◌}
use mathlib.Core.Path.{◌≡◌}
use Rattle.cells.specs.Lists.{from}
use Rattle.tables.specs.Answer.{each}
use Rattle.tables.specs.Tables.{attributes}
use Rattle.capabilities.specs.Part.{attribute_asks}
use Rattle.capabilities.proofs.ask_attributes.Given as goal

abbrev pub invariant-loop-attribute : goal.invariant-loop-attribute
invariant-loop-attribute z =
    each (attribute_asks z.g z.x z.operation) (attributes z.x z.operation)
    ≡ each (attribute_asks z.g z.x z.operation) (from z.attribute (z.attribute-end - z.attribute))
