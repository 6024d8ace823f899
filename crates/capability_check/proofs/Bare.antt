-- The requirements read types, values, operations, attributes and list entries alone. Assumes nothing.
use Prim.Native.Nat.{ℕ}
use mathlib.Core.Path.{◌≡◌, ap}
use mathlib.Core.List.{List, []}
use Rattle.tables.specs.Tables.{Tables, lent}
use Rattle.tables.specs.declared.Target.{Target}
use Rattle.capabilities.specs.Ask.{kind_asked, attribute_asked, operation_asks, capabilities}

pub bare_order : (g : Target) (x : Tables) (list xs : List ℕ) → list ≡ xs
    → capabilities g (lent x.t x.v x.o x.a [] [] [] x.l x.counts) list ≡ capabilities g x xs
unfolding capabilities operation_asks kind_asked attribute_asked
bare_order g x list xs e = ap (capabilities g x) e
