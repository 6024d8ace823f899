-- `signed` meets its contract: it is how the language reads the bits.
use mathlib.Core.Path.{sym, ◌∙◌}
use mir.Facts.{to_z-of_z}
use mir.Syntax.{w64}
use Rattle.arith.proofs.Laws.{signed_is}
use Rattle.arith.proofs.signed.Goals as goal

pub returns : goal.returns
returns c =
    to_z-of_z {w = w64} (record { sfits = c.cast_signed.type_inv }) ∙ c.cast_signed.ensures ∙ sym (signed_is c.args.bits)
