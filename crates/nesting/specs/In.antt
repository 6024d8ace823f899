-- What it is to be one of a list.
use Rattle.std.specs.Prelude.{List, ◌∷◌}

pub data In {A : Type 0} (p : A) : List A → Type 0 where
  here : {xs : List A} → In p (p ∷ xs)
  later : {x : A} {xs : List A} → In p xs → In p (x ∷ xs)
