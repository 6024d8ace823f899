-- Bytes laid into a buffer one after another, as far as it has room. `Laws` has what that gives where all of them have room.
use Rattle.std.specs.Prelude.{ℕ, ◌+◌, cond, List, [], ◌∷◌, ltb, length, set}

-- a buffer, and where its next byte goes
pub record State : Type 0 where
  pub at : ℕ
  pub bytes : List ℕ

abbrev pub state : ℕ → List ℕ → State
state at bytes = record { at = at; bytes = bytes }

-- one byte more; nothing where the buffer is full
unfoldable pub pushed : State → ℕ → State
pushed s b = cond (ltb s.at (length s.bytes)) (state (s.at + 1) (set s.bytes s.at b)) s

-- a text
unfoldable pub laid : List ℕ → State → State
laid [] s = s
laid (b ∷ bs) s = laid bs (pushed s b)
