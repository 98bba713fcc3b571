-- What the parts of the writer put into the room that they are lent.
use Rattle.std.specs.Prelude.{ℕ, ◌≡◌, List, length}
use Rattle.lists.specs.Written.{written}

-- a text put at the start of `before` has taken r bytes
pub record Put (text before after : List ℕ) (r : ℕ) : Type 0 where
  pub placed : after ≡ written text before
  pub long : r ≡ length text
