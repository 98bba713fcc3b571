-- A text of at most so many bytes that was added at the end.
use Rattle.std.specs.Prelude.{ℕ, ◌≤◌, ◌≡◌, List, ◌++◌, length}

pub record Added (most : ℕ) (text before after : List ℕ) : Type 0 where
  pub placed : after ≡ before ++ text
  pub fits : length text ≤ most
