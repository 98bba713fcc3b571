-- The keyboard that the next turn serves, in a flag (`some_flag`, state_words/specs/State) and a cell; where no wish waits, the cell holds
-- what it held.
use Rattle.std.specs.Prelude.{ℕ, Option, None, Some}
use Rattle.console.specs.Wishes.{Picked}

abbrev pub picked_cell : Option Picked → ℕ → ℕ
picked_cell None old = old
picked_cell (Some p) old = p.keyboard
