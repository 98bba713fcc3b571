-- Where a console begins: it is made with 1 to 8 keyboards, or of a store alone, and then it has none (SPEC 3, 17).
use Rattle.std.specs.Prelude.{ℕ, ◌≡◌, Some}
use Rattle.store.specs.declared.wish.Wish.{Wish}
use Rattle.model.specs.Model.{Model}
use Rattle.model.specs.Make.{Making, make}
use Rattle.console.specs.declared.refusal.KeyboardRefusal.TheVariants.{OutOfRange}
use Rattle.console.specs.Wishes.{new_wishes}
use Rattle.console.specs.Console.{Console, wish, turn, refused, empty, console_step, made, make_console}

-- the console of a store that is made without keyboards
abbrev pub without_keyboards : Model → Console
without_keyboards m = record { model = m; wishes = new_wishes 0 }

-- a new console, of so many keyboards
pub data Begins (k : Making) : ℕ → Console → Type 0 where
  with_keyboards : (n : ℕ) (c : Console) → make_console k n ≡ made c → Begins k n c
  alone : (m : Model) → make k ≡ Some m → Begins k 0 (without_keyboards m)

-- where there is no keyboard a wish is answered by 24 and a turn is empty: neither changes anything
pub record NoKeyboards (c : Console) : Type 0 where
  pub wishes : (q : ℕ) (w : Wish) → console_step (wish q w) c ≡ record { answer = refused OutOfRange; console = c }
  pub turns : console_step turn c ≡ record { answer = empty; console = c }
