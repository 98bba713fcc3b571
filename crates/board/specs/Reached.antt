-- A console, and a board, that a list of its own calls left from a newly made one; and what is claimed of it.
use Rattle.std.specs.Prelude.{ℕ, ◌≡◌, List}
use Rattle.model.specs.Make.{Making}
use Rattle.console.specs.Wishes.{new_wishes}
use Rattle.console.specs.Console.{Console, ConsoleCall, console_run, store_calls, make_console, made}
use Rattle.console.specs.Claim.{ConsoleClaim}
use Rattle.replaced.specs.Replaced.{Replaced}
use Rattle.sealed.specs.Board.{Board, BoardCall, board_run, new_board, console_calls}
use Rattle.console.specs.Begins.{Begins}
use Rattle.sealed.specs.Claim.{BoardClaim}

pub record ConsoleReached (k : Console) : Type 0 where
  pub making : Making
  pub keyboards : ℕ
  pub new : Console
  pub accepted : make_console making keyboards ≡ made new
  pub calls : List ConsoleCall
  pub is : k ≡ (console_run calls new).console

-- Some making and some calls left the console, and of them there holds:
pub record ConsoleClaimed (k : Console) : Type 0 where
  pub reached : ConsoleReached k
  -- first in first out, fair turns, whose turn is next, what a wish is answered; and the ledger's claim, of the calls
  -- that these make of the store
  pub claim : ConsoleClaim reached.making reached.keyboards reached.new reached.calls
  -- the store is, but for its pending events, as if every accepted event had been kept
  pub replaced : Replaced reached.new.model (store_calls reached.calls (new_wishes reached.keyboards))

-- made with keyboards, or of a store alone
pub record BoardReached (b : Board) : Type 0 where
  pub making : Making
  pub keyboards : ℕ
  pub new : Console
  pub accepted : Begins making keyboards new
  pub calls : List BoardCall
  pub is : b ≡ (board_run calls (new_board new)).board

-- Some making and some calls left the board, and of them there holds:
pub record BoardClaimed (b : Board) : Type 0 where
  pub reached : BoardReached b
  -- what a console's calls are claimed to do, of those that the seal let through; which it lets through; and once it is
  -- sealed, the promise: never 7
  pub claim : BoardClaim reached.making reached.keyboards reached.new reached.calls
  -- the store is, but for its pending events, as if every accepted event had been kept
  pub replaced : Replaced reached.new.model (store_calls (console_calls reached.calls (new_board reached.new)) (new_wishes reached.keyboards))
