-- One call more of a console and of a board, and what is claimed of them.
use Rattle.std.proofs.Common.{◌≡◌, ◌∙◌, ap, sym, refl, List, [], ◌∷◌, ◌++◌, ℕ}
use Rattle.model.specs.Make.{Making, make}
use Rattle.std.specs.Prelude.{Some}
use Rattle.console.specs.Wishes.{new_wishes}
use Rattle.console.specs.Console.{Console, ConsoleCall, ConsoleAnswer, ConsoleStep, console_step, console_run, store_calls}
use Rattle.console.proofs.Claim.{console_claim, accepted}
use Rattle.replaced.proofs.Theorem.{replaced_same}
use Rattle.sealed.specs.Board.{Board, BoardCall, BoardAnswer, BoardStep, board_step, board_run, new_board, console_calls}
use Rattle.console.specs.Begins.{Begins, with_keyboards, alone}
use Rattle.sealed.proofs.Boards.{board_claim}
use Rattle.board.specs.Called.{ConsoleCalled, BoardCalled}
use Rattle.board.specs.Reached.{ConsoleReached, ConsoleClaimed, BoardReached, BoardClaimed}

-- ---- a console
one_more : (xs : List ConsoleCall) (x : ConsoleCall) (k : Console) → (console_run (xs ++ x ∷ []) k).console ≡ (console_step x (console_run xs k).console).console
one_more [] x k = refl
one_more (y ∷ xs) x k = one_more xs x (console_step y k).console

pub next : (x : ConsoleCall) {k : Console} {a : ConsoleAnswer} {n : Console} → ConsoleReached k → ConsoleCalled x k a n → ConsoleReached n
next x r e =
    record {
      making = r.making;
      keyboards = r.keyboards;
      new = r.new;
      accepted = r.accepted;
      calls = r.calls ++ x ∷ [];
      is = ap (λ (s : ConsoleStep). s.console) e ∙ ap (λ k. (console_step x k).console) r.is ∙ sym (one_more r.calls x r.new);
    }

pub claimed : {k : Console} → ConsoleReached k → ConsoleClaimed k
claimed r =
    let a = accepted r.making r.keyboards r.new r.accepted in
    record {
      reached = r;
      claim = console_claim r.making r.keyboards r.new r.accepted r.calls;
      replaced = replaced_same r.making r.new.model a.store (store_calls r.calls (new_wishes r.keyboards));
    }

-- ---- a board
board_more : (xs : List BoardCall) (x : BoardCall) (b : Board) → (board_run (xs ++ x ∷ []) b).board ≡ (board_step x (board_run xs b).board).board
board_more [] x b = refl
board_more (y ∷ xs) x b = board_more xs x (board_step y b).board

pub then : (x : BoardCall) {b : Board} {a : BoardAnswer} {n : Board} → BoardReached b → BoardCalled x b a n → BoardReached n
then x r e =
    record {
      making = r.making;
      keyboards = r.keyboards;
      new = r.new;
      accepted = r.accepted;
      calls = r.calls ++ x ∷ [];
      is = ap (λ (s : BoardStep). s.board) e ∙ ap (λ b. (board_step x b).board) r.is ∙ sym (board_more r.calls x (new_board r.new));
    }

store_made : (k : Making) (n : ℕ) (c : Console) → Begins k n c → make k ≡ Some c.model
store_made k _ _ (with_keyboards n c e) = (accepted k n c e).store
store_made k _ _ (alone m e) = e

pub held : {b : Board} → BoardReached b → BoardClaimed b
held r =
    record {
      reached = r;
      claim = board_claim r.making r.keyboards r.new r.accepted r.calls;
      replaced = replaced_same r.making r.new.model (store_made r.making r.keyboards r.new r.accepted) (store_calls (console_calls r.calls (new_board r.new)) (new_wishes r.keyboards));
    }
