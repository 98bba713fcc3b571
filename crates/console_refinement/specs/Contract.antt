-- A call of the console on lent memory, by the contract of its function as the check reads it off the source (as crate refinement has
-- it for the calls of the store, which stay as they are there: they are not lent the wishes).
use Rattle.std.specs.Prelude.{ℕ, List, [], ◌∷◌}
use Rattle.model.specs.Call.{Call, Answer}
use Rattle.memory.specs.View.{Memory}
use Rattle.memory.specs.Lent.{lent_spawn}
use Rattle.refinement.specs.Contract as store
use Rattle.console.specs.Console.{ConsoleCall, ConsoleAnswer}
use Rattle.console.specs.Console as console
use Rattle.call_console.specs.declared.queues.WishState.{WishState}
use Rattle.call_console.specs.Called.{ConsoleMemory, memory, wish_answer, turn_answer}
use Rattle.call_console.proofs.wishing.wish.Reads as fn-wish
use Rattle.call_console.proofs.turning.turn.Reads as fn-turn

-- this call on this console answers so and leaves that console
pub data Contract : ConsoleCall → ConsoleMemory → ConsoleAnswer → ConsoleMemory → Type 1 where
  on_store : {c : Call} {m n : Memory} {a : Answer} → store.Contract c m a n → (w : WishState) (words : List ℕ)
      → Contract (console.on c) (memory m w words) (console.plain a) (memory n w words)
  wish : (κs : _) (a : _) (r : _) (s : _) → fn-wish.Post κs a r s → (m : Memory)
      → Contract (console.wish a.1.1.0 a.1.1.1.0) (memory m a.0 a.1.0.now) (wish_answer r.answer) (memory m r.wishes s.1.0.now)
  turn : (κs : _) (a : _) (r : _) (s : _) → fn-turn.Post κs a r s → (m : Memory)
      → Contract console.turn (memory (lent_spawn a.0 a.1.0.now a.1.1.0.now a.1.1.1.0.now a.1.1.1.1.0.now m) a.1.1.1.1.1.0 a.1.1.1.1.1.1.0.now) (turn_answer r.answer) (memory (lent_spawn r.state s.1.0.now s.1.1.0.now s.1.1.1.0.now s.1.1.1.1.0.now m) r.wishes a.1.1.1.1.1.1.0.now)

-- each call gets the console that the last left, and nothing else writes it
pub data Runs : ConsoleMemory → List ConsoleCall → List ConsoleAnswer → ConsoleMemory → Type 1 where
  ends : {m : ConsoleMemory} → Runs m [] [] m
  calls : {m n o : ConsoleMemory} {x : ConsoleCall} {xs : List ConsoleCall} {a : ConsoleAnswer} {said : List ConsoleAnswer} → Contract x m a n → Runs n xs said o → Runs m (x ∷ xs) (a ∷ said) o
