-- A call of a board on lent memory, by the contract of its function as the check reads it off the source (as crate refinement has it
-- for the calls of the store, and console_refinement for those of the console). The seal is the first argument, `a.0`.
use Rattle.std.specs.Prelude.{ℕ, List, [], ◌∷◌}
use Rattle.model.specs.Call as call
use Rattle.memory.specs.View.{Memory}
use Rattle.memory.specs.Lent.{lent_nodes, lent_graph, lent_voices, lent_spawn}
use Rattle.model.specs.Wish.{call_of}
use Rattle.console.specs.Console.{ConsoleCall, ConsoleAnswer}
use Rattle.console.specs.Console as console
use Rattle.call_console.specs.declared.queues.WishState.{WishState}
use Rattle.call_console.specs.Called.{ConsoleMemory}
use Rattle.console_refinement.specs.Contract as on-console
use Rattle.sealed.specs.Seal.{Seal}
use Rattle.sealed.specs.Board.{BoardCall, BoardAnswer, on, given}
use Rattle.sealed.specs.Board as sealed
use Rattle.call_seal.specs.Board.{BoardMemory, sealed_by, board, on_store, seal_answer, host_answer, node_answer, spawn_answer, wished_answer}
use Rattle.board_refinement.specs.Forms.{Unclosed}
use Rattle.call_seal.proofs.sealing.seal.Reads as fn-seal
use Rattle.call_seal.proofs.host.add_node.Reads as fn-add-node
use Rattle.call_seal.proofs.host.remove_node.Reads as fn-remove-node
use Rattle.call_seal.proofs.host.connect.Reads as fn-connect
use Rattle.call_seal.proofs.host.disconnect.Reads as fn-disconnect
use Rattle.call_seal.proofs.host.set_sink.Reads as fn-set-sink
use Rattle.call_seal.proofs.spawn.spawn.Reads as fn-spawn
use Rattle.call_seal.proofs.wishing.wish.Reads as fn-wish

-- this call on this board answers so and leaves that board
pub data Contract : BoardCall → BoardMemory → BoardAnswer → BoardMemory → Type 1 where
  -- the host's nodes and wiring
  add_node : (κs : _) (a : _) (r : _) (s : _) → fn-add-node.Post κs a r s → (m : Memory) (w : WishState) (words : List ℕ)
      → Contract (on_store (call.add_node a.1.1.1.0.now a.1.1.1.1.0.ports a.1.1.1.1.0.required a.1.1.1.1.0.takes_values a.1.1.1.1.0.takes_glides)) (board (lent_nodes a.1.0 a.1.1.0.now m) w words a.0) (node_answer r.answer) (board (lent_nodes r.state s.1.1.0.now m) w words a.0)
  remove_node : (κs : _) (a : _) (r : _) (s : _) → fn-remove-node.Post κs a r s → (m : Memory) (w : WishState) (words : List ℕ)
      → Contract (on_store (call.remove_node a.1.1.1.1.0)) (board (lent_graph a.1.0 a.1.1.0.now a.1.1.1.0.now m) w words a.0) (host_answer r.answer) (board (lent_graph r.state s.1.1.0.now s.1.1.1.0.now m) w words a.0)
  connect : (κs : _) (a : _) (r : _) (s : _) → fn-connect.Post κs a r s → (m : Memory) (w : WishState) (words : List ℕ)
      → Contract (on_store (call.connect a.1.1.1.1.0.from a.1.1.1.1.0.to a.1.1.1.1.0.port)) (board (lent_graph a.1.0 a.1.1.0.now a.1.1.1.0.now m) w words a.0) (host_answer r.answer) (board (lent_graph r.state a.1.1.0.now s.1.1.1.0.now m) w words a.0)
  disconnect : (κs : _) (a : _) (r : _) (s : _) → fn-disconnect.Post κs a r s → (m : Memory) (w : WishState) (words : List ℕ)
      → Contract (on_store (call.disconnect a.1.1.1.1.0 a.1.1.1.1.1.0)) (board (lent_graph a.1.0 a.1.1.0.now a.1.1.1.0.now m) w words a.0) (host_answer r.answer) (board (lent_graph r.state a.1.1.0.now s.1.1.1.0.now m) w words a.0)
  set_sink : (κs : _) (a : _) (r : _) (s : _) → fn-set-sink.Post κs a r s → (m : Memory) (w : WishState) (words : List ℕ)
      → Contract (on_store (call.set_sink a.1.1.1.0)) (board (lent_nodes a.1.0 a.1.1.0.now m) w words a.0) (host_answer r.answer) (board (lent_nodes r.state a.1.1.0.now m) w words a.0)
  -- the spawn of any wish. The four spawns of 01 are the wishes that are managed or not, with a pan or with pan 0
  spawn : (κs : _) (a : _) (r : _) (s : _) → fn-spawn.Post κs a r s → (m : Memory) (w : WishState) (words : List ℕ)
      → Contract (on_store (call_of a.1.1.1.1.1.1.0)) (board (lent_spawn a.1.0 a.1.1.0.now a.1.1.1.0.now a.1.1.1.1.0.now a.1.1.1.1.1.0.now m) w words a.0) (spawn_answer r.answer) (board (lent_spawn r.state s.1.1.0.now s.1.1.1.0.now s.1.1.1.1.0.now s.1.1.1.1.1.0.now m) w words a.0)
  -- a wish, and sealing
  wish : (κs : _) (a : _) (r : _) (s : _) → fn-wish.Post κs a r s → (m : Memory)
      → Contract (on (console.wish a.1.1.1.0 a.1.1.1.1.0)) (board m a.1.0 a.1.1.0.now a.0) (wished_answer r.answer) (board m r.wishes s.1.1.0.now a.0)
  seal : (κs : _) (a : _) (r : _) (s : _) → fn-seal.Post κs a r s → (m : Memory) (words : List ℕ)
      → Contract (sealed.seal a.1.1.1.1.1.1.0) (board (lent_voices a.1.0 a.1.1.0.now a.1.1.1.0.now a.1.1.1.1.0.now m) a.1.1.1.1.1.0 words a.0) (seal_answer r.answer) (board (lent_voices a.1.0 a.1.1.0.now a.1.1.1.0.now a.1.1.1.1.0.now m) a.1.1.1.1.1.0 words r.seal)
  -- a call that no seal closes is the console's own, which is not lent the seal
  unclosed : {c : ConsoleCall} {m n : ConsoleMemory} {a : ConsoleAnswer} → on-console.Contract c m a n → Unclosed c → (x : Seal)
      → Contract (on c) (sealed_by m x) (given a) (sealed_by n x)

-- each call gets the board that the last left, and nothing else writes it
pub data Runs : BoardMemory → List BoardCall → List BoardAnswer → BoardMemory → Type 1 where
  ends : {m : BoardMemory} → Runs m [] [] m
  calls : {m n o : BoardMemory} {x : BoardCall} {xs : List BoardCall} {a : BoardAnswer} {said : List BoardAnswer} → Contract x m a n → Runs n xs said o → Runs m (x ∷ xs) (a ∷ said) o
