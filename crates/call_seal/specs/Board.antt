-- What the contracts of a board's calls say (SPEC 18): the console as it is lent, and beside it the seal, which goes by
-- value.
use Rattle.std.specs.Prelude.{ℕ, ◌≡◌, List, Bool, false, not, ◌&&◌, eqb, leb, Ok, Err, Result, None, Some}
use Rattle.node.specs.declared.record.NodeId.{NodeId}
use Rattle.model.specs.Call.{Call, spawned}
use Rattle.memory.specs.View.{Memory}
use Rattle.memory.specs.Called.{answered, add_answered}
use Rattle.console.specs.Console.{ConsoleAnswer, plain}
use Rattle.console.specs.Console as console
use Rattle.call_console.specs.declared.queues.WishState.{WishState}
use Rattle.call_console.specs.Called.{ConsoleMemory, memory, console_of, Kept, wish_answer}
use Rattle.sealed.specs.declared.profile.Profile.{Profile}
use Rattle.sealed.specs.Seal.{Seal}
use Rattle.sealed.specs.declared.refusal.SealRefusal.TheVariants.{Closed}
use Rattle.sealed.specs.Board.{Board, BoardCall, on, BoardAnswer, given, sealed, refused, BoardStep, board_step}
use Rattle.node.specs.declared.record.VoiceId.{VoiceId}
use Rattle.node.specs.declared.refusal.Refusal.{Refusal}
use Rattle.console.specs.declared.refusal.KeyboardRefusal.{KeyboardRefusal}
use Rattle.sealed.specs.declared.refusal.SealRefusal.{SealRefusal}
use Rattle.call_seal.specs.declared.closing.BoardRefusal.{BoardRefusal}

-- the board: the console, and the seal
pub record BoardMemory : Type 0 where
  pub console : ConsoleMemory
  pub seal : Seal

abbrev pub sealed_by : ConsoleMemory → Seal → BoardMemory
sealed_by m x = record { console = m; seal = x }

abbrev pub board : Memory → WishState → List ℕ → Seal → BoardMemory
board m w c x = sealed_by (memory m w c) x

abbrev pub board_of : BoardMemory → Board
board_of m = record { console = console_of m.console; seal = m.seal }

-- a call of the store, made on a board
abbrev pub on_store : Call → BoardCall
on_store c = on (console.on c)

-- from the board m the call x answers a and leaves the board n
abbrev pub BoardCalled : BoardCall → BoardMemory → BoardAnswer → BoardMemory → Type 0
BoardCalled x m a n = ◌≡◌ {A = BoardStep} (record { answer = a; board = board_of n }) (board_step x (board_of m))

-- A closed call and a refused sealing leave the very memory, and an accepted sealing all but the seal. A call that is let through leaves
-- the seal, and what the console's leaves.
abbrev pub BoardKept : BoardAnswer → BoardMemory → BoardMemory → Type 0
BoardKept (given a) m n = (n.seal ≡ m.seal) × Kept a m.console n.console
BoardKept sealed m n = n.console ≡ m.console
BoardKept (refused r) m n = n ≡ m

-- ---- the answers in the theory's words
abbrev pub seal_answer : Result (Unit {0}) SealRefusal → BoardAnswer
seal_answer (Ok tt) = sealed
seal_answer (Err r) = refused r

-- what the store or the console gives, on a board that does not close the call
abbrev pub opened : {A R : Type 0} → Result A R → Result A (BoardRefusal R)
opened (Ok x) = Ok x
opened (Err r) = Err (BoardRefusal.Given r)

-- closed by the seal, or what `say` makes of what the store or the console gives
abbrev pub told_by : {A R : Type 0} → (Result A R → ConsoleAnswer) → Result A (BoardRefusal R) → BoardAnswer
told_by say (Ok x) = given (say (Ok x))
told_by say (Err BoardRefusal.Closed) = refused Closed
told_by say (Err (BoardRefusal.Given r)) = given (say (Err r))

abbrev pub host_answer : Result (Unit {0}) (BoardRefusal Refusal) → BoardAnswer
host_answer = told_by (λ a. plain (answered a))

abbrev pub node_answer : Result NodeId (BoardRefusal Refusal) → BoardAnswer
node_answer = told_by (λ a. plain (add_answered a))

abbrev pub spawn_answer : Result VoiceId (BoardRefusal Refusal) → BoardAnswer
spawn_answer = told_by (λ a. plain (spawned a))

abbrev pub wished_answer : Result (Unit {0}) (BoardRefusal KeyboardRefusal) → BoardAnswer
wished_answer = told_by wish_answer

-- ---- the tests, by what they look at
-- "managed spawns on that bus within D and E", and "wishes for them": of so many nodes and edges as given
abbrev pub leaves_out : Profile → Bool → NodeId → ℕ → ℕ → Bool
leaves_out s managed bus nodes edges = not (managed && (eqb bus.0 s.bus.0 && (leb nodes s.def_nodes && leb edges s.def_edges)))

abbrev pub shuts_spawn : Seal → Bool → NodeId → ℕ → ℕ → Bool
shuts_spawn None managed bus nodes edges = false
shuts_spawn (Some s) managed bus nodes edges = leaves_out s managed bus nodes edges
