-- What a call of a console and of a board answers and leaves, in the theory's words.
use Rattle.std.specs.Prelude.{◌≡◌, Option, None, Some, Result, Ok, Err}
use Rattle.node.specs.declared.record.NodeId.{NodeId}
use Rattle.node.specs.declared.record.VoiceId.{VoiceId}
use Rattle.node.specs.declared.refusal.Refusal.{Refusal}
use Rattle.model.specs.Model.{Model}
use Rattle.model.specs.Call.{Call, spawned}
use Rattle.engine.specs.Called.{answered, add_answered}
use Rattle.console.specs.declared.refusal.KeyboardRefusal.{KeyboardRefusal}
use Rattle.console.specs.Wishes.{Wishes}
use Rattle.console.specs.Console.{Console, ConsoleCall, ConsoleAnswer, plain, accepted, refused, served, empty, ConsoleStep, console_step}
use Rattle.console.specs.Console as console
use Rattle.sealed.specs.declared.refusal.SealRefusal.{SealRefusal}
use Rattle.sealed.specs.declared.refusal.SealRefusal.TheVariants.{Closed}
use Rattle.sealed.specs.Board.{Board, BoardCall, BoardAnswer, BoardStep, given, board_step}
use Rattle.sealed.specs.Board as sealed
use Rattle.sealed.specs.Seal.{Seal}
use Rattle.board.specs.declared.closing.BoardRefusal.{BoardRefusal}
use Rattle.board.specs.declared.serving.Served.{Served}

-- ---- the console
-- a store, and the wishes that wait for it
abbrev pub console_of : Model → Wishes → Console
console_of m ws = record { model = m; wishes = ws }

-- on the console k the call x answers a, and leaves the console n
abbrev pub ConsoleCalled : ConsoleCall → Console → ConsoleAnswer → Console → Type 0
ConsoleCalled x k a n = ◌≡◌ {A = ConsoleStep} (record { answer = a; console = n }) (console_step x k)

abbrev pub wish_answered : Result (Unit {0}) KeyboardRefusal → ConsoleAnswer
wish_answered (Ok tt) = accepted
wish_answered (Err r) = refused r

abbrev pub turn_answered : Option Served → ConsoleAnswer
turn_answered None = empty
turn_answered (Some x) = served x.keyboard (spawned x.answer)

-- ---- the board
-- a store, the wishes that wait for it, and the seal
abbrev pub board_of : Model → Wishes → Seal → Board
board_of m ws s = record { console = console_of m ws; seal = s }

-- on the board b the call x answers a, and leaves the board n
abbrev pub BoardCalled : BoardCall → Board → BoardAnswer → Board → Type 0
BoardCalled x b a n = ◌≡◌ {A = BoardStep} (record { answer = a; board = n }) (board_step x b)

-- a call of the store, made on a board
abbrev pub on_store : Call → BoardCall
on_store c = sealed.on (console.on c)

abbrev pub seal_answered : Result (Unit {0}) SealRefusal → BoardAnswer
seal_answered (Ok tt) = sealed.sealed
seal_answered (Err r) = sealed.refused r

-- closed by the seal, or what `say` makes of what the store or the console gives
abbrev pub told_by : {A R : Type 0} → (Result A R → ConsoleAnswer) → Result A (BoardRefusal R) → BoardAnswer
told_by say (Ok x) = given (say (Ok x))
told_by say (Err BoardRefusal.Closed) = sealed.refused Closed
told_by say (Err (BoardRefusal.Given r)) = given (say (Err r))

abbrev pub host_told : Result (Unit {0}) (BoardRefusal Refusal) → BoardAnswer
host_told = told_by (λ a. plain (answered a))

abbrev pub node_told : Result NodeId (BoardRefusal Refusal) → BoardAnswer
node_told = told_by (λ a. plain (add_answered a))

abbrev pub spawn_told : Result VoiceId (BoardRefusal Refusal) → BoardAnswer
spawn_told = told_by (λ a. plain (spawned a))

abbrev pub wish_told : Result (Unit {0}) (BoardRefusal KeyboardRefusal) → BoardAnswer
wish_told = told_by wish_answered
