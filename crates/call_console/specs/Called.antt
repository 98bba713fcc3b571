-- What the contracts of the console's calls say (SPEC 17): the store as it is lent, and beside it the wishes' state and
-- words.
use Rattle.node.specs.declared.refusal.Refusal.{Refusal}
use Rattle.std.specs.Prelude.{ℕ, ◌≡◌, List, Option, None, Some, Err, Ok, Result}
use Rattle.model.specs.Call.{spawned}
use Rattle.memory.specs.View.{Memory, model_of}
use Rattle.memory.specs.Called as store
use Rattle.console.specs.declared.refusal.KeyboardRefusal.{KeyboardRefusal}
use Rattle.console.specs.Wishes.{keyboards_refusal}
use Rattle.console.specs.Console.{Console, ConsoleCall, ConsoleAnswer, plain, accepted, refused, served, empty, ConsoleStep, console_step, ConsoleMade, made, refused_by, refused_for}
use Rattle.call_console.specs.declared.queues.WishState.{WishState}
use Rattle.call_console.specs.declared.turning.Served.{Served}
use Rattle.call_console.specs.declared.making.MakeRefusal.{MakeRefusal}
use Rattle.call_console.specs.declared.making.MakeRefusal.TheVariants.{Store, Keyboards}
use Rattle.call_console.specs.Queues.{wishes_of}

-- the console: the store, the wishes' state, and their words
pub record ConsoleMemory : Type 0 where
  pub store : Memory
  pub wishes : WishState
  pub words : List ℕ

abbrev pub memory : Memory → WishState → List ℕ → ConsoleMemory
memory m s c = record { store = m; wishes = s; words = c }

abbrev pub console_of : ConsoleMemory → Console
console_of m = record { model = model_of m.store; wishes = wishes_of m.wishes m.words }

-- from the console m the call x answers a and leaves the console n
abbrev pub Called : ConsoleCall → ConsoleMemory → ConsoleAnswer → ConsoleMemory → Type 0
Called x m a n = ◌≡◌ {A = ConsoleStep} (record { answer = a; console = console_of n }) (console_step x (console_of m))

-- A refused wish and an empty turn leave the very memory. An accepted wish leaves the store, and so does a turn whose spawn is refused,
-- but for 12; a turn stores nothing in the wishes' words, and a call of the store nothing of the wishes.
abbrev pub Kept : ConsoleAnswer → ConsoleMemory → ConsoleMemory → Type 0
Kept (plain a) m n = (n.wishes ≡ m.wishes) × (n.words ≡ m.words) × store.Kept a m.store n.store
Kept accepted m n = n.store ≡ m.store
Kept (refused r) m n = n ≡ m
Kept (served q a) m n = (n.words ≡ m.words) × store.Kept a m.store n.store
Kept empty m n = n ≡ m

-- ---- the answers in the theory's words
abbrev pub wish_answer : Result (Unit {0}) KeyboardRefusal → ConsoleAnswer
wish_answer (Ok tt) = accepted
wish_answer (Err r) = refused r

abbrev pub turn_answer : Option Served → ConsoleAnswer
turn_answer None = empty
turn_answer (Some x) = served x.keyboard (spawned x.answer)

-- the console, unless making was refused
abbrev pub made_of : Result (Unit {0}) MakeRefusal → Console → ConsoleMade
made_of (Ok tt) k = made k
made_of (Err (Store r)) k = refused_by r
made_of (Err (Keyboards r)) k = refused_for r

-- the store's refusal, or the keyboards', or neither
abbrev pub judged : Result (Unit {0}) Refusal → Option KeyboardRefusal → Result (Unit {0}) MakeRefusal
judged (Err r) o = Err (Store r)
judged (Ok tt) (Some r) = Err (Keyboards r)
judged (Ok tt) None = Ok tt

abbrev pub Judged : Result (Unit {0}) Refusal → ℕ → Result (Unit {0}) MakeRefusal → Type 0
Judged a n r = r ≡ judged a (keyboards_refusal n)
