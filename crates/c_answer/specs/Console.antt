-- What an exported call of the console answers and leaves (02, Paper 11). Beside the state's words a host in C holds those of what waits
-- (wish_state_words).
use Rattle.std.specs.Prelude.{ℕ, ◌≡◌, List, Bool, true, false, Option, None, Some}
use Rattle.node.specs.Refusal.{number_of}
use Rattle.console.specs.Refusal as keyboard
use Rattle.model.specs.Numbers.{number_in}
use Rattle.console.specs.Console.{ConsoleCall, ConsoleAnswer, plain, accepted, refused, served, empty, console_step, ConsoleMade, made, refused_by, refused_for}
use Rattle.memory.specs.View.{Memory}
use Rattle.memory.specs.Lent.{lent_state}
use Rattle.memory.specs.Called.{keeps}
use Rattle.call_console.specs.declared.queues.WishState.{WishState}
use Rattle.call_console.specs.declared.turning.Served.{Served}
use Rattle.call_console.specs.Called.{ConsoleMemory, memory, console_of, turn_answer}
use Rattle.state_words.specs.State.{state_in}
use Rattle.wish_state_words.specs.Waiting.{waiting_in}
use Rattle.c_answer.specs.Exported.{code, voice_cell}

-- "An empty turn says so": by a number that no refusal has, since those are bytes
abbrev pub empty_turn : ℕ
empty_turn = 256

-- ---- the number of an answer; a turn answers the number of the spawn that it served
abbrev pub console_code : ConsoleAnswer → ℕ
console_code (plain a) = code a
console_code accepted = 0
console_code (refused r) = keyboard.number_of r
console_code (served q a) = code a
console_code empty = empty_turn

-- whether the call keeps every word of the store, and every word of what waits. A served wish waits no more, also where its spawn is
-- refused; after 12 the steals and reclaims that were made stand
abbrev pub store_kept : ConsoleAnswer → Bool
store_kept (plain a) = keeps (number_in a)
store_kept accepted = true
store_kept (refused r) = true
store_kept (served q a) = keeps (number_in a)
store_kept empty = true

abbrev pub waiting_kept : ConsoleAnswer → Bool
waiting_kept (plain a) = true
waiting_kept accepted = false
waiting_kept (refused r) = true
waiting_kept (served q a) = false
waiting_kept empty = true

-- ---- the contract of an export
abbrev pub said_to : ConsoleCall → ConsoleMemory → ConsoleAnswer
said_to x m = (console_step x (console_of m)).answer

-- From the console m, whose state stands in the words w and what waits in the words u, the call x answers k and leaves the console n and
-- the words v and t.
pub record ConsoleExported (x : ConsoleCall) (m : ConsoleMemory) (w u : List ℕ) (k : ℕ) (n : ConsoleMemory) (v t : List ℕ) : Type 0 where
  pub answer : k ≡ console_code (said_to x m)
  pub console : console_of n ≡ (console_step x (console_of m)).console
  pub store : store_kept (said_to x m) ≡ true → (v ≡ w) × (n.store ≡ m.store)
  pub waiting : waiting_kept (said_to x m) ≡ true → (t ≡ u) × (n.words ≡ m.words)

-- ---- what stands in the cells after a turn: the keyboard that it served and the new voice; else what stood there
abbrev pub keyboard_cell : Option Served → ℕ → ℕ
keyboard_cell None old = old
keyboard_cell (Some x) old = x.keyboard

abbrev pub served_cell : Option Served → ℕ → ℕ
served_cell None old = old
served_cell (Some x) old = voice_cell x.answer old

pub record TurnCells (x : ConsoleCall) (m : ConsoleMemory) (q q' v v' : ℕ) : Type 0 where
  pub value : Option Served
  pub answer : said_to x m ≡ turn_answer value
  pub keyboard : q' ≡ keyboard_cell value q
  pub voice : v' ≡ served_cell value v

-- ---- making
abbrev pub made_code : ConsoleMade → ℕ
made_code (made k) = 0
made_code (refused_by r) = number_of r
made_code (refused_for r) = keyboard.number_of r

abbrev pub made_kept : ConsoleMade → Bool
made_kept (made k) = false
made_kept (refused_by r) = true
made_kept (refused_for r) = true

-- Making comes to o and answers k. The words w and u become v and t: those of the new console, whatever stands in its tables, or the same.
pub record MakesConsole (o : ConsoleMade) (w u : List ℕ) (k : ℕ) (v t : List ℕ) : Type 0 where
  pub answer : k ≡ made_code o
  pub console : made_kept o ≡ false → (m : Memory) (c : List ℕ) → o ≡ made (console_of (memory (lent_state (state_in v) m) (waiting_in t) c))
  pub same : made_kept o ≡ true → (v ≡ w) × (t ≡ u)

-- what `settle_waiting` does: the state s of what waits is written to the words u, unless they are kept
pub record WaitingSettled (u : List ℕ) (s : WishState) (kept : Bool) (t : List ℕ) : Type 0 where
  pub stays : kept ≡ true → t ≡ u
  pub moved : kept ≡ false → waiting_in t ≡ s
