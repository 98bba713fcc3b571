-- What an exported call of a board answers and leaves.
use Rattle.std.specs.Prelude.{ℕ, ◌≡◌, List, Bool, true, false, Some, Result, Ok, Err}
use Rattle.model.specs.Numbers.{number_in}
use Rattle.memory.specs.Called.{keeps}
use Rattle.console.specs.Console.{ConsoleAnswer, plain, accepted, served, empty}
use Rattle.console.specs.Console as console
use Rattle.sealed.specs.Refusal.{number_of}
use Rattle.sealed.specs.Board.{BoardCall, BoardAnswer, given, sealed, refused, board_step}
use Rattle.node.specs.declared.record.NodeId.{NodeId}
use Rattle.node.specs.declared.record.VoiceId.{VoiceId}
use Rattle.node.specs.declared.refusal.Refusal.{Refusal}
use Rattle.node.specs.Refusal as store
use Rattle.call_seal.specs.declared.closing.BoardRefusal.{BoardRefusal}
use Rattle.call_seal.specs.Board.{BoardMemory, board_of}
use Rattle.sealed.specs.Seal.{Seal}
use Rattle.c_answer.specs.Refused.{board_number, board_kept, number_by, kept_by}
use Rattle.c_answer.specs.Console.{console_code}
use Rattle.seal_words.specs.Seal.{seal_in}

-- ---- the number of an answer
abbrev pub board_code : BoardAnswer → ℕ
board_code (given a) = console_code a
board_code sealed = 0
board_code (refused r) = number_of r

-- whether the call keeps every word of the board; after 12 the steals and reclaims that were made stand
abbrev pub keeps_all : ConsoleAnswer → Bool
keeps_all (plain a) = keeps (number_in a)
keeps_all accepted = false
keeps_all (console.refused r) = true
keeps_all (served q a) = false
keeps_all empty = true

abbrev pub board_keeps : BoardAnswer → Bool
board_keeps (given a) = keeps_all a
board_keeps sealed = false
board_keeps (refused r) = true

-- ---- the same of what a call of the store is answered on a board
abbrev pub store_code : {A : Type 0} → Result A (BoardRefusal Refusal) → ℕ
store_code a = number_by (board_number store.number_of) a

abbrev pub store_kept : {A : Type 0} → Result A (BoardRefusal Refusal) → Bool
store_kept a = kept_by (board_kept (λ r. keeps (Some (store.number_of r)))) a

-- ---- the contract of an export
abbrev pub said_on : BoardCall → BoardMemory → BoardAnswer
said_on x m = (board_step x (board_of m)).answer

-- From the board m the call x answers k and leaves the board n. Of the words w that it may write it leaves v: those of the state, of what
-- waits, or of the seal.
pub record BoardExported (x : BoardCall) (m : BoardMemory) (w : List ℕ) (k : ℕ) (n : BoardMemory) (v : List ℕ) : Type 0 where
  pub answer : k ≡ board_code (said_on x m)
  pub board : board_of n ≡ (board_step x (board_of m)).board
  pub same : board_keeps (said_on x m) ≡ true → (v ≡ w) × (n ≡ m)

-- The call x answers `say value`, and this value is what the lent cell holds
pub record BoardTells {A : Type 0} (say : A → BoardAnswer) (x : BoardCall) (m : BoardMemory) (cell : A → Type 0) : Type 0 where
  pub value : A
  pub answer : said_on x m ≡ say value
  pub held : cell value

-- ---- what stands in a cell: the new node, the new voice; else what stood there
abbrev pub added_cell : Result NodeId (BoardRefusal Refusal) → ℕ → ℕ
added_cell (Ok k) old = k.0
added_cell (Err r) old = old

abbrev pub born_cell : Result VoiceId (BoardRefusal Refusal) → ℕ → ℕ
born_cell (Ok w) old = w.0
born_cell (Err r) old = old

-- what `settle_seal` does: the seal x is written to the words w, unless they are kept
pub record SealSettled (w : List ℕ) (x : Seal) (kept : Bool) (v : List ℕ) : Type 0 where
  pub stays : kept ≡ true → v ≡ w
  pub moved : kept ≡ false → seal_in v ≡ x
