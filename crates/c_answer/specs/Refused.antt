-- The numbers of refusals that hold others, and which calls keep every word. Whoever refused, an answer's number is 0 or its refusal's, and a
-- call that is not refused keeps nothing.
use Rattle.std.specs.Prelude.{ℕ, Bool, true, false, Result, Ok, Err}
use Rattle.node.specs.Refusal.{number_of}
use Rattle.console.specs.Refusal as keyboard
use Rattle.sealed.specs.Refusal as seal
use Rattle.sealed.specs.declared.refusal.SealRefusal.TheVariants.{Closed}
use Rattle.call_console.specs.declared.making.MakeRefusal.{MakeRefusal}
use Rattle.call_console.specs.declared.making.MakeRefusal.TheVariants as making
use Rattle.call_seal.specs.declared.closing.BoardRefusal.{BoardRefusal}

abbrev pub made_number : MakeRefusal → ℕ
made_number (making.Store r) = number_of r
made_number (making.Keyboards r) = keyboard.number_of r

-- closed by the seal, or refused by the store or the console
abbrev pub board_number : {R : Type 0} → (R → ℕ) → BoardRefusal R → ℕ
board_number number BoardRefusal.Closed = seal.number_of Closed
board_number number (BoardRefusal.Given r) = number r

abbrev pub board_kept : {R : Type 0} → (R → Bool) → BoardRefusal R → Bool
board_kept kept BoardRefusal.Closed = true
board_kept kept (BoardRefusal.Given r) = kept r

-- ---- of an answer
abbrev pub number_by : {A R : Type 0} → (R → ℕ) → Result A R → ℕ
number_by number (Ok x) = 0
number_by number (Err r) = number r

abbrev pub kept_by : {A R : Type 0} → (R → Bool) → Result A R → Bool
kept_by kept (Ok x) = false
kept_by kept (Err r) = kept r
