-- What an exported call answers and leaves. A host in C holds words: the state is a list of words (state_words), an answer is one
-- number, and what else a call gives is stored in cells that the host lends.
use Rattle.node.specs.declared.record.VoiceId.{VoiceId}
use Rattle.node.specs.declared.refusal.Refusal.{Refusal}
use Rattle.std.specs.Prelude.{ℕ, ◌≡◌, List, Bool, true, false, Some, Result, Err, Ok}
use Rattle.node.specs.Refusal.{number_of}
use Rattle.store.specs.declared.answer.Rendered.{Rendered}
use Rattle.store.specs.declared.answer.Rendered.TheVariants as rendered
use Rattle.model.specs.Call.{Call, Answer, step}
use Rattle.model.specs.Call as call
use Rattle.model.specs.Order.{outcome_number}
use Rattle.model.specs.Numbers.{number_in}
use Rattle.memory.specs.View.{Memory, model_of}
use Rattle.memory.specs.Called.{keeps}
use Rattle.memory.specs.declared.state.State.{State}
use Rattle.state_words.specs.State.{state_in}
use Rattle.c_answer.specs.Refused.{number_by, kept_by}

-- ---- the number of an answer: 0 done, or 01's and 02's number
abbrev pub result_code : {A : Type 0} → Result A Refusal → ℕ
result_code a = number_by number_of a

-- whether a call that answers by a result keeps every word
abbrev pub result_kept : {A : Type 0} → Result A Refusal → Bool
result_kept a = kept_by (λ r. keeps (Some (number_of r))) a

-- "the render is not refused: it answers silent and 13 or 14"
abbrev pub render_code : Rendered → ℕ
render_code rendered.Sounding = 0
render_code rendered.Silent = 0
render_code (rendered.Unprepared r) = number_of r
render_code (rendered.Refused r) = number_of r

abbrev pub code : Answer → ℕ
code call.done = 0
code (call.refused r) = number_of r
code (call.node k) = 0
code (call.spawned s) = result_code s
code (call.removed n) = 0
code (call.ordered o) = outcome_number o
code (call.rendered a n out) = render_code a
code (call.known l) = 0
code (call.reached p) = 0
code (call.found v) = 0
code (call.found_node n) = 0
code (call.all vs) = 0
code (call.stolen b) = 0
code (call.wires es) = 0
code (call.in_order l) = 0
code (call.fed l) = 0
code (call.time t) = 0
code (call.printed n out) = 0
code (call.filled out) = 0
code (call.filled_whole out) = 0

-- ---- the contract of an export
abbrev pub said_by : Call → Memory → Answer
said_by c m = (step c (model_of m)).answer

-- From the store m, whose state stands in the words w, the call c answers k and leaves the store n, whose state stands in the words v.
-- "Each refusal returns its number and leaves store and buffers unchanged": not a word of state or tables changes; only after 12 the
-- steals and reclaims stand
pub record Exported (c : Call) (m : Memory) (w : List ℕ) (k : ℕ) (n : Memory) (v : List ℕ) : Type 0 where
  pub answer : k ≡ code (said_by c m)
  pub model : model_of n ≡ (step c (model_of m)).model
  pub same : keeps (number_in (said_by c m)) ≡ true → (v ≡ w) × (n ≡ m)

-- The call c answers `say value`, by the number k; and this value is what the lent cells hold
pub record Tells {A : Type 0} (say : A → Answer) (c : Call) (m : Memory) (k : ℕ) (cells : A → Type 0) : Type 0 where
  pub value : A
  pub answer : said_by c m ≡ say value
  pub number : k ≡ code (say value)
  pub held : cells value

-- ---- what stands in a cell: the new voice, 1 or 0 for sounding or silent; where the call was refused, what stood there
abbrev pub voice_cell : Result VoiceId Refusal → ℕ → ℕ
voice_cell (Ok w) old = w.0
voice_cell (Err r) old = old

abbrev pub sound_cell : Rendered → ℕ → ℕ
sound_cell rendered.Sounding old = 1
sound_cell rendered.Silent old = 0
sound_cell (rendered.Unprepared r) old = 0
sound_cell (rendered.Refused r) old = old

-- 02, Paper 1: "Render also answers how many events it took"; a refused one leaves the cell
abbrev pub taken_cell : Rendered → ℕ → ℕ → ℕ
taken_cell rendered.Sounding n old = n
taken_cell rendered.Silent n old = n
taken_cell (rendered.Unprepared r) n old = n
taken_cell (rendered.Refused r) n old = old

-- what a render answers besides the list that it was lent
pub record Took : Type 0 where
  pub answer : Rendered
  pub taken : ℕ

-- what `settle` does: the state s is written to the words w, unless they are kept
pub record Settled (w : List ℕ) (s : State) (kept : Bool) (k : ℕ) (r : ℕ) (v : List ℕ) : Type 0 where
  pub told : r ≡ k
  pub stays : kept ≡ true → v ≡ w
  pub moved : kept ≡ false → state_in v ≡ s
