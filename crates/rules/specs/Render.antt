-- When a render is refused and how far the clock goes: SPEC 12.
use Rattle.std.specs.Prelude.{ℕ, ◌+◌, ◌≤◌, ◌<◌, ◌≡◌, ◌↔◌, List, length}
use Rattle.node.specs.declared.refusal.Refusal.{Refusal}
use Rattle.node.specs.declared.refusal.Refusal.TheVariants.{ClockEnd, ShortBuffer}
use Rattle.store.specs.declared.answer.Rendered.{Rendered}
use Rattle.model.specs.Model.{Model}
use Rattle.model.specs.Call.{Call, Answer, step}
use Rattle.model.specs.Call as call

-- the end of the block that comes next, in samples
abbrev pub block_end : Model → ℕ
block_end m = m.shared.clock + m.shared.config.block

-- the clock can hold it, and the lent list has room for all that the queue can hold
pub record Accepted (out : List ℕ) (m : Model) : Type 0 where
  pub clock : block_end m ≤ 18446744073709551615
  pub room : 256 ≤ length out

abbrev pub answered : List ℕ → Model → Answer
answered out m = (step (call.render out) m).answer

abbrev pub after : List ℕ → Model → Model
after out m = (step (call.render out) m).model

-- a render that is refused for r takes no event and gives the lent list back as it was
abbrev pub refusing : Refusal → List ℕ → Answer
refusing r out = call.rendered (Rendered.Refused r) 0 out

-- what a render answers that is not refused
pub record Answered (out : List ℕ) (m : Model) : Type 0 where
  pub says : Rendered
  pub count : ℕ
  pub entries : List ℕ
  pub answer : answered out m ≡ call.rendered says count entries
  pub not_refused : (r : Refusal) → says ≡ Rendered.Refused r → ⊥

pub record RenderRule (out : List ℕ) (m : Model) : Type 0 where
  -- 15 exactly when the clock would pass 2^64 - 1; 17 exactly when it would not and the list is shorter than 256
  -- entries
  pub fifteen : (answered out m ≡ refusing ClockEnd out) ↔ (18446744073709551615 < block_end m)
  pub seventeen : (answered out m ≡ refusing ShortBuffer out)
      ↔ ((block_end m ≤ 18446744073709551615) × (length out < 256))
  pub unchanged : (Accepted out m → ⊥) → after out m ≡ m
  -- and else it is not refused, whatever the graph is and whatever is due, and the clock goes on by a block
  pub answers : Accepted out m → Answered out m
  pub goes_on : Accepted out m → (after out m).shared.clock ≡ block_end m
