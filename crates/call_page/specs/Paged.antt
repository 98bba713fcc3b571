-- What the page answers, and what a text that is put at the start of a buffer leaves.
use Rattle.node.specs.declared.refusal.Refusal.{Refusal}
use Rattle.std.specs.Prelude.{ℕ, ◌≤◌, ◌≡◌, List, length, Result, Err, Ok}
use Rattle.lists.specs.Written.{written}
use Rattle.model.specs.Call as call

-- "answers the length, or 17", with what the buffer holds then
abbrev pub paged_of : Result ℕ Refusal → List ℕ → call.Answer
paged_of (Ok n) out = call.printed n out
paged_of (Err x) out = call.refused x

abbrev pub length_of : Result ℕ Refusal → ℕ
length_of (Ok n) = n
length_of (Err x) = 0

-- a text of at most `most` bytes, put at the start of `before`, has taken r bytes
pub record Put (most : ℕ) (text before after : List ℕ) (r : ℕ) : Type 0 where
  pub placed : after ≡ written text before
  pub long : r ≡ length text
  pub fits : r ≤ most
