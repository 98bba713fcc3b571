use Prim.Native.Nat.{ℕ}
use mathlib.Core.Path.{ap}
use mathlib.Core.List.{List}
use lib.ListN.{get_or}
use Rattle.wish_state_words.proofs.queue_word.Goals as goal

pub returns : goal.returns
returns c = ap (λ (l : List ℕ). record { start = get_or l 0 0; count = get_or l 1 0 }) c.byte_word.ensures
