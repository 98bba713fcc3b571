-- By the law: computing so long a list takes long, and more stack than there is.
use Rattle.std.proofs.Common.{ℕ, sym}
use Rattle.std.proofs.lemmas.List.{length-replicate}
use Rattle.codec.proofs.field.input_room.Goals as goal

pub returns : goal.returns
returns c = sym (length-replicate {0} {A = ℕ} 786432 0)
