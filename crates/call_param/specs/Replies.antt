-- What an order leaves in the words of the node table: the reply, and the very words where the answer is no.
use Rattle.std.specs.Prelude.{ℕ, ◌≡◌, false, List, take}
use Rattle.store.specs.declared.answer.Outcome.{Outcome}
use Rattle.model.specs.Order.{is_yes}
use Rattle.graph_rows.specs.Node.{nodes_in}
use Rattle.call_param.specs.Left.{Reply, reply}

pub record Replies (old new : List ℕ) (count : ℕ) (o : Outcome) (r : Reply) : Type 0 where
  pub is : reply o (take count (nodes_in new)) ≡ r
  pub same : is_yes o ≡ false → new ≡ old
