use Rattle.rules.proofs.OrderLaws.{order_rule, exactly}
use Rattle.rules.proofs.orders.an_order_is_taken_by_voice_parameter_and_sort_alone.Goals as goal

pub returns : goal.returns
returns c = record { orders = order_rule; exactly = λ m w name o r a t. exactly m w name o t }
