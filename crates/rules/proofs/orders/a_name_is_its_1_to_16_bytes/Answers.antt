use Rattle.rules.proofs.OrderLaws.{name_rule}
use Rattle.rules.proofs.orders.a_name_is_its_1_to_16_bytes.Goals as goal

pub returns : goal.returns
returns c = name_rule
