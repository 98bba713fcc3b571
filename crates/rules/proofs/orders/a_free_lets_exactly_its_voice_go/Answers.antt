use Rattle.rules.proofs.FreeLaws.{free_rule, free_exactly}
use Rattle.rules.proofs.orders.a_free_lets_exactly_its_voice_go.Goals as goal

pub returns : goal.returns
returns c = record { frees = free_rule; exactly = λ m w r a f. free_exactly f }
