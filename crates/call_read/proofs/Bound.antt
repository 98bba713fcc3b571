-- What the check reads off the contract of `clock` is the model's equation, with the answer that the code gives: a contract that says
-- less is refused here. Crate refinement binds every call in this way; this one stands beside its function, so that an edit of the
-- contract can show it (must-fail/contract_weakened).
use Rattle.model.specs.Call as call
use Rattle.memory.specs.View.{Memory}
use Rattle.memory.specs.Lent.{lent_state}
use Rattle.memory.specs.Called.{Called}
use Rattle.call_read.proofs.records.clock.Reads as fn-clock

pub clock_bound : (κs : _) (a : _) (r : _) (s : _) → fn-clock.Post κs a r s → (m : Memory) → Called (call.ask call.clock) (lent_state a.0 m) (call.time r) (lent_state a.0 m)
clock_bound κs a r s p m = p m
