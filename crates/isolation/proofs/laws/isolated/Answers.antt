use Rattle.isolation.proofs.Theorem.{isolated, isolated_up_to_ids}
use Rattle.isolation.proofs.Store.{store_isolated}
use Rattle.isolation.proofs.laws.isolated.Goals as goal

pub returns : goal.returns
returns c = record { ledger = isolated; ids = isolated_up_to_ids; store = store_isolated }
