-- What fade output and bus sum in whole numbers answer, with what the lent output holds then.
use Rattle.node.specs.declared.refusal.Refusal.{Refusal}
use Rattle.std.specs.Prelude.{List, ℤ, Result, Err, Ok}
use Rattle.model.specs.Call as call

abbrev pub filled_of : Result (Unit {0}) Refusal → List ℤ → call.Answer
filled_of (Ok tt) out = call.filled_whole out
filled_of (Err x) out = call.refused x
