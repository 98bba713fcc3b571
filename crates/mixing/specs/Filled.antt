-- What fade output and bus sum answer, with what the lent output holds then.
use Rattle.node.specs.declared.refusal.Refusal.{Refusal}
use Rattle.std.specs.Prelude.{List, Float, Result, Err, Ok}
use Rattle.model.specs.Call as call

abbrev pub filled_of : Result (Unit {0}) Refusal → List Float → call.Answer
filled_of (Ok tt) out = call.filled out
filled_of (Err x) out = call.refused x
