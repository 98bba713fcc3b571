-- What making answers, as the model says it.
use Rattle.node.specs.declared.refusal.Refusal.{Refusal}
use Rattle.std.specs.Prelude.{Option, None, Some, Result, Err, Ok}
use Rattle.model.specs.Model.{Model}

-- the store, unless making was refused
abbrev pub if_done : Result (Unit {0}) Refusal → Model → Option Model
if_done (Ok tt) m = Some m
if_done (Err r) m = None
