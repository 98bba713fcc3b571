-- What making answers and gives.
use Rattle.std.specs.Prelude.{◌≡◌, Option, None, Some, Result, Ok, Err}
use Rattle.node.specs.declared.refusal.Refusal.{Refusal}
use Rattle.store.specs.declared.config.Config.{Config}
use Rattle.model.specs.Make.{Making, make, refusal_of}
use Rattle.model.specs.Model.{Model}

-- what making fixes, or why it is refused
abbrev pub unless : Option Refusal → Config → Result Config Refusal
unless None c = Ok c
unless (Some r) c = Err r

-- making gives the new store, or says why it is refused
abbrev pub Makes : Making → Result Model Refusal → Type 0
Makes k (Ok m) = make k ≡ Some m
Makes k (Err r) = refusal_of k ≡ Some r

-- made in place of m: the new store is n, or m stays
abbrev pub Remakes : Making → Model → Result (Unit {0}) Refusal → Model → Type 0
Remakes k m (Ok tt) n = make k ≡ Some n
Remakes k m (Err r) n = (refusal_of k ≡ Some r) × (n ≡ m)
