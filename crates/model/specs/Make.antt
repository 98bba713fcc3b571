-- Making a store: 1, 2, 3, 20, or a new store (SPEC 3).
use Rattle.std.specs.Prelude.{ℕ, [], Option, None, Some}
use Rattle.node.specs.declared.refusal.Refusal.{Refusal}
use Rattle.node.specs.Refusal.{Said, refused, gives}
use Rattle.bus.specs.Rate.{rate_of}
use Rattle.store.specs.declared.config.Config.{Config}
use Rattle.model.specs.SharedState.{new_shared}
use Rattle.model.specs.Refuse.{make_refusal}
use Rattle.model.specs.Model.{Model}
-- making's arguments; `table`: whether fades take their gains from the fade table
pub use Rattle.store.specs.declared.config.Making.{Making}

-- the rate as a whole number; 0 where it is none, which is refused
abbrev pub whole_or0 : Said ℕ → ℕ
whole_or0 (refused n) = 0
whole_or0 (gives n) = n

abbrev pub config_of : Making → Config
config_of k = record { rate = whole_or0 (rate_of k.rate); block = k.block; budget = k.budget; policy = k.policy; scope = k.scope; table = k.table }

abbrev pub refusal_of : Making → Option Refusal
refusal_of k = make_refusal (rate_of k.rate) k.block k.budget k.table

abbrev pub new_model : Config → Model
new_model c = record { shared = new_shared c; voices = [] }

abbrev pub made_unless : Option Refusal → Model → Option Model
made_unless None m = Some m
made_unless (Some r) m = None

-- the new store, or none where making is refused
abbrev pub make : Making → Option Model
make k = made_unless (refusal_of k) (new_model (config_of k))
