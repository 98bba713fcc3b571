-- A new store: no row of a table counts, so nothing that stands there is read.
use Rattle.std.specs.Prelude.{None}
use Prim.Native.Nat.{◌-◌}
use native.Mathlib.Omega.{arith}
use mathlib.Core.Path.{◌≡◌, ap, ◌∙◌}
use mathlib.Core.List.{List, []}
use lib.ListN.{length, drop}
use lib.Seq.{drop-length}
use Rattle.graph.specs.View.{new_graph}
use Rattle.voice.specs.Steals.{turned}
use Rattle.voice.specs.declared.steals.StealRecord.{StealRecord}
use Rattle.store.specs.declared.config.Config.{Config}
use Rattle.model.specs.Model.{Model}
use Rattle.model.specs.Make.{new_model}
use Rattle.steal_log.specs.Rows.{records_in}
use Rattle.memory.specs.declared.state.State.{State}
use Rattle.memory.specs.Parts.{state_of}
use Rattle.memory.specs.View.{Memory, model_of}
use Rattle.memory.specs.Lent.{lent_state}
use mathlib.Core.Bool.{false}

abbrev blank : Config → State
blank c = state_of c 0 0 0 0 0 None false 0 0 0 0 0

-- the model with these steal records, and nothing else
abbrev holding : Config → List StealRecord → Model
holding c l =
    record {
      shared = record { config = c; graph = new_graph; events = []; steals = record { count = 0; newest = l }; clock = 0; spawned = 0 };
      voices = [];
    }

pub new_is : (c : Config) (m : Memory) → model_of (lent_state (blank c) m) ≡ new_model c
new_is c m = ap (holding c) (none_left (turned 0 (records_in m.steals)))
  where
    none_left : (l : List StealRecord) → drop (length l - 0) l ≡ []
    none_left l = let all : length l - 0 ≡ length l = omega arith in ap (λ n. drop n l) all ∙ drop-length l
