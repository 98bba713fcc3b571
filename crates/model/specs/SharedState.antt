-- What the store has besides its voices (SPEC 1): what making fixed, the graph, the pending events, the steal records,
-- the clock, the voice ids given out. The ledger works out the same from the calls, by the same rules (SPEC 21.1).
use Rattle.std.specs.Prelude.{ℕ, ◌+◌, List, [], Bool, ◌&&◌, is_some}
use Rattle.bus.specs.Fade.{fade_length}
use Rattle.graph.specs.View.{GraphView, new_graph}
use Rattle.scheduler.specs.declared.event.Event.{Event}
use Rattle.voice.specs.Steals.{StealLog}
use Rattle.store.specs.declared.config.Config.{Config}

pub record SharedState : Type 0 where
  pub config : Config
  pub graph : GraphView
  pub events : List Event
  pub steals : StealLog
  pub clock : ℕ
  pub spawned : ℕ

-- the fade length L (SPEC 10.1)
abbrev pub length_l : SharedState → ℕ
length_l d = fade_length d.config.rate

-- a new store (SPEC 3): unprepared, and no voice id has been given out, of which the first is 1
abbrev pub new_shared : Config → SharedState
new_shared c =
    record {
      config = c;
      graph = new_graph;
      events = [];
      steals = record { count = 0; newest = [] };
      clock = 0;
      spawned = 0;
    }

-- ---- one part changed
abbrev pub with_graph : GraphView → SharedState → SharedState
with_graph g d =
    record { config = d.config; graph = g; events = d.events; steals = d.steals; clock = d.clock; spawned = d.spawned }

abbrev pub with_events : List Event → SharedState → SharedState
with_events q d =
    record { config = d.config; graph = d.graph; events = q; steals = d.steals; clock = d.clock; spawned = d.spawned }

abbrev pub with_steals : StealLog → SharedState → SharedState
with_steals b d =
    record { config = d.config; graph = d.graph; events = d.events; steals = b; clock = d.clock; spawned = d.spawned }

abbrev pub with_clock : ℕ → SharedState → SharedState
with_clock c d =
    record { config = d.config; graph = d.graph; events = d.events; steals = d.steals; clock = c; spawned = d.spawned }

abbrev pub with_config : Config → SharedState → SharedState
with_config c d =
    record { config = c; graph = d.graph; events = d.events; steals = d.steals; clock = d.clock; spawned = d.spawned }

-- so many voice ids given out
abbrev pub with_spawned : ℕ → SharedState → SharedState
with_spawned n d =
    record { config = d.config; graph = d.graph; events = d.events; steals = d.steals; clock = d.clock; spawned = n }

-- a new voice takes one voice id more (SPEC 9.9); the noise sequence is its bus's
abbrev pub one_more_voice : SharedState → SharedState
one_more_voice d =
    record {
      config = d.config;
      graph = d.graph;
      events = d.events;
      steals = d.steals;
      clock = d.clock;
      spawned = d.spawned + 1;
    }

-- a render sounds where the graph is prepared and has a sink (SPEC 12)
abbrev pub sounding : SharedState → Bool
sounding d = d.graph.prepared && is_some d.graph.sink
