-- The state with some parts changed.
use Rattle.node.specs.declared.record.NodeId.{NodeId}
use Rattle.std.specs.Prelude.{ℕ, Bool, true, false, Option}
use Rattle.store.specs.declared.config.Config.{Config}
use Rattle.memory.specs.declared.state.State.{State}

-- a state, its fields in the order of the struct
abbrev pub state_of : Config → ℕ → ℕ → ℕ → ℕ → ℕ → Option NodeId → Bool → ℕ → ℕ → ℕ → ℕ → ℕ → State
state_of config nodes edges order voices events sink prepared next clock spawned stolen place =
    record {
      config = config;
      nodes = nodes;
      edges = edges;
      order = order;
      voices = voices;
      events = events;
      sink = sink;
      prepared = prepared;
      next = next;
      clock = clock;
      spawned = spawned;
      stolen = stolen;
      place = place;
    }

-- "Adding, removing, connecting or disconnecting makes it unprepared", and so does setting the sink
abbrev pub graphed : State → ℕ → ℕ → Option NodeId → ℕ → State
graphed s nodes edges sink next =
    state_of s.config nodes edges s.order s.voices s.events sink false next s.clock s.spawned s.stolen s.place

-- prepared, with so many nodes in processing order
abbrev pub ordered : State → ℕ → State
ordered s order =
    state_of s.config s.nodes s.edges order s.voices s.events s.sink true s.next s.clock s.spawned s.stolen s.place

-- so many voices and pending events, this clock, so many voice ids given out, so many steal records written, and the place of the next one
abbrev counted : State → ℕ → ℕ → ℕ → ℕ → ℕ → ℕ → State
counted s voices events clock spawned stolen place =
    state_of s.config s.nodes s.edges s.order voices events s.sink s.prepared s.next clock spawned stolen place

abbrev pub queued : State → ℕ → State
queued s events = counted s s.voices events s.clock s.spawned s.stolen s.place

abbrev pub voiced : State → ℕ → State
voiced s voices = counted s voices s.events s.clock s.spawned s.stolen s.place

abbrev pub clocked : State → ℕ → State
clocked s clock = counted s s.voices s.events clock s.spawned s.stolen s.place

abbrev pub numbered : State → ℕ → State
numbered s spawned = counted s s.voices s.events s.clock spawned s.stolen s.place

abbrev pub logged : State → ℕ → ℕ → State
logged s stolen place = counted s s.voices s.events s.clock s.spawned stolen place
