-- What a lent store stands for: the model. Each table is the first rows of its words, as many as the state counts; what lies past a
-- count is no part of the store, and a count above the room of a table is the room.
use Rattle.std.specs.Prelude.{ℕ, List, take}
use Rattle.graph.specs.View.{GraphView}
use Rattle.model.specs.SharedState.{SharedState}
use Rattle.model.specs.Model.{Model}
use Rattle.graph_rows.specs.Node.{nodes_in}
use Rattle.graph_rows.specs.Edge.{edges_in}
use Rattle.order_table.specs.Prepares.{ids_in}
use Rattle.event_table.specs.Rows.{events_in}
use Rattle.steal_log.specs.Rows.{log_in}
use Rattle.voice_rows.specs.Rows.{voices_in}
use Rattle.memory.specs.declared.state.State.{State}

-- the store: its state, and the words of its tables
pub record Memory : Type 0 where
  pub state : State
  pub nodes : List ℕ
  pub edges : List ℕ
  pub order : List ℕ
  pub voices : List ℕ
  pub events : List ℕ
  pub steals : List ℕ

abbrev pub graph_of : Memory → GraphView
graph_of m =
    record {
      nodes = take m.state.nodes (nodes_in m.nodes);
      edges = take m.state.edges (edges_in m.edges);
      sink = m.state.sink;
      prepared = m.state.prepared;
      order = take m.state.order (ids_in m.order);
      next = m.state.next;
    }

abbrev pub shared_of : Memory → SharedState
shared_of m =
    record {
      config = m.state.config;
      graph = graph_of m;
      events = take m.state.events (events_in m.events);
      steals = log_in m.steals m.state.stolen m.state.place;
      clock = m.state.clock;
      spawned = m.state.spawned;
    }

abbrev pub model_of : Memory → Model
model_of m = record { shared = shared_of m; voices = take m.state.voices (voices_in m.voices) }
