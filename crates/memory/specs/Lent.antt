-- The store m, of which a call was lent these parts: the state, and the words of some tables. What a call was not lent stands in m
-- as it is, before the call and after it.
use Rattle.std.specs.Prelude.{ℕ, List}
use Rattle.memory.specs.declared.state.State.{State}
use Rattle.memory.specs.View.{Memory}

abbrev pub lent_state : State → Memory → Memory
lent_state s m = record { state = s; nodes = m.nodes; edges = m.edges; order = m.order; voices = m.voices; events = m.events; steals = m.steals }

abbrev pub lent_nodes : State → List ℕ → Memory → Memory
lent_nodes s nodes m = record { state = s; nodes = nodes; edges = m.edges; order = m.order; voices = m.voices; events = m.events; steals = m.steals }

-- nodes and edges
abbrev pub lent_graph : State → List ℕ → List ℕ → Memory → Memory
lent_graph s nodes edges m = record { state = s; nodes = nodes; edges = edges; order = m.order; voices = m.voices; events = m.events; steals = m.steals }

-- nodes, edges and the processing order
abbrev pub lent_order : State → List ℕ → List ℕ → List ℕ → Memory → Memory
lent_order s nodes edges order m = record { state = s; nodes = nodes; edges = edges; order = order; voices = m.voices; events = m.events; steals = m.steals }

abbrev pub lent_events : State → List ℕ → Memory → Memory
lent_events s events m = record { state = s; nodes = m.nodes; edges = m.edges; order = m.order; voices = m.voices; events = events; steals = m.steals }

-- nodes, edges and voices
abbrev pub lent_voices : State → List ℕ → List ℕ → List ℕ → Memory → Memory
lent_voices s nodes edges voices m = record { state = s; nodes = nodes; edges = edges; order = m.order; voices = voices; events = m.events; steals = m.steals }

-- nodes and voices
abbrev pub lent_params : State → List ℕ → List ℕ → Memory → Memory
lent_params s nodes voices m = record { state = s; nodes = nodes; edges = m.edges; order = m.order; voices = voices; events = m.events; steals = m.steals }

-- all but the steal records
abbrev pub lent_render : State → List ℕ → List ℕ → List ℕ → List ℕ → List ℕ → Memory → Memory
lent_render s nodes edges order voices events m = record { state = s; nodes = nodes; edges = edges; order = order; voices = voices; events = events; steals = m.steals }

-- nodes, edges, voices and steal records
abbrev pub lent_spawn : State → List ℕ → List ℕ → List ℕ → List ℕ → Memory → Memory
lent_spawn s nodes edges voices steals m = record { state = s; nodes = nodes; edges = edges; order = m.order; voices = voices; events = m.events; steals = steals }

-- what the page reads: the voices, and the edges that tell which ports they feed
abbrev pub lent_page : State → List ℕ → List ℕ → Memory → Memory
lent_page s edges voices m = record { state = s; nodes = m.nodes; edges = edges; order = m.order; voices = voices; events = m.events; steals = m.steals }

-- one table
abbrev pub lent_edges : State → List ℕ → Memory → Memory
lent_edges s edges m = record { state = s; nodes = m.nodes; edges = edges; order = m.order; voices = m.voices; events = m.events; steals = m.steals }

abbrev pub lent_processing : State → List ℕ → Memory → Memory
lent_processing s order m = record { state = s; nodes = m.nodes; edges = m.edges; order = order; voices = m.voices; events = m.events; steals = m.steals }

abbrev pub lent_voice_table : State → List ℕ → Memory → Memory
lent_voice_table s voices m = record { state = s; nodes = m.nodes; edges = m.edges; order = m.order; voices = voices; events = m.events; steals = m.steals }

abbrev pub lent_steals : State → List ℕ → Memory → Memory
lent_steals s steals m = record { state = s; nodes = m.nodes; edges = m.edges; order = m.order; voices = m.voices; events = m.events; steals = steals }
