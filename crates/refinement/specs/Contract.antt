-- A call of the code on a lent store, by the contract of its function as the check reads it off the source: `Post` is what the
-- `ensures` lines say of the arguments a, the result r and what lent memory holds after the call, s. The state is the first argument,
-- `a.0`, then come the tables that the call is lent and its other arguments: `a.1.0`, `a.1.1.0`, ... What a table holds before the
-- call is `.now` of a, and after it `.now` of s; m is the rest of the store, which the call was not lent. Nothing is restated here: a
-- contract that says less has a `Post` that says less, and then `called` (proofs/Refined.antt) is not proved.
use Rattle.std.specs.Prelude.{◌≡◌, List, [], ◌∷◌, take}
use Rattle.node.specs.declared.order.LastOrder.TheVariants as LastOrder
use Rattle.graph_rows.specs.Edge.{edges_in}
use Rattle.order_table.specs.Prepares.{ids_in}
use Rattle.voice.specs.Steals.{log_of}
use Rattle.voice_rows.specs.Rows.{voices_in}
use Rattle.model.specs.Wish.{call_of}
use Rattle.model.specs.Call.{Call, Answer}
use Rattle.model.specs.Call as call
use Rattle.memory.specs.View.{Memory}
use Rattle.memory.specs.Lent.{lent_edges, lent_events, lent_graph, lent_nodes, lent_order, lent_page, lent_params, lent_processing, lent_render, lent_spawn, lent_state, lent_steals, lent_voice_table, lent_voices}
use Rattle.memory.specs.Called.{answered, add_answered}
use Rattle.call_page.specs.Paged.{paged_of}
use Rattle.mixing.specs.Filled.{filled_of}
use Rattle.whole_mixing.specs.Filled as whole
use Rattle.call_host.proofs.host.add_node.Reads as fn-add-node
use Rattle.call_host.proofs.host.remove_node.Reads as fn-remove-node
use Rattle.call_host.proofs.host.connect.Reads as fn-connect
use Rattle.call_host.proofs.host.disconnect.Reads as fn-disconnect
use Rattle.call_host.proofs.host.set_sink.Reads as fn-set-sink
use Rattle.call_spawn.proofs.spawn.spawn_voice.Reads as fn-spawn-voice
use Rattle.call_free.proofs.free.free_voice.Reads as fn-free-voice
use Rattle.call_clear.proofs.clear.free_done_synths.Reads as fn-free-done
use Rattle.call_param.proofs.param.set_voice_param.Reads as fn-set-param
use Rattle.call_param.proofs.param.set_voice_param_glide.Reads as fn-set-param-glide
use Rattle.call_host.proofs.schedule.schedule.Reads as fn-schedule
use Rattle.call_report.proofs.report.report.Reads as fn-report
use Rattle.call_host.proofs.preparing.prepare.Reads as fn-prepare
use Rattle.call_render.proofs.render.render.Reads as fn-render
use Rattle.call_read.proofs.look.voice_level.Reads as fn-voice-level
use Rattle.call_read.proofs.look.fade_position.Reads as fn-fade-position
use Rattle.call_read.proofs.look.voice.Reads as fn-voice
use Rattle.call_read.proofs.look.voice_at.Reads as fn-voice-at
use Rattle.call_read.proofs.counts.voices.Reads as fn-voices
use Rattle.call_read.proofs.records.steals.Reads as fn-steals
use Rattle.call_read.proofs.counts.edges.Reads as fn-edges
use Rattle.call_read.proofs.counts.processing_order.Reads as fn-processing-order
use Rattle.call_read.proofs.records.sources.Reads as fn-sources
use Rattle.call_read.proofs.records.node_record.Reads as fn-node-record
use Rattle.call_read.proofs.records.clock.Reads as fn-clock
use Rattle.call_page.proofs.page.Reads as fn-page
use Rattle.mixing.proofs.fade_output.Reads as fn-fade-output
use Rattle.mixing.proofs.bus_sum.Reads as fn-bus-sum
use Rattle.whole_mixing.proofs.fade_output.Reads as fn-whole-fade
use Rattle.whole_mixing.proofs.bus_sum.Reads as fn-whole-sum

-- this call on this store answers so and leaves that store
pub data Contract : Call → Memory → Answer → Memory → Type 1 where
  -- the host's nodes and wiring
  add_node : (κs : _) (a : _) (r : _) (s : _) → fn-add-node.Post κs a r s → (m : Memory)
      → Contract (call.add_node a.1.1.0.now a.1.1.1.0.ports a.1.1.1.0.required a.1.1.1.0.takes_values a.1.1.1.0.takes_glides) (lent_nodes a.0 a.1.0.now m) (add_answered r.answer) (lent_nodes r.state s.1.0.now m)
  remove_node : (κs : _) (a : _) (r : _) (s : _) → fn-remove-node.Post κs a r s → (m : Memory)
      → Contract (call.remove_node a.1.1.1.0) (lent_graph a.0 a.1.0.now a.1.1.0.now m) (answered r.answer) (lent_graph r.state s.1.0.now s.1.1.0.now m)
  connect : (κs : _) (a : _) (r : _) (s : _) → fn-connect.Post κs a r s → (m : Memory)
      → Contract (call.connect a.1.1.1.0.from a.1.1.1.0.to a.1.1.1.0.port) (lent_graph a.0 a.1.0.now a.1.1.0.now m) (answered r.answer) (lent_graph r.state a.1.0.now s.1.1.0.now m)
  disconnect : (κs : _) (a : _) (r : _) (s : _) → fn-disconnect.Post κs a r s → (m : Memory)
      → Contract (call.disconnect a.1.1.1.0 a.1.1.1.1.0) (lent_graph a.0 a.1.0.now a.1.1.0.now m) (answered r.answer) (lent_graph r.state a.1.0.now s.1.1.0.now m)
  set_sink : (κs : _) (a : _) (r : _) (s : _) → fn-set-sink.Post κs a r s → (m : Memory)
      → Contract (call.set_sink a.1.1.0) (lent_nodes a.0 a.1.0.now m) (answered r.answer) (lent_nodes r.state a.1.0.now m)
  -- the spawn of any wish: the four of 01 are the wishes that are managed or not, with a pan or with pan 0
  spawn_voice : (κs : _) (a : _) (r : _) (s : _) → fn-spawn-voice.Post κs a r s → (m : Memory)
      → Contract (call_of a.1.1.1.1.1.0) (lent_spawn a.0 a.1.0.now a.1.1.0.now a.1.1.1.0.now a.1.1.1.1.0.now m) (call.spawned r.answer) (lent_spawn r.state s.1.0.now s.1.1.0.now s.1.1.1.0.now s.1.1.1.1.0.now m)
  -- free and clearing
  free_voice : (κs : _) (a : _) (r : _) (s : _) → fn-free-voice.Post κs a r s → (m : Memory)
      → Contract (call.free a.1.1.1.1.0) (lent_voices a.0 a.1.0.now a.1.1.0.now a.1.1.1.0.now m) (call.ordered r.answer) (lent_voices r.state s.1.0.now s.1.1.0.now s.1.1.1.0.now m)
  free_done : (κs : _) (a : _) (r : _) (s : _) → fn-free-done.Post κs a r s → (m : Memory)
      → Contract call.clear (lent_voices a.0 a.1.0.now a.1.1.0.now a.1.1.1.0.now m) (call.removed r.answer) (lent_voices r.state s.1.0.now s.1.1.0.now s.1.1.1.0.now m)
  -- values and glides, events, reports
  set_param : (κs : _) (a : _) (r : _) (s : _) → fn-set-param.Post κs a r s → (m : Memory)
      → Contract (call.order a.1.1.1.0 a.1.1.1.1.0.now (LastOrder.Value a.1.1.1.1.1.0)) (lent_params a.0 a.1.0.now a.1.1.0.now m) (call.ordered r) (lent_params a.0 s.1.0.now a.1.1.0.now m)
  set_param_glide : (κs : _) (a : _) (r : _) (s : _) → fn-set-param-glide.Post κs a r s → (m : Memory)
      → Contract (call.order a.1.1.1.0 a.1.1.1.1.0.now (LastOrder.Glide a.1.1.1.1.1.0)) (lent_params a.0 a.1.0.now a.1.1.0.now m) (call.ordered r) (lent_params a.0 s.1.0.now a.1.1.0.now m)
  schedule : (κs : _) (a : _) (r : _) (s : _) → fn-schedule.Post κs a r s → (m : Memory)
      → Contract (call.schedule a.1.1.0 a.1.1.1.0 a.1.1.1.1.0.now a.1.1.1.1.1.0) (lent_events a.0 a.1.0.now m) (answered r.answer) (lent_events r.state s.1.0.now m)
  report : (κs : _) (a : _) (r : _) (s : _) → fn-report.Post κs a r s → (m : Memory)
      → Contract (call.report a.1.1.1.0 a.1.1.1.1.0 a.1.1.1.1.1.0.now a.1.1.1.1.1.1.0) (lent_params a.0 a.1.0.now a.1.1.0.now m) (answered r) (lent_params a.0 s.1.0.now a.1.1.0.now m)
  -- prepare and render
  prepare : (κs : _) (a : _) (r : _) (s : _) → fn-prepare.Post κs a r s → (m : Memory)
      → Contract call.prepare (lent_order a.0 a.1.0.now a.1.1.0.now a.1.1.1.0.now m) (answered r.answer) (lent_order r.state a.1.0.now a.1.1.0.now s.1.1.1.0.now m)
  render : (κs : _) (a : _) (r : _) (s : _) → fn-render.Post κs a r s → (m : Memory)
      → Contract (call.render a.1.1.1.1.1.1.0.now) (lent_render a.0 a.1.0.now a.1.1.0.now a.1.1.1.0.now a.1.1.1.1.0.now a.1.1.1.1.1.0.now m) (call.rendered r.answer r.taken s.1.1.1.1.1.1.0.now) (lent_render r.state s.1.0.now s.1.1.0.now s.1.1.1.0.now s.1.1.1.1.0.now s.1.1.1.1.1.0.now m)
  -- the questions, which leave the very store
  voice_level : (κs : _) (a : _) (r : _) (s : _) → fn-voice-level.Post κs a r s → (m : Memory)
      → Contract (call.ask (call.level a.1.1.1.0)) (lent_params a.0 a.1.0.now a.1.1.0.now m) (call.known r) (lent_params a.0 a.1.0.now a.1.1.0.now m)
  fade_position : (κs : _) (a : _) (r : _) (s : _) → fn-fade-position.Post κs a r s → (m : Memory)
      → Contract (call.ask (call.position a.1.1.0)) (lent_voice_table a.0 a.1.0.now m) (call.reached (r)) (lent_voice_table a.0 a.1.0.now m)
  voice : (κs : _) (a : _) (r : _) (s : _) → fn-voice.Post κs a r s → (m : Memory)
      → Contract (call.ask (call.voice a.1.1.0)) (lent_voice_table a.0 a.1.0.now m) (call.found (r)) (lent_voice_table a.0 a.1.0.now m)
  voice_at : (κs : _) (a : _) (r : _) (s : _) → fn-voice-at.Post κs a r s → (m : Memory)
      → Contract (call.ask (call.voice_at a.1.1.0)) (lent_voice_table a.0 a.1.0.now m) (call.found (r)) (lent_voice_table a.0 a.1.0.now m)
  voices : (κs : _) (a : _) (r : _) (s : _) → fn-voices.Post κs a r s → (m : Memory)
      → Contract (call.ask call.voices) (lent_voice_table a.0 a.1.0.now m) (call.all (take r (voices_in a.1.0.now))) (lent_voice_table a.0 a.1.0.now m)
  steals : (κs : _) (a : _) (r : _) (s : _) → fn-steals.Post κs a r s → (m : Memory)
      → Contract (call.ask call.steals) (lent_steals a.0 a.1.0.now m) (call.stolen (log_of r)) (lent_steals a.0 a.1.0.now m)
  edges : (κs : _) (a : _) (r : _) (s : _) → fn-edges.Post κs a r s → (m : Memory)
      → Contract (call.ask call.edges) (lent_edges a.0 a.1.0.now m) (call.wires (take r (edges_in a.1.0.now))) (lent_edges a.0 a.1.0.now m)
  processing_order : (κs : _) (a : _) (r : _) (s : _) → fn-processing-order.Post κs a r s → (m : Memory)
      → Contract (call.ask call.processing) (lent_processing a.0 a.1.0.now m) (call.in_order (take r (ids_in a.1.0.now))) (lent_processing a.0 a.1.0.now m)
  sources : (κs : _) (a : _) (r : _) (s : _) → fn-sources.Post κs a r s → (m : Memory)
      → Contract (call.ask (call.sources a.1.1.0)) (lent_edges a.0 a.1.0.now m) (call.fed r) (lent_edges a.0 a.1.0.now m)
  node_record : (κs : _) (a : _) (r : _) (s : _) → fn-node-record.Post κs a r s → (m : Memory)
      → Contract (call.ask (call.node_record a.1.1.0)) (lent_nodes a.0 a.1.0.now m) (call.found_node (r)) (lent_nodes a.0 a.1.0.now m)
  clock : (κs : _) (a : _) (r : _) (s : _) → fn-clock.Post κs a r s → (m : Memory)
      → Contract (call.ask call.clock) (lent_state a.0 m) (call.time r) (lent_state a.0 m)
  page : (κs : _) (a : _) (r : _) (s : _) → fn-page.Post κs a r s → (m : Memory)
      → Contract (call.ask (call.page a.1.1.1.0.now)) (lent_page a.0 a.1.0.now a.1.1.0.now m) (paged_of r s.1.1.1.0.now) (lent_page a.0 a.1.0.now a.1.1.0.now m)
  -- fade output and bus sum, which are given no more of the store m than what making fixed
  fade_output : (κs : _) (a : _) (r : _) (s : _) → fn-fade-output.Post κs a r s → (m : Memory) → m.state.config ≡ a.0
      → Contract (call.ask (call.fade_output a.1.0.now a.1.1.1.0.ins a.1.1.0.now a.1.1.1.0.position a.1.1.1.1.0.now a.1.1.1.0.outs)) m (filled_of r s.1.1.1.1.0.now) m
  bus_sum : (κs : _) (a : _) (r : _) (s : _) → fn-bus-sum.Post κs a r s → (m : Memory) → m.state.config ≡ a.0
      → Contract (call.ask (call.bus_sum a.1.0.now a.1.1.0.now a.1.1.1.0.now a.1.1.1.1.0)) m (filled_of r s.1.1.1.0.now) m
  -- the same in whole numbers
  whole_fade : (κs : _) (a : _) (r : _) (s : _) → fn-whole-fade.Post κs a r s → (m : Memory) → m.state.config ≡ a.0
      → Contract (call.ask (call.whole_fade a.1.0.now a.1.1.1.0.ins a.1.1.0.now a.1.1.1.0.position a.1.1.1.1.0.now a.1.1.1.0.outs)) m (whole.filled_of r s.1.1.1.1.0.now) m
  whole_sum : (κs : _) (a : _) (r : _) (s : _) → fn-whole-sum.Post κs a r s → (m : Memory) → m.state.config ≡ a.0
      → Contract (call.ask (call.whole_sum a.1.0.now a.1.1.0.now a.1.1.1.0.now a.1.1.1.1.0)) m (whole.filled_of r s.1.1.1.0.now) m

-- "each call gets the store that the last left, and nothing else writes it"
pub data Runs : Memory → List Call → List Answer → Memory → Type 1 where
  ends : {m : Memory} → Runs m [] [] m
  calls : {m n o : Memory} {c : Call} {cs : List Call} {a : Answer} {said : List Answer} → Contract c m a n → Runs n cs said o → Runs m (c ∷ cs) (a ∷ said) o
