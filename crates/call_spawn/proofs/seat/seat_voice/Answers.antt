use Rattle.std.specs.Prelude.{Ok}
use Prim.Native.Nat.{◌+◌}
use native.Mathlib.Omega.{arith}
use mathlib.Core.Path.{ap, ◌∙◌}
use lib.ListN.{take}
use Rattle.graph_rows.specs.Node.{nodes_in}
use Rattle.model.specs.Spawn.{next_voice}
use Rattle.model.specs.Wish.{spawn_in}
use Rattle.memory.specs.declared.state.State.{State}
use Rattle.memory.specs.View.{model_of, shared_of}
use Rattle.memory.specs.Lent.{lent_voices}
use Rattle.memory.specs.Parts.{numbered}
use Rattle.call_spawn.proofs.Rooms.{blank}
use Rattle.call_spawn.proofs.Seating.{seats, spawned_in}
use Rattle.call_spawn.proofs.seat.seat_voice.Goals as goal

pub new_voice-voice-requires : goal.new_voice-voice-requires
new_voice-voice-requires c =
    let h = c.requires (blank c.args.s) in
    record { within = h.within; ids = h.ids; names = h.names }

pub overflow_add-id : goal.overflow_add-id
overflow_add-id c =
    omega (arith, (c.requires (blank c.args.s)).names)

pub overflow_add-s : goal.overflow_add-s
overflow_add-s c =
    omega (arith, (c.requires (blank c.args.s)).names)

pub returns : goal.returns
returns c =
    let a = c.args in
    let x = spawn_in a.w in
    let new = c.new_voice-voice in
    let counted = c.raise_noise in
    let pan = c.pans in
    let grown = c.add_voice-grown in
    let seat = c.push_voice-count in
    let left = c.with_spawned.ensures ∙ ap (λ (k : State). numbered k (a.s.spawned + 1)) c.with_voices.ensures in
    λ m.
    let old = lent_voices a.s a.nodes.now a.edges.now a.voices.now m in
    let more = lent_voices grown.result grown.new.nodes grown.new.edges a.voices.now m in
    ap (spawned_in (Ok (next_voice (shared_of old))))
    (ap (λ (k : State). model_of (lent_voices k grown.new.nodes grown.new.edges seat.new.t m)) left
    ∙ seats x a.state a.port (model_of old) (c.requires m) (take a.s.nodes (nodes_in counted.new.nodes)) counted.ensures (model_of more) pan.result pan.ensures (grown.ensures old) new.result (new.ensures old) _ seat.ensures.is)
