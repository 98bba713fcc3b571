use mathlib.Core.Path.{sym, ap, subst, ◌∙◌}
use Rattle.node.specs.declared.refusal.Refusal.TheVariants.{NoPort}
use Rattle.model.specs.Wish.{spawn_in}
use Rattle.memory.specs.View.{model_of}
use Rattle.memory.specs.Lent.{lent_spawn}
use Rattle.call_spawn.specs.Room.{Headroom}
use Rattle.call_spawn.proofs.Rooms.{headroom_reclaimed, head_apart}
use Rattle.call_spawn.proofs.Placing.{places, places_not}
use Rattle.call_spawn.proofs.Spawns.{refused_in}
use Rattle.call_spawn.proofs.spawn.place.Goals as goal

pub seat_voice-requires : goal.seat_voice-requires
seat_voice-requires c =
    let a = c.args in
    let def = a.w.def in
    let room = c.make_room-room in
    λ m.
    let old = model_of (lent_spawn a.s a.nodes.now a.edges.now a.voices.now a.steals.now m) in
    head_apart def room.result.state room.new.nodes room.new.edges room.new.voices room.new.steals m
    (subst (Headroom def) (sym (room.ensures m).is) (headroom_reclaimed def a.w.bus a.w.rank c.most_removed-fuel.result old (c.requires m)))

pub returns-in-Some : goal.returns-in-Some
returns-in-Some c =
    let room = c.make_room-room in
    λ m.
    c.seat_voice.ensures (lent_spawn room.result.state room.new.nodes room.new.edges room.new.voices room.new.steals m)
    ∙ places c.args.budget (spawn_in c.args.w) (room.ensures m) c.most_removed-fuel.ensures c.state_under-how.ensures _ c.in-Some.is

pub returns-in-None : goal.returns-in-None
returns-in-None c =
    let room = c.make_room-room in
    λ m.
    refused_in NoPort c.refuse.result.answer _ _ c.refuse.ensures.1 (ap (λ k. lent_spawn k room.new.nodes room.new.edges room.new.voices room.new.steals m) c.refuse.ensures.0)
    ∙ places_not c.args.budget (spawn_in c.args.w) (room.ensures m) c.most_removed-fuel.ensures c.state_under-how.ensures c.in-None.is
