use Rattle.std.proofs.Common.{sym, ap, subst, ◌∙◌}
use Rattle.model.specs.Wish.{spawn_in}
use Rattle.engine.specs.Spawning.{Headroom}
use Rattle.engine.proofs.Rooms.{headroom_reclaimed}
use Rattle.engine.proofs.Placing.{places, places_not}
use Rattle.engine.proofs.Tables.place.Goals as goal

pub seat_voice-requires-clause-room : goal.seat_voice-requires-clause-room
seat_voice-requires-clause-room c =
    let w = c.args.wish.now in
    subst (Headroom w.def) (sym c.make_room.ensures.is) (headroom_reclaimed w.def w.bus w.rank c.most_removed-fuel.result c.args.self.now c.requires)

pub seat_voice-requires-clause-free : goal.seat_voice-requires-clause-free
seat_voice-requires-clause-free c = sym c.make_room.ensures.port ∙ c.in-Some.is

pub returns-in-Some : goal.returns-in-Some
returns-in-Some c = c.seat_voice.ensures ∙ places c.args.budget (spawn_in c.args.wish.now) c.make_room.ensures c.most_removed-fuel.ensures c.state_under-state.ensures _ c.in-Some.is

pub returns-in-None : goal.returns-in-None
returns-in-None c = places_not c.args.budget (spawn_in c.args.wish.now) c.make_room.ensures c.most_removed-fuel.ensures c.state_under-state.ensures c.in-None.is
