use Rattle.std.proofs.Common.{◌≡◌, ◌∙◌, sym, ap, subst, Some}
use Rattle.model.specs.Model.{Model, port_free}
use Rattle.model.specs.Spawn.{new_voice}
use Rattle.model.specs.Wish.{spawn_in}
use Rattle.engine.specs.Spawning.{Headroom}
use Rattle.engine.specs.contracts.Tables.{the_view}
use Rattle.engine.proofs.Seating.{seated_by}
use Rattle.engine.proofs.Tables.seat_voice.Goals as goal

pub returns : goal.returns
returns c =
    let x = spawn_in c.args.wish.now in
    let m = the_view c.self.inside in
    let room = subst (Headroom x.def) (sym c.self.view_is) c.requires.room in
    let free = subst (λ k. port_free x.bus k ≡ Some c.args.port) (sym c.self.view_is) c.requires.free in
    rw (← c.self.view_is)
    (seated_by x c.args.state c.args.port m room free c.in_ok-id.id (sym c.next_id.ensures ∙ c.in_ok-id.was) c.new_voice-voice.result (c.new_voice-voice.ensures ∙ ap (λ (k : Model). new_voice x c.args.state c.args.port k.shared) (sym c.self.view_is)) c.pans-pan.result c.pans-pan.ensures
    _ (c.as_slice.ensures.value ∙ c.voice_nodes-nodes.ensures) _ (c.as_slice-2.ensures.value ∙ c.inner_edges-inner.ensures) c.outer_edge-outer.result c.outer_edge-outer.ensures
    c.raise_noise.new.self c.raise_noise.ensures c.add_nodes.new.self c.add_nodes.ensures.graph c.admit.result c.admit.ensures.answer c.admit.new.self c.admit.ensures.voices)
