use Rattle.std.proofs.Common.{◌∙◌, ap, refl, not}
use Rattle.lists.specs.Find.{filter_o}
use Rattle.edges.specs.Wiring.{among, drop_touching}
use Rattle.graph.specs.Node.{owned_by_some}
use Rattle.graph.specs.Change.{ids_of}
use Rattle.graph.proofs.Calls.{same_view}
use Rattle.graph.proofs.Kept.{sound_without}
use Rattle.graph.proofs.Rising.{rises_ids}
use Rattle.graph.proofs.audio_graph.AudioGraph.remove_voices.Goals as goal

pub drop_touching_rising-requires : goal.drop_touching_rising-requires
drop_touching_rising-requires c =
    let q = owned_by_some c.args.voices.now in
    rw (c.as_slice-2.ensures.value ∙ c.ids_owned_by_some-ids.ensures ∙ ap (ids_of q) c.as_slice.ensures.value) (rises_ids q _ c.self.invariant.rises)

pub invariant_of-self : goal.invariant_of-self
invariant_of-self c =
    let ids = c.ids_owned_by_some-ids.ensures ∙ ap (ids_of (owned_by_some c.args.voices.now)) c.as_slice.ensures.value in
    rw (c.drop_owned_by_some.ensures, c.drop_touching_rising.ensures ∙ ap (drop_touching _) (c.as_slice-2.ensures.value ∙ ids)) (sound_without _ c.self.invariant)

pub returns : goal.returns
returns c =
    let ids = c.ids_owned_by_some-ids.ensures ∙ ap (ids_of (owned_by_some c.args.voices.now)) c.as_slice.ensures.value in
    rw (← c.self.view_is)
    (same_view _ _ c.drop_owned_by_some.ensures (c.drop_touching_rising.ensures ∙ ap (drop_touching _) (c.as_slice-2.ensures.value ∙ ids)) (c.kept_sink-self-inside.ensures ∙ ap (λ l. filter_o (λ k. not (among l k)) c.self.inside.sink) (c.as_slice-3.ensures.value ∙ ids)) refl refl refl)
