use Rattle.std.proofs.Common.{◌∙◌, ap, refl, not}
use Rattle.lists.specs.Find.{filter_o}
use Rattle.edges.specs.Wiring.{among, drop_touching}
use Rattle.graph.specs.Node.{owned_by}
use Rattle.graph.specs.Change.{ids_of}
use Rattle.graph.proofs.Calls.{same_view}
use Rattle.graph.proofs.Kept.{sound_without}
use Rattle.graph.proofs.audio_graph.AudioGraph.remove_voice.Goals as goal

pub invariant_of-self : goal.invariant_of-self
invariant_of-self c =
    let ids = c.ids_owned-ids.ensures ∙ ap (ids_of (owned_by c.args.voice)) c.as_slice.ensures.value in
    rw (c.drop_owned.ensures, c.drop_touching.ensures ∙ ap (drop_touching _) (c.as_slice-2.ensures.value ∙ ids)) (sound_without _ c.self.invariant)

pub returns : goal.returns
returns c =
    let ids = c.ids_owned-ids.ensures ∙ ap (ids_of (owned_by c.args.voice)) c.as_slice.ensures.value in
    rw (← c.self.view_is)
    (same_view _ _ c.drop_owned.ensures (c.drop_touching.ensures ∙ ap (drop_touching _) (c.as_slice-2.ensures.value ∙ ids)) (c.kept_sink-self-inside.ensures ∙ ap (λ l. filter_o (λ k. not (among l k)) c.self.inside.sink) (c.as_slice-3.ensures.value ∙ ids)) refl refl refl)
