use Rattle.std.proofs.Common.{◌∙◌, ap}
use Rattle.model.specs.SharedState.{SharedState}
use Rattle.voice.specs.Voices.{ended_ids}
use Rattle.engine.specs.Parts.{store_with}
use Rattle.engine.specs.Freed.{without_each, silent_ids}
use Rattle.engine.proofs.Doing.{cleared}
use Rattle.engine.proofs.Tables.free_done_synths.Goals as goal

pub returns : goal.returns
returns c =
    let s = c.self.inside in
    let one = c.forget_each.new in
    let two = c.forget_each-2.new in
    let d : SharedState = record { config = s.config; graph = s.graph; events = s.scheduler; steals = s.steals; clock = s.clock; spawned = s.voices.spawned } in
    rw (c.len.ensures.value, c.len-2.ensures.value, ← c.self.view_is)
    (cleared d s.graph one.graph two.graph s.voices one.voices two.voices _ _
    (c.ended-ended.ensures ∙ ap (λ n. ended_ids n s.voices.live) (c.from.ensures ∙ c.fade_length.ensures))
    (c.forget_each.ensures d ∙ ap (λ l. without_each l (store_with s.graph s.voices d)) c.as_slice.ensures.value)
    (c.silent_among-silent.ensures ∙ ap (silent_ids one.graph.nodes) c.as_slice-2.ensures.value)
    (c.forget_each-2.ensures d ∙ ap (λ l. without_each l (store_with one.graph one.voices d)) c.as_slice-3.ensures.value))
