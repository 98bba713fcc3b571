use mathlib.Core.Path.{ap, ◌∙◌}
use mathlib.Core.List.{[]}
use lib.ListN.{get_or}
use Rattle.voice_rows.specs.Rows.{voice_of, voices_in}
use Rattle.model.specs.Model.{without_voice}
use Rattle.memory.specs.View.{model_of}
use Rattle.memory.specs.Lent.{lent_spawn}
use Rattle.bus_room.proofs.cut.cut_voice.Goals as goal

pub returns : goal.returns
returns c =
    let a = c.args in
    let v = get_or (voices_in a.voices.now) a.row (voice_of []) in
    let told = c.record_removal-told in
    λ m.
    let mid = lent_spawn told.result a.nodes.now a.edges.now a.voices.now told.new.steals m in
    c.forget_voice.ensures mid
    ∙ ap (λ w. without_voice w (model_of mid)) c.id_at-w.ensures
    ∙ ap (without_voice v.id) (told.ensures (lent_spawn a.s a.nodes.now a.edges.now a.voices.now a.steals.now m))
