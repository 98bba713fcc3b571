use mathlib.Core.Path.{refl, ap, ◌∙◌}
use mathlib.Core.List.{[], ◌∷◌}
use lib.ListN.{replicate}
use Rattle.model.specs.Call.{step}
use Rattle.model.specs.Call as call
use Rattle.model.specs.Scene.{float}
use Rattle.model.specs.Spawn.{spawn_of, middle}
use Rattle.voice.specs.Voice.{id}
use Rattle.page_scene.specs.Played.{tone}
use Rattle.page_scene.proofs.Playing.{and_then}
use Rattle.page_scene.proofs.turn.Goals as goal

pub returns : goal.returns
returns c =
    let old = c.args.store.now in
    let spawned = c.spawn_voice_on_bus_managed.new.self in
    let ready = c.prepare.new.self in
    let rendered = c.render.new.self in
    let one = ap (λ s. s.model) c.spawn_voice_on_bus_managed.ensures
    ∙ ap (λ d. (step (call.spawn_managed (spawn_of d (id 0) middle 0)) old).model) c.tone.ensures in
    let rest = call.prepare ∷ call.render (replicate 256 0) ∷ [] in
    and_then (call.spawn_managed (spawn_of tone (id 0) (float 0) 0)) rest old spawned rendered one
    (and_then call.prepare (call.render (replicate 256 0) ∷ []) spawned ready rendered
    (ap (λ s. s.model) c.prepare.ensures)
    (and_then (call.render (replicate 256 0)) [] ready rendered rendered (ap (λ s. s.model) c.render.ensures) refl))
