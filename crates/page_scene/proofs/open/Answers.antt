use mathlib.Core.Path.{refl, ap}
use mathlib.Core.List.{[], ◌∷◌}
use Rattle.model.specs.Scene.{host, sink}
use Rattle.page_scene.proofs.Playing.{and_then}
use Rattle.page_scene.proofs.open.Goals as goal

pub returns : goal.returns
returns c =
    let added = c.add_node.new.self in
    let heard = c.set_sink.new.self in
    and_then (host 3) (sink 0 ∷ []) c.args.store.now added heard (ap (λ s. s.model) c.add_node.ensures)
    (and_then (sink 0) [] added heard heard (ap (λ s. s.model) c.set_sink.ensures) refl)
