use Rattle.std.proofs.Common.{◌∙◌, sym, ap, refl}
use Rattle.edges.specs.Wiring.{wired}
use Rattle.graph.specs.View.{GraphView}
use Rattle.graph.specs.Grown.{fits, grown}
use Rattle.graph.specs.contracts.audio_graph.AudioGraph.{the_view}
use Rattle.graph.proofs.Grown.{below, above, outer_room, sound_grown, grown_is, lone_wired_all}
use Rattle.graph.proofs.audio_graph.AudioGraph.add_nodes.Goals as goal

pub put_new-requires-clause-below : goal.put_new-requires-clause-below
put_new-requires-clause-below c =
    let ok = ap (λ (v : GraphView). fits v c.args.nodes.now c.args.inner.now c.args.outer) c.self.view_is ∙ sym c.fits.ensures ∙ c.if-not-fits.false in
    below (the_view c.self.inside) c.args.nodes.now c.args.inner.now c.args.outer c.self.invariant ok

pub put_new-requires-clause-above : goal.put_new-requires-clause-above
put_new-requires-clause-above c =
    let ok = ap (λ (v : GraphView). fits v c.args.nodes.now c.args.inner.now c.args.outer) c.self.view_is ∙ sym c.fits.ensures ∙ c.if-not-fits.false in
    above (the_view c.self.inside) c.args.nodes.now c.args.inner.now c.args.outer c.self.invariant ok

pub put_edge-requires-clause-lone : goal.put_edge-requires-clause-lone
put_edge-requires-clause-lone c = rw c.put_new.ensures (lone_wired_all c.self.inside.edges.items c.args.inner.now c.self.invariant.lone c.args.outer.to c.args.outer.port)

pub put_edge-requires-clause-room : goal.put_edge-requires-clause-room
put_edge-requires-clause-room c =
    let ok = ap (λ (v : GraphView). fits v c.args.nodes.now c.args.inner.now c.args.outer) c.self.view_is ∙ sym c.fits.ensures ∙ c.if-not-fits.false in
    rw c.put_new.ensures (outer_room (the_view c.self.inside) c.args.nodes.now c.args.inner.now c.args.outer c.self.invariant ok)

pub invariant_of-self : goal.invariant_of-self
invariant_of-self c =
    let ok = ap (λ (v : GraphView). fits v c.args.nodes.now c.args.inner.now c.args.outer) c.self.view_is ∙ sym c.fits.ensures ∙ c.if-not-fits.false in
    rw (c.append_all.ensures, c.put_edge.ensures, c.put_new.ensures) (sound_grown (the_view c.self.inside) c.args.nodes.now c.args.inner.now c.args.outer c.self.invariant ok)

pub returns-clause-graph : goal.returns-clause-graph
returns-clause-graph c =
    let ok = sym c.fits.ensures ∙ c.if-not-fits.false in
    rw ok
    (grown_is (the_view c.self.inside) c.args.nodes.now c.args.inner.now c.args.outer _ c.append_all.ensures (c.put_edge.ensures ∙ ap (λ l. wired l c.args.outer) c.put_new.ensures) refl refl refl refl
    ∙ ap (λ (v : GraphView). grown v c.args.nodes.now c.args.inner.now c.args.outer) c.self.view_is)
