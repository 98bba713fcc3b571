use Rattle.std.proofs.Common.{◌≡◌, ◌∙◌, sym, ap, Some, is_some, not, true, false}
use borrow.Author.Tests.{not-true}
use Rattle.std.specs.Prelude.{find}
use Rattle.edges.specs.Ports.{feeds}
use Rattle.model.specs.Model.{Model}
use Rattle.voice.specs.Voice.{id, is_voice, feeder}
use Rattle.engine.specs.contracts.Tables.{the_view}
use Rattle.engine.proofs.Seating.{stolen_by}
use Rattle.engine.proofs.Tables.steal_voice.Goals as goal

pub returns : goal.returns
returns c =
    let m = c.args.self.now in
    let v = c.in-Some.v in
    let e = c.in-Some-fed.e in
    let found : find (is_voice c.args.voice) m.voices ≡ Some v = ap (λ (k : Model). find (is_voice c.args.voice) k.voices) (sym c.self.view_is) ∙ sym c.find.ensures ∙ c.in-Some.is in
    let fed : find (feeds (feeder v) v.bus) m.shared.graph.edges ≡ Some e =
    ap (λ (k : Model). find (feeds (feeder v) v.bus) k.shared.graph.edges) (sym c.self.view_is) ∙ ap (find (feeds (feeder v) v.bus)) (sym c.edges.ensures) ∙ ap (λ j. find (feeds (id j) v.bus) c.edges.result.now) (sym c.feeder.ensures) ∙ sym c.feeding_edge-fed.ensures ∙ c.in-Some-fed.is in
    stolen_by c.args.voice m c.requires v found (the_view c.self-2.inside) c.is_none.result (c.self-2.view_is ∙ c.record_steal.ensures) (not-true c.is_none.result (sym c.is_none.ensures ∙ ap is_some c.in-Some-fed.is)) c.claim.ensures e fed c.next_id.result c.next_id.ensures c.count-number.result
    (c.count-number.ensures ∙ ap (λ (k : Model). k.shared.steals.count) c.self.view_is) c.fade_node.result c.fade_node.ensures c.add_nodes.new.self c.add_nodes.ensures.graph c.begin_fade.new.self c.begin_fade.ensures
