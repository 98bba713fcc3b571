use mathlib.Core.Path.{◌≡◌, sym, ◌∙◌}
use mathlib.Core.Bool.{false≢true}
use borrow.Author.Tests.{eq-eqb}
use lib.ListN.{length}
use Rattle.call_free.proofs.Forgets.{forgets}
use Rattle.call_free.proofs.forget.forget_voices.Goals as goal

pub returns : goal.returns
returns c =
    let a = c.args in
    let some : length a.ids.now ≡ 0 → ⊥ = λ e. false≢true (sym (sym c.is_empty.ensures ∙ c.if-is_empty.false) ∙ eq-eqb (length a.ids.now) 0 e) in
    let graph = c.remove_voices-left in
    let rows = c.remove_voices-count in
    let state = c.with_graph-state in
    forgets a.s a.nodes.now a.edges.now a.voices.now a.ids.now graph.result rows.result graph.new.nodes graph.new.edges rows.new.t some graph.ensures rows.ensures state.result c.with_voices.result state.ensures c.with_voices.ensures
