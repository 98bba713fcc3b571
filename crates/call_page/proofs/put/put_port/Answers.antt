use native.Mathlib.Omega.{arith}
use mathlib.Core.Path.{sym, ap, ◌∙◌}
use mathlib.Core.List.{[], ◌++◌}
use lib.ListN.{take, get_or}
use Rattle.node.specs.Silence.{bytes}
use Rattle.graph_rows.specs.Edge.{edges_in}
use Rattle.voice_rows.specs.Rows.{voice_of, voices_in}
use Rattle.model.specs.Decimal.{decimal}
use Rattle.model.specs.Page.{port_text}
use Rattle.call_page.proofs.Lines.{port_found, port_is}
use Rattle.call_page.proofs.Puts.{added, widened}
use Rattle.call_page.proofs.put.put_port.Goals as goal

pub returns-in-Some : goal.returns-in-Some
returns-in-Some c =
    let a = c.args in
    let fed = c.feeding_edge in
    let is = port_is (take a.s.edges (edges_in a.edges.now)) (get_or (voices_in a.t.now) a.i (voice_of [])) c.end_at.result c.bus_at.result fed.result c.end_at.ensures c.bus_at.ensures fed.ensures in
    let text = ap (λ k. decimal k ++ bytes " ") c.from.ensures ∙ ap (λ p. port_text p ++ bytes " ") (sym (ap port_found c.in-Some.is) ∙ is) in
    widened (omega arith) text c.put_field.ensures

pub returns-in-None : goal.returns-in-None
returns-in-None c =
    let a = c.args in
    let fed = c.feeding_edge in
    let is = port_is (take a.s.edges (edges_in a.edges.now)) (get_or (voices_in a.t.now) a.i (voice_of [])) c.end_at.result c.bus_at.result fed.result c.end_at.ensures c.bus_at.ensures fed.ensures in
    let text = ap (λ p. port_text p ++ bytes " ") (sym (ap port_found c.in-None.is) ∙ is) in
    added 21 _ _ _ _ text c.add.ensures (omega arith)
