use native.Mathlib.Omega.{arith}
use mathlib.Core.List.{[]}
use lib.ListN.{take, get_or}
use Rattle.graph_rows.specs.Edge.{edges_in}
use Rattle.voice_rows.specs.Rows.{voice_of, voices_in}
use Rattle.model.specs.Page.{port_now}
use Rattle.call_page.proofs.Lines.{line_is}
use Rattle.call_page.proofs.Puts.{then, widened}
use Rattle.call_page.proofs.put.put_line.Goals as goal

pub returns : goal.returns
returns c =
    let a = c.args in
    let v = get_or (voices_in a.t.now) a.i (voice_of []) in
    let port = port_now (take a.s.edges (edges_in a.edges.now)) v in
    widened (omega arith) (line_is a.s.clock port v c.id_at.result c.age_at.result c.state_at.result c.id_at.ensures c.age_at.ensures c.state_at.ensures)
    (then (then (then c.put_field.ensures c.put_field-2.ensures) c.put_port.ensures) c.put_state.ensures)
