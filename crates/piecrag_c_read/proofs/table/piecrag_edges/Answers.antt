use mathlib.Core.Path.{refl, ap}
use Rattle.model.specs.Call as call
use Rattle.memory.specs.Lent.{lent_edges}
use Rattle.graph_rows.specs.Edge.{edges_in}
use lib.ListN.{take}
use Rattle.piecrag_c_read.proofs.Reading.{reads}
use Rattle.piecrag_c_read.proofs.table.piecrag_edges.Goals as goal

pub returns : goal.returns
returns c =
    let a = c.args in
    let r = c.edges in
    λ m. reads (λ s. lent_edges s a.edges.now m) a.state.now (call.wires (take r.result (edges_in a.edges.now))) call.wires (take c.state_in-s.result.edges (edges_in a.edges.now)) c.state_in-s.ensures (r.ensures.is m) (ap call.wires r.ensures.count.is) refl r.ensures.count
