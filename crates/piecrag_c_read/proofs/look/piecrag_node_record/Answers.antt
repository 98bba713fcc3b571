use mathlib.Core.Path.{refl}
use Rattle.model.specs.Call as call
use Rattle.memory.specs.Lent.{lent_nodes}
use Rattle.piecrag_c_read.proofs.Reading.{reads}
use Rattle.piecrag_c_read.proofs.look.piecrag_node_record.Goals as goal

pub returns : goal.returns
returns c =
    let a = c.args in
    let r = c.node_record-r in
    λ m. reads (λ s. lent_nodes s a.nodes.now m) a.state.now (call.found_node r.result) call.found_node r.result c.state_in-s.ensures (r.ensures m) refl refl (c.put_found.ensures.flag, c.put_found.ensures.row)
