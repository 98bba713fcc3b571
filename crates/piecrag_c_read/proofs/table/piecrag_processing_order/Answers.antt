use mathlib.Core.Path.{refl, ap}
use Rattle.model.specs.Call as call
use Rattle.memory.specs.Lent.{lent_processing}
use Rattle.order_table.specs.Prepares.{ids_in}
use lib.ListN.{take}
use Rattle.piecrag_c_read.proofs.Reading.{reads}
use Rattle.piecrag_c_read.proofs.table.piecrag_processing_order.Goals as goal

pub returns : goal.returns
returns c =
    let a = c.args in
    let r = c.processing_order in
    λ m. reads (λ s. lent_processing s a.order.now m) a.state.now (call.in_order (take r.result (ids_in a.order.now))) call.in_order (take c.state_in-s.result.order (ids_in a.order.now)) c.state_in-s.ensures (r.ensures.is m) (ap call.in_order r.ensures.count.is) refl r.ensures.count
