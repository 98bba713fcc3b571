use Rattle.std.proofs.Common.{arith, rules}
use mathlib.Core.Path.{refl}
use Rattle.model.specs.Call as call
use Rattle.memory.specs.Lent.{lent_edges}
use Rattle.piecrag_c_read.proofs.Reading.{reads}
use Rattle.piecrag_c_read.proofs.table.piecrag_source.Goals as goal

pub returns : goal.returns
returns c =
    let a = c.args in
    let r = c.sources-all in
    λ m. reads (λ s. lent_edges s a.edges.now m) a.state.now (call.fed r.result) call.fed r.result c.state_in-s.ensures (r.ensures m) refl refl (grind arith, search rules)
