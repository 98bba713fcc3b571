use Rattle.std.proofs.Common.{◌≤◌, ◌+◌, ◌*◌, arith}
use Rattle.model.specs.Page.{port_now}
use Rattle.engine.proofs.Texts.{then, widened, page_more}
use Rattle.engine.proofs.page.page_text.Goals as goal

pub loop-v-preserved : goal.loop-v-preserved
loop-v-preserved c =
    let a = c.args in
    let i = c.loop-v.v-index in
    let more : 21 + 70 * i + 70 ≤ 21 + 70 * (i + 1) = omega arith in
    let line = rw c.port_now.ensures at c.put_line.ensures in
    widened more (page_more a.clock (port_now a.edges.now) i a.voices.now _ c.loop-v-test.true)
    (then c.loop-v.invariant line)
