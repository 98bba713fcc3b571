use Rattle.std.proofs.Common.{◌≡◌, ◌+◌, ◌∙◌, arith, length}
use Rattle.graph.proofs.Grown.{appended_more}
use Rattle.graph.proofs.node_table.append_all.Goals as goal

pub loop-n-preserved : goal.loop-n-preserved
loop-n-preserved c =
    let i = c.loop-n.invariant in
    let next : c.loop-n.id + 1 ≡ c.args.next + (c.loop-n.n-index + 1) = omega (arith, i.2) in
    let long : length c.push.new.self.items ≡ length c.args.nodes.now.items + (c.loop-n.n-index + 1) = omega (arith, c.push.ensures.len, i.1) in
    (c.push.ensures.items ∙ appended_more c.args.nodes.now.items c.args.next c.args.more.now c.loop-n.n-index _ _ i.0 i.2 c.loop-n-test.true _, long, next)
