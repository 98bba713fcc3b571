use Rattle.std.proofs.Common.{◌∙◌, ◌<◌, arith, length}
use borrow.Author.Tests.{leb-false}
use Rattle.edges.specs.Wiring.{drop_at}
use Rattle.edges.proofs.Wiring.{place_left}
use Rattle.graph.proofs.edge_table.put_edge.Goals as goal

pub push-requires : goal.push-requires
push-requires c =
    let left = place_left c.args.edges.now.items c.args.e.to c.args.e.port c.requires.small in
    let room : length (drop_at c.args.edges.now.items c.args.e.to c.args.e.port) < 1024 = leb-false _ _ (left ∙ c.requires.room) in
    rw c.drop_edge.ensures (omega arith, room)
