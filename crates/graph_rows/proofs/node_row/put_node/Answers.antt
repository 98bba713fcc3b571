use mathlib.Core.Path.{ap, ◌∙◌}
use lib.ListN.{set}
use Rattle.words.proofs.Rows.{put_is}
use Rattle.graph_rows.specs.Node.{node_of, nodes_in}
use Rattle.graph_rows.proofs.node_row.put_node.Goals as goal

pub returns : goal.returns
returns c =
    let ws = c.node_words in
    ap nodes_in c.put_row.ensures ∙ put_is 22 node_of c.args.t.now ws.result c.args.i ws.ensures.long ∙ ap (set (nodes_in c.args.t.now) c.args.i) ws.ensures.back
