use mathlib.Core.Path.{ap, ◌∙◌}
use lib.ListN.{set}
use borrow.Author.Rules.{rules}
use Rattle.words.proofs.Rows.{put_is}
use Rattle.graph_rows.specs.Edge.{edge_of, edges_in}
use Rattle.graph_rows.proofs.edge_row.set_edge.Goals as goal

pub returns : goal.returns
returns c =
    let ws = c.edge_words in
    ap edges_in c.put_row.ensures ∙ put_is 3 edge_of c.args.t.now ws.result c.args.i (search rules) ∙ ap (set (edges_in c.args.t.now) c.args.i) ws.ensures
