use mathlib.Core.Path.{refl, sym, ◌∙◌}
use Rattle.words.proofs.Place.{counted}
use Rattle.graph_rows.specs.Node.{node_of}
use Rattle.graph_tables.proofs.lookup.node_count.Goals as goal

pub returns : goal.returns
returns c = c.row_count.ensures ∙ sym (counted 22 node_of c.args.nodes.now c.args.count _ refl)
