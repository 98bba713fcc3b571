use mathlib.Core.Path.{refl, sym, ◌∙◌}
use Rattle.words.proofs.Place.{counted}
use Rattle.graph_rows.specs.Edge.{edge_of}
use Rattle.graph_tables.proofs.wiring.edge_count.Goals as goal

pub returns : goal.returns
returns c = c.row_count.ensures ∙ sym (counted 3 edge_of c.args.edges.now c.args.count _ refl)
