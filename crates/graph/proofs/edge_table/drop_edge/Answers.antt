use Rattle.std.proofs.Common.{◌∙◌, sym}
use Rattle.edges.specs.Wiring.{ends_at}
use Rattle.lists.proofs.Lone.{dropped, no_row, rest_all}
use Rattle.graph.proofs.edge_table.drop_edge.Goals as goal

pub returns-in-Some : goal.returns-in-Some
returns-in-Some c = c.remove.ensures.items ∙ dropped _ _ _ c.requires.lone (sym c.in-Some.is ∙ c.requires.found)

pub returns-in_default : goal.returns-in_default
returns-in_default c = sym (rest_all _ _ (no_row (ends_at c.args.to c.args.port) _ (sym c.in_default.is ∙ c.requires.found)))
