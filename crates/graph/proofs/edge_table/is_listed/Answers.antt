use Rattle.std.proofs.Common.{◌∙◌}
use Rattle.lists.proofs.Find.{any_find}
use Rattle.graph.proofs.edge_table.is_listed.Goals as goal

pub returns : goal.returns
returns c = c.contains.ensures.value ∙ any_find _ c.args.ids.now
