use mathlib.Core.Path.{◌∙◌}
use Rattle.lists.proofs.Find.{any_find}
use Rattle.edges.proofs.table.is_listed.Goals as goal

pub returns : goal.returns
returns c = c.contains.ensures.value ∙ any_find _ c.args.keys.now
