use Rattle.std.proofs.Common.{rules, not}
use Rattle.arrayvec.proofs.ArrayVecLemmas.{filter-from_retain}
use Rattle.graph.specs.Node.{owned_by}
use Rattle.graph.proofs.node_table.drop_owned.Goals as goal

pub returns : goal.returns
returns c = filter-from_retain _ (λ n. not (owned_by c.args.voice n)) _ (λ x b f y called. search rules) _ _ c.retain.ensures.filtered
