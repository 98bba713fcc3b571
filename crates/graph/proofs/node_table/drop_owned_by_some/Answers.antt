use Rattle.std.proofs.Common.{rules, not}
use Rattle.arrayvec.proofs.ArrayVecLemmas.{filter-from_retain}
use Rattle.graph.specs.Node.{owned_by_some}
use Rattle.graph.proofs.node_table.drop_owned_by_some.Goals as goal

pub returns : goal.returns
returns c = filter-from_retain _ (λ n. not (owned_by_some c.args.voices.now n)) _ (λ x b f y called. search rules) _ _ c.retain.ensures.filtered
