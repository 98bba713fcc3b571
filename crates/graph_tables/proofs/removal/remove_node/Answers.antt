use borrow.Author.Rules.{rules}
use Rattle.graph.specs.Node.{is_node}
use Rattle.graph_tables.proofs.removal.remove_node.Goals as goal

pub returns : goal.returns
returns c = c.remove.ensures (is_node c.args.id) (λ x b h. search rules)
