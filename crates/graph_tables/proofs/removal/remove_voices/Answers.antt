use borrow.Author.Rules.{rules}
use Rattle.graph.specs.Node.{owned_by_any}
use Rattle.graph_tables.proofs.removal.remove_voices.Goals as goal

pub returns : goal.returns
returns c = c.remove.ensures (owned_by_any c.args.voices.now) (λ x b h. search rules)
