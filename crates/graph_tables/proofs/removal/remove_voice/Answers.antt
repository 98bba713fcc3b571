use borrow.Author.Rules.{rules}
use Rattle.graph.specs.Node.{owned_by}
use Rattle.graph_tables.proofs.removal.remove_voice.Goals as goal

pub returns : goal.returns
returns c = c.remove.ensures (owned_by c.args.voice) (λ x b h. search rules)
