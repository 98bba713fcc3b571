use mathlib.Core.Path.{sym, ◌∙◌}
use lib.ListN.{take}
use Rattle.graph_rows.specs.Node.{nodes_in}
use Rattle.call_clear.proofs.Flags.{none_done}
use Rattle.call_clear.proofs.silence.Flags.from.Goals as goal

pub returns-else-self : goal.returns-else-self
returns-else-self c = let f = c.args.self.now in none_done (take f.n (nodes_in f.nodes.now)) (sym f.known ∙ c.if-self.false) c.args.first c.args.count
