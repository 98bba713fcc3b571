use mathlib.Core.Path.{ap, ◌∙◌}
use Rattle.graph_rows.specs.Node.{nodes_in}
use Rattle.graph_rows.proofs.NoiseWord.{noise_put}
use Rattle.graph_rows.proofs.node_row.put_noise.Goals as goal

pub returns : goal.returns
returns c =
    let s = c.args in
    ap nodes_in c.put_fields.ensures ∙ noise_put s.t.now s.k s.i
