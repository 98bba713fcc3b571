use mathlib.Core.List.{[], ◌∷◌}
use borrow.Author.Rules.{rules}
use lib.ListN.{get_or}
use Rattle.node.specs.Node.{with_noise}
use Rattle.words.proofs.Changes.{changed_rows, stored_where}
use Rattle.graph.specs.Node.{is_node, next_noise, raise_noise}
use Rattle.graph_rows.specs.Node.{node_of, nodes_in}
use Rattle.graph_rows.proofs.NoiseWord.{noise_put}
use Rattle.graph_tables.proofs.noise.raise_noise.Goals as goal

pub returns : goal.returns
returns c =
    let s = c.args in
    changed_rows 22 21 (λ l. l) node_of (raise_noise s.bus) s.nodes.now c.change_rows.new.t s.count _ c.change_rows.ensures
    (λ t i r h.
    let x = get_or (nodes_in t.now) i (node_of []) in
    let k = next_noise x.noise in
    stored_where 22 21 (λ l. l) node_of t.now i (with_noise k x) r (k ∷ []) (is_node s.bus x) (search rules) (noise_put t.now k i))
