use mathlib.Core.Path.{sym, ap, ◌∙◌}
use Rattle.node.specs.declared.record.Node.{Node}
use Rattle.words.proofs.Rows.{row_is}
use Rattle.graph_rows.specs.Node.{node_of}
use Rattle.graph_rows.proofs.Records.{node_same}
use Rattle.graph_rows.proofs.node_row.node_at.Goals as goal

pub returns : goal.returns
unfolding node_of
returns c =
    let is = sym (row_is 22 node_of c.args.t.now c.args.i) in
    node_same _ _ c.id_at.ensures c.owner_at.ensures (c.name_at-kind.ensures ∙ ap (λ (n : Node). n.kind) is) c.ports_at.ensures c.required_at.ensures
    (c.flag_at.ensures ∙ ap (λ (n : Node). n.takes_values) is) (c.flag_at-2.ensures ∙ ap (λ (n : Node). n.takes_glides) is) c.done_at.ensures
    c.level_at.ensures (c.last_at.ensures ∙ ap (λ (n : Node). n.last) is) c.noise_at.ensures
