use mathlib.Core.Path.{sym, ap, ◌∙◌}
use mathlib.Core.List.{[]}
use lib.ListN.{get_or}
use Rattle.graph_rows.specs.Node.{node_of, nodes_in}
use Rattle.model.specs.Order.{takes}
use Rattle.node.specs.declared.record.Node.{Node}
use Rattle.words.proofs.Rows.{row_is}
use Rattle.call_param.proofs.last.takes_at.Goals as goal

pub returns-in-Value : goal.returns-in-Value
unfolding node_of
returns-in-Value c =
    let s = c.args in
    c.flag_at.ensures ∙ sym (ap (λ o. takes o (get_or (nodes_in s.t.now) s.i (node_of []))) c.in-Value.is ∙ ap (λ (x : Node). x.takes_values) (row_is 22 node_of s.t.now s.i))

pub returns-in-Glide : goal.returns-in-Glide
unfolding node_of
returns-in-Glide c =
    let s = c.args in
    c.flag_at-in-Glide.ensures ∙ sym (ap (λ o. takes o (get_or (nodes_in s.t.now) s.i (node_of []))) c.in-Glide.is ∙ ap (λ (x : Node). x.takes_glides) (row_is 22 node_of s.t.now s.i))
