use mathlib.Core.Path.{refl, ap, ◌∙◌}
use Rattle.piecrag_c_read.specs.Cells.{row_cell}
use lib.ListN.{take}
use Rattle.std.specs.Prelude.{slice_get}
use Rattle.graph_rows.specs.Edge.{edges_in}
use Rattle.state_words.specs.State.{state_in, some_flag}
use Rattle.piecrag_c_read.proofs.table.piecrag_edge_at.Goals as goal

pub returns : goal.returns
returns c =
    let a = c.args in
    let r = c.edge_at-r in
    let read = c.state_in-s in
    let is = r.ensures ∙ ap (λ s. slice_get (take s.edges (edges_in a.edges.now)) a.place) read.ensures in
    λ m.
    record {
      value = take (state_in a.state.now).edges (edges_in a.edges.now);
      answer = refl;
      number = refl;
      held = (c.put_found.ensures.flag ∙ ap some_flag is, c.put_found.ensures.row ∙ ap (λ e. row_cell e (edges_in a.row.now)) is);
    }
