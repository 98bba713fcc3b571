use Rattle.std.proofs.Common.{rules, not, refl}
use Rattle.words.proofs.Gaps.{closed_rows}
use Rattle.edges.specs.Wiring.{touches}
use Rattle.graph_rows.specs.Edge.{edge_of}
use Rattle.graph_tables.proofs.removal.drop_touching.Goals as goal

pub returns : goal.returns
returns c =
    let s = c.args in
    closed_rows 3 edge_of (λ e. not (touches s.ids.now e)) s.edges.now c.close_gaps.new.t c.close_gaps.result 0 s.count _ c.close_gaps.ensures (λ t i b h. search rules) refl
