use Prim.Native.Nat.{◌+◌, ◌*◌}
use mathlib.Core.List.{[]}
use lib.ListN.{take}
use Rattle.voice_rows.specs.Rows.{voices_in}
use Rattle.graph_rows.specs.Edge.{edges_in}
use Rattle.model.specs.Page.{port_now, page}
use Rattle.call_page.specs.Text.{shown, Added}
use Rattle.call_page.proofs.put.page_text.Given as goal

-- the header, and the lines of the first i voices
abbrev pub invariant-loop-i : goal.invariant-loop-i
invariant-loop-i l = Added (21 + 70 * l.i) (page l.s.clock (port_now (take l.s.edges (edges_in l.edges))) (take l.i (voices_in l.t))) [] (shown l.page)
