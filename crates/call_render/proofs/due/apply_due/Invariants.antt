use lib.ListN.{take}
use Rattle.voice_rows.specs.Rows.{voices_in}
use Rattle.graph_rows.specs.Node.{nodes_in}
use Rattle.event_table.specs.Rows.{events_in}
use Rattle.call_render.proofs.Events.{EventsApplied}
use Rattle.call_render.proofs.due.apply_due.Given as goal

abbrev pub invariant-loop-i : goal.invariant-loop-i
invariant-loop-i l =
    EventsApplied l.deadline (events_in l.t) l.i-end (take l.s.voices (voices_in l.voices)) (take l.s.nodes (nodes_in l.initial.nodes)) l.initial.out (take l.s.nodes (nodes_in l.nodes)) l.freed l.out l.taken l.i
