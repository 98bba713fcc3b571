-- Prepare (SPEC 5.1): 13, then 14 (SPEC 5.3); else the processing order. That the order has not all live nodes is that
-- there is a cycle among them: proofs/Theorems.antt, both ways.
use Rattle.std.specs.Prelude.{List, [], map, cond, not, Result, Err, Ok}
use Rattle.node.specs.declared.record.Node.{Node}
use Rattle.node.specs.declared.record.NodeId.{NodeId}
use Rattle.node.specs.declared.record.Edge.{Edge}
use Rattle.node.specs.declared.refusal.Refusal.{Refusal}
use Rattle.node.specs.declared.refusal.Refusal.TheVariants.{RequiredPort, Cycle}
use Rattle.rank.specs.Order.{whole}
use Rattle.prepare.specs.Live.{live_ids, arc_of, processing_order}
use Rattle.prepare.specs.Required.{lacking}

pub record Outcome : Type 0 where
  pub answer : Result (Unit {0}) Refusal
  pub order : List NodeId

abbrev pub refused : Refusal → Outcome
refused r = record { answer = Err r; order = [] }

unfoldable pub prepare : List Node → List Edge → Outcome
prepare nodes edges =
    cond (lacking nodes edges) (refused RequiredPort)
    (cond (not (whole (live_ids nodes) (map arc_of edges))) (refused Cycle)
    (record { answer = Ok tt; order = processing_order nodes edges }))
