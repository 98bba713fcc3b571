-- What a report leaves, from the ways through its code.
use Prim.Native.Nat.{ℕ}
use mathlib.Core.Path.{◌≡◌, refl, sym, ap, subst, ◌∙◌}
use mathlib.Core.List.{List, []}
use Rattle.std.specs.Prelude.{Option, None, Some, position, Err, Ok, Result}
use mathlib.Core.Bool.{Bool}
use lib.Ieee.{Float}
use lib.ListN.{length, take, get_or}
use Rattle.node.specs.declared.record.Node.{Node}
use Rattle.node.specs.declared.record.NodeId.{NodeId}
use Rattle.node.specs.Node.{reported}
use Rattle.level.specs.Level.{level_of}
use Rattle.node.specs.declared.refusal.Refusal.{Refusal}
use Rattle.graph.specs.View.{with_nodes}
use Rattle.graph.specs.Node.{node_at, replaced}
use Rattle.graph_rows.specs.Node.{node_of, nodes_in}
use Rattle.model.specs.SharedState.{with_graph}
use Rattle.voice.specs.Voice.{id}
use Rattle.model.specs.Order.{report_node}
use Rattle.model.specs.Call.{shared_step, done, refused}
use Rattle.model.specs.Call as call
use Rattle.voice_rows.specs.Rows.{voices_in}
use Rattle.memory.specs.declared.state.State.{State}
use Rattle.memory.specs.View.{Memory, model_of, shared_of, graph_of}
use Rattle.memory.proofs.Contracts.{refuses, serves}
use Rattle.memory.specs.Lent.{lent_params}
use Rattle.memory.specs.Called.{Called}
use Rattle.call_param.specs.Left.{is_left}
use Rattle.call_param.proofs.Replacing.{first_seen}
use Rattle.call_report.specs.Tested.{row_in, tested, Told}

-- ---- the whole: the node was looked for by its row
module _ (s : State) (ns voices : List ℕ) (k : NodeId) (channels : ℕ) (samples : List Float) (flag : Bool) (row : Option ℕ)
    (at : row ≡ position (is_left [] (id k.0)) (take s.nodes (nodes_in ns))) (t : Result ℕ Refusal)
    (told : Told row (tested (take s.voices (voices_in voices)) (row_in row (nodes_in ns)) s.config.block channels (length samples)) t) where
  abbrev all : List Node
  all = take s.nodes (nodes_in ns)

  seen : row_in row (nodes_in ns) ≡ node_at all k
  seen = first_seen [] ns s.nodes k.0 row at

  abbrev refusal : Option Refusal
  refusal = tested (take s.voices (voices_in voices)) (node_at all k) s.config.block channels (length samples)

  told_whole : Told row refusal t
  told_whole = subst (λ o. Told row (tested (take s.voices (voices_in voices)) o s.config.block channels (length samples)) t) seen told

  refused_by : (x : Refusal) → t ≡ Err x → refusal ≡ Some x
  refused_by x e = subst (Told row refusal) e told_whole

  -- done: the node is in the row that was found
  done_by : (p : ℕ) → t ≡ Ok p → (refusal ≡ None) × (row ≡ Some p)
  done_by p e = subst (Told row refusal) e told_whole

  pub found_at : (p : ℕ) → t ≡ Ok p → position (is_left [] (id k.0)) (take s.nodes (nodes_in ns)) ≡ Some p
  found_at p e = sym at ∙ (done_by p e).1

  module _ (m : Memory) where
    abbrev old : Memory
    old = lent_params s ns voices m

    abbrev reporting : call.Step
    reporting = shared_step (model_of old) (report_node (node_at all k) samples flag (shared_of old)) done

    pub reports_not : (x : Refusal) → t ≡ Err x → Called (call.report k channels samples flag) old (refused x) old
    reports_not x e = refuses (call.report k channels samples flag) old refusal reporting refl x (refused_by x e)

    pub reports_done : (p : ℕ) → t ≡ Ok p → (new : List ℕ) (level : Float) → level ≡ level_of samples → take s.nodes (nodes_in new) ≡ replaced all (reported level flag (get_or (nodes_in ns) p (node_of [])))
        → Called (call.report k channels samples flag) old done (lent_params s new voices m)
    reports_done p e new level is left =
        let its : Node = get_or (nodes_in ns) p (node_of []) in
        let there : node_at all k ≡ Some its = sym seen ∙ ap (λ r. row_in r (nodes_in ns)) (done_by p e).1 in
        serves (call.report k channels samples flag) old refusal reporting refl done (lent_params s new voices m) (done_by p e).0
        (ap (λ l. shared_step (model_of old) (with_graph (with_nodes (graph_of old) l) (shared_of old)) done) (left ∙ ap (λ x. replaced all (reported x flag its)) is)
        ∙ ap (λ o. shared_step (model_of old) (report_node o samples flag (shared_of old)) done) (sym there))
