-- While the graph is prepared, prepare would answer what it holds (SPEC 5.1, 5.2): the order has every live node once,
-- and each source before its target; and a prepared graph never fails to prepare (SPEC 5.3). So a sounding render has
-- all live nodes (SPEC 12).
use Prim.Native.Nat.{ℕ, suc}
use native.Mathlib.Omega.{arith}
use mathlib.Core.Path.{◌≡◌, refl, sym, ap, ◌∙◌, subst}
use mathlib.Core.Logic.{inl, inr}
use mathlib.Core.List.{List, [], ◌∷◌, map, map-map}
use Rattle.std.specs.Prelude.{None, Some, is_some, Result, Err, Ok}
use mathlib.Core.Bool.{Bool, true, false, cond, ◌&&◌, false≢true}
use lib.ListN.{length}
use borrow.Author.Tests.{eqb-true, eq-eqb}
use Rattle.ledger.proofs.Owner.{replaced_id}
use Rattle.lists.specs.Member.{In}
use Rattle.lists.proofs.Member.{some_inj, map_same}
use Rattle.lists.proofs.Find.{find_in}
use Rattle.lists.specs.Rising.{RisesFrom}
use Rattle.lists.proofs.Rising.{rises_once}
use Rattle.node.specs.declared.record.NodeId.{NodeId}
use Rattle.node.specs.declared.record.Node.{Node}
use Rattle.node.specs.declared.record.Edge.{Edge}
use Rattle.node.specs.declared.refusal.Refusal.{Refusal}
use Rattle.rank.specs.Cycle.{Sorted}
use Rattle.prepare.specs.Live as live
use Rattle.prepare.specs.Live.{id_of, arc_of, live_ids, live_nodes, processing_order, live_all}
use Rattle.prepare.specs.Required.{any, lacks, lacking}
use Rattle.prepare.specs.Prepare as graph
use Rattle.prepare.proofs.Theorems.{number, ready_sorted}
use Rattle.graph.specs.View.{GraphView}
use Rattle.graph.specs.Node.{is_node, node_at, replaced}
use Rattle.scheduler.specs.declared.event.Event.{Event}
use Rattle.store.specs.declared.config.Config.{Config}
use Rattle.model.specs.SharedState.{SharedState, with_graph, sounding}
use Rattle.model.specs.Render.{prepare_outcome, prepare_shared, ready_shared, any_free, heard, answer_after, is_sounding, due, render_refusal}
use Rattle.model.specs.Call.{Call}
use Rattle.model.specs.Call as call
use Rattle.ledger.specs.Ledger.{Ledger, new_ledger, admission_on}
use Rattle.ledger.specs.Render.{apply_events, prepared_if, rested}
use Rattle.ledger.specs.Call.{step, render_step, run}
use Rattle.ledger.specs.Claim.{is_sounded}
use Rattle.ledger.proofs.Preserved.{Preserves, Alike, open_moves, events_kept, kept_run}
use Rattle.ledger.proofs.Spawning.{Spawning, place_keeps, managed_keeps}
use Rattle.ledger.proofs.Rows.{Rows, rows_other, rows_preserved, rows_spawning}

-- ---- prepare reads of a node its id, its ports and which of them it requires
lacks_alike : (ids : List ℕ) (es : List Edge) (x n : Node) → Alike x n → lacks ids es n ≡ lacks ids es x
unfolding lacks
lacks_alike ids es x n s = rw (s.id, s.ports, s.required)

lacking_alike : (f : Node → Node) (ns : List Node) (ids : List ℕ) (es : List Edge) → ((x : Node) → In x ns → Alike x (f x)) → any (lacks ids es) (map f ns) ≡ any (lacks ids es) ns
unfolding any
lacking_alike f [] ids es h = refl
lacking_alike f (x ∷ ns) ids es h = rw (lacks_alike ids es x (f x) (h x (inl refl)), lacking_alike f ns ids es (λ y i. h y (inr i)))

pub to_live : (least : ℕ) (ns : List Node) → RisesFrom id_of least ns → live.RisesFrom least ns
to_live least [] r = tt
to_live least (x ∷ ns) r = (r.0, to_live (suc (id_of x)) ns r.1)

live_rows : (ns : List Node) (next : ℕ) → Rows ns next → live_nodes ns ≡ ns
live_rows ns next r = live_all ns (to_live 0 ns r.rises)

pub live_ids_lem : (ns : List Node) (next : ℕ) → Rows ns next → live_ids ns ≡ map id_of ns
unfolding live_ids
live_ids_lem ns next r = ap (map id_of) (live_rows ns next r)

lacking_rows : (ns : List Node) (next : ℕ) → Rows ns next → (es : List Edge) → lacking ns es ≡ any (lacks (map id_of ns) es) ns
unfolding lacking
lacking_rows ns next r es = rw (live_ids_lem ns next r, live_rows ns next r)

module _ (ns : List Node) (next : ℕ) (r : Rows ns next) (k : NodeId) (x n : Node) (at : node_at ns k ≡ Some x) (s : Alike x n) (es : List Edge) where
  abbrev new : Node → Node
  new m = cond (is_node n.id m) n m

  -- only the row of that id is another
  new_alike : (m : Node) → In m ns → Alike m (new m)
  new_alike m i = go (is_node n.id m) refl
    where
      this : is_node n.id m ≡ true → x ≡ m
      this e =
          let a : m.id.0 ≡ x.id.0 = eqb-true m.id.0 n.id.0 e ∙ ap (λ (z : NodeId). z.0) s.id in
          let b : x.id.0 ≡ k.0 = eqb-true x.id.0 k.0 (find_in (is_node k) ns x at).1 in
          some_inj (sym at ∙ rises_once id_of 0 ns r.rises k.0 m i (eq-eqb m.id.0 k.0 (a ∙ b)))

      go : (b : Bool) → is_node n.id m ≡ b → Alike m (cond b n m)
      go true e = subst (λ z. Alike z n) (this e) s
      go false e = record { id = refl; owner = refl; ports = refl; required = refl }

  ids_same : map id_of (replaced ns n) ≡ map id_of ns
  ids_same = map-map id_of new ns ∙ map_same (λ m. id_of (new m)) id_of ns (λ m i. replaced_id n m)

  pub prepare_same : graph.prepare (replaced ns n) es ≡ graph.prepare ns es
  unfolding graph.prepare processing_order
  prepare_same = rw (all_lack, same)
    where
      r' : Rows (replaced ns n) next
      r' = rows_other ns next n r

      same : live_ids (replaced ns n) ≡ live_ids ns
      same = live_ids_lem (replaced ns n) next r' ∙ ids_same ∙ sym (live_ids_lem ns next r)

      all_lack : lacking (replaced ns n) es ≡ lacking ns es
      all_lack = lacking_rows (replaced ns n) next r' es ∙ ap (λ ids. any (lacks ids es) (replaced ns n)) ids_same ∙ lacking_alike new ns (map id_of ns) es new_alike ∙ sym (lacking_rows ns next r es)

-- ---- prepared: prepare answers that it is, with the order that is held
abbrev pub HoldsOrder : GraphView → Type 0
HoldsOrder g = g.prepared ≡ true → graph.prepare g.nodes g.edges ≡ record { answer = Ok tt; order = g.order }

pub record Prepares (g : GraphView) : Type 0 where
  pub rows : Rows g.nodes g.next
  pub holds : HoldsOrder g

abbrev pub ReadyOf : Ledger → Type 0
ReadyOf l = Prepares l.shared.graph

-- a change of the graph makes it unprepared
unprepared : {A : Type 0} → ◌≡◌ {A = Bool} false true → A
unprepared e = absurd (false≢true e)

ready_spawning : Spawning ReadyOf
ready_spawning =
    record {
      cuts = λ l v s h. record { rows = rows_spawning.cuts l v s h.rows; holds = unprepared };
      fades = λ l v p h. record { rows = rows_spawning.fades l v p h.rows; holds = unprepared };
      instantiates = λ l spawn s p h. record { rows = rows_spawning.instantiates l spawn s p h.rows; holds = unprepared };
    }

ready_preserved : Preserves ReadyOf
ready_preserved =
    record {
      add_node = λ l kind ports required values glides e h. record { rows = rows_preserved.add_node l kind ports required values glides e h.rows; holds = unprepared };
      remove_node = λ l k e h. record { rows = rows_preserved.remove_node l k e h.rows; holds = unprepared };
      connect = λ l a b p e h. record { rows = h.rows; holds = unprepared };
      disconnect = λ l b p e h. record { rows = h.rows; holds = unprepared };
      set_sink = λ l k h. record { rows = h.rows; holds = unprepared };
      loose = λ l spawn e h. place_keeps ReadyOf ready_spawning spawn 0 _ l h;
      goes = λ l w h. record { rows = rows_preserved.goes l w h.rows; holds = unprepared };
      node = λ l k x n e s h.
          record {
            rows = rows_preserved.node l k x n e s h.rows;
            holds = λ p. prepare_same l.shared.graph.nodes l.shared.graph.next h.rows k x n e s l.shared.graph.edges ∙ h.holds p;
          };
      schedule = λ l e f h. h;
      rest = λ l h. h;
      prepare = λ l e h. record { rows = h.rows; holds = λ p. ap (λ a. record { answer = a; order = (prepare_outcome l.shared).order }) e };
      block = λ l a h. h;
    }

pub ready_run : (xs : List Call) (l : Ledger) → ReadyOf l → ReadyOf (run xs l).ledger
ready_run = kept_run ReadyOf ready_preserved (λ l spawn e h. managed_keeps ReadyOf ready_spawning spawn (admission_on spawn.bus spawn.rank l) l h)

pub ready_new : (c : Config) → ReadyOf (new_ledger c)
ready_new c = record { rows = record { rises = tt; below = λ x i. absurd i }; holds = unprepared }

-- ---- so the order is right, and prepare answers done and changes nothing
pub prepared_sorted : (g : GraphView) → Prepares g → g.prepared ≡ true → Sorted (map id_of g.nodes) (map arc_of g.edges) (map number g.order)
prepared_sorted g h p =
    subst (λ ids. Sorted ids (map arc_of g.edges) (map number g.order)) (live_ids_lem g.nodes g.next h.rows)
    (subst (λ (o : graph.Outcome). Sorted (live_ids g.nodes) (map arc_of g.edges) (map number o.order)) (h.holds p)
    (ready_sorted g.nodes g.edges (ap (λ (o : graph.Outcome). o.answer) (h.holds p))))

pub prepared_same : (d : SharedState) → Prepares d.graph → d.graph.prepared ≡ true → prepare_shared d ≡ d
prepared_same d h p =
    ap (λ (o : graph.Outcome). ready_shared o.answer o.order d) (h.holds p)
    ∙ ap (λ b. with_graph (record { nodes = d.graph.nodes; edges = d.graph.edges; sink = d.graph.sink; prepared = b; order = d.graph.order; next = d.graph.next }) d) (sym p)

-- ---- a render sounds exactly where the graph that it leaves is prepared and has a sink: a prepare that fails inside it met a graph that
-- was not prepared
heard_is : (b : Bool) → is_sounding (heard b) ≡ b
heard_is true = refl
heard_is false = refl

module _ (d : SharedState) (h : Prepares d.graph) where
  failed : (r : Refusal) → (prepare_outcome d).answer ≡ Err r → d.graph.prepared ≡ false
  failed r e = go d.graph.prepared refl
    where
      go : (b : Bool) → d.graph.prepared ≡ b → b ≡ false
      go false p = refl
      go true p =
          let same : (Ok tt) ≡ Err r = ap (λ (o : graph.Outcome). o.answer) (sym (h.holds p)) ∙ e in
          let z : ◌≡◌ {A = ℕ} 0 1 = cc in
          absurd (omega arith)

  after_sounds : is_sounding (answer_after (prepare_outcome d).answer (prepare_shared d)) ≡ sounding (prepare_shared d)
  after_sounds = go (prepare_outcome d).answer refl
    where
      go : (r : Result (Unit {0}) Refusal) → (prepare_outcome d).answer ≡ r → is_sounding (answer_after r (ready_shared r (prepare_outcome d).order d)) ≡ sounding (ready_shared r (prepare_outcome d).order d)
      go (Ok tt) e = heard_is (sounding (ready_shared (Ok tt) (prepare_outcome d).order d))
      go (Err r) e = sym (ap (λ b. b && is_some d.graph.sink) (failed r e))

block_sounds : (b : Bool) (l : Ledger) → ReadyOf l → is_sounding (prepared_if b l).answer ≡ sounding (prepared_if b l).ledger.shared
block_sounds true l h = after_sounds l.shared h
block_sounds false l h = heard_is (sounding l.shared)

pub render_sounds : (out : List ℕ) (l : Ledger) → ReadyOf l → render_refusal l.shared (length out) ≡ None
    → is_sounded (step (call.render out) l).answer ≡ sounding (step (call.render out) l).ledger.shared
render_sounds out l h e =
    ap (λ o. is_sounded (render_step o out l).answer) e ∙ block_sounds (any_free q) (apply_events q (rested l)) (events_kept (open_moves ready_preserved) q (rested l) h)
    ∙ ap (λ o. sounding (render_step o out l).ledger.shared) (sym e)
  where
    q : List Event
    q = due l.shared
