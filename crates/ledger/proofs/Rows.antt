-- What is true of the live nodes and the next node id after every list of calls, shown by three moves: a node is appended under the
-- next id, nodes go, a node's record is replaced. So nodes stand by rising id, all below the next.
use Prim.Native.Nat.{ℕ, ◌+◌, ◌<◌}
use native.Mathlib.Omega.{arith}
use mathlib.Core.Path.{◌≡◌, ap, ◌∙◌}
use mathlib.Core.Logic.{⊎_elim}
use mathlib.Core.List.{List, [], ◌∷◌, ◌++◌}
use Rattle.std.specs.Prelude.{Some, filter}
use mathlib.Core.Bool.{Bool, not, cond}
use Rattle.ledger.proofs.Owner.{replaced_id}
use Rattle.lists.specs.Member.{In}
use Rattle.lists.proofs.Member.{in_snoc, in_map}
use Rattle.lists.proofs.Filter.{in_filter}
use Rattle.lists.specs.Rising.{RisesFrom}
use Rattle.lists.proofs.Rising.{rises_filter, rises_snoc, rises_map}
use Rattle.node.specs.declared.record.NodeId.{NodeId}
use Rattle.node.specs.declared.record.Node.{Node}
use Rattle.graph.specs.View.{GraphView}
use Rattle.graph.specs.Node.{is_node, owned_by, node_at, host_node, with_id, replaced, raise_noise, noise_raised}
use Rattle.graph.specs.Change as change
use Rattle.voice.specs.Voice.{id}
use Rattle.model.specs.Spawn.{Wire, voice_nodes, voice_wires, append_all, wire_all, next_voice, fade_node, pans, raised}
use Rattle.model.specs.Call.{Call}
use Rattle.ledger.specs.Ledger.{Ledger, admission_on}
use Rattle.ledger.specs.Call.{run}
use Rattle.ledger.proofs.Raised.{raise_id, in_raised}
use Rattle.ledger.proofs.Preserved.{Preserves, Alike, kept_run}
use Rattle.ledger.proofs.Spawning.{Spawning, place_keeps, managed_keeps}

module _ (N : List Node → ℕ → Type 0)
    (more : (ns : List Node) (next : ℕ) (n : Node) → N ns next → N (ns ++ (with_id next n ∷ [])) (next + 1))
    (fewer : (ns : List Node) (next : ℕ) (t : Node → Bool) → N ns next → N (filter t ns) next)
    (other : (ns : List Node) (next : ℕ) (k : NodeId) (x n : Node) → node_at ns k ≡ Some x → Alike x n → N ns next → N (replaced ns n) next)
    (raise : (ns : List Node) (next : ℕ) (bus : NodeId) → N ns next → N (noise_raised bus ns) next) where
  abbrev pub NodesOf : Ledger → Type 0
  NodesOf l = N l.shared.graph.nodes l.shared.graph.next

  append_all_lem : (xs : List Node) (g : GraphView) → N g.nodes g.next → N (append_all g xs).nodes (append_all g xs).next
  append_all_lem [] g h = h
  append_all_lem (x ∷ xs) g h = append_all_lem xs (change.append g x) (more g.nodes g.next x h)

  wire_all_lem : (base : ℕ) (ws : List Wire) (g : GraphView) → N g.nodes g.next → N (wire_all base g ws).nodes (wire_all base g ws).next
  wire_all_lem base [] g h = h
  wire_all_lem base (w ∷ ws) g h = wire_all_lem base ws (change.connect g (id (base + w.from)) (id (base + w.to)) w.port) h

  pub nodes_spawning : Spawning NodesOf
  nodes_spawning =
      record {
        cuts = λ l v s h. fewer l.shared.graph.nodes l.shared.graph.next (λ x. not (owned_by v.id x)) h;
        fades = λ l v p h. more l.shared.graph.nodes l.shared.graph.next (fade_node v.id) h;
        instantiates = λ l spawn s p h.
            let xs = voice_nodes (next_voice l.shared) spawn.def (pans spawn.pan) in
            wire_all_lem l.shared.graph.next (voice_wires spawn.def (pans spawn.pan)) (append_all (raised spawn.bus l.shared.graph) xs)
            (append_all_lem xs (raised spawn.bus l.shared.graph) (raise l.shared.graph.nodes l.shared.graph.next spawn.bus h));
      }

  pub nodes_preserved : Preserves NodesOf
  nodes_preserved =
      record {
        add_node = λ l kind ports required values glides e h. more l.shared.graph.nodes l.shared.graph.next (host_node kind ports required values glides) h;
        remove_node = λ l k e h. fewer l.shared.graph.nodes l.shared.graph.next (λ x. not (is_node k x)) h;
        connect = λ l a b p e h. h;
        disconnect = λ l b p e h. h;
        set_sink = λ l k h. h;
        loose = λ l spawn e h. place_keeps NodesOf nodes_spawning spawn 0 _ l h;
        goes = λ l w h. fewer l.shared.graph.nodes l.shared.graph.next (λ x. not (owned_by w x)) h;
        node = λ l k x n e s h. other l.shared.graph.nodes l.shared.graph.next k x n e s h;
        schedule = λ l e f h. h;
        rest = λ l h. h;
        prepare = λ l e h. h;
        block = λ l a h. h;
      }

  pub nodes_run : (xs : List Call) (l : Ledger) → NodesOf l → NodesOf (run xs l).ledger
  nodes_run = kept_run NodesOf nodes_preserved (λ l spawn e h. managed_keeps NodesOf nodes_spawning spawn (admission_on spawn.bus spawn.rank l) l h)

-- ---- by rising id, all below the next
pub record Rows (ns : List Node) (next : ℕ) : Type 0 where
  pub rises : RisesFrom (λ (x : Node). x.id.0) 0 ns
  pub below : (x : Node) → In x ns → x.id.0 < next

pub rows_more : (ns : List Node) (next : ℕ) (n : Node) → Rows ns next → Rows (ns ++ (with_id next n ∷ [])) (next + 1)
rows_more ns next n r =
    record {
      rises = rises_snoc (λ (x : Node). x.id.0) 0 ns (with_id next n) r.rises (omega arith) (λ y i. r.below y i);
      below = λ y i. ⊎_elim (λ j. omega (arith, r.below y j)) (λ p. let z : y.id.0 ≡ next = ap (λ (x : Node). x.id.0) p in omega arith) (in_snoc ns (with_id next n) y i);
    }

pub rows_fewer : (ns : List Node) (next : ℕ) (t : Node → Bool) → Rows ns next → Rows (filter t ns) next
rows_fewer ns next t r = record { rises = rises_filter (λ (x : Node). x.id.0) t 0 ns r.rises; below = λ y i. r.below y (in_filter t ns y i).0 }

pub rows_other : (ns : List Node) (next : ℕ) (n : Node) → Rows ns next → Rows (replaced ns n) next
rows_other ns next n r =
    record {
      rises = rises_map (λ (x : Node). x.id.0) (λ m. cond (is_node n.id m) n m) (replaced_id n) 0 ns r.rises;
      below = λ y i.
          let q = in_map (λ m. cond (is_node n.id m) n m) ns y i in
          let z : y.id.0 ≡ q.0.id.0 = ap (λ (x : Node). x.id.0) q.2 ∙ replaced_id n q.0 in
          omega (arith, z, r.below q.0 q.1);
    }

pub rows_raised : (bus : NodeId) (ns : List Node) (next : ℕ) → Rows ns next → Rows (noise_raised bus ns) next
rows_raised bus ns next r =
    record {
      rises = rises_map (λ (x : Node). x.id.0) (raise_noise bus) (raise_id bus) 0 ns r.rises;
      below = λ y i. let q = in_raised bus ns y i in omega (arith, q.2.0, r.below q.0 q.1);
    }

abbrev pub RowsOf : Ledger → Type 0
RowsOf l = Rows l.shared.graph.nodes l.shared.graph.next

pub rows_preserved : Preserves RowsOf
rows_preserved = nodes_preserved Rows rows_more rows_fewer (λ ns next k x n e s r. rows_other ns next n r) (λ ns next bus r. rows_raised bus ns next r)

pub rows_spawning : Spawning RowsOf
rows_spawning = nodes_spawning Rows rows_more rows_fewer (λ ns next k x n e s r. rows_other ns next n r) (λ ns next bus r. rows_raised bus ns next r)
