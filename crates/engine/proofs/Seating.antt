-- The store with a new voice, and with a victim's fade, by the parts that the code computes.
use Prim.Native.Nat.{ℕ, ◌+◌, ◌≤◌, ◌<◌}
use native.Mathlib.Omega.{arith}
use mathlib.Core.Path.{◌≡◌, refl, sym, ap, ◌∙◌, subst}
use mathlib.Core.List.{List, [], ◌∷◌, ◌++◌, map}
use mathlib.Core.Bool.{Bool, true, false, cond}
use lib.Dec.{leb}
use lib.ListN.{length, length-map}
use borrow.Author.Tests.{lt-leb, eqb-true}
use lib.Dec.{eqb}
use Rattle.std.specs.Prelude.{Option, None, Some, find, option_map, Result, Ok, Err}
use Rattle.lists.specs.Member.{In}
use Rattle.lists.proofs.Member.{and_left, and_right}
use Rattle.lists.proofs.Find.{find_in}
use Rattle.node.specs.declared.record.NodeId.{NodeId}
use Rattle.node.specs.declared.record.VoiceId.{VoiceId}
use Rattle.node.specs.declared.record.Node.{Node}
use Rattle.node.specs.declared.record.Edge.{Edge}
use Rattle.node.specs.declared.refusal.Refusal.{Refusal}
use Rattle.edges.specs.Ports.{feeds}
use Rattle.graph.specs.View.{GraphView}
use Rattle.graph.specs.Node.{raise_noise, node_at}
use Rattle.graph.specs.Change.{edge}
use Rattle.graph.specs.Sound.{Sound}
use Rattle.graph.specs.Grown.{with_all}
use Rattle.voice.specs.declared.voices.Voice.{Voice}
use Rattle.voice.specs.declared.voices.VoiceState.{VoiceState}
use Rattle.voice.specs.declared.voices.VoiceState.TheVariants.{Tracked}
use Rattle.voice.specs.declared.voices.Fade.{Fade}
use Rattle.voice.specs.Voice.{id, is_voice, feeder, begin_fade, new_fade}
use Rattle.voice.specs.Voices.{VoicesView, admitted_as, with_voice}
use Rattle.model.specs.Spawn.{Spawn, pans, next_voice, new_voice, voice_nodes, fade_node, instantiate_graph, raised, recorded, fade_of, fade_graph}
use Rattle.model.specs.Model.{Model, instantiate, port_free, fade, cut_off, stolen, steal_voice}
use Rattle.engine.specs.Spawning.{Headroom, FadeRoom, answer_in, inner_edges, outer_edge, restolen, steal_found}
use Rattle.engine.proofs.Seats.{wire_edge, inner_wires, outer_wire, voice_is, fade_is, alive_free, alive_raised}

-- ---- the store with this graph and these voices
abbrev pub regraphed : GraphView → VoicesView → Model → Model
regraphed g v m =
    record {
      shared = record { config = m.shared.config; graph = g; events = m.shared.events; steals = m.shared.steals; clock = m.shared.clock; spawned = v.spawned };
      voices = v.live;
    }

abbrev pub voices_of : Model → VoicesView
voices_of m = record { live = m.voices; spawned = m.shared.spawned }

pub admitted : (m : Model) → length m.voices < 64 → m.shared.spawned < 18446744073709551615 → admitted_as (voices_of m) ≡ Ok (next_voice m.shared)
admitted m a b = rw (lt-leb _ _ a, lt-leb _ _ b) refl

module _ (x : Spawn) (s : VoiceState) (p : ℕ) (m : Model) (room : Headroom x.def m) (free : port_free x.bus m ≡ Some p) where
  abbrev g : GraphView
  g = raised x.bus m.shared.graph

  graph_is : with_all g (voice_nodes (next_voice m.shared) x.def (pans x.pan)) (inner_edges (id g.next) x.def (pans x.pan)) (outer_edge (id g.next) x.def (pans x.pan) x.bus p)
      ≡ instantiate_graph (next_voice m.shared) x.def (pans x.pan) x.bus p g
  graph_is =
      let places : length g.nodes + x.def.nodes.count + 2 ≤ 512 = omega (arith, length-map m.shared.graph.nodes (raise_noise x.bus), room.places) in
      ap (λ l. with_all g (voice_nodes (next_voice m.shared) x.def (pans x.pan)) l (outer_edge (id g.next) x.def (pans x.pan) x.bus p)) (sym (inner_wires x.def room.within g.next room.ids (pans x.pan)))
      ∙ ap (with_all g (voice_nodes (next_voice m.shared) x.def (pans x.pan)) (map (wire_edge g.next) _)) (sym (outer_wire x.def room.within g.next room.ids (pans x.pan) x.bus p))
      ∙ voice_is (next_voice m.shared) x.def (pans x.pan) x.bus p g room.within places room.wires room.ids (alive_raised m.shared.graph.nodes x.bus (alive_free m.shared.graph.edges m.shared.graph.nodes x.bus p free))

  pub seated : (h : GraphView) → h ≡ with_all g (voice_nodes (next_voice m.shared) x.def (pans x.pan)) (inner_edges (id g.next) x.def (pans x.pan)) (outer_edge (id g.next) x.def (pans x.pan) x.bus p)
      → (v : VoicesView) → v ≡ with_voice (admitted_as (voices_of m)) (new_voice x s p m.shared) (voices_of m)
      → answer_in (Ok (next_voice m.shared)) (regraphed h v m) ≡ instantiate x s p m
  seated h is v are =
      ap (λ k. answer_in (Ok (next_voice m.shared)) (regraphed k v m)) (is ∙ graph_is)
      ∙ ap (λ k. answer_in (Ok (next_voice m.shared)) (regraphed (instantiate_graph (next_voice m.shared) x.def (pans x.pan) x.bus p g) k m))
      (are ∙ ap (λ r. with_voice r (new_voice x s p m.shared) (voices_of m)) (admitted m room.seats room.names))

-- ---- the victim
pub found_id : (w : VoiceId) (l : List Voice) (v : Voice) → find (is_voice w) l ≡ Some v → w ≡ v.id
found_id w l v e = ap named (sym (eqb-true v.id.0 w.0 (find_in (is_voice w) l v e).1))
  where
    named : ℕ → VoiceId
    named k = record { 0 = k }

-- one that feeds no port: its record says that it was cut, and it is removed
pub cuts : (v : Voice) (m : Model) → find (feeds (feeder v) v.bus) m.shared.graph.edges ≡ None → cut_off v Tracked m ≡ steal_voice v m
cuts v m e = ap (λ (o : Option Edge). stolen v (option_map (λ (d : Edge). d.port) o) m) (sym e)

-- one that feeds a port: its record, its node and edges, and its state
module _ (v : Voice) (m : Model) (room : FadeRoom m) (sound : Sound m.shared.graph.nodes m.shared.graph.edges m.shared.graph.next) (e : Edge) (fed : find (feeds (feeder v) v.bus) m.shared.graph.edges ≡ Some e) where
  held : In e m.shared.graph.edges × (feeds (feeder v) v.bus e ≡ true)
  held = find_in (feeds (feeder v) v.bus) m.shared.graph.edges e fed

  from : e.from ≡ feeder v
  from = ap id (eqb-true e.from.0 (feeder v).0 (and_left (eqb e.from.0 (feeder v).0) _ held.1))

  to : e.to ≡ v.bus
  to = ap id (eqb-true e.to.0 v.bus.0 (and_right (eqb e.from.0 (feeder v).0) _ held.1))

  pub fades : (h : GraphView) → h ≡ with_all m.shared.graph (fade_node v.id ∷ []) (edge e.from (id m.shared.graph.next) 0 ∷ []) (edge (id m.shared.graph.next) e.to e.port)
      → (vs : List Voice) → vs ≡ map (begin_fade v.id (fade_of m.shared)) m.voices
      → regraphed h (record { live = vs; spawned = m.shared.spawned }) (restolen (recorded v false m.shared) m) ≡ steal_voice v m
  fades h is vs are =
      ap (λ k. regraphed k (record { live = vs; spawned = m.shared.spawned }) (restolen (recorded v false m.shared) m)) (is ∙ fade_is v m.shared.graph sound e held.0 room.places room.wires room.ids from to)
      ∙ ap (λ l. regraphed (fade_graph v e.port m.shared.graph) (record { live = l; spawned = m.shared.spawned }) (restolen (recorded v false m.shared) m)) are
      ∙ ap (λ (o : Option Edge). stolen v (option_map (λ (d : Edge). d.port) o) m) (sym fed)

abbrev voices_with : List Voice → ℕ → VoicesView
voices_with l k = record { live = l; spawned = k }

-- ---- by the parts that the code computes
ok_same : {a b : VoiceId} → ◌≡◌ {A = Result VoiceId Refusal} (Ok a) (Ok b) → a ≡ b
ok_same p = cc

module _ (x : Spawn) (s : VoiceState) (p : ℕ) (m : Model) (room : Headroom x.def m) (free : port_free x.bus m ≡ Some p) where
  pub seated_by : (k : VoiceId) → admitted_as (voices_of m) ≡ Ok k → (v : Voice) → v ≡ new_voice x s p m.shared → (pan : Bool) → pan ≡ pans x.pan
      → (ns : List Node) → ns ≡ voice_nodes k x.def pan → (es : List Edge) → es ≡ inner_edges v.first x.def pan → (o : Edge) → o ≡ outer_edge v.first x.def pan x.bus p
      → (r : GraphView) → r ≡ raised x.bus m.shared.graph → (h : GraphView) → h ≡ with_all r ns es o
      → (a : Result VoiceId Refusal) → a ≡ admitted_as (voices_of m) → (vs : VoicesView) → vs ≡ with_voice (admitted_as (voices_of m)) v (voices_of m)
      → answer_in a (regraphed h vs m) ≡ instantiate x s p m
  seated_by k is-k v is-v pan is-pan ns is-ns es is-es o is-o r is-r h is-h a is-a vs is-vs =
      let d = m.shared in
      let n = new_voice x s p d in
      let g = raised x.bus d.graph in
      let same : k ≡ next_voice d = ok_same (sym is-k ∙ admitted m room.seats room.names) in
      let nodes : ns ≡ voice_nodes (next_voice d) x.def (pans x.pan) = is-ns ∙ ap (λ j. voice_nodes j x.def pan) same ∙ ap (voice_nodes (next_voice d) x.def) is-pan in
      let inner : es ≡ inner_edges n.first x.def (pans x.pan) = is-es ∙ ap (λ (j : Voice). inner_edges j.first x.def pan) is-v ∙ ap (inner_edges n.first x.def) is-pan in
      let outer : o ≡ outer_edge n.first x.def (pans x.pan) x.bus p = is-o ∙ ap (λ (j : Voice). outer_edge j.first x.def pan x.bus p) is-v ∙ ap (λ b. outer_edge n.first x.def b x.bus p) is-pan in
      let graph : h ≡ with_all g (voice_nodes (next_voice d) x.def (pans x.pan)) (inner_edges n.first x.def (pans x.pan)) (outer_edge n.first x.def (pans x.pan) x.bus p) =
      is-h ∙ ap (λ j. with_all j ns es o) is-r ∙ ap (λ j. with_all g j es o) nodes ∙ ap (λ j. with_all g (voice_nodes (next_voice d) x.def (pans x.pan)) j o) inner
      ∙ ap (with_all g (voice_nodes (next_voice d) x.def (pans x.pan)) (inner_edges n.first x.def (pans x.pan))) outer in
      ap (λ j. answer_in j (regraphed h vs m)) (is-a ∙ admitted m room.seats room.names)
      ∙ seated x s p m room free h graph vs (is-vs ∙ ap (λ j. with_voice (admitted_as (voices_of m)) j (voices_of m)) is-v)

module _ (w : VoiceId) (m : Model) (room : FadeRoom m) (v : Voice) (found : find (is_voice w) m.voices ≡ Some v) where
  -- a victim that feeds none
  pub stolen_none : find (feeds (feeder v) v.bus) m.shared.graph.edges ≡ None → cut_off v Tracked m ≡ steal_found (find (is_voice w) m.voices) m
  stolen_none e = cuts v m e ∙ sym (ap (λ o. steal_found o m) found)

  pub stolen_by : (told : Model) (cut : Bool) → told ≡ restolen (recorded v cut m.shared) m → cut ≡ false
      → Sound told.shared.graph.nodes told.shared.graph.edges told.shared.graph.next
      → (e : Edge) → find (feeds (feeder v) v.bus) m.shared.graph.edges ≡ Some e
      → (n : ℕ) → n ≡ told.shared.graph.next → (number : ℕ) → number ≡ m.shared.steals.count
      → (f : Node) → f ≡ fade_node v.id
      → (h : GraphView) → h ≡ with_all told.shared.graph (f ∷ []) (edge e.from (id n) 0 ∷ []) (edge (id n) e.to e.port)
      → (vs : VoicesView) → vs ≡ record { live = map (begin_fade v.id (new_fade n told.shared.clock number)) told.voices; spawned = told.shared.spawned }
      → regraphed h vs told ≡ steal_found (find (is_voice w) m.voices) m
  stolen_by told cut is-told is-cut sound e fed n is-n number is-number f is-f h is-h vs is-vs =
      let d = m.shared in
      let end = restolen (recorded v false d) m in
      let all : told ≡ end = is-told ∙ ap (λ b. restolen (recorded v b d) m) is-cut in
      let graph : told.shared.graph ≡ d.graph = ap (λ (k : Model). k.shared.graph) all in
      let clock : told.shared.clock ≡ d.clock = ap (λ (k : Model). k.shared.clock) all in
      let next : n ≡ d.graph.next = is-n ∙ ap (λ (g : GraphView). g.next) graph in
      let sounds = subst (λ (g : GraphView). Sound g.nodes g.edges g.next) graph sound in
      let grown : h ≡ with_all d.graph (fade_node v.id ∷ []) (edge e.from (id d.graph.next) 0 ∷ []) (edge (id d.graph.next) e.to e.port) =
      is-h ∙ ap (λ g. with_all g (f ∷ []) (edge e.from (id n) 0 ∷ []) (edge (id n) e.to e.port)) graph
      ∙ ap (λ j. with_all d.graph (j ∷ []) (edge e.from (id n) 0 ∷ []) (edge (id n) e.to e.port)) is-f
      ∙ ap (λ j. with_all d.graph (fade_node v.id ∷ []) (edge e.from (id j) 0 ∷ []) (edge (id j) e.to e.port)) next in
      let fade_is_of : new_fade n told.shared.clock number ≡ fade_of d = ap (λ j. new_fade j told.shared.clock number) next ∙ ap (λ j. new_fade d.graph.next j number) clock ∙ ap (new_fade d.graph.next d.clock) is-number in
      let live : vs ≡ record { live = map (begin_fade v.id (fade_of d)) m.voices; spawned = d.spawned } =
      is-vs ∙ ap (λ (k : Fade). voices_with (map (begin_fade v.id k) told.voices) told.shared.spawned) fade_is_of
      ∙ ap (λ (k : Model). voices_with (map (begin_fade v.id (fade_of d)) k.voices) k.shared.spawned) all in
      ap (regraphed h vs) all ∙ ap (λ k. regraphed h k end) live ∙ fades v m room sounds e fed h grown (map (begin_fade v.id (fade_of d)) m.voices) refl
      ∙ sym (ap (λ o. steal_found o m) found)
