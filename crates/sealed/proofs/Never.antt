-- After sealing no spawn meets refusal 7, whatever the list of calls; and the promise on when a spawn fails, without its headroom.
use Rattle.ledger.proofs.Marks.{spawned_inj}
use Rattle.node.specs.declared.record.VoiceId.{VoiceId}
use Prim.Native.Nat.{ℕ, zero, suc, ◌+◌, ◌*◌, ◌≤◌, ◌<◌}
use native.Mathlib.Omega.{arith}
use native.Mathlib.Nat.{add-mul, mul-le-mul_right}
use mathlib.Core.Path.{◌≡◌, refl, sym, ap, ◌∙◌, subst}
use mathlib.Core.Logic.{◌⊎◌, inl, inr, ⊎_elim}
use mathlib.Core.List.{List, [], ◌∷◌}
use Rattle.std.specs.Prelude.{Option, None, Some, find, Result, Err}
use mathlib.Core.Bool.{Bool, true, false, not, cond, false≢true}
use lib.Dec.{eqb, leb, ltb}
use lib.ListN.{length}
use borrow.Author.Tests.{eqb-true, eq-eqb, ne_eqb, leb-true, le-ltb, lt-leb, not-false, not-true}
use Rattle.lists.specs.Member.{In}
use Rattle.lists.proofs.Member.{and_left, and_right, none_some}
use Rattle.lists.proofs.Find.{find_in}
use Rattle.lists.specs.Count.{count}
use Rattle.lists.proofs.Count.{count_length}
use Rattle.edges.specs.Wiring.{ends_at}
use Rattle.graph.specs.Node.{is_node, node_at, ports_of, of_voice}
use Rattle.graph.specs.Refuse.{when, dead, host_test, host_refusal}
use Rattle.synthdef.specs.Limits.{allowed}
use Rattle.model.specs.SharedState.{SharedState}
use Rattle.voice.specs.Voice.{id}
use Rattle.model.specs.Refuse.{or_else, rank_limit, no_headroom, no_ids, spawn_refusal}
use Rattle.model.specs.Spawn.{Spawn, state_under, tries}
use Rattle.model.specs.Call.{Call}
use Rattle.ledger.specs.Ledger.{Ledger, SpawnResult, place_within_budget, steal_voice, admitted, admission_on}
use Rattle.ledger.specs.Call.{step, run}
use Rattle.ledger.proofs.Allowed.{spawn_allowed}
use Rattle.ledger.proofs.Preserved.{place_kept, unless_spawn_kept}
use Rattle.ledger.proofs.Managed.{managed_kept}
use Rattle.ledger.specs.Claim.{owner_at, owner_of, holder_of, source_holds, held_by, is_host}
use Rattle.ledger.proofs.Owner.{owner_some}
use Rattle.ledger.specs.Holder.{nobody, by_voice}
use Rattle.ledger.proofs.EdgeInvariant.{Out, edge_at_lem}
use Rattle.ledger.proofs.Spawns.{InvariantOf, ids_of_lem}
use Rattle.ledger.proofs.Simulation.{RunInvariant, kept_step_lem}
use Rattle.node.specs.declared.record.NodeId.{NodeId}
use Rattle.node.specs.declared.record.Node.{Node}
use Rattle.node.specs.declared.record.Edge.{Edge}
use Rattle.node.specs.declared.refusal.Refusal.{Refusal}
use Rattle.node.specs.declared.refusal.Refusal.TheVariants.{UnknownNode, VoiceNode, TableFull, IdsUsedUp, DefinitionLimits, BusWithoutPorts, RankTooHigh}
use Rattle.synthdef.specs.declared.def.SynthDef.{SynthDef}
use Rattle.voice.specs.declared.voices.Voice.{Voice}
use Rattle.voice.specs.declared.voices.VoiceState.{VoiceState}
use Rattle.voice.specs.declared.voices.VoiceState.TheVariants.{Tracked, Fading, Loose}
use Rattle.model.specs.Call as call
use Rattle.ledger.specs.Ledger as ledger
use Rattle.sealed.specs.Seal.{most_ports, nodes_for, edges_for, Fits, accepts, within, shuts, all_open}
use Rattle.sealed.specs.declared.profile.Profile.{Profile}
use Rattle.sealed.proofs.Counting.{covered, ports_enough}
use Rattle.sealed.proofs.Accepts.{accepts_fits}
use Rattle.sealed.proofs.Live.{LiveOf, LiveNodes, live_step}
use Rattle.sealed.proofs.Open.{open_kept}
use Rattle.sealed.proofs.Within.{owned_n, is_owner, from_owner, fades, WithinL, within_moves}
use Rattle.sealed.proofs.Spawning.{on_bus, within_admitted}

-- what sealing tested of the numbers
pub record NumbersFit (s : Profile) : Type 0 where
  pub most : s.ports ≤ most_ports
  pub nodes : nodes_for s ≤ 512
  pub edges : edges_for s ≤ 1024

at_most_one : (t : VoiceState) → fades t ≤ 1
at_most_one Tracked = omega arith
at_most_one (Fading f) = omega arith
at_most_one Loose = omega arith

-- ---- the tables of a sealed ledger
module _ (s : Profile) (l : Ledger) (sound : InvariantOf l) (live : LiveOf l) (r : WithinL s l) where
  -- I1, I2: at most P voices
  pub voices_few : length l.voices ≤ s.ports
  voices_few = ports_enough (λ p. l.holders s.bus.0 p) s.ports l.shared.spawned l.voices (ids_of_lem l sound) r.holds

  pub nodes_few : length l.shared.graph.nodes ≤ s.host_nodes + s.ports * (s.def_nodes + 3)
  nodes_few =
      let c = covered (owned_n 0) (λ (v : Voice). owned_n v.id.0) (s.def_nodes + 3) l.voices l.shared.graph.nodes whose (λ v i. omega (arith, r.nodes v i, at_most_one v.state)) in
      let m : length l.voices * (s.def_nodes + 3) ≤ s.ports * (s.def_nodes + 3) = mul-le-mul_right (s.def_nodes + 3) voices_few in
      omega (arith, c, m, r.hosts)
    where
      whose : (x : Node) → In x l.shared.graph.nodes → (owned_n 0 x ≡ true) ⊎ ((v : Voice) × In v l.voices × (owned_n v.id.0 x ≡ true))
      whose x i = ⊎_elim (λ p. inl (eq-eqb _ _ p)) (λ z. inr (z.0, z.1, eq-eqb _ _ (sym z.2))) (live x i)

  pub edges_few : length l.shared.graph.edges ≤ s.host_edges + s.ports * (s.def_edges + 4)
  edges_few =
      let c = covered (from_owner l.shared.graph.nodes 0) (λ (v : Voice). from_owner l.shared.graph.nodes v.id.0) (s.def_edges + 4) l.voices l.shared.graph.edges whose (λ v i. omega (arith, r.edges v i, at_most_one v.state)) in
      let m : length l.voices * (s.def_edges + 4) ≤ s.ports * (s.def_edges + 4) = mul-le-mul_right (s.def_edges + 4) voices_few in
      omega (arith, c, m, r.wires)
    where
      whose : (e : Edge) → In e l.shared.graph.edges → (from_owner l.shared.graph.nodes 0 e ≡ true) ⊎ ((v : Voice) × In v l.voices × (from_owner l.shared.graph.nodes v.id.0 e ≡ true))
      whose e i =
          let g = sound.wired.ends e i in
          let o = owner_some (node_at l.shared.graph.nodes (id e.from.0)) g.a g.from in
          let n = find_in (is_node (id e.from.0)) l.shared.graph.nodes o.0 o.1 in
          ⊎_elim (λ p. inl (ap (λ u. is_owner u 0) g.from ∙ eq-eqb _ _ (sym o.2 ∙ p)))
          (λ z. inr (z.0, z.1, ap (λ u. is_owner u z.0.id.0) g.from ∙ eq-eqb _ _ (sym o.2 ∙ sym z.2))) (live o.0 n.0)

  -- "hence P + 1": the new voice's headroom is asked while P voices may still live
  pub headroom : NumbersFit s → (def : SynthDef) → def.nodes.count ≤ s.def_nodes → def.edges.count ≤ s.def_edges → no_headroom l.shared l.voices def ≡ false
  headroom m def small few =
      let a : length l.shared.graph.nodes + def.nodes.count + 3 ≤ 512 = omega (arith, m.nodes, nodes_few, small, add-mul s.ports 1 (s.def_nodes + 3), one_times (s.def_nodes + 3)) in
      let b : length l.shared.graph.edges + def.edges.count + 4 ≤ 1024 = omega (arith, m.edges, edges_few, few, add-mul s.ports 1 (s.def_edges + 4), one_times (s.def_edges + 4)) in
      let c : length l.voices < 64 = omega (arith, m.most, voices_few) in
      rw (le-ltb 512 (length l.shared.graph.nodes + def.nodes.count + 3) a, le-ltb 1024 (length l.shared.graph.edges + def.edges.count + 4) b, lt-leb 64 (length l.voices) c)
    where
      one_times : (n : ℕ) → 1 * n ≡ n
      one_times n = omega arith

-- ---- no answer of a spawn is 7
abbrev Not7 : Option Refusal → Type 0
Not7 o = o ≡ Some TableFull → ⊥

not7 : (b : Bool) (x : Refusal) (o : Option Refusal) → Not7 (Some x) → Not7 o → Not7 (when b x o)
not7 true x o f g = f
not7 false x o f g = g

or7 : (o u : Option Refusal) → Not7 o → Not7 u → Not7 (or_else o u)
or7 None u f g = g
or7 (Some x) u f g = f

none7 : Not7 None
none7 e = none_some e

refusal7 : (d : SharedState) (vs : List Voice) (def : SynthDef) (bus : NodeId) (rank : ℕ) → no_headroom d vs def ≡ false → Not7 (spawn_refusal d vs def bus rank)
refusal7 d vs def bus rank h =
    not7 (ltb rank_limit rank) RankTooHigh _ (λ e. let z : ◌≡◌ {A = ℕ} 0 1 = cc in omega arith)
    (not7 (not (allowed def)) DefinitionLimits _ (λ e. let z : ◌≡◌ {A = ℕ} 0 1 = cc in omega arith)
    (or7 (host_refusal d.graph bus) _ (not7 (dead (node_at d.graph.nodes bus)) UnknownNode _ (λ e. let z : ◌≡◌ {A = ℕ} 0 1 = cc in omega arith) (not7 (of_voice (node_at d.graph.nodes bus)) VoiceNode None (λ e. let z : ◌≡◌ {A = ℕ} 0 1 = cc in omega arith) none7))
    (not7 (eqb (ports_of (node_at d.graph.nodes bus)) 0) BusWithoutPorts _ (λ e. let z : ◌≡◌ {A = ℕ} 0 1 = cc in omega arith)
    (subst (λ b. Not7 (when b TableFull (when (no_ids d def) IdsUsedUp None))) (sym h) (not7 (no_ids d def) IdsUsedUp None (λ e. let z : ◌≡◌ {A = ℕ} 0 1 = cc in omega arith) none7)))))

Fine : SpawnResult → Type 0
Fine r = r.answer ≡ Err TableFull → ⊥

fine_budgeted : (x : Spawn) (l : Ledger) → Fine (place_within_budget x l)
unfolding Fine
fine_budgeted x l =
    place_kept x (state_under l.shared.config.budget) (λ n m. Unit {0}) Fine (λ n m p e q z. let y : ◌≡◌ {A = ℕ} 0 1 = cc in omega arith) (λ m e q z. let y : ◌≡◌ {A = ℕ} 0 1 = cc in omega arith)
    (λ n m e f q z. let y : ◌≡◌ {A = ℕ} 0 1 = cc in omega arith) (λ n m v e f q. tt) (tries l.shared.config.budget l.voices) l tt

spawn_fine : (x : Spawn) (l : Ledger) → InvariantOf l → no_headroom l.shared l.voices x.def ≡ false → (step (call.spawn_managed x) l).answer ≡ call.spawned (Err TableFull) → ⊥
unfolding Fine
spawn_fine x l sound h e = go (spawn_refusal l.shared l.voices x.def x.bus x.rank) (refusal7 l.shared l.voices x.def x.bus x.rank h) (spawned_inj e)
  where
    all : Fine (admitted (admission_on x.bus x.rank l) x l)
    all =
        managed_kept x Fine l (ids_of_lem l sound) (λ h z. let y : ◌≡◌ {A = ℕ} 0 1 = cc in omega arith) (λ h. fine_budgeted x l)
        (λ p w h v i t. fine_budgeted x (steal_voice v l))

    refused_inj : (a b : Refusal) → ◌≡◌ {A = Result VoiceId Refusal} (Err a) (Err b) → a ≡ b
    refused_inj a b e = cc

    go : (o : Option Refusal) → Not7 o → (ledger.unless o l (admitted (admission_on x.bus x.rank l) x l)).answer ≡ Err TableFull → ⊥
    go None f z = all z
    go (Some r) f z = f (ap Some (refused_inj r TableFull z))

-- ---- a ledger sealed by s: after an accepted sealing, and after every list of open calls since
pub record Sealed (s : Profile) (l : Ledger) : Type 0 where
  pub kept : RunInvariant l
  pub live : LiveNodes l
  pub least : 2 ≤ s.ports
  pub room : NumbersFit s
  pub inside : WithinL s l

-- a store that the seal fits has the invariant
fits_within : (s : Profile) (l : Ledger) → InvariantOf l → LiveOf l → Fits s l.shared l.voices → WithinL s l
fits_within s l sound live f =
    record {
      listed = sound.listed;
      positive = λ v i. absurd (nobody v i);
      bus = ap (λ o. owner_of' o) f.host.1 ∙ ap Some f.host.2;
      ports = ap ports_of f.host.1 ∙ f.host.3;
      on = λ v i. absurd (nobody v i);
      holds = λ v i. absurd (nobody v i);
      hosts = omega (arith, every l.shared.graph.nodes (λ x i. i), count_length (owned_n 0) l.shared.graph.nodes, f.held);
      nodes = λ v i. absurd (nobody v i);
      wires = omega (arith, f.wires, count_length (from_owner l.shared.graph.nodes 0) l.shared.graph.edges);
      edges = λ v i. absurd (nobody v i);
    }
  where
    owner_of' : Option Node → Option ℕ
    owner_of' o = owner_of o

    nobody : (v : Voice) → In v l.voices → ⊥
    nobody v i = subst (λ vs. In v vs) f.empty i

    every : (ns : List Node) → ((x : Node) → In x ns → In x l.shared.graph.nodes) → length ns ≤ count (owned_n 0) ns
    every ns sub = omega (arith, covered (owned_n 0) (λ (v : Voice). owned_n 0) 0 [] ns (λ x i. inl (⊎_elim (λ p. eq-eqb _ _ p) (λ z. absurd (nobody z.0 z.1)) (live x (sub x i)))) (λ v i. absurd i))

pub sealed_start : (s : Profile) (l : Ledger) → RunInvariant l → LiveNodes l → accepts s l.shared l.voices ≡ true → Sealed s l
sealed_start s l kept live a =
    let f = accepts_fits s l.shared l.voices a in
    record { kept = kept; live = live; least = f.least; room = record { most = f.most; nodes = f.nodes; edges = f.edges }; inside = fits_within s l kept.sound live.1 f }

-- what an open spawn is
pub record Open (s : Profile) (x : Spawn) : Type 0 where
  pub at : x ≡ on_bus s.bus x
  pub small : x.def.nodes.count ≤ s.def_nodes
  pub few : x.def.edges.count ≤ s.def_edges

pub opens : (s : Profile) (x : Spawn) → within s x ≡ true → Open s x
opens s x w =
    let z = and_right (eqb x.bus.0 s.bus.0) _ w in
    record {
      at = ap (λ n. on_bus (record { 0 = n }) x) (eqb-true _ _ (and_left (eqb x.bus.0 s.bus.0) _ w));
      small = leb-true _ _ (and_left (leb x.def.nodes.count s.def_nodes) _ z);
      few = leb-true _ _ (and_right (leb x.def.nodes.count s.def_nodes) _ z);
    }

-- an open call keeps the invariant
open_within : (s : Profile) (x : Call) (l : Ledger) → InvariantOf l → shuts s x ≡ false → WithinL s l → WithinL s (step x l).ledger
open_within s x l sound h r = open_kept (WithinL s) (within_moves s) s x l h managed r
  where
    managed : (y : Spawn) → x ≡ call.spawn_managed y → WithinL s (ledger.spawn_managed y l).ledger
    managed y e =
        let o = opens s y (not-false _ (sym (ap (shuts s) e) ∙ h)) in
        subst (λ y. WithinL s (ledger.spawn_managed y l).ledger) (sym o.at)
        (unless_spawn_kept (WithinL s) (spawn_refusal l.shared l.voices y.def s.bus y.rank) l (admitted (admission_on s.bus y.rank l) (on_bus s.bus y) l) r (λ e.
        within_admitted s y (spawn_allowed l.shared l.voices y.def s.bus y.rank e).definition o.small o.few l sound r))

pub sealed_step : (s : Profile) (x : Call) (l : Ledger) → shuts s x ≡ false → Sealed s l → Sealed s (step x l).ledger
sealed_step s x l h q =
    record { kept = kept_step_lem x l q.kept; live = live_step x l q.live; least = q.least; room = q.room; inside = open_within s x l q.kept.sound h q.inside }

pub sealed_run : (s : Profile) (xs : List Call) (l : Ledger) → all_open s xs ≡ true → Sealed s l → Sealed s (run xs l).ledger
sealed_run s [] l h q = q
sealed_run s (x ∷ xs) l h q = sealed_run s xs (step x l).ledger (and_right (not (shuts s x)) _ h) (sealed_step s x l (not-true _ (and_left (not (shuts s x)) _ h)) q)

-- ---- what holds of it
-- "a spawn then never meets refusal 7"
pub spawn_never_full : (s : Profile) (x : Spawn) (l : Ledger) → Sealed s l → within s x ≡ true → (step (call.spawn_managed x) l).answer ≡ call.spawned (Err TableFull) → ⊥
spawn_never_full s x l q w =
    let o = opens s x w in
    spawn_fine x l q.kept.sound (headroom s l q.kept.sound q.live.1 q.inside q.room x.def o.small o.few)

-- the table refuses no open spawn with an allowed definition while ids are left
pub not_refused : (s : Profile) (x : Spawn) (l : Ledger) → Sealed s l → within s x ≡ true → x.rank ≤ 7 → allowed x.def ≡ true → no_ids l.shared x.def ≡ false
    → spawn_refusal l.shared l.voices x.def x.bus x.rank ≡ None
not_refused s x l q w low ok ids =
    let r = q.inside in
    let u = opens s x w in
    let o = owner_some (node_at l.shared.graph.nodes s.bus) 0 r.bus in
    let a : host_refusal l.shared.graph s.bus ≡ None = ap host_test o.1 ∙ rw o.2 in
    let b : eqb (ports_of (node_at l.shared.graph.nodes s.bus)) 0 ≡ false = ne_eqb (ports_of (node_at l.shared.graph.nodes s.bus)) 0 (λ e. omega (arith, r.ports, e, q.least)) in
    subst (λ y. spawn_refusal l.shared l.voices y.def y.bus y.rank ≡ None) (sym u.at)
    (rw (le-ltb 7 x.rank low, ok, a, b, headroom s l q.kept.sound q.live.1 r q.room x.def u.small u.few, ids))

-- ---- a voice of a sealed ledger holds exactly one port of the bus
held_edge : (s : Profile) (l : Ledger) → InvariantOf l → WithinL s l → (v : Voice) (p : ℕ) → by_voice v.id (l.holders s.bus.0 p) ≡ true
    → (d : Edge) × In d l.shared.graph.edges × Out (owner_at l.shared.graph.nodes) v.id.0 d × (d.port ≡ p)
held_edge s l sound r v p h =
    src (find (ends_at (id s.bus.0) p) l.shared.graph.edges) refl
    (sym (ap (λ o. by_voice v.id (cond (is_host o) (held_by (owner_at l.shared.graph.nodes) (find (ends_at (id s.bus.0) p) l.shared.graph.edges)) nobody)) r.bus) ∙ (sym (ap (by_voice v.id) (sound.held s.bus.0 p)) ∙ h))
  where
    own : (k : ℕ) (f : NodeId) → by_voice v.id (holder_of k f) ≡ true → k ≡ v.id.0
    own zero f h = absurd (false≢true h)
    own (suc k) f h = eqb-true (suc k) v.id.0 h

    src : (o : Option Edge) → find (ends_at (id s.bus.0) p) l.shared.graph.edges ≡ o → by_voice v.id (held_by (owner_at l.shared.graph.nodes) o) ≡ true
        → (d : Edge) × In d l.shared.graph.edges × Out (owner_at l.shared.graph.nodes) v.id.0 d × (d.port ≡ p)
    src None e b = absurd (false≢true b)
    src (Some d) e b =
        let a = edge_at_lem l.shared.graph.edges (id s.bus.0) p d e in
        let g = sound.wired.ends d a.0 in
        let o : g.a ≡ v.id.0 = own g.a d.from (sym (ap (λ u. by_voice v.id (source_holds u d.from)) g.from) ∙ b) in
        (d, a.0, (ap (owner_at l.shared.graph.nodes) a.1 ∙ r.bus, g.from ∙ ap Some o), a.2)

pub one_port : (s : Profile) (l : Ledger) → InvariantOf l → WithinL s l → (v : Voice) → In v l.voices → (p q : ℕ) → by_voice v.id (l.holders s.bus.0 p) ≡ true → by_voice v.id (l.holders s.bus.0 q) ≡ true → p ≡ q
one_port s l sound r v i p q a b =
    let d = held_edge s l sound r v p a in
    let e = held_edge s l sound r v q b in
    sym d.3 ∙ sound.voiced.one v i d.0 e.0 d.1 e.1 d.2 e.2 ∙ e.3
