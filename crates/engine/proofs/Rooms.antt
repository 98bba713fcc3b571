-- The room that each step of a spawn leaves.
use Prim.Native.Nat.{ℕ, zero, suc, ◌+◌, ◌≤◌}
use native.Mathlib.Omega.{arith}
use mathlib.Core.Path.{◌≡◌, refl}
use mathlib.Core.Bool.{not, ◌||◌}
use Rattle.std.specs.Prelude.{Option, None, Some, find, Err}
use lib.Dec.{ltb, leb, eqb}
use lib.ListN.{length, length-map}
use borrow.Author.Tests.{ltb-false, leb-false, not-false}
use Rattle.std.proofs.lemmas.Bool.{or_parts}
use Rattle.graph.proofs.Calls.{when_none}
use Rattle.lists.proofs.Filter.{length_filter}
use Rattle.node.specs.declared.record.NodeId.{NodeId}
use Rattle.node.specs.declared.record.VoiceId.{VoiceId}
use Rattle.node.specs.declared.refusal.Refusal.{Refusal}
use Rattle.node.specs.declared.refusal.Refusal.TheVariants.{DefinitionLimits, BusWithoutPorts, TableFull, IdsUsedUp, RankTooHigh}
use Rattle.edges.specs.Ports.{port_from}
use Rattle.graph.specs.Node.{node_at, ports_of}
use Rattle.graph.specs.Refuse.{host_refusal}
use Rattle.graph.specs.Tables.{answer_of}
use Rattle.synthdef.specs.Limits.{allowed}
use Rattle.synthdef.specs.declared.def.SynthDef.{SynthDef}
use Rattle.voice.specs.declared.voices.Voice.{Voice}
use Rattle.voice.specs.declared.voices.VoiceState.{VoiceState}
use Rattle.voice.specs.declared.voices.VoiceState.TheVariants.{Tracked}
use Rattle.voice.specs.Voice.{is_voice, feeder, begin_fade}
use Rattle.model.specs.Refuse.{or_else, rank_limit, no_headroom, no_ids, spawn_refusal}
use Rattle.model.specs.Spawn.{fade_of}
use Rattle.model.specs.Model.{Model, cut_off, stolen, steal_voice}
use Rattle.engine.proofs.Seats.{fade_nodes, fade_edges_lem}
use Rattle.engine.specs.Spawning.{leaving, go_on, reclaimed, Headroom, FadeRoom, Roomy, steal_found, steal}

-- ---- what the refusals leave
pub answer_some : (o : Option Refusal) (r : Refusal) → answer_of o ≡ Err r → o ≡ Some r
answer_some None r e = let z : ◌≡◌ {A = ℕ} 0 1 = cc in absurd (omega arith)
answer_some (Some q) r e = cc

else_none : (o rest : Option Refusal) → or_else o rest ≡ None → rest ≡ None
else_none None rest e = e
else_none (Some r) rest e = let z : ◌≡◌ {A = ℕ} 0 1 = cc in absurd (omega arith)

pub roomy : (m : Model) (def : SynthDef) (bus : NodeId) (rank : ℕ) → spawn_refusal m.shared m.voices def bus rank ≡ None → Roomy def m
roomy m def bus rank e =
    let d = m.shared in
    let vs = m.voices in
    let z = when_none (ltb rank_limit rank) RankTooHigh _ e in
    let a = when_none (not (allowed def)) DefinitionLimits _ z.1 in
    let b = when_none (eqb (ports_of (node_at d.graph.nodes bus)) 0) BusWithoutPorts _ (else_none (host_refusal d.graph bus) _ a.1) in
    let c = when_none (no_headroom d vs def) TableFull _ b.1 in
    let i = when_none (no_ids d def) IdsUsedUp _ c.1 in
    let n = or_parts (ltb 512 (length d.graph.nodes + def.nodes.count + 3)) (ltb 1024 (length d.graph.edges + def.edges.count + 4) || leb 64 (length vs)) c.0 in
    let w = or_parts (ltb 1024 (length d.graph.edges + def.edges.count + 4)) (leb 64 (length vs)) n.1 in
    let k = or_parts (ltb 4294967296 (d.graph.next + def.nodes.count + 3)) (leb 18446744073709551615 d.spawned) i.0 in
    record {
      within = not-false (allowed def) a.0;
      places = ltb-false 512 (length d.graph.nodes + def.nodes.count + 3) n.0;
      wires = ltb-false 1024 (length d.graph.edges + def.edges.count + 4) w.0;
      seats = leb-false 64 (length vs) w.1;
      ids = ltb-false 4294967296 (d.graph.next + def.nodes.count + 3) k.0;
      names = leb-false 18446744073709551615 d.spawned k.1;
    }

pub roomy_head : (def : SynthDef) (m : Model) → Roomy def m → Headroom def m
roomy_head def m r =
    let a = r.places in
    let b = r.wires in
    let c = r.ids in
    record { within = r.within; places = omega arith; wires = omega arith; seats = r.seats; ids = omega arith; names = r.names }

pub roomy_fade : (def : SynthDef) (m : Model) → Roomy def m → FadeRoom m
roomy_fade def m r =
    let a = r.places in
    let b = r.wires in
    let c = r.ids in
    record { places = omega arith; wires = omega arith; ids = omega arith }

-- ---- what is removed makes room
headroom_cut : (def : SynthDef) (v : Voice) (s : VoiceState) (m : Model) → Headroom def m → Headroom def (cut_off v s m)
headroom_cut def v s m h =
    let ns : length (cut_off v s m).shared.graph.nodes ≤ length m.shared.graph.nodes = length_filter _ m.shared.graph.nodes in
    let es : length (cut_off v s m).shared.graph.edges ≤ length m.shared.graph.edges = length_filter _ m.shared.graph.edges in
    let vs : length (cut_off v s m).voices ≤ length m.voices = length_filter _ m.voices in
    let a = h.places in
    let b = h.wires in
    let c = h.seats in
    record {
      within = h.within;
      places = omega arith;
      wires = omega arith;
      seats = omega arith;
      ids = h.ids;
      names = h.names;
    }

-- and so does all that is reclaimed
pub headroom_reclaimed : (def : SynthDef) (bus : NodeId) (rank : ℕ) (k : ℕ) (m : Model) → Headroom def m → Headroom def (reclaimed k bus rank m)
headroom_reclaimed def bus rank zero m h = h
headroom_reclaimed def bus rank (suc k) m h = go (leaving bus rank m) (headroom_reclaimed def bus rank k)
  where
    go : (o : Option Voice) → ((j : Model) → Headroom def j → Headroom def (reclaimed k bus rank j)) → Headroom def (go_on o m (λ j. reclaimed k bus rank j))
    go None ih = h
    go (Some v) ih = ih (cut_off v v.state m) (headroom_cut def v v.state m h)

-- a fade takes one node, one edge and one id
roomy_steal : (def : SynthDef) (v : Voice) (m : Model) → Roomy def m → Headroom def (steal_voice v m)
roomy_steal def v m r = go (port_from m.shared.graph.edges (feeder v) v.bus) refl
  where
    go : (o : Option ℕ) → port_from m.shared.graph.edges (feeder v) v.bus ≡ o → Headroom def (stolen v o m)
    go None e = headroom_cut def v Tracked m (roomy_head def m r)
    go (Some p) e =
        let ns = fade_nodes v p m.shared.graph in
        let es = fade_edges_lem v p m.shared.graph e in
        let vs = length-map m.voices (begin_fade v.id (fade_of m.shared)) in
        let a = r.places in
        let b = r.wires in
        let c = r.ids in
        let s = r.seats in
        record { within = r.within; places = omega arith; wires = omega arith; seats = omega arith; ids = omega arith; names = r.names }

pub roomy_stolen : (def : SynthDef) (w : VoiceId) (m : Model) → Roomy def m → Headroom def (steal w m)
roomy_stolen def w m r = go (find (is_voice w) m.voices)
  where
    go : (o : Option Voice) → Headroom def (steal_found o m)
    go None = roomy_head def m r
    go (Some v) = roomy_steal def v m r
