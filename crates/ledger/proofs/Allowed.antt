-- What is known of a spawn that the table does not refuse.
use Prim.Native.Nat.{ℕ, zero, suc, ◌+◌, ◌≤◌, ◌<◌}
use native.Mathlib.Omega.{arith}
use mathlib.Core.Path.{◌≡◌, refl, sym}
use mathlib.Core.List.{List}
use Rattle.std.specs.Prelude.{Option, None, Some}
use mathlib.Core.Bool.{true, false, not, true≢false}
use lib.Dec.{eqb, ltb}
use lib.ListN.{length}
use borrow.Author.Tests.{eqb-true, eqb-false, ltb-false, leb-false, not-false}
use Rattle.std.proofs.lemmas.Bool.{or_parts}
use Rattle.graph.proofs.Calls.{when_none}
use Rattle.lists.proofs.Member.{none_some}
use Rattle.node.specs.declared.record.NodeId.{NodeId}
use Rattle.node.specs.declared.record.Node.{Node}
use Rattle.node.specs.declared.refusal.Refusal.{Refusal}
use Rattle.node.specs.declared.refusal.Refusal.TheVariants.{UnknownNode, VoiceNode, DefinitionLimits, BusWithoutPorts, TableFull, IdsUsedUp, RankTooHigh}
use Rattle.graph.specs.View.{GraphView}
use Rattle.graph.specs.Node.{id_limit, node_at, ports_of, of_voice}
use Rattle.graph.specs.Refuse.{when, host_refusal, dead}
use Rattle.synthdef.specs.Limits.{allowed}
use Rattle.synthdef.specs.declared.def.SynthDef.{SynthDef}
use Rattle.voice.specs.declared.voices.Voice.{Voice}
use Rattle.model.specs.SharedState.{SharedState}
use Rattle.model.specs.Refuse.{or_else, rank_limit, no_headroom, no_ids, spawn_refusal}

pub or_else_none : (o r : Option Refusal) → or_else o r ≡ None → (o ≡ None) × (r ≡ None)
or_else_none (Some x) r h = absurd (none_some (sym h))
or_else_none None r h = (refl, h)

-- a live node of the host
abbrev pub HostAt : List Node → NodeId → Type 0
HostAt ns k = (n : Node) × (node_at ns k ≡ Some n) × (n.owner.0 ≡ 0)

pub host_at : (g : GraphView) (k : NodeId) → host_refusal g k ≡ None → HostAt g.nodes k
host_at g k h = go (node_at g.nodes k) refl (when_none (dead (node_at g.nodes k)) UnknownNode _ h)
  where
    go : (o : Option Node) → node_at g.nodes k ≡ o → (dead o ≡ false) × (when (of_voice o) VoiceNode None ≡ None) → HostAt g.nodes k
    go None e r = absurd (true≢false r.0)
    go (Some n) e r = (n, e, eqb-true _ _ (not-false _ (when_none (of_voice (Some n)) VoiceNode None r.1).0))

pub record Allowed (d : SharedState) (vs : List Voice) (def : SynthDef) (bus : NodeId) (rank : ℕ) : Type 0 where
  pub rank_low : rank ≤ 7
  pub definition : allowed def ≡ true
  pub host : HostAt d.graph.nodes bus
  pub ports : 0 < ports_of (node_at d.graph.nodes bus)
  pub nodes : length d.graph.nodes + def.nodes.count + 3 ≤ 512
  pub edges : length d.graph.edges + def.edges.count + 4 ≤ 1024
  pub voices : length vs < 64
  pub ids_left : d.spawned < 18446744073709551615

pub spawn_allowed : (d : SharedState) (vs : List Voice) (def : SynthDef) (bus : NodeId) (rank : ℕ) → spawn_refusal d vs def bus rank ≡ None → Allowed d vs def bus rank
spawn_allowed d vs def bus rank h =
    let h₀ = when_none (ltb rank_limit rank) RankTooHigh _ h in
    let h₁ = when_none (not (allowed def)) DefinitionLimits _ h₀.1 in
    let h₂ = or_else_none (host_refusal d.graph bus) _ h₁.1 in
    let h₃ = when_none (eqb (ports_of (node_at d.graph.nodes bus)) 0) BusWithoutPorts _ h₂.1 in
    let h₄ = when_none (no_headroom d vs def) TableFull _ h₃.1 in
    let h₅ = when_none (no_ids d def) IdsUsedUp None h₄.1 in
    let r = or_parts (ltb 512 (length d.graph.nodes + def.nodes.count + 3)) _ h₄.0 in
    let s = or_parts (ltb 1024 (length d.graph.edges + def.edges.count + 4)) _ r.1 in
    let t = or_parts (ltb id_limit (d.graph.next + def.nodes.count + 3)) _ h₅.0 in
    let some-port = eqb-false _ _ h₃.0 in
    record {
      rank_low = ltb-false _ _ h₀.0;
      definition = not-false (allowed def) h₁.0;
      host = host_at d.graph bus h₂.0;
      ports = positive (ports_of (node_at d.graph.nodes bus)) some-port;
      nodes = ltb-false _ _ r.0;
      edges = ltb-false _ _ s.0;
      voices = leb-false _ _ s.1;
      ids_left = leb-false _ _ t.1;
    }
  where
    positive : (n : ℕ) → (n ≡ 0 → ⊥) → 0 < n
    positive n f = go n refl
      where
        go : (k : ℕ) → n ≡ k → 0 < k
        go zero e = absurd (f e)
        go (suc k) e = omega arith
