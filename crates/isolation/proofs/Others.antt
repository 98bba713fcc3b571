-- Spawns on a bus leave every other bus as it was: under `PerGroup` a managed spawn steals and reclaims on its own bus alone.
use Prim.Native.Nat.{ℕ, ◌+◌, ◌≤◌, ◌<◌}
use native.Mathlib.Omega.{arith}
use mathlib.Core.Path.{◌≡◌, refl, sym, ap, ◌∙◌, subst}
use mathlib.Core.List.{List}
use Rattle.std.specs.Prelude.{Option, None, Some}
use mathlib.Core.Bool.{Bool, true, false, not, cond}
use lib.Dec.{eqb, ltb, leb}
use borrow.Author.Tests.{eqb-true, eq-eqb, ltb-false}
use Rattle.std.proofs.lemmas.Bool.{or_parts}
use Rattle.graph.proofs.Calls.{when_none}
use Rattle.lists.specs.Member.{In}
use Rattle.lists.proofs.Member.{and_right, none_some, some_inj}
use Rattle.lists.proofs.Find.{find_in}
use Rattle.node.specs.declared.record.NodeId.{NodeId}
use Rattle.node.specs.declared.record.Node.{Node}
use Rattle.node.specs.declared.refusal.Refusal.{Refusal}
use Rattle.node.specs.declared.refusal.Refusal.TheVariants.{DefinitionLimits, RankTooHigh, BusWithoutPorts, TableFull, IdsUsedUp}
use Rattle.graph.specs.Node.{node_at, is_node, ports_of, id_limit}
use Rattle.graph.specs.Refuse.{host_refusal}
use Rattle.voice.specs.Steals.{StealLog}
use Rattle.voice.specs.declared.policy.BudgetScope.TheVariants.{PerGroup}
use Rattle.synthdef.specs.Limits.{allowed}
use Rattle.voice.specs.declared.voices.Voice.{Voice}
use Rattle.voice.specs.declared.voices.VoiceState.{VoiceState}
use Rattle.voice.specs.declared.voices.VoiceState.TheVariants.{Tracked, Loose}
use Rattle.model.specs.SharedState.{SharedState, with_steals}
use Rattle.voice.specs.Voice.{is_on, is_tracked, counted}
use Rattle.model.specs.Refuse.{rank_limit, spawn_refusal, no_headroom, no_ids, voice_id_limit}
use Rattle.model.specs.Spawn.{state_under, tries, reclaim_log, Spawn}
use Rattle.ledger.specs.Ledger.{Ledger, SpawnResult, cut_off, stolen, steal_voice, port_held, instantiate, place, place_within_budget, admitted, admission_on, spawn_managed, spawn_loose}
use Rattle.ledger.specs.Ledger as ledger
use Rattle.ledger.proofs.Allowed.{spawn_allowed, or_else_none}
use Rattle.ledger.proofs.Victim.{next_out_in}
use Rattle.ledger.specs.Claim.{may_go}
use Rattle.ledger.proofs.Preserved.{place_kept}
use Rattle.ledger.proofs.Managed.{managed_kept}
use Rattle.isolation.proofs.Bus.{BusPorts}
use Rattle.isolation.proofs.Part.{room_of, host_ports, ports_now, bus_of, Tidy}
use Rattle.isolation.proofs.Removed.{removed_off, ports_stay, tidy_removed}
use Rattle.isolation.proofs.Fade.{fade_off, tidy_fade}
use Rattle.isolation.proofs.Fade as fading
use Rattle.isolation.proofs.Instantiated.{instantiate_off, tidy_instantiate}

-- ---- the steal records belong to no bus's part
pub tidy_steals : (l : Ledger) (x : StealLog) → Tidy l → Tidy (record { shared = with_steals x l.shared; holders = l.holders; voices = l.voices })
tidy_steals l x t = record { own = t.own; rows = t.rows; outs = t.outs; seated = t.seated; fresh = t.fresh; single = t.single; few = t.few; hosted = t.hosted }

module _ (l : Ledger) (t : Tidy l) (g : Voice) (i : In g l.voices) (s : VoiceState) where
  abbrev marked : Ledger
  marked = record { shared = with_steals (reclaim_log g s l.shared) l.shared; holders = l.holders; voices = l.voices }

  pub tidy_cut : Tidy (cut_off g s l)
  tidy_cut = tidy_removed marked (tidy_steals l (reclaim_log g s l.shared) t) g i

  pub cut_ports : (b : NodeId) → ports_now b (cut_off g s l).shared.graph.nodes ≡ ports_now b l.shared.graph.nodes
  cut_ports b = ports_stay marked (tidy_steals l (reclaim_log g s l.shared) t) g i b

  pub cut_off_lem : (b : NodeId) → is_on b g ≡ false → bus_of b (cut_off g s l) ≡ bus_of b l
  cut_off_lem b off = removed_off marked (tidy_steals l (reclaim_log g s l.shared) t) g i b off

-- ---- a bus is a node of the host
pub is_host : (o : Option Node) (m : BusPorts) → host_ports o ≡ Some m → (n : Node) → o ≡ Some n → n.owner.0 ≡ 0
is_host None m h n e = absurd (none_some h)
is_host (Some x) m h n e = ap (λ (z : Node). z.owner.0) (sym (some_inj e)) ∙ go (eqb x.owner.0 0) refl h
  where
    go : (c : Bool) → eqb x.owner.0 0 ≡ c → cond c (Some (room_of x)) None ≡ Some m → x.owner.0 ≡ 0
    go true f q = eqb-true _ _ f
    go false f q = absurd (none_some q)

pub is_node_lem : (o : Option Node) (m : BusPorts) → host_ports o ≡ Some m → (n : Node) × (o ≡ Some n)
is_node_lem None m h = absurd (none_some h)
is_node_lem (Some x) m h = (x, refl)

pub is_below : (l : Ledger) → Tidy l → (k : NodeId) (m : BusPorts) → ports_now k l.shared.graph.nodes ≡ Some m → k.0 < l.shared.graph.next
is_below l t k m h = go (node_at l.shared.graph.nodes k) refl h
  where
    go : (o : Option Node) → node_at l.shared.graph.nodes k ≡ o → host_ports o ≡ Some m → k.0 < l.shared.graph.next
    go None e q = absurd (none_some q)
    go (Some n) e q = let r = find_in (is_node k) l.shared.graph.nodes n e in let z : n.id.0 ≡ k.0 = eqb-true _ _ r.1 in omega (arith, z, t.own.1.below n r.0)

-- ---- what the table leaves: an allowed definition, a bus of the host, and ids
pub record Meets (d : SharedState) (spawn : Spawn) : Type 0 where
  pub ok : allowed spawn.def ≡ true
  pub ports : BusPorts
  pub bus : ports_now spawn.bus d.graph.nodes ≡ Some ports
  pub room : d.graph.next + 3 ≤ 4294967296

pub meets : (d : SharedState) (vs : List Voice) (spawn : Spawn) → spawn_refusal d vs spawn.def spawn.bus spawn.rank ≡ None → Meets d spawn
meets d vs spawn h =
    let a = spawn_allowed d vs spawn.def spawn.bus spawn.rank h in
    let h₀ = when_none (ltb rank_limit spawn.rank) RankTooHigh _ h in
    let h₁ = when_none (not (allowed spawn.def)) DefinitionLimits _ h₀.1 in
    let h₂ = or_else_none (host_refusal d.graph spawn.bus) _ h₁.1 in
    let h₃ = when_none (eqb (ports_of (node_at d.graph.nodes spawn.bus)) 0) BusWithoutPorts _ h₂.1 in
    let h₄ = when_none (no_headroom d vs spawn.def) TableFull _ h₃.1 in
    let h₅ = when_none (no_ids d spawn.def) IdsUsedUp None h₄.1 in
    let q = or_parts (ltb id_limit (d.graph.next + spawn.def.nodes.count + 3)) (leb voice_id_limit d.spawned) h₅.0 in
    let r : d.graph.next + spawn.def.nodes.count + 3 ≤ 4294967296 = ltb-false _ _ q.0 in
    let n = a.host in
    record {
      ok = a.definition;
      ports = room_of n.0;
      bus = ap host_ports n.1 ∙ rw (eq-eqb n.0.owner.0 0 n.2);
      room = omega arith;
    }

-- ---- a spawn on the bus k, from the ledger l₀
module _ (spawn : Spawn) (l₀ : Ledger) (ok : allowed spawn.def ≡ true) (m : BusPorts) where
  pub record Away (l : Ledger) : Type 0 where
    pub tidy : Tidy l
    pub room : l.shared.graph.next + 2 ≤ 4294967296
    pub ports : ports_now spawn.bus l.shared.graph.nodes ≡ Some m
    pub others : (b : NodeId) → eqb spawn.bus.0 b.0 ≡ false → bus_of b l ≡ bus_of b l₀

  pub record Done (r : SpawnResult) : Type 0 where
    pub tidy : Tidy r.ledger
    pub others : (b : NodeId) → eqb spawn.bus.0 b.0 ≡ false → bus_of b r.ledger ≡ bus_of b l₀

  stays : (l : Ledger) → Away l → (r : Refusal) → Done (ledger.refused r l)
  stays l a r = record { tidy = a.tidy; others = a.others }

  pub away_instantiate : (l : Ledger) → Away l → (s : VoiceState) (p : ℕ) → Done (instantiate spawn s p l)
  away_instantiate l a s p =
      record {
        tidy = let n = is_node_lem (node_at l.shared.graph.nodes spawn.bus) m a.ports in tidy_instantiate l a.tidy spawn ok s p a.room n.0 n.1 (is_host (node_at l.shared.graph.nodes spawn.bus) m a.ports n.0 n.1);
        others = λ b off. instantiate_off l a.tidy spawn ok s p b off ∙ a.others b off;
      }

  pub elsewhere : (g : Voice) → is_on spawn.bus g ≡ true → (b : NodeId) → eqb spawn.bus.0 b.0 ≡ false → is_on b g ≡ false
  elsewhere g on b off = ap (λ n. eqb n b.0) (eqb-true _ _ on) ∙ off

  pub away_cut : (l : Ledger) → Away l → (g : Voice) → In g l.voices → is_on spawn.bus g ≡ true → (s : VoiceState) → Away (cut_off g s l)
  away_cut l a g i on s =
      record {
        tidy = tidy_cut l a.tidy g i s;
        room = a.room;
        ports = cut_ports l a.tidy g i s spawn.bus ∙ a.ports;
        others = λ b off. cut_off_lem l a.tidy g i s b (elsewhere g on b off) ∙ a.others b off;
      }

  pub away_place : (s : VoiceState) (fuel : ℕ) (l : Ledger) → Away l → Done (place fuel spawn s l)
  away_place s =
      place_kept spawn s (λ n l. Away l) Done (λ n l p e a. away_instantiate l a s p) (λ l e a. stays l a _) (λ n l e f a. stays l a _)
      (λ n l v e f a. let r = next_out_in a.tidy.own.0 l.shared spawn.bus spawn.rank v f in away_cut l a v r.0 (and_right (may_go spawn.rank v) _ r.1) v.state)

  pub away_budgeted : (l : Ledger) → Away l → Done (place_within_budget spawn l)
  away_budgeted l a = away_place (state_under l.shared.config.budget) (tries l.shared.config.budget l.voices) l a

  pub away_steal : (l : Ledger) → Tidy l → l.shared.graph.next + 3 ≤ 4294967296 → ports_now spawn.bus l.shared.graph.nodes ≡ Some m → ((b : NodeId) → eqb spawn.bus.0 b.0 ≡ false → bus_of b l ≡ bus_of b l₀)
      → (g : Voice) → In g l.voices → is_on spawn.bus g ≡ true → (o : Option ℕ) → Away (stolen g o l)
  away_steal l t room ports same g i on None = away_cut l (record { tidy = t; room = omega arith; ports = ports; others = same }) g i on Tracked
  away_steal l t room ports same g i on (Some p) =
      record {
        tidy = tidy_fade l t g i p;
        room = omega arith;
        ports = fading.ports_stay l t g i p spawn.bus ∙ ports;
        others = λ b off. fade_off l t g i p b (elsewhere g on b off) ∙ same b off;
      }

-- ---- every spawn on the bus k
pub record Apart (k : NodeId) (l : Ledger) (r : SpawnResult) : Type 0 where
  pub tidy : Tidy r.ledger
  pub others : (b : NodeId) → eqb k.0 b.0 ≡ false → bus_of b r.ledger ≡ bus_of b l

module _ (l : Ledger) (t : Tidy l) (spawn : Spawn) where
  begins : (x : Meets l.shared spawn) → Away spawn l x.ok x.ports l
  begins x = let h = x.room in record { tidy = t; room = omega arith; ports = x.bus; others = λ b off. refl }

  pub managed_apart : l.shared.config.scope ≡ PerGroup → Apart spawn.bus l (spawn_managed spawn l)
  managed_apart per = go (spawn_refusal l.shared l.voices spawn.def spawn.bus spawn.rank) refl
    where
      works : Meets l.shared spawn → Apart spawn.bus l (admitted (admission_on spawn.bus spawn.rank l) spawn l)
      works x =
          managed_kept spawn (Apart spawn.bus l) l t.own.0 (λ h. record { tidy = t; others = λ b off. refl })
          (λ h. out (away_budgeted spawn l x.ok x.ports l (begins x)))
          (λ p w h g i c. out (away_budgeted spawn l x.ok x.ports (steal_voice g l)
          (away_steal spawn l x.ok x.ports l t x.room x.bus (λ b off. refl) g i (and_right (is_tracked g.state) _ (subst (λ z. counted z spawn.bus g ≡ true) per c)) (port_held g l))))
        where
          out : {r : SpawnResult} → Done spawn l x.ok x.ports r → Apart spawn.bus l r
          out d = record { tidy = d.tidy; others = d.others }

      go : (o : Option Refusal) → spawn_refusal l.shared l.voices spawn.def spawn.bus spawn.rank ≡ o → Apart spawn.bus l (ledger.unless o l (admitted (admission_on spawn.bus spawn.rank l) spawn l))
      go (Some r) e = record { tidy = t; others = λ b off. refl }
      go None e = works (meets l.shared l.voices spawn e)

  pub loose_apart : Apart spawn.bus l (spawn_loose spawn l)
  loose_apart = go (spawn_refusal l.shared l.voices spawn.def spawn.bus spawn.rank) refl
    where
      go : (o : Option Refusal) → spawn_refusal l.shared l.voices spawn.def spawn.bus spawn.rank ≡ o → Apart spawn.bus l (ledger.unless o l (place 0 spawn Loose l))
      go (Some r) e = record { tidy = t; others = λ b off. refl }
      go None e =
          let x = meets l.shared l.voices spawn e in
          let d = away_place spawn l x.ok x.ports Loose 0 l (begins x) in
          record { tidy = d.tidy; others = d.others }
