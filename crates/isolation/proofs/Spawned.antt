-- A spawn on the bus is the bus's own: its part after it is what the bus by itself has after the same spawn, and so is the answer.
use Prim.Native.Nat.{ℕ, zero, suc, ◌≤◌, ◌<◌}
use native.Mathlib.Omega.{arith}
use mathlib.Core.Path.{◌≡◌, refl, sym, ap, ap₂, ◌∙◌, subst}
use Rattle.std.specs.Prelude.{Option, None, Some, filter, find, option_map}
use mathlib.Core.Bool.{Bool, true, false, not, cond, true≢false}
use lib.Dec.{eqb, ltb}
use lib.ListN.{length, length-map}
use borrow.Author.Tests.{ne_eqb}
use Rattle.lists.specs.Member.{In}
use Rattle.lists.proofs.Member.{and_right}
use Rattle.lists.proofs.Filter.{length_filter}
use Rattle.node.specs.declared.record.NodeId.{NodeId}
use Rattle.node.specs.declared.record.Node.{Node}
use Rattle.node.specs.declared.refusal.Refusal.{Refusal}
use Rattle.node.specs.declared.refusal.Refusal.TheVariants.{DefinitionLimits, VoiceNode, BusWithoutPorts, TableFull, IdsUsedUp, NoPort, RankTooHigh}
use Rattle.graph.specs.Node.{node_at, ports_of}
use Rattle.graph.specs.Refuse.{when, host_test}
use Rattle.voice.specs.Policy.{admits}
use Rattle.voice.specs.declared.policy.BudgetScope.TheVariants.{PerGroup}
use Rattle.voice.specs.declared.policy.Admission.{Admission}
use Rattle.voice.specs.declared.policy.Admission.TheVariants as admission
use Rattle.synthdef.specs.Limits.{allowed}
use Rattle.voice.specs.declared.voices.Voice.{Voice}
use Rattle.voice.specs.declared.voices.VoiceState.{VoiceState}
use Rattle.voice.specs.declared.voices.VoiceState.TheVariants.{Tracked, Loose}
use Rattle.voice.specs.Voice.{is_on, is_tracked, counted, tracked_on}
use Rattle.model.specs.Voice.{candidates}
use Rattle.model.specs.Refuse.{rank_limit, or_else, no_headroom, no_ids}
use Rattle.model.specs.Spawn.{state_under, tries, reclaim_log, next_out, Spawn, pans}
use Rattle.ledger.specs.Ledger.{Ledger, SpawnResult, cut_off, stolen, steal_voice, port_held, port_free, instantiate, instantiate_or, place, place_within_budget, steal_then, admitted, admission_on, refused, spawn_managed, spawn_loose}
use Rattle.ledger.specs.Ledger as ledger
use Rattle.model.proofs.Refused.{not_spawned}
use Rattle.ledger.specs.Holder.{is_held}
use Rattle.ledger.proofs.Victim.{next_out_in, steal_voice_lem}
use Rattle.ledger.specs.Claim.{may_go}
use Rattle.isolation.specs.Story.{phase_of, shown}
use Rattle.isolation.specs.Story as story
use Rattle.isolation.proofs.Cover.{full_in}
use Rattle.isolation.proofs.Bus.{BusPorts, is_number}
use Rattle.isolation.proofs.Bus as bus
use Rattle.isolation.proofs.Part.{host_ports, own_of, ports_now, own_voices, bus_of, Tidy}
use Rattle.isolation.proofs.Removed.{removed_on}
use Rattle.isolation.proofs.Fade.{fade_on}
use Rattle.isolation.proofs.Instantiated.{instantiate_on}
use Rattle.isolation.proofs.Relabel.{renamed_a, admits_rename, lowest_below}
use Rattle.isolation.proofs.Decide.{ports_are, free_same, held_same, find_number, number_or, number, candidates_same, next_same}
use Rattle.isolation.proofs.Enough.{enough}
use Rattle.isolation.proofs.Others.{tidy_steals, tidy_cut, cut_ports, is_host, Meets, meets, away_steal}

abbrev pub spawned_of : NodeId → SpawnResult → bus.SpawnResult
spawned_of k r = record { answer = shown (not_spawned r.answer); bus = bus_of k r.ledger }

pub cut_on : (l : Ledger) → Tidy l → (g : Voice) → In g l.voices → (s : VoiceState) (k : NodeId) → is_on k g ≡ true → bus_of k (cut_off g s l) ≡ bus.without_voice g.sequence (bus_of k l)
cut_on l t g i s k on = removed_on _ (tidy_steals l (reclaim_log g s l.shared) t) g i k on

-- ---- the search for a port
module _ (spawn : Spawn) (ok : allowed spawn.def ≡ true) (m : BusPorts) where
  instantiates : (l : Ledger) → Tidy l → ports_now spawn.bus l.shared.graph.nodes ≡ Some m → (s : VoiceState) (p : ℕ) → port_free spawn.bus l ≡ Some p → spawned_of spawn.bus (instantiate spawn s p l) ≡ bus.instantiate spawn.def spawn.rank (phase_of s) p (bus_of spawn.bus l)
  instantiates l t ports s p e =
      ap (λ b. record { answer = None; bus = b })
      (instantiate_on l t spawn ok s p
      (subst (λ n. p < n) (ports_are (node_at l.shared.graph.nodes spawn.bus) (is_host (node_at l.shared.graph.nodes spawn.bus) m ports)) (let q = lowest_below (ports_of (node_at l.shared.graph.nodes spawn.bus)) (λ z. not (is_held (l.holders spawn.bus.0 z))) 0 p e in omega arith)))

  pub place_same : (s : VoiceState) (n : ℕ) (l : Ledger) → Tidy l → ports_now spawn.bus l.shared.graph.nodes ≡ Some m → spawned_of spawn.bus (place n spawn s l) ≡ bus.place n spawn.def spawn.rank (phase_of s) (bus_of spawn.bus l)
  place_same s zero l t ports =
      go (port_free spawn.bus l) refl ∙ ap (λ o. bus.instantiate_or o None spawn.def spawn.rank (phase_of s) (bus_of spawn.bus l) (bus.turned NoPort)) (free_same l t spawn.bus (is_host (node_at l.shared.graph.nodes spawn.bus) m ports))
    where
      go : (o : Option ℕ) → port_free spawn.bus l ≡ o → spawned_of spawn.bus (instantiate_or o None spawn s l (refused NoPort)) ≡ bus.instantiate_or o None spawn.def spawn.rank (phase_of s) (bus_of spawn.bus l) (bus.turned NoPort)
      go (Some p) e = instantiates l t ports s p e
      go None e = refl
  place_same s (suc n) l t ports =
      go (port_free spawn.bus l) refl (next_out l.shared spawn.bus spawn.rank l.voices) refl (place_same s n)
      ∙ ap₂ (λ o u. bus.instantiate_or o u spawn.def spawn.rank (phase_of s) (bus_of spawn.bus l) (λ z. bus.place n spawn.def spawn.rank (phase_of s) z)) (free_same l t spawn.bus (is_host (node_at l.shared.graph.nodes spawn.bus) m ports)) (next_same l t spawn.bus spawn.rank)
    where
      go : (o : Option ℕ) → port_free spawn.bus l ≡ o → (u : Option Voice) → next_out l.shared spawn.bus spawn.rank l.voices ≡ u
          → ((l : Ledger) → Tidy l → ports_now spawn.bus l.shared.graph.nodes ≡ Some m → spawned_of spawn.bus (place n spawn s l) ≡ bus.place n spawn.def spawn.rank (phase_of s) (bus_of spawn.bus l))
          → spawned_of spawn.bus (instantiate_or o u spawn s l (λ z. place n spawn s z)) ≡ bus.instantiate_or o (option_map (own_of l.shared.graph.nodes) u) spawn.def spawn.rank (phase_of s) (bus_of spawn.bus l) (λ z. bus.place n spawn.def spawn.rank (phase_of s) z)
      go (Some p) e u f ih = instantiates l t ports s p e
      go None e None f ih = refl
      go None e (Some v) f ih =
          let r = next_out_in t.own.0 l.shared spawn.bus spawn.rank v f in
          ih (cut_off v v.state l) (tidy_cut l t v r.0 v.state) (cut_ports l t v r.0 v.state spawn.bus ∙ ports)
          ∙ ap (bus.place n spawn.def spawn.rank (phase_of s)) (cut_on l t v r.0 v.state spawn.bus (and_right (may_go spawn.rank v) _ r.1))

  pub budgeted_same : (l : Ledger) → Tidy l → ports_now spawn.bus l.shared.graph.nodes ≡ Some m → spawned_of spawn.bus (place_within_budget spawn l) ≡ bus.place_within_budget spawn.def spawn.rank (bus_of spawn.bus l)
  budgeted_same l t ports = go l.shared.config.budget
    where
      fewer : length (bus_of spawn.bus l).voices ≤ length l.voices
      fewer = let a = length-map (filter (is_on spawn.bus) l.voices) (own_of l.shared.graph.nodes) in let b = length_filter (is_on spawn.bus) l.voices in omega arith

      go : (c : Option ℕ) → spawned_of spawn.bus (place (tries c l.voices) spawn (state_under c) l) ≡ bus.place (bus.tries c (bus_of spawn.bus l).voices) spawn.def spawn.rank (bus.phase_under c) (bus_of spawn.bus l)
      go None = place_same Loose 0 l t ports
      go (Some n) = place_same Tracked (length l.voices) l t ports ∙ enough spawn.def spawn.rank story.held (length l.voices) (length (bus_of spawn.bus l).voices) (bus_of spawn.bus l) fewer (omega arith)

-- ---- the steal
pub steal_same : (l : Ledger) → Tidy l → (g : Voice) → In g l.voices → (k : NodeId) → is_on k g ≡ true → bus_of k (steal_voice g l) ≡ bus.steal g.sequence (bus_of k l)
steal_same l t g i k on = go (port_held g l) ∙ ap (λ o. bus.stolen g.sequence o (bus_of k l)) (held_same l t k g i on)
  where
    go : (o : Option ℕ) → bus_of k (stolen g o l) ≡ bus.stolen g.sequence o (bus_of k l)
    go None = cut_on l t g i Tracked k on
    go (Some p) = fade_on l t g i p k on

-- ---- admission
module _ (l : Ledger) (t : Tidy l) (per : l.shared.config.scope ≡ PerGroup) (spawn : Spawn) (x : Meets l.shared spawn) where
  pub admission_same : bus.admission_on spawn.rank (bus_of spawn.bus l) ≡ renamed_a (number l t spawn.bus) (admission_on spawn.bus spawn.rank l)
  admission_same =
      ap (admits l.shared.config.budget l.shared.config.policy spawn.rank) (candidates_same l t spawn.bus)
      ∙ admits_rename (number l t spawn.bus) l.shared.config.budget l.shared.config.policy spawn.rank (candidates l.shared (tracked_on spawn.bus) l.voices)
      ∙ ap (λ z. renamed_a (number l t spawn.bus) (admits l.shared.config.budget l.shared.config.policy spawn.rank (candidates l.shared (counted z spawn.bus) l.voices))) (sym per)

  admitted_same : spawned_of spawn.bus (admitted (admission_on spawn.bus spawn.rank l) spawn l) ≡ bus.admitted (bus.admission_on spawn.rank (bus_of spawn.bus l)) spawn.def spawn.rank (bus_of spawn.bus l)
  admitted_same = go (admission_on spawn.bus spawn.rank l) refl ∙ ap (λ a. bus.admitted a spawn.def spawn.rank (bus_of spawn.bus l)) (sym admission_same)
    where
      go : (a : Admission) → admission_on spawn.bus spawn.rank l ≡ a → spawned_of spawn.bus (admitted a spawn l) ≡ bus.admitted (renamed_a (number l t spawn.bus) a) spawn.def spawn.rank (bus_of spawn.bus l)
      go admission.Admit e = budgeted_same spawn x.ok x.ports l t x.bus
      go admission.Reject e = refl
      go (admission.Steal p w) e =
          let r = steal_voice_lem t.own.0 l.shared (counted l.shared.config.scope spawn.bus) l.shared.config.budget l.shared.config.policy spawn.rank p w e in
          let on : is_on spawn.bus r.0 ≡ true = and_right (is_tracked r.0.state) _ (subst (λ z. counted z spawn.bus r.0 ≡ true) per r.2) in
          let a = away_steal spawn l x.ok x.ports l t x.room x.bus (λ b off. refl) r.0 r.1 on (port_held r.0 l) in
          ap (λ o. spawned_of spawn.bus (steal_then o spawn l)) r.3
          ∙ budgeted_same spawn x.ok x.ports (steal_voice r.0 l) a.tidy a.ports
          ∙ ap (bus.place_within_budget spawn.def spawn.rank) (steal_same l t r.0 r.1 spawn.bus on)
          ∙ sym (ap (λ o. bus.steal_then (find (is_number (number_or l t spawn.bus o).0) (own_voices spawn.bus l.shared.graph.nodes l.voices)) spawn.def spawn.rank (bus_of spawn.bus l)) r.3
          ∙ ap (λ o. bus.steal_then o spawn.def spawn.rank (bus_of spawn.bus l)) (find_number l t spawn.bus r.0 r.1 on))

-- ---- the table of refusals, where it is not 7 or 8
abbrev pub refusal_from : Bool → Bool → Option Node → Bool → Bool → Option Refusal
refusal_from z a n h i = when z RankTooHigh (when (not a) DefinitionLimits (or_else (host_test n) (when (eqb (ports_of n) 0) BusWithoutPorts (when h TableFull (when i IdsUsedUp None)))))

module _ (l : Ledger) (k : NodeId) (r : SpawnResult) (r' : bus.SpawnResult) where
  abbrev Goal : Option Refusal → bus.SpawnResult → Type 0
  Goal o q = (o ≡ None → spawned_of k r ≡ r') → full_in (not_spawned (ledger.unless o l r).answer) ≡ false → spawned_of k (ledger.unless o l r) ≡ q

  guard : (z a : Bool) (n : Option Node) (h i : Bool) → Goal (refusal_from z a n h i) (cond z (bus.turned RankTooHigh (bus_of k l)) (cond a (bus.no_bus (host_ports n) (bus_of k l) r') (bus.turned DefinitionLimits (bus_of k l))))
  guard true a n h i f c = refl
  guard false false n h i f c = refl
  guard false true None h i f c = refl
  guard false true (Some x) h i f c = at (eqb x.owner.0 0) x.ports x.noise h i f c
    where
      at : (z : Bool) (p y : ℕ) (h i : Bool)
          → Goal (or_else (when (not z) VoiceNode None) (when (eqb p 0) BusWithoutPorts (when h TableFull (when i IdsUsedUp None)))) (bus.no_bus (cond z (Some (record { ports = p; noise = y })) None) (bus_of k l) r')
      at false p y h i f c = refl
      at true zero y h i f c = refl
      at true (suc p) y h i f c = inner (eqb (suc p) 0) (ne_eqb (suc p) 0 (λ e. omega (arith, e))) h i f c
        where
          inner : (y : Bool) → y ≡ false → (h i : Bool) → Goal (when y BusWithoutPorts (when h TableFull (when i IdsUsedUp None))) r'
          inner true e h i f c = absurd (true≢false e)
          inner false e true i f c = absurd (true≢false c)
          inner false e false true f c = absurd (true≢false c)
          inner false e false false f c = f refl

module _ (l : Ledger) (t : Tidy l) (spawn : Spawn) where
  pub managed_same : l.shared.config.scope ≡ PerGroup → full_in (not_spawned (spawn_managed spawn l).answer) ≡ false
      → spawned_of spawn.bus (spawn_managed spawn l) ≡ bus.follow (story.managed spawn.def (pans spawn.pan) spawn.rank) (bus_of spawn.bus l)
  managed_same per c =
      guard l spawn.bus (admitted (admission_on spawn.bus spawn.rank l) spawn l) (bus.admitted (bus.admission_on spawn.rank (bus_of spawn.bus l)) spawn.def spawn.rank (bus_of spawn.bus l)) (ltb rank_limit spawn.rank) (allowed spawn.def) (node_at l.shared.graph.nodes spawn.bus) (no_headroom l.shared l.voices spawn.def) (no_ids l.shared spawn.def)
      (λ e. admitted_same l t per spawn (meets l.shared l.voices spawn e)) c

  pub loose_same : full_in (not_spawned (spawn_loose spawn l).answer) ≡ false → spawned_of spawn.bus (spawn_loose spawn l) ≡ bus.follow (story.loose spawn.def (pans spawn.pan) spawn.rank) (bus_of spawn.bus l)
  loose_same c =
      guard l spawn.bus (place 0 spawn Loose l) (bus.place 0 spawn.def spawn.rank story.loose (bus_of spawn.bus l)) (ltb rank_limit spawn.rank) (allowed spawn.def) (node_at l.shared.graph.nodes spawn.bus) (no_headroom l.shared l.voices spawn.def) (no_ids l.shared spawn.def)
      (λ e. let x = meets l.shared l.voices spawn e in place_same spawn x.ok x.ports Loose 0 l t x.bus) c
