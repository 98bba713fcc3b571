-- Spawns of the model and of the ledger agree: the same answer, and a store that is the ledger's, which stays sound.
use Prim.Native.Nat.{ℕ, zero, suc, ◌<◌}
use native.Mathlib.Omega.{arith}
use mathlib.Core.Path.{◌≡◌, refl, sym, ap, ◌∙◌, subst}
use mathlib.Core.List.{List, [], ◌∷◌, ◌++◌, map}
use Rattle.std.specs.Prelude.{Option, None, Some, find, option_map}
use mathlib.Core.Bool.{true, not}
use lib.Dec.{eqb}
use lib.ListN.{length-map}
use borrow.Author.Tests.{eqb-true, ne_eqb}
use Rattle.std.proofs.lemmas.List.{map-append}
use Rattle.lists.specs.Member.{In}
use Rattle.lists.proofs.Member.{some_inj, and_left, and_right, map_swap}
use Rattle.lists.proofs.Filter.{filter_map}
use Rattle.lists.proofs.Find.{find_in}
use Rattle.node.specs.declared.record.NodeId.{NodeId}
use Rattle.node.specs.declared.record.VoiceId.{VoiceId}
use Rattle.node.specs.declared.record.Node.{Node}
use Rattle.node.specs.declared.record.Edge.{Edge}
use Rattle.node.specs.declared.refusal.Refusal.{Refusal}
use Rattle.node.specs.declared.refusal.Refusal.TheVariants.{Rejected, NoPort}
use Rattle.edges.specs.Ports.{feeds}
use Rattle.graph.specs.Node.{owned_by}
use Rattle.voice.specs.declared.policy.Admission.{Admission}
use Rattle.voice.specs.declared.policy.Admission.TheVariants as admission
use Rattle.synthdef.specs.Limits.{allowed}
use Rattle.synthdef.specs.declared.def.SynthDef.{SynthDef}
use Rattle.voice.specs.declared.voices.Voice.{Voice}
use Rattle.voice.specs.declared.voices.VoiceState.{VoiceState}
use Rattle.voice.specs.declared.voices.VoiceState.TheVariants.{Tracked, Loose}
use Rattle.model.specs.SharedState.{with_steals}
use Rattle.voice.specs.Voice.{is_voice, is_tracked, feeder, counted, moved_state, begin_fade}
use Rattle.model.specs.Refuse.{spawn_refusal}
use Rattle.model.specs.Spawn.{fade_node, fade_of, new_voice, next_out, reclaim_log, state_under, tries, Spawn, pans, raised}
use Rattle.model.specs.Model.{Model}
use Rattle.model.specs.Model as model
use Rattle.ledger.specs.Holder.{is_held}
use Rattle.ledger.specs.Ledger.{Ledger}
use Rattle.ledger.specs.Ledger as ledger
use Rattle.ledger.specs.Claim.{owner_of}
use Rattle.ledger.proofs.Allowed.{spawn_allowed}
use Rattle.ledger.proofs.Allowed as refusal
use Rattle.ledger.proofs.Ids.{Ids}
use Rattle.ledger.proofs.Victim.{steal_voice_lem, next_out_in}
use Rattle.ledger.proofs.Owner.{ports_at, live_below, owner_old, owner_thin, dead_voice}
use Rattle.ledger.proofs.EdgeInvariant.{above}
use Rattle.ledger.proofs.EndInvariant.{still_end}
use Rattle.ledger.proofs.Invariant.{Invariant, HostAt, sound_voice_removed}
use Rattle.ledger.proofs.Raised.{sound_raised, owner_raised, ports_raised}
use Rattle.ledger.proofs.Fading.{sound_fade}
use Rattle.ledger.proofs.NewVoice.{feeder_out, sound_new_voice}
use Rattle.ledger.proofs.Port.{lowest_some, free_same, feeds_held}
use Rattle.ledger.proofs.Abstraction.{model_of, reached, stored, log_same, admits_same, find_stored, next_out_same, tries_same, under_same, begin_stored}

abbrev pub InvariantOf : Ledger → Type 0
InvariantOf l = Invariant l.shared.graph.nodes l.shared.graph.edges l.shared.graph.next l.shared.spawned l.voices l.holders

pub ids_of_lem : (l : Ledger) → InvariantOf l → Ids l.shared.spawned l.voices
ids_of_lem l s = record { rising = s.voiced.rises; below = λ v i. (s.voiced.sung v i).named }

-- the store is the ledger's, and the ledger is sound
pub record Left (m : Model) (l : Ledger) : Type 0 where
  pub model : m ≡ model_of l
  pub sound : InvariantOf l

pub record Lands (r : model.SpawnResult) (t : ledger.SpawnResult) : Type 0 where
  pub answer : r.answer ≡ t.answer
  pub model : r.model ≡ model_of t.ledger
  pub sound : InvariantOf t.ledger

-- ---- a voice is removed
pub model_removed : (w : VoiceId) (l : Ledger) → model.without_voice w (model_of l) ≡ model_of (ledger.without_voice w l)
model_removed w l =
    ap (λ vs. record { shared = (ledger.without_voice w l).shared; voices = vs }) (filter_map (stored l) (λ v. not (is_voice w v)) (λ v. not (is_voice w v)) (λ v. refl) l.voices)

model_cut : (v : Voice) (t : VoiceState) (l : Ledger) → model.cut_off (stored l v) (moved_state (reached l.shared.config.block) t) (model_of l) ≡ model_of (ledger.cut_off v t l)
model_cut v t l =
    ap (λ b. model.without_voice v.id (record { shared = with_steals b l.shared; voices = map (stored l) l.voices })) (log_same (reached l.shared.config.block) v t l.shared)
    ∙ model_removed v.id (record { shared = with_steals (reclaim_log v t l.shared) l.shared; holders = l.holders; voices = l.voices })

model_fade : (v : Voice) (p : ℕ) (l : Ledger) → model.fade (stored l v) p (model_of l) ≡ model_of (ledger.fade v p l)
model_fade v p l =
    ap (λ vs. record { shared = (ledger.fade v p l).shared; voices = vs })
    (map_swap (stored l) (begin_fade v.id (fade_of l.shared)) (begin_fade v.id (fade_of l.shared))
    (begin_stored l.shared.config.block v.id l.shared.graph.next l.shared.clock l.shared.steals.count) l.voices)

-- what becomes of a ledger in which a voice was stolen or reclaimed; the host's nodes stay
pub record Stolen (m : Model) (l₀ l : Ledger) : Type 0 where
  pub model : m ≡ model_of l
  pub sound : InvariantOf l
  pub hosts : (n : ℕ) → HostAt l₀.shared.graph.nodes n → HostAt l.shared.graph.nodes n

module _ (l : Ledger) (s : InvariantOf l) where
  pub cut_off_lem : (v : Voice) (t : VoiceState) → In v l.voices → Stolen (model.cut_off (stored l v) (moved_state (reached l.shared.config.block) t) (model_of l)) l (ledger.cut_off v t l)
  cut_off_lem v t i =
      let pos = above s.voiced v i in
      record {
        model = model_cut v t l;
        sound = sound_voice_removed s v.id pos;
        hosts = λ n h. owner_thin s.listed (owned_by v.id) n ∙ rw (dead_voice s.listed v.id n 0 h, ne_eqb 0 v.id.0 (λ q. omega (arith, pos))) h;
      }

  faded : (v : Voice) → In v l.voices → (e : Edge) → In e l.shared.graph.edges → e.from.0 ≡ (feeder v).0 → e.to.0 ≡ v.bus.0
      → Stolen (model.fade (stored l v) e.port (model_of l)) l (ledger.fade v e.port l)
  faded v i e j ef et =
      record {
        model = model_fade v e.port l;
        sound = sound_fade s v i e j ef et (fade_of l.shared) refl;
        hosts = λ n h. owner_old s.listed (fade_node v.id) n (live_below s.listed n 0 h).0 ∙ h;
      }

  -- the admission victim
  pub stolen : (v : Voice) → In v l.voices → is_tracked v.state ≡ true → Stolen (model.steal_voice (stored l v) (model_of l)) l (ledger.steal_voice v l)
  stolen v i t =
      subst (λ o. Stolen (model.steal_voice (stored l v) (model_of l)) l (ledger.stolen v o l)) (feeds_held s v i t) (go (find (feeds (feeder v) v.bus) l.shared.graph.edges) refl)
    where
      go : (o : Option Edge) → find (feeds (feeder v) v.bus) l.shared.graph.edges ≡ o
          → Stolen (model.stolen (stored l v) (option_map (λ e. e.port) o) (model_of l)) l (ledger.stolen v (option_map (λ e. e.port) o) l)
      go None e = cut_off_lem v Tracked i
      go (Some d) e =
          let r = find_in (feeds (feeder v) v.bus) l.shared.graph.edges d e in
          faded v i d r.0 (eqb-true _ _ (and_left _ _ r.1)) (eqb-true _ _ (and_right (eqb d.from.0 (feeder v).0) _ r.1))

-- ---- the port search
pub refused_agrees : (r : Refusal) (l : Ledger) → InvariantOf l → Lands (model.refused r (model_of l)) (ledger.refused r l)
refused_agrees r l s = record { answer = refl; model = refl; sound = s }

module _ (spawn : Spawn) (ok : allowed spawn.def ≡ true) (t : VoiceState) (still : (more : ℕ → ℕ) → moved_state more t ≡ t) where
  abbrev bus : NodeId
  bus = spawn.bus

  instantiate_agrees : (p : ℕ) (l : Ledger) → InvariantOf l → HostAt l.shared.graph.nodes bus.0 → p < ports_at l.shared.graph.nodes bus.0
      → Lands (model.instantiate spawn t p (model_of l)) (ledger.instantiate spawn t p l)
  instantiate_agrees p l s live range =
      record {
        answer = refl;
        model = ap (λ vs. record { shared = (ledger.instantiate spawn t p l).ledger.shared; voices = vs })
            (ap (λ v. map (stored l) l.voices ++ (v ∷ [])) same ∙ sym (map-append (stored l) l.voices (new_voice spawn t p l.shared ∷ [])));
        sound = sound_new_voice spawn.def ok (pans spawn.pan) bus p l.shared.spawned (raised bus l.shared.graph) l.voices l.holders (sound_raised bus s)
            (owner_raised bus l.shared.graph.nodes bus.0 ∙ live) (subst (λ n. p < n) (sym (ports_raised bus l.shared.graph.nodes bus.0)) range) (new_voice spawn t p l.shared) refl refl (feeder_out spawn t p l.shared) (still_end t still (new_voice spawn t p l.shared));
      }
    where
      same : new_voice spawn t p l.shared ≡ stored l (new_voice spawn t p l.shared)
      same = ap (λ u. new_voice spawn u p l.shared) (sym (still (reached l.shared.config.block)))

  free_below : (p : ℕ) (l : Ledger) → ledger.port_free bus l ≡ Some p → p < ports_at l.shared.graph.nodes bus.0
  free_below p l e =
      let r = lowest_some (ports_at l.shared.graph.nodes bus.0) (λ p. not (is_held (l.holders bus.0 p))) 0 p e in
      omega (arith, r.1)

  place_agrees : (k : ℕ) (l : Ledger) → InvariantOf l → HostAt l.shared.graph.nodes bus.0 → Lands (model.place k spawn t (model_of l)) (ledger.place k spawn t l)
  place_agrees zero l s live =
      subst (λ o. Lands (model.instantiate_or o None spawn t (model_of l) (model.refused NoPort)) (ledger.place zero spawn t l)) (sym (free_same s bus live)) (go (ledger.port_free bus l) refl)
    where
      go : (o : Option ℕ) → ledger.port_free bus l ≡ o
          → Lands (model.instantiate_or o None spawn t (model_of l) (model.refused NoPort)) (ledger.instantiate_or o None spawn t l (ledger.refused NoPort))
      go (Some p) e = instantiate_agrees p l s live (free_below p l e)
      go None e = refused_agrees NoPort l s
  place_agrees (suc k) l s live =
      subst (λ o. Lands (model.instantiate_or o (next_out l.shared bus spawn.rank (map (stored l) l.voices)) spawn t (model_of l) (λ m. model.place k spawn t m)) (ledger.place (suc k) spawn t l))
      (sym (free_same s bus live))
      (subst (λ u. Lands (model.instantiate_or (ledger.port_free bus l) u spawn t (model_of l) (λ m. model.place k spawn t m)) (ledger.place (suc k) spawn t l))
      (sym (next_out_same (reached l.shared.config.block) l.shared bus spawn.rank l.voices))
      (go (ledger.port_free bus l) refl (next_out l.shared bus spawn.rank l.voices) refl (place_agrees k)))
    where
      go : (o : Option ℕ) → ledger.port_free bus l ≡ o → (u : Option Voice) → next_out l.shared bus spawn.rank l.voices ≡ u
          → ((l : Ledger) → InvariantOf l → HostAt l.shared.graph.nodes bus.0 → Lands (model.place k spawn t (model_of l)) (ledger.place k spawn t l))
          → Lands (model.instantiate_or o (option_map (stored l) u) spawn t (model_of l) (λ m. model.place k spawn t m)) (ledger.instantiate_or o u spawn t l (λ l. ledger.place k spawn t l))
      go (Some p) e u f ih = instantiate_agrees p l s live (free_below p l e)
      go None e None f ih = refused_agrees NoPort l s
      go None e (Some v) f ih =
          let z = cut_off_lem l s v v.state (next_out_in (ids_of_lem l s) l.shared bus spawn.rank v f).0 in
          subst (λ m. Lands (model.place k spawn t m) (ledger.place k spawn t (ledger.cut_off v v.state l))) (sym z.model) (ih (ledger.cut_off v v.state l) z.sound (z.hosts bus.0 live))

-- ---- admission
module _ (spawn : Spawn) (ok : allowed spawn.def ≡ true) where
  budgeted_agrees : (l : Ledger) → InvariantOf l → HostAt l.shared.graph.nodes spawn.bus.0 → Lands (model.place_within_budget spawn (model_of l)) (ledger.place_within_budget spawn l)
  budgeted_agrees l s live =
      subst (λ k. Lands (model.place k spawn (state_under l.shared.config.budget) (model_of l)) (ledger.place_within_budget spawn l))
      (sym (tries_same (reached l.shared.config.block) l.shared.config.budget l.voices))
      (place_agrees spawn ok (state_under l.shared.config.budget) (λ more. under_same more l.shared.config.budget) (tries l.shared.config.budget l.voices) l s live)

  steal_agrees : (l : Ledger) → InvariantOf l → HostAt l.shared.graph.nodes spawn.bus.0 → (o : Option Voice) → ((v : Voice) → o ≡ Some v → In v l.voices × (is_tracked v.state ≡ true))
      → Lands (model.steal_then (option_map (stored l) o) spawn (model_of l)) (ledger.steal_then o spawn l)
  steal_agrees l s live None who = budgeted_agrees l s live
  steal_agrees l s live (Some v) who =
      let r = who v refl in
      let z = stolen l s v r.0 r.1 in
      subst (λ m. Lands (model.place_within_budget spawn m) (ledger.place_within_budget spawn (ledger.steal_voice v l))) (sym z.model) (budgeted_agrees (ledger.steal_voice v l) z.sound (z.hosts spawn.bus.0 live))

  admitted_agrees : (l : Ledger) → InvariantOf l → HostAt l.shared.graph.nodes spawn.bus.0
      → Lands (model.admitted (model.admission_on spawn.bus spawn.rank (model_of l)) spawn (model_of l)) (ledger.admitted (ledger.admission_on spawn.bus spawn.rank l) spawn l)
  admitted_agrees l s live =
      subst (λ a. Lands (model.admitted a spawn (model_of l)) (ledger.admitted (ledger.admission_on spawn.bus spawn.rank l) spawn l))
      (sym (admits_same (reached l.shared.config.block) l.shared spawn.bus spawn.rank l.voices)) (go (ledger.admission_on spawn.bus spawn.rank l) refl)
    where
      go : (a : Admission) → ledger.admission_on spawn.bus spawn.rank l ≡ a → Lands (model.admitted a spawn (model_of l)) (ledger.admitted a spawn l)
      go admission.Admit e = budgeted_agrees l s live
      go admission.Reject e = refused_agrees Rejected l s
      go (admission.Steal place w) e =
          let r = steal_voice_lem (ids_of_lem l s) l.shared (counted l.shared.config.scope spawn.bus) l.shared.config.budget l.shared.config.policy spawn.rank place w e in
          let y : find (is_voice w) (map (stored l) l.voices) ≡ Some (stored l r.0) = find_stored (reached l.shared.config.block) w l.voices ∙ ap (option_map (stored l)) r.3 in
          subst (λ o. Lands (model.steal_then o spawn (model_of l)) (ledger.steal_then (find (is_voice w) l.voices) spawn l)) (sym y)
          (subst (λ o. Lands (model.steal_then (Some (stored l r.0)) spawn (model_of l)) (ledger.steal_then o spawn l)) (sym r.3)
          (steal_agrees l s live (Some r.0) (λ v q. subst (λ x. In x l.voices × (is_tracked x.state ≡ true)) (some_inj q) (r.1, and_left (is_tracked r.0.state) _ r.2))))

-- ---- the spawns
-- a live node of the host, by its owner
pub host_owned : (ns : List Node) (k : NodeId) → refusal.HostAt ns k → HostAt ns k.0
host_owned ns k r = ap owner_of r.1 ∙ ap Some r.2

module _ (l : Ledger) (s : InvariantOf l) where
  refusal_same : (def : SynthDef) (bus : NodeId) (rank : ℕ) → spawn_refusal l.shared (map (stored l) l.voices) def bus rank ≡ spawn_refusal l.shared l.voices def bus rank
  refusal_same def bus rank = rw (length-map l.voices (stored l))

  unless_agrees : (o : Option Refusal) (r : model.SpawnResult) (t : ledger.SpawnResult) → (o ≡ None → Lands r t) → Lands (model.unless o (model_of l) r) (ledger.unless o l t)
  unless_agrees None r t f = f refl
  unless_agrees (Some n) r t f = refused_agrees n l s

  host_bus : (def : SynthDef) (bus : NodeId) (rank : ℕ) → spawn_refusal l.shared l.voices def bus rank ≡ None → HostAt l.shared.graph.nodes bus.0
  host_bus def bus rank e = host_owned l.shared.graph.nodes bus (spawn_allowed l.shared l.voices def bus rank e).host

  pub managed_agrees : (spawn : Spawn) → Lands (model.spawn_managed spawn (model_of l)) (ledger.spawn_managed spawn l)
  managed_agrees spawn =
      subst (λ o. Lands (model.unless o (model_of l) (model.admitted (model.admission_on spawn.bus spawn.rank (model_of l)) spawn (model_of l))) (ledger.spawn_managed spawn l)) (sym (refusal_same spawn.def spawn.bus spawn.rank))
      (unless_agrees (spawn_refusal l.shared l.voices spawn.def spawn.bus spawn.rank) _ _ (λ e. admitted_agrees spawn (spawn_allowed l.shared l.voices spawn.def spawn.bus spawn.rank e).definition l s (host_bus spawn.def spawn.bus spawn.rank e)))

  pub loose_agrees : (spawn : Spawn) → Lands (model.spawn_loose spawn (model_of l)) (ledger.spawn_loose spawn l)
  loose_agrees spawn =
      subst (λ o. Lands (model.unless o (model_of l) (model.place 0 spawn Loose (model_of l))) (ledger.spawn_loose spawn l)) (sym (refusal_same spawn.def spawn.bus spawn.rank))
      (unless_agrees (spawn_refusal l.shared l.voices spawn.def spawn.bus spawn.rank) _ _ (λ e. place_agrees spawn (spawn_allowed l.shared l.voices spawn.def spawn.bus spawn.rank e).definition Loose (λ more. refl) 0 l s (host_bus spawn.def spawn.bus spawn.rank e)))
