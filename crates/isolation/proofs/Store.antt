-- The theorem said of the store (`store_isolated`). The store is its ledger's: its voices are the ledger's, a fade's count of renders times the block
-- being its position, the port that a voice feeds is the one that it holds, and each call answers the same.
use Prim.Native.Nat.{ℕ, ◌*◌, ◌≤◌}
use mathlib.Core.Path.{◌≡◌, refl, sym, ap, ap₂, ◌∙◌}
use mathlib.Core.List.{List, [], ◌∷◌, ◌++◌, map, map-map}
use mathlib.Core.Bool.{cond}
use lib.ListN.{length}
use Rattle.std.specs.Prelude.{Option, None, Some, is_some}
use Rattle.lists.specs.Member.{In}
use Rattle.lists.proofs.Member.{map_same}
use Rattle.lists.proofs.Filter.{filter_map, in_filter}
use Rattle.node.specs.declared.record.NodeId.{NodeId}
use Rattle.bus.specs.Fade.{fade_length}
use Rattle.store.specs.declared.config.Config.{Config}
use Rattle.voice.specs.declared.voices.Voice.{Voice}
use Rattle.voice.specs.declared.voices.VoiceState.{VoiceState}
use Rattle.voice.specs.declared.voices.VoiceState.TheVariants.{Tracked, Fading, Loose}
use Rattle.voice.specs.Voice.{is_on, moved_state}
use Rattle.model.specs.Voice.{voice_level}
use Rattle.edges.specs.Ports.{port_from}
use Rattle.model.specs.Page.{port_now}
use Rattle.model.specs.Model.{Model}
use Rattle.model.specs.Make.{Making, config_of, make}
use Rattle.model.specs.Call.{Call, Answer}
use Rattle.model.specs.Call as call
use Rattle.ledger.specs.Ledger.{Ledger, port_held, new_ledger}
use Rattle.ledger.specs.Call.{step}
use Rattle.ledger.specs.Claim.{ledger_after, after, held_record}
use Rattle.ledger.proofs.EndInvariant.{moved_end}
use Rattle.ledger.proofs.Made.{made}
use Rattle.ledger.proofs.Managed.{config_step}
use Rattle.ledger.proofs.Port.{end_held}
use Rattle.ledger.proofs.Simulation.{RunInvariant, kept_step_lem, kept_new}
use Rattle.ledger.proofs.Spawns.{InvariantOf, ids_of_lem}
use Rattle.ledger.proofs.Store.{shown, store_of, store_step, store_after, kept_after, config_after}
use Rattle.isolation.specs.Story.{Phase, held, fading, loose, phase_of, BusVoice, bus_voice, voices_on, Entry, entry, Told, told, tell, tale, all_victims, from_to, written, nth}
use Rattle.isolation.specs.Store.{store_voice, store_voices, store_told, store_tale, store_written, StoreIsolated}
use Rattle.isolation.proofs.Theorem.{isolated_up_to_ids}

abbrev scaled : ℕ → Phase → Phase
scaled block held = held
scaled block (fading start count) = fading start (count * block)
scaled block loose = loose

abbrev scale : ℕ → BusVoice → BusVoice
scale block x = record { number = x.number; rank = x.rank; birth = x.birth; port = x.port; holds = x.holds; phase = scaled block x.phase; level = x.level }

abbrev scale_told : ℕ → Told → Told
scale_told block t = record { answer = t.answer; voices = map (scale block) t.voices }

module _ (c : Config) where
  -- ---- a voice, and the bus's voices
  voice_shown : (l : Ledger) → InvariantOf l → (v : Voice) → In v l.voices → store_voice l.shared (shown c v) ≡ scale c.block (bus_voice l v)
  voice_shown l s v i =
      ap₂ (λ h p. record { number = v.sequence; rank = v.rank; birth = v.birth; port = v.port; holds = h; phase = p; level = voice_level l.shared v }) feeds (phase v.state)
    where
      feeds : port_now l.shared.graph.edges (shown c v) ≡ port_held v l
      feeds = ap (λ k. port_from l.shared.graph.edges k v.bus) (moved_end (λ n. n * c.block) v) ∙ end_held s v i

      phase : (s : VoiceState) → phase_of (moved_state (λ n. n * c.block) s) ≡ scaled c.block (phase_of s)
      phase Tracked = refl
      phase (Fading f) = refl
      phase Loose = refl

  voices_shown : (l : Ledger) → InvariantOf l → (b : NodeId) → store_voices b (store_of c l) ≡ map (scale c.block) (map (bus_voice l) (voices_on b l))
  voices_shown l s b =
      ap (map (store_voice l.shared)) (filter_map (shown c) (is_on b) (is_on b) (λ v. refl) l.voices)
      ∙ map-map (store_voice l.shared) (shown c) (voices_on b l)
      ∙ map_same (λ v. store_voice l.shared (shown c v)) (λ v. scale c.block (bus_voice l v)) (voices_on b l) (λ v i. voice_shown l s v (in_filter (is_on b) l.voices v i).0)
      ∙ sym (map-map (scale c.block) (bus_voice l) (voices_on b l))

  told_shown : (l : Ledger) → InvariantOf l → (b : NodeId) (a : Answer) → store_told b (record { answer = a; model = store_of c l }) ≡ scale_told c.block (told b a l)
  told_shown l s b a = ap (λ vs. record { answer = (told b a l).answer; voices = vs }) (voices_shown l s b)

  -- ---- call by call
  tale_shown : (b : NodeId) (xs : List Call) (l : Ledger) → RunInvariant l → l.shared.config ≡ c → store_tale b xs l (store_of c l) ≡ map (scale_told c.block) (tale b xs l)
  tale_shown b [] l k is = refl
  tale_shown b (x ∷ xs) l k is =
      ap (λ (s : call.Step). tell (entry b x l) (store_told b s) (store_tale b xs (step x l).ledger s.model)) (store_step c x l k is)
      ∙ ap₂ (λ t ts. tell (entry b x l) t ts) (told_shown (step x l).ledger later.sound b (step x l).answer) (tale_shown b xs (step x l).ledger later (config_step x l (ids_of_lem l k.sound) ∙ is))
      ∙ go (entry b x l)
    where
      later : RunInvariant (step x l).ledger
      later = kept_step_lem x l k

      go : (e : Option Entry) → tell e (scale_told c.block (told b (step x l).answer (step x l).ledger)) (map (scale_told c.block) (tale b xs (step x l).ledger))
          ≡ map (scale_told c.block) (tell e (told b (step x l).answer (step x l).ledger) (tale b xs (step x l).ledger))
      go None = refl
      go (Some e) = refl

  written_shown : (b : NodeId) (xs : List Call) (l : Ledger) → RunInvariant l → l.shared.config ≡ c → store_written b xs l (store_of c l) ≡ written b xs l
  written_shown b [] l k is = refl
  written_shown b (x ∷ xs) l k is =
      ap (λ (s : call.Step). cond (is_some (entry b x l)) (from_to l.shared.steals.count s.model.shared.steals.count) [] ++ store_written b xs (step x l).ledger s.model) (store_step c x l k is)
      ∙ ap (λ ws. cond (is_some (entry b x l)) (from_to l.shared.steals.count (step x l).ledger.shared.steals.count) [] ++ ws)
      (written_shown b xs (step x l).ledger (kept_step_lem x l k) (config_step x l (ids_of_lem l k.sound) ∙ is))

-- ---- a store that was made
module _ (k : Making) (m : Model) (accepted : make k ≡ Some m) where
  abbrev c : Config
  c = config_of k

  fits : fade_length c.rate ≤ 18446744073709551615
  fits = (made k m accepted).length

  store : (xs : List Call) → after m xs ≡ store_of c (ledger_after c xs)
  store xs = ap (λ n. after n xs) (made k m accepted).new ∙ store_after c fits xs

  tale_is : (b : NodeId) (xs : List Call) → store_tale b xs (new_ledger c) m ≡ map (scale_told c.block) (tale b xs (new_ledger c))
  tale_is b xs = ap (store_tale b xs (new_ledger c)) (store []) ∙ tale_shown c b xs (new_ledger c) (kept_new c fits) (config_after c fits [])

  written_is : (b : NodeId) (xs : List Call) → store_written b xs (new_ledger c) m ≡ written b xs (new_ledger c)
  written_is b xs = ap (store_written b xs (new_ledger c)) (store []) ∙ written_shown c b xs (new_ledger c) (kept_new c fits) (config_after c fits [])

  voices_are : (b : NodeId) (xs : List Call) → store_voices b (after m xs) ≡ map (scale c.block) (map (bus_voice (ledger_after c xs)) (voices_on b (ledger_after c xs)))
  voices_are b xs = ap (store_voices b) (store xs) ∙ voices_shown c (ledger_after c xs) (kept_after c fits xs).sound b

pub store_isolated : StoreIsolated
store_isolated k m accepted per ids b₁ b₂ xs₁ xs₂ k₁ k₂ a =
    let c = config_of k in
    let i = isolated_up_to_ids c per ids b₁ b₂ xs₁ xs₂ k₁ k₂ a in
    let tales : store_tale b₁ xs₁ (new_ledger c) m ≡ store_tale b₂ xs₂ (new_ledger c) m =
    tale_is k m accepted b₁ xs₁ ∙ ap (map (scale_told c.block)) i.told ∙ sym (tale_is k m accepted b₂ xs₂) in
    record {
      told = tales;
      voices = voices_are k m accepted b₁ xs₁ ∙ ap (map (scale c.block)) i.now ∙ sym (voices_are k m accepted b₂ xs₂);
      victims = ap (all_victims []) tales;
      steals = ap length (written_is k m accepted b₁ xs₁) ∙ i.steals ∙ sym (ap length (written_is k m accepted b₂ xs₂));
      records = λ j n₁ n₂ r₁ r₂ w₁ w₂ h₁ h₂.
          i.records j n₁ n₂ r₁ r₂ (sym (ap (nth j) (written_is k m accepted b₁ xs₁)) ∙ w₁) (sym (ap (nth j) (written_is k m accepted b₂ xs₂)) ∙ w₂)
          (sym (ap (λ (n : Model). held_record n.shared.steals n₁) (store k m accepted xs₁)) ∙ h₁) (sym (ap (λ (n : Model). held_record n.shared.steals n₂) (store k m accepted xs₂)) ∙ h₂);
    }
