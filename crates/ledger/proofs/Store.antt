-- From the ledger to the store. After every list of calls the store is that of the ledger: the same shared, and its voices with count × block
-- samples for a count. So what was shown of the ledger is said of the store.
use Prim.Native.Nat.{ℕ, ◌+◌, ◌*◌, ◌≤◌}
use native.Mathlib.Omega.{arith}
use native.Mathlib.Nat.{suc-mul, zero-mul}
use mathlib.Core.Path.{◌≡◌, refl, sym, ap, ap₂, ◌∙◌, subst}
use mathlib.Core.Logic.{inl, inr, ⊎_elim}
use mathlib.Core.List.{List, [], ◌∷◌, map}
use Rattle.std.specs.Prelude.{Option, None, Some, find, is_some, option_map}
use mathlib.Core.Bool.{Bool, true, false, not, cond, ◌&&◌, ◌||◌}
use lib.Dec.{leb}
use lib.ListN.{length-map}
use Rattle.std.proofs.lemmas.Bool.{false_from_ne_true}
use Rattle.ledger.proofs.Records.{fade_inj}
use Rattle.synthdef.proofs.Rows.{every_same}
use Rattle.lists.specs.Member.{In}
use Rattle.lists.proofs.Member.{in_map, in_of_map, some_inj, none_some}
use Rattle.lists.specs.Count.{more, count}
use Rattle.lists.proofs.Count.{count_map}
use Rattle.node.specs.declared.record.NodeId.{NodeId}
use Rattle.node.specs.declared.refusal.Refusal.{Refusal}
use Rattle.bus.specs.Fade.{fade_length}
use Rattle.rank.specs.Order.{among, upto}
use Rattle.rank.specs.Cycle.{Distinct}
use Rattle.rank.proofs.Invariant.{among_in}
use Rattle.edges.specs.Ports.{port_from}
use Rattle.graph.specs.Node.{node_at, ports_of}
use Rattle.voice.specs.Steals.{record_of}
use Rattle.voice.specs.declared.policy.Admission.{Admission}
use Rattle.voice.specs.declared.policy.Admission.TheVariants as admission
use Rattle.synthdef.specs.declared.def.SynthDef.{SynthDef}
use Rattle.voice.specs.Policy.{at_budget}
use Rattle.synthdef.specs.Rows.{every}
use Rattle.store.specs.declared.config.Config.{Config}
use Rattle.voice.specs.declared.voices.Voice.{Voice}
use Rattle.voice.specs.declared.voices.VoiceState.{VoiceState}
use Rattle.voice.specs.declared.voices.VoiceState.TheVariants.{Tracked, Fading, Loose}
use Rattle.voice.specs.declared.voices.Fade.{Fade}
use Rattle.model.specs.SharedState.{SharedState}
use Rattle.voice.specs.Voice.{is_voice, is_tracked, is_on, feeder, with_state, moved_fade, moved_state, moved, counted}
use Rattle.model.specs.Voice.{voice_level}
use Rattle.model.specs.Refuse.{spawn_refusal}
use Rattle.model.specs.Spawn.{Spawn, next_voice, fade_of}
use Rattle.model.specs.Clear as clearing
use Rattle.model.specs.Model.{Model}
use Rattle.model.specs.Make.{new_model}
use Rattle.model.specs.Call.{Call, Answer}
use Rattle.model.specs.Call as call
use Rattle.ledger.specs.Holder.{Holder, nobody, host, voice}
use Rattle.ledger.specs.Ledger.{Ledger, new_ledger}
use Rattle.ledger.specs.Ledger as ledger
use Rattle.ledger.specs.Clear as ledgerClear
use Rattle.ledger.specs.Call.{step}
use Rattle.ledger.specs.Claim as claim
use Rattle.voice.specs.declared.policy.StealPolicy.{StealPolicy}
use Rattle.ledger.specs.Claim.{ledger_after, is_sounded, tracks, Reclaimed, steals, is_spare, by_other, stays, outranked, answer_when, holder_at, voice_ids, victim_in, Heads, loss_of}
use Rattle.ledger.proofs.Words as words
use Rattle.ledger.proofs.Abstraction.{model_of, tracked_same, fading_same, counted_same, admits_same, find_stored}
use Rattle.ledger.proofs.NoOverflow.{stored_shown}
use Rattle.ledger.proofs.Spawns.{InvariantOf, ids_of_lem}
use Rattle.ledger.proofs.Managed.{config_step, config_run, ids_new}
use Rattle.ledger.proofs.Simulation.{RunInvariant, step_agrees, kept_step_lem, kept_new, runs}
use Rattle.ledger.proofs.Port.{feeds_held}
use Rattle.ledger.proofs.Losses.{LossesOf, Apart, records_same}

-- ---- the store of a ledger
abbrev pub shown : Config → Voice → Voice
shown c v = moved (λ n. n * c.block) v

abbrev pub store_of : Config → Ledger → Model
store_of c l = record { shared = l.shared; voices = map (shown c) l.voices }

module _ (c : Config) where
  model_store : (l : Ledger) → RunInvariant l → l.shared.config ≡ c → model_of l ≡ store_of c l
  model_store l k is =
      ap (λ vs. record { shared = l.shared; voices = vs }) (stored_shown l k.no_overflow k.clock) ∙ ap (λ (z : Config). store_of z l) is

  -- a call on it
  pub store_step : (x : Call) (l : Ledger) → RunInvariant l → l.shared.config ≡ c → call.step x (store_of c l) ≡ record { answer = (step x l).answer; model = store_of c (step x l).ledger }
  store_step x l k is =
      let a = step_agrees x l k in
      ap (call.step x) (sym (model_store l k is))
      ∙ ap₂ (λ b m. record { answer = b; model = m }) a.answer (a.model ∙ model_store (step x l).ledger (kept_step_lem x l k) (config_step x l (ids_of_lem l k.sound) ∙ is))

  module _ (fits : fade_length c.rate ≤ 18446744073709551615) where
    pub kept_after : (xs : List Call) → RunInvariant (ledger_after c xs)
    kept_after xs = (runs xs (new_ledger c) (kept_new c fits)).kept

    pub config_after : (xs : List Call) → (ledger_after c xs).shared.config ≡ c
    config_after xs = config_run xs (new_ledger c) (ids_new c)

    -- the store after a list
    pub store_after : (xs : List Call) → claim.after (new_model c) xs ≡ store_of c (ledger_after c xs)
    store_after xs = (runs xs (new_ledger c) (kept_new c fits)).model ∙ model_store (ledger_after c xs) (kept_after xs) (config_after xs)

    -- and how many of further calls sound
    pub soundings_same : (ys xs : List Call) → claim.soundings xs (claim.after (new_model c) ys) ≡ words.soundings xs (ledger_after c ys)
    soundings_same ys xs =
        let l = ledger_after c ys in
        ap (claim.soundings xs) (store_after ys ∙ sym (model_store l (kept_after ys) (config_after ys))) ∙ ap (count is_sounded) (runs xs l (kept_after ys)).answers

  -- ---- its voices
  tracked_shown : (s : VoiceState) → moved_state (λ n. n * c.block) s ≡ Tracked → s ≡ Tracked
  tracked_shown Tracked e = refl
  tracked_shown (Fading f) e = let z : ◌≡◌ {A = ℕ} 0 1 = cc in absurd (omega arith)
  tracked_shown Loose e = e

  -- one that is tracked is the ledger's own
  pub tracked_in : (vs : List Voice) (v : Voice) → v.state ≡ Tracked → In v (map (shown c) vs) → In v vs
  tracked_in vs v t i =
      let r = in_map (shown c) vs v i in
      let s : r.0.state ≡ Tracked = tracked_shown r.0.state (ap (λ (x : Voice). x.state) (sym r.2) ∙ t) in
      let e : v ≡ r.0 = r.2 ∙ ap (λ z. with_state (moved_state (λ n. n * c.block) z) r.0) s ∙ ap (λ z. with_state z r.0) (sym s) in
      subst (λ x. In x vs) (sym e) r.1

  pub in_tracked : (vs : List Voice) (v : Voice) → v.state ≡ Tracked → In v vs → In v (map (shown c) vs)
  in_tracked vs v t i =
      let e : shown c v ≡ v = ap (λ z. with_state (moved_state (λ n. n * c.block) z) v) t ∙ ap (λ z. with_state z v) (sym t) in
      subst (λ x. In x (map (shown c) vs)) e (in_of_map (shown c) vs v i)

  -- one that fades has a fade of the ledger's
  pub record Was (vs : List Voice) (v : Voice) (f : Fade) : Type 0 where
    pub voice : Voice
    pub fade : Fade
    pub member : In voice vs
    pub state : voice.state ≡ Fading fade
    pub is : v ≡ shown c voice
    pub moves : f ≡ moved_fade (λ n. n * c.block) fade

  pub was : (vs : List Voice) (v : Voice) → In v (map (shown c) vs) → (f : Fade) → v.state ≡ Fading f → Was vs v f
  was vs v i f e =
      let r = in_map (shown c) vs v i in
      let m = back r.0.state (ap (λ (x : Voice). x.state) (sym r.2) ∙ e) in
      record { voice = r.0; fade = m.0; member = r.1; state = m.1; is = r.2; moves = m.2 }
    where
      back : (s : VoiceState) → moved_state (λ n. n * c.block) s ≡ Fading f → (g : Fade) × (s ≡ Fading g) × (f ≡ moved_fade (λ n. n * c.block) g)
      back Tracked e = let z : ◌≡◌ {A = ℕ} 0 1 = cc in absurd (omega arith)
      back (Fading g) e = (g, refl, sym (fade_inj e))
      back Loose e = let z : ◌≡◌ {A = ℕ} 0 1 = cc in absurd (omega arith)

  -- ---- what the claim reads of them
  pub tracks_count : (vs : List Voice) → count tracks (map (shown c) vs) ≡ count tracks vs
  tracks_count vs = count_map (shown c) tracks tracks (λ v. tracked_same (λ n. n * c.block) v.state) vs

  spare_same : (t : StealPolicy) (bus : NodeId) (r : ℕ) (o : Option Voice) → is_spare t bus r (option_map (shown c) o) ≡ is_spare t bus r o
  spare_same t bus r None = refl
  spare_same t bus r (Some v) = ap₂ (λ a b. (a || (steals t && (b && leb v.rank r))) && is_on bus v) (fading_same (λ n. n * c.block) v.state) (tracked_same (λ n. n * c.block) v.state)

  other_same : (t : StealPolicy) (bus : NodeId) (r : ℕ) (vs : List Voice) (h : Holder) → by_other t bus r (map (shown c) vs) h ≡ by_other t bus r vs h
  other_same t bus r vs nobody = refl
  other_same t bus r vs (host k) = refl
  other_same t bus r vs (voice w) = ap (λ o. not (is_spare t bus r o)) (find_stored (λ n. n * c.block) w vs) ∙ ap not (spare_same t bus r (find (is_voice w) vs))

  stays_same : (bus : NodeId) (r : ℕ) (vs : List Voice) → every (stays c.scope bus r) (map (shown c) vs) ≡ every (stays c.scope bus r) vs
  stays_same bus r [] = refl
  stays_same bus r (v ∷ vs) = rw (counted_same (λ n. n * c.block) c.scope bus v, stays_same bus r vs)

  outranked_same : (bus : NodeId) (r : ℕ) (vs : List Voice) → outranked c bus r (map (shown c) vs) ≡ outranked c bus r vs
  outranked_same bus r vs =
      ap₂ (λ n b. at_budget c.budget n && (not (steals c.policy) || b)) (count_map (shown c) (counted c.scope bus) (counted c.scope bus) (counted_same (λ n. n * c.block) c.scope bus) vs) (stays_same bus r vs)

  -- by its edges, as by the ledger's holders
  pub answer_same : (bus : NodeId) (r : ℕ) (l : Ledger) → l.shared.config ≡ c → InvariantOf l → claim.spawn_answer bus r (store_of c l) ≡ words.spawn_answer bus r l
  answer_same bus r l is s =
      ap₂ (λ a b. answer_when a b (next_voice l.shared))
      (subst (λ (k : Config). outranked k bus r (map (shown c) l.voices) ≡ outranked k bus r l.voices) (sym is) (outranked_same bus r l.voices))
      (every_same (λ p. by_other l.shared.config.policy bus r (map (shown c) l.voices) (holder_at l.shared.graph.nodes l.shared.graph.edges bus.0 p)) (λ p. by_other l.shared.config.policy bus r l.voices (l.holders bus.0 p)) (upto (ports_of (node_at l.shared.graph.nodes bus)))
      (λ p. other_same l.shared.config.policy bus r l.voices (holder_at l.shared.graph.nodes l.shared.graph.edges bus.0 p) ∙ ap (by_other l.shared.config.policy bus r l.voices) (sym (s.held bus.0 p))))

  pub refusal_same : (d : SharedState) (vs : List Voice) (def : SynthDef) (bus : NodeId) (rank : ℕ) → spawn_refusal d (map (shown c) vs) def bus rank ≡ spawn_refusal d vs def bus rank
  refusal_same d vs def bus rank = rw (length-map vs (shown c))

  pub reclaimed_shown : (vs vs' : List Voice) (bus : NodeId) (k : ℕ) → Reclaimed vs vs' bus k → Reclaimed (map (shown c) vs) (map (shown c) vs') bus k
  reclaimed_shown vs vs' bus k r =
      record {
        voice = shown c r.voice;
        fade = moved_fade (λ n. n * c.block) r.fade;
        member = in_of_map (shown c) vs r.voice r.member;
        state = ap (moved_state (λ n. n * c.block)) r.state;
        number = r.number;
        on = r.on;
        without_voice = find_stored (λ n. n * c.block) r.voice.id vs' ∙ ap (option_map (shown c)) r.without_voice;
      }

  -- a fade has ended as the ledger says: where count × block is at least L (SPEC 21.1)
  pub ended_shown : (d : SharedState) → d.config ≡ c → (s : VoiceState) → clearing.ended (fade_length c.rate) (moved_state (λ n. n * c.block) s) ≡ ledgerClear.ended d s
  ended_shown d is Tracked = refl
  ended_shown d is (Fading f) = ap (λ (z : Config). leb (fade_length z.rate) (f.position * z.block)) (sym is)
  ended_shown d is Loose = refl

  -- ---- how a fading voice goes on, or why it leaves
  module _ (l : Ledger) (is : l.shared.config ≡ c) (u : Voice) (g : Fade) where
    further : (b : Bool) (n : ℕ) → more b n * c.block ≡ cond b (n * c.block + c.block) (n * c.block)
    further true n = suc-mul n c.block
    further false n = refl

    pub goes_shown : (a : Answer) (vs : List Voice) → words.GoesOn u g a vs → claim.GoesOn c.block (shown c u) (moved_fade (λ n. n * c.block) g) a (map (shown c) vs)
    goes_shown a vs i =
        subst (λ n. In (with_state (Fading (record { node = g.node; start = g.start; position = n; number = g.number })) u) (map (shown c) vs)) (further (is_sounded a) g.position)
        (in_of_map (shown c) vs (with_state (Fading (words.beat a g)) u) i)

    pub why_shown : (l' : Ledger) (x : Call) → words.Why l l' u g x → claim.Why (store_of c l) (store_of c l') (shown c u) (moved_fade (λ n. n * c.block) g) x
    why_shown l' x words.freed = claim.freed
    why_shown l' x (words.timed out e i d f v) = claim.timed out e i d f v
    why_shown l' x (words.ended e) = claim.ended (ap (λ (z : Config). clearing.ended (fade_length z.rate) (shown c u).state) is ∙ ended_shown l.shared is u.state ∙ e)
    why_shown l' x (words.silent e) = claim.silent e
    why_shown l' x (words.reclaimed y on e) = claim.reclaimed y on e

  -- ---- what a managed spawn records
  -- a tracked voice is the same in both
  as_tracked : (v : Voice) → v.state ≡ Tracked → shown c v ≡ v
  as_tracked v t = ap (λ z. with_state (moved_state (λ n. n * c.block) z) v) t ∙ ap (λ z. with_state z v) (sym t)

  victim_shown : (o : Option Refusal) (a : Admission) (vs : List Voice) → victim_in o a (map (shown c) vs) ≡ option_map (shown c) (victim_in o a vs)
  victim_shown (Some r) a vs = refl
  victim_shown None admission.Admit vs = refl
  victim_shown None admission.Reject vs = refl
  victim_shown None (admission.Steal place w) vs = find_stored (λ n. n * c.block) w vs

  apart_distinct : (vs : List Voice) → Apart vs → Distinct (voice_ids vs)
  apart_distinct [] a = tt
  apart_distinct (v ∷ vs) a = (
    false_from_ne_true (among v.id.0 (voice_ids vs)) (λ t. let r = in_map (λ (u : Voice). u.id.0) vs v.id.0 (among_in v.id.0 (voice_ids vs) t) in a.0 r.0 r.1 (sym r.2)),
    apart_distinct vs a.1,
  )

  module _ (x : Spawn) (l l' : Ledger) (s : InvariantOf l) (h : LossesOf x.bus x.rank (victim_in (spawn_refusal l.shared l.voices x.def x.bus x.rank) (ledger.admission_on x.bus x.rank l) l.voices) l l') where
    abbrev o : Option Voice
    o = victim_in (spawn_refusal l.shared l.voices x.def x.bus x.rank) (ledger.admission_on x.bus x.rank l) l.voices

    victim_same : claim.victim_of x (store_of c l) ≡ option_map (shown c) o
    victim_same =
        ap₂ (λ r a. victim_in r a (map (shown c) l.voices)) (refusal_same l.shared l.voices x.def x.bus x.rank) (admits_same (λ n. n * c.block) l.shared x.bus x.rank l.voices)
        ∙ victim_shown (spawn_refusal l.shared l.voices x.def x.bus x.rank) (ledger.admission_on x.bus x.rank l) l.voices

    found_same : (v : Voice) → is_some (find (is_voice v.id) l'.voices) ≡ is_some (find (is_voice v.id) (map (shown c) l'.voices))
    found_same v = sym (ap is_some (find_stored (λ n. n * c.block) v.id l'.voices) ∙ some_same (find (is_voice v.id) l'.voices))
      where
        some_same : (o : Option Voice) → is_some (option_map (shown c) o) ≡ is_some o
        some_same None = refl
        some_same (Some u) = refl

    heads_shown : (o : Option Voice) → Heads o h.lost → Heads (option_map (shown c) o) h.lost
    heads_shown None q = tt
    heads_shown (Some g) q =
        let i : In g h.lost = subst (In g) (sym q.1) (inl refl) in
        (q.0, q.1 ∙ ap (λ z. z ∷ q.0) (sym (as_tracked g (h.were g i).1)))

    victim_back : (v : Voice) (y : Option Voice) → Heads y h.lost → option_map (shown c) y ≡ Some v → y ≡ Some v
    victim_back v None q e = absurd (none_some e)
    victim_back v (Some g) q e =
        let i : In g h.lost = subst (In g) (sym q.1) (inl refl) in
        ap Some (sym (as_tracked g (h.were g i).1)) ∙ e

    -- a fade begins at 0
    start_shown : (f : Fade) → f.position ≡ 0 → moved_fade (λ n. n * c.block) f ≡ f
    start_shown f e = ap (λ n. record { node = f.node; start = f.start; position = n; number = f.number }) (ap (λ n. n * c.block) e ∙ zero-mul c.block ∙ sym e)

    fades_shown : (v u : Voice) → In v h.lost → find (is_voice v.id) (map (shown c) l'.voices) ≡ Some u
        → (u ≡ with_state (Fading (fade_of l.shared)) v) × (is_some (port_from l.shared.graph.edges (feeder v) v.bus) ≡ true)
    fades_shown v u i e = go (find (is_voice v.id) l'.voices) refl (sym (find_stored (λ n. n * c.block) v.id l'.voices) ∙ e)
      where
        go : (z : Option Voice) → find (is_voice v.id) l'.voices ≡ z → option_map (shown c) z ≡ Some u → (u ≡ with_state (Fading (fade_of l.shared)) v) × (is_some (port_from l.shared.graph.edges (feeder v) v.bus) ≡ true)
        go None p q = absurd (none_some q)
        go (Some w) p q =
            let r = h.fades v w i p in
            let t : is_tracked v.state ≡ true = ap is_tracked (h.were v i).1 in (
              sym (some_inj q) ∙ ap (shown c) r.0 ∙ ap (λ f. with_state (Fading f) v) (start_shown (fade_of l.shared) refl),
              ap is_some (feeds_held s v (h.were v i).0 t ∙ r.1.1),
            )

    pub losses_shown : claim.Losses x (store_of c l) (store_of c l')
    losses_shown =
        record {
          lost = h.lost;
          were = λ v i. let w = h.were v i in (in_tracked l.voices v w.1 w.0, w.1);
          away = λ v i j. h.away v i (tracked_in l'.voices v (h.were v i).1 j);
          all = λ v i t. ⊎_elim inl (λ j. inr (in_tracked l'.voices v t j)) (h.all v (tracked_in l.voices v t i) t);
          once = apart_distinct h.lost h.apart;
          first = subst (λ z. Heads z h.lost) (sym victim_same) (heads_shown o h.first);
          others = λ v i. ⊎_elim (λ e. inl (victim_same ∙ ap (option_map (shown c)) e ∙ ap Some (as_tracked v (h.were v i).1))) inr (h.others v i);
          below = h.below;
          least = λ v u e i t.
              let w = in_map (shown c) l.voices u i in
              subst (λ (z : Voice). v.rank ≤ z.rank) (sym w.2) (h.least v w.0 (victim_back v o h.first (sym victim_same ∙ e)) w.1
              (sym (counted_same (λ n. n * c.block) l.shared.config.scope x.bus w.0) ∙ subst (λ (z : Voice). counted l.shared.config.scope x.bus z ≡ true) w.2 t));
          lowest = λ v u i j t on. h.lowest v u i (tracked_in l'.voices u t j) t on;
          fades = fades_shown;
          added = h.count;
          records = records_same (loss_of l.shared l'.voices) (loss_of l.shared (map (shown c) l'.voices)) l'.shared.steals l'.shared.steals l.shared.steals.count h.lost
              (λ v i. ap (λ b. record_of l.shared.clock (voice_level l.shared v) (not b)) (found_same v)) (λ j lo hi. refl) h.records;
        }
