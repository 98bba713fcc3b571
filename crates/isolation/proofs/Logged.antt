-- A managed spawn writes the records of its own bus as the bus by itself does, and leaves those of another.
use Prim.Native.Nat.{ℕ, zero, suc, ◌+◌, ◌%◌, ◌≤◌, ◌<◌}
use native.Mathlib.Omega.{arith}
use native.Mathlib.Nat.{mod-eq_of_lt}
use mathlib.Core.Path.{◌≡◌, refl, sym, ap, ap₂, ◌∙◌, subst}
use mathlib.Core.Logic.{inl, inr, ⊎_elim}
use mathlib.Core.List.{List, [], ◌∷◌, ◌++◌}
use Rattle.std.specs.Prelude.{Option, None, Some, filter, find, option_map}
use mathlib.Core.Bool.{Bool, true, false, not, cond, true≢false}
use lib.Dec.{eqb, ltb}
use lib.ListN.{length, length-map}
use borrow.Author.Tests.{eqb-true, eq-eqb, ne_eqb}
use Rattle.model.proofs.Grown.{grown_next}
use Rattle.lists.specs.Member.{In}
use Rattle.lists.proofs.Member.{in_map, in_snoc, and_left, and_right, none_some, some_inj}
use Rattle.lists.proofs.Filter.{in_filter, length_filter}
use Rattle.node.specs.declared.record.NodeId.{NodeId}
use Rattle.node.specs.declared.record.Node.{Node}
use Rattle.node.specs.declared.refusal.Refusal.{Refusal}
use Rattle.node.specs.declared.refusal.Refusal.TheVariants.{VoiceNode, BusWithoutPorts, TableFull, IdsUsedUp, NoPort}
use Rattle.graph.specs.Node.{node_at, is_node, host_node, noise_of}
use Rattle.graph.specs.Refuse.{when, add_refusal, host_refusal, disconnect_refusal, connect_refusal}
use Rattle.voice.specs.declared.policy.BudgetScope.TheVariants.{PerGroup}
use Rattle.voice.specs.declared.policy.Admission.{Admission}
use Rattle.voice.specs.declared.policy.Admission.TheVariants as admission
use Rattle.synthdef.specs.Limits.{allowed}
use Rattle.voice.specs.declared.voices.Voice.{Voice}
use Rattle.voice.specs.declared.voices.VoiceState.{VoiceState}
use Rattle.voice.specs.declared.voices.VoiceState.TheVariants.{Tracked, Fading, Loose}
use Rattle.voice.specs.declared.voices.Fade.{Fade}
use Rattle.voice.specs.Voice.{is_voice, is_on, is_tracked, moved_state, moved, counted}
use Rattle.model.specs.Refuse.{rank_limit, spawn_refusal, or_else, no_headroom, no_ids, report_refusal}
use Rattle.model.specs.Spawn.{voice_nodes, voice_wires, append_all, next_voice, state_under, tries, next_out, new_voice, Spawn, pans, raised}
use Rattle.model.specs.Call.{Call}
use Rattle.ledger.specs.Ledger.{Ledger, SpawnResult, cut_off, fade, stolen, steal_voice, port_held, port_free, instantiate, instantiate_or, place, place_within_budget, steal_then, admitted, admission_on, refused, spawn_managed}
use Rattle.ledger.specs.Ledger as ledger
use Rattle.model.proofs.Refused.{not_spawned, refusal_in}
use Rattle.ledger.specs.Render.{one_more}
use Rattle.ledger.specs.Call.{step, graph_step}
use Rattle.ledger.specs.Call as steps
use Rattle.graph.specs.Change as change
use Rattle.ledger.proofs.Victim.{next_out_in, steal_voice_lem}
use Rattle.ledger.specs.Claim.{may_go, is_managed}
use Rattle.ledger.proofs.Preserved.{place_kept, Preserves, voices_only, unmanaged_step}
use Rattle.ledger.proofs.Managed.{managed_kept}
use Rattle.ledger.proofs.Marks.{log_stays}
use Rattle.ledger.proofs.Nodes.{wires_same}
use Rattle.ledger.proofs.Records.{RecordedOf, recorded_cut, recorded_steal, tracked_state, under_fading, moved_fading, loose_fading}
use Rattle.lists.proofs.Find.{find_in, find_snoc_off}
use Rattle.node.specs.Node.{with_id}
use Rattle.model.specs.Render.{render_refusal}
use Rattle.model.specs.Call as call
use Rattle.isolation.specs.Story.{phase_of, Entry, if_done, if?, is_bus, lost_if, held_by, on_bus, voice_of, owner_voice, entry}
use Rattle.isolation.specs.Story as story
use Rattle.isolation.proofs.Cover.{full_in}
use Rattle.isolation.proofs.Bus.{Own, BusPorts, Bus, is_number}
use Rattle.isolation.proofs.Bus as bus
use Rattle.isolation.proofs.Part.{host_ports, own_of, ports_now, own_voices, bus_of, Tidy, room_of}
use Rattle.isolation.proofs.Instantiated as instantiated
use Rattle.isolation.proofs.Follows.{Follow}
use Rattle.isolation.proofs.Follows as follows
use Rattle.isolation.proofs.Relabel.{renamed_a}
use Rattle.isolation.proofs.Decide.{free_same, held_same, find_number, number_or, number, next_same}
use Rattle.isolation.proofs.Enough.{filter_less, next_in, nobody_left}
use Rattle.isolation.proofs.Others.{tidy_cut, cut_ports, is_host, Meets, meets, Away, away_cut, away_steal, elsewhere}
use Rattle.isolation.proofs.Spawned.{cut_on, steal_same, admission_same, refusal_from}
use Rattle.isolation.proofs.Acts.{Act, goes, log_or, log_place, log_settle, log_stolen, log_then, log_admitted, log_bus, log}
use Rattle.isolation.proofs.BusRecords.{Item, BusRecords, UnderR, UnderOn, BusRecordsOf, Old, was_self, records_next, records_instantiate}
use Rattle.isolation.proofs.Written.{Logs, logs_none, logs_then, other_cut, other_fade, own_cut, cut_tracked, fade_tracked}

-- ---- more reclaims than voices write nothing more
last : (r j : ℕ) (m : Bus) → length m.voices ≤ 0 → log_place r zero m ≡ log_place r j m
last r zero m h = refl
last r (suc j) m h = go (bus.port_free m) ∙ ap (λ u. log_or (bus.port_free m) u m (λ k. log_place r j k)) (sym (nobody_left r m h))
  where
    go : (o : Option ℕ) → [] ≡ log_or o None m (λ k. log_place r j k)
    go (Some p) = refl
    go None = refl

log_enough : (r n j : ℕ) (m : Bus) → length m.voices ≤ n → length m.voices ≤ j → log_place r n m ≡ log_place r j m
log_enough r zero j m h g = last r j m h
log_enough r (suc n) zero m h g = sym (last r (suc n) m g)
log_enough r (suc n) (suc j) m h g = go (bus.port_free m) (bus.next_out r m) refl (log_enough r n j)
  where
    go : (o : Option ℕ) (u : Option Own) → bus.next_out r m ≡ u → ((m : Bus) → length m.voices ≤ n → length m.voices ≤ j → log_place r n m ≡ log_place r j m)
        → log_or o u m (λ k. log_place r n k) ≡ log_or o u m (λ k. log_place r j k)
    go (Some p) u e ih = refl
    go None None e ih = refl
    go None (Some v) e ih =
        let i = next_in r m v e in
        let k = filter_less (λ y. not (is_number v.number y)) m.voices v i (ap not (eq-eqb v.number v.number refl)) in
        ap (λ z. goes v.phase m.clock v ++ z) (ih (bus.without_voice v.number m) (omega arith) (omega arith))

-- ---- the noise sequence through an instantiation
pub noise_of_lem : (o : Option Node) (m : BusPorts) → host_ports o ≡ Some m → noise_of o ≡ m.noise
noise_of_lem None m h = absurd (none_some h)
noise_of_lem (Some x) m h = at (eqb x.owner.0 0) h
  where
    at : (c : Bool) → cond c (Some (room_of x)) None ≡ Some m → x.noise ≡ m.noise
    at true e = ap (λ (r : BusPorts). r.noise) (some_inj e)
    at false e = absurd (none_some e)

module _ (l : Ledger) (t : Tidy l) (spawn : Spawn) (ok : allowed spawn.def ≡ true) (s : VoiceState) (p : ℕ) where
  up_off : (b : NodeId) → eqb spawn.bus.0 b.0 ≡ false → (x : ℕ) → UnderOn b l x → UnderOn b (instantiate spawn s p l).ledger x
  up_off b off x h =
      (let a = instantiated.next_is l t spawn ok s p in let z = h.0 in omega arith, subst (λ o. UnderR o x) (sym (instantiated.ports_stay l t spawn ok s p b off)) h.1)

  up_on : l.shared.graph.next + 2 ≤ 4294967296 → (x : ℕ) → UnderOn spawn.bus l x → UnderOn spawn.bus (instantiate spawn s p l).ledger x
  up_on room x h =
      (let a = instantiated.next_is l t spawn ok s p in let z = h.0 in omega arith, subst (λ o. UnderR o x) (sym (instantiated.ports_on l t spawn ok s p)) (go (node_at l.shared.graph.nodes spawn.bus) refl h.1))
    where
      go : (o : Option Node) → node_at l.shared.graph.nodes spawn.bus ≡ o → UnderR (host_ports o) x → UnderR (option_map bus.counted (host_ports o)) x
      go None e h = tt
      go (Some n) e h = at (eqb n.owner.0 0) h
        where
          at : (c : Bool) → UnderR (cond c (Some (room_of n)) None) x → UnderR (option_map bus.counted (cond c (Some (room_of n)) None)) x
          at true h =
              let f = t.few n (find_in (is_node spawn.bus) l.shared.graph.nodes n e).0 in
              let z : n.noise + 1 < 4294967296 = omega arith in
              let q : (n.noise + 1) % 4294967296 ≡ n.noise + 1 = mod-eq_of_lt z in
              omega arith
          at false h = tt

-- ---- on its own bus
module _ (spawn : Spawn) (ok : allowed spawn.def ≡ true) (m : BusPorts) where
  instantiate_logs : (l : Ledger) → Tidy l → l.shared.graph.next + 2 ≤ 4294967296 → ports_now spawn.bus l.shared.graph.nodes ≡ Some m → (ts : List Item) → BusRecordsOf spawn.bus ts l → (s : VoiceState) → ((f : Fade) → s ≡ Fading f → ⊥) → (p : ℕ)
      → Logs spawn.bus l ts (instantiate spawn s p l).ledger []
  instantiate_logs l t room ports ts z s unfaded p =
      logs_none spawn.bus l ts (instantiate spawn s p l).ledger
      (records_instantiate z (UnderOn spawn.bus (instantiate spawn s p l).ledger) (new_voice spawn s p l.shared) (up_on l t spawn ok s p room) unfaded (λ on x u e.
      let a : x < m.noise = subst (λ o. UnderR o x) ports u.1 in
      let b : noise_of (node_at l.shared.graph.nodes spawn.bus) ≡ m.noise = noise_of_lem (node_at l.shared.graph.nodes spawn.bus) m ports in
      let c : x ≡ noise_of (node_at l.shared.graph.nodes spawn.bus) = e in
      omega arith)) refl

  place_logs : (s : VoiceState) → ((f : Fade) → s ≡ Fading f → ⊥) → (n : ℕ) (l : Ledger) (ts : List Item) → Tidy l → RecordedOf l → l.shared.graph.next + 2 ≤ 4294967296 → ports_now spawn.bus l.shared.graph.nodes ≡ Some m → BusRecordsOf spawn.bus ts l
      → Logs spawn.bus l ts (place n spawn s l).ledger (log_place spawn.rank n (bus_of spawn.bus l))
  place_logs s unfaded zero l ts t r room ports z = go (port_free spawn.bus l)
    where
      go : (o : Option ℕ) → Logs spawn.bus l ts (instantiate_or o None spawn s l (refused NoPort)).ledger []
      go (Some p) = instantiate_logs l t room ports ts z s unfaded p
      go None = logs_none spawn.bus l ts l z refl
  place_logs s unfaded (suc n) l ts t r room ports z =
      subst (λ acts. Logs spawn.bus l ts (place (suc n) spawn s l).ledger acts)
      (ap₂ (λ o u. log_or o u (bus_of spawn.bus l) (λ z. log_place spawn.rank n z)) (free_same l t spawn.bus (is_host (node_at l.shared.graph.nodes spawn.bus) m ports)) (next_same l t spawn.bus spawn.rank))
      (go (port_free spawn.bus l) (next_out l.shared spawn.bus spawn.rank l.voices) refl (place_logs s unfaded n))
    where
      go : (o : Option ℕ) (u : Option Voice) → next_out l.shared spawn.bus spawn.rank l.voices ≡ u
          → ((l : Ledger) (ts : List Item) → Tidy l → RecordedOf l → l.shared.graph.next + 2 ≤ 4294967296 → ports_now spawn.bus l.shared.graph.nodes ≡ Some m → BusRecordsOf spawn.bus ts l → Logs spawn.bus l ts (place n spawn s l).ledger (log_place spawn.rank n (bus_of spawn.bus l)))
          → Logs spawn.bus l ts (instantiate_or o u spawn s l (λ z. place n spawn s z)).ledger (log_or o (option_map (own_of l.shared.graph.nodes) u) (bus_of spawn.bus l) (λ z. log_place spawn.rank n z))
      go (Some p) u f ih = instantiate_logs l t room ports ts z s unfaded p
      go None None f ih = logs_none spawn.bus l ts l z refl
      go None (Some v) f ih =
          let q = next_out_in t.own.0 l.shared spawn.bus spawn.rank v f in
          let on = and_right (may_go spawn.rank v) (is_on spawn.bus v) q.1 in
          let c = own_cut l t r v q.0 spawn.bus on ts z v.state refl in
          subst (λ b. Logs spawn.bus l ts (place n spawn s (cut_off v v.state l)).ledger (goes (phase_of v.state) l.shared.clock (own_of l.shared.graph.nodes v) ++ log_place spawn.rank n b)) (cut_on l t v q.0 v.state spawn.bus on)
          (logs_then c (ih (cut_off v v.state l) c.items (tidy_cut l t v q.0 v.state) (recorded_cut v v.state l r q.0 refl) room (cut_ports l t v q.0 v.state spawn.bus ∙ ports) c.logged))

  budgeted_logs : (l : Ledger) (ts : List Item) → Tidy l → RecordedOf l → l.shared.graph.next + 2 ≤ 4294967296 → ports_now spawn.bus l.shared.graph.nodes ≡ Some m → BusRecordsOf spawn.bus ts l → Logs spawn.bus l ts (place_within_budget spawn l).ledger (log_settle spawn.rank (bus_of spawn.bus l))
  budgeted_logs l ts t r room ports z = go l.shared.config.budget
    where
      fewer : length (bus_of spawn.bus l).voices ≤ length l.voices
      fewer = let a = length-map (filter (is_on spawn.bus) l.voices) (own_of l.shared.graph.nodes) in let b = length_filter (is_on spawn.bus) l.voices in omega arith

      go : (c : Option ℕ) → Logs spawn.bus l ts (place (tries c l.voices) spawn (state_under c) l).ledger (log_place spawn.rank (bus.tries c (bus_of spawn.bus l).voices) (bus_of spawn.bus l))
      go None = place_logs Loose (λ f e. loose_fading f e) 0 l ts t r room ports z
      go (Some n) =
          subst (λ acts. Logs spawn.bus l ts (place (length l.voices) spawn Tracked l).ledger acts) (log_enough spawn.rank (length l.voices) (length (bus_of spawn.bus l).voices) (bus_of spawn.bus l) fewer (omega arith))
          (place_logs Tracked (under_fading (Some n)) (length l.voices) l ts t r room ports z)

  steal_logs : (l : Ledger) (ts : List Item) → Tidy l → RecordedOf l → BusRecordsOf spawn.bus ts l → (g : Voice) → In g l.voices → is_on spawn.bus g ≡ true → g.state ≡ Tracked
      → Logs spawn.bus l ts (steal_voice g l) (log_stolen (bus.port_held g.sequence (bus_of spawn.bus l)) l.shared.clock (own_of l.shared.graph.nodes g))
  steal_logs l ts t r z g i on e =
      subst (λ o. Logs spawn.bus l ts (steal_voice g l) (log_stolen o l.shared.clock (own_of l.shared.graph.nodes g))) (held_same l t spawn.bus g i on) (go (port_held g l))
    where
      go : (o : Option ℕ) → Logs spawn.bus l ts (stolen g o l) (log_stolen o l.shared.clock (own_of l.shared.graph.nodes g))
      go None = cut_tracked l t r g i spawn.bus on ts z e
      go (Some p) = fade_tracked l t r g i spawn.bus on ts z e p

module _ (l : Ledger) (t : Tidy l) (r : RecordedOf l) (per : l.shared.config.scope ≡ PerGroup) (spawn : Spawn) (ts : List Item) (z : BusRecordsOf spawn.bus ts l) where
  admitted_logs : Meets l.shared spawn → Logs spawn.bus l ts (admitted (admission_on spawn.bus spawn.rank l) spawn l).ledger (log_admitted (bus.admission_on spawn.rank (bus_of spawn.bus l)) spawn.rank (bus_of spawn.bus l))
  admitted_logs x = subst (λ a. Logs spawn.bus l ts (admitted (admission_on spawn.bus spawn.rank l) spawn l).ledger (log_admitted a spawn.rank (bus_of spawn.bus l))) (sym (admission_same l t per spawn x)) (go (admission_on spawn.bus spawn.rank l) refl)
    where
      go : (a : Admission) → admission_on spawn.bus spawn.rank l ≡ a → Logs spawn.bus l ts (admitted a spawn l).ledger (log_admitted (renamed_a (number l t spawn.bus) a) spawn.rank (bus_of spawn.bus l))
      go admission.Admit e = let h = x.room in budgeted_logs spawn x.ok x.ports l ts t r (omega arith) x.bus z
      go admission.Reject e = logs_none spawn.bus l ts l z refl
      go (admission.Steal p w) e =
          let q = steal_voice_lem t.own.0 l.shared (counted l.shared.config.scope spawn.bus) l.shared.config.budget l.shared.config.policy spawn.rank p w e in
          let c : counted PerGroup spawn.bus q.0 ≡ true = subst (λ y. counted y spawn.bus q.0 ≡ true) per q.2 in
          let on : is_on spawn.bus q.0 ≡ true = and_right (is_tracked q.0.state) _ c in
          let tr : is_tracked q.0.state ≡ true = and_left (is_tracked q.0.state) (is_on spawn.bus q.0) c in
          let a = away_steal spawn l x.ok x.ports l t x.room x.bus (λ b off. refl) q.0 q.1 on (port_held q.0 l) in
          let s = steal_logs spawn x.ok x.ports l ts t r z q.0 q.1 on (tracked_state q.0.state tr) in
          subst (λ o. Logs spawn.bus l ts (steal_then o spawn l).ledger (log_then (find (is_number (number_or l t spawn.bus o).0) (own_voices spawn.bus l.shared.graph.nodes l.voices)) spawn.rank (bus_of spawn.bus l))) (sym q.3)
          (subst (λ o. Logs spawn.bus l ts (place_within_budget spawn (steal_voice q.0 l)).ledger (log_then o spawn.rank (bus_of spawn.bus l))) (sym (find_number l t spawn.bus q.0 q.1 on))
          (subst (λ b. Logs spawn.bus l ts (place_within_budget spawn (steal_voice q.0 l)).ledger (log_stolen (bus.port_held q.0.sequence (bus_of spawn.bus l)) l.shared.clock (own_of l.shared.graph.nodes q.0) ++ log_settle spawn.rank b)) (steal_same l t q.0 q.1 spawn.bus on)
          (logs_then s (budgeted_logs spawn x.ok x.ports (steal_voice q.0 l) s.items a.tidy (recorded_steal q.0 l r q.1 tr) a.room a.ports s.logged))))

  guard_logs : (res : SpawnResult) (acts : List Act) (y a : Bool) (n : Option Node) (h i : Bool) → (refusal_from y a n h i ≡ None → Logs spawn.bus l ts res.ledger acts) → full_in (not_spawned (ledger.unless (refusal_from y a n h i) l res).answer) ≡ false
      → Logs spawn.bus l ts (ledger.unless (refusal_from y a n h i) l res).ledger (cond y [] (cond a (log_bus (host_ports n) acts) []))
  guard_logs res acts true a n h i f c = logs_none spawn.bus l ts l z refl
  guard_logs res acts false false n h i f c = logs_none spawn.bus l ts l z refl
  guard_logs res acts false true None h i f c = logs_none spawn.bus l ts l z refl
  guard_logs res acts false true (Some x) h i f c = at (eqb x.owner.0 0) x.ports x.noise h i f c
    where
      at : (y : Bool) (p w : ℕ) (h i : Bool) → (or_else (when (not y) VoiceNode None) (when (eqb p 0) BusWithoutPorts (when h TableFull (when i IdsUsedUp None))) ≡ None → Logs spawn.bus l ts res.ledger acts)
          → full_in (not_spawned (ledger.unless (or_else (when (not y) VoiceNode None) (when (eqb p 0) BusWithoutPorts (when h TableFull (when i IdsUsedUp None)))) l res).answer) ≡ false
          → Logs spawn.bus l ts (ledger.unless (or_else (when (not y) VoiceNode None) (when (eqb p 0) BusWithoutPorts (when h TableFull (when i IdsUsedUp None)))) l res).ledger (log_bus (cond y (Some (record { ports = p; noise = w })) None) acts)
      at false p w h i f c = logs_none spawn.bus l ts l z refl
      at true zero w h i f c = logs_none spawn.bus l ts l z refl
      at true (suc p) w h i f c = inner (eqb (suc p) 0) (ne_eqb (suc p) 0 (λ e. omega (arith, e))) h i f c
        where
          inner : (y : Bool) → y ≡ false → (h i : Bool) → (when y BusWithoutPorts (when h TableFull (when i IdsUsedUp None)) ≡ None → Logs spawn.bus l ts res.ledger acts)
              → full_in (not_spawned (ledger.unless (when y BusWithoutPorts (when h TableFull (when i IdsUsedUp None))) l res).answer) ≡ false
              → Logs spawn.bus l ts (ledger.unless (when y BusWithoutPorts (when h TableFull (when i IdsUsedUp None))) l res).ledger acts
          inner true e h i f c = absurd (true≢false e)
          inner false e true i f c = absurd (true≢false c)
          inner false e false true f c = absurd (true≢false c)
          inner false e false false f c = f refl

  pub managed_logs : full_in (not_spawned (spawn_managed spawn l).answer) ≡ false → Logs spawn.bus l ts (spawn_managed spawn l).ledger (log (story.managed spawn.def (pans spawn.pan) spawn.rank) (bus_of spawn.bus l))
  managed_logs c =
      guard_logs (admitted (admission_on spawn.bus spawn.rank l) spawn l) (log_admitted (bus.admission_on spawn.rank (bus_of spawn.bus l)) spawn.rank (bus_of spawn.bus l)) (ltb rank_limit spawn.rank) (allowed spawn.def) (node_at l.shared.graph.nodes spawn.bus) (no_headroom l.shared l.voices spawn.def) (no_ids l.shared spawn.def)
      (λ e. admitted_logs (meets l.shared l.voices spawn e)) c

-- ---- on another bus
module _ (b : NodeId) (spawn : Spawn) (off : eqb spawn.bus.0 b.0 ≡ false) (ts : List Item) where
  module _ (l₀ : Ledger) (ok : allowed spawn.def ≡ true) (m : BusPorts) where
    abbrev Stands : Ledger → Type 0
    Stands l = Away spawn l₀ ok m l × RecordedOf l × BusRecordsOf b ts l

    stands_place : (s : VoiceState) → ((f : Fade) → s ≡ Fading f → ⊥) → (n : ℕ) (l : Ledger) → Stands l → BusRecordsOf b ts (place n spawn s l).ledger
    stands_place s unfaded =
        place_kept spawn s (λ n l. Stands l) (λ r. BusRecordsOf b ts r.ledger)
        (λ n l p e q. records_instantiate q.2 (UnderOn b (instantiate spawn s p l).ledger) (new_voice spawn s p l.shared) (up_off l q.0.tidy spawn ok s p b off) unfaded (λ on x u h. true≢false (sym on ∙ off)))
        (λ l e q. q.2) (λ n l e f q. q.2)
        (λ n l v e f q.
        let r = next_out_in q.0.tidy.own.0 l.shared spawn.bus spawn.rank v f in
        let on = and_right (may_go spawn.rank v) (is_on spawn.bus v) r.1 in (
          away_cut spawn l₀ ok m l q.0 v r.0 on v.state,
          recorded_cut v v.state l q.1 r.0 refl,
          other_cut l q.0.tidy q.1 v r.0 b (elsewhere spawn l₀ ok m v on b off) ts q.2 v.state refl,
        ))

    stands_budgeted : (l : Ledger) → Stands l → BusRecordsOf b ts (place_within_budget spawn l).ledger
    stands_budgeted l q = stands_place (state_under l.shared.config.budget) (under_fading l.shared.config.budget) (tries l.shared.config.budget l.voices) l q

  pub other_logs : (l : Ledger) → Tidy l → RecordedOf l → l.shared.config.scope ≡ PerGroup → BusRecordsOf b ts l → BusRecordsOf b ts (spawn_managed spawn l).ledger
  other_logs l t r per z = go (spawn_refusal l.shared l.voices spawn.def spawn.bus spawn.rank) refl
    where
      works : Meets l.shared spawn → BusRecordsOf b ts (admitted (admission_on spawn.bus spawn.rank l) spawn l).ledger
      works x =
          managed_kept spawn (λ r. BusRecordsOf b ts r.ledger) l t.own.0 (λ h. z)
          (λ h. let y = x.room in stands_budgeted l x.ok x.ports l (record { tidy = t; room = omega arith; ports = x.bus; others = λ b off. refl }, r, z))
          (λ p w h g i c.
          let d : counted PerGroup spawn.bus g ≡ true = subst (λ y. counted y spawn.bus g ≡ true) per c in
          let on : is_on spawn.bus g ≡ true = and_right (is_tracked g.state) _ d in
          let tr : is_tracked g.state ≡ true = and_left (is_tracked g.state) (is_on spawn.bus g) d in
          let a = away_steal spawn l x.ok x.ports l t x.room x.bus (λ b off. refl) g i on (port_held g l) in
          stands_budgeted l x.ok x.ports (steal_voice g l) (a, recorded_steal g l r i tr, stolen_logs g i (elsewhere spawn l x.ok x.ports g on b off) (tracked_state g.state tr) (port_held g l)))
        where
          stolen_logs : (g : Voice) → In g l.voices → is_on b g ≡ false → g.state ≡ Tracked → (o : Option ℕ) → BusRecordsOf b ts (stolen g o l)
          stolen_logs g i o e None = other_cut l t r g i b o ts z Tracked e
          stolen_logs g i o e (Some p) = other_fade l t r g i b o ts z e p

      go : (o : Option Refusal) → spawn_refusal l.shared l.voices spawn.def spawn.bus spawn.rank ≡ o → BusRecordsOf b ts (ledger.unless o l (admitted (admission_on spawn.bus spawn.rank l) spawn l)).ledger
      go (Some n) e = z
      go None e = works (meets l.shared l.voices spawn e)

-- ---- every other call
module _ (vs₀ : List Voice) where
  old_moved : (v : Voice) → Old vs₀ v → Old vs₀ (moved one_more v)
  old_moved v (inr e) = inr (ap (moved_state one_more) e)
  old_moved v (inl w) = inl (record {
    old = w.old;
    member = w.member;
    bus = w.bus;
    number = w.number;
    fade = λ f e. let g = moved_fading v.state f e in let q = w.fade g.0 g.1 in (q.0, q.1, q.2 ∙ ap (λ (y : Fade). y.number) (sym g.2));
    held = λ e. w.held (back v.state e);
  })
    where
      back : (s : VoiceState) → moved_state one_more s ≡ Tracked → s ≡ Tracked
      back Tracked e = refl
      back (Fading f) e = let z : ◌≡◌ {A = ℕ} 0 1 = cc in absurd (omega arith)
      back Loose e = let z : ◌≡◌ {A = ℕ} 0 1 = cc in absurd (omega arith)

  olds : Preserves (λ l. (v : Voice) → In v l.voices → Old vs₀ v)
  olds =
      voices_only (λ c b n vs. (v : Voice) → In v vs → Old vs₀ v) (λ c b n vs w h v i. h v (in_filter (λ x. not (is_voice w x)) vs v i).0)
      (λ c b n vs h v i. let r = in_map (moved one_more) vs v i in subst (Old vs₀) (sym r.2) (old_moved r.0 (h r.0 r.1)))
      (λ c b n vs u e s k d h v i. ⊎_elim (h v) (λ q. inr (ap (λ (y : Voice). y.state) q ∙ s)) (in_snoc vs u v i))

-- node ids rise
module _ (n : ℕ) where
  next_preserved : Preserves (λ l. n < l.shared.graph.next)
  next_preserved =
      record {
        add_node = λ l kind ports required values glides e p. omega arith;
        remove_node = λ l k e p. p;
        connect = λ l a b r e p. p;
        disconnect = λ l b r e p. p;
        set_sink = λ l k p. p;
        loose = λ l spawn e p. instantiates l spawn p (port_free spawn.bus l);
        goes = λ l w p. p;
        node = λ l k x y e i p. p;
        schedule = λ l e f p. p;
        rest = λ l p. p;
        prepare = λ l o p. p;
        block = λ l r p. p;
      }
    where
      instantiates : (l : Ledger) (spawn : Spawn) → n < l.shared.graph.next → (o : Option ℕ) → n < (instantiate_or o None spawn Loose l (refused NoPort)).ledger.shared.graph.next
      instantiates l spawn p None = p
      instantiates l spawn p (Some r) =
          let e : (instantiate spawn Loose r l).ledger.shared.graph.next ≡ l.shared.graph.next + length (voice_nodes (next_voice l.shared) spawn.def (pans spawn.pan)) =
          (wires_same l.shared.graph.next (voice_wires spawn.def (pans spawn.pan)) (append_all (raised spawn.bus l.shared.graph) (voice_nodes (next_voice l.shared) spawn.def (pans spawn.pan)))).1 ∙ grown_next (voice_nodes (next_voice l.shared) spawn.def (pans spawn.pan)) (raised spawn.bus l.shared.graph) in
          omega arith

-- entries that leave the noise sequence, or end it
abbrev QuietE : Entry → Type 0
QuietE (story.opened n) = ⊥
QuietE story.closed = Unit {0}
QuietE (story.plugged p) = Unit {0}
QuietE (story.unplugged p) = Unit {0}
QuietE (story.lost ps) = Unit {0}
QuietE (story.managed def pan r) = ⊥
QuietE (story.loose def pan r) = ⊥
QuietE (story.freed s) = Unit {0}
QuietE (story.reported s i samples flag) = Unit {0}
QuietE story.cleared = Unit {0}
QuietE (story.rendered ss b) = Unit {0}

abbrev Quiet : Option Entry → Type 0
Quiet None = Unit {0}
Quiet (Some e) = QuietE e

removed_ports : (vs : List Own) (m : Bus) → (bus.without_voices vs m).ports ≡ m.ports
removed_ports [] m = refl
removed_ports (v ∷ vs) m = removed_ports vs (bus.without_voice v.number m)

freed_ports : (ss : List ℕ) (m : Bus) → (bus.free_all ss m).ports ≡ m.ports
freed_ports [] m = refl
freed_ports (s ∷ ss) m = freed_ports ss (bus.without_voice s m)

ports_follow : (e : Entry) → QuietE e → (m : Bus) (s : ℕ) → UnderR m.ports s → UnderR (bus.follow e m).bus.ports s
ports_follow (story.opened n) q m s h = absurd q
ports_follow story.closed q m s h = tt
ports_follow (story.plugged p) q m s h = h
ports_follow (story.unplugged p) q m s h = h
ports_follow (story.lost ps) q m s h = h
ports_follow (story.managed def pan r) q m s h = absurd q
ports_follow (story.loose def pan r) q m s h = absurd q
ports_follow (story.freed n) q m s h = h
ports_follow (story.reported n i samples flag) q m s h = h
ports_follow story.cleared q m s h =
    let faded = bus.without_voices (filter (λ v. bus.ended m.config v.phase) m.voices) m in
    subst (λ o. UnderR o s) (sym (removed_ports (filter bus.silent faded.voices) faded ∙ removed_ports (filter (λ v. bus.ended m.config v.phase) m.voices) m)) h
ports_follow (story.rendered ss b) q m s h = subst (λ o. UnderR o s) (sym (freed_ports ss m)) h

up_quiet : (en : Option Entry) → Quiet en → (a : call.Answer) (m' m : Bus) → Follow en a m' m → (s : ℕ) → UnderR m.ports s → UnderR m'.ports s
up_quiet None q a m' m f s h = subst (λ (z : Bus). UnderR z.ports s) (sym f) h
up_quiet (Some e) q a m' m f s h = subst (λ (z : bus.SpawnResult). UnderR z.bus.ports s) (sym f) (ports_follow e q m s h)

done_quiet : (o : Option Refusal) (en : Option Entry) → Quiet en → Quiet (if_done o en)
done_quiet None en q = q
done_quiet (Some r) en q = tt

if_quiet : (c : Bool) (e : Entry) → QuietE e → Quiet (if? c e)
if_quiet true e q = q
if_quiet false e q = tt

bus_quiet : (b : NodeId) (f : Voice → Entry) → ((v : Voice) → QuietE (f v)) → (o : Option Voice) → Quiet (on_bus b f o)
bus_quiet b f q None = tt
bus_quiet b f q (Some v) = if_quiet (is_on b v) (f v) (q v)

lost_quiet : (c : Bool) (ps : List ℕ) → Quiet (cond c (Some story.closed) (lost_if ps))
lost_quiet true ps = tt
lost_quiet false [] = tt
lost_quiet false (p ∷ ps) = tt

module _ (b : NodeId) (l : Ledger) (t : Tidy l) (per : l.shared.config.scope ≡ PerGroup) (s : ℕ) (h : UnderOn b l s) where
  generic : (x : Call) → is_managed x ≡ false → full_in (refusal_in (step x l).answer) ≡ false → Quiet (entry b x l) → UnderOn b (step x l).ledger s
  generic x m c q = (unmanaged_step (λ z. b.0 < z.shared.graph.next) (next_preserved b.0) x m l h.0, up_quiet (entry b x l) q (step x l).answer (bus_of b (step x l).ledger) (bus_of b l) (follows.goes x l t per c b).follows s h.1)

  up : (x : Call) → is_managed x ≡ false → full_in (refusal_in (step x l).answer) ≡ false → UnderOn b (step x l).ledger s
  up (call.add_node kind ports required values glides) m c =
      (unmanaged_step (λ z. b.0 < z.shared.graph.next) (next_preserved b.0) (call.add_node kind ports required values glides) m l h.0, go (add_refusal l.shared.graph kind ports required))
    where
      go : (o : Option Refusal) → UnderR (ports_now b (steps.unless o l (graph_step l (change.append l.shared.graph (host_node kind ports required values glides)) l.holders (call.node (record { 0 = l.shared.graph.next })))).ledger.shared.graph.nodes) s
      go (Some r) = h.1
      go None = subst (λ o. UnderR (host_ports o) s) (sym (find_snoc_off (is_node b) l.shared.graph.nodes (with_id l.shared.graph.next (host_node kind ports required values glides)) (ne_eqb l.shared.graph.next b.0 (λ e. omega (arith, e, h.0))))) h.1
  up (call.remove_node k) m c = generic (call.remove_node k) m c (done_quiet (host_refusal l.shared.graph k) _ (lost_quiet (is_bus b k) (held_by b k l)))
  up (call.connect a k p) m c = generic (call.connect a k p) m c (done_quiet (connect_refusal l.shared.graph a k p) _ (if_quiet (is_bus b k) (story.plugged p) tt))
  up (call.disconnect k p) m c = generic (call.disconnect k p) m c (done_quiet (disconnect_refusal l.shared.graph k p) _ (if_quiet (is_bus b k) (story.unplugged p) tt))
  up (call.set_sink k) m c = generic (call.set_sink k) m c tt
  up (call.spawn_managed spawn) m c = absurd (true≢false m)
  up (call.spawn_loose spawn) m c = go (spawn_refusal l.shared l.voices spawn.def spawn.bus spawn.rank) refl
    where
      at : (x : Meets l.shared spawn) (p : ℕ) (y : Bool) → eqb spawn.bus.0 b.0 ≡ y → UnderOn b (instantiate spawn Loose p l).ledger s
      at x p false e = up_off l t spawn x.ok Loose p b e s h
      at x p true e =
          let is : spawn.bus ≡ b = ap (λ n. record { 0 = n }) (eqb-true _ _ e) in
          let r = x.room in
          subst (λ (z : NodeId). UnderOn z (instantiate spawn Loose p l).ledger s) is (up_on l t spawn x.ok Loose p (omega arith) s (subst (λ (z : NodeId). UnderOn z l s) (sym is) h))

      place₀ : Meets l.shared spawn → (o : Option ℕ) → UnderOn b (instantiate_or o None spawn Loose l (refused NoPort)).ledger s
      place₀ x None = h
      place₀ x (Some p) = at x p (eqb spawn.bus.0 b.0) refl

      go : (o : Option Refusal) → spawn_refusal l.shared l.voices spawn.def spawn.bus spawn.rank ≡ o → UnderOn b (ledger.unless o l (place 0 spawn Loose l)).ledger s
      go (Some r) e = h
      go None e = place₀ (meets l.shared l.voices spawn e) (port_free spawn.bus l)
  up (call.free w) m c = generic (call.free w) m c (bus_quiet b (λ v. story.freed v.sequence) (λ v. tt) (voice_of w l))
  up call.clear m c = generic call.clear m c tt
  up (call.order w name o) m c = generic (call.order w name o) m c tt
  up (call.schedule time w name a) m c = generic (call.schedule time w name a) m c tt
  up (call.report k channels samples flag) m c =
      generic (call.report k channels samples flag) m c (done_quiet (report_refusal l.shared l.voices k channels (length samples)) _ (bus_quiet b _ (λ v. tt) (owner_voice (node_at l.shared.graph.nodes k) l)))
  up call.prepare m c = generic call.prepare m c tt
  up (call.render out) m c = generic (call.render out) m c (done_quiet (render_refusal l.shared (length out)) _ tt)
  up (call.ask q) m c = h

pub other_calls : (b : NodeId) (ts : List Item) (x : Call) → is_managed x ≡ false → (l : Ledger) → Tidy l → l.shared.config.scope ≡ PerGroup → full_in (refusal_in (step x l).answer) ≡ false → BusRecordsOf b ts l → BusRecordsOf b ts (step x l).ledger
other_calls b ts x h l t per c z =
    subst (λ y. BusRecords b ts y (UnderOn b (step x l).ledger) (step x l).ledger.voices) (sym (log_stays x h l))
    (records_next z (UnderOn b (step x l).ledger) (step x l).ledger.voices (λ s u. up b l t per s u x h c)
    (unmanaged_step (λ m. (v : Voice) → In v m.voices → Old l.voices v) (olds l.voices) x h l (λ v i. inl (was_self l.voices v i))))
