-- Every call: a bus follows its own entry, and is as it was where the call is none of its own. So its story decides its tale.
use Prim.Native.Nat.{ℕ, ◌+◌, ◌-◌, ◌≤◌, ◌<◌}
use native.Mathlib.Omega.{arith}
use mathlib.Core.Path.{◌≡◌, refl, sym, ap, ap₂, ◌∙◌, subst}
use mathlib.Core.Logic.{inl, inr}
use mathlib.Core.List.{List, [], ◌∷◌, map, map-map}
use Rattle.std.specs.Prelude.{Option, None, Some}
use mathlib.Core.Bool.{Bool, true, false, not, cond, ◌&&◌, ◌||◌, true≢false}
use lib.Dec.{eqb, ltb, leb}
use lib.Ieee.{Float}
use lib.ListN.{length}
use borrow.Author.Tests.{eqb-true, eq-eqb, ne_eqb, ltb-true, leb-true, leb-false, not-false}
use Rattle.std.proofs.lemmas.Bool.{or_parts}
use Rattle.graph.proofs.Calls.{when_none}
use Rattle.lists.specs.Member.{In}
use Rattle.lists.proofs.Member.{map_same, and_left, and_right}
use Rattle.lists.proofs.Filter.{in_filter}
use Rattle.lists.proofs.Find.{find_in, find_none}
use Rattle.node.specs.Name.{name_of}
use Rattle.node.specs.declared.record.NodeId.{NodeId}
use Rattle.node.specs.declared.record.VoiceId.{VoiceId}
use Rattle.node.specs.declared.record.Node.{Node}
use Rattle.node.specs.declared.refusal.Refusal.{Refusal}
use Rattle.node.specs.declared.refusal.Refusal.TheVariants.{UnknownNode, VoiceNode, PortOrKind}
use Rattle.graph.specs.Node.{is_node, node_at, ports_of, of_voice, host_node}
use Rattle.graph.specs.Change as change
use Rattle.graph.specs.Refuse.{dead, add_refusal, host_refusal, disconnect_refusal, connect_refusal}
use Rattle.scheduler.specs.Queue.{replacing}
use Rattle.voice.specs.declared.policy.BudgetScope.TheVariants.{PerGroup}
use Rattle.store.specs.declared.config.Config.{Config}
use Rattle.voice.specs.declared.voices.Voice.{Voice}
use Rattle.voice.specs.Voice.{is_voice, is_on}
use Rattle.model.specs.Refuse.{report_refusal, reports, of_definition}
use Rattle.model.specs.Spawn.{pans, Spawn}
use Rattle.model.specs.Order.{report_node, free_outcome}
use Rattle.model.specs.Render.{prepare_outcome, prepare_shared, any_free, is_sounding, due, render_refusal}
use Rattle.model.proofs.Refused.{refusal_in, not_rendered, heard_not, after_not}
use Rattle.model.specs.Call.{Call, Answer, event, schedule_refusal}
use Rattle.model.specs.Call as call
use Rattle.model.specs.SharedState.{with_graph, sounding}
use Rattle.ledger.specs.Ledger.{at_graph, Ledger, new_ledger, freed, spawn_managed, spawn_loose}
use Rattle.scheduler.specs.declared.event.Event.{Event}
use Rattle.ledger.specs.Holder.{hold, drop_node, nobody, voice}
use Rattle.ledger.specs.Holder as holder
use Rattle.ledger.specs.Render.{Heard, apply_events, prepared_if, rested}
use Rattle.ledger.specs.Call.{Step, step, run, unless, shared_step, render_step}
use Rattle.ledger.proofs.Ids.{unique, above}
use Rattle.ledger.proofs.Managed.{config_step}
use Rattle.ledger.proofs.Nodes.{own_new}
use Rattle.isolation.specs.Story.{Entry, rendered, if_done, if?, is_bus, held_by, lost_if, on_bus, voice_of, owner_voice, timed_frees, entry, story, Told, BusVoice, told, bus_voice, tell, write, tale, shown, voices_on}
use Rattle.isolation.specs.Story as story
use Rattle.isolation.specs.Isolated.{Covered}
use Rattle.isolation.proofs.Cover.{full_in, not_full}
use Rattle.isolation.proofs.Bus.{Own, Bus, empty, port_count, follow, new_bus, quiet, level_now}
use Rattle.isolation.proofs.Bus as bus
use Rattle.isolation.proofs.Part.{room_of, host_ports, own_of, ports_now, bus_of_lem, bus_of, Tidy}
use Rattle.isolation.proofs.Removed.{removed_off, removed_on}
use Rattle.isolation.proofs.Decide.{held_same}
use Rattle.isolation.proofs.Others.{managed_apart, loose_apart, is_below}
use Rattle.isolation.proofs.Spawned.{spawned_of, managed_same, loose_same}
use Rattle.isolation.proofs.Host.{add_other, add_own, tidy_add, remove_own, remove_other, remove_off, tidy_remove, wire_other, wire_own, tidy_wire, no_ports}
use Rattle.isolation.proofs.Replaced.{order_still, tidy_report, report_off, report_on}
use Rattle.isolation.proofs.Time.{tidy_freed, tidy_clear, clear_same, tidy_shared, tidy_events, taken, blocked}

-- what becomes of the bus by a call that is no entry, or this one
abbrev pub Follow : Option Entry → Answer → Bus → Bus → Type 0
Follow None a m' m = m' ≡ m
Follow (Some e) a m' m = ◌≡◌ {A = bus.SpawnResult} (record { answer = shown (refusal_in a); bus = m' }) (follow e m)

pub record Goes (b : NodeId) (en : Option Entry) (s : Step) (l : Ledger) : Type 0 where
  pub tidy : Tidy s.ledger
  pub follows : Follow en s.answer (bus_of b s.ledger) (bus_of b l)

same_bus : (k b : NodeId) → eqb k.0 b.0 ≡ true → k ≡ b
same_bus k b e = ap (λ n. record { 0 = n }) (eqb-true _ _ e)

-- a live node of the host, with the port p
wire_ports : (l : Ledger) → Tidy l → (k : NodeId) (p : ℕ) → dead (node_at l.shared.graph.nodes k) ≡ false → of_voice (node_at l.shared.graph.nodes k) ≡ false → leb (ports_of (node_at l.shared.graph.nodes k)) p ≡ false
    → (k.0 < l.shared.graph.next) × (p < port_count (ports_now k l.shared.graph.nodes))
wire_ports l t k p d v r = go (node_at l.shared.graph.nodes k) refl d v r
  where
    go : (o : Option Node) → node_at l.shared.graph.nodes k ≡ o → dead o ≡ false → of_voice o ≡ false → leb (ports_of o) p ≡ false → (k.0 < l.shared.graph.next) × (p < port_count (ports_now k l.shared.graph.nodes))
    go None e d v r = absurd (true≢false d)
    go (Some n) e d v r =
        let h : eqb n.owner.0 0 ≡ true = not-false _ v in
        let q : ports_now k l.shared.graph.nodes ≡ Some (room_of n) = ap host_ports e ∙ rw h in
        (is_below l t k (room_of n) q, subst (λ z. p < port_count z) (sym q) (leb-false _ _ r))

module _ (l : Ledger) (t : Tidy l) (b : NodeId) where
  guarded : (o : Option Refusal) (s : Step) (en : Option Entry) → (o ≡ None → Goes b en s l) → Goes b (if_done o en) (unless o l s) l
  guarded (Some r) s en f = record { tidy = t; follows = refl }
  guarded None s en f = f refl

  nothing_of_it : (a : Answer) → Goes b None (record { answer = a; ledger = l }) l
  nothing_of_it a = record { tidy = t; follows = refl }

  -- a refusal, or something that is no entry
  unseen : (o : Option Refusal) (s : Step) → Goes b None s l → Goes b None (unless o l s) l
  unseen (Some r) s g = record { tidy = t; follows = refl }
  unseen None s g = g

  add_goes : (kind : List ℕ) (ports required : ℕ) (values glides : Bool) → Goes b (entry b (call.add_node kind ports required values glides) l) (step (call.add_node kind ports required values glides) l) l
  add_goes kind ports required values glides =
      guarded (add_refusal l.shared.graph kind ports required) _ (if? (eqb l.shared.graph.next b.0) (story.opened ports)) (λ e. record { tidy = tidy_add l t kind ports required values glides e; follows = go e (eqb l.shared.graph.next b.0) refl })
    where
      go : (e : add_refusal l.shared.graph kind ports required ≡ None) (c : Bool) → eqb l.shared.graph.next b.0 ≡ c → Follow (if? c (story.opened ports)) (call.node (record { 0 = l.shared.graph.next })) (bus_of b (at_graph l (change.append l.shared.graph (host_node kind ports required values glides)) l.holders)) (bus_of b l)
      go e true c = ap quiet (add_own l t kind ports required values glides e b c)
      go e false c = add_other l t kind ports required values glides e b c

  remove_goes : (k : NodeId) → Goes b (entry b (call.remove_node k) l) (step (call.remove_node k) l) l
  remove_goes k =
      guarded (host_refusal l.shared.graph k) _ (cond (is_bus b k) (Some story.closed) (lost_if (held_by b k l))) (λ e. record { tidy = tidy_remove l t k e; follows = go e (is_bus b k) refl (held_by b k l) refl })
    where
      go : (e : host_refusal l.shared.graph k ≡ None) (c : Bool) → is_bus b k ≡ c → (ps : List ℕ) → held_by b k l ≡ ps → Follow (cond c (Some story.closed) (lost_if ps)) call.done (bus_of b (at_graph l (change.remove_node l.shared.graph k) (drop_node k l.holders))) (bus_of b l)
      go e true c ps h = ap quiet (remove_own l t k e b c)
      go e false c [] h = remove_off l t k e b c h
      go e false c (p ∷ ps) h = ap quiet (remove_other l t k e b c) ∙ ap (λ qs. quiet (follow (story.lost qs) (bus_of b l)).bus) h

  connect_goes : (a k : NodeId) (p : ℕ) → Goes b (entry b (call.connect a k p) l) (step (call.connect a k p) l) l
  connect_goes a k p =
      guarded (connect_refusal l.shared.graph a k p) _ (if? (is_bus b k) (story.plugged p)) (λ e. let r = ready e in record { tidy = tidy_wire l t k p (holder.host a) (change.connect l.shared.graph a k p) refl refl no r.0; follows = go r.0 r.1 (is_bus b k) refl })
    where
      no : (w : VoiceId) → holder.host a ≡ voice w → ⊥
      no w e = let z : ◌≡◌ {A = ℕ} 0 1 = cc in omega arith

      ready : connect_refusal l.shared.graph a k p ≡ None → (k.0 < l.shared.graph.next) × (p < port_count (ports_now k l.shared.graph.nodes))
      ready h =
          let x = node_at l.shared.graph.nodes a in
          let y = node_at l.shared.graph.nodes k in
          let h₁ = when_none (dead x || dead y) UnknownNode _ h in
          let h₂ = when_none (of_voice x || of_voice y) VoiceNode _ h₁.1 in
          let h₃ = when_none (leb (ports_of y) p) PortOrKind _ h₂.1 in
          wire_ports l t k p (or_parts (dead x) (dead y) h₁.0).1 (or_parts (of_voice x) (of_voice y) h₂.0).1 h₃.0

      go : k.0 < l.shared.graph.next → p < port_count (ports_now k l.shared.graph.nodes) → (c : Bool) → is_bus b k ≡ c
          → Follow (if? c (story.plugged p)) call.done (bus_of b (at_graph l (change.connect l.shared.graph a k p) (hold k p (holder.host a) l.holders))) (bus_of b l)
      go live range true c = ap quiet (wire_own l t k p (holder.host a) (change.connect l.shared.graph a k p) refl refl no live b c bus.host refl (subst (λ (z : NodeId). p < port_count (ports_now z l.shared.graph.nodes)) (same_bus k b c) range))
      go live range false c = wire_other l t k p (holder.host a) (change.connect l.shared.graph a k p) refl refl no live b c

  disconnect_goes : (k : NodeId) (p : ℕ) → Goes b (entry b (call.disconnect k p) l) (step (call.disconnect k p) l) l
  disconnect_goes k p =
      guarded (disconnect_refusal l.shared.graph k p) _ (if? (is_bus b k) (story.unplugged p)) (λ e. let r = ready e in record { tidy = tidy_wire l t k p nobody (change.disconnect l.shared.graph k p) refl refl no r.0; follows = go r.0 r.1 (is_bus b k) refl })
    where
      no : (w : VoiceId) → nobody ≡ voice w → ⊥
      no w e = let z : ◌≡◌ {A = ℕ} 0 1 = cc in omega arith

      ready : disconnect_refusal l.shared.graph k p ≡ None → (k.0 < l.shared.graph.next) × (p < port_count (ports_now k l.shared.graph.nodes))
      ready h =
          let y = node_at l.shared.graph.nodes k in
          let h₁ = when_none (dead y) UnknownNode _ h in
          let h₂ = when_none (of_voice y) VoiceNode _ h₁.1 in
          let h₃ = when_none (leb (ports_of y) p) PortOrKind _ h₂.1 in
          wire_ports l t k p h₁.0 h₂.0 h₃.0

      go : k.0 < l.shared.graph.next → p < port_count (ports_now k l.shared.graph.nodes) → (c : Bool) → is_bus b k ≡ c
          → Follow (if? c (story.unplugged p)) call.done (bus_of b (at_graph l (change.disconnect l.shared.graph k p) (hold k p nobody l.holders))) (bus_of b l)
      go live range true c = ap quiet (wire_own l t k p nobody (change.disconnect l.shared.graph k p) refl refl no live b c empty refl (subst (λ (z : NodeId). p < port_count (ports_now z l.shared.graph.nodes)) (same_bus k b c) range))
      go live range false c = wire_other l t k p nobody (change.disconnect l.shared.graph k p) refl refl no live b c

  managed_goes : l.shared.config.scope ≡ PerGroup → (spawn : Spawn) → full_in (refusal_in (step (call.spawn_managed spawn) l).answer) ≡ false
      → Goes b (entry b (call.spawn_managed spawn) l) (step (call.spawn_managed spawn) l) l
  managed_goes per spawn covered = let a = managed_apart l t spawn per in record { tidy = a.tidy; follows = go (is_bus b spawn.bus) refl }
    where
      go : (c : Bool) → is_bus b spawn.bus ≡ c → Follow (if? c (story.managed spawn.def (pans spawn.pan) spawn.rank)) (step (call.spawn_managed spawn) l).answer (bus_of b (step (call.spawn_managed spawn) l).ledger) (bus_of b l)
      go true c = subst (λ (z : NodeId). spawned_of z (spawn_managed spawn l) ≡ follow (story.managed spawn.def (pans spawn.pan) spawn.rank) (bus_of z l)) (same_bus spawn.bus b c) (managed_same l t spawn per covered)
      go false c = (managed_apart l t spawn per).others b c

  loose_goes : (spawn : Spawn) → full_in (refusal_in (step (call.spawn_loose spawn) l).answer) ≡ false
      → Goes b (entry b (call.spawn_loose spawn) l) (step (call.spawn_loose spawn) l) l
  loose_goes spawn covered = record { tidy = (loose_apart l t spawn).tidy; follows = go (is_bus b spawn.bus) refl }
    where
      go : (c : Bool) → is_bus b spawn.bus ≡ c → Follow (if? c (story.loose spawn.def (pans spawn.pan) spawn.rank)) (step (call.spawn_loose spawn) l).answer (bus_of b (step (call.spawn_loose spawn) l).ledger) (bus_of b l)
      go true c = subst (λ (z : NodeId). spawned_of z (spawn_loose spawn l) ≡ follow (story.loose spawn.def (pans spawn.pan) spawn.rank) (bus_of z l)) (same_bus spawn.bus b c) (loose_same l t spawn covered)
      go false c = (loose_apart l t spawn).others b c

  free_goes : (w : VoiceId) → Goes b (entry b (call.free w) l) (step (call.free w) l) l
  free_goes w = record { tidy = tidy_freed l t (voice_of w l) w refl; follows = go (voice_of w l) refl }
    where
      go : (o : Option Voice) → voice_of w l ≡ o → Follow (on_bus b (λ v. story.freed v.sequence) o) (call.ordered (free_outcome o)) (bus_of b (freed o l)) (bus_of b l)
      go None e = refl
      go (Some v) e = at (is_on b v) refl
        where
          at : (c : Bool) → is_on b v ≡ c → Follow (if? c (story.freed v.sequence)) (call.ordered (free_outcome (Some v))) (bus_of b (freed (Some v) l)) (bus_of b l)
          at true c = ap quiet (removed_on l t v (find_in (is_voice w) l.voices v e).0 b c)
          at false c = removed_off l t v (find_in (is_voice w) l.voices v e).0 b c

  report_goes : (k : NodeId) (channels : ℕ) (samples : List Float) (flag : Bool) → Goes b (entry b (call.report k channels samples flag) l) (step (call.report k channels samples flag) l) l
  report_goes k channels samples flag =
      guarded (report_refusal l.shared l.voices k channels (length samples)) _ _ (λ e. go (node_at l.shared.graph.nodes k) refl (not-false (reports l.voices (node_at l.shared.graph.nodes k)) (when_none (not (reports l.voices (node_at l.shared.graph.nodes k))) UnknownNode _ e).0))
    where
      entry_of : Voice → Entry
      entry_of v = story.reported v.sequence (k.0 - v.first.0) samples flag

      go : (o : Option Node) → node_at l.shared.graph.nodes k ≡ o → reports l.voices o ≡ true → Goes b (on_bus b entry_of (owner_voice o l)) (shared_step l (report_node o samples flag l.shared) call.done) l
      go None e h = nothing_of_it call.done
      go (Some x) e h = record { tidy = tidy_report l t k x e samples flag; follows = at (voice_of x.owner l) refl h }
        where
          after : Bus
          after = bus_of b (shared_step l (report_node (Some x) samples flag l.shared) call.done).ledger

          at : (u : Option Voice) → voice_of x.owner l ≡ u → (eqb x.owner.0 0 || of_definition x.id.0 u) ≡ true → Follow (on_bus b entry_of u) call.done after (bus_of b l)
          at None f h = report_off l t k x e samples flag b (λ v i on q. true≢false (sym (eq-eqb v.id.0 x.owner.0 (sym q)) ∙ find_none (is_voice x.owner) l.voices v f i))
          at (Some g) f h = on (is_on b g) refl
            where
              i : In g l.voices
              i = (find_in (is_voice x.owner) l.voices g f).0

              owns : x.owner.0 ≡ g.id.0
              owns = sym (eqb-true _ _ (find_in (is_voice x.owner) l.voices g f).1)

              is_k : x.id.0 ≡ k.0
              is_k = eqb-true _ _ (find_in (is_node k) l.shared.graph.nodes x e).1

              inside : (leb g.first.0 x.id.0 && ltb x.id.0 (g.first.0 + g.count)) ≡ true
              inside = ap (λ c. c || of_definition x.id.0 (Some g)) (sym (ne_eqb x.owner.0 0 (λ z. omega (arith, z, owns, above t.own.0 g i)))) ∙ h

              low : g.first.0 ≤ k.0
              low = let z = is_k in let y : g.first.0 ≤ x.id.0 = leb-true _ _ (and_left _ _ inside) in omega arith

              high : k.0 < g.first.0 + g.count
              high = let z = is_k in let y : x.id.0 < g.first.0 + g.count = ltb-true _ _ (and_right (leb g.first.0 x.id.0) _ inside) in omega arith

              on : (c : Bool) → is_on b g ≡ c → Follow (if? c (entry_of g)) call.done after (bus_of b l)
              on true c = ap quiet (report_on l t k x e samples flag g i owns low high b c)
              on false c = report_off l t k x e samples flag b (λ v j o q. true≢false (sym o ∙ ap (is_on b) (unique t.own.0 v g j i (sym q ∙ owns)) ∙ c))

  render_goes : (out : List ℕ) → Goes b (entry b (call.render out) l) (step (call.render out) l) l
  render_goes out = go (render_refusal l.shared (length out))
    where
      q : List Event
      q = due l.shared

      never : (y : Bool) (m : Ledger) → not_rendered (prepared_if y m).answer ≡ None
      never true m = after_not (prepare_outcome m.shared).answer (prepare_shared m.shared)
      never false m = heard_not (sounding m.shared)

      played : Heard
      played = prepared_if (any_free q) (apply_events q (rested l))

      go : (o : Option Refusal) → Goes b (if_done o (Some (rendered (timed_frees b q (rested l)) (is_sounding played.answer)))) (render_step o out l) l
      go (Some r) = record { tidy = t; follows = refl }
      go None =
          let a = taken q (rested l) (tidy_events l t _) in
          let z = blocked (any_free q) (apply_events q (rested l)) a.tidy in
          record { tidy = z.tidy; follows = ap (λ o. record { answer = shown o; bus = bus_of b played.ledger }) (never (any_free q) (apply_events q (rested l))) ∙ ap quiet (z.same b ∙ ap (bus.block (is_sounding played.answer)) (a.same b)) }

-- ---- every call
pub goes : (x : Call) (l : Ledger) → Tidy l → l.shared.config.scope ≡ PerGroup → full_in (refusal_in (step x l).answer) ≡ false → (b : NodeId) → Goes b (entry b x l) (step x l) l
goes (call.add_node kind ports required values glides) l t per c b = add_goes l t b kind ports required values glides
goes (call.remove_node k) l t per c b = remove_goes l t b k
goes (call.connect a k p) l t per c b = connect_goes l t b a k p
goes (call.disconnect k p) l t per c b = disconnect_goes l t b k p
goes (call.set_sink k) l t per c b = unseen l t b (host_refusal l.shared.graph k) _ (record { tidy = retidy; follows = refl })
  where
    retidy : Tidy (record { shared = with_graph (change.set_sink l.shared.graph k) l.shared; holders = l.holders; voices = l.voices })
    retidy = record { own = t.own; rows = t.rows; outs = t.outs; seated = t.seated; fresh = t.fresh; single = t.single; few = t.few; hosted = t.hosted }
goes (call.spawn_managed spawn) l t per c b = managed_goes l t b per spawn c
goes (call.spawn_loose spawn) l t per c b = loose_goes l t b spawn c
goes (call.free w) l t per c b = free_goes l t b w
goes call.clear l t per c b = record { tidy = tidy_clear l t; follows = ap quiet (clear_same l t b) }
goes (call.order w name o) l t per c b = let u = order_still l t (voice_of w l) (name_of name) o in record { tidy = u.tidy; follows = u.same b }
goes (call.schedule time w name a) l t per c b = unseen l t b (schedule_refusal (event time w name a) l.shared.events) _ (record { tidy = tidy_events l t (replacing (event time w name a) l.shared.events); follows = refl })
goes (call.report k channels samples flag) l t per c b = report_goes l t b k channels samples flag
goes call.prepare l t per c b = let u = tidy_shared l t (prepare_outcome l.shared).answer (prepare_outcome l.shared).order in record { tidy = u.tidy; follows = u.same b }
goes (call.render out) l t per c b = render_goes l t b out
goes (call.ask q) l t per c b = nothing_of_it l t b _

-- ---- the tale by the story
abbrev pub bus_voice_in : Bus → Own → BusVoice
bus_voice_in m v = record { number = v.number; rank = v.rank; birth = v.birth; port = v.port; holds = bus.port_held v.number m; phase = v.phase; level = level_now m.clock v }

abbrev pub told_of : bus.SpawnResult → Told
told_of r = record { answer = r.answer; voices = map (bus_voice_in r.bus) r.bus.voices }

abbrev pub tale_of : List Entry → Bus → List Told
tale_of [] m = []
tale_of (e ∷ es) m = told_of (follow e m) ∷ tale_of es (follow e m).bus

told_same : (b : NodeId) (a : Answer) (l : Ledger) → Tidy l → told b a l ≡ told_of (record { answer = shown (refusal_in a); bus = bus_of b l })
told_same b a l t =
    ap (λ vs. record { answer = shown (refusal_in a); voices = vs })
    (map_same (bus_voice l) (λ v. bus_voice_in (bus_of b l) (own_of l.shared.graph.nodes v)) (voices_on b l) (λ v i.
    let r = in_filter (is_on b) l.voices v i in
    ap (λ h. record { number = v.sequence; rank = v.rank; birth = v.birth; port = v.port; holds = h; phase = story.phase_of v.state; level = level_now l.shared.clock (own_of l.shared.graph.nodes v) }) (held_same l t b v r.0 r.1))
    ∙ sym (map-map (bus_voice_in (bus_of b l)) (own_of l.shared.graph.nodes) (voices_on b l)))

pub tale_same : (b : NodeId) (xs : List Call) (l : Ledger) → Tidy l → l.shared.config.scope ≡ PerGroup → Covered xs l → tale b xs l ≡ tale_of (story b xs l) (bus_of b l)
tale_same b [] l t per c = refl
tale_same b (x ∷ xs) l t per c = go (entry b x l) g.follows (tale_same b xs (step x l).ledger g.tidy (ap (λ (z : Config). z.scope) (config_step x l t.own.0) ∙ per) (λ a i. c a (inr i)))
  where
    g : Goes b (entry b x l) (step x l) l
    g = goes x l t per (not_full _ (c (step x l).answer (inl refl))) b

    l' : Ledger
    l' = (step x l).ledger

    go : (en : Option Entry) → Follow en (step x l).answer (bus_of b l') (bus_of b l) → tale b xs l' ≡ tale_of (story b xs l') (bus_of b l')
        → tell en (told b (step x l).answer l') (tale b xs l') ≡ tale_of (write en (story b xs l')) (bus_of b l)
    go None f ih = ih ∙ ap (tale_of (story b xs l')) f
    go (Some e) f ih = ap₂ ◌∷◌ (told_same b (step x l).answer l' g.tidy ∙ ap told_of f) (ih ∙ ap (λ (r : bus.SpawnResult). tale_of (story b xs l') r.bus) f)

-- ---- from a new store
pub tidy_new : (c : Config) → Tidy (new_ledger c)
tidy_new c =
    record {
      own = own_new c;
      rows = λ k x i. absurd i;
      outs = λ v i. absurd i;
      seated = λ n p w e. let z : ◌≡◌ {A = ℕ} 0 1 = cc in absurd (omega arith);
      fresh = λ n p h. refl;
      single = λ u v i. absurd i;
      few = λ x i. absurd i;
      hosted = λ v i. absurd i;
    }

pub bus_new : (b : NodeId) (c : Config) → bus_of b (new_ledger c) ≡ new_bus c
bus_new b c = ap (λ h. bus_of_lem c 0 None h []) (no_ports (λ p. empty))

-- the first part of the theorem: equal stories, equal tales
pub tales : (c : Config) → c.scope ≡ PerGroup → (b₁ b₂ : NodeId) (xs₁ xs₂ : List Call) → Covered xs₁ (new_ledger c) → Covered xs₂ (new_ledger c)
    → story b₁ xs₁ (new_ledger c) ≡ story b₂ xs₂ (new_ledger c) → tale b₁ xs₁ (new_ledger c) ≡ tale b₂ xs₂ (new_ledger c)
tales c per b₁ b₂ xs₁ xs₂ k₁ k₂ e =
    tale_same b₁ xs₁ (new_ledger c) (tidy_new c) per k₁ ∙ ap₂ tale_of e (bus_new b₁ c ∙ sym (bus_new b₂ c)) ∙ sym (tale_same b₂ xs₂ (new_ledger c) (tidy_new c) per k₂)

-- ---- and the bus at the end
abbrev pub bus_after : List Entry → Bus → Bus
bus_after [] m = m
bus_after (e ∷ es) m = bus_after es (follow e m).bus

bus_run : (b : NodeId) (xs : List Call) (l : Ledger) → Tidy l → l.shared.config.scope ≡ PerGroup → Covered xs l → Tidy (run xs l).ledger × (bus_of b (run xs l).ledger ≡ bus_after (story b xs l) (bus_of b l))
bus_run b [] l t per c = (t, refl)
bus_run b (x ∷ xs) l t per c =
    let r = bus_run b xs (step x l).ledger g.tidy (ap (λ (z : Config). z.scope) (config_step x l t.own.0) ∙ per) (λ a i. c a (inr i)) in
    (r.0, r.1 ∙ go (entry b x l) g.follows)
  where
    g : Goes b (entry b x l) (step x l) l
    g = goes x l t per (not_full _ (c (step x l).answer (inl refl))) b

    l' : Ledger
    l' = (step x l).ledger

    go : (en : Option Entry) → Follow en (step x l).answer (bus_of b l') (bus_of b l) → bus_after (story b xs l') (bus_of b l') ≡ bus_after (write en (story b xs l')) (bus_of b l)
    go None f = ap (bus_after (story b xs l')) f
    go (Some e) f = ap (λ (r : bus.SpawnResult). bus_after (story b xs l') r.bus) f

pub ends : (c : Config) → c.scope ≡ PerGroup → (b₁ b₂ : NodeId) (xs₁ xs₂ : List Call) → Covered xs₁ (new_ledger c) → Covered xs₂ (new_ledger c)
    → story b₁ xs₁ (new_ledger c) ≡ story b₂ xs₂ (new_ledger c)
    → map (bus_voice (run xs₁ (new_ledger c)).ledger) (voices_on b₁ (run xs₁ (new_ledger c)).ledger) ≡ map (bus_voice (run xs₂ (new_ledger c)).ledger) (voices_on b₂ (run xs₂ (new_ledger c)).ledger)
ends c per b₁ b₂ xs₁ xs₂ k₁ k₂ e =
    let r = bus_run b₁ xs₁ (new_ledger c) (tidy_new c) per k₁ in
    let s = bus_run b₂ xs₂ (new_ledger c) (tidy_new c) per k₂ in
    ap (λ (t : Told). t.voices) (told_same b₁ call.done (run xs₁ (new_ledger c)).ledger r.0
    ∙ ap (λ m. told_of (record { answer = None; bus = m })) (r.1 ∙ ap₂ bus_after e (bus_new b₁ c ∙ sym (bus_new b₂ c)) ∙ sym s.1)
    ∙ sym (told_same b₂ call.done (run xs₂ (new_ledger c)).ledger s.0))
