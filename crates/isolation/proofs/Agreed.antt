-- Agreement up to a matching of ids gives equal stories (`agreed`). Two ledgers that have come through calls which agree are twins: the bus by itself is one in
-- both, voices of one number match, and so do the host nodes that hold one port.
use Prim.Native.Nat.{ℕ, ◌+◌, ◌-◌, ◌≤◌, ◌<◌}
use native.Mathlib.Omega.{arith}
use mathlib.Core.Path.{◌≡◌, refl, sym, ap, ap₂, ◌∙◌, subst}
use mathlib.Core.Logic.{inl, inr, ⊎_elim}
use mathlib.Core.List.{List, [], ◌∷◌, map}
use Rattle.std.specs.Prelude.{Option, None, Some, filter, find, is_some, Ok}
use mathlib.Core.Bool.{Bool, true, false, not, cond, ◌&&◌, ◌||◌, true≢false, false≢true}
use lib.Dec.{eqb, leb, ltb}
use lib.Ieee.{Float}
use lib.ListN.{length}
use borrow.Author.Tests.{eqb-true, eqb-false, eq-eqb, ne_eqb, leb-true, ltb-true, lt-ltb, not-false}
use Rattle.std.proofs.lemmas.Bool.{or_parts}
use Rattle.rank.proofs.Cycle.{count_in}
use Rattle.graph.proofs.Calls.{when_none}
use Rattle.lists.specs.Member.{In}
use Rattle.lists.proofs.Member.{in_map, in_of_map, and_left, and_right}
use Rattle.lists.proofs.Filter.{in_filter, filter_in, filter_same}
use Rattle.lists.proofs.Find.{find_in, find_none}
use Rattle.rank.specs.Order.{upto}
use Rattle.node.specs.declared.record.NodeId.{NodeId}
use Rattle.node.specs.declared.record.VoiceId.{VoiceId}
use Rattle.node.specs.declared.record.Node.{Node}
use Rattle.node.specs.declared.refusal.Refusal.{Refusal}
use Rattle.node.specs.declared.refusal.Refusal.TheVariants.{UnknownNode}
use Rattle.graph.specs.Change as change
use Rattle.graph.specs.Node.{is_node, node_at, noise_of}
use Rattle.graph.specs.Refuse.{add_refusal, host_refusal, disconnect_refusal, connect_refusal}
use Rattle.scheduler.specs.declared.event.Event.{Event}
use Rattle.scheduler.specs.Event.{param_order}
use Rattle.voice.specs.declared.policy.BudgetScope.TheVariants.{PerGroup}
use Rattle.store.specs.declared.config.Config.{Config}
use Rattle.voice.specs.declared.voices.Voice.{Voice}
use Rattle.voice.specs.Voice.{id, is_voice, is_on}
use Rattle.model.specs.Refuse.{report_refusal, reports, of_definition}
use Rattle.model.specs.Order.{order}
use Rattle.model.specs.Spawn.{Spawn, pans}
use Rattle.model.specs.Render.{is_free, is_sounding, due, render_refusal}
use Rattle.model.specs.Call.{Call}
use Rattle.model.specs.Call as call
use Rattle.model.proofs.Refused.{refusal_in}
use Rattle.ledger.specs.Holder.{Holder, nobody, voice, by_host, hold}
use Rattle.ledger.specs.Holder as holder
use Rattle.ledger.specs.Ledger.{Ledger, SpawnResult, at_shared, freed, free, spawn_managed, spawn_loose}
use Rattle.ledger.specs.Render.{rested, render}
use Rattle.ledger.specs.Call.{step, graph_step}
use Rattle.ledger.specs.Call as steps
use Rattle.ledger.proofs.Ids.{Ids, once, unique, above, same_id}
use Rattle.ledger.proofs.Managed.{config_step}
use Rattle.isolation.specs.Story.{Entry, if_done, if?, is_bus, ports_at, held_by, lost_if, on_bus, voice_of, owner_voice, meets, timed_frees, entry, write, story}
use Rattle.isolation.specs.Story as story
use Rattle.isolation.specs.Isolated.{Covered, AgreedStories}
use Rattle.isolation.proofs.Cover.{full_in, not_full}
use Rattle.isolation.specs.Agree.{Pair, Matching, SameNode, SameVoice, OneToOne, accepted, on_it, feeds, is_call_of, freed_by_events, EachVoice, let_in, Arrive, Equal, Agree}
use Rattle.isolation.specs.Agree as agree
use Rattle.isolation.proofs.Bus.{Own, empty, mine, BusPorts, Bus, port_count, follow}
use Rattle.isolation.proofs.Bus as bus
use Rattle.isolation.proofs.Part.{seat_for, seat_of, own_of, ports_now, bus_of, Tidy, ports_at_lem}
use Rattle.isolation.proofs.Logged.{noise_of_lem}
use Rattle.isolation.proofs.Others.{is_node_lem}
use Rattle.isolation.proofs.Follows.{Follow, Goes, goes, tidy_new, bus_new}
use Rattle.isolation.proofs.Kin.{Kin, kin_self, AfterSpawn, New, managed_spawned, loose_spawned, Stays, Brings, stays}

-- ---- tests
taken_none : (o : Option Refusal) → accepted o ≡ true → o ≡ None
taken_none None e = refl
taken_none (Some r) e = absurd (false≢true e)

-- ---- what is no call of the bus leaves no entry
module _ (b : NodeId) (l : Ledger) where
  done_none : (o : Option Refusal) (en : Option Entry) (c : Bool) → (accepted o && c) ≡ false → (c ≡ false → en ≡ None) → if_done o en ≡ None
  done_none (Some r) en c e f = refl
  done_none None en c e f = f e

  if_none : (c : Bool) (e : Entry) → c ≡ false → if? c e ≡ None
  if_none true e h = absurd (true≢false h)
  if_none false e h = refl

  bus_none : (f : Voice → Entry) (o : Option Voice) → on_it b o ≡ false → on_bus b f o ≡ None
  bus_none f None h = refl
  bus_none f (Some v) h = if_none (is_on b v) (f v) h

  held_none : (k : NodeId) → feeds b k l ≡ false → lost_if (held_by b k l) ≡ None
  held_none k h = go (held_by b k l) refl
    where
      by : ℕ → Bool
      by p = by_host k (l.holders b.0 p)

      nobody_there : (o : Option ℕ) → find by (upto (ports_at b l)) ≡ o → is_some o ≡ false → (p : ℕ) → In p (upto (ports_at b l)) → by p ≡ false
      nobody_there None e f p i = find_none by (upto (ports_at b l)) p e i
      nobody_there (Some q) e f p i = absurd (true≢false f)

      go : (ps : List ℕ) → held_by b k l ≡ ps → lost_if ps ≡ None
      go [] e = refl
      go (p ∷ ps) e =
          let r = in_filter by (upto (ports_at b l)) p (subst (In p) (sym e) (inl refl)) in
          absurd (true≢false (sym r.1 ∙ nobody_there (find by (upto (ports_at b l))) refl h p r.0))

  pub no_entry : (x : Call) → is_call_of b x l ≡ false → entry b x l ≡ None
  no_entry (call.add_node kind ports required values glides) h =
      done_none (add_refusal l.shared.graph kind ports required) _ (eqb l.shared.graph.next b.0) h (λ e. if_none (eqb l.shared.graph.next b.0) (story.opened ports) e)
  no_entry (call.remove_node k) h =
      done_none (host_refusal l.shared.graph k) _ (is_bus b k || feeds b k l) h (λ e. let r = or_parts (is_bus b k) (feeds b k l) e in ap (λ c. cond c (Some story.closed) (lost_if (held_by b k l))) r.0 ∙ held_none k r.1)
  no_entry (call.connect a k p) h = done_none (connect_refusal l.shared.graph a k p) _ (is_bus b k) h (λ e. if_none (is_bus b k) (story.plugged p) e)
  no_entry (call.disconnect k p) h = done_none (disconnect_refusal l.shared.graph k p) _ (is_bus b k) h (λ e. if_none (is_bus b k) (story.unplugged p) e)
  no_entry (call.set_sink k) h = refl
  no_entry (call.spawn_managed x) h = if_none (is_bus b x.bus) _ h
  no_entry (call.spawn_loose x) h = if_none (is_bus b x.bus) _ h
  no_entry (call.free w) h = bus_none (λ v. story.freed v.sequence) (voice_of w l) h
  no_entry call.clear h = absurd (true≢false h)
  no_entry (call.order w name o) h = refl
  no_entry (call.schedule t w name a) h = refl
  no_entry (call.report k channels samples flag) h =
      done_none (report_refusal l.shared l.voices k channels (length samples)) _ (on_it b (owner_voice (node_at l.shared.graph.nodes k) l)) h (λ e. bus_none _ (owner_voice (node_at l.shared.graph.nodes k) l) e)
  no_entry call.prepare h = refl
  no_entry (call.render out) h = go (render_refusal l.shared (length out)) h
    where
      go : (o : Option Refusal) → accepted o ≡ false → if_done o (Some (story.rendered (timed_frees b (due l.shared) (rested l)) (is_sounding (render l).answer))) ≡ None
      go None h = absurd (true≢false h)
      go (Some r) h = refl
  no_entry (call.ask q) h = refl

  -- and brings nothing to it
  pub brings_none : (x : Call) → is_call_of b x l ≡ false → Brings b x l
  brings_none (call.add_node kind ports required values glides) h = tt
  brings_none (call.remove_node k) h = tt
  brings_none (call.connect a k p) h = h
  brings_none (call.disconnect k p) h = tt
  brings_none (call.set_sink k) h = tt
  brings_none (call.spawn_managed x) h = h
  brings_none (call.spawn_loose x) h = h
  brings_none (call.free w) h = tt
  brings_none call.clear h = tt
  brings_none (call.order w name o) h = tt
  brings_none (call.schedule t w name a) h = tt
  brings_none (call.report k channels samples flag) h = tt
  brings_none call.prepare h = tt
  brings_none (call.render out) h = tt
  brings_none (call.ask q) h = tt

  -- ---- what is one leaves an entry
  done_some : (o : Option Refusal) (en : Option Entry) (c : Bool) → (accepted o && c) ≡ true → if_done o en ≡ en
  done_some None en c e = refl
  done_some (Some r) en c e = absurd (false≢true e)

  pub its_own : (o : Option Refusal) (c : Bool) (e : Entry) → (accepted o && c) ≡ true → if_done o (if? c e) ≡ Some e
  its_own o c e h = done_some o (if? c e) c h ∙ ap (λ d. if? d e) (and_right (accepted o) c h)

-- the voice of the bus that a call names
pub on_bus_lem : (b : NodeId) (o : Option Voice) → on_it b o ≡ true → (v : Voice) × (o ≡ Some v) × (is_on b v ≡ true)
on_bus_lem b None h = absurd (false≢true h)
on_bus_lem b (Some v) h = (v, refl, h)

-- ---- the events of a render: the numbers that the story has are those of the voices that the events free
abbrev number_or : Option Voice → ℕ
number_or None = 0
number_or (Some v) = v.sequence

abbrev number_in : List Voice → VoiceId → ℕ
number_in vs w = number_or (find (is_voice w) vs)

module _ (b : NodeId) {n : ℕ} (vs : List Voice) (ids : Ids n vs) where
  abbrev Among : Ledger → Type 0
  Among l = (v : Voice) → In v l.voices → In v vs

  found : (l : Ledger) → Among l → (w : VoiceId) (v : Voice) → voice_of w l ≡ Some v → find (is_voice w) vs ≡ Some v
  found l sub w v e = let r = find_in (is_voice w) l.voices v e in once ids w v (sub v r.0) r.1

  among_free : (l : Ledger) → Among l → (w : VoiceId) → Among (free w l)
  among_free l sub w = go (find (is_voice w) l.voices)
    where
      go : (o : Option Voice) → Among (freed o l)
      go None = sub
      go (Some v) = λ u i. sub u (in_filter (λ x. not (is_voice v.id x)) l.voices u i).0

  -- the story's numbers, and that each freed voice is one of the bus
  pub numbered : (q : List Event) (l : Ledger) → Among l → timed_frees b q l ≡ map (number_in vs) (freed_by_events b q l)
  numbered [] l sub = refl
  numbered (e ∷ q) l sub = go (is_free e.action) (numbered q)
    where
      changed : Ledger
      changed = at_shared l (order e.voice (param_order e).name (param_order e).order l.voices l.shared).shared

      after : Bool → Ledger
      after c = cond c (free e.voice l) changed

      meet : (rest : List ℕ) (more : List VoiceId) → rest ≡ map (number_in vs) more → (o : Option Voice) → voice_of e.voice l ≡ o
          → meets b o rest ≡ map (number_in vs) (cond (on_it b o) (e.voice ∷ more) more)
      meet rest more h None f = h
      meet rest more h (Some v) f = on (is_on b v)
        where
          on : (c : Bool) → cond c (v.sequence ∷ rest) rest ≡ map (number_in vs) (cond c (e.voice ∷ more) more)
          on true = ap₂ (λ x l. x ∷ l) (sym (ap number_or (found l sub e.voice v f))) h
          on false = h

      go : (c : Bool) → ((l : Ledger) → Among l → timed_frees b q l ≡ map (number_in vs) (freed_by_events b q l))
          → cond c (meets b (voice_of e.voice l) (timed_frees b q (after c))) (timed_frees b q (after c))
          ≡ map (number_in vs) (cond (c && on_it b (voice_of e.voice l)) (e.voice ∷ freed_by_events b q (after c)) (freed_by_events b q (after c)))
      go true ih = meet (timed_frees b q (free e.voice l)) (freed_by_events b q (free e.voice l)) (ih (free e.voice l) (among_free l sub e.voice)) (voice_of e.voice l) refl
      go false ih = ih changed sub

  pub freed_on : (q : List Event) (l : Ledger) → Among l → (w : VoiceId) → In w (freed_by_events b q l) → (v : Voice) × (find (is_voice w) vs ≡ Some v) × (is_on b v ≡ true)
  freed_on [] l sub w i = absurd i
  freed_on (e ∷ q) l sub w i = go (is_free e.action) (freed_on q) i
    where
      changed : Ledger
      changed = at_shared l (order e.voice (param_order e).name (param_order e).order l.voices l.shared).shared

      after : Bool → Ledger
      after c = cond c (free e.voice l) changed

      pick : (more : List VoiceId) → (In w more → (v : Voice) × (find (is_voice w) vs ≡ Some v) × (is_on b v ≡ true)) → (o : Option Voice) → voice_of e.voice l ≡ o
          → In w (cond (on_it b o) (e.voice ∷ more) more) → (v : Voice) × (find (is_voice w) vs ≡ Some v) × (is_on b v ≡ true)
      pick more ih None f i = ih i
      pick more ih (Some v) f i = on (is_on b v) refl i
        where
          on : (c : Bool) → is_on b v ≡ c → In w (cond c (e.voice ∷ more) more) → (v : Voice) × (find (is_voice w) vs ≡ Some v) × (is_on b v ≡ true)
          on true h (inl z) = (v, ap (λ x. find (is_voice x) vs) z ∙ found l sub e.voice v f, h)
          on true h (inr j) = ih j
          on false h j = ih j

      go : (c : Bool) → ((l : Ledger) → Among l → (w : VoiceId) → In w (freed_by_events b q l) → (v : Voice) × (find (is_voice w) vs ≡ Some v) × (is_on b v ≡ true))
          → In w (cond (c && on_it b (voice_of e.voice l)) (e.voice ∷ freed_by_events b q (after c)) (freed_by_events b q (after c))) → (v : Voice) × (find (is_voice w) vs ≡ Some v) × (is_on b v ≡ true)
      go true ih i = pick (freed_by_events b q (free e.voice l)) (ih (free e.voice l) (among_free l sub e.voice) w) (voice_of e.voice l) refl i
      go false ih i = ih changed sub w i

-- ---- a report: its node is one of a definition
pub record Within (l : Ledger) (b k : NodeId) : Type 0 where
  pub node : Node
  pub at : node_at l.shared.graph.nodes k ≡ Some node
  pub who : Voice
  pub owner : voice_of node.owner l ≡ Some who
  pub on : is_on b who ≡ true
  pub low : who.first.0 ≤ k.0
  pub high : k.0 < who.first.0 + who.count

pub within : (l : Ledger) → Tidy l → (b k : NodeId) (channels n : ℕ)
    → (accepted (report_refusal l.shared l.voices k channels n) && on_it b (owner_voice (node_at l.shared.graph.nodes k) l)) ≡ true → Within l b k
within l t b k channels n h =
    go (node_at l.shared.graph.nodes k) refl (not-false (reports l.voices (node_at l.shared.graph.nodes k)) (when_none (not (reports l.voices (node_at l.shared.graph.nodes k))) UnknownNode _ none_of).0)
    (and_right (accepted (report_refusal l.shared l.voices k channels n)) _ h)
  where
    none_of : report_refusal l.shared l.voices k channels n ≡ None
    none_of = taken_none _ (and_left _ _ h)

    go : (o : Option Node) → node_at l.shared.graph.nodes k ≡ o → reports l.voices o ≡ true → on_it b (owner_voice o l) ≡ true → Within l b k
    go None e r i = absurd (false≢true i)
    go (Some x) e r i = at (voice_of x.owner l) refl r i
      where
        at : (u : Option Voice) → voice_of x.owner l ≡ u → (eqb x.owner.0 0 || of_definition x.id.0 u) ≡ true → on_it b u ≡ true → Within l b k
        at None f r i = absurd (false≢true i)
        at (Some g) f r i =
            let j = find_in (is_voice x.owner) l.voices g f in
            let owns : x.owner.0 ≡ g.id.0 = sym (eqb-true _ _ j.1) in
            let is_k : x.id.0 ≡ k.0 = eqb-true _ _ (find_in (is_node k) l.shared.graph.nodes x e).1 in
            let inside : (leb g.first.0 x.id.0 && ltb x.id.0 (g.first.0 + g.count)) ≡ true =
            ap (λ c. c || of_definition x.id.0 (Some g)) (sym (ne_eqb x.owner.0 0 (λ z. omega (arith, z, owns, above t.own.0 g j.0)))) ∙ r in
            let a : g.first.0 ≤ x.id.0 = leb-true _ _ (and_left _ _ inside) in
            let c : x.id.0 < g.first.0 + g.count = ltb-true _ _ (and_right (leb g.first.0 x.id.0) _ inside) in
            record { node = x; at = e; who = g; owner = f; on = i; low = omega arith; high = omega arith }

-- ---- ids under a matching
abbrev pair : {A : Type 0} → A → A → Pair A
pair a c = record { one = a; two = c }

-- whether two nodes are one
pub matched_by : (m : Matching) → OneToOne m.nodes → (a c x y : NodeId) → SameNode m a c → SameNode m x y → eqb x.0 a.0 ≡ eqb y.0 c.0
matched_by m nodes a c x y e f = go (eqb x.0 a.0) refl
  where
    go : (d : Bool) → eqb x.0 a.0 ≡ d → d ≡ eqb y.0 c.0
    go true h = sym (eq-eqb _ _ (ap (λ (q : NodeId). q.0) (nodes.forth (pair x y) (pair a c) f e (ap (λ n. record { 0 = n }) (eqb-true _ _ h)))))
    go false h = sym (ne_eqb _ _ (λ z. eqb-false _ _ h (ap (λ (q : NodeId). q.0) (nodes.back (pair x y) (pair a c) f e (ap (λ n. record { 0 = n }) z)))))

-- ---- twins
module _ (m : Matching) (nodes : OneToOne m.nodes) (voices : OneToOne m.voices) (b₁ b₂ : NodeId) (buses : SameNode m b₁ b₂) where
  abbrev Paired : Voice → Voice → Type 0
  Paired v w = SameVoice m v.id w.id × ((i : ℕ) → i < v.count → SameNode m (id (v.first.0 + i)) (id (w.first.0 + i)))

  pub record Twins (k l : Ledger) : Type 0 where
    pub tidy₁ : Tidy k
    pub tidy₂ : Tidy l
    pub per₁ : k.shared.config.scope ≡ PerGroup
    pub per₂ : l.shared.config.scope ≡ PerGroup
    pub same : bus_of b₁ k ≡ bus_of b₂ l
    pub paired : (v w : Voice) → In v k.voices → In w l.voices → is_on b₁ v ≡ true → is_on b₂ w ≡ true → v.sequence ≡ w.sequence → Paired v w
    pub hosts : (p : ℕ) (a c : NodeId) → k.holders b₁.0 p ≡ holder.host a → l.holders b₂.0 p ≡ holder.host c → SameNode m a c

  is_voice_lem : (w : VoiceId) (l : Ledger) (v : Voice) → voice_of w l ≡ Some v → v.id ≡ w
  is_voice_lem w l v e = same_id v.id w (eqb-true _ _ (find_in (is_voice w) l.voices v e).1)

  module _ (k l : Ledger) (t : Twins k l) where
    -- each voice of the bus has a twin
    partner : (v : Voice) → In v k.voices → is_on b₁ v ≡ true → (w : Voice) × In w l.voices × (is_on b₂ w ≡ true) × (v.sequence ≡ w.sequence) × (v.count ≡ w.count)
    partner v i on =
        let here : In (own_of k.shared.graph.nodes v) (bus_of b₁ k).voices = in_of_map (own_of k.shared.graph.nodes) (filter (is_on b₁) k.voices) v (filter_in (is_on b₁) k.voices v i on) in
        let r = in_map (own_of l.shared.graph.nodes) (filter (is_on b₂) l.voices) (own_of k.shared.graph.nodes v) (subst (λ (z : Bus). In (own_of k.shared.graph.nodes v) z.voices) t.same here) in
        let j = in_filter (is_on b₂) l.voices r.0 r.1 in
        (r.0, j.0, j.1, ap (λ (z : Own). z.number) r.2, ap (λ (z : Own). z.count) r.2)

    -- matched voices have one number
    same_number : (v w : Voice) → In v k.voices → is_on b₁ v ≡ true → In w l.voices → SameVoice m v.id w.id → v.sequence ≡ w.sequence
    same_number v w i on j e =
        let u = partner v i on in
        let p = (t.paired v u.0 i u.1 on u.2 u.3).0 in
        let z : u.0.id ≡ w.id = voices.forth (pair v.id u.0.id) (pair v.id w.id) p e refl in
        u.3 ∙ ap (λ (x : Voice). x.sequence) (unique t.tidy₂.own.0 u.0 w u.1 j (ap (λ (x : VoiceId). x.0) z))

    same_found : (v w : VoiceId) → SameVoice m v w → (a c : Voice) → voice_of v k ≡ Some a → voice_of w l ≡ Some c → is_on b₁ a ≡ true → a.sequence ≡ c.sequence
    same_found v w e a c f g on =
        same_number a c (find_in (is_voice v) k.voices a f).0 on (find_in (is_voice w) l.voices c g).0
        (subst (λ x. SameVoice m x c.id) (sym (is_voice_lem v k a f)) (subst (SameVoice m v) (sym (is_voice_lem w l c g)) e))

    -- ---- the entries of one call
    abbrev Says : Call → Call → Type 0
    Says x y = (e : Entry) × (entry b₁ x k ≡ Some e) × (entry b₂ y l ≡ Some e)

    says_freed : (v w : VoiceId) → SameVoice m v w → on_it b₁ (voice_of v k) ≡ true → on_it b₂ (voice_of w l) ≡ true → Says (call.free v) (call.free w)
    says_freed v w e h g =
        let a = on_bus_lem b₁ (voice_of v k) h in
        let c = on_bus_lem b₂ (voice_of w l) g in (
          story.freed a.0.sequence,
          ap (on_bus b₁ (λ x. story.freed x.sequence)) a.1 ∙ ap (λ d. if? d (story.freed a.0.sequence)) a.2,
          ap (on_bus b₂ (λ x. story.freed x.sequence)) c.1 ∙ ap₂ (λ d n. if? d (story.freed n)) c.2 (sym (same_found v w e a.0 c.0 a.1 c.1 a.2)),
        )

    says_reported : (a c : NodeId) (channels : ℕ) (samples : List Float) (flag : Bool) → SameNode m a c
        → is_call_of b₁ (call.report a channels samples flag) k ≡ true → is_call_of b₂ (call.report c channels samples flag) l ≡ true → Says (call.report a channels samples flag) (call.report c channels samples flag)
    says_reported a c channels samples flag e h g =
        let x = within k t.tidy₁ b₁ a channels (length samples) h in
        let y = within l t.tidy₂ b₂ c channels (length samples) g in
        let v = x.who in
        let w = y.who in
        let i = (find_in (is_voice x.node.owner) k.voices v x.owner).0 in
        let j = (find_in (is_voice y.node.owner) l.voices w y.owner).0 in
        let u = partner v i x.on in
        let low = x.low in
        let high = x.high in
        let n : a.0 - v.first.0 < v.count = omega arith in
        let p = (t.paired v u.0 i u.1 x.on u.2 u.3).1 (a.0 - v.first.0) n in
        let back : v.first.0 + (a.0 - v.first.0) ≡ a.0 = omega arith in
        let z : u.0.first.0 + (a.0 - v.first.0) ≡ c.0 = ap (λ (q : NodeId). q.0) (nodes.forth (pair (id (v.first.0 + (a.0 - v.first.0))) (id (u.0.first.0 + (a.0 - v.first.0)))) (pair a c) p e (ap id back)) in
        let r = find_in (is_node c) l.shared.graph.nodes y.node y.at in
        let is_c : y.node.id.0 ≡ c.0 = eqb-true _ _ r.1 in
        let many : v.count ≡ u.0.count = u.4 in
        let in₁ : u.0.first.0 ≤ y.node.id.0 = omega arith in
        let in₂ : y.node.id.0 < u.0.first.0 + u.0.count = omega arith in
        let own : y.node.owner.0 ≡ u.0.id.0 = t.tidy₂.own.1.owned u.0 u.1 y.node r.0 in₁ in₂ in
        let who : w.id.0 ≡ u.0.id.0 = eqb-true _ _ (find_in (is_voice y.node.owner) l.voices w y.owner).1 ∙ own in
        let one : w ≡ u.0 = unique t.tidy₂.own.0 w u.0 j u.1 who in
        let first : w.first.0 ≡ u.0.first.0 = ap (λ (q : Voice). q.first.0) one in
        let place : c.0 - w.first.0 ≡ a.0 - v.first.0 = omega arith in
        let number : w.sequence ≡ v.sequence = ap (λ (q : Voice). q.sequence) one ∙ sym u.3 in (
          story.reported v.sequence (a.0 - v.first.0) samples flag,
          heard b₁ k a channels samples flag h x.node x.at v x.owner x.on,
          heard b₂ l c channels samples flag g y.node y.at w y.owner y.on ∙ ap₂ (λ s i. Some (story.reported s i samples flag)) number place,
        )
      where
        heard : (b : NodeId) (l : Ledger) (k : NodeId) (channels : ℕ) (samples : List Float) (flag : Bool) → is_call_of b (call.report k channels samples flag) l ≡ true
            → (x : Node) → node_at l.shared.graph.nodes k ≡ Some x → (v : Voice) → voice_of x.owner l ≡ Some v → is_on b v ≡ true
            → entry b (call.report k channels samples flag) l ≡ Some (story.reported v.sequence (k.0 - v.first.0) samples flag)
        heard b l k channels samples flag h x at v owner on =
            done_some b l (report_refusal l.shared l.voices k channels (length samples)) _ (on_it b (owner_voice (node_at l.shared.graph.nodes k) l)) h
            ∙ ap (λ o. on_bus b (λ v. story.reported v.sequence (k.0 - v.first.0) samples flag) (owner_voice o l)) at
            ∙ ap (on_bus b (λ v. story.reported v.sequence (k.0 - v.first.0) samples flag)) owner
            ∙ ap (λ c. if? c (story.reported v.sequence (k.0 - v.first.0) samples flag)) on

    -- ---- its sources
    same_seat : (p : ℕ) → p < port_count (ports_now b₁ k.shared.graph.nodes) → seat_of k.voices (k.holders b₁.0 p) ≡ seat_of l.voices (l.holders b₂.0 p)
    same_seat p h =
        let q : p < port_count (ports_now b₂ l.shared.graph.nodes) = subst (λ (z : Bus). p < port_count z.ports) t.same h in
        sym (ap (λ c. cond c (seat_of k.voices (k.holders b₁.0 p)) empty) (lt-ltb _ _ h)) ∙ ap (λ (z : Bus). z.seats p) t.same ∙ ap (λ c. cond c (seat_of l.voices (l.holders b₂.0 p)) empty) (lt-ltb _ _ q)

    -- a holder that is a voice is one of the bus's, so that its seat is no host's
    voice_seat : (l : Ledger) → Tidy l → (n p : ℕ) (w : VoiceId) → l.holders n p ≡ voice w → (v : Voice) × (seat_of l.voices (voice w) ≡ mine v.sequence)
    voice_seat l u n p w e = let s = u.seated n p w e in (s.who, ap seat_for (once u.own.0 w s.who s.lives (eq-eqb _ _ s.is)))

    held_same : (a c : NodeId) → SameNode m a c → (p : ℕ) → p < port_count (ports_now b₁ k.shared.graph.nodes) → by_host a (k.holders b₁.0 p) ≡ by_host c (l.holders b₂.0 p)
    held_same a c e p h = go (k.holders b₁.0 p) refl (l.holders b₂.0 p) refl (same_seat p h)
      where
        go : (x : Holder) → k.holders b₁.0 p ≡ x → (y : Holder) → l.holders b₂.0 p ≡ y → seat_of k.voices x ≡ seat_of l.voices y → by_host a x ≡ by_host c y
        go nobody f nobody g s = refl
        go nobody f (holder.host j) g s = let z : ◌≡◌ {A = ℕ} 0 1 = cc in absurd (omega arith)
        go nobody f (voice w) g s = refl
        go (holder.host i) f nobody g s = let z : ◌≡◌ {A = ℕ} 0 1 = cc in absurd (omega arith)
        go (holder.host i) f (holder.host j) g s = matched_by m nodes a c i j e (t.hosts p i j f g)
        go (holder.host i) f (voice w) g s = absurd (host_mine (s ∙ (voice_seat l t.tidy₂ b₂.0 p w g).1))
          where
            host_mine : {s : ℕ} → bus.host ≡ mine s → ⊥
            host_mine q = let z : ◌≡◌ {A = ℕ} 0 1 = cc in omega arith
        go (voice w) f nobody g s = refl
        go (voice w) f (holder.host j) g s = absurd (mine_host (sym (voice_seat k t.tidy₁ b₁.0 p w f).1 ∙ s))
          where
            mine_host : {s : ℕ} → mine s ≡ bus.host → ⊥
            mine_host q = let z : ◌≡◌ {A = ℕ} 0 1 = cc in omega arith
        go (voice w) f (voice u) g s = refl

    same_held : (a c : NodeId) → SameNode m a c → held_by b₁ a k ≡ held_by b₂ c l
    same_held a c e =
        let n = ports_at_lem (node_at k.shared.graph.nodes b₁) in
        let o = ports_at_lem (node_at l.shared.graph.nodes b₂) in
        let s : ports_at b₁ k ≡ ports_at b₂ l = n ∙ ap (λ (z : Bus). port_count z.ports) t.same ∙ sym o in
        filter_same (λ p. by_host a (k.holders b₁.0 p)) (λ p. by_host c (l.holders b₂.0 p)) (upto (ports_at b₁ k)) (λ p i. held_same a c e p (let r = (count_in (ports_at b₁ k) 0 p i).1 in omega arith))
        ∙ ap (λ n. filter (λ p. by_host c (l.holders b₂.0 p)) (upto n)) s

    says_removed : (a c : NodeId) → SameNode m a c → is_call_of b₁ (call.remove_node a) k ≡ true → is_call_of b₂ (call.remove_node c) l ≡ true → Says (call.remove_node a) (call.remove_node c)
    says_removed a c e h g =
        let one = done_some b₁ k (host_refusal k.shared.graph a) (cond (is_bus b₁ a) (Some story.closed) (lost_if (held_by b₁ a k))) (is_bus b₁ a || feeds b₁ a k) h in
        let two = done_some b₂ l (host_refusal l.shared.graph c) (cond (is_bus b₂ c) (Some story.closed) (lost_if (held_by b₂ c l))) (is_bus b₂ c || feeds b₂ c l) g in
        let same : cond (is_bus b₂ c) (Some story.closed) (lost_if (held_by b₂ c l)) ≡ cond (is_bus b₁ a) (Some story.closed) (lost_if (held_by b₁ a k)) =
        ap₂ (λ d ps. cond d (Some story.closed) (lost_if ps)) (sym (matched_by m nodes b₁ b₂ a c buses e)) (sym (same_held a c e)) in
        let r = told (is_bus b₁ a) (and_right (accepted (host_refusal k.shared.graph a)) _ h) in
        (r.0, one ∙ r.1, two ∙ same ∙ r.1)
      where
        some_held : feeds b₁ a k ≡ true → (e : Entry) × (lost_if (held_by b₁ a k) ≡ Some e)
        some_held f = go (held_by b₁ a k) refl
          where
            by : ℕ → Bool
            by p = by_host a (k.holders b₁.0 p)

            there : (o : Option ℕ) → find by (upto (ports_at b₁ k)) ≡ o → is_some o ≡ true → (p : ℕ) × In p (held_by b₁ a k)
            there None q f = absurd (false≢true f)
            there (Some p) q f = let r = find_in by (upto (ports_at b₁ k)) p q in (p, filter_in by (upto (ports_at b₁ k)) p r.0 r.1)

            go : (ps : List ℕ) → held_by b₁ a k ≡ ps → (e : Entry) × (lost_if ps ≡ Some e)
            go [] q = absurd (let r = there (find by (upto (ports_at b₁ k))) refl f in subst (In r.0) q r.1)
            go (p ∷ ps) q = (story.lost (p ∷ ps), refl)

        told : (d : Bool) → (d || feeds b₁ a k) ≡ true → (e : Entry) × (cond d (Some story.closed) (lost_if (held_by b₁ a k)) ≡ Some e)
        told true f = (story.closed, refl)
        told false f = some_held f

    -- ---- a render
    numbers_same : (vs ws : List VoiceId) → EachVoice m vs ws → ((v : VoiceId) → In v vs → (a : Voice) × (find (is_voice v) k.voices ≡ Some a) × (is_on b₁ a ≡ true))
        → ((w : VoiceId) → In w ws → (c : Voice) × (find (is_voice w) l.voices ≡ Some c) × (is_on b₂ c ≡ true)) → map (number_in k.voices) vs ≡ map (number_in l.voices) ws
    numbers_same [] [] e f g = refl
    numbers_same [] (w ∷ ws) e f g = absurd e
    numbers_same (v ∷ vs) [] e f g = absurd e
    numbers_same (v ∷ vs) (w ∷ ws) e f g =
        let a = f v (inl refl) in
        let c = g w (inl refl) in
        ap₂ (λ x l. x ∷ l) (ap number_or a.1 ∙ same_found v w e.0 a.0 c.0 a.1 c.1 a.2 ∙ sym (ap number_or c.1)) (numbers_same vs ws e.1 (λ x i. f x (inr i)) (λ x i. g x (inr i)))

    says_rendered : (o p : List ℕ) → EachVoice m (freed_by_events b₁ (due k.shared) (rested k)) (freed_by_events b₂ (due l.shared) (rested l)) → is_sounding (render k).answer ≡ is_sounding (render l).answer
        → accepted (render_refusal k.shared (length o)) ≡ true → accepted (render_refusal l.shared (length p)) ≡ true → Says (call.render o) (call.render p)
    says_rendered o p e s h g =
        let one = numbered b₁ k.voices t.tidy₁.own.0 (due k.shared) (rested k) (λ v i. i) in
        let two = numbered b₂ l.voices t.tidy₂.own.0 (due l.shared) (rested l) (λ v i. i) in
        let same = numbers_same (freed_by_events b₁ (due k.shared) (rested k)) (freed_by_events b₂ (due l.shared) (rested l)) e
        (freed_on b₁ k.voices t.tidy₁.own.0 (due k.shared) (rested k) (λ v i. i)) (freed_on b₂ l.voices t.tidy₂.own.0 (due l.shared) (rested l) (λ v i. i)) in (
          story.rendered (timed_frees b₁ (due k.shared) (rested k)) (is_sounding (render k).answer),
          ap (λ q. if_done q (Some (story.rendered (timed_frees b₁ (due k.shared) (rested k)) (is_sounding (render k).answer)))) (taken_none (render_refusal k.shared (length o)) h),
          ap (λ q. if_done q (Some (story.rendered (timed_frees b₂ (due l.shared) (rested l)) (is_sounding (render l).answer)))) (taken_none (render_refusal l.shared (length p)) g) ∙ ap₂ (λ ns c. Some (story.rendered ns c)) (two ∙ sym same ∙ sym one) (sym s),
        )

    -- ---- every call
    pub says : (x y : Call) → Equal m b₁ b₂ x k y l → is_call_of b₁ x k ≡ true → is_call_of b₂ y l ≡ true → Says x y
    says _ _ (agree.added {kind = kind} {ports = ports} {required = required}) h g = (
      story.opened ports,
      its_own b₁ k (add_refusal k.shared.graph kind ports required) (eqb k.shared.graph.next b₁.0) (story.opened ports) h,
      its_own b₂ l (add_refusal l.shared.graph kind ports required) (eqb l.shared.graph.next b₂.0) (story.opened ports) g,
    )
    says _ _ (agree.removed {a = a} {b = c} e) h g = says_removed a c e h g
    says _ _ (agree.connected {a = a} {b = c} {c = i} {d = j} {p = p} e f) h g =
        (story.plugged p, its_own b₁ k (connect_refusal k.shared.graph a i p) (is_bus b₁ i) (story.plugged p) h, its_own b₂ l (connect_refusal l.shared.graph c j p) (is_bus b₂ j) (story.plugged p) g)
    says _ _ (agree.disconnected {a = a} {b = c} {p = p} e) h g =
        (story.unplugged p, its_own b₁ k (disconnect_refusal k.shared.graph a p) (is_bus b₁ a) (story.unplugged p) h, its_own b₂ l (disconnect_refusal l.shared.graph c p) (is_bus b₂ c) (story.unplugged p) g)
    says _ _ (agree.managed {x = x} {y = y} e a) h g = (
      story.managed x.def (pans x.pan) x.rank,
      ap (λ c. if? c (story.managed x.def (pans x.pan) x.rank)) h,
      ap (λ c. if? c (story.managed y.def (pans y.pan) y.rank)) g ∙ sym (ap₂ (λ d p. Some (story.managed d (pans p) x.rank)) e.def e.pan ∙ ap (λ r. Some (story.managed y.def (pans y.pan) r)) e.rank),
    )
    says _ _ (agree.loose {x = x} {y = y} e a) h g = (
      story.loose x.def (pans x.pan) x.rank,
      ap (λ c. if? c (story.loose x.def (pans x.pan) x.rank)) h,
      ap (λ c. if? c (story.loose y.def (pans y.pan) y.rank)) g ∙ sym (ap₂ (λ d p. Some (story.loose d (pans p) x.rank)) e.def e.pan ∙ ap (λ r. Some (story.loose y.def (pans y.pan) r)) e.rank),
    )
    says _ _ (agree.freed {v = v} {w = w} e) h g = says_freed v w e h g
    says _ _ (agree.reported {a = a} {b = c} {channels = channels} {samples = samples} {flag = flag} e) h g = says_reported a c channels samples flag e h g
    says _ _ agree.cleared h g = (story.cleared, refl, refl)
    says _ _ (agree.rendered {o = o} {p = p} e s) h g = says_rendered o p e s h g

    -- ---- twins stay twins
    -- voices that were there and ports that were held
    old_pairs : {k' l' : Ledger} → Stays b₁ k k' → Stays b₂ l l' → (v w : Voice) → In v k'.voices → In w l'.voices → is_on b₁ v ≡ true → is_on b₂ w ≡ true → v.sequence ≡ w.sequence → Paired v w
    old_pairs p q v w i j on off e = kin_pairs v w (p.kin v i on) (q.kin w j off) on off e
      where
        kin_pairs : (v w : Voice) → Kin k.voices v → Kin l.voices w → is_on b₁ v ≡ true → is_on b₂ w ≡ true → v.sequence ≡ w.sequence → Paired v w
        kin_pairs v w x y on off e =
            let r = t.paired x.was y.was x.member y.member (ap (λ (z : NodeId). eqb z.0 b₁.0) (sym x.bus) ∙ on) (ap (λ (z : NodeId). eqb z.0 b₂.0) (sym y.bus) ∙ off) (sym x.number ∙ e ∙ y.number) in (
              subst (λ a. SameVoice m a w.id) (sym x.id) (subst (SameVoice m x.was.id) (sym y.id) r.0),
              λ n h. subst (λ (a : NodeId). SameNode m (id (a.0 + n)) (id (w.first.0 + n))) (sym x.first) (subst (λ (a : NodeId). SameNode m (id (x.was.first.0 + n)) (id (a.0 + n))) (sym y.first) (r.1 n (subst (λ c. n < c) x.count h))),
            )

    old_hosts : {k' l' : Ledger} → Stays b₁ k k' → Stays b₂ l l' → (p : ℕ) (a c : NodeId) → k'.holders b₁.0 p ≡ holder.host a → l'.holders b₂.0 p ≡ holder.host c → SameNode m a c
    old_hosts p q n a c e f = t.hosts n a c (p.hosts n a e) (q.hosts n c f)

    -- a call of one side alone; the other ledger stays
    same_ledger : (b : NodeId) (l : Ledger) → Stays b l l
    same_ledger b l = record { kin = λ v i on. kin_self l.voices v i; hosts = λ p a e. e }

    scope_stays : (x : Call) (l : Ledger) → Tidy l → l.shared.config.scope ≡ PerGroup → (step x l).ledger.shared.config.scope ≡ PerGroup
    scope_stays x l u per = ap (λ (c : Config). c.scope) (config_step x l u.own.0) ∙ per

    untouched : (b : NodeId) (x : Call) (l : Ledger) → is_call_of b x l ≡ false → Goes b (entry b x l) (step x l) l → bus_of b (step x l).ledger ≡ bus_of b l
    untouched b x l h g = subst (λ o. Follow o (step x l).answer (bus_of b (step x l).ledger) (bus_of b l)) (no_entry b l x h) g.follows

    pub first_alone : (x : Call) → is_call_of b₁ x k ≡ false → full_in (refusal_in (step x k).answer) ≡ false → Twins (step x k).ledger l
    first_alone x h c =
        let g = goes x k t.tidy₁ t.per₁ c b₁ in
        let s = stays b₁ k t.tidy₁ t.per₁ x (brings_none b₁ k x h) in
        record {
          tidy₁ = g.tidy;
          tidy₂ = t.tidy₂;
          per₁ = scope_stays x k t.tidy₁ t.per₁;
          per₂ = t.per₂;
          same = untouched b₁ x k h g ∙ t.same;
          paired = old_pairs s (same_ledger b₂ l);
          hosts = old_hosts s (same_ledger b₂ l);
        }

    pub second_alone : (y : Call) → is_call_of b₂ y l ≡ false → full_in (refusal_in (step y l).answer) ≡ false → Twins k (step y l).ledger
    second_alone y h c =
        let g = goes y l t.tidy₂ t.per₂ c b₂ in
        let s = stays b₂ l t.tidy₂ t.per₂ y (brings_none b₂ l y h) in
        record {
          tidy₁ = t.tidy₁;
          tidy₂ = g.tidy;
          per₁ = t.per₁;
          per₂ = scope_stays y l t.tidy₂ t.per₂;
          same = t.same ∙ sym (untouched b₂ y l h g);
          paired = old_pairs (same_ledger b₁ k) s;
          hosts = old_hosts (same_ledger b₁ k) s;
        }

    -- ---- a call of both
    followed : (b : NodeId) (x : Call) (l : Ledger) (e : Entry) → entry b x l ≡ Some e → Goes b (entry b x l) (step x l) l → bus_of b (step x l).ledger ≡ (follow e (bus_of b l)).bus
    followed b x l e f g = ap (λ (r : bus.SpawnResult). r.bus) (subst (λ o. Follow o (step x l).answer (bus_of b (step x l).ledger) (bus_of b l)) f g.follows)

    module _ (x y : Call) (c₁ : full_in (refusal_in (step x k).answer) ≡ false) (c₂ : full_in (refusal_in (step y l).answer) ≡ false) (s : Says x y) where
      go₁ : Goes b₁ (entry b₁ x k) (step x k) k
      go₁ = goes x k t.tidy₁ t.per₁ c₁ b₁

      go₂ : Goes b₂ (entry b₂ y l) (step y l) l
      go₂ = goes y l t.tidy₂ t.per₂ c₂ b₂

      both_twins : ((v w : Voice) → In v (step x k).ledger.voices → In w (step y l).ledger.voices → is_on b₁ v ≡ true → is_on b₂ w ≡ true → v.sequence ≡ w.sequence → Paired v w)
          → ((p : ℕ) (a c : NodeId) → (step x k).ledger.holders b₁.0 p ≡ holder.host a → (step y l).ledger.holders b₂.0 p ≡ holder.host c → SameNode m a c) → Twins (step x k).ledger (step y l).ledger
      both_twins p h =
          record {
            tidy₁ = go₁.tidy;
            tidy₂ = go₂.tidy;
            per₁ = scope_stays x k t.tidy₁ t.per₁;
            per₂ = scope_stays y l t.tidy₂ t.per₂;
            same = followed b₁ x k s.0 s.1 go₁ ∙ ap (λ z. (follow s.0 z).bus) t.same ∙ sym (followed b₂ y l s.0 s.2 go₂);
            paired = p;
            hosts = h;
          }

      -- what brings nothing
      quiet_twins : Brings b₁ x k → Brings b₂ y l → Twins (step x k).ledger (step y l).ledger
      quiet_twins p q =
          let a = stays b₁ k t.tidy₁ t.per₁ x p in
          let c = stays b₂ l t.tidy₂ t.per₂ y q in
          both_twins (old_pairs a c) (old_hosts a c)

    -- the voice let in, where there is one
    arrived_is : (r : SpawnResult) → Tidy r.ledger → (v : Voice) → In v r.ledger.voices → r.answer ≡ Ok v.id → let_in r ≡ Some v
    arrived_is r u v i e = ap (λ a. agree.arrived a r.ledger) e ∙ once u.own.0 v.id v i (eq-eqb v.id.0 v.id.0 refl)

    -- an old voice's number is below that of a new one
    below_new : (l : Ledger) → Tidy l → (b : NodeId) (u : Voice) → In u l.voices → is_on b u ≡ true → (r : BusPorts) → ports_now b l.shared.graph.nodes ≡ Some r → u.sequence ≡ r.noise → ⊥
    below_new l d b u i on r e f =
        let n = is_node_lem (node_at l.shared.graph.nodes b) r e in
        let is : u.bus ≡ b = ap (λ n. record { 0 = n }) (eqb-true _ _ on) in
        let z = ((d.hosted u i).1 n.0 (ap (node_at l.shared.graph.nodes) is ∙ n.1)).1 in
        let w = noise_of_lem (node_at l.shared.graph.nodes b) r e in
        let o : n.0.noise ≡ r.noise = ap (λ q. noise_of q) (sym n.1) ∙ w in
        omega arith

    module _ (x y : Spawn) (on : is_bus b₁ x.bus ≡ true) (off : is_bus b₂ y.bus ≡ true) (r₁ r₂ : SpawnResult) (u₁ : Tidy r₁.ledger) (u₂ : Tidy r₂.ledger) (p : AfterSpawn k x r₁) (q : AfterSpawn l y r₂) (a : Arrive m (let_in r₁) (let_in r₂)) where
      is₁ : x.bus ≡ b₁
      is₁ = ap (λ n. record { 0 = n }) (eqb-true _ _ on)

      is₂ : y.bus ≡ b₂
      is₂ = ap (λ n. record { 0 = n }) (eqb-true _ _ off)

      room_on : (l : Ledger) (z : Spawn) (b : NodeId) → z.bus ≡ b → (r : SpawnResult) (v : Voice) (n : New l z r v) → ports_now b l.shared.graph.nodes ≡ Some n.room
      room_on l z b e r v n = ap (λ c. ports_now c l.shared.graph.nodes) (sym e) ∙ n.ports

      spawn_pairs : (v w : Voice) → In v r₁.ledger.voices → In w r₂.ledger.voices → is_on b₁ v ≡ true → is_on b₂ w ≡ true → v.sequence ≡ w.sequence → Paired v w
      spawn_pairs v w i j at of e = ⊎_elim (λ c. ⊎_elim (λ d. old c d) (λ d. absurd (old_new c d)) (q.kin w j)) (λ c. ⊎_elim (λ d. absurd (new_old c d)) (λ d. new c d) (q.kin w j)) (p.kin v i)
        where
          old : Kin k.voices v → Kin l.voices w → Paired v w
          old c d =
              let r = t.paired c.was d.was c.member d.member (ap (λ (z : NodeId). eqb z.0 b₁.0) (sym c.bus) ∙ at) (ap (λ (z : NodeId). eqb z.0 b₂.0) (sym d.bus) ∙ of) (sym c.number ∙ e ∙ d.number) in (
                subst (λ z. SameVoice m z w.id) (sym c.id) (subst (SameVoice m c.was.id) (sym d.id) r.0),
                λ n h. subst (λ (z : NodeId). SameNode m (id (z.0 + n)) (id (w.first.0 + n))) (sym c.first) (subst (λ (z : NodeId). SameNode m (id (c.was.first.0 + n)) (id (z.0 + n))) (sym d.first) (r.1 n (subst (λ z. n < z) c.count h))),
              )

          old_new : Kin k.voices v → New l y r₂ w → ⊥
          old_new c d =
              below_new k t.tidy₁ b₁ c.was c.member (ap (λ (z : NodeId). eqb z.0 b₁.0) (sym c.bus) ∙ at) d.room
              (ap (λ (z : Bus). z.ports) t.same ∙ room_on l y b₂ is₂ r₂ w d) (sym c.number ∙ e ∙ d.number)

          new_old : New k x r₁ v → Kin l.voices w → ⊥
          new_old c d =
              below_new l t.tidy₂ b₂ d.was d.member (ap (λ (z : NodeId). eqb z.0 b₂.0) (sym d.bus) ∙ of) c.room
              (sym (ap (λ (z : Bus). z.ports) t.same) ∙ room_on k x b₁ is₁ r₁ v c) (sym d.number ∙ sym e ∙ c.number)

          new : New k x r₁ v → New l y r₂ w → Paired v w
          new c d = subst (Arrive m (Some v)) (arrived_is r₂ u₂ w j d.named) (subst (λ o. Arrive m o (let_in r₂)) (arrived_is r₁ u₁ v i c.named) a)

    -- a source is connected to one port of both
    connected_hosts : (a c i j : NodeId) (p : ℕ) → SameNode m a c → (accepted (connect_refusal k.shared.graph a i p) && is_bus b₁ i) ≡ true → (accepted (connect_refusal l.shared.graph c j p) && is_bus b₂ j) ≡ true
        → (q : ℕ) (f g : NodeId) → (step (call.connect a i p) k).ledger.holders b₁.0 q ≡ holder.host f → (step (call.connect c j p) l).ledger.holders b₂.0 q ≡ holder.host g → SameNode m f g
    connected_hosts a c i j p e h n q f g x y =
        go (eqb q p) (sym (held b₁ k a i p h q) ∙ x) (sym (held b₂ l c j p n q) ∙ y)
      where
        held : (b : NodeId) (l : Ledger) (a i : NodeId) (p : ℕ) → (accepted (connect_refusal l.shared.graph a i p) && is_bus b i) ≡ true → (q : ℕ)
            → (step (call.connect a i p) l).ledger.holders b.0 q ≡ cond (eqb q p) (holder.host a) (l.holders b.0 q)
        held b l a i p h q =
            ap (λ o. (steps.unless o l (graph_step l (change.connect l.shared.graph a i p) (hold i p (holder.host a) l.holders) call.done)).ledger.holders b.0 q) (taken_none (connect_refusal l.shared.graph a i p) (and_left (accepted (connect_refusal l.shared.graph a i p)) (is_bus b i) h))
            ∙ ap (λ d. cond (d && eqb q p) (holder.host a) (l.holders b.0 q)) (eq-eqb b.0 i.0 (sym (eqb-true i.0 b.0 (and_right (accepted (connect_refusal l.shared.graph a i p)) (is_bus b i) h))))

        host_inj : {a c : NodeId} → holder.host a ≡ holder.host c → a ≡ c
        host_inj z = cc

        go : (d : Bool) → cond d (holder.host a) (k.holders b₁.0 q) ≡ holder.host f → cond d (holder.host c) (l.holders b₂.0 q) ≡ holder.host g → SameNode m f g
        go true x y = subst (λ z. SameNode m z g) (host_inj x) (subst (SameNode m a) (host_inj y) e)
        go false x y = t.hosts q f g x y

    pub both_go : (x y : Call) → Equal m b₁ b₂ x k y l → is_call_of b₁ x k ≡ true → is_call_of b₂ y l ≡ true → full_in (refusal_in (step x k).answer) ≡ false → full_in (refusal_in (step y l).answer) ≡ false
        → Says x y → Twins (step x k).ledger (step y l).ledger
    both_go _ _ (agree.added {kind = kind} {ports = ports} {required = required} {values = values} {glides = glides}) h g c d s = quiet_twins (call.add_node kind ports required values glides) (call.add_node kind ports required values glides) c d s tt tt
    both_go _ _ (agree.removed {a = a} {b = o} e) h g c d s = quiet_twins (call.remove_node a) (call.remove_node o) c d s tt tt
    both_go _ _ (agree.connected {a = a} {b = o} {c = i} {d = j} {p = p} e f) h g c d s =
        both_twins (call.connect a i p) (call.connect o j p) c d s (λ v w x y. t.paired v w (same_voices k a i p (connect_refusal k.shared.graph a i p) v x) (same_voices l o j p (connect_refusal l.shared.graph o j p) w y))
        (connected_hosts a o i j p e h g)
      where
        same_voices : (l : Ledger) (a i : NodeId) (p : ℕ) (r : Option Refusal) (v : Voice) → In v (steps.unless r l (graph_step l (change.connect l.shared.graph a i p) (hold i p (holder.host a) l.holders) call.done)).ledger.voices → In v l.voices
        same_voices l a i p None v x = x
        same_voices l a i p (Some r) v x = x
    both_go _ _ (agree.disconnected {a = a} {b = o} {p = p} e) h g c d s = quiet_twins (call.disconnect a p) (call.disconnect o p) c d s tt tt
    both_go _ _ (agree.managed {x = x} {y = y} e a) h g c d s =
        let p = managed_spawned k t.tidy₁ x t.per₁ in
        let q = managed_spawned l t.tidy₂ y t.per₂ in
        both_twins (call.spawn_managed x) (call.spawn_managed y) c d s
        (spawn_pairs x y h g (spawn_managed x k) (spawn_managed y l) (go₁ (call.spawn_managed x) (call.spawn_managed y) c d s).tidy (go₂ (call.spawn_managed x) (call.spawn_managed y) c d s).tidy p q a)
        (λ n f i u z. t.hosts n f i (p.hosts b₁.0 n f u) (q.hosts b₂.0 n i z))
    both_go _ _ (agree.loose {x = x} {y = y} e a) h g c d s =
        let p = loose_spawned k t.tidy₁ x in
        let q = loose_spawned l t.tidy₂ y in
        both_twins (call.spawn_loose x) (call.spawn_loose y) c d s
        (spawn_pairs x y h g (spawn_loose x k) (spawn_loose y l) (go₁ (call.spawn_loose x) (call.spawn_loose y) c d s).tidy (go₂ (call.spawn_loose x) (call.spawn_loose y) c d s).tidy p q a)
        (λ n f i u z. t.hosts n f i (p.hosts b₁.0 n f u) (q.hosts b₂.0 n i z))
    both_go _ _ (agree.freed {v = v} {w = w} e) h g c d s = quiet_twins (call.free v) (call.free w) c d s tt tt
    both_go _ _ (agree.reported {a = a} {b = o} {channels = channels} {samples = samples} {flag = flag} e) h g c d s = quiet_twins (call.report a channels samples flag) (call.report o channels samples flag) c d s tt tt
    both_go _ _ agree.cleared h g c d s = quiet_twins call.clear call.clear c d s tt tt
    both_go _ _ (agree.rendered {o = o} {p = p} e z) h g c d s = quiet_twins (call.render o) (call.render p) c d s tt tt

  -- ---- so the stories are equal
  stories : {xs ys : List Call} {k l : Ledger} → Agree m b₁ b₂ xs k ys l → Twins k l → Covered xs k → Covered ys l → story b₁ xs k ≡ story b₂ ys l
  stories agree.ends t c d = refl
  stories (agree.first {x = x} {xs = xs} {k = k} {l = l} h a) t c d =
      ap (λ o. write o (story b₁ xs (step x k).ledger)) (no_entry b₁ k x h) ∙ stories a (first_alone k l t x h (not_full _ (c _ (inl refl)))) (λ n i. c n (inr i)) d
  stories (agree.second {y = y} {ys = ys} {k = k} {l = l} h a) t c d =
      stories a (second_alone k l t y h (not_full _ (d _ (inl refl)))) c (λ n i. d n (inr i)) ∙ sym (ap (λ o. write o (story b₂ ys (step y l).ledger)) (no_entry b₂ l y h))
  stories (agree.both {x = x} {y = y} {xs = xs} {ys = ys} {k = k} {l = l} h g e a) t c d =
      let s = says k l t x y e h g in
      ap (λ o. write o (story b₁ xs (step x k).ledger)) s.1
      ∙ ap (λ r. s.0 ∷ r) (stories a (both_go k l t x y e h g (not_full _ (c _ (inl refl))) (not_full _ (d _ (inl refl))) s) (λ n i. c n (inr i)) (λ n i. d n (inr i)))
      ∙ sym (ap (λ o. write o (story b₂ ys (step y l).ledger)) s.2)

pub agreed : AgreedStories
agreed c per m b₁ b₂ xs₁ xs₂ k₁ k₂ a =
    stories m a.nodes a.voices b₁ b₂ a.bus a.calls
    (record {
      tidy₁ = tidy_new c;
      tidy₂ = tidy_new c;
      per₁ = per;
      per₂ = per;
      same = bus_new b₁ c ∙ sym (bus_new b₂ c);
      paired = λ v w i. absurd i;
      hosts = λ p a c e. let z : ◌≡◌ {A = ℕ} 0 1 = cc in absurd (omega arith);
    }) k₁ k₂
