-- The invariant of a sealed ledger through a managed spawn: the victim's fade, reclaims, and the new voice's instantiation.
use Prim.Native.Nat.{ℕ, suc, ◌+◌, ◌≤◌, ◌<◌}
use native.Mathlib.Omega.{arith}
use native.Mathlib.Decide.{ℕ_discrete}
use native.Mathlib.Nat.{zero-add}
use mathlib.Core.Path.{◌≡◌, refl, sym, ap, ◌∙◌, subst}
use mathlib.Core.Logic.{inl, inr, ⊎_elim}
use mathlib.Core.List.{List, [], ◌∷◌, ◌++◌, map}
use Rattle.std.specs.Prelude.{Option, None, Some, find, option_map}
use mathlib.Core.Bool.{Bool, true, false, not, cond, ◌&&◌, false≢true}
use lib.Dec.{eqb}
use lib.ListN.{length}
use borrow.Author.Tests.{eqb-true, eq-eqb, ne_eqb, not-true}
use Rattle.model.proofs.Grown.{grown_edges}
use Rattle.lists.specs.Member.{In}
use Rattle.lists.proofs.Member.{and_left, and_right, in_snoc, in_map, in_left}
use Rattle.lists.proofs.Filter.{filter_in}
use Rattle.lists.proofs.Find.{find_in}
use Rattle.lists.specs.Count.{more, count}
use Rattle.lists.proofs.Count.{count_filter, count_filter_lt, count_snoc, count_none, count_weaker}
use Rattle.edges.specs.Wiring.{ends_at, drop_at, wired}
use Rattle.edges.specs.Ports.{feeds}
use Rattle.graph.specs.View.{GraphView}
use Rattle.graph.specs.Node.{ports_of, raise_noise, noise_raised}
use Rattle.node.specs.Node.{with_id}
use Rattle.synthdef.specs.Tables.{node_rows}
use Rattle.synthdef.specs.Limits.{allowed}
use Rattle.voice.specs.Voice.{id, is_voice, is_tracked, feeder, with_state, begin_fade}
use Rattle.model.specs.Spawn.{Spawn, pans, Wire, voice_nodes, voice_wires, voice_out, append_all, wire_all, raised, new_voice, next_voice, state_under, tries, fade_node, fade_of}
use Rattle.ledger.specs.Holder.{Holder, Holders, nobody, host, voice, is_held, by_voice, hold}
use Rattle.ledger.proofs.Raised.{raise_same, owner_raised, ports_raised, listed_raised, sound_raised}
use Rattle.ledger.specs.Ledger.{Ledger, lowest_port, port_free, cut_off, stolen, steal_voice, instantiate, place_within_budget, admitted, admission_on}
use Rattle.ledger.proofs.Preserved.{place_kept}
use Rattle.ledger.proofs.Managed.{managed_kept, begin_id}
use Rattle.ledger.proofs.Capacity.{nodes_few, wires_few}
use Rattle.ledger.proofs.Nodes.{wires_same, begin_same}
use Rattle.ledger.proofs.Victim.{next_out_in}
use Rattle.ledger.specs.Claim.{owner_at}
use Rattle.ledger.proofs.Owner.{ports_at, live_below, look_old, owner_old, owner_new, listed_append}
use Rattle.ledger.proofs.Invariant.{Invariant, sound_more, ends_below}
use Rattle.ledger.proofs.Instantiation.{Planted, planted_all, planted_wires}
use Rattle.ledger.proofs.NewVoice.{out_in, wires_in, nodes_owned, nodes_count}
use Rattle.ledger.proofs.Port.{lowest_some, feeds_held}
use Rattle.ledger.proofs.Spawns.{InvariantOf, ids_of_lem, cut_off_lem}
use Rattle.node.specs.declared.record.NodeId.{NodeId}
use Rattle.node.specs.declared.record.VoiceId.{VoiceId}
use Rattle.node.specs.declared.record.Node.{Node}
use Rattle.node.specs.declared.record.Edge.{Edge}
use Rattle.graph.specs.Change as change
use Rattle.synthdef.specs.declared.def.SynthDef.{SynthDef}
use Rattle.voice.specs.declared.voices.Voice.{Voice}
use Rattle.voice.specs.declared.voices.VoiceState.{VoiceState}
use Rattle.voice.specs.declared.voices.VoiceState.TheVariants.{Tracked, Fading, Loose}
use Rattle.voice.specs.declared.voices.Fade.{Fade}
use Rattle.ledger.proofs.Spawns as spawns
use Rattle.sealed.specs.declared.profile.Profile.{Profile}
use Rattle.sealed.proofs.Within.{owned_n, is_owner, from_owner, fades, Within, WithinL, within_removed, count_mapped}

-- ---- counts after nodes came and edges were put
more_le : (b : Bool) (n : ℕ) → more b n ≤ suc n
more_le true n = omega arith
more_le false n = omega arith

grown_off : (k : ℕ) (xs : List Node) (g : GraphView) → ((x : Node) → In x xs → owned_n k x ≡ false) → count (owned_n k) (append_all g xs).nodes ≡ count (owned_n k) g.nodes
grown_off k [] g h = refl
grown_off k (x ∷ xs) g h =
    grown_off k xs (change.append g x) (λ y i. h y (inr i)) ∙ count_snoc (owned_n k) g.nodes (with_id g.next x) ∙ rw (h x (inl refl))

grown_on : (k : ℕ) (xs : List Node) (g : GraphView) → count (owned_n k) (append_all g xs).nodes ≤ count (owned_n k) g.nodes + length xs
grown_on k [] g = omega arith
grown_on k (x ∷ xs) g =
    omega (arith, grown_on k xs (change.append g x), count_snoc (owned_n k) g.nodes (with_id g.next x), more_le (owned_n k (with_id g.next x)) (count (owned_n k) g.nodes))

put_on : (t : Edge → Bool) (es : List Edge) (e : Edge) → count t (wired es e) ≤ suc (count t es)
put_on t es e =
    omega (arith, count_snoc t (drop_at es e.to e.port) e, more_le (t e) (count t (drop_at es e.to e.port)), count_filter t (λ d. not (ends_at e.to e.port d)) es)

put_off : (t : Edge → Bool) (es : List Edge) (e : Edge) → t e ≡ false → count t (wired es e) ≤ count t es
put_off t es e h =
    let a : count t (wired es e) ≡ count t (drop_at es e.to e.port) = count_snoc t (drop_at es e.to e.port) e ∙ rw h in
    omega (arith, a, count_filter t (λ d. not (ends_at e.to e.port d)) es)

-- one that passes is removed for it
put_over : (t : Edge → Bool) (es : List Edge) (e d : Edge) → In d es → ends_at e.to e.port d ≡ true → t d ≡ true → count t (wired es e) ≤ count t es
put_over t es e d i at h =
    omega (
      arith,
      count_snoc t (drop_at es e.to e.port) e,
      more_le (t e) (count t (drop_at es e.to e.port)),
      count_filter_lt t (λ d. not (ends_at e.to e.port d)) es d i h (ap not at),
    )

abbrev wire_edge : ℕ → Wire → Edge
wire_edge base w = change.edge (id (base + w.from)) (id (base + w.to)) w.port

wires_on : (t : Edge → Bool) (base : ℕ) (ws : List Wire) (g : GraphView) → count t (wire_all base g ws).edges ≤ count t g.edges + length ws
wires_on t base [] g = omega arith
wires_on t base (w ∷ ws) g =
    omega (arith, wires_on t base ws (change.connect g (id (base + w.from)) (id (base + w.to)) w.port), put_on t g.edges (wire_edge base w))

wires_off : (t : Edge → Bool) (base : ℕ) (ws : List Wire) (g : GraphView) → ((w : Wire) → In w ws → t (wire_edge base w) ≡ false) → count t (wire_all base g ws).edges ≤ count t g.edges
wires_off t base [] g h = omega arith
wires_off t base (w ∷ ws) g h =
    omega (arith, wires_off t base ws (change.connect g (id (base + w.from)) (id (base + w.to)) w.port) (λ u i. h u (inr i)), put_off t g.edges (wire_edge base w) (h w (inl refl)))

-- ---- the new voice
free_holds : (b : NodeId) (q : ℕ) (k : VoiceId) (h : Holders) (v : VoiceId) (p : ℕ) → is_held (h b.0 q) ≡ false → by_voice v (h b.0 p) ≡ true → by_voice v (hold b q (voice k) h b.0 p) ≡ true
free_holds b q k h v p free mine = go (ℕ_discrete p q)
  where
    held : (x : Holder) → by_voice v x ≡ true → is_held x ≡ true
    held nobody e = e
    held (host n) e = refl
    held (voice w) e = refl

    go : Dec (p ≡ q) → by_voice v (cond (eqb b.0 b.0 && eqb p q) (voice k) (h b.0 p)) ≡ true
    go (yes e) = absurd (false≢true (sym free ∙ ap (λ n. is_held (h b.0 n)) (sym e) ∙ held (h b.0 p) mine))
    go (no e) = rw (eq-eqb b.0 b.0 refl, ne_eqb p q e) mine

-- the bus counts one voice more: nodes and edges are the same owners'
within_raised : {s : Profile} {ns : List Node} {es : List Edge} {nx nv : ℕ} {vs : List Voice} {h : Holders} (bus : NodeId) → Within s ns es nx nv vs h → Within s (noise_raised bus ns) es nx nv vs h
within_raised {s} {ns} {es} bus r =
    record {
      listed = listed_raised bus r.listed;
      positive = r.positive;
      bus = owner_raised bus ns s.bus.0 ∙ r.bus;
      ports = ports_raised bus ns s.bus.0 ∙ r.ports;
      on = r.on;
      holds = r.holds;
      hosts = same 0 ∙ r.hosts;
      nodes = λ v i. omega (arith, r.nodes v i, same v.id.0);
      wires = omega (arith, r.wires, less 0);
      edges = λ v i. omega (arith, r.edges v i, less v.id.0);
    }
  where
    same : (j : ℕ) → count (owned_n j) (noise_raised bus ns) ≡ count (owned_n j) ns
    same j = count_mapped (owned_n j) (raise_noise bus) ns (λ x i. ap (λ n. eqb n j) (raise_same bus (λ (y : Node). y.owner.0) (λ k n. refl) x))

    less : (j : ℕ) → count (from_owner (noise_raised bus ns) j) es ≤ count (from_owner ns j) es
    less j = count_weaker (from_owner (noise_raised bus ns) j) (from_owner ns j) es (λ d q t. sym (ap (λ u. is_owner u j) (owner_raised bus ns d.from.0)) ∙ t)

-- a spawn, on the sealed bus
abbrev pub on_bus : NodeId → Spawn → Spawn
on_bus b x = record { def = x.def; bus = b; pan = x.pan; rank = x.rank }

module _ (s : Profile) (y : Spawn) (ok : allowed y.def ≡ true) (small : y.def.nodes.count ≤ s.def_nodes) (few : y.def.edges.count ≤ s.def_edges) (t : VoiceState) (l : Ledger) (sound₀ : InvariantOf l) (r₀ : WithinL s l)
    (p : ℕ) (free : port_free s.bus l ≡ Some p) where
  abbrev x : Spawn
  x = on_bus s.bus y

  abbrev def : SynthDef
  def = y.def

  abbrev pan : Bool
  pan = pans y.pan

  abbrev g : GraphView
  g = raised s.bus l.shared.graph

  abbrev nv : ℕ
  nv = l.shared.spawned

  sound : Invariant g.nodes g.edges g.next nv l.voices l.holders
  sound = sound_raised s.bus sound₀

  r : Within s g.nodes g.edges g.next nv l.voices l.holders
  r = within_raised s.bus r₀

  abbrev k : VoiceId
  k = next_voice l.shared

  abbrev xs : List Node
  xs = voice_nodes k def pan

  abbrev ws : List Wire
  ws = voice_wires def pan

  abbrev many : ℕ
  many = length (node_rows def.nodes) + cond pan 2 0

  abbrev grown : GraphView
  grown = wire_all g.next (append_all g xs) ws

  planted : Planted g.nodes g.next (nv + 1) 0 l.voices l.holders g
  planted =
      record {
        sound = sound_more sound;
        next = omega arith;
        old = λ n b. (refl, refl);
        mine = λ i b. absurd (omega arith);
        off = λ e i o. let b = live_below sound.listed e.from.0 (nv + 1) o.1 in omega (arith, b.1);
      }

  all_planted : Planted g.nodes g.next (nv + 1) many l.voices l.holders grown
  all_planted =
      planted_wires (omega arith) ws (wires_in def ok pan)
      (subst (λ n. Planted g.nodes g.next (nv + 1) n l.voices l.holders (append_all g xs)) (zero-add (length xs) ∙ nodes_count k def pan) (planted_all xs (nodes_owned k def pan) planted))

  abbrev ns' : List Node
  ns' = grown.nodes

  abbrev v : Voice
  v = new_voice x t p l.shared

  lowest : (0 ≤ p) × (p < 0 + ports_at g.nodes s.bus.0) × (not (is_held (l.holders s.bus.0 p)) ≡ true)
  lowest = lowest_some (ports_at g.nodes s.bus.0) (λ p. not (is_held (l.holders s.bus.0 p))) 0 p
      (ap (λ n. lowest_port n (λ p. not (is_held (l.holders s.bus.0 p))) 0) (ports_raised s.bus l.shared.graph.nodes s.bus.0) ∙ free)

  -- nodes of an owner
  nodes_old : (j : ℕ) → j ≤ nv → count (owned_n j) ns' ≡ count (owned_n j) g.nodes
  nodes_old j le =
      ap (count (owned_n j)) (wires_same g.next ws (append_all g xs)).0
      ∙ grown_off j xs g (λ x i. let o = nodes_owned k def pan x i in ne_eqb x.owner.0 j (λ q. omega (arith, o)))

  nodes_new : count (owned_n (nv + 1)) ns' ≤ def.nodes.count + 2
  nodes_new =
      let z : count (owned_n (nv + 1)) g.nodes ≡ 0 = count_none (owned_n (nv + 1)) g.nodes (λ x i. let b = (sound.listed.below x i).1 in ne_eqb x.owner.0 (nv + 1) (λ q. omega arith)) in
      omega (arith, ap (count (owned_n (nv + 1))) (wires_same g.next ws (append_all g xs)).0, grown_on (nv + 1) xs g, z, nodes_few k def pan)

  -- edges from an owner's nodes
  still : (j : ℕ) → count (from_owner ns' j) g.edges ≤ count (from_owner g.nodes j) g.edges
  still j = count_weaker (from_owner ns' j) (from_owner g.nodes j) g.edges (λ e i h. sym (ap (λ o. is_owner o j) (all_planted.old e.from.0 (ends_below sound e i).0).0) ∙ h)

  abbrev last : Edge
  last = change.edge (id (g.next + voice_out def pan)) s.bus p

  edges_old : (j : ℕ) → j ≤ nv → count (from_owner ns' j) (wired grown.edges last) ≤ count (from_owner g.nodes j) g.edges
  edges_old j le =
      let a = put_off (from_owner ns' j) grown.edges last (other (voice_out def pan) (out_in def ok pan)) in
      let b = wires_off (from_owner ns' j) g.next ws (append_all g xs) (λ w i. other w.from (wires_in def ok pan w i).0) in
      omega (arith, a, b, ap (count (from_owner ns' j)) (grown_edges xs g), still j)
    where
      other : (i : ℕ) → i < many → is_owner (owner_at ns' (g.next + i)) j ≡ false
      other i b = ap (λ o. is_owner o j) (all_planted.mine i b) ∙ ne_eqb (nv + 1) j (λ q. omega arith)

  edges_new : count (from_owner ns' (nv + 1)) (wired grown.edges last) ≤ def.edges.count + 3
  edges_new =
      let j = nv + 1 in
      let a = put_on (from_owner ns' j) grown.edges last in
      let b = wires_on (from_owner ns' j) g.next ws (append_all g xs) in
      let z : count (from_owner g.nodes j) g.edges ≡ 0 = count_none (from_owner g.nodes j) g.edges (λ e i. none_yet e.from.0 (owner_at g.nodes e.from.0) refl) in
      omega (arith, a, b, ap (count (from_owner ns' j)) (grown_edges xs g), still j, z, wires_few def pan)
    where
      none_yet : (n : ℕ) (o : Option ℕ) → owner_at g.nodes n ≡ o → is_owner o (nv + 1) ≡ false
      none_yet n None e = refl
      none_yet n (Some m) e = let b = (live_below sound.listed n m e).1 in ne_eqb m (nv + 1) (λ q. omega arith)

  pub within_instantiate : WithinL s (instantiate x t p l).ledger
  within_instantiate =
      record {
        listed = all_planted.sound.listed;
        positive = λ u i. ⊎_elim (r.positive u) (λ q. let z : u.id.0 ≡ nv + 1 = ap (λ (x : Voice). x.id.0) q in omega arith) (in_snoc l.voices v u i);
        bus = (all_planted.old s.bus.0 below).0 ∙ r.bus;
        ports = (all_planted.old s.bus.0 below).1 ∙ r.ports;
        on = λ u i. ⊎_elim (r.on u) (λ q. ap (λ (x : Voice). x.bus.0) q) (in_snoc l.voices v u i);
        holds = λ u i. ⊎_elim (holds_old u) (holds_new u) (in_snoc l.voices v u i);
        hosts = nodes_old 0 (omega arith) ∙ r.hosts;
        nodes = λ u i. ⊎_elim (λ j. omega (arith, r.nodes u j, nodes_old u.id.0 (given u j))) (λ q. subst (λ (x : Voice). count (owned_n x.id.0) ns' ≤ s.def_nodes + 2 + fades x.state) (sym q) (omega (arith, nodes_new, small))) (in_snoc l.voices v u i);
        wires = omega (arith, r.wires, edges_old 0 (omega arith));
        edges = λ u i. ⊎_elim (λ j. omega (arith, r.edges u j, edges_old u.id.0 (given u j))) (λ q. subst (λ (x : Voice). count (from_owner ns' x.id.0) (wired grown.edges last) ≤ s.def_edges + 3 + fades x.state) (sym q) (omega (arith, edges_new, few))) (in_snoc l.voices v u i);
      }
    where
      below : s.bus.0 < g.next
      below = (live_below sound.listed s.bus.0 0 r.bus).0

      given : (u : Voice) → In u l.voices → u.id.0 ≤ nv
      given u i = (sound.voiced.sung u i).named

      unheld : is_held (l.holders s.bus.0 p) ≡ false
      unheld = not-true _ lowest.2

      holds_old : (u : Voice) → In u l.voices → (q : ℕ) × (q < s.ports) × (by_voice u.id (hold s.bus p (voice k) l.holders s.bus.0 q) ≡ true)
      holds_old u i = let z = r.holds u i in (z.0, z.1, free_holds s.bus p k l.holders u.id z.0 unheld z.2)

      holds_new : (u : Voice) → u ≡ v → (q : ℕ) × (q < s.ports) × (by_voice u.id (hold s.bus p (voice k) l.holders s.bus.0 q) ≡ true)
      holds_new u e =
          let lt : p < s.ports = omega (arith, lowest.1, r.ports) in
          subst (λ (x : Voice). (q : ℕ) × (q < s.ports) × (by_voice x.id (hold s.bus p (voice k) l.holders s.bus.0 q) ≡ true)) (sym e)
          (p, lt, rw (eq-eqb s.bus.0 s.bus.0 refl, eq-eqb p p refl) (eq-eqb (nv + 1) (nv + 1) refl))

-- ---- the victim fades: its node and one edge more; the edge to the bus takes the place of its feeder's
tracked_fades : (t : VoiceState) → is_tracked t ≡ true → fades t ≡ 0
tracked_fades Tracked h = refl
tracked_fades (Fading f) h = absurd (false≢true h)
tracked_fades Loose h = refl

module _ (s : Profile) (l : Ledger) (sound : InvariantOf l) (r : WithinL s l) (v : Voice) (i : In v l.voices) (tr : is_tracked v.state ≡ true) (p : ℕ) (d : Edge) (j : In d l.shared.graph.edges)
    (df : d.from.0 ≡ (feeder v).0) (dt : d.to.0 ≡ v.bus.0) (dp : d.port ≡ p) where
  abbrev ga : GraphView
  ga = l.shared.graph

  abbrev x₁ : Node
  x₁ = fade_node v.id

  abbrev n₁ : List Node
  n₁ = ga.nodes ++ (with_id ga.next x₁ ∷ [])

  abbrev e₁ : Edge
  e₁ = change.edge (feeder v) (id ga.next) 0

  abbrev e₂ : Edge
  e₂ = change.edge (id ga.next) v.bus p

  abbrev es₁ : List Edge
  es₁ = wired ga.edges e₁

  abbrev fd : Fade
  fd = fade_of l.shared

  old_owner : (n : ℕ) → n < ga.next → owner_at n₁ n ≡ owner_at ga.nodes n
  old_owner n b = owner_old sound.listed x₁ n b

  bus_below : s.bus.0 < ga.next
  bus_below = (live_below sound.listed s.bus.0 0 r.bus).0

  by_feeder : owner_at n₁ (feeder v).0 ≡ Some v.id.0
  by_feeder = let f = (sound.voiced.sung v i).feeds in old_owner (feeder v).0 (live_below sound.listed (feeder v).0 v.id.0 f).0 ∙ f

  by_fade : owner_at n₁ ga.next ≡ Some v.id.0
  by_fade = owner_new sound.listed x₁

  before : (k : ℕ) → count (from_owner n₁ k) ga.edges ≤ count (from_owner ga.nodes k) ga.edges
  before k = count_weaker (from_owner n₁ k) (from_owner ga.nodes k) ga.edges (λ e m h. sym (ap (λ o. is_owner o k) (old_owner e.from.0 (ends_below sound e m).0)) ∙ h)

  edges_other : (k : ℕ) → (v.id.0 ≡ k → ⊥) → count (from_owner n₁ k) (wired es₁ e₂) ≤ count (from_owner ga.nodes k) ga.edges
  edges_other k ne =
      let a = put_off (from_owner n₁ k) es₁ e₂ (ap (λ o. is_owner o k) by_fade ∙ ne_eqb v.id.0 k ne) in
      let b = put_off (from_owner n₁ k) ga.edges e₁ (ap (λ o. is_owner o k) by_feeder ∙ ne_eqb v.id.0 k ne) in
      omega (arith, a, b, before k)

  edges_own : count (from_owner n₁ v.id.0) (wired es₁ e₂) ≤ suc (count (from_owner ga.nodes v.id.0) ga.edges)
  edges_own =
      let t = from_owner n₁ v.id.0 in
      let a = put_over t es₁ e₂ d kept at own in
      let b = put_on t ga.edges e₁ in
      omega (arith, a, b, before v.id.0)
    where
      off : ends_at (id ga.next) 0 d ≡ false
      off = rw (ne_eqb d.to.0 ga.next (λ q. omega (arith, (ends_below sound d j).1)))

      kept : In d es₁
      kept = in_left (drop_at ga.edges (id ga.next) 0) (e₁ ∷ []) d (filter_in (λ e. not (ends_at (id ga.next) 0 e)) ga.edges d j (ap not off))

      at : ends_at v.bus p d ≡ true
      at = rw (eq-eqb d.to.0 v.bus.0 dt, eq-eqb d.port p dp)

      own : from_owner n₁ v.id.0 d ≡ true
      own = ap (λ n. is_owner (owner_at n₁ n) v.id.0) df ∙ ap (λ o. is_owner o v.id.0) by_feeder ∙ eq-eqb v.id.0 v.id.0 refl

  nodes_other : (k : ℕ) → (v.id.0 ≡ k → ⊥) → count (owned_n k) n₁ ≡ count (owned_n k) ga.nodes
  nodes_other k ne = count_snoc (owned_n k) ga.nodes (with_id ga.next x₁) ∙ rw (ne_eqb v.id.0 k ne)

  nodes_own : count (owned_n v.id.0) n₁ ≤ suc (count (owned_n v.id.0) ga.nodes)
  nodes_own = omega (arith, count_snoc (owned_n v.id.0) ga.nodes (with_id ga.next x₁), more_le (owned_n v.id.0 (with_id ga.next x₁)) (count (owned_n v.id.0) ga.nodes))

  not_host : v.id.0 ≡ 0 → ⊥
  not_host q = omega (arith, r.positive v i)

  f : Voice → Voice
  f = begin_fade v.id fd

  nodes_of : (u : Voice) → In u l.voices → (b : Bool) → is_voice v.id u ≡ b → count (owned_n u.id.0) n₁ ≤ s.def_nodes + 2 + fades (cond b (with_state (Fading fd) u) u).state
  nodes_of u m true e =
      let q : u.id.0 ≡ v.id.0 = eqb-true _ _ e in
      subst (λ n. count (owned_n n) n₁ ≤ s.def_nodes + 2 + 1) (sym q) (omega (arith, nodes_own, r.nodes v i, tracked_fades v.state tr))
  nodes_of u m false e = omega (arith, nodes_other u.id.0 (λ q. false≢true (sym e ∙ eq-eqb _ _ (sym q))), r.nodes u m)

  edges_of : (u : Voice) → In u l.voices → (b : Bool) → is_voice v.id u ≡ b → count (from_owner n₁ u.id.0) (wired es₁ e₂) ≤ s.def_edges + 3 + fades (cond b (with_state (Fading fd) u) u).state
  edges_of u m true e =
      let q : u.id.0 ≡ v.id.0 = eqb-true _ _ e in
      subst (λ n. count (from_owner n₁ n) (wired es₁ e₂) ≤ s.def_edges + 3 + 1) (sym q) (omega (arith, edges_own, r.edges v i, tracked_fades v.state tr))
  edges_of u m false e = omega (arith, edges_other u.id.0 (λ q. false≢true (sym e ∙ eq-eqb _ _ (sym q))), r.edges u m)

  within_fade : WithinL s (stolen v (Some p) l)
  within_fade =
      record {
        listed = listed_append sound.listed x₁ (sound.voiced.sung v i).named;
        positive = λ u m. let z = back u m in rw (z.2, begin_id v.id fd z.0) (r.positive z.0 z.1);
        bus = old_owner s.bus.0 bus_below ∙ r.bus;
        ports = ap ports_of (look_old sound.listed x₁ s.bus.0 bus_below) ∙ r.ports;
        on = λ u m. let z = back u m in rw (z.2, begin_same (λ (x : Voice). x.bus) (λ t x. refl) v.id fd z.0) (r.on z.0 z.1);
        holds = λ u m. let z = back u m in rw (z.2, begin_id v.id fd z.0) (r.holds z.0 z.1);
        hosts = nodes_other 0 not_host ∙ r.hosts;
        nodes = λ u m. let z = back u m in rw z.2 (subst (λ (w : VoiceId). count (owned_n w.0) n₁ ≤ s.def_nodes + 2 + fades (begin_fade v.id fd z.0).state) (sym (begin_id v.id fd z.0)) (nodes_of z.0 z.1 (is_voice v.id z.0) refl));
        wires = omega (arith, r.wires, edges_other 0 not_host);
        edges = λ u m. let z = back u m in rw z.2 (subst (λ (w : VoiceId). count (from_owner n₁ w.0) (wired es₁ e₂) ≤ s.def_edges + 3 + fades (begin_fade v.id fd z.0).state) (sym (begin_id v.id fd z.0)) (edges_of z.0 z.1 (is_voice v.id z.0) refl));
      }
    where
      back : (u : Voice) → In u (map (begin_fade v.id fd) l.voices) → (z : Voice) × In z l.voices × (u ≡ begin_fade v.id fd z)
      back u m = in_map (begin_fade v.id fd) l.voices u m

within_cut : (s : Profile) (l : Ledger) (v : Voice) (t : VoiceState) → 0 < v.id.0 → WithinL s l → WithinL s (cut_off v t l)
within_cut s l v t pos r = within_removed r v.id pos

within_steal : (s : Profile) (l : Ledger) → InvariantOf l → WithinL s l → (v : Voice) → In v l.voices → is_tracked v.state ≡ true → WithinL s (steal_voice v l)
within_steal s l sound r v i tr = subst (λ o. WithinL s (stolen v o l)) (feeds_held sound v i tr) (go (find (feeds (feeder v) v.bus) l.shared.graph.edges) refl)
  where
    go : (o : Option Edge) → find (feeds (feeder v) v.bus) l.shared.graph.edges ≡ o → WithinL s (stolen v (option_map (λ e. e.port) o) l)
    go None e = within_cut s l v Tracked (r.positive v i) r
    go (Some d) e =
        let z = find_in (feeds (feeder v) v.bus) l.shared.graph.edges d e in
        within_fade s l sound r v i tr d.port d z.0 (eqb-true _ _ (and_left _ _ z.1)) (eqb-true _ _ (and_right (eqb d.from.0 (feeder v).0) _ z.1)) refl

-- ---- the spawn
module _ (s : Profile) (y : Spawn) (ok : allowed y.def ≡ true) (small : y.def.nodes.count ≤ s.def_nodes) (few : y.def.edges.count ≤ s.def_edges) where
  abbrev Both : Ledger → Type 0
  Both l = InvariantOf l × WithinL s l

  abbrev here : Spawn
  here = on_bus s.bus y

  within_budgeted : (l : Ledger) → Both l → WithinL s (place_within_budget here l).ledger
  within_budgeted l q =
      place_kept here (state_under l.shared.config.budget) (λ n m. Both m) (λ z. WithinL s z.ledger)
      (λ n m p e b. within_instantiate s y ok small few _ m b.0 b.1 p e) (λ m e b. b.1) (λ n m e f b. b.1)
      (λ n m v e f b.
      let i = (next_out_in (ids_of_lem m b.0) m.shared s.bus y.rank v f).0 in
      ((cut_off_lem m b.0 v v.state i).sound, within_cut s m v v.state (b.1.positive v i) b.1))
      (tries l.shared.config.budget l.voices) l q

  pub within_admitted : (l : Ledger) → InvariantOf l → WithinL s l → WithinL s (admitted (admission_on s.bus y.rank l) here l).ledger
  within_admitted l sound r =
      managed_kept here (λ z. WithinL s z.ledger) l (ids_of_lem l sound) (λ h. r) (λ h. within_budgeted l (sound, r))
      (λ p w h v i t.
      let tr = and_left (is_tracked v.state) _ t in
      within_budgeted (steal_voice v l) ((spawns.stolen l sound v i tr).sound, within_steal s l sound r v i tr))
