-- What a spawn asks is answered by the bus's part: free and held ports, the admission, and who is reclaimed next.
use Prim.Native.Nat.{ℕ}
use native.Mathlib.Omega.{arith}
use mathlib.Core.Path.{◌≡◌, refl, sym, ap, ap₂, ◌∙◌}
use mathlib.Core.List.{List, [], ◌∷◌, map, map-map}
use Rattle.std.specs.Prelude.{Option, None, Some, filter, find, option_map}
use mathlib.Core.Bool.{Bool, true, false, not, cond, ◌&&◌, and-true, and-false}
use lib.Dec.{eqb}
use borrow.Author.Tests.{eqb-true, eqb-false, eq-eqb, ne_eqb, lt-ltb}
use Rattle.lists.specs.Member.{In}
use Rattle.lists.proofs.Member.{map_same, and_right}
use Rattle.lists.proofs.Filter.{filter_filter, filter_map, in_filter, filter_in}
use Rattle.lists.proofs.Find.{find_map}
use Rattle.node.specs.declared.record.NodeId.{NodeId}
use Rattle.node.specs.declared.record.VoiceId.{VoiceId}
use Rattle.node.specs.declared.record.Node.{Node}
use Rattle.graph.specs.Node.{node_at, ports_of}
use Rattle.voice.specs.Policy.{Victim, victim}
use Rattle.voice.specs.declared.policy.Candidate.{Candidate}
use Rattle.voice.specs.declared.voices.Voice.{Voice}
use Rattle.voice.specs.declared.voices.VoiceState.{VoiceState}
use Rattle.voice.specs.declared.voices.VoiceState.TheVariants.{Tracked, Fading, Loose}
use Rattle.voice.specs.Voice.{is_voice, is_on, is_tracked, is_fading, start_of, tracked_on, fades_on}
use Rattle.model.specs.Voice.{candidate, candidates}
use Rattle.model.specs.Spawn.{voice_of, no_later, earlier, earliest, else_victim, next_out}
use Rattle.ledger.specs.Holder.{Holder, is_held, by_voice, nobody, voice}
use Rattle.ledger.specs.Holder as holder
use Rattle.ledger.specs.Ledger.{Ledger, lowest_port, port_free, port_held}
use Rattle.ledger.proofs.Ids.{once, unique}
use Rattle.ledger.proofs.Victim.{victim_voice}
use Rattle.isolation.specs.Story.{phase_of}
use Rattle.isolation.proofs.Bus.{Own, empty, is_taken, by_number, is_number, port_count}
use Rattle.isolation.proofs.Bus as bus
use Rattle.isolation.proofs.Part.{seat_for, seat_of, host_ports, own_of, ports_now, own_voices, bus_of, Tidy, find_one}
use Rattle.isolation.proofs.Relabel.{rename, renamed, victim_rename, lowest_same}

-- ---- states and phases
pub tracked_same : (s : VoiceState) → bus.is_held (phase_of s) ≡ is_tracked s
tracked_same Tracked = refl
tracked_same (Fading f) = refl
tracked_same Loose = refl

fading_same : (s : VoiceState) → bus.is_fading (phase_of s) ≡ is_fading s
fading_same Tracked = refl
fading_same (Fading f) = refl
fading_same Loose = refl

start_same : (s : VoiceState) → bus.start_of (phase_of s) ≡ start_of s
start_same Tracked = refl
start_same (Fading f) = refl
start_same Loose = refl

-- ---- ports
pub ports_are : (o : Option Node) → ((n : Node) → o ≡ Some n → n.owner.0 ≡ 0) → ports_of o ≡ port_count (host_ports o)
ports_are None h = refl
ports_are (Some n) h = rw (eq-eqb n.owner.0 0 (h n refl))

taken_same : (vs : List Voice) (x : Holder) → is_taken (seat_of vs x) ≡ is_held x
taken_same vs nobody = refl
taken_same vs (holder.host k) = refl
taken_same vs (voice w) = go (find (is_voice w) vs)
  where
    go : (o : Option Voice) → is_taken (seat_for o) ≡ true
    go None = refl
    go (Some v) = refl

module _ (l : Ledger) (t : Tidy l) (b : NodeId) where
  abbrev ns : List Node
  ns = l.shared.graph.nodes

  abbrev vs : List Voice
  vs = l.voices

  pub free_same : ((n : Node) → node_at ns b ≡ Some n → n.owner.0 ≡ 0) → port_free b l ≡ bus.port_free (bus_of b l)
  free_same host =
      ap (λ k. lowest_port k (λ p. not (is_held (l.holders b.0 p))) 0) (ports_are (node_at ns b) host)
      ∙ lowest_same (port_count (ports_now b ns)) (λ p. not (is_held (l.holders b.0 p))) (λ p. not (is_taken ((bus_of b l).seats p))) 0
      (λ q h. ap not (sym (ap (λ c. is_taken (cond c (seat_of vs (l.holders b.0 q)) empty)) (lt-ltb q (port_count (ports_now b ns)) (omega arith)) ∙ taken_same vs (l.holders b.0 q))))

  pub held_same : (v : Voice) → In v vs → is_on b v ≡ true → port_held v l ≡ bus.port_held v.sequence (bus_of b l)
  held_same v i on =
      ap (λ (k : NodeId). lowest_port (ports_of (node_at ns k)) (λ p. by_voice v.id (l.holders k.0 p)) 0) is
      ∙ ap (λ k. lowest_port k (λ p. by_voice v.id (l.holders b.0 p)) 0) (ports_are (node_at ns b) (λ n e. ((t.hosted v i).1 n (ap (node_at ns) is ∙ e)).0))
      ∙ lowest_same (port_count (ports_now b ns)) (λ p. by_voice v.id (l.holders b.0 p)) (λ p. by_number v.sequence ((bus_of b l).seats p)) 0
      (λ q h. sym (ap (λ c. by_number v.sequence (cond c (seat_of vs (l.holders b.0 q)) empty)) (lt-ltb q (port_count (ports_now b ns)) (omega arith)) ∙ by (l.holders b.0 q) q refl))
    where
      is : v.bus ≡ b
      is = ap (λ n. record { 0 = n }) (eqb-true _ _ on)

      by : (x : Holder) (q : ℕ) → l.holders b.0 q ≡ x → by_number v.sequence (seat_of vs x) ≡ by_voice v.id x
      by nobody q e = refl
      by (holder.host k) q e = refl
      by (voice w) q e =
          let s = t.seated b.0 q w e in
          let f = once t.own.0 w s.who s.lives (eq-eqb _ _ s.is) in
          rw f (go s.who s.lives s.on s.is (eqb w.0 v.id.0) refl)
        where
          go : (u : Voice) → In u vs → u.bus.0 ≡ b.0 → u.id.0 ≡ w.0 → (c : Bool) → eqb w.0 v.id.0 ≡ c → eqb u.sequence v.sequence ≡ c
          go u j o k true c = eq-eqb u.sequence v.sequence (ap (λ (z : Voice). z.sequence) (unique t.own.0 u v j i (k ∙ eqb-true _ _ c)))
          go u j o k false c = ne_eqb u.sequence v.sequence (λ z. eqb-false _ _ c (sym k ∙ ap (λ (y : Voice). y.id.0) (t.single u v j i (o ∙ sym (eqb-true _ _ on)) z)))

  -- ---- voices by number
  pub find_number : (v : Voice) → In v vs → is_on b v ≡ true → find (is_number v.sequence) (own_voices b ns vs) ≡ Some (own_of ns v)
  find_number v i on =
      find_map (own_of ns) (is_number v.sequence) (λ x. eqb x.sequence v.sequence) (λ x. refl) (filter (is_on b) vs)
      ∙ ap (option_map (own_of ns)) (find_one (λ x. eqb x.sequence v.sequence) (filter (is_on b) vs) v (filter_in (is_on b) vs v i on) (eq-eqb v.sequence v.sequence refl)
      (λ x j e. let r = in_filter (is_on b) vs x j in t.single x v r.0 i (eqb-true _ _ r.1 ∙ sym (eqb-true _ _ on)) (eqb-true _ _ e)))

  abbrev pub number_or : Option Voice → VoiceId
  number_or None = record { 0 = 0 }
  number_or (Some v) = record { 0 = v.sequence }

  -- the number of the voice of an id
  abbrev pub number : VoiceId → VoiceId
  number w = number_or (find (is_voice w) vs)

  pub number_is : (v : Voice) → In v vs → number v.id ≡ record { 0 = v.sequence }
  number_is v i = ap number_or (once t.own.0 v.id v i (eq-eqb v.id.0 v.id.0 refl))

  pub candidates_same : bus.candidates l.shared.clock (own_voices b ns vs) ≡ map (rename number) (candidates l.shared (tracked_on b) vs)
  candidates_same =
      ap (map cand) (filter_map (own_of ns) bus.tracks (λ v. is_tracked v.state) (λ v. tracked_same v.state) (filter (is_on b) vs) ∙ ap (map (own_of ns)) (filter_filter (λ v. is_tracked v.state) (is_on b) vs))
      ∙ map-map cand (own_of ns) (filter (tracked_on b) vs)
      ∙ map_same (λ v. cand (own_of ns v)) (λ v. rename number (candidate l.shared v)) (filter (tracked_on b) vs) (λ v j.
      let i = (in_filter (tracked_on b) vs v j).0 in ap (λ w. record { voice = w; level = bus.level_now l.shared.clock (own_of ns v); rank = v.rank }) (sym (number_is v i)))
      ∙ sym (map-map (rename number) (candidate l.shared) (filter (tracked_on b) vs))
    where
      cand : Own → Candidate
      cand v = record { voice = record { 0 = v.number }; level = bus.level_now l.shared.clock v; rank = v.rank }

  -- ---- who is reclaimed next
  earlier_same : (o : Option Voice) (c : Bool) (v : Voice) → option_map (own_of ns) (earlier o c v) ≡ bus.earlier (option_map (own_of ns) o) c (own_of ns v)
  earlier_same None true v = refl
  earlier_same None false v = refl
  earlier_same (Some u) c v = rw (start_same v.state, start_same u.state) (go (c && no_later v u))
    where
      go : (d : Bool) → option_map (own_of ns) (cond d (Some v) (Some u)) ≡ cond d (Some (own_of ns v)) (Some (own_of ns u))
      go true = refl
      go false = refl

  earliest_same : (us : List Voice) → option_map (own_of ns) (earliest (fades_on b) us) ≡ bus.earliest (map (own_of ns) (filter (is_on b) us))
  earliest_same [] = refl
  earliest_same (v ∷ us) = earlier_same (earliest (fades_on b) us) (fades_on b v) v ∙ ap (λ o. bus.earlier o (fades_on b v) (own_of ns v)) (earliest_same us) ∙ go (is_on b v)
    where
      idle : (o : Option Own) → bus.earlier o false (own_of ns v) ≡ o
      idle None = refl
      idle (Some u) = refl

      go : (c : Bool) → bus.earlier (bus.earliest (map (own_of ns) (filter (is_on b) us))) (is_fading v.state && c) (own_of ns v) ≡ bus.earliest (map (own_of ns) (cond c (v ∷ (filter (is_on b) us)) (filter (is_on b) us)))
      go true = ap (λ d. bus.earlier (bus.earliest (map (own_of ns) (filter (is_on b) us))) d (own_of ns v)) (and-true (is_fading v.state) ∙ sym (fading_same v.state))
      go false = ap (λ d. bus.earlier (bus.earliest (map (own_of ns) (filter (is_on b) us))) d (own_of ns v)) (and-false (is_fading v.state)) ∙ idle (bus.earliest (map (own_of ns) (filter (is_on b) us)))

  voice_same : (r : ℕ) (x : Victim) → victim l.shared.config.policy r (candidates l.shared (tracked_on b) vs) ≡ x → option_map (own_of ns) (voice_of x vs) ≡ bus.voice_of (renamed number x) (own_voices b ns vs)
  voice_same r None e = refl
  voice_same r (Some (p, w)) e =
      let z = victim_voice t.own.0 l.shared (tracked_on b) l.shared.config.policy r p w e in
      let f = z.3 in
      ap (option_map (own_of ns)) f ∙ sym (ap (λ o. find (is_number (number_or o).0) (own_voices b ns vs)) f ∙ find_number z.0 z.1 (and_right (is_tracked z.0.state) _ z.2))

  pub next_same : (r : ℕ) → option_map (own_of ns) (next_out l.shared b r vs) ≡ bus.next_out r (bus_of b l)
  next_same r =
      both (earliest (fades_on b) vs) (voice_of (victim l.shared.config.policy r (candidates l.shared (tracked_on b) vs)) vs)
      ∙ ap₂ bus.else_victim (earliest_same vs)
      (voice_same r (victim l.shared.config.policy r (candidates l.shared (tracked_on b) vs)) refl
      ∙ ap (λ x. bus.voice_of x (own_voices b ns vs)) (sym (ap (victim l.shared.config.policy r) candidates_same ∙ victim_rename number l.shared.config.policy r (candidates l.shared (tracked_on b) vs))))
    where
      both : (o u : Option Voice) → option_map (own_of ns) (else_victim o u) ≡ bus.else_victim (option_map (own_of ns) o) (option_map (own_of ns) u)
      both None u = refl
      both (Some v) u = refl
