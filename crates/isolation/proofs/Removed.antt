-- A voice is removed: another bus is as it was, and its own bus loses the voice of its number.
use Prim.Native.Nat.{ℕ, ◌+◌, ◌-◌, ◌≤◌, ◌<◌}
use native.Mathlib.Omega.{arith}
use mathlib.Core.Path.{◌≡◌, refl, sym, ap, ap₂, ◌∙◌, subst, fun_ext}
use mathlib.Core.List.{List, map}
use Rattle.std.specs.Prelude.{Option, None, Some, filter, find}
use mathlib.Core.Bool.{Bool, true, false, not, cond, ◌&&◌, true≢false}
use lib.Dec.{eqb, ltb}
use borrow.Author.Tests.{eqb-true, eqb-false, eq-eqb, ne_eqb, not-true}
use Rattle.lists.specs.Member.{In}
use Rattle.lists.proofs.Member.{map_same}
use Rattle.lists.proofs.Filter.{filter_same, filter_filter, filter_map, in_filter, filter_in}
use Rattle.lists.specs.Find.{filter_o}
use Rattle.lists.proofs.Find.{find_in, find_filter, find_filter_same, once_filter}
use Rattle.node.specs.declared.record.NodeId.{NodeId}
use Rattle.node.specs.declared.record.VoiceId.{VoiceId}
use Rattle.node.specs.declared.record.Node.{Node}
use Rattle.graph.specs.Node.{is_node, owned_by, node_at}
use Rattle.voice.specs.declared.voices.Voice.{Voice}
use Rattle.voice.specs.Voice.{id, is_voice, is_on}
use Rattle.model.specs.Voice.{node_level}
use Rattle.model.specs.Clear.{done_flag}
use Rattle.ledger.specs.Holder.{Holder, by_voice, drop_voice, nobody, voice}
use Rattle.ledger.specs.Holder as holder
use Rattle.ledger.specs.Ledger.{Ledger, without_voice}
use Rattle.ledger.proofs.Ids.{unique, once, above}
use Rattle.ledger.proofs.Nodes.{node_stays, own_preserved}
use Rattle.isolation.proofs.Bus.{Seat, empty, by_number, is_number, port_count, leave}
use Rattle.isolation.proofs.Bus as bus
use Rattle.isolation.proofs.Part.{seat_for, seat_of, room_of, host_ports, own_of, ports_now, seats_for, own_voices, bus_of_lem, bus_of, Seated, Tidy, filter_swap, own_same}

module _ (l : Ledger) (t : Tidy l) (g : Voice) (i : In g l.voices) where
  abbrev ns : List Node
  ns = l.shared.graph.nodes

  abbrev ns' : List Node
  ns' = filter (λ x. not (owned_by g.id x)) ns

  abbrev vs : List Voice
  vs = l.voices

  abbrev other : Voice → Bool
  other v = not (is_voice g.id v)

  same_voice : (v : Voice) → In v vs → v.id.0 ≡ g.id.0 → v ≡ g
  same_voice v j e = unique t.own.0 v g j i e

  own_stays : (v : Voice) → In v vs → (v.id.0 ≡ g.id.0 → ⊥) → own_of ns' v ≡ own_of ns v
  own_stays v j off = own_same ns ns' v (t.outs v j) (λ k a b. let e = at k a b in (ap node_level e, ap done_flag e))
    where
      at : (k : ℕ) → v.first.0 ≤ k → k < v.first.0 + v.count → node_at ns' (id k) ≡ node_at ns (id k)
      at k a b =
          let q : v.first.0 + (k - v.first.0) ≡ k = omega arith in
          let h : k - v.first.0 < v.count = omega arith in
          subst (λ n. node_at ns' (id n) ≡ node_at ns (id n)) q (node_stays l t.own v j g.id off (k - v.first.0) h)

  pub ports_stay : (b : NodeId) → ports_now b ns' ≡ ports_now b ns
  ports_stay b = ap host_ports (find_filter (is_node b) (λ x. not (owned_by g.id x)) ns (t.rows b)) ∙ go (node_at ns b)
    where
      at : (x : Node) (h : Bool) → eqb x.owner.0 0 ≡ h → (o : Bool) → eqb x.owner.0 g.id.0 ≡ o → host_ports (cond (not o) (Some x) None) ≡ cond h (Some (room_of x)) None
      at x h e false f = ap (λ c. cond c (Some (room_of x)) None) e
      at x false e true f = refl
      at x true e true f =
          let a : x.owner.0 ≡ 0 = eqb-true _ _ e in
          let c : x.owner.0 ≡ g.id.0 = eqb-true _ _ f in
          absurd (omega (arith, a, c, above t.own.0 g i))

      go : (o : Option Node) → host_ports (filter_o (λ x. not (owned_by g.id x)) o) ≡ host_ports o
      go None = refl
      go (Some x) = at x (eqb x.owner.0 0) refl (owned_by g.id x) refl

  -- who holds the port p of the bus b, seen by number
  holds : (b : NodeId) (p : ℕ) (w : VoiceId) → l.holders b.0 p ≡ voice w → (v : Voice) × In v vs × (v.bus.0 ≡ b.0) × (v.id.0 ≡ w.0) × (find (is_voice w) vs ≡ Some v)
  holds b p w e = let s = t.seated b.0 p w e in (s.who, s.lives, s.on, s.is, once t.own.0 w s.who s.lives (eq-eqb _ _ s.is))

  found_other : (w : VoiceId) → eqb w.0 g.id.0 ≡ false → find (is_voice w) (filter other vs) ≡ find (is_voice w) vs
  found_other w e = find_filter_same (is_voice w) other (λ x h. ap not (ap (λ n. eqb n g.id.0) (eqb-true _ _ h) ∙ e)) vs

  -- ---- another bus
  module _ (b : NodeId) (off : is_on b g ≡ false) where
    not_it : (v : Voice) → In v vs → is_on b v ≡ true → v.id.0 ≡ g.id.0 → ⊥
    not_it v j on e = true≢false (sym on ∙ ap (is_on b) (same_voice v j e) ∙ off)

    voices_off : own_voices b ns' (filter other vs) ≡ own_voices b ns vs
    voices_off =
        ap (map (own_of ns')) (filter_filter (is_on b) other vs ∙ filter_same (λ x. is_on b x && other x) (is_on b) vs (λ x j. go x j (is_on b x) refl))
        ∙ map_same (own_of ns') (own_of ns) (filter (is_on b) vs) (λ v j. let r = in_filter (is_on b) vs v j in own_stays v r.0 (not_it v r.0 r.1))
      where
        go : (x : Voice) → In x vs → (c : Bool) → is_on b x ≡ c → (c && other x) ≡ c
        go x j false e = refl
        go x j true e = ap not (ne_eqb x.id.0 g.id.0 (not_it x j e))

    seat_off : (p : ℕ) → (x : Holder) → l.holders b.0 p ≡ x → seat_of (filter other vs) (cond (by_voice g.id x) nobody x) ≡ seat_of vs x
    seat_off p nobody e = refl
    seat_off p (holder.host k) e = refl
    seat_off p (voice w) e = go (eqb w.0 g.id.0) refl
      where
        go : (c : Bool) → eqb w.0 g.id.0 ≡ c → seat_of (filter other vs) (cond c nobody (voice w)) ≡ seat_for (find (is_voice w) vs)
        go true f =
            let r = holds b p w e in
            absurd (not_it r.0 r.1 (eq-eqb _ _ r.2) (r.3 ∙ eqb-true _ _ f))
        go false f = ap seat_for (found_other w f)

    pub removed_off : bus_of b (without_voice g.id l) ≡ bus_of b l
    removed_off =
        ap (λ o. bus_of_lem l.shared.config l.shared.clock o (seats_for b o (filter other vs) (drop_voice g.id l.holders)) (own_voices b ns' (filter other vs))) (ports_stay b)
        ∙ ap₂ (λ h ws. bus_of_lem l.shared.config l.shared.clock (ports_now b ns) h ws) (fun_ext seats) voices_off
      where
        seats : (p : ℕ) → seats_for b (ports_now b ns) (filter other vs) (drop_voice g.id l.holders) p ≡ seats_for b (ports_now b ns) vs l.holders p
        seats p = ap (λ x. cond (ltb p (port_count (ports_now b ns))) x empty) (seat_off p (l.holders b.0 p) refl)

  -- ---- its own bus
  module _ (b : NodeId) (on : is_on b g ≡ true) where
    abbrev s : ℕ
    s = g.sequence

    same_number : (v : Voice) → In v vs → is_on b v ≡ true → v.sequence ≡ s → v ≡ g
    same_number v j o e = t.single v g j i (eqb-true _ _ o ∙ sym (eqb-true _ _ on)) e

    voices_on : own_voices b ns' (filter other vs) ≡ filter (λ v. not (is_number s v)) (own_voices b ns vs)
    voices_on =
        ap (map (own_of ns')) (filter_swap (is_on b) other vs)
        ∙ map_same (own_of ns') (own_of ns) (filter other (filter (is_on b) vs)) (λ v j.
        let r = in_filter other (filter (is_on b) vs) v j in
        own_stays v (in_filter (is_on b) vs v r.0).0 (λ e. eqb-false _ _ (not-true _ r.1) e))
        ∙ ap (map (own_of ns)) (filter_same other (λ v. not (eqb v.sequence s)) (filter (is_on b) vs) (λ v j. let r = in_filter (is_on b) vs v j in ap not (go v r.0 r.1 (eqb v.id.0 g.id.0) refl)))
        ∙ sym (filter_map (own_of ns) (λ v. not (is_number s v)) (λ v. not (eqb v.sequence s)) (λ v. refl) (filter (is_on b) vs))
      where
        go : (v : Voice) → In v vs → is_on b v ≡ true → (c : Bool) → eqb v.id.0 g.id.0 ≡ c → c ≡ eqb v.sequence s
        go v j o true e = sym (eq-eqb v.sequence s (ap (λ (x : Voice). x.sequence) (same_voice v j (eqb-true _ _ e))))
        go v j o false e = sym (ne_eqb v.sequence s (λ q. eqb-false _ _ e (ap (λ (x : Voice). x.id.0) (same_number v j o q))))

    seat_on : (p : ℕ) → (x : Holder) → l.holders b.0 p ≡ x → seat_of (filter other vs) (cond (by_voice g.id x) nobody x) ≡ cond (by_number s (seat_of vs x)) empty (seat_of vs x)
    seat_on p nobody e = refl
    seat_on p (holder.host k) e = refl
    seat_on p (voice w) e =
        let r = holds b p w e in
        go r.0 r.1 r.2 r.3 r.4 (eqb w.0 g.id.0) refl
      where
        go : (v : Voice) → In v vs → v.bus.0 ≡ b.0 → v.id.0 ≡ w.0 → find (is_voice w) vs ≡ Some v → (c : Bool) → eqb w.0 g.id.0 ≡ c
            → seat_of (filter other vs) (cond c nobody (voice w)) ≡ cond (by_number s (seat_for (find (is_voice w) vs))) empty (seat_for (find (is_voice w) vs))
        go v j o k f true c = rw (f, ap (λ (x : Voice). x.sequence) (same_voice v j (k ∙ eqb-true _ _ c)), eq-eqb s s refl)
        go v j o k f false c =
            let q : eqb v.sequence s ≡ false = ne_eqb v.sequence s (λ z. eqb-false _ _ c (sym k ∙ ap (λ (x : Voice). x.id.0) (same_number v j (eq-eqb _ _ o) z))) in
            ap seat_for (found_other w c) ∙ rw (f, q)

    pub removed_on : bus_of b (without_voice g.id l) ≡ bus.without_voice s (bus_of b l)
    removed_on =
        ap (λ o. bus_of_lem l.shared.config l.shared.clock o (seats_for b o (filter other vs) (drop_voice g.id l.holders)) (own_voices b ns' (filter other vs))) (ports_stay b)
        ∙ ap₂ (λ h ws. bus_of_lem l.shared.config l.shared.clock (ports_now b ns) h ws) (fun_ext seats) voices_on
      where
        masked : (c : Bool) (x y : Seat) → x ≡ cond (by_number s y) empty y → cond c x empty ≡ cond (by_number s (cond c y empty)) empty (cond c y empty)
        masked true x y e = e
        masked false x y e = refl

        seats : (p : ℕ) → seats_for b (ports_now b ns) (filter other vs) (drop_voice g.id l.holders) p ≡ leave s (seats_for b (ports_now b ns) vs l.holders) p
        seats p = masked (ltb p (port_count (ports_now b ns))) _ (seat_of vs (l.holders b.0 p)) (seat_on p (l.holders b.0 p) refl)

  -- ---- what every run keeps
  pub tidy_removed : Tidy (without_voice g.id l)
  tidy_removed =
      record {
        own = own_preserved.goes l g.id t.own;
        rows = λ k. once_filter (is_node k) (λ x. not (owned_by g.id x)) ns (t.rows k);
        outs = λ v j. t.outs v (in_filter other vs v j).0;
        seated = λ n p w e. seat n p w (l.holders n p) refl e;
        fresh = λ n p h. ap (λ x. cond (by_voice g.id x) nobody x) (t.fresh n p h);
        single = λ u v j k. t.single u v (in_filter other vs u j).0 (in_filter other vs v k).0;
        few = λ x j. t.few x (in_filter (λ x. not (owned_by g.id x)) ns x j).0;
        hosted = λ v j. let r = t.hosted v (in_filter other vs v j).0 in (r.0, λ n e. r.1 n (back v.bus n e));
      }
    where
      back : (k : NodeId) (n : Node) → node_at ns' k ≡ Some n → node_at ns k ≡ Some n
      back k n e = let r = find_in (is_node k) ns' n e in t.rows k n (in_filter (λ x. not (owned_by g.id x)) ns n r.0).0 r.1

      seat : (n p : ℕ) (w : VoiceId) (x : Holder) → l.holders n p ≡ x → cond (by_voice g.id x) nobody x ≡ voice w → Seated (filter other vs) n w
      seat n p w nobody e f = let z : ◌≡◌ {A = ℕ} 0 1 = cc in absurd (omega arith)
      seat n p w (holder.host k) e f = let z : ◌≡◌ {A = ℕ} 0 1 = cc in absurd (omega arith)
      seat n p w (voice u) e f = go (eqb u.0 g.id.0) refl f
        where
          go : (c : Bool) → eqb u.0 g.id.0 ≡ c → cond c nobody (voice u) ≡ voice w → Seated (filter other vs) n w
          go true q f = let z : ◌≡◌ {A = ℕ} 0 1 = cc in absurd (omega arith)
          go false q f =
              let k : u ≡ w = cc in
              let r = t.seated n p u e in
              record {
                who = r.who;
                lives = filter_in other vs r.who r.lives (ap not (ap (λ n. eqb n g.id.0) r.is ∙ q));
                is = r.is ∙ ap (λ (x : VoiceId). x.0) k;
                on = r.on;
              }
