-- A victim fades: another bus is as it was, and its own bus has it fading.
use Prim.Native.Nat.{ℕ, ◌+◌, ◌≤◌, ◌<◌}
use native.Mathlib.Omega.{arith}
use mathlib.Core.Path.{◌≡◌, refl, sym, ap, ap₂, ◌∙◌, subst, fun_ext}
use mathlib.Core.Logic.{⊎_elim}
use mathlib.Core.List.{List, [], ◌∷◌, ◌++◌, map, map-map}
use Rattle.std.specs.Prelude.{Option, None, Some, filter, find, option_map}
use mathlib.Core.Bool.{Bool, true, false, cond, true≢false}
use lib.Dec.{eqb, ltb}
use borrow.Author.Tests.{eqb-true, eqb-false, eq-eqb, ne_eqb}
use Rattle.lists.specs.Member.{In}
use Rattle.lists.proofs.Member.{in_map, in_of_map, in_snoc, map_same}
use Rattle.lists.proofs.Filter.{filter_map, in_filter}
use Rattle.lists.proofs.Find.{find_map}
use Rattle.node.specs.declared.record.NodeId.{NodeId}
use Rattle.node.specs.declared.record.Node.{Node}
use Rattle.graph.specs.Node.{node_at}
use Rattle.node.specs.Node.{with_id}
use Rattle.voice.specs.declared.voices.Voice.{Voice}
use Rattle.voice.specs.declared.voices.VoiceState.{VoiceState}
use Rattle.voice.specs.declared.voices.VoiceState.TheVariants.{Fading}
use Rattle.voice.specs.Voice.{id, is_voice, is_on, with_state, begin_fade}
use Rattle.model.specs.Spawn.{fade_node, fade_of}
use Rattle.ledger.specs.Holder.{Holder, nobody, voice}
use Rattle.ledger.specs.Holder as holder
use Rattle.ledger.specs.Ledger.{Ledger, fade}
use Rattle.ledger.proofs.Ids.{unique, above, ids_map}
use Rattle.ledger.proofs.Managed.{begin_id}
use Rattle.ledger.proofs.Nodes.{begin_same, mine_map, mine_append}
use Rattle.isolation.specs.Story.{fading}
use Rattle.isolation.proofs.Bus.{Own, empty, mine, port_count, begin, at_voices, with_phase}
use Rattle.isolation.proofs.Part.{seat_for, seat_of, own_of, ports_now, seats_for, own_voices, bus_of_lem, bus_of, Tidy, own_same}
use Rattle.isolation.proofs.Grown.{old_node, ports_one, once_one, same_nodes}

module _ (l : Ledger) (t : Tidy l) (g : Voice) (i : In g l.voices) (port : ℕ) where
  abbrev ns : List Node
  ns = l.shared.graph.nodes

  abbrev ns' : List Node
  ns' = ns ++ (with_id l.shared.graph.next (fade_node g.id) ∷ [])

  abbrev vs : List Voice
  vs = l.voices

  abbrev bf : Voice → Voice
  bf v = begin_fade g.id (fade_of l.shared) v

  same : {A : Type 0} (get : Voice → A) → ((s : VoiceState) (v : Voice) → get (with_state s v) ≡ get v) → (v : Voice) → get (bf v) ≡ get v
  same get e v = begin_same get e g.id (fade_of l.shared) v

  same_voice : (v : Voice) → In v vs → v.id.0 ≡ g.id.0 → v ≡ g
  same_voice v j e = unique t.own.0 v g j i e

  old : (k : ℕ) → k < l.shared.graph.next → node_at ns' (id k) ≡ node_at ns (id k)
  old k h = old_node ns l.shared.graph.next (fade_node g.id) k h

  own_stays : (v : Voice) → In v vs → own_of ns' v ≡ own_of ns v
  own_stays v j = own_same ns ns' v (t.outs v j) (same_nodes ns ns' v l.shared.graph.next old (t.own.1.places v j))

  seat_same : (x : Holder) → seat_of (map bf vs) x ≡ seat_of vs x
  seat_same nobody = refl
  seat_same (holder.host k) = refl
  seat_same (voice w) =
      ap seat_for (find_map bf (is_voice w) (is_voice w) (λ v. ap (λ n. eqb n w.0) (same (λ (x : Voice). x.id.0) (λ s v. refl) v)) vs) ∙ go (find (is_voice w) vs)
    where
      go : (o : Option Voice) → seat_for (option_map bf o) ≡ seat_for o
      go None = refl
      go (Some v) = ap mine (same (λ (x : Voice). x.sequence) (λ s v. refl) v)

  pub ports_stay : (b : NodeId) → ports_now b ns' ≡ ports_now b ns
  ports_stay b = ports_one ns l.shared.graph.next (fade_node g.id) (above t.own.0 g i) b

  kept : (b : NodeId) → filter (is_on b) (map bf vs) ≡ map bf (filter (is_on b) vs)
  kept b = filter_map bf (is_on b) (is_on b) (λ v. ap (λ n. eqb n b.0) (same (λ (x : Voice). x.bus.0) (λ s v. refl) v)) vs

  with_voices : (b : NodeId) (ws : List Own) → map (own_of ns') (map bf (filter (is_on b) vs)) ≡ ws → bus_of b (fade g port l) ≡ at_voices (bus_of b l) (bus_of b l).seats ws
  with_voices b ws e =
      ap (λ o. bus_of_lem l.shared.config l.shared.clock o (seats_for b o (map bf vs) l.holders) (own_voices b ns' (map bf vs))) (ports_stay b)
      ∙ ap₂ (λ h ws. bus_of_lem l.shared.config l.shared.clock (ports_now b ns) h ws)
      (fun_ext (λ p. ap (λ x. cond (ltb p (port_count (ports_now b ns))) x empty) (seat_same (l.holders b.0 p)))) (ap (map (own_of ns')) (kept b) ∙ e)

  pub fade_off : (b : NodeId) → is_on b g ≡ false → bus_of b (fade g port l) ≡ bus_of b l
  fade_off b off =
      with_voices b (own_voices b ns vs)
      (map-map (own_of ns') bf (filter (is_on b) vs) ∙ map_same (λ v. own_of ns' (bf v)) (own_of ns) (filter (is_on b) vs) (λ v j. let r = in_filter (is_on b) vs v j in go v r.0 r.1 (is_voice g.id v) refl))
    where
      go : (v : Voice) → In v vs → is_on b v ≡ true → (c : Bool) → is_voice g.id v ≡ c → own_of ns' (cond c (with_state (Fading (fade_of l.shared)) v) v) ≡ own_of ns v
      go v j on false e = own_stays v j
      go v j on true e = absurd (true≢false (sym on ∙ ap (is_on b) (same_voice v j (eqb-true _ _ e)) ∙ off))

  pub fade_on : (b : NodeId) → is_on b g ≡ true → bus_of b (fade g port l) ≡ at_voices (bus_of b l) (bus_of b l).seats (map (begin g.sequence l.shared.clock) (bus_of b l).voices)
  fade_on b on =
      with_voices b (map (begin g.sequence l.shared.clock) (own_voices b ns vs))
      (map-map (own_of ns') bf (filter (is_on b) vs)
      ∙ map_same (λ v. own_of ns' (bf v)) (λ v. begin g.sequence l.shared.clock (own_of ns v)) (filter (is_on b) vs) (λ v j. let r = in_filter (is_on b) vs v j in go v r.0 r.1 (is_voice g.id v) refl)
      ∙ sym (map-map (begin g.sequence l.shared.clock) (own_of ns) (filter (is_on b) vs)))
    where
      go : (v : Voice) → In v vs → is_on b v ≡ true → (c : Bool) → is_voice g.id v ≡ c → own_of ns' (cond c (with_state (Fading (fade_of l.shared)) v) v) ≡ begin g.sequence l.shared.clock (own_of ns v)
      go v j o false e =
          let q : eqb v.sequence g.sequence ≡ false = ne_eqb v.sequence g.sequence (λ z. eqb-false _ _ e (ap (λ (x : Voice). x.id.0) (t.single v g j i (eqb-true _ _ o ∙ sym (eqb-true _ _ on)) z))) in
          own_stays v j ∙ rw q
      go v j o true e =
          let q : eqb v.sequence g.sequence ≡ true = eq-eqb v.sequence g.sequence (ap (λ (x : Voice). x.sequence) (same_voice v j (eqb-true _ _ e))) in
          rw q (ap (λ (z : Own). with_phase (fading l.shared.clock 0) z) (own_stays v j))

  pub tidy_fade : Tidy (fade g port l)
  tidy_fade =
      record {
        own = (
          ids_map bf (begin_id g.id (fade_of l.shared)) t.own.0,
          mine_map bf (same (λ (x : Voice). x.first) (λ s v. refl)) (same (λ (x : Voice). x.count) (λ s v. refl)) (same (λ (x : Voice). x.id) (λ s v. refl)) (same (λ (x : Voice). x.output) (λ s v. refl)) (mine_append (fade_node g.id) t.own.1),
        );
        rows = once_one ns l.shared.graph.next (fade_node g.id) t.own.1.below t.rows;
        outs = λ v j. let r = in_map bf vs v j in subst Out (sym r.2) (moves Out (λ s v h. h) r.0 (t.outs r.0 r.1));
        seated = λ n p w e.
            let r = t.seated n p w e in
            record { who = bf r.who; lives = in_bf r.who r.lives; is = same (λ (x : Voice). x.id.0) (λ s v. refl) r.who ∙ r.is; on = same (λ (x : Voice). x.bus.0) (λ s v. refl) r.who ∙ r.on };
        fresh = λ n p h. t.fresh n p (omega arith);
        single = λ u v j k e f.
            let p = in_map bf vs u j in
            let q = in_map bf vs v k in
            p.2 ∙ ap bf (t.single p.0 q.0 p.1 q.1 (back (λ (x : Voice). x.bus.0) (λ s v. refl) u v p.0 q.0 p.2 q.2 e) (back (λ (x : Voice). x.sequence) (λ s v. refl) u v p.0 q.0 p.2 q.2 f)) ∙ sym q.2;
        few = λ x j. ⊎_elim (λ k. let h = t.few x k in omega arith) (λ e. let z : x.noise ≡ 0 = ap (λ (y : Node). y.noise) e in omega arith) (in_snoc ns (with_id l.shared.graph.next (fade_node g.id)) x j);
        hosted = λ v j. let r = in_map bf vs v j in subst Hosted (sym r.2) (moves Hosted (λ s v h. h) r.0 (let h = t.hosted r.0 r.1 in let b = h.0 in (omega arith, λ n e. h.1 n (sym (old r.0.bus.0 b) ∙ e))));
      }
    where
      Out : Voice → Type 0
      Out v = (v.first.0 ≤ v.output.0) × (v.output.0 < v.first.0 + v.count)

      Hosted : Voice → Type 0
      Hosted v = (v.bus.0 < l.shared.graph.next + 1) × ((n : Node) → node_at ns' v.bus ≡ Some n → (n.owner.0 ≡ 0) × (v.sequence < n.noise))

      moves : (P : Voice → Type 0) → ((s : VoiceState) (v : Voice) → P v → P (with_state s v)) → (v : Voice) → P v → P (bf v)
      moves P h v p = go (is_voice g.id v)
        where
          go : (c : Bool) → P (cond c (with_state (Fading (fade_of l.shared)) v) v)
          go true = h (Fading (fade_of l.shared)) v p
          go false = p

      in_bf : (v : Voice) → In v vs → In (bf v) (map bf vs)
      in_bf v j = in_of_map bf vs v j

      back : {A : Type 0} (get : Voice → A) → ((s : VoiceState) (v : Voice) → get (with_state s v) ≡ get v) → (u v p q : Voice) → u ≡ bf p → v ≡ bf q → get u ≡ get v → get p ≡ get q
      back get h u v p q a c e = sym (ap get a ∙ same get h p) ∙ e ∙ (ap get c ∙ same get h q)
