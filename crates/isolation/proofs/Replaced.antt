-- A node's record is replaced: a value or a glide leaves every bus as it was, and a report is the bus's whose voice has the node.
use Prim.Native.Nat.{ℕ, ◌+◌, ◌-◌, ◌≤◌, ◌<◌}
use native.Mathlib.Omega.{arith}
use mathlib.Core.Path.{◌≡◌, refl, sym, ap, ap₂, ◌∙◌, subst, fun_ext}
use mathlib.Core.List.{List, map, map-map}
use Rattle.std.specs.Prelude.{Option, None, Some, filter, option_map}
use mathlib.Core.Bool.{Bool, true, false, cond}
use lib.Dec.{eqb, ltb}
use lib.Ieee.{Float}
use borrow.Author.Tests.{eqb-true, eqb-false, eq-eqb, ne_eqb, lt-ltb}
use Rattle.ledger.proofs.Owner.{replaced_id}
use Rattle.level.specs.Level.{level_of}
use Rattle.lists.specs.Member.{In}
use Rattle.lists.proofs.Member.{in_map, map_same, some_inj}
use Rattle.lists.proofs.Filter.{in_filter}
use Rattle.lists.specs.Find.{Once}
use Rattle.lists.proofs.Find.{find_in, find_map}
use Rattle.node.specs.declared.name.Name.{Name}
use Rattle.node.specs.declared.order.LastOrder.{LastOrder}
use Rattle.node.specs.declared.record.NodeId.{NodeId}
use Rattle.node.specs.declared.record.VoiceId.{VoiceId}
use Rattle.node.specs.declared.record.Node.{Node}
use Rattle.graph.specs.Node.{is_node, node_at, replaced}
use Rattle.synthdef.specs.Tables.{param_rows}
use Rattle.synthdef.specs.Params.{param_node}
use Rattle.voice.specs.declared.voices.Voice.{Voice}
use Rattle.store.specs.declared.answer.Outcome.TheVariants.{Applied, NotTaken}
use Rattle.voice.specs.Voice.{id, is_on}
use Rattle.model.specs.Voice.{node_level}
use Rattle.model.specs.Clear.{done_flag}
use Rattle.model.specs.Order.{with_node, with_report, takes, stays, order_node, order_param, order_voice}
use Rattle.node.specs.Node.{with_last}
use Rattle.ledger.specs.Ledger.{Ledger, at_shared}
use Rattle.ledger.proofs.Ids.{unique}
use Rattle.ledger.proofs.Nodes.{own_preserved}
use Rattle.ledger.proofs.Preserved.{Alike}
use Rattle.isolation.specs.Story.{phase_of}
use Rattle.isolation.proofs.Bus.{Own, is_number, at_voices, report}
use Rattle.isolation.proofs.Part.{room_of, host_ports, flag_at, own_of, ports_now, seats_for, own_voices, bus_of_lem, bus_of, Tidy, own_same}

module _ (l : Ledger) (t : Tidy l) (j : NodeId) (x y : Node) (found : node_at l.shared.graph.nodes j ≡ Some x) (alike : Alike x y) (noises : y.noise ≡ x.noise) where
  abbrev ns : List Node
  ns = l.shared.graph.nodes

  abbrev ns' : List Node
  ns' = replaced ns y

  abbrev after : Ledger
  after = at_shared l (with_node y l.shared)

  abbrev rep : Node → Node
  rep m = cond (is_node y.id m) y m

  look : (k : NodeId) → node_at ns' k ≡ option_map rep (node_at ns k)
  look k = find_map rep (is_node k) (is_node k) (λ m. ap (λ n. eqb n k.0) (replaced_id y m)) ns

  is_j : y.id.0 ≡ j.0
  is_j = ap (λ (z : NodeId). z.0) alike.id ∙ eqb-true _ _ (find_in (is_node j) ns x found).1

  only : (m : Node) → In m ns → is_node y.id m ≡ true → m ≡ x
  only m i e = some_inj (sym (t.rows j m i (eq-eqb m.id.0 j.0 (eqb-true _ _ e ∙ is_j))) ∙ found)

  -- at another node nothing changes; at this one y stands
  pub look_other : (k : NodeId) → eqb k.0 j.0 ≡ false → node_at ns' k ≡ node_at ns k
  look_other k off = look k ∙ go (node_at ns k) refl
    where
      go : (o : Option Node) → node_at ns k ≡ o → option_map rep o ≡ o
      go None e = refl
      go (Some m) e = ap Some (at (is_node y.id m) refl)
        where
          at : (c : Bool) → is_node y.id m ≡ c → cond c y m ≡ m
          at false f = refl
          at true f = absurd (eqb-false _ _ off (sym (eqb-true _ _ (find_in (is_node k) ns m e).1) ∙ eqb-true _ _ f ∙ is_j))

  pub look_this : (k : NodeId) → eqb k.0 j.0 ≡ true → node_at ns' k ≡ Some y
  look_this k on =
      ap (node_at ns') (ap (λ n. record { 0 = n }) (eqb-true _ _ on)) ∙ look j ∙ ap (option_map rep) found
      ∙ ap (λ c. Some (cond c y x)) (eq-eqb x.id.0 y.id.0 (ap (λ (z : NodeId). z.0) (sym alike.id)))

  -- what is the same of y and x is the same everywhere
  pub look_same : {A : Type 0} (F : Option Node → A) → F (Some y) ≡ F (Some x) → (k : NodeId) → F (node_at ns' k) ≡ F (node_at ns k)
  look_same F e k = go (eqb k.0 j.0) refl
    where
      go : (c : Bool) → eqb k.0 j.0 ≡ c → F (node_at ns' k) ≡ F (node_at ns k)
      go true c = ap F (look_this k c) ∙ e ∙ sym (ap F (ap (node_at ns) (ap (λ n. record { 0 = n }) (eqb-true _ _ c)) ∙ found))
      go false c = ap F (look_other k c)

  ports_same : (b : NodeId) → ports_now b ns' ≡ ports_now b ns
  ports_same b = look_same host_ports (ap (λ (o : VoiceId). cond (eqb o.0 0) (Some (room_of y)) None) alike.owner ∙ ap₂ (λ p q. cond (eqb x.owner.0 0) (Some (record { ports = p; noise = q })) None) alike.ports noises) b

  with_voices : (b : NodeId) (ws : List Own) → own_voices b ns' l.voices ≡ ws → bus_of b after ≡ at_voices (bus_of b l) (bus_of b l).seats ws
  with_voices b ws e = ap₂ (λ o ws. bus_of_lem l.shared.config l.shared.clock o (seats_for b o l.voices l.holders) ws) (ports_same b) e

  pub kept_level : y.level ≡ x.level → y.done ≡ x.done → (b : NodeId) → bus_of b after ≡ bus_of b l
  kept_level lv dn b =
      with_voices b (own_voices b ns l.voices) (map_same (own_of ns') (own_of ns) (filter (is_on b) l.voices) (λ v i.
      own_same ns ns' v (t.outs v (in_filter (is_on b) l.voices v i).0) (λ k a c. (look_same node_level (ap Some lv) (id k), look_same done_flag dn (id k)))))

  pub tidy_replaced : Tidy after
  tidy_replaced =
      record {
        own = own_preserved.node l j x y found alike t.own;
        rows = rows;
        outs = t.outs;
        seated = t.seated;
        fresh = t.fresh;
        single = t.single;
        few = λ z i. let r = in_map rep ns z i in subst (λ (w : Node). w.noise ≤ l.shared.graph.next) (sym r.2) (at_most r.0 r.1 (is_node y.id r.0) refl);
        hosted = λ v i. let h = t.hosted v i in (h.0, λ n q. owner v h.1 n q);
      }
    where
      rows : (k : NodeId) → Once (is_node k) ns'
      rows k z i h =
          let r = in_map rep ns z i in
          let q : is_node k r.0 ≡ true = ap (λ n. eqb n k.0) (sym (replaced_id y r.0) ∙ ap (λ (n : Node). n.id.0) (sym r.2)) ∙ h in
          look k ∙ ap (option_map rep) (t.rows k r.0 r.1 q) ∙ ap Some (sym r.2)

      at_most : (m : Node) → In m ns → (c : Bool) → is_node y.id m ≡ c → (cond c y m).noise ≤ l.shared.graph.next
      at_most m i true e = let f = t.few x (find_in (is_node j) ns x found).0 in let n = noises in omega arith
      at_most m i false e = t.few m i

      Good : Voice → Node → Type 0
      Good v n = (n.owner.0 ≡ 0) × (v.sequence < n.noise)

      owner : (v : Voice) → ((n : Node) → node_at ns v.bus ≡ Some n → Good v n) → (n : Node) → node_at ns' v.bus ≡ Some n → Good v n
      owner v h n q = go (eqb v.bus.0 j.0) refl
        where
          go : (c : Bool) → eqb v.bus.0 j.0 ≡ c → Good v n
          go false c = h n (sym (look_other v.bus c) ∙ q)
          go true c =
              let z : y ≡ n = some_inj (sym (look_this v.bus c) ∙ q) in
              let g = h x (ap (node_at ns) (ap (λ n. record { 0 = n }) (eqb-true _ _ c)) ∙ found) in
              let k = g.1 in
              let m = noises in
              subst (Good v) z (ap (λ (w : VoiceId). w.0) alike.owner ∙ g.0, omega arith)

-- ---- a value or a glide
pub record Unmoved (l m : Ledger) : Type 0 where
  pub tidy : Tidy m
  pub same : (b : NodeId) → bus_of b m ≡ bus_of b l

module _ (l : Ledger) (t : Tidy l) where
  still : Unmoved l l
  still = record { tidy = t; same = λ b. refl }

  node_still : (j : NodeId) (o : Option Node) (z : LastOrder) → node_at l.shared.graph.nodes j ≡ o → Unmoved l (at_shared l (order_node o z l.shared).shared)
  node_still j None z e = still
  node_still j (Some x) z e = go (takes z x)
    where
      go : (c : Bool) → Unmoved l (at_shared l (cond c (record { outcome = Applied; shared = with_node (with_last z x) l.shared }) (stays NotTaken l.shared)).shared)
      go true = record { tidy = tidy_replaced l t j x (with_last z x) e (record { id = refl; owner = refl; ports = refl; required = refl }) refl; same = kept_level l t j x (with_last z x) e (record { id = refl; owner = refl; ports = refl; required = refl }) refl refl refl }
      go false = still

  param_still : (o : Option ℕ) (v : Voice) (z : LastOrder) → Unmoved l (at_shared l (order_param o v z l.shared).shared)
  param_still None v z = still
  param_still (Some i) v z = node_still (id (v.first.0 + i)) (node_at l.shared.graph.nodes (id (v.first.0 + i))) z refl

  pub order_still : (o : Option Voice) (name : Name) (z : LastOrder) → Unmoved l (at_shared l (order_voice o name z l.shared).shared)
  order_still None name z = still
  order_still (Some v) name z = param_still (param_node (param_rows v.params) name) v z

-- ---- a report
module _ (l : Ledger) (t : Tidy l) (j : NodeId) (x : Node) (found : node_at l.shared.graph.nodes j ≡ Some x) (samples : List Float) (flag : Bool) where
  abbrev y : Node
  y = with_report samples flag x

  abbrev reported : Ledger
  reported = at_shared l (with_node y l.shared)

  abbrev ms : List Node
  ms = l.shared.graph.nodes

  abbrev ms' : List Node
  ms' = replaced ms y

  pub tidy_report : Tidy reported
  tidy_report = tidy_replaced l t j x y found (record { id = refl; owner = refl; ports = refl; required = refl }) refl

  -- a voice that does not own it is as it was
  own_other : (v : Voice) → In v l.voices → (x.owner.0 ≡ v.id.0 → ⊥) → own_of ms' v ≡ own_of ms v
  own_other v i off = own_same ms ms' v (t.outs v i) (λ k a b. let q = look_other l t j x y found (record { id = refl; owner = refl; ports = refl; required = refl }) refl (id k) (ne_eqb k j.0 (λ e. off (own k a b e))) in (ap node_level q, ap done_flag q))
    where
      own : (k : ℕ) → v.first.0 ≤ k → k < v.first.0 + v.count → k ≡ j.0 → x.owner.0 ≡ v.id.0
      own k a b e =
          let r = find_in (is_node j) ms x found in
          let z : x.id.0 ≡ j.0 = eqb-true _ _ r.1 in
          t.own.1.owned v i x r.0 (omega arith) (omega arith)

  pub report_off : (b : NodeId) → ((v : Voice) → In v l.voices → is_on b v ≡ true → x.owner.0 ≡ v.id.0 → ⊥) → bus_of b reported ≡ bus_of b l
  report_off b off =
      with_voices l t j x y found (record { id = refl; owner = refl; ports = refl; required = refl }) refl b (own_voices b ms l.voices)
      (map_same (own_of ms') (own_of ms) (filter (is_on b) l.voices) (λ v i. let r = in_filter (is_on b) l.voices v i in own_other v r.0 (off v r.0 r.1)))

  -- the voice that owns it
  module _ (g : Voice) (i : In g l.voices) (owns : x.owner.0 ≡ g.id.0) (low : g.first.0 ≤ j.0) (high : j.0 < g.first.0 + g.count) where
    abbrev at : ℕ
    at = j.0 - g.first.0

    own_this : own_of ms' g ≡ report at samples flag (own_of ms g)
    own_this = ap₂ with_nodes (lv (eqb g.output.0 j.0) refl) (fun_ext fl)
      where
        with_nodes : Option Float → (ℕ → Bool) → Own
        with_nodes a f = record { number = g.sequence; rank = g.rank; birth = g.birth; port = g.port; count = g.count; output = g.output.0 - g.first.0; plan = g.plan; phase = phase_of g.state; level = a; flags = f }

        lv : (c : Bool) → eqb g.output.0 j.0 ≡ c → node_level (node_at ms' g.output) ≡ cond (eqb at (g.output.0 - g.first.0)) (Some (level_of samples)) (node_level (node_at ms g.output))
        lv true c =
            let z : g.output.0 ≡ j.0 = eqb-true _ _ c in
            let q : eqb at (g.output.0 - g.first.0) ≡ true = eq-eqb at (g.output.0 - g.first.0) (omega arith) in
            ap node_level (look_this l t j x y found (record { id = refl; owner = refl; ports = refl; required = refl }) refl g.output c) ∙ rw q
        lv false c =
            let o = (t.outs g i).0 in
            let q : eqb at (g.output.0 - g.first.0) ≡ false = ne_eqb at (g.output.0 - g.first.0) (λ e. eqb-false g.output.0 j.0 c (omega (arith, e, o))) in
            ap node_level (look_other l t j x y found (record { id = refl; owner = refl; ports = refl; required = refl }) refl g.output c) ∙ rw q

        fl : (n : ℕ) → flag_at ms' g n ≡ cond (eqb n at) flag (flag_at ms g n)
        fl n = go (eqb n at) refl
          where
            go : (c : Bool) → eqb n at ≡ c → flag_at ms' g n ≡ cond c flag (flag_at ms g n)
            go true c =
                let z : n ≡ at = eqb-true _ _ c in
                let h : n < g.count = omega arith in
                let q : g.first.0 + n ≡ j.0 = omega arith in
                rw (lt-ltb n g.count h) (ap done_flag (look_this l t j x y found (record { id = refl; owner = refl; ports = refl; required = refl }) refl (id (g.first.0 + n)) (eq-eqb (g.first.0 + n) j.0 q)))
            go false c = ap (λ o. cond (ltb n g.count) (done_flag o) false) (look_other l t j x y found (record { id = refl; owner = refl; ports = refl; required = refl }) refl (id (g.first.0 + n)) (ne_eqb (g.first.0 + n) j.0 (λ e. eqb-false n at c (omega (arith, e, low)))))

    pub report_on : (b : NodeId) → is_on b g ≡ true → bus_of b reported ≡ at_voices (bus_of b l) (bus_of b l).seats (map (λ v. cond (is_number g.sequence v) (report at samples flag v) v) (bus_of b l).voices)
    report_on b on =
        with_voices l t j x y found (record { id = refl; owner = refl; ports = refl; required = refl }) refl b (map f (own_voices b ms l.voices))
        (map_same (own_of ms') (λ v. f (own_of ms v)) (filter (is_on b) l.voices) (λ v k. let r = in_filter (is_on b) l.voices v k in go v r.0 r.1 (eqb v.sequence g.sequence) refl)
        ∙ sym (map-map f (own_of ms) (filter (is_on b) l.voices)))
      where
        f : Own → Own
        f v = cond (is_number g.sequence v) (report at samples flag v) v

        go : (v : Voice) → In v l.voices → is_on b v ≡ true → (c : Bool) → eqb v.sequence g.sequence ≡ c → own_of ms' v ≡ cond c (report at samples flag (own_of ms v)) (own_of ms v)
        go v k o true c =
            let z : v ≡ g = t.single v g k i (eqb-true _ _ o ∙ sym (eqb-true _ _ on)) (eqb-true _ _ c) in
            subst (λ u. own_of ms' u ≡ report at samples flag (own_of ms u)) (sym z) own_this
        go v k o false c = own_other v k (λ e. eqb-false _ _ c (ap (λ (u : Voice). u.sequence) (unique t.own.0 v g k i (sym e ∙ owns))))
