-- The host's calls: a node is added or removed, a port is connected or disconnected. What is no entry leaves the bus as it was.
use Prim.Native.Nat.{ℕ, ◌+◌, ◌≤◌, ◌<◌}
use native.Mathlib.Omega.{arith}
use mathlib.Core.Path.{◌≡◌, refl, sym, ap, ap₂, ◌∙◌, subst, fun_ext}
use mathlib.Core.Logic.{⊎_elim}
use mathlib.Core.List.{List, [], ◌∷◌, ◌++◌}
use Rattle.std.specs.Prelude.{Option, None, Some, filter, find, is_some}
use mathlib.Core.Bool.{Bool, true, false, not, cond, ◌&&◌, true≢false, false≢true}
use lib.Dec.{eqb, ltb}
use borrow.Author.Tests.{eqb-true, eqb-false, eq-eqb, ne_eqb, ltb-true, lt-ltb, le-ltb}
use Rattle.std.proofs.lemmas.Bool.{not-true}
use Rattle.rank.proofs.Cycle.{in_count}
use Rattle.graph.proofs.Together.{listed_in}
use Rattle.lists.specs.Member.{In}
use Rattle.lists.proofs.Member.{in_snoc, map_same, cond_same}
use Rattle.lists.proofs.Filter.{in_filter, filter_in}
use Rattle.lists.specs.Find.{Once}
use Rattle.lists.proofs.Find.{find_in, none_find, find_snoc_off, find_filter_same, once_filter}
use Rattle.rank.specs.Order.{upto}
use Rattle.node.specs.declared.record.NodeId.{NodeId}
use Rattle.node.specs.declared.record.VoiceId.{VoiceId}
use Rattle.node.specs.declared.record.Node.{Node}
use Rattle.edges.specs.Wiring.{listed}
use Rattle.graph.specs.View.{GraphView}
use Rattle.graph.specs.Node.{is_node, node_at, host_node}
use Rattle.node.specs.Node.{with_id}
use Rattle.graph.specs.Change as change
use Rattle.graph.specs.Refuse.{add_refusal, host_refusal}
use Rattle.voice.specs.declared.voices.Voice.{Voice}
use Rattle.voice.specs.Voice.{id, is_on}
use Rattle.model.specs.Voice.{node_level}
use Rattle.model.specs.Clear.{done_flag}
use Rattle.ledger.specs.Holder.{Holder, by_host, hold, drop_node, nobody, voice}
use Rattle.ledger.specs.Ledger.{Ledger, at_graph}
use Rattle.ledger.proofs.Ids.{above}
use Rattle.ledger.proofs.Allowed.{host_at}
use Rattle.ledger.proofs.Nodes.{Mine, own_preserved}
use Rattle.isolation.specs.Story.{held_by, ports_at}
use Rattle.isolation.proofs.Bus.{Seat, empty, port_count, seat, at_ports}
use Rattle.isolation.proofs.Part.{seat_of, host_ports, own_of, ports_now, seats_for, own_voices, bus_of_lem, bus_of, Tidy, own_same, ports_at_lem}
use Rattle.isolation.proofs.Grown.{old_node, new_node, once_one, same_nodes}

-- a mask of no ports
pub no_ports : (x : ℕ → Seat) → ◌≡◌ {A = ℕ → Seat} (λ p. cond (ltb p 0) (x p) empty) (λ p. empty)
no_ports x = fun_ext (λ p. ap (λ c. cond c (x p) empty) (le-ltb p 0 (omega arith)))

-- ---- a node is added
module _ (l : Ledger) (t : Tidy l) (kind : List ℕ) (ports required : ℕ) (values glides : Bool) (e : add_refusal l.shared.graph kind ports required ≡ None) where
  abbrev x : Node
  x = host_node kind ports required values glides

  abbrev next : ℕ
  next = l.shared.graph.next

  abbrev ns : List Node
  ns = l.shared.graph.nodes

  abbrev ns' : List Node
  ns' = ns ++ (with_id next x ∷ [])

  abbrev added : Ledger
  added = at_graph l (change.append l.shared.graph x) l.holders

  voices_added : (b : NodeId) → own_voices b ns' l.voices ≡ own_voices b ns l.voices
  voices_added b = map_same (own_of ns') (own_of ns) (filter (is_on b) l.voices) (λ v j. let i = (in_filter (is_on b) l.voices v j).0 in
      own_same ns ns' v (t.outs v i) (same_nodes ns ns' v next (old_node ns next x) (t.own.1.places v i)))

  pub add_other : (b : NodeId) → eqb next b.0 ≡ false → bus_of b added ≡ bus_of b l
  add_other b off =
      ap₂ (λ o ws. bus_of_lem l.shared.config l.shared.clock o (seats_for b o l.voices l.holders) ws)
      (ap host_ports (find_snoc_off (is_node b) ns (with_id next x) off)) (voices_added b)

  pub add_own : (b : NodeId) → eqb next b.0 ≡ true → bus_of b added ≡ at_ports (Some (record { ports = ports; noise = 0 })) (λ p. empty) (bus_of b l)
  add_own b on =
      ap₂ (λ o ws. bus_of_lem l.shared.config l.shared.clock o (seats_for b o l.voices l.holders) ws)
      (ap host_ports (ap (λ k. node_at ns' k) (sym is) ∙ new_node ns next x t.own.1.below)) (voices_added b)
      ∙ ap (λ h. bus_of_lem l.shared.config l.shared.clock (Some (record { ports = ports; noise = 0 })) h (own_voices b ns l.voices)) (fun_ext free)
    where
      is : id next ≡ b
      is = ap (λ n. record { 0 = n }) (eqb-true _ _ on)

      free : (p : ℕ) → seats_for b (Some (record { ports = ports; noise = 0 })) l.voices l.holders p ≡ empty
      free p = ap (λ y. cond (ltb p ports) (seat_of l.voices y) empty) (t.fresh b.0 p (let z : next ≡ b.0 = eqb-true _ _ on in omega arith)) ∙ cond_same (ltb p ports) empty

  pub tidy_add : Tidy added
  tidy_add =
      record {
        own = own_preserved.add_node l kind ports required values glides e t.own;
        rows = once_one ns next x t.own.1.below t.rows;
        outs = t.outs;
        seated = t.seated;
        fresh = λ n p h. t.fresh n p (omega arith);
        single = t.single;
        few = λ y i. ⊎_elim (λ k. let f = t.few y k in omega arith) (λ q. let z : y.noise ≡ 0 = ap (λ (n : Node). n.noise) q in omega arith) (in_snoc ns (with_id next x) y i);
        hosted = λ v i. let h = t.hosted v i in let b = h.0 in (omega arith, λ n q. h.1 n (sym (old_node ns next x v.bus.0 b) ∙ q));
      }

-- ---- a node is removed
module _ (l : Ledger) (t : Tidy l) (k : NodeId) (e : host_refusal l.shared.graph k ≡ None) where
  abbrev ms : List Node
  ms = l.shared.graph.nodes

  abbrev ms' : List Node
  ms' = filter (λ x. not (is_node k x)) ms

  abbrev removed : Ledger
  removed = at_graph l (change.remove_node l.shared.graph k) (drop_node k l.holders)

  others_stay : (j : NodeId) → eqb j.0 k.0 ≡ false → node_at ms' j ≡ node_at ms j
  others_stay j off = find_filter_same (is_node j) (λ x. not (is_node k x)) (λ x h. ap not (ap (λ n. eqb n k.0) (eqb-true _ _ h) ∙ off)) ms

  itself_goes : node_at ms' k ≡ None
  itself_goes = none_find (is_node k) ms' (λ x i. not-true (is_node k x) (in_filter (λ x. not (is_node k x)) ms x i).1)

  -- no voice has it among its definition's nodes
  own_removed : (v : Voice) → In v l.voices → own_of ms' v ≡ own_of ms v
  own_removed v i = own_same ms ms' v (t.outs v i) (λ j a b. let q = at j a b (eqb j k.0) refl in (ap node_level q, ap done_flag q))
    where
      at : (j : ℕ) → v.first.0 ≤ j → j < v.first.0 + v.count → (c : Bool) → eqb j k.0 ≡ c → node_at ms' (id j) ≡ node_at ms (id j)
      at j a b false c = others_stay (id j) c
      at j a b true c =
          let n = host_at l.shared.graph k e in
          let r = find_in (is_node k) ms n.0 n.1 in
          let q : n.0.id.0 ≡ k.0 = eqb-true _ _ r.1 in
          let z : j ≡ k.0 = eqb-true _ _ c in
          let o : n.0.owner.0 ≡ v.id.0 = t.own.1.owned v i n.0 r.0 (omega arith) (omega arith) in
          let h : n.0.owner.0 ≡ 0 = n.2 in
          absurd (omega (arith, o, h, above t.own.0 v i))

  voices_removed : (b : NodeId) → own_voices b ms' l.voices ≡ own_voices b ms l.voices
  voices_removed b = map_same (own_of ms') (own_of ms) (filter (is_on b) l.voices) (λ v j. own_removed v (in_filter (is_on b) l.voices v j).0)

  pub remove_own : (b : NodeId) → eqb k.0 b.0 ≡ true → bus_of b removed ≡ at_ports None (λ p. empty) (bus_of b l)
  remove_own b on =
      ap₂ (λ o ws. bus_of_lem l.shared.config l.shared.clock o (seats_for b o l.voices (drop_node k l.holders)) ws)
      (ap host_ports (ap (node_at ms') (sym is) ∙ itself_goes)) (voices_removed b)
      ∙ ap (λ h. bus_of_lem l.shared.config l.shared.clock None h (own_voices b ms l.voices)) (no_ports (λ p. seat_of l.voices (drop_node k l.holders b.0 p)))
    where
      is : k ≡ b
      is = ap (λ n. record { 0 = n }) (eqb-true _ _ on)

  in_listed : (ps : List ℕ) (p : ℕ) → listed ps p ≡ true → In p ps
  in_listed ps p h = go (find (λ q. eqb q p) ps) refl h
    where
      go : (o : Option ℕ) → find (λ q. eqb q p) ps ≡ o → is_some o ≡ true → In p ps
      go (Some q) f g = let r = find_in (λ q. eqb q p) ps q f in subst (λ n. In n ps) (eqb-true _ _ r.1) r.0
      go None f g = absurd (false≢true g)

  held_listed : (b : NodeId) (p : ℕ) → p < port_count (ports_now b ms) → listed (held_by b k l) p ≡ by_host k (l.holders b.0 p)
  held_listed b p h = go (by_host k (l.holders b.0 p)) refl
    where
      count : ports_at b l ≡ port_count (ports_now b ms)
      count = ports_at_lem (node_at ms b)

      inside : In p (upto (ports_at b l))
      inside = in_count (ports_at b l) 0 p (omega arith) (let c = count in omega arith)

      go : (c : Bool) → by_host k (l.holders b.0 p) ≡ c → listed (held_by b k l) p ≡ c
      go true f = listed_in (held_by b k l) p (filter_in (λ q. by_host k (l.holders b.0 q)) (upto (ports_at b l)) p inside f)
      go false f = no (listed (held_by b k l) p) refl
        where
          no : (d : Bool) → listed (held_by b k l) p ≡ d → d ≡ false
          no false g = refl
          no true g = absurd (true≢false (sym (in_filter (λ q. by_host k (l.holders b.0 q)) (upto (ports_at b l)) p (in_listed (held_by b k l) p g)).1 ∙ f))

  pub remove_other : (b : NodeId) → eqb k.0 b.0 ≡ false → bus_of b removed ≡ at_ports (bus_of b l).ports (λ p. cond (listed (held_by b k l) p) empty ((bus_of b l).seats p)) (bus_of b l)
  remove_other b off =
      ap₂ (λ o ws. bus_of_lem l.shared.config l.shared.clock o (seats_for b o l.voices (drop_node k l.holders)) ws) (ap host_ports (others_stay b off')) (voices_removed b)
      ∙ ap (λ h. bus_of_lem l.shared.config l.shared.clock (ports_now b ms) h (own_voices b ms l.voices)) (fun_ext (λ p. go p (ltb p (port_count (ports_now b ms))) refl))
    where
      off' : eqb b.0 k.0 ≡ false
      off' = ne_eqb b.0 k.0 (λ q. eqb-false _ _ off (sym q))

      drop : (y : Holder) → seat_of l.voices (cond (by_host k y) nobody y) ≡ cond (by_host k y) empty (seat_of l.voices y)
      drop y = at (by_host k y)
        where
          at : (c : Bool) → seat_of l.voices (cond c nobody y) ≡ cond c empty (seat_of l.voices y)
          at true = refl
          at false = refl

      go : (p : ℕ) (c : Bool) → ltb p (port_count (ports_now b ms)) ≡ c
          → cond c (seat_of l.voices (drop_node k l.holders b.0 p)) empty ≡ cond (listed (held_by b k l) p) empty (cond c (seat_of l.voices (l.holders b.0 p)) empty)
      go p false f = sym (cond_same (listed (held_by b k l) p) empty)
      go p true f = rw (off', held_listed b p (ltb-true _ _ f)) (drop (l.holders b.0 p))

  pub remove_off : (b : NodeId) → eqb k.0 b.0 ≡ false → held_by b k l ≡ [] → bus_of b removed ≡ bus_of b l
  remove_off b off none_held = remove_other b off ∙ ap (λ ps. at_ports (bus_of b l).ports (λ p. cond (listed ps p) empty ((bus_of b l).seats p)) (bus_of b l)) none_held

  pub tidy_remove : Tidy removed
  tidy_remove =
      record {
        own = own_preserved.remove_node l k e t.own;
        rows = λ j. once_filter (is_node j) (λ x. not (is_node k x)) ms (t.rows j);
        outs = t.outs;
        seated = λ n p w q. t.seated n p w (was n p w (eqb n k.0) (l.holders n p) q);
        fresh = λ n p h. ap (λ y. cond (eqb n k.0) nobody (cond (by_host k y) nobody y)) (t.fresh n p h) ∙ cond_same (eqb n k.0) nobody;
        single = t.single;
        few = λ y i. t.few y (in_filter (λ x. not (is_node k x)) ms y i).0;
        hosted = λ v i. let h = t.hosted v i in (h.0, λ n q. h.1 n (back v.bus n q));
      }
    where
      was : (n p : ℕ) (w : VoiceId) (c : Bool) (y : Holder) → cond c nobody (cond (by_host k y) nobody y) ≡ voice w → y ≡ voice w
      was n p w true y q = let z : ◌≡◌ {A = ℕ} 0 1 = cc in absurd (omega arith)
      was n p w false y q = at (by_host k y) q
        where
          at : (c : Bool) → cond c nobody y ≡ voice w → y ≡ voice w
          at true q = let z : ◌≡◌ {A = ℕ} 0 1 = cc in absurd (omega arith)
          at false q = q

      back : (j : NodeId) (n : Node) → node_at ms' j ≡ Some n → node_at ms j ≡ Some n
      back j n q = let r = find_in (is_node j) ms' n q in t.rows j n (in_filter (λ x. not (is_node k x)) ms n r.0).0 r.1

-- ---- a port is connected to a host node, or disconnected: y is its holder then, a host node or nobody
module _ (l : Ledger) (t : Tidy l) (k : NodeId) (p : ℕ) (y : Holder) (g : GraphView) (nodes : g.nodes ≡ l.shared.graph.nodes) (same : g.next ≡ l.shared.graph.next)
    (notVoice : (w : VoiceId) → y ≡ voice w → ⊥) (live : k.0 < l.shared.graph.next) where
  abbrev wired : Ledger
  wired = at_graph l g (hold k p y l.holders)

  pub wire_other : (b : NodeId) → eqb k.0 b.0 ≡ false → bus_of b wired ≡ bus_of b l
  wire_other b off =
      ap (λ ns. bus_of_lem l.shared.config l.shared.clock (ports_now b ns) (seats_for b (ports_now b ns) l.voices (hold k p y l.holders)) (own_voices b ns l.voices)) nodes
      ∙ ap (λ h. bus_of_lem l.shared.config l.shared.clock (ports_now b l.shared.graph.nodes) h (own_voices b l.shared.graph.nodes l.voices))
      (fun_ext (λ q. rw (ne_eqb b.0 k.0 (λ z. eqb-false _ _ off (sym z)))))

  pub wire_own : (b : NodeId) → eqb k.0 b.0 ≡ true → (s : Seat) → seat_of l.voices y ≡ s → p < port_count (ports_now b l.shared.graph.nodes)
      → bus_of b wired ≡ at_ports (bus_of b l).ports (seat p s (bus_of b l).seats) (bus_of b l)
  wire_own b on s is range =
      ap (λ ns. bus_of_lem l.shared.config l.shared.clock (ports_now b ns) (seats_for b (ports_now b ns) l.voices (hold k p y l.holders)) (own_voices b ns l.voices)) nodes
      ∙ ap (λ h. bus_of_lem l.shared.config l.shared.clock (ports_now b l.shared.graph.nodes) h (own_voices b l.shared.graph.nodes l.voices))
      (fun_ext (λ q. rw (eq-eqb b.0 k.0 (sym (eqb-true _ _ on))) (go q (eqb q p) refl)))
    where
      go : (q : ℕ) (c : Bool) → eqb q p ≡ c → cond (ltb q (port_count (ports_now b l.shared.graph.nodes))) (seat_of l.voices (cond c y (l.holders b.0 q))) empty
          ≡ cond c s (cond (ltb q (port_count (ports_now b l.shared.graph.nodes))) (seat_of l.voices (l.holders b.0 q)) empty)
      go q false e = refl
      go q true e = let z : q ≡ p = eqb-true _ _ e in let h : q < port_count (ports_now b l.shared.graph.nodes) = omega arith in rw (lt-ltb q (port_count (ports_now b l.shared.graph.nodes)) h) is

  pub tidy_wire : Tidy wired
  tidy_wire =
      record {
        own = (t.own.0, subst (λ (z : ℕ). Mine g.nodes z l.voices) (sym same) (subst (λ ns. Mine ns l.shared.graph.next l.voices) (sym nodes) t.own.1));
        rows = subst (λ ns. (j : NodeId) → Once (is_node j) ns) (sym nodes) t.rows;
        outs = t.outs;
        seated = λ n q w e. t.seated n q w (was n q w (eqb n k.0 && eqb q p) e);
        fresh = λ n q h. let z : eqb n k.0 ≡ false = ne_eqb n k.0 (λ e. omega arith) in rw z (t.fresh n q (omega arith));
        single = t.single;
        few = λ y i. let f = t.few y (subst (In y) nodes i) in omega arith;
        hosted = λ v i. let h = t.hosted v i in let b = h.0 in (omega arith, λ n q. h.1 n (ap (λ ns. node_at ns v.bus) (sym nodes) ∙ q));
      }
    where
      was : (n q : ℕ) (w : VoiceId) (c : Bool) → cond c y (l.holders n q) ≡ voice w → l.holders n q ≡ voice w
      was n q w true e = absurd (notVoice w e)
      was n q w false e = e
