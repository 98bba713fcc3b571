-- A new voice is instantiated: another bus is as it was, and its own bus has one voice more, with the next number.
use Prim.Native.Nat.{ℕ, ◌+◌, ◌-◌, ◌%◌, ◌≤◌, ◌<◌}
use native.Mathlib.Omega.{arith}
use native.Mathlib.Nat.{mod-eq_of_lt}
use mathlib.Core.Path.{◌≡◌, refl, sym, ap, ap₂, ◌∙◌, subst, fun_ext}
use mathlib.Core.Logic.{inl, inr, ⊎_elim}
use mathlib.Core.List.{List, [], ◌∷◌, ◌++◌, map}
use Rattle.std.specs.Prelude.{Option, None, Some, filter, find, option_map, Float}
use mathlib.Core.Bool.{Bool, true, false, cond, ◌&&◌, true≢false}
use lib.Dec.{eqb, ltb}
use lib.ListN.{length}
use lib.Ieee.{of_bits, binary32}
use borrow.Author.Tests.{eqb-true, eqb-false, eq-eqb, ne_eqb, ltb-true, lt-ltb}
use Rattle.std.proofs.lemmas.List.{map-append}
use Rattle.model.proofs.Grown.{grown_next}
use Rattle.lists.specs.Member.{In}
use Rattle.lists.proofs.Member.{in_map, in_snoc, in_left, in_right, in_append, map_same, some_inj, none_some}
use Rattle.lists.proofs.Filter.{filter_snoc_on, filter_snoc_off, in_filter}
use Rattle.lists.specs.Find.{Once}
use Rattle.lists.proofs.Find.{find_in, find_snoc_some, find_snoc_none, none_find}
use Rattle.node.specs.declared.record.NodeId.{NodeId}
use Rattle.node.specs.declared.record.VoiceId.{VoiceId}
use Rattle.node.specs.declared.record.Node.{Node}
use Rattle.graph.specs.View.{GraphView}
use Rattle.graph.specs.Node.{is_node, node_at, noise_of, raise_noise}
use Rattle.node.specs.Node.{with_id, with_noise}
use Rattle.synthdef.specs.Limits.{allowed}
use Rattle.synthdef.specs.Tables.{node_rows}
use Rattle.synthdef.specs.declared.def.SynthDef.{SynthDef}
use Rattle.voice.specs.declared.voices.Voice.{Voice}
use Rattle.voice.specs.declared.voices.VoiceState.{VoiceState}
use Rattle.voice.specs.Voice.{id, is_voice, is_on}
use Rattle.model.specs.Voice.{node_level}
use Rattle.model.specs.Clear.{done_flag}
use Rattle.model.specs.Spawn.{voice_nodes, voice_wires, def_node, const_node, pan_node, append_all, new_voice, next_voice, Spawn, pans, raised}
use Rattle.ledger.specs.Holder.{Holder, nobody, voice}
use Rattle.ledger.specs.Holder as holder
use Rattle.ledger.specs.Ledger.{Ledger, instantiate}
use Rattle.ledger.proofs.Ids.{once, ids_snoc}
use Rattle.ledger.proofs.NewVoice.{nodes_owned, nodes_count, output_in}
use Rattle.graph.specs.Change as change
use Rattle.ledger.proofs.Raised.{raise_same, look_raised, in_raised}
use Rattle.ledger.proofs.Nodes.{mine_instantiate, wires_same}
use Rattle.isolation.specs.Story.{phase_of}
use Rattle.isolation.proofs.Bus.{Own, empty, mine, BusPorts, port_count, seat}
use Rattle.isolation.proofs.Bus as bus
use Rattle.isolation.proofs.Part.{seat_for, seat_of, room_of, host_ports, own_of, flag_at, ports_now, seats_for, own_voices, bus_of_lem, bus_of, Seated, Tidy, own_same}
use Rattle.isolation.proofs.Grown.{old_nodes, ports_all, once_all, new_nodes}

-- a voice's new nodes: level 0, not done
new_quiet : (k : VoiceId) (def : SynthDef) (pan : Bool) (x : Node) → In x (voice_nodes k def pan) → (x.level ≡ of_bits binary32 0) × (x.done ≡ false)
new_quiet k def pan x i = ⊎_elim inner (pans pan) (in_append (map (def_node k) (node_rows def.nodes)) (cond pan (const_node k ∷ pan_node k ∷ []) []) x i)
  where
    inner : In x (map (def_node k) (node_rows def.nodes)) → (x.level ≡ of_bits binary32 0) × (x.done ≡ false)
    inner j = let r = in_map (def_node k) (node_rows def.nodes) x j in (ap (λ (z : Node). z.level) r.2, ap (λ (z : Node). z.done) r.2)

    pans : (c : Bool) → In x (cond c (const_node k ∷ pan_node k ∷ []) []) → (x.level ≡ of_bits binary32 0) × (x.done ≡ false)
    pans true (inl p) = (ap (λ (z : Node). z.level) p, ap (λ (z : Node). z.done) p)
    pans true (inr (inl p)) = (ap (λ (z : Node). z.level) p, ap (λ (z : Node). z.done) p)
    pans true (inr (inr j)) = absurd j
    pans false j = absurd j

-- a voice's new nodes count nothing
new_noise : (k : VoiceId) (def : SynthDef) (pan : Bool) (x : Node) → In x (voice_nodes k def pan) → x.noise ≡ 0
new_noise k def pan x i = ⊎_elim inner (pans pan) (in_append (map (def_node k) (node_rows def.nodes)) (cond pan (const_node k ∷ pan_node k ∷ []) []) x i)
  where
    inner : In x (map (def_node k) (node_rows def.nodes)) → x.noise ≡ 0
    inner j = ap (λ (z : Node). z.noise) (in_map (def_node k) (node_rows def.nodes) x j).2

    pans : (c : Bool) → In x (cond c (const_node k ∷ pan_node k ∷ []) []) → x.noise ≡ 0
    pans true (inl p) = ap (λ (z : Node). z.noise) p
    pans true (inr (inl p)) = ap (λ (z : Node). z.noise) p
    pans true (inr (inr j)) = absurd j
    pans false j = absurd j

grown_few : (xs : List Node) (g : GraphView) (m : ℕ) → ((x : Node) → In x g.nodes → x.noise ≤ m) → ((x : Node) → In x xs → x.noise ≡ 0) → (x : Node) → In x (append_all g xs).nodes → x.noise ≤ m
grown_few [] g m a b x i = a x i
grown_few (y ∷ xs) g m a b x i =
    grown_few xs (change.append g y) m (λ z j. ⊎_elim (a z) (λ e. let q : z.noise ≡ 0 = ap (λ (w : Node). w.noise) e ∙ b y (inl refl) in omega arith) (in_snoc g.nodes (with_id g.next y) z j)) (λ z j. b z (inr j)) x i

module _ (l : Ledger) (t : Tidy l) (spawn : Spawn) (ok : allowed spawn.def ≡ true) (st : VoiceState) (p : ℕ) where
  abbrev ns : List Node
  ns = l.shared.graph.nodes

  abbrev next : ℕ
  next = l.shared.graph.next

  abbrev xs : List Node
  xs = voice_nodes (next_voice l.shared) spawn.def (pans spawn.pan)

  abbrev after : Ledger
  after = (instantiate spawn st p l).ledger

  abbrev ns' : List Node
  ns' = after.shared.graph.nodes

  abbrev vs : List Voice
  vs = l.voices

  abbrev new : Voice
  new = new_voice spawn st p l.shared

  abbrev g : GraphView
  g = raised spawn.bus l.shared.graph

  is : ns' ≡ (append_all g xs).nodes
  is = (wires_same next (voice_wires spawn.def (pans spawn.pan)) (append_all g xs)).0

  pub next_is : after.shared.graph.next ≡ next + length xs
  next_is = (wires_same next (voice_wires spawn.def (pans spawn.pan)) (append_all g xs)).1 ∙ grown_next xs g

  below : (x : Node) → In x g.nodes → x.id.0 < next
  below x i = let r = in_raised spawn.bus ns x i in let e = r.2.0 in omega (arith, e, t.own.1.below r.0 r.1)

  old : (j : ℕ) → j < next → node_at ns' (id j) ≡ option_map (raise_noise spawn.bus) (node_at ns (id j))
  old j h = ap (λ z. node_at z (id j)) is ∙ old_nodes xs g j h ∙ look_raised spawn.bus ns (id j)

  same_level : (o : Option Node) → node_level (option_map (raise_noise spawn.bus) o) ≡ node_level o
  same_level None = refl
  same_level (Some x) = ap Some (raise_same spawn.bus (λ (y : Node). y.level) (λ m n. refl) x)

  same_done : (o : Option Node) → done_flag (option_map (raise_noise spawn.bus) o) ≡ done_flag o
  same_done None = refl
  same_done (Some x) = raise_same spawn.bus (λ (y : Node). y.done) (λ m n. refl) x

  own_stays : (v : Voice) → In v vs → own_of ns' v ≡ own_of ns v
  own_stays v j =
      own_same ns ns' v (t.outs v j) (λ i a b. let p = t.own.1.places v j in let h : i < next = omega arith in
      (ap node_level (old i h) ∙ same_level (node_at ns (id i)), ap done_flag (old i h) ∙ same_done (node_at ns (id i))))

  ports_after : (b : NodeId) → ports_now b ns' ≡ host_ports (option_map (raise_noise spawn.bus) (node_at ns b))
  ports_after b = ap (ports_now b) is ∙ ports_all xs g (λ x i. let e = nodes_owned (next_voice l.shared) spawn.def (pans spawn.pan) x i in omega arith) b ∙ ap host_ports (look_raised spawn.bus ns b)

  pub ports_stay : (b : NodeId) → eqb spawn.bus.0 b.0 ≡ false → ports_now b ns' ≡ ports_now b ns
  ports_stay b off = ports_after b ∙ go (node_at ns b) refl
    where
      go : (o : Option Node) → node_at ns b ≡ o → host_ports (option_map (raise_noise spawn.bus) o) ≡ host_ports o
      go None e = refl
      go (Some x) e =
          let z : x.id.0 ≡ b.0 = eqb-true _ _ (find_in (is_node b) ns x e).1 in
          ap (λ c. host_ports (Some (cond c (with_noise ((x.noise + 1) % 4294967296) x) x))) (ne_eqb x.id.0 spawn.bus.0 (λ q. eqb-false spawn.bus.0 b.0 off (sym q ∙ z)))

  pub ports_on : ports_now spawn.bus ns' ≡ option_map bus.counted (ports_now spawn.bus ns)
  ports_on = ports_after spawn.bus ∙ go (node_at ns spawn.bus) refl
    where
      go : (o : Option Node) → node_at ns spawn.bus ≡ o → host_ports (option_map (raise_noise spawn.bus) o) ≡ option_map bus.counted (host_ports o)
      go None e = refl
      go (Some x) e = ap (λ c. host_ports (Some (cond c (with_noise ((x.noise + 1) % 4294967296) x) x))) (find_in (is_node spawn.bus) ns x e).1 ∙ at (eqb x.owner.0 0)
        where
          at : (c : Bool) → cond c (Some (record { ports = x.ports; noise = (x.noise + 1) % 4294967296 })) None ≡ option_map bus.counted (cond c (Some (room_of x)) None)
          at true = refl
          at false = refl

  count_same : (o : Option BusPorts) → port_count (option_map bus.counted o) ≡ port_count o
  count_same None = refl
  count_same (Some r) = refl

  noise_is : (o : Option Node) → p < port_count (host_ports o) → noise_of o ≡ bus.noise_in (host_ports o)
  noise_is None h = absurd (omega arith)
  noise_is (Some x) h = at (eqb x.owner.0 0) h
    where
      at : (c : Bool) → p < port_count (cond c (Some (room_of x)) None) → x.noise ≡ bus.noise_in (cond c (Some (room_of x)) None)
      at true h = refl
      at false h = absurd (omega arith)

  fresh : find (is_voice new.id) vs ≡ None
  fresh = none_find (is_voice new.id) vs (λ v i. ne_eqb v.id.0 new.id.0 (λ e. omega (arith, e, t.own.0.below v i)))

  -- the holders that were there
  seat_old : (n q : ℕ) (x : Holder) → l.holders n q ≡ x → seat_of (vs ++ (new ∷ [])) x ≡ seat_of vs x
  seat_old n q nobody e = refl
  seat_old n q (holder.host j) e = refl
  seat_old n q (voice w) e =
      let s = t.seated n q w e in
      let f = once t.own.0 w s.who s.lives (eq-eqb _ _ s.is) in
      ap seat_for (find_snoc_some (is_voice w) vs new s.who f ∙ sym f)

  -- ---- another bus
  pub instantiate_off : (b : NodeId) → eqb spawn.bus.0 b.0 ≡ false → bus_of b after ≡ bus_of b l
  instantiate_off b off =
      ap (λ o. bus_of_lem l.shared.config l.shared.clock o (seats_for b o (vs ++ (new ∷ [])) after.holders) (own_voices b ns' (vs ++ (new ∷ [])))) (ports_stay b off)
      ∙ ap₂ (λ h ws. bus_of_lem l.shared.config l.shared.clock (ports_now b ns) h ws) (fun_ext seats) voices
    where
      off' : eqb b.0 spawn.bus.0 ≡ false
      off' = ne_eqb b.0 spawn.bus.0 (λ e. eqb-false _ _ off (sym e))

      seats : (q : ℕ) → seats_for b (ports_now b ns) (vs ++ (new ∷ [])) after.holders q ≡ seats_for b (ports_now b ns) vs l.holders q
      seats q = ap (λ x. cond (ltb q (port_count (ports_now b ns))) x empty) (rw off' (seat_old b.0 q (l.holders b.0 q) refl))

      voices : own_voices b ns' (vs ++ (new ∷ [])) ≡ own_voices b ns vs
      voices = ap (map (own_of ns')) (filter_snoc_off (is_on b) vs new off) ∙ map_same (own_of ns') (own_of ns) (filter (is_on b) vs) (λ v j. own_stays v (in_filter (is_on b) vs v j).0)

  -- ---- its own bus
  new_own : p < port_count (ports_now spawn.bus ns) → own_of ns' new ≡ bus.new_voice spawn.def spawn.rank (phase_of st) p (bus_of spawn.bus l)
  new_own range = ap₂ with_nodes (at spawn.def.output (output_in spawn.def ok)).0 (fun_ext flag) ∙ ap₂ with_output out (noise_is (node_at ns spawn.bus) range)
    where
      many : length (node_rows spawn.def.nodes) ≤ length xs
      many = let e = nodes_count (next_voice l.shared) spawn.def (pans spawn.pan) in omega arith

      at : (i : ℕ) → i < length (node_rows spawn.def.nodes) → (node_level (node_at ns' (id (next + i))) ≡ Some (of_bits binary32 0)) × (done_flag (node_at ns' (id (next + i))) ≡ false)
      at i h =
          let m = many in
          subst (λ z. (node_level (node_at z (id (next + i))) ≡ Some (of_bits binary32 0)) × (done_flag (node_at z (id (next + i))) ≡ false)) (sym is)
          (new_nodes (of_bits binary32 0) xs g below (new_quiet (next_voice l.shared) spawn.def (pans spawn.pan)) i (omega arith))

      flag : (i : ℕ) → flag_at ns' new i ≡ false
      flag i = go (ltb i new.count) refl
        where
          go : (c : Bool) → ltb i new.count ≡ c → cond c (done_flag (node_at ns' (id (next + i)))) false ≡ false
          go false e = refl
          go true e = (at i (ltb-true _ _ e)).1

      with_nodes : Option Float → (ℕ → Bool) → Own
      with_nodes lv fl = record { number = noise_of (node_at ns spawn.bus); rank = spawn.rank; birth = l.shared.clock; port = p; count = new.count; output = next + spawn.def.output - next; plan = new.plan; phase = phase_of st; level = lv; flags = fl }

      with_output : ℕ → ℕ → Own
      with_output o number = record { number = number; rank = spawn.rank; birth = l.shared.clock; port = p; count = new.count; output = o; plan = new.plan; phase = phase_of st; level = Some (of_bits binary32 0); flags = λ i. false }

      out : next + spawn.def.output - next ≡ spawn.def.output
      out = omega arith

  pub instantiate_on : p < port_count (ports_now spawn.bus ns) → bus_of spawn.bus after ≡ (bus.instantiate spawn.def spawn.rank (phase_of st) p (bus_of spawn.bus l)).bus
  instantiate_on range =
      ap (λ o. bus_of_lem l.shared.config l.shared.clock o (seats_for spawn.bus o (vs ++ (new ∷ [])) after.holders) (own_voices spawn.bus ns' (vs ++ (new ∷ [])))) ports_on
      ∙ ap₂ (λ h ws. bus_of_lem l.shared.config l.shared.clock (option_map bus.counted (ports_now spawn.bus ns)) h ws) (fun_ext seats) voices
    where
      here : eqb spawn.bus.0 spawn.bus.0 ≡ true
      here = eq-eqb spawn.bus.0 spawn.bus.0 refl

      found_new : find (is_voice new.id) (vs ++ (new ∷ [])) ≡ Some new
      found_new = find_snoc_none (is_voice new.id) vs new fresh ∙ rw (eq-eqb new.id.0 new.id.0 refl)

      seats : (q : ℕ) → seats_for spawn.bus (option_map bus.counted (ports_now spawn.bus ns)) (vs ++ (new ∷ [])) after.holders q ≡ seat p (mine (bus.noise_in (ports_now spawn.bus ns))) (seats_for spawn.bus (ports_now spawn.bus ns) vs l.holders) q
      seats q = rw (here, count_same (ports_now spawn.bus ns)) (go (eqb q p) refl)
        where
          go : (c : Bool) → eqb q p ≡ c → cond (ltb q (port_count (ports_now spawn.bus ns))) (seat_of (vs ++ (new ∷ [])) (cond c (voice (next_voice l.shared)) (l.holders spawn.bus.0 q))) empty
              ≡ cond c (mine (bus.noise_in (ports_now spawn.bus ns))) (cond (ltb q (port_count (ports_now spawn.bus ns))) (seat_of vs (l.holders spawn.bus.0 q)) empty)
          go false e = ap (λ x. cond (ltb q (port_count (ports_now spawn.bus ns))) x empty) (seat_old spawn.bus.0 q (l.holders spawn.bus.0 q) refl)
          go true e = let z : q ≡ p = eqb-true _ _ e in let h : q < port_count (ports_now spawn.bus ns) = omega arith in rw (lt-ltb q (port_count (ports_now spawn.bus ns)) h) (ap seat_for found_new ∙ ap mine (noise_is (node_at ns spawn.bus) range))

      voices : own_voices spawn.bus ns' (vs ++ (new ∷ [])) ≡ own_voices spawn.bus ns vs ++ (bus.new_voice spawn.def spawn.rank (phase_of st) p (bus_of spawn.bus l) ∷ [])
      voices =
          ap (map (own_of ns')) (filter_snoc_on (is_on spawn.bus) vs new here) ∙ map-append (own_of ns') (filter (is_on spawn.bus) vs) (new ∷ [])
          ∙ ap₂ (λ a c. a ++ (c ∷ [])) (map_same (own_of ns') (own_of ns) (filter (is_on spawn.bus) vs) (λ v j. own_stays v (in_filter (is_on spawn.bus) vs v j).0)) (new_own range)

  -- ---- what every run keeps
  raise_noise_lem : next + 2 ≤ 4294967296 → (x : Node) → In x ns → (x.noise ≤ (raise_noise spawn.bus x).noise) × ((raise_noise spawn.bus x).noise ≤ next + 1) × (is_node spawn.bus x ≡ true → x.noise < (raise_noise spawn.bus x).noise)
  raise_noise_lem room x i = go (is_node spawn.bus x)
    where
      go : (c : Bool) → (x.noise ≤ (cond c (with_noise ((x.noise + 1) % 4294967296) x) x).noise) × ((cond c (with_noise ((x.noise + 1) % 4294967296) x) x).noise ≤ next + 1) × (c ≡ true → x.noise < (cond c (with_noise ((x.noise + 1) % 4294967296) x) x).noise)
      go false = let f = t.few x i in (omega arith, omega arith, λ e. absurd (true≢false (sym e)))
      go true =
          let f = t.few x i in
          let h : x.noise + 1 < 4294967296 = omega arith in
          let e : (x.noise + 1) % 4294967296 ≡ x.noise + 1 = mod-eq_of_lt h in
          (omega arith, omega arith, λ z. omega arith)

  -- a node of the old ones, as it is after
  was : (b : NodeId) → b.0 < next → (n : Node) → node_at ns' b ≡ Some n → (x : Node) × (node_at ns b ≡ Some x) × (n ≡ raise_noise spawn.bus x)
  was b h n e = go (node_at ns b) refl (sym (old b.0 h) ∙ e)
    where
      go : (o : Option Node) → node_at ns b ≡ o → option_map (raise_noise spawn.bus) o ≡ Some n → (x : Node) × (node_at ns b ≡ Some x) × (n ≡ raise_noise spawn.bus x)
      go None f q = absurd (none_some q)
      go (Some x) f q = (x, f, sym (some_inj q))

  pub tidy_instantiate : next + 2 ≤ 4294967296 → (host : Node) → node_at ns spawn.bus ≡ Some host → host.owner.0 ≡ 0 → Tidy after
  tidy_instantiate room host found hosts₀ =
      record {
        own = (ids_snoc new refl t.own.0, mine_instantiate spawn (output_in spawn.def ok) st p l t.own.1);
        rows = subst (λ z. (j : NodeId) → Once (is_node j) z) (sym is) (once_all xs g below rows₁);
        outs = λ v j. ⊎_elim (t.outs v) (λ e. subst Out (sym e) (omega arith, let o = output_in spawn.def ok in omega arith)) (in_snoc vs new v j);
        seated = seated;
        fresh = λ n q h. let a = next_is in let u = k_below in let z : eqb n spawn.bus.0 ≡ false = ne_eqb n spawn.bus.0 (λ e. omega arith) in rw z (t.fresh n q (omega arith));
        single = λ u v a c e f. ⊎_elim (λ i. ⊎_elim (λ j. t.single u v i j e f) (λ q. absurd (lower u i v q e f)) (in_snoc vs new v c)) (λ q. ⊎_elim (λ j. absurd (lower v j u q (sym e) (sym f))) (λ r. q ∙ sym r) (in_snoc vs new v c)) (in_snoc vs new u a);
        few = λ x j. let a = next_is in let b = long in let z = grown_few xs g (next + 1) (λ y i. let r = in_map (raise_noise spawn.bus) ns y i in subst (λ (w : Node). w.noise ≤ next + 1) (sym r.2) (raise_noise_lem room r.0 r.1).1) (new_noise (next_voice l.shared) spawn.def (pans spawn.pan)) x (subst (In x) is j) in omega arith;
        hosted = λ v j. ⊎_elim (λ i. let h = t.hosted v i in hosts v.bus h.0 v.sequence (λ x e q. ((h.1 x e).0, let w = (h.1 x e).1 in let y = (raise_noise_lem room x (find_in (is_node v.bus) ns x e).0).0 in omega arith)))
            (λ e. subst Hosted (sym e) (hosts spawn.bus k_below (noise_of (node_at ns spawn.bus)) (λ x f q.
            let s : host ≡ x = some_inj (sym found ∙ f) in
            let i = find_in (is_node spawn.bus) ns x f in
            let w : noise_of (node_at ns spawn.bus) ≡ x.noise = ap noise_of f in
            let y = (raise_noise_lem room x i.0).2 i.1 in
            (ap (λ (z : Node). z.owner.0) (sym s) ∙ hosts₀, omega arith)))) (in_snoc vs new v j);
      }
    where
      Out : Voice → Type 0
      Out v = (v.first.0 ≤ v.output.0) × (v.output.0 < v.first.0 + v.count)

      Hosted : Voice → Type 0
      Hosted v = (v.bus.0 < after.shared.graph.next) × ((n : Node) → node_at ns' v.bus ≡ Some n → (n.owner.0 ≡ 0) × (v.sequence < n.noise))

      k_below : spawn.bus.0 < next
      k_below = let r = find_in (is_node spawn.bus) ns host found in let z : host.id.0 ≡ spawn.bus.0 = eqb-true _ _ r.1 in omega (arith, z, t.own.1.below host r.0)

      long : 1 ≤ length xs
      long = let o = output_in spawn.def ok in let e = nodes_count (next_voice l.shared) spawn.def (pans spawn.pan) in omega arith

      rows₁ : (j : NodeId) → Once (is_node j) g.nodes
      rows₁ j z i h =
          let r = in_map (raise_noise spawn.bus) ns z i in
          let q : is_node j r.0 ≡ true = ap (λ n. eqb n j.0) (sym (raise_same spawn.bus (λ (y : Node). y.id.0) (λ m n. refl) r.0) ∙ ap (λ (n : Node). n.id.0) (sym r.2)) ∙ h in
          look_raised spawn.bus ns j ∙ ap (option_map (raise_noise spawn.bus)) (t.rows j r.0 r.1 q) ∙ ap Some (sym r.2)

      lower : (u : Voice) → In u vs → (v : Voice) → v ≡ new → u.bus.0 ≡ v.bus.0 → u.sequence ≡ v.sequence → ⊥
      lower u i v q e f =
          let a : u.bus ≡ spawn.bus = ap (λ n. record { 0 = n }) (e ∙ ap (λ (z : Voice). z.bus.0) q) in
          let c : u.sequence ≡ host.noise = f ∙ ap (λ (z : Voice). z.sequence) q ∙ ap noise_of found in
          let h = ((t.hosted u i).1 host (ap (node_at ns) a ∙ found)).1 in
          omega arith

      hosts : (b : NodeId) → b.0 < next → (s : ℕ) → ((x : Node) → node_at ns b ≡ Some x → Unit {0} → (x.owner.0 ≡ 0) × (s < (raise_noise spawn.bus x).noise)) → (b.0 < after.shared.graph.next) × ((n : Node) → node_at ns' b ≡ Some n → (n.owner.0 ≡ 0) × (s < n.noise))
      hosts b h s f = (
        let a = next_is in omega arith,
        λ n e.
            let r = was b h n e in
            let y = f r.0 r.1 tt in
            subst (λ (w : Node). (w.owner.0 ≡ 0) × (s < w.noise)) (sym r.2) (raise_same spawn.bus (λ (w : Node). w.owner.0) (λ m n. refl) r.0 ∙ y.0, y.1),
      )

      seated : (n q : ℕ) (w : VoiceId) → after.holders n q ≡ voice w → Seated (vs ++ (new ∷ [])) n w
      seated n q w e = go (eqb n spawn.bus.0) refl (eqb q p) e
        where
          old_seat : l.holders n q ≡ voice w → Seated (vs ++ (new ∷ [])) n w
          old_seat f = let s = t.seated n q w f in record { who = s.who; lives = in_old s.who s.lives; is = s.is; on = s.on }
            where
              in_old : (v : Voice) → In v vs → In v (vs ++ (new ∷ []))
              in_old v i = in_left vs (new ∷ []) v i

          go : (c : Bool) → eqb n spawn.bus.0 ≡ c → (d : Bool) → cond (c && d) (voice (next_voice l.shared)) (l.holders n q) ≡ voice w → Seated (vs ++ (new ∷ [])) n w
          go true a true f =
              let z : next_voice l.shared ≡ w = cc in
              record { who = new; lives = in_right vs (new ∷ []) new (inl refl); is = ap (λ (x : VoiceId). x.0) z; on = sym (eqb-true _ _ a) }
          go true a false f = old_seat f
          go false a d f = old_seat f
