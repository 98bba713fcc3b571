-- A voice's definition's nodes are its own: a live node whose id is one of its places belongs to it. So the removal of other voices
-- leaves its done flags, and its silence is its own.
use Prim.Native.Nat.{ℕ, ◌+◌, ◌≤◌, ◌<◌, min}
use native.Mathlib.Omega.{arith}
use native.Mathlib.Nat.{min-le_left}
use mathlib.Core.Path.{◌≡◌, refl, sym, ap, ◌∙◌, subst}
use mathlib.Core.Logic.{◌⊎◌, inl, inr, ⊎_elim}
use mathlib.Core.List.{List, [], ◌∷◌, ◌++◌, map}
use Rattle.std.specs.Prelude.{Option, None, Some, filter}
use mathlib.Core.Bool.{Bool, true, false, not, cond, false≢true}
use lib.ListN.{length}
use borrow.Author.Tests.{eqb-true, ne_eqb}
use Rattle.model.proofs.Grown.{grown_next}
use Rattle.rank.proofs.Cycle.{count_in}
use Rattle.lists.specs.Member.{In}
use Rattle.lists.proofs.Member.{in_snoc, in_map, map_same}
use Rattle.lists.proofs.Find.{find_in, find_none, none_find, find_filter_some}
use Rattle.lists.proofs.Filter.{in_filter, filter_in}
use Rattle.node.specs.declared.record.NodeId.{NodeId}
use Rattle.node.specs.declared.record.VoiceId.{VoiceId}
use Rattle.node.specs.declared.record.Node.{Node}
use Rattle.node.specs.declared.refusal.Refusal.TheVariants.{NoPort}
use Rattle.graph.specs.View.{GraphView}
use Rattle.graph.specs.Node.{is_node, owned_by, node_at, host_node, with_id, replaced, noise_raised}
use Rattle.graph.specs.Change as change
use Rattle.rank.specs.Order.{upto}
use Rattle.synthdef.specs.Tables.{node_rows}
use Rattle.synthdef.specs.Plan.{plan_silent}
use Rattle.store.specs.declared.config.Config.{Config}
use Rattle.voice.specs.declared.voices.Voice.{Voice}
use Rattle.voice.specs.declared.voices.VoiceState.{VoiceState}
use Rattle.voice.specs.declared.voices.VoiceState.TheVariants.{Tracked, Fading, Loose}
use Rattle.voice.specs.declared.voices.Fade.{Fade}
use Rattle.voice.specs.Voice.{id, is_voice, with_state, begin_fade, moved}
use Rattle.model.specs.Spawn.{Wire, voice_nodes, voice_wires, append_all, wire_all, new_voice, next_voice, state_under, tries, fade_node, fade_of, Spawn, pans, raised}
use Rattle.model.specs.Clear.{done_flag, is_silent}
use Rattle.model.specs.Render.{is_sounding}
use Rattle.model.specs.Call.{Call}
use Rattle.ledger.specs.Ledger.{Ledger, new_ledger, port_free, port_held, without_voice, cut_off, stolen, steal_voice, instantiate, instantiate_or, place_within_budget, refused}
use Rattle.ledger.specs.Clear.{ended, without_voices, ended_voices}
use Rattle.ledger.specs.Render.{one_more, counted_if}
use Rattle.ledger.specs.Call.{run}
use Rattle.ledger.proofs.Raised.{in_raised}
use Rattle.ledger.proofs.Ids.{unique}
use Rattle.ledger.proofs.Preserved.{place_kept, Preserves, kept_run}
use Rattle.ledger.proofs.Managed.{IdsOf, managed_kept, ids_preserved, ids_budgeted, ids_steal}
use Rattle.ledger.proofs.NewVoice.{nodes_owned, nodes_count, output_in}
use Rattle.ledger.proofs.Allowed.{spawn_allowed}

-- the place of a voice's output
pub record Place (v : Voice) : Type 0 where
  pub at : ℕ
  pub below : at < v.count
  pub is : v.output ≡ id (v.first.0 + at)

pub record Mine (ns : List Node) (next : ℕ) (vs : List Voice) : Type 0 where
  pub below : (x : Node) → In x ns → x.id.0 < next
  pub places : (v : Voice) → In v vs → v.first.0 + v.count ≤ next
  pub owned : (v : Voice) → In v vs → (x : Node) → In x ns → v.first.0 ≤ x.id.0 → x.id.0 < v.first.0 + v.count → x.owner.0 ≡ v.id.0
  -- its output is one of its places
  pub output : (v : Voice) → In v vs → Place v

-- ---- moves
pub mine_less : {ns : List Node} {next : ℕ} {vs : List Voice} (t : Node → Bool) (u : Voice → Bool) → Mine ns next vs → Mine (filter t ns) next (filter u vs)
mine_less {ns} {next} {vs} t u m =
    record {
      below = λ x i. m.below x (in_filter t ns x i).0;
      places = λ v i. m.places v (in_filter u vs v i).0;
      owned = λ v i x j. m.owned v (in_filter u vs v i).0 x (in_filter t ns x j).0;
      output = λ v i. m.output v (in_filter u vs v i).0;
    }

pub mine_nodes : {ns : List Node} {next : ℕ} {vs : List Voice} (t : Node → Bool) → Mine ns next vs → Mine (filter t ns) next vs
mine_nodes {ns} {next} {vs} t m =
    record { below = λ x i. m.below x (in_filter t ns x i).0; places = m.places; owned = λ v i x j. m.owned v i x (in_filter t ns x j).0; output = m.output }

pub mine_append : {ns : List Node} {next : ℕ} {vs : List Voice} (n : Node) → Mine ns next vs → Mine (ns ++ (with_id next n ∷ [])) (next + 1) vs
mine_append {ns} {next} {vs} n m =
    record {
      below = λ x i. ⊎_elim (λ j. omega (arith, m.below x j)) (λ e. let z : x.id.0 ≡ next = ap (λ (y : Node). y.id.0) e in omega arith) (in_snoc ns (with_id next n) x i);
      places = λ v i. omega (arith, m.places v i);
      owned = λ v i x j a b. ⊎_elim (λ k. m.owned v i x k a b) (λ e. let z : x.id.0 ≡ next = ap (λ (y : Node). y.id.0) e in absurd (omega (arith, z, b, m.places v i))) (in_snoc ns (with_id next n) x j);
      output = m.output;
    }

pub mine_map : {ns : List Node} {next : ℕ} {vs : List Voice} (f : Voice → Voice) → ((v : Voice) → (f v).first ≡ v.first) → ((v : Voice) → (f v).count ≡ v.count) → ((v : Voice) → (f v).id ≡ v.id) → ((v : Voice) → (f v).output ≡ v.output) → Mine ns next vs → Mine ns next (map f vs)
mine_map {ns} {next} {vs} f a b c d m =
    record {
      below = m.below;
      places = λ v i. let r = in_map f vs v i in rw (r.2, a r.0, b r.0) (m.places r.0 r.1);
      owned = λ v i x j. let r = in_map f vs v i in rw (r.2, a r.0, b r.0, c r.0) (m.owned r.0 r.1 x j);
      output = λ v i.
          let r = in_map f vs v i in
          let p = m.output r.0 r.1 in
          subst Place (sym r.2)
          (record { at = p.at; below = rw (b r.0) p.below; is = d r.0 ∙ p.is ∙ ap (λ (k : NodeId). id (k.0 + p.at)) (sym (a r.0)) });
    }

pub mine_replaced : {ns : List Node} {next : ℕ} {vs : List Voice} (k : NodeId) (x n : Node) → node_at ns k ≡ Some x → n.id ≡ x.id → n.owner ≡ x.owner → Mine ns next vs → Mine (replaced ns n) next vs
mine_replaced {ns} {next} {vs} k x n e i o m =
    record {
      below = λ y j. let r = was y j in let z = r.2.0 in omega (arith, z, m.below r.0 r.1);
      places = m.places;
      owned = λ v q y j a b. let r = was y j in let z = r.2 in let h : v.first.0 ≤ r.0.id.0 = omega arith in let g : r.0.id.0 < v.first.0 + v.count = omega arith in z.1 ∙ m.owned v q r.0 r.1 h g;
      output = m.output;
    }
  where
    was : (y : Node) → In y (replaced ns n) → (z : Node) × In z ns × ((y.id.0 ≡ z.id.0) × (y.owner.0 ≡ z.owner.0))
    was y j = let r = in_map (λ m. cond (is_node n.id m) n m) ns y j in go r.0 r.1 (is_node n.id r.0) r.2
      where
        go : (z : Node) → In z ns → (b : Bool) → y ≡ cond b n z → (z : Node) × In z ns × ((y.id.0 ≡ z.id.0) × (y.owner.0 ≡ z.owner.0))
        go z q true s = (x, (find_in (is_node k) ns x e).0, (ap (λ (w : Node). w.id.0) s ∙ ap (λ (w : NodeId). w.0) i, ap (λ (w : Node). w.owner.0) s ∙ ap (λ (w : VoiceId). w.0) o))
        go z q false s = (z, q, (ap (λ (w : Node). w.id.0) s, ap (λ (w : Node). w.owner.0) s))

-- ---- a new voice's nodes
-- an old node, or one of the new ones, under a new id
pub in_grown : (xs : List Node) (g : GraphView) (x : Node) → In x (append_all g xs).nodes
    → In x g.nodes ⊎ ((y : Node) × In y xs × (x.owner.0 ≡ y.owner.0) × (g.next ≤ x.id.0) × (x.id.0 < g.next + length xs))
in_grown [] g x i = inl i
in_grown (n ∷ xs) g x i =
    ⊎_elim
    (λ j. ⊎_elim inl (λ e. let z : x.id.0 ≡ g.next = ap (λ (y : Node). y.id.0) e in inr (n, inl refl, ap (λ (y : Node). y.owner.0) e, omega arith, omega arith)) (in_snoc g.nodes (with_id g.next n) x j))
    (λ r. let a = r.3 in let b = r.4 in inr (r.0, inr r.1, r.2, omega arith, omega arith)) (in_grown xs (change.append g n) x i)

pub wires_same : (base : ℕ) (ws : List Wire) (g : GraphView) → ((wire_all base g ws).nodes ≡ g.nodes) × ((wire_all base g ws).next ≡ g.next)
wires_same base [] g = (refl, refl)
wires_same base (w ∷ ws) g = wires_same base ws (change.connect g (id (base + w.from)) (id (base + w.to)) w.port)

mine_raised : {ns : List Node} {next : ℕ} {vs : List Voice} (bus : NodeId) → Mine ns next vs → Mine (noise_raised bus ns) next vs
mine_raised {ns} {next} {vs} bus m =
    record {
      below = λ x i. let r = in_raised bus ns x i in let e = r.2.0 in omega (arith, e, m.below r.0 r.1);
      places = m.places;
      owned = λ v q x i a b. let r = in_raised bus ns x i in let e = r.2.0 in let h : v.first.0 ≤ r.0.id.0 = omega arith in let g : r.0.id.0 < v.first.0 + v.count = omega arith in r.2.1 ∙ m.owned v q r.0 r.1 h g;
      output = m.output;
    }

abbrev pub MineOf : Ledger → Type 0
MineOf l = Mine l.shared.graph.nodes l.shared.graph.next l.voices

pub mine_instantiate : (spawn : Spawn) → spawn.def.output < length (node_rows spawn.def.nodes) → (s : VoiceState) (p : ℕ) (l : Ledger) → MineOf l → MineOf (instantiate spawn s p l).ledger
mine_instantiate spawn sings s p l m₀ =
    subst (λ ns. Mine ns (instantiate spawn s p l).ledger.shared.graph.next (l.voices ++ (v ∷ []))) (sym same.0)
    (subst (λ k. Mine (append_all g xs).nodes k (l.voices ++ (v ∷ []))) (sym (same.1 ∙ grown_next xs g)) all)
  where
    g : GraphView
    g = raised spawn.bus l.shared.graph

    m : Mine g.nodes g.next l.voices
    m = mine_raised spawn.bus m₀

    v : Voice
    v = new_voice spawn s p l.shared

    xs : List Node
    xs = voice_nodes (next_voice l.shared) spawn.def (pans spawn.pan)

    same : ((wire_all g.next (append_all g xs) (voice_wires spawn.def (pans spawn.pan))).nodes ≡ (append_all g xs).nodes) × ((wire_all g.next (append_all g xs) (voice_wires spawn.def (pans spawn.pan))).next ≡ (append_all g xs).next)
    same = wires_same g.next (voice_wires spawn.def (pans spawn.pan)) (append_all g xs)

    many : v.count ≤ length xs
    many = let e = nodes_count (next_voice l.shared) spawn.def (pans spawn.pan) in omega arith

    own : (u : Voice) → In u (l.voices ++ (v ∷ [])) → (x : Node) → In x (append_all g xs).nodes → u.first.0 ≤ x.id.0 → x.id.0 < u.first.0 + u.count → x.owner.0 ≡ u.id.0
    own u i x j a b = ⊎_elim old new (in_snoc l.voices v u i)
      where
        old : In u l.voices → x.owner.0 ≡ u.id.0
        old k = ⊎_elim (λ q. m.owned u k x q a b) (λ r. let c = r.3 in absurd (omega (arith, b, c, m.places u k))) (in_grown xs g x j)

        new : u ≡ v → x.owner.0 ≡ u.id.0
        new e =
            let f : u.first.0 ≡ g.next = ap (λ (y : Voice). y.first.0) e in
            ⊎_elim (λ q. absurd (omega (arith, a, f, m.below x q))) (λ r. r.2 ∙ nodes_owned (next_voice l.shared) spawn.def (pans spawn.pan) r.0 r.1 ∙ ap (λ (y : Voice). y.id.0) (sym e)) (in_grown xs g x j)

    all : Mine (append_all g xs).nodes (g.next + length xs) (l.voices ++ (v ∷ []))
    all =
        record {
          below = λ x i. ⊎_elim (λ j. omega (arith, m.below x j)) (λ r. r.4) (in_grown xs g x i);
          places = λ u i. ⊎_elim (λ j. omega (arith, m.places u j)) (λ e. subst (λ (y : Voice). y.first.0 + y.count ≤ g.next + length xs) (sym e) (omega (arith, many))) (in_snoc l.voices v u i);
          owned = own;
          output = λ u i. ⊎_elim (λ j. m.output u j) (λ e. subst Place (sym e) (record { at = spawn.def.output; below = sings; is = refl })) (in_snoc l.voices v u i);
        }

-- ---- every call
pub begin_same : {A : Type 0} (get : Voice → A) → ((s : VoiceState) (v : Voice) → get (with_state s v) ≡ get v) → (w : VoiceId) (f : Fade) (v : Voice) → get (begin_fade w f v) ≡ get v
begin_same get e w f v = go (is_voice w v)
  where
    go : (b : Bool) → get (cond b (with_state (Fading f) v) v) ≡ get v
    go true = e (Fading f) v
    go false = refl

pub mine_cut : (v : Voice) (s : VoiceState) (l : Ledger) → MineOf l → MineOf (cut_off v s l)
mine_cut v s l m = mine_less (λ x. not (owned_by v.id x)) (λ x. not (is_voice v.id x)) m

pub mine_steal : (v : Voice) (l : Ledger) → MineOf l → MineOf (steal_voice v l)
mine_steal v l m = go (port_held v l)
  where
    f : Fade
    f = fade_of l.shared

    go : (o : Option ℕ) → MineOf (stolen v o l)
    go None = mine_cut v Tracked l m
    go (Some p) =
        mine_map (begin_fade v.id f) (begin_same (λ (x : Voice). x.first) (λ s v. refl) v.id f) (begin_same (λ (x : Voice). x.count) (λ s v. refl) v.id f) (begin_same (λ (x : Voice). x.id) (λ s v. refl) v.id f) (begin_same (λ (x : Voice). x.output) (λ s v. refl) v.id f)
        (mine_append (fade_node v.id) m)

pub mine_budgeted : (spawn : Spawn) → spawn.def.output < length (node_rows spawn.def.nodes) → (l : Ledger) → MineOf l → MineOf (place_within_budget spawn l).ledger
mine_budgeted spawn sings l m =
    place_kept spawn (state_under l.shared.config.budget) (λ n z. MineOf z) (λ r. MineOf r.ledger) (λ n z p e q. mine_instantiate spawn sings _ p z q) (λ z e q. q) (λ n z e f q. q)
    (λ n z v e f q. mine_cut v v.state z q) (tries l.shared.config.budget l.voices) l m

abbrev pub OwnNodes : Ledger → Type 0
OwnNodes l = IdsOf l × MineOf l

pub own_preserved : Preserves OwnNodes
own_preserved =
    record {
      add_node = λ l kind ports required values glides e q. (q.0, mine_append (host_node kind ports required values glides) q.1);
      remove_node = λ l k e q. (q.0, mine_nodes (λ x. not (is_node k x)) q.1);
      connect = λ l a b p e q. q;
      disconnect = λ l b p e q. q;
      set_sink = λ l k q. q;
      loose = λ l spawn e q. (ids_preserved.loose l spawn e q.0, instantiates l spawn (output_in spawn.def (spawn_allowed l.shared l.voices spawn.def spawn.bus spawn.rank e).definition) q.1 (port_free spawn.bus l));
      goes = λ l w q. (ids_preserved.goes l w q.0, mine_less (λ x. not (owned_by w x)) (λ x. not (is_voice w x)) q.1);
      node = λ l k x n e s q. (q.0, mine_replaced k x n e s.id s.owner q.1);
      schedule = λ l e h q. q;
      rest = λ l q. q;
      prepare = λ l e q. q;
      block = λ l a q. (ids_preserved.block l a q.0, counts l (is_sounding a) q.1);
    }
  where
    instantiates : (l : Ledger) (spawn : Spawn) → spawn.def.output < length (node_rows spawn.def.nodes) → MineOf l → (o : Option ℕ) → MineOf (instantiate_or o None spawn Loose l (refused NoPort)).ledger
    instantiates l spawn sings m None = m
    instantiates l spawn sings m (Some p) = mine_instantiate spawn sings Loose p l m

    counts : (l : Ledger) (b : Bool) → MineOf l → Mine l.shared.graph.nodes l.shared.graph.next (counted_if b l.voices)
    counts l true m = mine_map (moved one_more) (λ v. refl) (λ v. refl) (λ v. refl) (λ v. refl) m
    counts l false m = m

pub own_run : (xs : List Call) (l : Ledger) → OwnNodes l → OwnNodes (run xs l).ledger
own_run = kept_run OwnNodes own_preserved (λ l spawn e q.
    let sings = output_in spawn.def (spawn_allowed l.shared l.voices spawn.def spawn.bus spawn.rank e).definition in
    managed_kept spawn (λ r. OwnNodes r.ledger) l q.0 (λ h. q) (λ h. (ids_budgeted spawn l q.0, mine_budgeted spawn sings l q.1))
    (λ p w h v i t. (ids_budgeted spawn (steal_voice v l) (ids_steal v l q.0), mine_budgeted spawn sings (steal_voice v l) (mine_steal v l q.1))))

pub own_new : (c : Config) → OwnNodes (new_ledger c)
own_new c = (record { rising = tt; below = λ v i. absurd i }, record { below = λ x i. absurd i; places = λ v i. absurd i; owned = λ v i. absurd i; output = λ v i. absurd i })

-- ---- the silence of a voice is its own
module _ (l : Ledger) (q : OwnNodes l) (v : Voice) (i : In v l.voices) where
  -- another voice is removed
  pub node_stays : (w : VoiceId) → (v.id.0 ≡ w.0 → ⊥) → (k : ℕ) → k < v.count → node_at (filter (λ x. not (owned_by w x)) l.shared.graph.nodes) (id (v.first.0 + k)) ≡ node_at l.shared.graph.nodes (id (v.first.0 + k))
  node_stays w other k lt = go (node_at ns j) refl
    where
      ns : List Node
      ns = l.shared.graph.nodes

      j : NodeId
      j = id (v.first.0 + k)

      go : (o : Option Node) → node_at ns j ≡ o → node_at (filter (λ x. not (owned_by w x)) ns) j ≡ node_at ns j
      go None e = none_find (is_node j) (filter (λ x. not (owned_by w x)) ns) (λ x m. find_none (is_node j) ns x e (in_filter (λ x. not (owned_by w x)) ns x m).0) ∙ sym e
      go (Some x) e =
          let r = find_in (is_node j) ns x e in
          let at : x.id.0 ≡ v.first.0 + k = eqb-true _ _ r.1 in
          let a : v.first.0 ≤ x.id.0 = omega arith in
          let b : x.id.0 < v.first.0 + v.count = omega arith in
          let o : x.owner.0 ≡ v.id.0 = q.1.owned v i x r.0 a b in
          find_filter_some (is_node j) (λ x. not (owned_by w x)) ns x e (ap not (ne_eqb x.owner.0 w.0 (λ z. other (sym o ∙ z)))) ∙ sym e

  silent_stays : (w : VoiceId) → (v.id.0 ≡ w.0 → ⊥) → is_silent (without_voice w l).shared.graph.nodes v ≡ is_silent l.shared.graph.nodes v
  silent_stays w other =
      ap (plan_silent v.plan) (map_same (λ k. done_flag (node_at (without_voice w l).shared.graph.nodes (id (v.first.0 + k)))) (λ k. done_flag (node_at l.shared.graph.nodes (id (v.first.0 + k)))) (upto (min v.count 24))
      (λ k j. ap done_flag (node_stays w other k (let r = (count_in (min v.count 24) 0 k j).1 in let m = min-le_left v.count 24 in omega arith))))

pub silent_same : (gs : List Voice) (l : Ledger) → OwnNodes l → (v : Voice) → In v l.voices → ((g : Voice) → In g gs → v.id.0 ≡ g.id.0 → ⊥) → is_silent (without_voices gs l).shared.graph.nodes v ≡ is_silent l.shared.graph.nodes v
silent_same [] l q v i other = refl
silent_same (g ∷ gs) l q v i other =
    let off : v.id.0 ≡ g.id.0 → ⊥ = other g (inl refl) in
    silent_same gs (without_voice g.id l) (own_preserved.goes l g.id q) v (filter_in (λ x. not (is_voice g.id x)) l.voices v i (ap not (ne_eqb v.id.0 g.id.0 off))) (λ u j. other u (inr j))
    ∙ silent_stays l q v i g.id off

-- the voices whose fade has ended are others than one whose fade has not
pub silent_first : (l : Ledger) → OwnNodes l → (v : Voice) → In v l.voices → ended l.shared v.state ≡ false → is_silent (without_voices (ended_voices l) l).shared.graph.nodes v ≡ is_silent l.shared.graph.nodes v
silent_first l q v i e =
    silent_same (ended_voices l) l q v i (λ g j z.
    let k = in_filter (λ x. ended l.shared x.state) l.voices g j in
    let s : v ≡ g = unique q.0 v g i k.0 z in
    false≢true (sym e ∙ ap (λ (x : Voice). ended l.shared x.state) s ∙ k.1))
