-- Every live node is the host's or a live voice's, after every list of calls.
use Prim.Native.Nat.{ℕ}
use mathlib.Core.Path.{◌≡◌, refl, sym, ap, ◌∙◌, subst}
use mathlib.Core.Logic.{◌⊎◌, inl, inr, ⊎_elim}
use mathlib.Core.List.{List, [], ◌∷◌, ◌++◌, map}
use Rattle.std.specs.Prelude.{Option, None, Some, filter}
use mathlib.Core.Bool.{Bool, true, false, not, cond}
use lib.Dec.{eqb}
use borrow.Author.Tests.{not-true}
use Rattle.lists.specs.Member.{In}
use Rattle.lists.proofs.Member.{in_snoc, in_left, in_right, in_map, in_of_map}
use Rattle.lists.proofs.Find.{find_in}
use Rattle.lists.proofs.Filter.{in_filter, filter_in}
use Rattle.graph.specs.View.{GraphView}
use Rattle.graph.specs.Node.{is_node, owned_by, node_at, host_node, replaced, noise_raised}
use Rattle.ledger.proofs.Raised.{in_raised}
use Rattle.node.specs.Node.{with_id}
use Rattle.voice.specs.Voice.{is_voice, begin_fade, moved}
use Rattle.model.specs.Spawn.{Spawn, pans, voice_nodes, voice_wires, append_all, new_voice, next_voice, state_under, tries, fade_node, fade_of, raised}
use Rattle.model.specs.Render.{is_sounding}
use Rattle.model.specs.Call.{Call}
use Rattle.ledger.specs.Ledger.{Ledger, new_ledger, port_free, port_held, cut_off, stolen, steal_voice, instantiate, instantiate_or, place_within_budget, refused}
use Rattle.ledger.specs.Render.{one_more, counted_if}
use Rattle.ledger.specs.Call.{step}
use Rattle.ledger.proofs.Preserved.{place_kept, Preserves, kept_step_lem}
use Rattle.ledger.proofs.Managed.{IdsOf, managed_kept, begin_id, ids_new, ids_preserved, ids_budgeted, ids_steal}
use Rattle.ledger.proofs.NewVoice.{nodes_owned}
use Rattle.ledger.proofs.Nodes.{in_grown, wires_same}
use Rattle.node.specs.declared.record.NodeId.{NodeId}
use Rattle.node.specs.declared.record.VoiceId.{VoiceId}
use Rattle.node.specs.declared.record.Node.{Node}
use Rattle.node.specs.declared.refusal.Refusal.TheVariants.{NoPort}
use Rattle.store.specs.declared.config.Config.{Config}
use Rattle.voice.specs.declared.voices.Voice.{Voice}
use Rattle.voice.specs.declared.voices.VoiceState.{VoiceState}
use Rattle.voice.specs.declared.voices.VoiceState.TheVariants.{Tracked, Loose}

abbrev pub Owned : List Voice → Node → Type 0
Owned vs x = (x.owner.0 ≡ 0) ⊎ ((v : Voice) × In v vs × (v.id.0 ≡ x.owner.0))

abbrev pub Live : List Node → List Voice → Type 0
Live ns vs = (x : Node) → In x ns → Owned vs x

abbrev pub LiveOf : Ledger → Type 0
LiveOf l = Live l.shared.graph.nodes l.voices

-- more voices
more_voices : (vs vs' : List Voice) → ((v : Voice) → In v vs → (u : Voice) × In u vs' × (u.id.0 ≡ v.id.0)) → (x : Node) → Owned vs x → Owned vs' x
more_voices vs vs' f x (inl p) = inl p
more_voices vs vs' f x (inr r) = let u = f r.0 r.1 in inr (u.0, u.1, u.2 ∙ r.2)

-- a voice is removed with its nodes
pub live_removed : (w : VoiceId) (ns : List Node) (vs : List Voice) → Live ns vs → Live (filter (λ x. not (owned_by w x)) ns) (filter (λ v. not (is_voice w v)) vs)
live_removed w ns vs h x i = let r = in_filter (λ x. not (owned_by w x)) ns x i in go (h x r.0) (not-true _ r.1)
  where
    go : Owned vs x → owned_by w x ≡ false → Owned (filter (λ v. not (is_voice w v)) vs) x
    go (inl p) o = inl p
    go (inr r) o = inr (r.0, filter_in (λ v. not (is_voice w v)) vs r.0 r.1 (ap not (ap (λ n. eqb n w.0) r.2 ∙ o)), r.2)

-- a node's record changes
live_replaced : (ns : List Node) (vs : List Voice) (k : NodeId) (x n : Node) → node_at ns k ≡ Some x → n.owner ≡ x.owner → Live ns vs → Live (replaced ns n) vs
live_replaced ns vs k x n e o h y i = let r = in_map (λ m. cond (is_node n.id m) n m) ns y i in go r.0 r.1 (is_node n.id r.0) r.2
  where
    same : (z : Node) → In z ns → z.owner.0 ≡ y.owner.0 → Owned vs y
    same z j s = two (h z j)
      where
        two : Owned vs z → Owned vs y
        two (inl p) = inl (sym s ∙ p)
        two (inr r) = inr (r.0, r.1, r.2 ∙ s)

    go : (z : Node) → In z ns → (b : Bool) → y ≡ cond b n z → Owned vs y
    go z j true q = same x (find_in (is_node k) ns x e).0 (sym (ap (λ (w : Node). w.owner.0) q ∙ ap (λ (w : VoiceId). w.0) o))
    go z j false q = same z j (sym (ap (λ (w : Node). w.owner.0) q))

-- ---- a new voice's nodes
-- a bus counts one voice more
live_raised : (bus : NodeId) (ns : List Node) (vs : List Voice) → Live ns vs → Live (noise_raised bus ns) vs
live_raised bus ns vs h x i = let r = in_raised bus ns x i in ⊎_elim (λ a. inl (r.2.1 ∙ a)) (λ q. inr (q.0, q.1, q.2 ∙ sym r.2.1)) (h r.0 r.1)

pub live_instantiate : (x : Spawn) (s : VoiceState) (p : ℕ) (l : Ledger) → LiveOf l → LiveOf (instantiate x s p l).ledger
live_instantiate x s p l h n i =
    ⊎_elim (λ j. more_voices l.voices (l.voices ++ (v ∷ [])) (λ u k. (u, in_left l.voices (v ∷ []) u k, refl)) n (live_raised x.bus l.shared.graph.nodes l.voices h n j))
    (λ r. inr (v, in_right l.voices (v ∷ []) v (inl refl), sym (r.2 ∙ nodes_owned (next_voice l.shared) x.def (pans x.pan) r.0 r.1)))
    (in_grown xs g n (subst (λ ns. In n ns) (wires_same g.next (voice_wires x.def (pans x.pan)) (append_all g xs)).0 i))
  where
    g : GraphView
    g = raised x.bus l.shared.graph

    v : Voice
    v = new_voice x s p l.shared

    xs : List Node
    xs = voice_nodes (next_voice l.shared) x.def (pans x.pan)

pub live_cut : (v : Voice) (s : VoiceState) (l : Ledger) → LiveOf l → LiveOf (cut_off v s l)
live_cut v s l h = live_removed v.id l.shared.graph.nodes l.voices h

live_map : (f : Voice → Voice) → ((v : Voice) → (f v).id ≡ v.id) → (vs : List Voice) (x : Node) → Owned vs x → Owned (map f vs) x
live_map f e vs x o = more_voices vs (map f vs) (λ v i. (f v, in_of_map f vs v i, ap (λ (w : VoiceId). w.0) (e v))) x o

live_steal : (v : Voice) (l : Ledger) → In v l.voices → LiveOf l → LiveOf (steal_voice v l)
live_steal v l iv h = go (port_held v l)
  where
    f : Voice → Voice
    f = begin_fade v.id (fade_of l.shared)

    go : (o : Option ℕ) → LiveOf (stolen v o l)
    go None = live_cut v Tracked l h
    go (Some p) = λ x i.
        ⊎_elim (λ j. live_map f (begin_id v.id (fade_of l.shared)) l.voices x (h x j))
        (λ e. inr (f v, in_of_map f l.voices v iv, ap (λ (w : VoiceId). w.0) (begin_id v.id (fade_of l.shared) v) ∙ sym (ap (λ (y : Node). y.owner.0) e)))
        (in_snoc l.shared.graph.nodes (with_id l.shared.graph.next (fade_node v.id)) x i)

live_budgeted : (x : Spawn) (l : Ledger) → LiveOf l → LiveOf (place_within_budget x l).ledger
live_budgeted x l m =
    place_kept x (state_under l.shared.config.budget) (λ n z. LiveOf z) (λ r. LiveOf r.ledger) (λ n z p e q. live_instantiate x _ p z q) (λ z e q. q) (λ n z e f q. q)
    (λ n z v e f q. live_cut v v.state z q) (tries l.shared.config.budget l.voices) l m

abbrev pub LiveNodes : Ledger → Type 0
LiveNodes l = IdsOf l × LiveOf l

live_preserved : Preserves LiveNodes
live_preserved =
    record {
      add_node = λ l kind ports required values glides e q.
          (q.0, λ x i. ⊎_elim (q.1 x) (λ p. inl (ap (λ (y : Node). y.owner.0) p)) (in_snoc l.shared.graph.nodes (with_id l.shared.graph.next (host_node kind ports required values glides)) x i));
      remove_node = λ l k e q. (q.0, λ x i. q.1 x (in_filter (λ x. not (is_node k x)) l.shared.graph.nodes x i).0);
      connect = λ l a b p e q. q;
      disconnect = λ l b p e q. q;
      set_sink = λ l k q. q;
      loose = λ l x e q. (ids_preserved.loose l x e q.0, instantiates l x q.1 (port_free x.bus l));
      goes = λ l w q. (ids_preserved.goes l w q.0, live_removed w l.shared.graph.nodes l.voices q.1);
      node = λ l k x n e a q. (q.0, live_replaced l.shared.graph.nodes l.voices k x n e a.owner q.1);
      schedule = λ l e h q. q;
      rest = λ l q. q;
      prepare = λ l o q. q;
      block = λ l a q. (ids_preserved.block l a q.0, counts l (is_sounding a) q.1);
    }
  where
    instantiates : (l : Ledger) (x : Spawn) → LiveOf l → (o : Option ℕ) → LiveOf (instantiate_or o None x Loose l (refused NoPort)).ledger
    instantiates l x m None = m
    instantiates l x m (Some p) = live_instantiate x Loose p l m

    counts : (l : Ledger) (b : Bool) → LiveOf l → Live l.shared.graph.nodes (counted_if b l.voices)
    counts l true m = λ x i. live_map (moved one_more) (λ v. refl) l.voices x (m x i)
    counts l false m = m

pub live_step : (x : Call) (l : Ledger) → LiveNodes l → LiveNodes (step x l).ledger
live_step = kept_step_lem LiveNodes live_preserved (λ l x e q.
    managed_kept x (λ r. LiveNodes r.ledger) l q.0 (λ h. q) (λ h. (ids_budgeted x l q.0, live_budgeted x l q.1))
    (λ p w h v i t. (ids_budgeted x (steal_voice v l) (ids_steal v l q.0), live_budgeted x (steal_voice v l) (live_steal v l i q.1))))

pub live_new : (c : Config) → LiveNodes (new_ledger c)
live_new c = (ids_new c, λ x i. absurd i)
