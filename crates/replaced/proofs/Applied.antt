-- An event that a later one of its time replaces may be left out: `drop_same`. What an event other than a free does is to set the last
-- order of one node, or nothing (`applied_put`). The later one sets the same node again, unless the voice was removed in between, and then its
-- node is removed too. Nothing in between looks at a last order.
use Prim.Native.Nat.{ℕ, ◌+◌}
use mathlib.Core.Path.{◌≡◌, refl, sym, ap, ◌∙◌, subst}
use mathlib.Core.Logic.{inl, inr}
use mathlib.Core.List.{List, [], ◌∷◌, map}
use Rattle.std.specs.Prelude.{Option, None, Some, find, option_map, filter}
use mathlib.Core.Bool.{Bool, true, false, ◌&&◌, ◌||◌, not, cond, false≢true, true≢false}
use lib.Dec.{eqb}
use borrow.Author.Tests.{eqb-true, eqb-false, eq-eqb, ne_eqb, not-true}
use Rattle.node.proofs.NameLaws.{same_equal}
use Rattle.node.specs.declared.name.Name.{Name}
use Rattle.node.specs.declared.order.EventAction.{EventAction}
use Rattle.node.specs.declared.order.EventAction.TheVariants as action
use Rattle.node.specs.declared.order.LastOrder.{LastOrder}
use Rattle.node.specs.declared.order.LastOrder.TheVariants as order
use Rattle.node.specs.declared.record.NodeId.{NodeId}
use Rattle.node.specs.declared.record.VoiceId.{VoiceId}
use Rattle.node.specs.declared.record.Node.{Node}
use Rattle.graph.specs.Change as change
use Rattle.scheduler.specs.declared.event.Event.{Event}
use Rattle.synthdef.specs.declared.def.Param.{Param}
use Rattle.voice.specs.declared.voices.Voice.{Voice}
use Rattle.store.specs.declared.answer.Outcome.TheVariants.{Applied, NotTaken}
use Rattle.model.specs.Order as param
use Rattle.lists.specs.Member.{In}
use Rattle.lists.proofs.Member.{in_map, map_same, map_swap, and_left, and_right, some_inj, none_some}
use Rattle.lists.specs.Find.{filter_o, Once}
use Rattle.lists.proofs.Find.{find_in, find_map, find_same, find_filter_some, find_filter_same, once_filter}
use Rattle.lists.proofs.Filter.{filter_map, in_filter}
use Rattle.node.specs.Name.{named, text, same_bytes, same_name}
use Rattle.edges.specs.Wiring.{among, drop_touching}
use Rattle.graph.specs.Node.{is_node, owned_by, node_at, replaced}
use Rattle.scheduler.specs.Event.{order_of, param_of, param_order}
use Rattle.scheduler.specs.Replace.{same_sort}
use Rattle.scheduler.proofs.ReplaceLaws.{Tested, tested}
use Rattle.synthdef.specs.Tables.{param_rows}
use Rattle.synthdef.specs.Params.{called, param_node}
use Rattle.model.specs.SharedState.{with_graph}
use Rattle.voice.specs.Voice.{is_voice, id}
use Rattle.model.specs.Model.{Model, without_voice, freed, free}
use Rattle.model.specs.Order.{with_node, takes, order_voice, order_param, order_node, stays}
use Rattle.node.specs.Node.{with_last}
use Rattle.model.specs.Render.{is_free, any_free, apply_event, apply_events}
use Rattle.replaced.proofs.Thin.{Superseded, Thinned}

-- ---- the last order of node k set to o
abbrev pub touched : ℕ → LastOrder → Node → Node
touched k o x = cond (is_node (id k) x) (with_last o x) x

abbrev pub set : ℕ → LastOrder → List Node → List Node
set k o ns = map (touched k o) ns

abbrev pub at_nodes : List Node → Model → Model
at_nodes ns m = record { shared = with_graph (change.with_nodes m.shared.graph ns) m.shared; voices = m.voices }

abbrev pub set_at : ℕ → LastOrder → Model → Model
set_at k o m = at_nodes (set k o m.shared.graph.nodes) m

abbrev pub put : Option ℕ → LastOrder → Model → Model
put None o m = m
put (Some k) o m = set_at k o m

module _ (k : ℕ) (o : LastOrder) where
  touched_id : (x : Node) → (touched k o x).id ≡ x.id
  touched_id x = go (is_node (id k) x)
    where
      go : (b : Bool) → (cond b (with_last o x) x).id ≡ x.id
      go true = refl
      go false = refl

  touched_owner : (x : Node) → (touched k o x).owner ≡ x.owner
  touched_owner x = go (is_node (id k) x)
    where
      go : (b : Bool) → (cond b (with_last o x) x).owner ≡ x.owner
      go true = refl
      go false = refl

  takes_last : (u : LastOrder) (x : Node) → takes u (with_last o x) ≡ takes u x
  takes_last order.Nothing x = refl
  takes_last (order.Value y) x = refl
  takes_last (order.Glide g) x = refl

  pub touched_takes : (u : LastOrder) (x : Node) → takes u (touched k o x) ≡ takes u x
  touched_takes u x = go (is_node (id k) x)
    where
      go : (b : Bool) → takes u (cond b (with_last o x) x) ≡ takes u x
      go true = takes_last u x
      go false = refl

  touched_at : (j : NodeId) (x : Node) → is_node j (touched k o x) ≡ is_node j x
  touched_at j x = ap (λ (i : NodeId). eqb i.0 j.0) (touched_id x)

  touched_of : (w : VoiceId) (x : Node) → owned_by w (touched k o x) ≡ owned_by w x
  touched_of w x = ap (λ (i : VoiceId). eqb i.0 w.0) (touched_owner x)

  pub look_set : (j : NodeId) (ns : List Node) → node_at (set k o ns) j ≡ option_map (touched k o) (node_at ns j)
  look_set j ns = find_map (touched k o) (is_node j) (is_node j) (touched_at j) ns

-- the later one of two is left
pub set_again : (k : ℕ) (o u : LastOrder) (ns : List Node) → set k u (set k o ns) ≡ set k u ns
set_again k o u [] = refl
set_again k o u (x ∷ ns) = ap (λ z. z ∷ set k u (set k o ns)) (go (is_node (id k) x) refl) ∙ ap (λ z. touched k u x ∷ z) (set_again k o u ns)
  where
    go : (b : Bool) → is_node (id k) x ≡ b → touched k u (cond b (with_last o x) x) ≡ touched k u x
    go true e = rw e
    go false e = refl

-- two of different nodes may be swapped
pub set_swap : (j k : ℕ) (u o : LastOrder) → (j ≡ k → ⊥) → (ns : List Node) → set j u (set k o ns) ≡ set k o (set j u ns)
set_swap j k u o off ns = map_swap (touched k o) (touched j u) (touched j u) one ns
  where
    one : (x : Node) → touched j u (touched k o x) ≡ touched k o (touched j u x)
    one x = go (is_node (id j) x) refl (is_node (id k) x) refl
      where
        go : (a : Bool) → is_node (id j) x ≡ a → (b : Bool) → is_node (id k) x ≡ b → touched j u (cond b (with_last o x) x) ≡ touched k o (cond a (with_last u x) x)
        go true e true f = absurd (off (sym (eqb-true _ _ e) ∙ eqb-true _ _ f))
        go true e false f = rw (e, f)
        go false e true f = rw (e, f)
        go false e false f = rw (e, f)

-- ---- the node whose last order an event sets, if it does
abbrev pub taken : LastOrder → Option Node → Bool
taken o None = false
taken o (Some n) = takes o n

abbrev pub aim_param : Option ℕ → Voice → LastOrder → List Node → Option ℕ
aim_param None v o ns = None
aim_param (Some i) v o ns = cond (taken o (node_at ns (id (v.first.0 + i)))) (Some (v.first.0 + i)) None

abbrev pub aim_voice : Option Voice → Name → LastOrder → List Node → Option ℕ
aim_voice None name o ns = None
aim_voice (Some v) name o ns = aim_param (param_node (param_rows v.params) name) v o ns

abbrev pub aim : Event → Model → Option ℕ
aim e m = aim_voice (find (is_voice e.voice) m.voices) (param_of e.action e.name) (order_of e.action) m.shared.graph.nodes

-- ---- what is needed of a store: ids of nodes are distinct, and the node of a voice's parameter is the voice's own
pub record Good (m : Model) : Type 0 where
  pub once : (k : ℕ) → Once (is_node (id k)) m.shared.graph.nodes
  pub own : (v : Voice) → In v m.voices → (name : Name) (i : ℕ) → param_node (param_rows v.params) name ≡ Some i
      → (x : Node) → In x m.shared.graph.nodes → x.id.0 ≡ v.first.0 + i → x.owner.0 ≡ v.id.0

pub good_set : (k : ℕ) (o : LastOrder) (m : Model) → Good m → Good (set_at k o m)
good_set k o m g =
    record {
      once = λ j x i h.
          let r = in_map (touched k o) ns x i in
          let t : is_node (id j) r.0 ≡ true = sym (touched_at k o (id j) r.0) ∙ ap (is_node (id j)) (sym r.2) ∙ h in
          look_set k o (id j) ns ∙ ap (option_map (touched k o)) (g.once j r.0 r.1 t) ∙ ap Some (sym r.2);
      own = λ v q name i e x j h.
          let r = in_map (touched k o) ns x j in
          let a : x.id ≡ r.0.id = ap (λ (y : Node). y.id) r.2 ∙ touched_id k o r.0 in
          let b : x.owner ≡ r.0.owner = ap (λ (y : Node). y.owner) r.2 ∙ touched_owner k o r.0 in
          ap (λ (w : VoiceId). w.0) b ∙ g.own v q name i e r.0 r.1 (sym (ap (λ (n : NodeId). n.0) a) ∙ h);
    }
  where
    ns : List Node
    ns = m.shared.graph.nodes

pub good_removed : (w : VoiceId) (m : Model) → Good m → Good (without_voice w m)
good_removed w m g =
    record {
      once = λ k. once_filter (is_node (id k)) (λ x. not (owned_by w x)) m.shared.graph.nodes (g.once k);
      own = λ v q name i e x j h. g.own v (in_filter (λ u. not (is_voice w u)) m.voices v q).0 name i e x (in_filter (λ x. not (owned_by w x)) m.shared.graph.nodes x j).0 h;
    }

-- ---- an event that is no free sets a last order, or does nothing
replaced_set : (k : ℕ) (o : LastOrder) (ns : List Node) (n : Node) → Once (is_node (id k)) ns → node_at ns (id k) ≡ Some n → replaced ns (with_last o n) ≡ set k o ns
replaced_set k o ns n one e = map_same (λ x. cond (is_node n.id x) (with_last o n) x) (touched k o) ns (λ x i. go x i (is_node (id k) x) refl)
  where
    at : n.id.0 ≡ k
    at = eqb-true _ _ (find_in (is_node (id k)) ns n e).1

    go : (x : Node) → In x ns → (b : Bool) → is_node (id k) x ≡ b → cond (is_node n.id x) (with_last o n) x ≡ cond b (with_last o x) x
    go x i true h =
        let t : eqb x.id.0 n.id.0 ≡ true = ap (eqb x.id.0) at ∙ h in
        let s : x ≡ n = some_inj (sym (one x i h) ∙ e) in
        rw t (ap (with_last o) (sym s))
    go x i false h =
        let t : eqb x.id.0 n.id.0 ≡ false = ap (eqb x.id.0) at ∙ h in
        rw t

module _ (m : Model) (g : Good m) (o : LastOrder) where
  ns : List Node
  ns = m.shared.graph.nodes

  abbrev ordered : param.Ordered → Model
  ordered r = record { shared = r.shared; voices = m.voices }

  order_node_lem : (k : ℕ) (u : Option Node) → node_at m.shared.graph.nodes (id k) ≡ u → ordered (order_node u o m.shared) ≡ put (cond (taken o u) (Some k) None) o m
  order_node_lem k None e = refl
  order_node_lem k (Some n) e = go (takes o n)
    where
      go : (b : Bool) → ordered (cond b (record { outcome = Applied; shared = with_node (with_last o n) m.shared }) (stays NotTaken m.shared)) ≡ put (cond b (Some k) None) o m
      go true = ap (λ z. at_nodes z m) (replaced_set k o m.shared.graph.nodes n (g.once k) e)
      go false = refl

  order_param_lem : (u : Option ℕ) (v : Voice) → ordered (order_param u v o m.shared) ≡ put (aim_param u v o m.shared.graph.nodes) o m
  order_param_lem None v = refl
  order_param_lem (Some i) v = order_node_lem (v.first.0 + i) (node_at m.shared.graph.nodes (id (v.first.0 + i))) refl

  order_voice_lem : (u : Option Voice) (name : Name) → ordered (order_voice u name o m.shared) ≡ put (aim_voice u name o m.shared.graph.nodes) o m
  order_voice_lem None name = refl
  order_voice_lem (Some v) name = order_param_lem (param_node (param_rows v.params) name) v

pub applied_put : (e : Event) (m : Model) → Good m → is_free e.action ≡ false → apply_event e m ≡ put (aim e m) (order_of e.action) m
applied_put e m g h = rw h (order_voice_lem m g (order_of e.action) (find (is_voice e.voice) m.voices) (param_of e.action e.name))

good_put : (u : Option ℕ) (o : LastOrder) (m : Model) → Good m → Good (put u o m)
good_put None o m g = g
good_put (Some k) o m g = good_set k o m g

good_freed : (u : Option Voice) (m : Model) → Good m → Good (freed u m)
good_freed None m g = g
good_freed (Some v) m g = good_removed v.id m g

pub good_applied : (e : Event) (m : Model) → Good m → Good (apply_event e m)
good_applied e m g = go (is_free e.action) refl
  where
    go : (b : Bool) → is_free e.action ≡ b → Good (apply_event e m)
    go true h = subst (λ b. Good (cond b (free e.voice m) (record { shared = (param.order e.voice (param_order e).name (param_order e).order m.voices m.shared).shared; voices = m.voices }))) (sym h) (good_freed (find (is_voice e.voice) m.voices) m g)
    go false h = subst Good (sym (applied_put e m g h)) (good_put (aim e m) (order_of e.action) m g)

-- ---- the aim of an event does not depend on last orders
taken_set : (k : ℕ) (o u : LastOrder) (x : Option Node) → taken u (option_map (touched k o) x) ≡ taken u x
taken_set k o u None = refl
taken_set k o u (Some n) = touched_takes k o u n

pub aim_set : (e : Event) (k : ℕ) (o : LastOrder) (m : Model) → aim e (set_at k o m) ≡ aim e m
aim_set e k o m = voice (find (is_voice e.voice) m.voices)
  where
    u : LastOrder
    u = order_of e.action

    ns : List Node
    ns = m.shared.graph.nodes

    at : (i : Option ℕ) (v : Voice) → aim_param i v u (set k o ns) ≡ aim_param i v u ns
    at None v = refl
    at (Some i) v = ap (λ b. cond b (Some (v.first.0 + i)) None) (ap (taken u) (look_set k o (id (v.first.0 + i)) ns) ∙ taken_set k o u (node_at ns (id (v.first.0 + i))))

    voice : (v : Option Voice) → aim_voice v (param_of e.action e.name) u (set k o ns) ≡ aim_voice v (param_of e.action e.name) u ns
    voice None = refl
    voice (Some v) = at (param_node (param_rows v.params) (param_of e.action e.name)) v

-- ---- an event and the one that replaces it have one aim
same_bytes_lem : (a b : List ℕ) → same_bytes a b ≡ true → a ≡ b
same_bytes_lem = same_equal

-- a name counts by its text alone
pub same_called : (a b : Name) → same_name a b ≡ true → (x : Name) → same_name x a ≡ same_name x b
same_called a b h x =
    let na : named a ≡ true = and_left (named a) _ h in
    let r = and_right (named a) (named b && same_bytes (text a) (text b)) h in
    let nb : named b ≡ true = and_left (named b) _ r in
    let t : text a ≡ text b = same_bytes_lem (text a) (text b) (and_right (named b) (same_bytes (text a) (text b)) r) in
    ap (λ z. named x && (z && same_bytes (text x) (text a))) (na ∙ sym nb) ∙ ap (λ z. named x && (named b && same_bytes (text x) z)) t

same_param : (ps : List Param) (a b : Name) → same_name a b ≡ true → param_node ps a ≡ param_node ps b
same_param ps a b h = ap (option_map (λ p. p.node)) (find_same (called a) (called b) ps (λ p i. same_called a b h p.name))

same_takes : (a b : EventAction) → same_sort a b ≡ true → (n : Node) → takes (order_of a) n ≡ takes (order_of b) n
same_takes (action.Value x) (action.Value y) h n = refl
same_takes (action.Value x) (action.Glide g) h n = absurd (false≢true h)
same_takes (action.Value x) (action.Gate y) h n = refl
same_takes (action.Value x) action.Free h n = absurd (false≢true h)
same_takes (action.Glide g) (action.Value y) h n = absurd (false≢true h)
same_takes (action.Glide g) (action.Glide g') h n = refl
same_takes (action.Glide g) (action.Gate y) h n = absurd (false≢true h)
same_takes (action.Glide g) action.Free h n = absurd (false≢true h)
same_takes (action.Gate x) (action.Value y) h n = refl
same_takes (action.Gate x) (action.Glide g) h n = absurd (false≢true h)
same_takes (action.Gate x) (action.Gate y) h n = refl
same_takes (action.Gate x) action.Free h n = absurd (false≢true h)
same_takes action.Free b h n = absurd (false≢true h)

no_free : (a b : EventAction) → same_sort a b ≡ true → (is_free a ≡ false) × (is_free b ≡ false)
no_free (action.Value x) (action.Value y) h = (refl, refl)
no_free (action.Value x) (action.Glide g) h = (refl, refl)
no_free (action.Value x) (action.Gate y) h = (refl, refl)
no_free (action.Value x) action.Free h = absurd (false≢true h)
no_free (action.Glide g) (action.Value y) h = (refl, refl)
no_free (action.Glide g) (action.Glide g') h = (refl, refl)
no_free (action.Glide g) (action.Gate y) h = (refl, refl)
no_free (action.Glide g) action.Free h = absurd (false≢true h)
no_free (action.Gate x) (action.Value y) h = (refl, refl)
no_free (action.Gate x) (action.Glide g) h = (refl, refl)
no_free (action.Gate x) (action.Gate y) h = (refl, refl)
no_free (action.Gate x) action.Free h = absurd (false≢true h)
no_free action.Free b h = absurd (false≢true h)

aim_same : (f e : Event) (m : Model) → Tested f e → aim f m ≡ aim e m
aim_same f e m l =
    ap (λ w. aim_voice (find (λ v. eqb v.id.0 w) m.voices) (param_of f.action f.name) (order_of f.action) ns) l.voice
    ∙ voice (find (is_voice e.voice) m.voices)
  where
    ns : List Node
    ns = m.shared.graph.nodes

    took : (x : Option Node) → taken (order_of f.action) x ≡ taken (order_of e.action) x
    took None = refl
    took (Some n) = same_takes f.action e.action l.sort n

    at : (i : Option ℕ) (v : Voice) → aim_param i v (order_of f.action) ns ≡ aim_param i v (order_of e.action) ns
    at None v = refl
    at (Some i) v = ap (λ b. cond b (Some (v.first.0 + i)) None) (took (node_at ns (id (v.first.0 + i))))

    voice : (v : Option Voice) → aim_voice v (param_of f.action f.name) (order_of f.action) ns ≡ aim_voice v (param_of e.action e.name) (order_of e.action) ns
    voice None = refl
    voice (Some v) =
        ap (λ i. aim_param i v (order_of f.action) ns) (same_param (param_rows v.params) (param_of f.action f.name) (param_of e.action e.name) l.name)
        ∙ at (param_node (param_rows v.params) (param_of e.action e.name)) v

-- ---- a voice is removed, and a last order was set before
-- what is removed is decided by owners and ids
abbrev cleared : VoiceId → List Node → List ℕ → Model → Model
cleared w ns ids m =
    record {
      shared = with_graph (record { nodes = ns; edges = drop_touching m.shared.graph.edges ids; sink = filter_o (λ k. not (among ids k)) m.shared.graph.sink; prepared = false; order = m.shared.graph.order; next = m.shared.graph.next }) m.shared;
      voices = filter (λ v. not (is_voice w v)) m.voices;
    }

module _ (k : ℕ) (o : LastOrder) (w : VoiceId) where
  set_kept : (ns : List Node) → filter (λ x. not (owned_by w x)) (set k o ns) ≡ set k o (filter (λ x. not (owned_by w x)) ns)
  set_kept ns = filter_map (touched k o) (λ x. not (owned_by w x)) (λ x. not (owned_by w x)) (λ x. ap not (touched_of k o w x)) ns

  same_ids : (ns : List Node) → map (λ (n : Node). n.id.0) (set k o ns) ≡ map (λ (n : Node). n.id.0) ns
  same_ids [] = refl
  same_ids (x ∷ ns) = ap (λ (i : NodeId). i.0 ∷ map (λ (n : Node). n.id.0) (set k o ns)) (touched_id k o x) ∙ ap (λ z. x.id.0 ∷ z) (same_ids ns)

  ids_set : (ns : List Node) → change.ids_of (owned_by w) (set k o ns) ≡ change.ids_of (owned_by w) ns
  ids_set ns = ap (map (λ (n : Node). n.id.0)) (filter_map (touched k o) (owned_by w) (owned_by w) (touched_of k o w) ns) ∙ same_ids (filter (owned_by w) ns)

  pub removed_set : (m : Model) → without_voice w (set_at k o m) ≡ set_at k o (without_voice w m)
  removed_set m =
      ap (λ z. cleared w z (change.ids_of (owned_by w) (set k o m.shared.graph.nodes)) m) (set_kept m.shared.graph.nodes)
      ∙ ap (λ z. cleared w (set k o (filter (λ x. not (owned_by w x)) m.shared.graph.nodes)) z m) (ids_set m.shared.graph.nodes)

  -- the node is removed too
  set_none : (ns : List Node) → ((x : Node) → In x ns → is_node (id k) x ≡ false) → set k o ns ≡ ns
  set_none [] h = refl
  set_none (x ∷ ns) h = ap (λ b. cond b (with_last o x) x ∷ set k o ns) (h x (inl refl)) ∙ ap (λ z. x ∷ z) (set_none ns (λ y i. h y (inr i)))

  removed_both : (m : Model) → ((x : Node) → In x m.shared.graph.nodes → x.id.0 ≡ k → x.owner.0 ≡ w.0) → without_voice w (set_at k o m) ≡ without_voice w m
  removed_both m own = removed_set m ∙ ap (λ z. at_nodes z (without_voice w m)) (set_none (filter (λ x. not (owned_by w x)) m.shared.graph.nodes) (λ x i. go x i (is_node (id k) x) refl))
    where
      go : (x : Node) → In x (filter (λ x. not (owned_by w x)) m.shared.graph.nodes) → (b : Bool) → is_node (id k) x ≡ b → b ≡ false
      go x i false h = refl
      go x i true h =
          let r = in_filter (λ x. not (owned_by w x)) m.shared.graph.nodes x i in
          let t : owned_by w x ≡ true = eq-eqb _ _ (own x r.0 (eqb-true _ _ h)) in
          absurd (true≢false (sym t ∙ not-true _ r.1))

-- ---- an event aims at a node of its own voice
aim_own : (e : Event) (m : Model) → Good m → (k : ℕ) → aim e m ≡ Some k → (x : Node) → In x m.shared.graph.nodes → x.id.0 ≡ k → x.owner.0 ≡ e.voice.0
aim_own e m g k h x i q = voice (find (is_voice e.voice) m.voices) refl h
  where
    ns : List Node
    ns = m.shared.graph.nodes

    name : Name
    name = param_of e.action e.name

    hit : (b : Bool) (j : ℕ) → cond b (Some j) None ≡ Some k → j ≡ k
    hit true j z = some_inj z
    hit false j z = absurd (none_some z)

    at : (v : Voice) → In v m.voices → (j : Option ℕ) → param_node (param_rows v.params) name ≡ j → aim_param j v (order_of e.action) ns ≡ Some k → x.owner.0 ≡ v.id.0
    at v y None p z = absurd (none_some z)
    at v y (Some j) p z = g.own v y name j p x i (q ∙ sym (hit (taken (order_of e.action) (node_at ns (id (v.first.0 + j)))) (v.first.0 + j) z))

    voice : (v : Option Voice) → find (is_voice e.voice) m.voices ≡ v → aim_voice v name (order_of e.action) ns ≡ Some k → x.owner.0 ≡ e.voice.0
    voice None p z = absurd (none_some z)
    voice (Some v) p z =
        let r = find_in (is_voice e.voice) m.voices v p in
        at v r.0 (param_node (param_rows v.params) name) refl z ∙ eqb-true _ _ r.1

-- another voice is removed
aim_removed : (e : Event) (m : Model) → Good m → (k : ℕ) → aim e m ≡ Some k → (w : VoiceId) → (e.voice.0 ≡ w.0 → ⊥) → aim e (without_voice w m) ≡ Some k
aim_removed e m g k h w off =
    ap (λ v. aim_voice v name o (filter (λ x. not (owned_by w x)) ns)) (find_filter_same (is_voice e.voice) (λ v. not (is_voice w v)) (λ v t. ap not (ne_eqb v.id.0 w.0 (λ z. off (sym (eqb-true _ _ t) ∙ z)))) m.voices)
    ∙ voice (find (is_voice e.voice) m.voices) h
  where
    ns : List Node
    ns = m.shared.graph.nodes

    name : Name
    name = param_of e.action e.name

    o : LastOrder
    o = order_of e.action

    node : (j : ℕ) (x : Option Node) → node_at ns (id j) ≡ x → cond (taken o x) (Some j) None ≡ Some k → cond (taken o (node_at (filter (λ x. not (owned_by w x)) ns) (id j))) (Some j) None ≡ Some k
    node j None p z = absurd (none_some z)
    node j (Some n) p z = go (takes o n) refl z
      where
        go : (b : Bool) → takes o n ≡ b → cond b (Some j) None ≡ Some k → cond (taken o (node_at (filter (λ x. not (owned_by w x)) ns) (id j))) (Some j) None ≡ Some k
        go false t z = absurd (none_some z)
        go true t z =
            let r = find_in (is_node (id j)) ns n p in
            let own : n.owner.0 ≡ e.voice.0 = aim_own e m g k h n r.0 (eqb-true _ _ r.1 ∙ some_inj z) in
            let left : node_at (filter (λ x. not (owned_by w x)) ns) (id j) ≡ Some n = find_filter_some (is_node (id j)) (λ x. not (owned_by w x)) ns n p (ap not (ne_eqb n.owner.0 w.0 (λ y. off (sym own ∙ y)))) in
            ap (λ u. cond (taken o u) (Some j) None) left ∙ ap (λ b. cond b (Some j) None) t ∙ z

    at : (j : Option ℕ) (v : Voice) → aim_param j v o ns ≡ Some k → aim_param j v o (filter (λ x. not (owned_by w x)) ns) ≡ Some k
    at None v z = absurd (none_some z)
    at (Some j) v z = node (v.first.0 + j) (node_at ns (id (v.first.0 + j))) refl z

    voice : (v : Option Voice) → aim_voice v name o ns ≡ Some k → aim_voice v name o (filter (λ x. not (owned_by w x)) ns) ≡ Some k
    voice None z = absurd (none_some z)
    voice (Some v) z = at (param_node (param_rows v.params) name) v z

-- ---- a last order that a later event sets again may be left out
module _ (e : Event) (o : LastOrder) (k : ℕ) where
  again : (q : List Event) (m : Model) → Good m → aim e m ≡ Some k → Superseded e q → apply_events q (set_at k o m) ≡ apply_events q m
  again [] m g h s = absurd s
  again (f ∷ q) m g h (inl r) =
      let l = tested f e r in
      let free = (no_free f.action e.action l.sort).0 in
      let a : aim f m ≡ Some k = aim_same f e m l ∙ h in
      let u = order_of f.action in
      ap (apply_events q)
      (applied_put f (set_at k o m) (good_set k o m g) free ∙ ap (λ z. put z u (set_at k o m)) (aim_set f k o m ∙ a) ∙ ap (λ z. at_nodes z m) (set_again k o u m.shared.graph.nodes)
      ∙ ap (λ z. put z u m) (sym a) ∙ sym (applied_put f m g free))
  again (f ∷ q) m g h (inr s) = go (is_free f.action) refl (λ n i j. again q n i j s)
    where
      u : LastOrder
      u = order_of f.action

      -- a value or a glide: of this node, then it is set again; or of another
      ordered : (t : Option ℕ) → aim f m ≡ t → is_free f.action ≡ false → ((n : Model) → Good n → aim e n ≡ Some k → apply_events q (set_at k o n) ≡ apply_events q n)
          → apply_events q (apply_event f (set_at k o m)) ≡ apply_events q (apply_event f m)
      ordered t a free ih =
          ap (apply_events q) (applied_put f (set_at k o m) (good_set k o m g) free ∙ ap (λ z. put z u (set_at k o m)) (aim_set f k o m ∙ a))
          ∙ each t ∙ ap (apply_events q) (ap (λ z. put z u m) (sym a) ∙ sym (applied_put f m g free))
        where
          at : (j : ℕ) (b : Bool) → eqb j k ≡ b → apply_events q (set_at j u (set_at k o m)) ≡ apply_events q (set_at j u m)
          at j true b =
              let z : j ≡ k = eqb-true _ _ b in
              subst (λ i. apply_events q (set_at i u (set_at k o m)) ≡ apply_events q (set_at i u m)) (sym z) (ap (λ z. apply_events q (at_nodes z m)) (set_again k o u m.shared.graph.nodes))
          at j false b =
              ap (λ z. apply_events q (at_nodes z m)) (set_swap j k u o (eqb-false _ _ b) m.shared.graph.nodes)
              ∙ ih (set_at j u m) (good_set j u m g) (aim_set e j u m ∙ h)

          each : (t : Option ℕ) → apply_events q (put t u (set_at k o m)) ≡ apply_events q (put t u m)
          each None = ih m g h
          each (Some j) = at j (eqb j k) refl

      -- a free of the voice, and its node is removed; or of another
      freeing : (t : Option Voice) → ((n : Model) → Good n → aim e n ≡ Some k → apply_events q (set_at k o n) ≡ apply_events q n)
          → apply_events q (freed t (set_at k o m)) ≡ apply_events q (freed t m)
      freeing None ih = ih m g h
      freeing (Some v) ih = at (eqb e.voice.0 v.id.0) refl
        where
          at : (b : Bool) → eqb e.voice.0 v.id.0 ≡ b → apply_events q (without_voice v.id (set_at k o m)) ≡ apply_events q (without_voice v.id m)
          at true b = ap (apply_events q) (removed_both k o v.id m (λ x i z. aim_own e m g k h x i z ∙ eqb-true _ _ b))
          at false b = ap (apply_events q) (removed_set k o v.id m) ∙ ih (without_voice v.id m) (good_removed v.id m g) (aim_removed e m g k h v.id (eqb-false _ _ b))

      go : (b : Bool) → is_free f.action ≡ b → ((n : Model) → Good n → aim e n ≡ Some k → apply_events q (set_at k o n) ≡ apply_events q n)
          → apply_events q (apply_event f (set_at k o m)) ≡ apply_events q (apply_event f m)
      go false b ih = ordered (aim f m) refl b ih
      go true b ih = rw b (freeing (find (is_voice f.voice) m.voices) ih)

pub superseded_free : (e : Event) (q : List Event) → Superseded e q → is_free e.action ≡ false
superseded_free e [] s = absurd s
superseded_free e (f ∷ q) (inl r) = (no_free f.action e.action (tested f e r).sort).1
superseded_free e (f ∷ q) (inr s) = superseded_free e q s

pub drop_same : (e : Event) (q : List Event) (m : Model) → Good m → Superseded e q → apply_events q (apply_event e m) ≡ apply_events q m
drop_same e q m g s = ap (apply_events q) (applied_put e m g (superseded_free e q s)) ∙ go (aim e m) refl
  where
    go : (t : Option ℕ) → aim e m ≡ t → apply_events q (put t (order_of e.action) m) ≡ apply_events q m
    go None h = refl
    go (Some k) h = again e (order_of e.action) k q m g h s

-- ---- both queues come to the same
pub thinned_applies : (q p : List Event) (m : Model) → Good m → Thinned p q → apply_events q m ≡ apply_events p m
thinned_applies [] p m g h = ap (λ z. apply_events z m) (sym h)
thinned_applies (e ∷ q) p m g (inl h) = thinned_applies q h.0 (apply_event e m) (good_applied e m g) h.2 ∙ ap (λ z. apply_events z m) (sym h.1)
thinned_applies (e ∷ q) p m g (inr h) = drop_same e q m g h.0 ∙ thinned_applies q p m g h.1

pub thinned_free : (q p : List Event) → Thinned p q → any_free q ≡ any_free p
thinned_free [] p h = ap any_free (sym h)
thinned_free (e ∷ q) p (inl h) = ap (λ b. is_free e.action || b) (thinned_free q h.0 h.2) ∙ ap any_free (sym h.1)
thinned_free (e ∷ q) p (inr h) = ap (λ b. b || any_free q) (superseded_free e q h.0) ∙ thinned_free q p h.1
