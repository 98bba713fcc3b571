-- Freed voices, removed all together at the end instead of each at its event: an event that meets none of them, and none of their
-- nodes, does before they are removed what it would do after. The ids of the nodes need not be distinct.
use Prim.Native.Nat.{ℕ, ◌+◌}
use mathlib.Core.Path.{◌≡◌, refl, sym, ap, ◌∙◌}
use mathlib.Core.Logic.{inl, inr}
use mathlib.Core.List.{List, [], ◌∷◌, ◌++◌, map}
use Rattle.std.specs.Prelude.{Option, None, Some, filter, find}
use mathlib.Core.Bool.{Bool, true, false, not, cond, ◌&&◌, false≢true}
use lib.Dec.{eqb}
use borrow.Author.Tests.{eqb-true, ne_eqb, not-true}
use Rattle.lists.specs.Member.{In}
use Rattle.lists.proofs.Member.{and_left, and_right, map_same, neither}
use Rattle.lists.proofs.Filter.{filter_all, filter_filter, filter_same, filter_map, in_filter}
use Rattle.lists.specs.Find.{filter_o}
use Rattle.lists.proofs.Find.{find_in}
use Rattle.node.specs.declared.name.Name.{Name}
use Rattle.node.specs.declared.order.LastOrder.{LastOrder}
use Rattle.node.specs.declared.record.Node.{Node}
use Rattle.node.specs.declared.record.VoiceId.{VoiceId}
use Rattle.edges.specs.Wiring.{listed, among, drop_touching}
use Rattle.graph.specs.Node.{is_node, owned_by, owned_by_any, node_at, replaced}
use Rattle.graph.specs.View.{with_nodes}
use Rattle.graph.specs.Change.{ids_of}
use Rattle.graph.proofs.Together.{listed_more, listed_in}
use Rattle.synthdef.specs.Tables.{param_rows}
use Rattle.synthdef.specs.Params.{param_node}
use Rattle.store.specs.declared.answer.Outcome.TheVariants.{Applied, NotTaken}
use Rattle.voice.specs.declared.voices.Voice.{Voice}
use Rattle.model.specs.SharedState.{SharedState, with_graph}
use Rattle.model.specs.Model.{Model, without_voice, freed}
use Rattle.model.specs.Order.{takes, with_last, with_node, stays, order_node, order_param, order_voice, order, free_outcome}
use Rattle.voice.specs.Voice.{is_voice, id}
use Rattle.call_param.specs.Left.{is_left, is_known, reply, replaced_left, reply_node, reply_param, reply_voice, order_left}
use Rattle.call_free.specs.Forgotten.{without_ids}
use Rattle.call_render.specs.Applying.{scene, noted}

-- what is found among those that pass a test passes both
find_and : {A : Type 0} (q t : A → Bool) (l : List A) → find q (filter t l) ≡ find (λ x. t x && q x) l
find_and q t [] = refl
find_and q t (x ∷ l) = go (t x) (find_and q t l)
  where
    go : (b : Bool) → find q (filter t l) ≡ find (λ y. t y && q y) l → find q (cond b (x ∷ (filter t l)) (filter t l)) ≡ cond (b && q x) (Some x) (find (λ y. t y && q y) l)
    go true ih = ap (λ o. cond (q x) (Some x) o) ih
    go false ih = ih

abbrev voice : ℕ → VoiceId
voice w = record { 0 = w }

-- ---- what is left of the nodes and of the voices
pub removed_nodes : (l : List ℕ) (m : Model) → (without_ids l m).shared.graph.nodes ≡ filter (λ n. not (owned_by_any l n)) m.shared.graph.nodes
removed_nodes [] m = sym (filter_all (λ n. not (owned_by_any [] n)) m.shared.graph.nodes (λ x i. refl))
removed_nodes (w ∷ l) m =
    removed_nodes l (without_voice (voice w) m)
    ∙ filter_filter (λ n. not (owned_by_any l n)) (λ n. not (owned_by (voice w) n)) m.shared.graph.nodes
    ∙ filter_same _ _ m.shared.graph.nodes (λ n i. neither (owned_by (voice w) n) (owned_by_any l n) ∙ ap not (sym (listed_more w n.owner.0 l)))

pub removed_voices : (l : List ℕ) (m : Model) → (without_ids l m).voices ≡ filter (λ v. not (listed l v.id.0)) m.voices
removed_voices [] m = sym (filter_all (λ v. not (listed [] v.id.0)) m.voices (λ x i. refl))
removed_voices (w ∷ l) m =
    removed_voices l (without_voice (voice w) m)
    ∙ filter_filter (λ v. not (listed l v.id.0)) (λ v. not (is_voice (voice w) v)) m.voices
    ∙ filter_same _ _ m.voices (λ v i. neither (is_voice (voice w) v) (listed l v.id.0) ∙ ap not (sym (listed_more w v.id.0 l)))

removed_more : (l : List ℕ) (w : ℕ) (m : Model) → without_ids (l ++ (w ∷ [])) m ≡ without_voice (voice w) (without_ids l m)
removed_more [] w m = refl
removed_more (x ∷ l) w m = removed_more l w (without_voice (voice x) m)

-- ---- other records of the nodes
abbrev mapped : (Node → Node) → Model → Model
mapped f m = record { shared = with_graph (with_nodes m.shared.graph (map f m.shared.graph.nodes)) m.shared; voices = m.voices }

-- what goes with the voice w, from the nodes that stay and the ids of those that are removed
abbrev without : VoiceId → Model → List Node → List ℕ → Model
without w m ns ids =
    record {
      shared = with_graph (record {
        nodes = ns;
        edges = drop_touching m.shared.graph.edges ids;
        sink = filter_o (λ k. not (among ids k)) m.shared.graph.sink;
        prepared = false;
        order = m.shared.graph.order;
        next = m.shared.graph.next;
      }) m.shared;
      voices = filter (λ v. not (is_voice w v)) m.voices;
    }

abbrev id_of : Node → ℕ
id_of n = n.id.0

map_kept : {A B : Type 0} (f : A → A) (g : A → B) → ((x : A) → g (f x) ≡ g x) → (l : List A) → map g (map f l) ≡ map g l
map_kept f g e [] = refl
map_kept f g e (x ∷ l) = rw (e x) (ap (λ z. g x ∷ z) (map_kept f g e l))

-- the ids stay, and whether one of these voices owns a node: the same nodes are removed with them
module _ (f : Node → Node) (ids : (n : Node) → (f n).id.0 ≡ n.id.0) where
  removed_mapped : (w : VoiceId) → ((n : Node) → owned_by w (f n) ≡ owned_by w n) → (m : Model) → without_voice w (mapped f m) ≡ mapped f (without_voice w m)
  removed_mapped w own m =
      let ns = m.shared.graph.nodes in
      ap (λ x. without w m x (ids_of (owned_by w) (map f ns))) (filter_map f (λ n. not (owned_by w n)) (λ n. not (owned_by w n)) (λ n. ap not (own n)) ns)
      ∙ ap (without w m (map f (filter (λ n. not (owned_by w n)) ns))) (ap (map id_of) (filter_map f (owned_by w) (owned_by w) own ns) ∙ map_kept f id_of ids (filter (owned_by w) ns))

  all_mapped : (l : List ℕ) → ((w : ℕ) → In w l → (n : Node) → owned_by (voice w) (f n) ≡ owned_by (voice w) n) → (m : Model) → without_ids l (mapped f m) ≡ mapped f (without_ids l m)
  all_mapped [] own m = refl
  all_mapped (w ∷ l) own m = ap (without_ids l) (removed_mapped (voice w) (own w (inl refl)) m) ∙ all_mapped l (λ v i. own v (inr i)) (without_voice (voice w) m)

-- ---- an order gives the node that it finds, and those of its id, another record
module _ (l : List ℕ) (ns : List Node) (k : ℕ) (o : LastOrder) (n : Node) (found : find (is_left l (id k)) ns ≡ Some n) where
  abbrev new : Node
  new = with_last o n

  abbrev f : Node → Node
  f x = cond (is_left l new.id x) new x

  n_stays : owned_by_any l n ≡ false
  n_stays = not-true (owned_by_any l n) (and_left (not (owned_by_any l n)) (is_node (id k) n) (find_in (is_left l (id k)) ns n found).1)

  f_id : (x : Node) → (f x).id.0 ≡ x.id.0
  f_id x = go (is_left l new.id x) refl
    where
      go : (b : Bool) → is_left l new.id x ≡ b → (cond b new x).id.0 ≡ x.id.0
      go true t = sym (eqb-true x.id.0 n.id.0 (and_right (not (owned_by_any l x)) (is_node n.id x) t))
      go false t = refl

  other : (w : ℕ) → In w l → (x : Node) → owned_by_any l x ≡ false → eqb x.owner.0 w ≡ false
  other w i x h = ne_eqb x.owner.0 w (λ e. false≢true (sym h ∙ ap (listed l) e ∙ listed_in l w i))

  f_own : (w : ℕ) → In w l → (x : Node) → owned_by (voice w) (f x) ≡ owned_by (voice w) x
  f_own w i x = go (is_left l new.id x) refl
    where
      go : (b : Bool) → is_left l new.id x ≡ b → owned_by (voice w) (cond b new x) ≡ owned_by (voice w) x
      go true t = other w i n n_stays ∙ sym (other w i x (not-true (owned_by_any l x) (and_left (not (owned_by_any l x)) (is_node n.id x) t)))
      go false t = refl

  -- of the nodes that stay it is every one of that id
  left_replaced : map f (filter (λ x. not (owned_by_any l x)) ns) ≡ replaced (filter (λ x. not (owned_by_any l x)) ns) new
  left_replaced =
      map_same f (λ x. cond (is_node new.id x) new x) (filter (λ x. not (owned_by_any l x)) ns)
      (λ x i. ap (λ b. cond (b && is_node new.id x) new x) (in_filter (λ x. not (owned_by_any l x)) ns x i).1)

  pub order_removed : (d : SharedState) (vs : List Voice) → without_ids l (scene d (replaced_left l ns new) vs) ≡ record { shared = with_node new (without_ids l (scene d ns vs)).shared; voices = (without_ids l (scene d ns vs)).voices }
  order_removed d vs =
      let now = without_ids l (scene d ns vs) in
      let kept = removed_nodes l (scene d ns vs) in
      all_mapped f f_id l f_own (scene d ns vs)
      ∙ ap (λ z. record { shared = with_graph (with_nodes now.shared.graph z) now.shared; voices = now.voices }) (ap (map f) kept ∙ left_replaced ∙ ap (λ z. replaced z new) (sym kept))

-- ---- one event
module _ (l : List ℕ) (d : SharedState) (ns : List Node) (vs : List Voice) where
  abbrev now : Model
  now = without_ids l (scene d ns vs)

  node_left : (k : ℕ) → node_at now.shared.graph.nodes (id k) ≡ find (is_left l (id k)) ns
  node_left k = ap (find (is_node (id k))) (removed_nodes l (scene d ns vs)) ∙ find_and (is_node (id k)) (λ n. not (owned_by_any l n)) ns

  voice_left : (w : VoiceId) → find (is_voice w) now.voices ≡ find (is_known l w) vs
  voice_left w = ap (find (is_voice w)) (removed_voices l (scene d ns vs)) ∙ find_and (is_voice w) (λ v. not (listed l v.id.0)) vs

  abbrev with : SharedState → Model
  with x = record { shared = x; voices = now.voices }

  way_node : (k : ℕ) (o : LastOrder) (x : Option Node) → find (is_left l (id k)) ns ≡ x → without_ids l (scene d (reply_node l x o ns).nodes vs) ≡ with (order_node x o now.shared).shared
  way_node k o None e = refl
  way_node k o (Some n) e = go (takes o n)
    where
      go : (b : Bool) → without_ids l (scene d (cond b (reply Applied (replaced_left l ns (with_last o n))) (reply NotTaken ns)).nodes vs) ≡ with (cond b (record { outcome = Applied; shared = with_node (with_last o n) now.shared }) (stays NotTaken now.shared)).shared
      go true = order_removed l ns k o n e d vs
      go false = refl

  way_param : (v : Voice) (o : LastOrder) (p : Option ℕ) → without_ids l (scene d (reply_param l p v o ns).nodes vs) ≡ with (order_param p v o now.shared).shared
  way_param v o None = refl
  way_param v o (Some i) =
      way_node (v.first.0 + i) o (find (is_left l (id (v.first.0 + i))) ns) refl
      ∙ ap (λ x. with (order_node x o now.shared).shared) (sym (node_left (v.first.0 + i)))

  way_voice : (name : Name) (o : LastOrder) (x : Option Voice) → without_ids l (scene d (reply_voice l x name o ns).nodes vs) ≡ with (order_voice x name o now.shared).shared
  way_voice name o None = refl
  way_voice name o (Some v) = way_param v o (param_node (param_rows v.params) name)

  -- a value or a glide
  pub way_order : (w : VoiceId) (name : Name) (o : LastOrder) → without_ids l (scene d (order_left l w name o vs ns).nodes vs) ≡ with (order w name o now.voices now.shared).shared
  way_order w name o = way_voice name o (find (is_known l w) vs) ∙ ap (λ x. with (order_voice x name o now.shared).shared) (sym (voice_left w))

  -- what it answers
  say_node : (o : LastOrder) (x : Option Node) → (reply_node l x o ns).outcome ≡ (order_node x o now.shared).outcome
  say_node o None = refl
  say_node o (Some n) = go (takes o n)
    where
      go : (b : Bool) → (cond b (reply Applied (replaced_left l ns (with_last o n))) (reply NotTaken ns)).outcome ≡ (cond b (record { outcome = Applied; shared = with_node (with_last o n) now.shared }) (stays NotTaken now.shared)).outcome
      go true = refl
      go false = refl

  say_param : (v : Voice) (o : LastOrder) (p : Option ℕ) → (reply_param l p v o ns).outcome ≡ (order_param p v o now.shared).outcome
  say_param v o None = refl
  say_param v o (Some i) =
      say_node o (find (is_left l (id (v.first.0 + i))) ns) ∙ ap (λ x. (order_node x o now.shared).outcome) (sym (node_left (v.first.0 + i)))

  say_voice : (name : Name) (o : LastOrder) (x : Option Voice) → (reply_voice l x name o ns).outcome ≡ (order_voice x name o now.shared).outcome
  say_voice name o None = refl
  say_voice name o (Some v) = say_param v o (param_node (param_rows v.params) name)

  pub say_order : (w : VoiceId) (name : Name) (o : LastOrder) → (order_left l w name o vs ns).outcome ≡ (order w name o now.voices now.shared).outcome
  say_order w name o = say_voice name o (find (is_known l w) vs) ∙ ap (λ x. (order_voice x name o now.shared).outcome) (sym (voice_left w))

  pub say_free : (w : VoiceId) → free_outcome (find (is_known l w) vs) ≡ free_outcome (find (is_voice w) now.voices)
  say_free w = ap free_outcome (sym (voice_left w))

  -- a free
  pub way_free : (w : VoiceId) → without_ids (noted (find (is_known l w) vs) l w.0) (scene d ns vs) ≡ freed (find (is_voice w) now.voices) now
  way_free w = ap (λ x. without_ids (noted x l w.0) (scene d ns vs)) (sym (voice_left w)) ∙ go (find (is_voice w) now.voices) refl
    where
      go : (x : Option Voice) → find (is_voice w) now.voices ≡ x → without_ids (noted x l w.0) (scene d ns vs) ≡ freed x now
      go None e = refl
      go (Some v) e = removed_more l w.0 (scene d ns vs) ∙ ap (λ z. without_voice (voice z) now) (sym (eqb-true v.id.0 w.0 (find_in (is_voice w) now.voices v e).1))
