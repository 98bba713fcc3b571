-- "Render answers of Paper 1 list only the events left." A's list is B's without the entries of the events that a later one replaces. So no
-- entry of an event that is left is another than it would have been.
use Prim.Native.Nat.{ℕ, ◌+◌}
use mathlib.Core.Path.{◌≡◌, refl, sym, ap, ◌∙◌, subst}
use mathlib.Core.List.{List, [], ◌∷◌}
use Rattle.std.specs.Prelude.{Option, None, Some, find, option_map}
use mathlib.Core.Bool.{Bool, true, false, not, cond, true≢false, false≢true}
use lib.Dec.{eqb}
use lib.ListN.{length}
use borrow.Author.Tests.{eqb-true, eqb-false}
use Rattle.model.proofs.Outcomes.{count_is}
use Rattle.node.specs.declared.order.LastOrder.{LastOrder}
use Rattle.node.specs.declared.record.Node.{Node}
use Rattle.node.specs.declared.refusal.Refusal.{Refusal}
use Rattle.graph.specs.Node.{node_at}
use Rattle.scheduler.specs.Event.{order_of, param_of, param_order}
use Rattle.scheduler.specs.Queue.{taken_before, left_after}
use Rattle.scheduler.specs.Queue as queue
use Rattle.scheduler.specs.declared.event.Event.{Event}
use Rattle.synthdef.specs.Tables.{param_rows}
use Rattle.synthdef.specs.Params.{param_node}
use Rattle.store.specs.declared.answer.Outcome.TheVariants.{Applied, NotTaken}
use Rattle.store.specs.declared.answer.Rendered.{Rendered}
use Rattle.voice.specs.declared.voices.Voice.{Voice}
use Rattle.voice.specs.Voice.{is_voice, id}
use Rattle.model.specs.Model.{Model, without_voice, freed}
use Rattle.lists.specs.Written.{written}
use Rattle.model.specs.Order.{Ordered, takes, with_node, stays, order_voice, order_param, order_node, outcome_number, free_outcome}
use Rattle.node.specs.Node.{with_last}
use Rattle.model.specs.Render.{is_free, apply_event, due, deadline, rested, render, outcome_of, outcomes, render_refusal}
use Rattle.model.specs.Call.{render_step}
use Rattle.model.specs.Call as call
use Rattle.replaced.specs.Kept.{with_queue, overtaken, lasts}
use Rattle.replaced.specs.Replaced.{taken_by, told_by, left_of, ToldAlike}
use Rattle.replaced.proofs.Thin.{Superseded, thinned_taken}
use Rattle.replaced.proofs.Applied.{Good, set_at, put, at_nodes, aim, look_set, touched, touched_takes, set_again, set_swap, removed_set, good_set, good_removed, good_applied, aim_set, applied_put, superseded_free}
use Rattle.replaced.proofs.Lasts.{true_overtaken, single_filter, thinned_lasts}
use Rattle.replaced.proofs.Still.{voice_still, applied_still}
use Rattle.replaced.proofs.Related.{Related, heard_same}

-- ---- an outcome does not depend on last orders
applied_set : (e : Event) (k : ℕ) (o : LastOrder) (m : Model) → outcome_of e (set_at k o m) ≡ outcome_of e m
applied_set e k o m = ap (cond (is_free e.action) (free_outcome (find (is_voice e.voice) m.voices))) (voice (find (is_voice e.voice) m.voices))
  where
    u : LastOrder
    u = order_of e.action

    ns : List Node
    ns = m.shared.graph.nodes

    took : (b c : Bool) (x y : Node) → b ≡ c → (cond b (record { outcome = Applied; shared = with_node x (set_at k o m).shared }) (stays NotTaken (set_at k o m).shared)).outcome ≡ (cond c (record { outcome = Applied; shared = with_node y m.shared }) (stays NotTaken m.shared)).outcome
    took true true x y h = refl
    took false false x y h = refl
    took true false x y h = absurd (true≢false h)
    took false true x y h = absurd (false≢true h)

    node : (x : Option Node) → (order_node (option_map (touched k o) x) u (set_at k o m).shared).outcome ≡ (order_node x u m.shared).outcome
    node None = refl
    node (Some n) = took (takes u (touched k o n)) (takes u n) (with_last u (touched k o n)) (with_last u n) (touched_takes k o u n)

    at : (i : Option ℕ) (v : Voice) → (order_param i v u (set_at k o m).shared).outcome ≡ (order_param i v u m.shared).outcome
    at None v = refl
    at (Some i) v = ap (λ x. (order_node x u (set_at k o m).shared).outcome) (look_set k o (id (v.first.0 + i)) ns) ∙ node (node_at ns (id (v.first.0 + i)))

    voice : (v : Option Voice) → (order_voice v (param_of e.action e.name) u (set_at k o m).shared).outcome ≡ (order_voice v (param_of e.action e.name) u m.shared).outcome
    voice None = refl
    voice (Some v) = at (param_node (param_rows v.params) (param_of e.action e.name)) v

outcomes_set : (k : ℕ) (o : LastOrder) (q : List Event) (m : Model) → Good m → outcomes q (set_at k o m) ≡ outcomes q m
outcomes_set k o [] m g = refl
outcomes_set k o (f ∷ q) m g = ap (λ z. outcome_number z ∷ outcomes q (apply_event f (set_at k o m))) (applied_set f k o m) ∙ ap (λ z. outcome_number (outcome_of f m) ∷ z) (go (is_free f.action) refl (outcomes_set k o q))
  where
    u : LastOrder
    u = order_of f.action

    each : (t : Option ℕ) → ((n : Model) → Good n → outcomes q (set_at k o n) ≡ outcomes q n) → outcomes q (put t u (set_at k o m)) ≡ outcomes q (put t u m)
    each None ih = ih m g
    each (Some j) ih = at (eqb j k) refl
      where
        at : (b : Bool) → eqb j k ≡ b → outcomes q (set_at j u (set_at k o m)) ≡ outcomes q (set_at j u m)
        at true b =
            subst (λ i. outcomes q (set_at i u (set_at k o m)) ≡ outcomes q (set_at i u m)) (sym (eqb-true j k b)) (ap (λ z. outcomes q (at_nodes z m)) (set_again k o u m.shared.graph.nodes))
        at false b = ap (λ z. outcomes q (at_nodes z m)) (set_swap j k u o (eqb-false j k b) m.shared.graph.nodes) ∙ ih (set_at j u m) (good_set j u m g)

    freeing : (t : Option Voice) → ((n : Model) → Good n → outcomes q (set_at k o n) ≡ outcomes q n) → outcomes q (freed t (set_at k o m)) ≡ outcomes q (freed t m)
    freeing None ih = ih m g
    freeing (Some v) ih = ap (outcomes q) (removed_set k o v.id m) ∙ ih (without_voice v.id m) (good_removed v.id m g)

    go : (b : Bool) → is_free f.action ≡ b → ((n : Model) → Good n → outcomes q (set_at k o n) ≡ outcomes q n) → outcomes q (apply_event f (set_at k o m)) ≡ outcomes q (apply_event f m)
    go false b ih =
        ap (outcomes q) (applied_put f (set_at k o m) (good_set k o m g) b ∙ ap (λ z. put z u (set_at k o m)) (aim_set f k o m))
        ∙ each (aim f m) ih ∙ ap (outcomes q) (sym (applied_put f m g b))
    go true b ih = rw b (freeing (find (is_voice f.voice) m.voices) ih)

-- ---- so the list of what is left is the list, less the entries of what is not
outcomes_drop : (e : Event) (q : List Event) (m : Model) → Good m → Superseded e q → outcomes q (apply_event e m) ≡ outcomes q m
outcomes_drop e q m g s = ap (outcomes q) (applied_put e m g (superseded_free e q s)) ∙ go (aim e m)
  where
    go : (t : Option ℕ) → outcomes q (put t (order_of e.action) m) ≡ outcomes q m
    go None = refl
    go (Some k) = outcomes_set k (order_of e.action) q m g

pub outcomes_lasts : (q : List Event) (m : Model) → Good m → outcomes (lasts q) m ≡ left_of q (outcomes q m)
outcomes_lasts [] m g = refl
outcomes_lasts (e ∷ q) m g = go (overtaken e q) refl (outcomes_lasts q)
  where
    go : (b : Bool) → overtaken e q ≡ b → ((n : Model) → Good n → outcomes (lasts q) n ≡ left_of q (outcomes q n))
        → outcomes (cond (not b) (e ∷ (lasts q)) (lasts q)) m ≡ cond (not b) ((outcome_number (outcome_of e m)) ∷ (left_of q (outcomes q (apply_event e m)))) (left_of q (outcomes q (apply_event e m)))
    go false t ih = ap (λ z. outcome_number (outcome_of e m) ∷ z) (ih (apply_event e m) (good_applied e m g))
    go true t ih = ih m g ∙ ap (left_of q) (sym (outcomes_drop e q m g (true_overtaken e q t)))

-- the pending events are not looked at
outcomes_still : (l q : List Event) (m : Model) → outcomes q (with_queue l m) ≡ outcomes q m
outcomes_still l [] m = refl
outcomes_still l (e ∷ q) m =
    ap (λ (r : Ordered). outcome_number (cond (is_free e.action) (free_outcome (find (is_voice e.voice) m.voices)) r.outcome) ∷ outcomes q (apply_event e (with_queue l m))) (voice_still l (find (is_voice e.voice) m.voices) (param_order e).name (param_order e).order m.shared)
    ∙ ap (λ z. outcome_number (outcome_of e m) ∷ z) (ap (outcomes q) (applied_still l e m) ∙ outcomes_still l q (apply_event e m))

-- ---- of every store that calls made: what the next render tells
told : (a b : Model) → Good a → Related a b → outcomes (due a.shared) (rested a) ≡ left_of (due b.shared) (outcomes (due b.shared) (rested b))
told a b g t = subst (λ (z : Model). outcomes (due a.shared) (rested a) ≡ left_of (due z.shared) (outcomes (due z.shared) (rested z))) (sym t.is) here
  where
    d : ℕ
    d = deadline a.shared

    p : List Event
    p = taken_before d a.shared.events

    q : List Event
    q = taken_before d t.queue

    here : outcomes p (with_queue (left_after d a.shared.events) a) ≡ left_of q (outcomes q (with_queue (left_after d t.queue) a))
    here =
        outcomes_still (left_after d a.shared.events) p a
        ∙ ap (λ z. outcomes z a) (thinned_lasts q p (thinned_taken d a.shared.events t.queue t.thin) (single_filter (queue.due d) a.shared.events t.single))
        ∙ outcomes_lasts q a g
        ∙ ap (left_of q) (sym (outcomes_still (left_after d t.queue) q a))

-- ---- one entry for each event
-- ---- a render that is refused, or not
module _ (a b : Model) (g : Good a) (t : Related a b) (out : List ℕ) where
  -- what the two answer
  pub record Told (o : Option Refusal) : Type 0 where
    pub says : Rendered
    pub theirs : (render_step o out b).answer ≡ call.rendered says (length (told_by o b)) (written (told_by o b) out)
    pub mine : (render_step o out a).answer ≡ call.rendered says (length (left_of (taken_by o b) (told_by o b))) (written (left_of (taken_by o b) (told_by o b)) out)

  tells : (o : Option Refusal) → Told o
  tells (Some r) = record { says = Rendered.Refused r; theirs = refl; mine = refl }
  tells None =
      let os = outcomes (due b.shared) (rested b) in
      let ps = outcomes (due a.shared) (rested a) in
      let less : ps ≡ left_of (due b.shared) os = told a b g t in
      record {
        says = (render b).answer;
        theirs = ap (λ n. call.rendered (render b).answer n (written os out)) (sym (count_is (due b.shared) (rested b)));
        mine =
            ap (λ (x : Rendered). call.rendered x (length (due a.shared)) (written ps out)) (heard_same a b g t)
            ∙ ap (λ n. call.rendered (render b).answer n (written ps out)) (sym (count_is (due a.shared) (rested a)))
            ∙ ap (λ l. call.rendered (render b).answer (length l) (written l out)) less;
      }

  pub told_alike : ToldAlike a b out
  told_alike =
      let r = tells (render_refusal b.shared (length out)) in
      record {
        says = r.says;
        entries = _;
        all = refl;
        theirs = r.theirs;
        left = _;
        less = refl;
        mine = ap (λ o. (render_step o out a).answer) refusal_same ∙ r.mine;
      }
    where
      refusal_same : render_refusal a.shared (length out) ≡ render_refusal b.shared (length out)
      refusal_same = sym (ap (λ (z : Model). render_refusal z.shared (length out)) t.is)
