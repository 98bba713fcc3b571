-- What is pending after each call, and that the queue of every store that calls left is in the order of its times and
-- no longer than 256.
use Prim.Native.Nat.{ℕ, zero, suc, ◌≤◌, ◌<◌}
use native.Mathlib.Omega.{arith}
use mathlib.Core.Path.{◌≡◌, refl, sym, ap, subst, ◌∙◌}
use mathlib.Core.Logic.{inr}
use mathlib.Core.List.{List, [], ◌∷◌, ◌++◌}
use mathlib.Core.Bool.{Bool, true, false, not, cond, false≢true}
use lib.Dec.{leb, ltb}
use lib.ListN.{length}
use borrow.Author.Tests.{ltb-true, ltb-false, lt-ltb, leb-true, le-leb}
use Rattle.std.specs.Prelude.{Option, None, Some, Ok, Err, filter, find, Float}
use Rattle.lists.specs.Member.{In}
use Rattle.lists.proofs.Member.{some_inj, none_some, ok_err}
use Rattle.lists.proofs.Filter.{in_filter, filter_all, filter_none, length_filter}
use Rattle.node.specs.Name.{named, name_of, text}
use Rattle.node.specs.declared.name.Name.{Name}
use Rattle.node.specs.declared.order.EventAction.{EventAction}
use Rattle.node.specs.declared.order.EventAction.TheVariants as action
use Rattle.node.specs.declared.refusal.Refusal.{Refusal}
use Rattle.node.specs.declared.refusal.Refusal.TheVariants.{TableFull, NoPort, ClockEnd, ShortBuffer}
use Rattle.node.specs.declared.record.Node.{Node}
use Rattle.node.proofs.NameLaws.{name_long}
use Rattle.graph.specs.Refuse.{when}
use Rattle.scheduler.specs.Replace.{replaces, thinned}
use Rattle.scheduler.specs.Queue.{later, replacing, full}
use Rattle.scheduler.specs.declared.event.Event.{Event}
use Rattle.scheduler.proofs.Sorted.{Sorted, inserted_place, filter_sorted}
use Rattle.scheduler.proofs.ReplaceLaws as queue
use Rattle.voice.specs.declared.policy.Admission.{Admission}
use Rattle.voice.specs.declared.policy.Admission.TheVariants as admission
use Rattle.voice.specs.declared.voices.Voice.{Voice}
use Rattle.voice.specs.declared.voices.VoiceState.{VoiceState}
use Rattle.voice.specs.declared.voices.VoiceState.TheVariants.{Loose}
use Rattle.model.specs.Refuse.{spawn_refusal, report_refusal}
use Rattle.model.specs.Spawn.{Spawn, tries, state_under, next_out}
use Rattle.voice.specs.Voice.{is_voice, feeder}
use Rattle.edges.specs.Ports.{port_from}
use Rattle.graph.specs.Node.{node_at}
use Rattle.graph.specs.Refuse.{add_refusal, host_refusal, disconnect_refusal, connect_refusal}
use Rattle.graph.specs.View.{GraphView}
use Rattle.model.specs.Model.{Model, instantiate_or, port_free, place, place_within_budget}
use Rattle.model.specs.Model.{steal_voice, stolen, steal_then}
use Rattle.model.specs.Model.{admitted, admission_on, spawn_managed, spawn_loose, freed, free}
use Rattle.model.specs.Model as store
use Rattle.model.specs.Clear.{without_voices, ended_voices, silent_voices, clear}
use Rattle.model.specs.Make.{Making, make, made_unless, new_model, config_of, refusal_of}
use Rattle.model.specs.Order.{report_node}
use Rattle.model.specs.Render.{due, rested, any_free, apply_events}
use Rattle.model.specs.Call.{Call, Answer, Step, step, run, unless, schedule_refusal}
use Rattle.model.specs.Call as call
use Rattle.rules.specs.Left.{Without}
use Rattle.rules.specs.Render.{block_end, Accepted, after}
use Rattle.rules.specs.Events.{InOrder, QueueAlways}
use Rattle.rules.specs.Events.{Sort, value, glide, Named, Sets, Replaces, Full}
use Rattle.rules.specs.Events.{Placed, pending, Schedules, Takes, Pending, PendingAlways}
use Rattle.rules.proofs.Left.{filter_without}
use Rattle.rules.proofs.Still.{order_still, free_still, events_still, prepare_still, block_events}
use Rattle.rules.proofs.RenderLaws.{Case, at_end, at_short, at_open, which, ended, short, open_to, after_by}

-- ---- the test of the queue is the rule: which event a new one replaces
abbrev sort_of : queue.Sort → Sort
sort_of queue.value = value
sort_of queue.glide = glide

abbrev sort_from : Sort → queue.Sort
sort_from value = queue.value
sort_from glide = queue.glide

pub long : (n : Name) → named n ≡ true → Named n
long n h = let l = name_long n.len h in record { one = l.0; sixteen = l.1 }

pub named_is : (n : Name) → Named n → named n ≡ true
named_is n l =
    let a : leb 1 n.len ≡ true = le-leb _ _ l.one in let b : leb n.len 16 ≡ true = le-leb _ _ l.sixteen in rw (a, b)

under_sets : (s : queue.Sort) (n : Name) (k : queue.Ordered) → queue.under s n ≡ Some k
    → (sort_of k.sort ≡ sort_of s) × Named n × (k.parameter ≡ text n)
under_sets s n k h = go (named n) refl h
  where
    go : (b : Bool) → named n ≡ b → cond b (Some (record { sort = s; parameter = text n })) None ≡ Some k
        → (sort_of k.sort ≡ sort_of s) × Named n × (k.parameter ≡ text n)
    go true e p =
        let q = some_inj p in
        (ap (λ (o : queue.Ordered). sort_of o.sort) (sym q), long n e, ap (λ (o : queue.Ordered). o.parameter) (sym q))
    go false e p = absurd (none_some p)

sets_of : (a : EventAction) (n : Name) (k : queue.Ordered) → queue.ordered a n ≡ Some k
    → Sets a n (sort_of k.sort) k.parameter
sets_of (action.Value x) n k h = under_sets queue.value n k h
sets_of (action.Glide g) n k h = under_sets queue.glide n k h
sets_of (action.Gate x) n k h =
    let q = some_inj h in
    (ap (λ (o : queue.Ordered). sort_of o.sort) (sym q), ap (λ (o : queue.Ordered). o.parameter) (sym q))
sets_of action.Free n k h = absurd (none_some h)

abbrev what : Sort → List ℕ → queue.Ordered
what s p = record { sort = sort_from s; parameter = p }

set_under : (s : Sort) (u : queue.Sort) (n : Name) (p : List ℕ) → sort_from s ≡ u → Named n → p ≡ text n
    → queue.under u n ≡ Some (what s p)
set_under s u n p e l q =
    ap (λ b. cond b (Some (record { sort = u; parameter = text n })) None) (named_is n l)
    ∙ ap (λ (t : List ℕ). Some (record { sort = u; parameter = t })) (sym q)
    ∙ ap (λ (z : queue.Sort). Some (record { sort = z; parameter = p })) (sym e)

of_sets : (a : EventAction) (n : Name) (s : Sort) (p : List ℕ) → Sets a n s p → queue.ordered a n ≡ Some (what s p)
of_sets (action.Value x) n s p (e, l, q) = set_under s queue.value n p (ap sort_from e) l q
of_sets (action.Glide g) n s p (e, l, q) = set_under s queue.glide n p (ap sort_from e) l q
of_sets (action.Gate x) n s p (e, q) =
    ap (λ (t : List ℕ). Some (record { sort = queue.value; parameter = t })) (sym q)
    ∙ ap (λ (z : queue.Sort). Some (record { sort = z; parameter = p })) (sym (ap sort_from e))
of_sets action.Free n s p h = absurd h

pub replaced_yes : (e f : Event) → replaces e f ≡ true → Replaces e f
replaced_yes e f h =
    let a = queue.replaces_to e f h in
    record {
      time = a.time;
      voice = a.voice;
      sort = sort_of a.what.sort;
      parameter = a.what.parameter;
      mine = sets_of e.action e.name a.what a.mine;
      theirs = sets_of f.action f.name a.what a.theirs;
    }

pub replaced_is : (e f : Event) → Replaces e f → replaces e f ≡ true
replaced_is e f r =
    queue.replaces_from e f
    (record {
      time = r.time;
      voice = r.voice;
      what = what r.sort r.parameter;
      mine = of_sets e.action e.name r.sort r.parameter r.mine;
      theirs = of_sets f.action f.name r.sort r.parameter r.theirs;
    })

-- ---- scheduling
-- a queue in the order of its times is what is not later than e, and then what is later
-- what of the queue is not later than e
abbrev not_later : Event → List Event → List Event
not_later e l = filter (λ f. not (later e f)) l

split_later : (e : Event) (l : List Event) → Sorted l → not_later e l ++ filter (later e) l ≡ l
split_later e [] s = refl
split_later e (f ∷ l) s = go (later e f) refl (split_later e l s.1)
  where
    go : (b : Bool) → later e f ≡ b → not_later e l ++ filter (later e) l ≡ l
        → cond (not b) (f ∷ (not_later e l)) (not_later e l) ++ cond b (f ∷ (filter (later e) l)) (filter (later e) l)
        ≡ f ∷ l
    go true t ih =
        let h : e.time < f.time = ltb-true _ _ t in
        let after : (x : Event) → In x l → e.time < x.time = (λ x i. omega (arith, s.0 x i)) in
        let on : (x : Event) → In x l → later e x ≡ true = (λ x i. lt-ltb _ _ (after x i)) in
        let none : not_later e l ≡ [] = filter_none (λ x. not (later e x)) l (λ x i. ap not (on x i)) in
        rw (none, filter_all (later e) l on)
    go false t ih = ap (λ z. f ∷ z) ih

pub not_true : (b : Bool) → not b ≡ true → b ≡ false
not_true true h = absurd (false≢true h)
not_true false h = refl

pub not_false : (b : Bool) → not b ≡ false → b ≡ true
not_false true h = refl
not_false false h = absurd (false≢true (sym h))

module _ (e : Event) (q : List Event) (s : Sorted q) where
  others : Without (Replaces e) q (thinned e q)
  others =
      filter_without (Replaces e) (λ f. not (replaces e f))
      (λ f h r. false≢true (sym (not_true (replaces e f) h) ∙ replaced_is e f r))
      (λ f h. replaced_yes e f (not_false (replaces e f) h)) q

  placed : Placed e q (replacing e q)
  placed =
      let t = filter_sorted (λ f. not (replaces e f)) q s in
      record {
        before = filter (λ f. not (later e f)) (thinned e q);
        behind = filter (later e) (thinned e q);
        stands = inserted_place e (thinned e q) t;
        others = subst (Without (Replaces e) q) (sym (split_later e (thinned e q) t)) others;
        not_later = λ f i. ltb-false _ _ (not_true (later e f) (in_filter (λ f. not (later e f)) (thinned e q) f i).1);
        later = λ f i. ltb-true _ _ (in_filter (later e) (thinned e q) f i).1;
      }

module _ (e : Event) (q : List Event) (fits : length q ≤ 256) where
  full_is : Full e q → full (thinned e q) ≡ true
  full_is f =
      let same : thinned e q ≡ q = filter_all (λ g. not (replaces e g)) q (λ g i. go g i (replaces e g) refl) in
      ap full same ∙ le-leb _ _ (let l = f.many in omega arith)
    where
      go : (g : Event) → In g q → (b : Bool) → replaces e g ≡ b → not (replaces e g) ≡ true
      go g i true h = absurd (f.none g i (replaced_yes e g h))
      go g i false h = ap not h

  full_from : full (thinned e q) ≡ true → Full e q
  full_from h =
      record {
        many =
            let l : 256 ≤ length q =
            omega (arith, leb-true 256 (length (thinned e q)) h, length_filter (λ g. not (replaces e g)) q) in
            omega arith;
        none =
            λ g i r.
            ok_err
            (sym (queue.room_taken e q fits (inr (g, i, replaced_is e g r)))
            ∙ ap (λ b. cond b (Err TableFull) (Ok tt)) h);
      }

done_refused : {r : Refusal} → call.done ≡ call.refused r → ⊥
done_refused h = cc

module _ (e : Event) (m : Model) (s : Sorted m.shared.events) (fits : length m.shared.events ≤ 256) where
  -- the step by the test of the queue
  abbrev at : Bool → Step
  at b =
      unless (when b TableFull None) m
      (record { answer = call.done; model = pending (replacing e m.shared.events) m })

  scheduled : (b : Bool) → full (thinned e m.shared.events) ≡ b → Schedules e m (at b)
  scheduled true h =
      let f = full_from e m.shared.events fits h in
      record
      { seven = (λ a. f, λ g. refl); unchanged = λ g. refl; done = λ n. absurd (n f); placed = λ n. absurd (n f) }
  scheduled false h =
      let no : Full e m.shared.events → ⊥ = (λ g. false≢true (sym h ∙ full_is e m.shared.events fits g)) in
      record {
        seven = (λ a. absurd (done_refused a), λ g. absurd (no g));
        unchanged = λ g. absurd (no g);
        done = λ n. refl;
        placed = λ n. (replacing e m.shared.events, placed e m.shared.events s, refl);
      }

  -- and the queue that it leaves
  left_by : (b : Bool) → (at b).model.shared.events ≡ cond b m.shared.events (replacing e m.shared.events)
  left_by true = refl
  left_by false = refl

-- ---- the other calls
module _ (m : Model) where
  host_events : (o : Option Refusal) (g : GraphView) (a : Answer)
      → (unless o m (call.graph_step m g a)).model.shared.events ≡ m.shared.events
  host_events None g a = refl
  host_events (Some r) g a = refl

  reported_events : (o : Option Refusal) (k : Option Node) (samples : List Float) (flag : Bool) (a : Answer)
      → (unless o m (call.shared_step m (report_node k samples flag m.shared) a)).model.shared.events ≡ m.shared.events
  reported_events None None samples flag a = refl
  reported_events None (Some n) samples flag a = refl
  reported_events (Some r) k samples flag a = refl

  stolen_events : (v : Voice) (p : Option ℕ) → (stolen v p m).shared.events ≡ m.shared.events
  stolen_events v None = refl
  stolen_events v (Some p) = refl

pub place_events : (fuel : ℕ) (x : Spawn) (s : VoiceState) (m : Model)
    → (place fuel x s m).model.shared.events ≡ m.shared.events
place_events zero x s m = go (port_free x.bus m)
  where
    go : (p : Option ℕ) → (instantiate_or p None x s m (store.refused NoPort)).model.shared.events ≡ m.shared.events
    go None = refl
    go (Some p) = refl
place_events (suc fuel) x s m =
    go (port_free x.bus m) (next_out m.shared x.bus x.rank m.voices) (λ k. place_events fuel x s k)
  where
    go : (p : Option ℕ) (o : Option Voice) → ((k : Model) → (place fuel x s k).model.shared.events ≡ k.shared.events)
        → (instantiate_or p o x s m (λ k. place fuel x s k)).model.shared.events ≡ m.shared.events
    go None None ih = refl
    go None (Some v) ih = ih (store.cut_off v v.state m)
    go (Some p) o ih = refl

within_events : (x : Spawn) (m : Model) → (place_within_budget x m).model.shared.events ≡ m.shared.events
within_events x m = place_events (tries m.shared.config.budget m.voices) x (state_under m.shared.config.budget) m

managed_events : (x : Spawn) (m : Model) → (spawn_managed x m).model.shared.events ≡ m.shared.events
managed_events x m = go (spawn_refusal m.shared m.voices x.def x.bus x.rank) (admission_on x.bus x.rank m)
  where
    steal : (o : Option Voice) → (steal_then o x m).model.shared.events ≡ m.shared.events
    steal None = within_events x m
    steal (Some v) =
        within_events x (steal_voice v m) ∙ stolen_events m v (port_from m.shared.graph.edges (feeder v) v.bus)

    go : (o : Option Refusal) (a : Admission)
        → (store.unless o m (admitted a x m)).model.shared.events ≡ m.shared.events
    go None admission.Admit = within_events x m
    go None admission.Reject = refl
    go None (admission.Steal place w) = steal (find (is_voice w) m.voices)
    go (Some r) a = refl

loose_events : (x : Spawn) (m : Model) → (spawn_loose x m).model.shared.events ≡ m.shared.events
loose_events x m = go (spawn_refusal m.shared m.voices x.def x.bus x.rank)
  where
    go : (o : Option Refusal) → (store.unless o m (place 0 x Loose m)).model.shared.events ≡ m.shared.events
    go None = place_events 0 x Loose m
    go (Some r) = refl

without_events : (vs : List Voice) (m : Model) → (without_voices vs m).shared.events ≡ m.shared.events
without_events [] m = refl
without_events (v ∷ vs) m = without_events vs (store.without_voice v.id m)

clear_events : (m : Model) → (clear m).model.shared.events ≡ m.shared.events
clear_events m =
    let faded = without_voices (ended_voices m) m in
    without_events (silent_voices faded) faded ∙ without_events (ended_voices m) m

-- ---- rendering
module _ (out : List ℕ) (m : Model) where
  rendered_events : Accepted out m
      → (after out m).shared.events ≡ filter (λ e. not (ltb e.time (block_end m))) m.shared.events
  rendered_events a =
      ap (λ (x : Model). x.shared.events) (after_by out m None (open_to out m a))
      ∙ block_events (any_free (due m.shared)) (apply_events (due m.shared) (rested m))
      ∙ (events_still (due m.shared) (rested m)).events

  takes : Case out m → Takes out m (after out m).shared.events
  takes (at_end h) =
      record {
        due = λ a. absurd (let l = a.clock in omega arith);
        refused = λ n. ap (λ (x : Model). x.shared.events) (after_by out m (Some ClockEnd) (ended out m h));
      }
  takes (at_short h k) =
      record {
        due = λ a. absurd (let l = a.room in omega arith);
        refused = λ n. ap (λ (x : Model). x.shared.events) (after_by out m (Some ShortBuffer) (short out m h k));
      }
  takes (at_open a) =
      record {
        due = λ a.
            subst (Without (λ e. e.time < block_end m) m.shared.events) (sym (rendered_events a))
            (filter_without (λ e. e.time < block_end m) (λ e. not (ltb e.time (block_end m)))
            (λ e h l. false≢true (sym (not_true _ h) ∙ lt-ltb _ _ l))
            (λ e h. ltb-true _ _ (not_false _ h)) m.shared.events);
        refused = λ n. absurd (n a);
      }

pub events_after : (x : Call) (m : Model) → Sorted m.shared.events → length m.shared.events ≤ 256 → Pending x m
events_after (call.add_node kind ports required values glides) m s f =
    host_events m (add_refusal m.shared.graph kind ports required) _ _
events_after (call.remove_node k) m s f = host_events m (host_refusal m.shared.graph k) _ _
events_after (call.connect a b p) m s f = host_events m (connect_refusal m.shared.graph a b p) _ _
events_after (call.disconnect b p) m s f = host_events m (disconnect_refusal m.shared.graph b p) _ _
events_after (call.set_sink k) m s f = host_events m (host_refusal m.shared.graph k) _ _
events_after (call.spawn_managed x) m s f = managed_events x m
events_after (call.spawn_loose x) m s f = loose_events x m
events_after (call.free w) m s f = (free_still w m).events
events_after call.clear m s f = clear_events m
events_after (call.order w name o) m s f = (order_still w (name_of name) o m.voices m.shared).events
events_after (call.schedule t w name a) m s f =
    let e = call.event t w name a in scheduled e m s f (full (thinned e m.shared.events)) refl
events_after (call.report k channels samples flag) m s f =
    reported_events m (report_refusal m.shared m.voices k channels (length samples)) (node_at m.shared.graph.nodes k)
    samples flag _
events_after call.prepare m s f = (prepare_still m.shared).events
events_after (call.render out) m s f = takes out m (which out m)
events_after (call.ask q) m s f = refl

-- ---- after every list of calls
pub record Queued (m : Model) : Type 0 where
  pub order : Sorted m.shared.events
  pub fits : length m.shared.events ≤ 256

same_queue : (m n : Model) → n.shared.events ≡ m.shared.events → Queued m → Queued n
same_queue m n e g =
    record { order = subst Sorted (sym e) g.order; fits = subst (λ (q : List Event). length q ≤ 256) (sym e) g.fits }

thinner : (out : List ℕ) (m : Model) → Case out m → Queued m → Queued (after out m)
thinner out m (at_end h) g =
    same_queue m (after out m) (ap (λ (x : Model). x.shared.events) (after_by out m (Some ClockEnd) (ended out m h)))
    g
thinner out m (at_short h k) g =
    same_queue m (after out m)
    (ap (λ (x : Model). x.shared.events) (after_by out m (Some ShortBuffer) (short out m h k))) g
thinner out m (at_open a) g =
    let t : Event → Bool = (λ e. not (ltb e.time (block_end m))) in
    record {
      order = subst Sorted (sym (rendered_events out m a)) (filter_sorted t m.shared.events g.order);
      fits =
          subst (λ (q : List Event). length q ≤ 256) (sym (rendered_events out m a))
          (let l = length_filter t m.shared.events in let k = g.fits in omega arith);
    }

pub queued_step : (x : Call) (m : Model) → Queued m → Queued (step x m).model
queued_step (call.schedule t w name a) m g =
    let e = call.event t w name a in
    let l = left_by e m g.order g.fits (full (thinned e m.shared.events)) in
    record {
      order = subst Sorted (sym l) (queue.queue_sorted e m.shared.events g.order);
      fits = subst (λ (q : List Event). length q ≤ 256) (sym l) (queue.queue_fits e m.shared.events g.fits);
    }
queued_step (call.render out) m g = thinner out m (which out m) g
queued_step x m g = same_queue m (step x m).model (events_after x m g.order g.fits) g

pub queued_run : (xs : List Call) (m : Model) → Queued m → Queued (run xs m).model
queued_run [] m g = g
queued_run (x ∷ xs) m g = queued_run xs (step x m).model (queued_step x m g)

pub queued_made : (k : Making) (m : Model) → make k ≡ Some m → Queued m
queued_made k m e = go (refusal_of k) e
  where
    go : (o : Option Refusal) → made_unless o (new_model (config_of k)) ≡ Some m → Queued m
    go None h =
        same_queue (new_model (config_of k)) m (ap (λ (x : Model). x.shared.events) (sym (some_inj h)))
        (record { order = tt; fits = omega arith })
    go (Some r) h = absurd (none_some h)

pub pending_always : PendingAlways
pending_always k m e xs x =
    let g = queued_run xs m (queued_made k m e) in events_after x (run xs m).model g.order g.fits

in_order : (q : List Event) → Sorted q → InOrder q
in_order [] s = tt
in_order (e ∷ q) s = (s.0, in_order q s.1)

pub queue_always : QueueAlways
queue_always k m e xs =
    let g = queued_run xs m (queued_made k m e) in
    record { order = in_order (run xs m).model.shared.events g.order; fits = g.fits }
