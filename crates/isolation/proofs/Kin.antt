-- What a call leaves of the voices and of the host's holders: no voice is there that was not there before, but the one that a spawn lets in, and no
-- host node holds a port that it did not hold, but by being connected.
use Prim.Native.Nat.{ℕ}
use native.Mathlib.Omega.{arith}
use mathlib.Core.Path.{◌≡◌, refl, sym, ap, ◌∙◌, subst}
use mathlib.Core.Logic.{◌⊎◌, inl, inr, ⊎_elim}
use mathlib.Core.List.{List, [], ◌∷◌, map}
use Rattle.std.specs.Prelude.{Option, None, Some, find, Ok}
use mathlib.Core.Bool.{Bool, true, false, not, cond, ◌&&◌, true≢false}
use lib.Dec.{eqb}
use lib.ListN.{length}
use borrow.Author.Tests.{eqb-true, eqb-false}
use Rattle.lists.specs.Member.{In}
use Rattle.lists.proofs.Member.{in_map, in_snoc, and_right}
use Rattle.lists.proofs.Filter.{in_filter}
use Rattle.node.specs.declared.record.NodeId.{NodeId}
use Rattle.node.specs.declared.record.VoiceId.{VoiceId}
use Rattle.node.specs.declared.refusal.Refusal.{Refusal}
use Rattle.graph.specs.Node.{node_at}
use Rattle.graph.specs.Change as change
use Rattle.graph.specs.Refuse.{add_refusal, host_refusal, disconnect_refusal, connect_refusal}
use Rattle.scheduler.specs.declared.event.Event.{Event}
use Rattle.scheduler.specs.Event.{param_order}
use Rattle.voice.specs.declared.policy.BudgetScope.TheVariants.{PerGroup}
use Rattle.synthdef.specs.Limits.{allowed}
use Rattle.store.specs.declared.answer.Rendered.{Rendered}
use Rattle.voice.specs.declared.voices.Fade.{Fade}
use Rattle.voice.specs.declared.voices.Voice.{Voice}
use Rattle.voice.specs.declared.voices.VoiceState.{VoiceState}
use Rattle.voice.specs.declared.voices.VoiceState.TheVariants.{Tracked, Loose}
use Rattle.model.specs.SharedState.{sounding, with_steals}
use Rattle.voice.specs.Voice.{is_voice, is_on, is_tracked, begin_fade, moved, counted}
use Rattle.model.specs.Refuse.{report_refusal, spawn_refusal}
use Rattle.model.specs.Order.{order}
use Rattle.model.specs.Render.{prepare_outcome, prepare_shared, is_free, any_free, is_sounding, heard, answer_after, due, render_refusal}
use Rattle.model.specs.Spawn.{Spawn, reclaim_log, fade_of, new_voice, next_voice, state_under, tries}
use Rattle.model.specs.Call.{Call, event, schedule_refusal}
use Rattle.model.specs.Call as call
use Rattle.ledger.specs.Holder.{Holders, Holder, nobody, voice, by_voice, by_host, hold}
use Rattle.ledger.specs.Holder as holder
use Rattle.ledger.specs.Ledger.{Ledger, SpawnResult, at_shared, without_voice, cut_off, fade, stolen, steal_voice, port_held, instantiate, place, place_within_budget, admitted, admission_on, freed, free, spawn_managed, spawn_loose}
use Rattle.ledger.specs.Ledger as ledger
use Rattle.ledger.specs.Clear.{without_voices, ended_voices, silent_voices}
use Rattle.ledger.specs.Render.{apply_events, one_more, counted_if, block_of, prepared_if, rested, render}
use Rattle.ledger.specs.Call.{Step, step, graph_step, render_step}
use Rattle.ledger.specs.Call as steps
use Rattle.ledger.proofs.Nodes.{begin_same}
use Rattle.ledger.proofs.Preserved.{place_kept}
use Rattle.ledger.proofs.Managed.{managed_kept}
use Rattle.ledger.proofs.Victim.{next_out_in}
use Rattle.ledger.specs.Claim.{may_go}
use Rattle.isolation.specs.Story.{is_bus}
use Rattle.isolation.specs.Agree.{accepted}
use Rattle.isolation.proofs.Bus.{BusPorts}
use Rattle.isolation.proofs.Part.{ports_now, Tidy}
use Rattle.isolation.proofs.Others.{Meets, meets, Away, away_cut, away_steal}
use Rattle.isolation.proofs.Logged.{noise_of_lem}

-- ---- a voice that was there, with what stays of it
pub record Kin (vs : List Voice) (v : Voice) : Type 0 where
  pub was : Voice
  pub member : In was vs
  pub id : v.id ≡ was.id
  pub bus : v.bus ≡ was.bus
  pub first : v.first ≡ was.first
  pub count : v.count ≡ was.count
  pub number : v.sequence ≡ was.sequence

pub kin_self : (vs : List Voice) (v : Voice) → In v vs → Kin vs v
kin_self vs v i = record { was = v; member = i; id = refl; bus = refl; first = refl; count = refl; number = refl }

kin_then : {vs ws : List Voice} → ((w : Voice) → In w ws → Kin vs w) → (v : Voice) → Kin ws v → Kin vs v
kin_then f v k =
    let j = f k.was k.member in
    record { was = j.was; member = j.member; id = k.id ∙ j.id; bus = k.bus ∙ j.bus; first = k.first ∙ j.first; count = k.count ∙ j.count; number = k.number ∙ j.number }

pub record Less (vs : List Voice) (h : Holders) (l : Ledger) : Type 0 where
  pub kin : (v : Voice) → In v l.voices → Kin vs v
  pub hosts : (n p : ℕ) (a : NodeId) → l.holders n p ≡ holder.host a → h n p ≡ holder.host a

pub less_self : (l : Ledger) → Less l.voices l.holders l
less_self l = record { kin = λ v i. kin_self l.voices v i; hosts = λ n p a e. e }

less_then : {vs : List Voice} {h : Holders} {l m : Ledger} → Less vs h l → Less l.voices l.holders m → Less vs h m
less_then f g = record { kin = λ v i. kin_then f.kin v (g.kin v i); hosts = λ n p a e. f.hosts n p a (g.hosts n p a e) }

-- a cleared port has no host
no_host : (c : Bool) (x : Holder) (a : NodeId) → cond c nobody x ≡ holder.host a → x ≡ holder.host a
no_host true x a e = let z : ◌≡◌ {A = ℕ} 0 1 = cc in absurd (omega arith)
no_host false x a e = e

less_removed : (w : VoiceId) (l : Ledger) → Less l.voices l.holders (without_voice w l)
less_removed w l =
    record {
      kin = λ v i. kin_self l.voices v (in_filter (λ x. not (is_voice w x)) l.voices v i).0;
      hosts = λ n p a e. no_host (by_voice w (l.holders n p)) (l.holders n p) a e;
    }

less_freed : (o : Option Voice) (l : Ledger) → Less l.voices l.holders (freed o l)
less_freed None l = less_self l
less_freed (Some v) l = less_removed v.id l

less_all : (gs : List Voice) (l : Ledger) → Less l.voices l.holders (without_voices gs l)
less_all [] l = less_self l
less_all (g ∷ gs) l = less_then (less_removed g.id l) (less_all gs (without_voice g.id l))

less_events : (q : List Event) (l : Ledger) → Less l.voices l.holders (apply_events q l)
less_events [] l = less_self l
less_events (e ∷ q) l = go (is_free e.action) (less_events q)
  where
    changed : Ledger
    changed = at_shared l (order e.voice (param_order e).name (param_order e).order l.voices l.shared).shared

    go : (c : Bool) → ((l : Ledger) → Less l.voices l.holders (apply_events q l)) → Less l.voices l.holders (apply_events q (cond c (free e.voice l) changed))
    go true ih = less_then (less_freed (find (is_voice e.voice) l.voices) l) (ih (free e.voice l))
    go false ih = ih changed

less_block : (a : Rendered) (l : Ledger) → Less l.voices l.holders (block_of a l).ledger
less_block a l = record { kin = go (is_sounding a); hosts = λ n p a e. e }
  where
    go : (c : Bool) (v : Voice) → In v (counted_if c l.voices) → Kin l.voices v
    go false v i = kin_self l.voices v i
    go true v i =
        let r = in_map (moved one_more) l.voices v i in
        let e = r.2 in
        record { was = r.0; member = r.1; id = ap (λ (x : Voice). x.id) e; bus = ap (λ (x : Voice). x.bus) e; first = ap (λ (x : Voice). x.first) e; count = ap (λ (x : Voice). x.count) e; number = ap (λ (x : Voice). x.sequence) e }

less_prepared : (c : Bool) (l : Ledger) → Less l.voices l.holders (prepared_if c l).ledger
less_prepared true l = less_block (answer_after (prepare_outcome l.shared).answer (prepare_shared l.shared)) (at_shared l (prepare_shared l.shared))
less_prepared false l = less_block (heard (sounding l.shared)) l

pub less_render : (l : Ledger) → Less l.voices l.holders (render l).ledger
less_render l =
    let q = due l.shared in
    less_then (less_events q (rested l)) (less_prepared (any_free q) (apply_events q (rested l)))

pub less_clear : (l : Ledger) → Less l.voices l.holders (step call.clear l).ledger
less_clear l =
    let faded = without_voices (ended_voices l) l in
    less_then (less_all (ended_voices l) l) (less_all (silent_voices faded) faded)

pub less_free : (w : VoiceId) (l : Ledger) → Less l.voices l.holders (free w l)
less_free w l = less_freed (find (is_voice w) l.voices) l

-- ---- a spawn: the victims go or fade, and the voice let in is the one of the answer; its number is the bus's next
pub record New (l₀ : Ledger) (spawn : Spawn) (r : SpawnResult) (v : Voice) : Type 0 where
  pub named : r.answer ≡ Ok v.id
  pub bus : v.bus ≡ spawn.bus
  pub room : BusPorts
  pub ports : ports_now spawn.bus l₀.shared.graph.nodes ≡ Some room
  pub number : v.sequence ≡ room.noise

pub record AfterSpawn (l₀ : Ledger) (spawn : Spawn) (r : SpawnResult) : Type 0 where
  pub kin : (v : Voice) → In v r.ledger.voices → Kin l₀.voices v ⊎ New l₀ spawn r v
  pub hosts : (n p : ℕ) (a : NodeId) → r.ledger.holders n p ≡ holder.host a → l₀.holders n p ≡ holder.host a

nobody_new : (l₀ : Ledger) (spawn : Spawn) (r : SpawnResult) → Less l₀.voices l₀.holders r.ledger → AfterSpawn l₀ spawn r
nobody_new l₀ spawn r k = record { kin = λ v i. inl (k.kin v i); hosts = k.hosts }

module _ (spawn : Spawn) (l₀ : Ledger) (ok : allowed spawn.def ≡ true) (m : BusPorts) (here : ports_now spawn.bus l₀.shared.graph.nodes ≡ Some m) where
  abbrev Fewer : Ledger → Type 0
  Fewer l = Away spawn l₀ ok m l × Less l₀.voices l₀.holders l

  instantiates : (s : VoiceState) (p : ℕ) (l : Ledger) → Fewer l → AfterSpawn l₀ spawn (instantiate spawn s p l)
  instantiates s p l q =
      record {
        kin = λ v i. ⊎_elim (λ j. inl (q.1.kin v j)) (λ e. inr (record {
          named = ap (λ (x : Voice). Ok x.id) (sym e);
          bus = ap (λ (x : Voice). x.bus) e;
          room = m;
          ports = here;
          number = ap (λ (x : Voice). x.sequence) e ∙ noise_of_lem (node_at l.shared.graph.nodes spawn.bus) m q.0.ports;
        })) (in_snoc l.voices (new_voice spawn s p l.shared) v i);
        hosts = λ n r a e. q.1.hosts n r a (was (eqb n spawn.bus.0 && eqb r p) (l.holders n r) a e);
      }
    where
      was : (c : Bool) (x : Holder) (a : NodeId) → cond c (voice (next_voice l.shared)) x ≡ holder.host a → x ≡ holder.host a
      was true x a e = let z : ◌≡◌ {A = ℕ} 0 1 = cc in absurd (omega arith)
      was false x a e = e

  cuts : (l : Ledger) → Fewer l → (v : Voice) → In v l.voices → is_on spawn.bus v ≡ true → (s : VoiceState) → Fewer (cut_off v s l)
  cuts l q v i on s = (away_cut spawn l₀ ok m l q.0 v i on s, less_then q.1 (less_removed v.id (at_shared l (with_steals (reclaim_log v s l.shared) l.shared))))

  placed : (s : VoiceState) (n : ℕ) (l : Ledger) → Fewer l → AfterSpawn l₀ spawn (place n spawn s l)
  placed s =
      place_kept spawn s (λ n l. Fewer l) (AfterSpawn l₀ spawn) (λ n l p e q. instantiates s p l q) (λ l e q. nobody_new l₀ spawn _ q.1) (λ n l e f q. nobody_new l₀ spawn _ q.1)
      (λ n l v e f q. let r = next_out_in q.0.tidy.own.0 l.shared spawn.bus spawn.rank v f in cuts l q v r.0 (and_right (may_go spawn.rank v) _ r.1) v.state)

  pub budgeted : (l : Ledger) → Fewer l → AfterSpawn l₀ spawn (place_within_budget spawn l)
  budgeted l q = placed (state_under l.shared.config.budget) (tries l.shared.config.budget l.voices) l q

  pub loosely : (l : Ledger) → Fewer l → AfterSpawn l₀ spawn (place 0 spawn Loose l)
  loosely l q = placed Loose 0 l q

less_fade : (g : Voice) (p : ℕ) (l : Ledger) → Less l.voices l.holders (fade g p l)
less_fade g p l = record { kin = kin; hosts = λ n q a e. e }
  where
    f : Fade
    f = fade_of l.shared

    kin : (v : Voice) → In v (map (begin_fade g.id f) l.voices) → Kin l.voices v
    kin v i =
        let r = in_map (begin_fade g.id f) l.voices v i in
        record {
          was = r.0;
          member = r.1;
          id = ap (λ (x : Voice). x.id) r.2 ∙ begin_same (λ (x : Voice). x.id) (λ s v. refl) g.id f r.0;
          bus = ap (λ (x : Voice). x.bus) r.2 ∙ begin_same (λ (x : Voice). x.bus) (λ s v. refl) g.id f r.0;
          first = ap (λ (x : Voice). x.first) r.2 ∙ begin_same (λ (x : Voice). x.first) (λ s v. refl) g.id f r.0;
          count = ap (λ (x : Voice). x.count) r.2 ∙ begin_same (λ (x : Voice). x.count) (λ s v. refl) g.id f r.0;
          number = ap (λ (x : Voice). x.sequence) r.2 ∙ begin_same (λ (x : Voice). x.sequence) (λ s v. refl) g.id f r.0;
        }

less_steal : (g : Voice) (o : Option ℕ) (l : Ledger) → Less l.voices l.holders (stolen g o l)
less_steal g None l = less_removed g.id (at_shared l (with_steals (reclaim_log g Tracked l.shared) l.shared))
less_steal g (Some p) l = less_fade g p l

module _ (l : Ledger) (t : Tidy l) (spawn : Spawn) where
  begins : (x : Meets l.shared spawn) → Fewer spawn l x.ok x.ports x.bus l
  begins x = let h = x.room in (record { tidy = t; room = omega arith; ports = x.bus; others = λ b off. refl }, less_self l)

  pub managed_spawned : l.shared.config.scope ≡ PerGroup → AfterSpawn l spawn (spawn_managed spawn l)
  managed_spawned per = go (spawn_refusal l.shared l.voices spawn.def spawn.bus spawn.rank) refl
    where
      works : Meets l.shared spawn → AfterSpawn l spawn (admitted (admission_on spawn.bus spawn.rank l) spawn l)
      works x =
          managed_kept spawn (AfterSpawn l spawn) l t.own.0 (λ h. nobody_new l spawn _ (less_self l)) (λ h. budgeted spawn l x.ok x.ports x.bus l (begins x))
          (λ p w h g i c.
          let on : is_on spawn.bus g ≡ true = and_right (is_tracked g.state) _ (subst (λ z. counted z spawn.bus g ≡ true) per c) in
          budgeted spawn l x.ok x.ports x.bus (steal_voice g l) (away_steal spawn l x.ok x.ports l t x.room x.bus (λ b off. refl) g i on (port_held g l), less_steal g (port_held g l) l))

      go : (o : Option Refusal) → spawn_refusal l.shared l.voices spawn.def spawn.bus spawn.rank ≡ o → AfterSpawn l spawn (ledger.unless o l (admitted (admission_on spawn.bus spawn.rank l) spawn l))
      go (Some r) e = nobody_new l spawn _ (less_self l)
      go None e = works (meets l.shared l.voices spawn e)

  pub loose_spawned : AfterSpawn l spawn (spawn_loose spawn l)
  loose_spawned = go (spawn_refusal l.shared l.voices spawn.def spawn.bus spawn.rank) refl
    where
      go : (o : Option Refusal) → spawn_refusal l.shared l.voices spawn.def spawn.bus spawn.rank ≡ o → AfterSpawn l spawn (ledger.unless o l (place 0 spawn Loose l))
      go (Some r) e = nobody_new l spawn _ (less_self l)
      go None e = let x = meets l.shared l.voices spawn e in loosely spawn l x.ok x.ports x.bus l (begins x)

-- ---- every call, seen from one bus: what is no spawn there, and connects nothing there
pub record Stays (b : NodeId) (l l' : Ledger) : Type 0 where
  pub kin : (v : Voice) → In v l'.voices → is_on b v ≡ true → Kin l.voices v
  pub hosts : (p : ℕ) (a : NodeId) → l'.holders b.0 p ≡ holder.host a → l.holders b.0 p ≡ holder.host a

-- the call is no spawn on the bus, and connects none of its ports
abbrev pub Brings : NodeId → Call → Ledger → Type 0
Brings b (call.add_node kind ports required values glides) l = Unit {0}
Brings b (call.remove_node k) l = Unit {0}
Brings b (call.connect a k p) l = (accepted (connect_refusal l.shared.graph a k p) && is_bus b k) ≡ false
Brings b (call.disconnect k p) l = Unit {0}
Brings b (call.set_sink k) l = Unit {0}
Brings b (call.spawn_managed x) l = is_bus b x.bus ≡ false
Brings b (call.spawn_loose x) l = is_bus b x.bus ≡ false
Brings b (call.free w) l = Unit {0}
Brings b call.clear l = Unit {0}
Brings b (call.order w name o) l = Unit {0}
Brings b (call.schedule t w name a) l = Unit {0}
Brings b (call.report k channels samples flag) l = Unit {0}
Brings b call.prepare l = Unit {0}
Brings b (call.render out) l = Unit {0}
Brings b (call.ask q) l = Unit {0}

module _ (b : NodeId) (l : Ledger) where
  less_stays : {l' : Ledger} → Less l.voices l.holders l' → Stays b l l'
  less_stays k = record { kin = λ v i on. k.kin v i; hosts = λ p a e. k.hosts b.0 p a e }

  either : (o : Option Refusal) (s : Step) → Stays b l s.ledger → Stays b l (steps.unless o l s).ledger
  either (Some r) s k = less_stays (less_self l)
  either None s k = k

  alike : (l' : Ledger) → l'.voices ≡ l.voices → ((p : ℕ) (a : NodeId) → l'.holders b.0 p ≡ holder.host a → l.holders b.0 p ≡ holder.host a) → Stays b l l'
  alike l' e h = record { kin = λ v i on. kin_self l.voices v (subst (In v) e i); hosts = h }

  elsewhere : (spawn : Spawn) → is_bus b spawn.bus ≡ false → (r : SpawnResult) → AfterSpawn l spawn r → Stays b l r.ledger
  elsewhere spawn off r k =
      record {
        kin = λ v i on. ⊎_elim (λ q. q) (λ n. absurd (true≢false (sym on ∙ ap (λ (z : NodeId). eqb z.0 b.0) n.bus ∙ off))) (k.kin v i);
        hosts = λ p a e. k.hosts b.0 p a e;
      }

  pub stays : Tidy l → l.shared.config.scope ≡ PerGroup → (x : Call) → Brings b x l → Stays b l (step x l).ledger
  stays t per (call.add_node kind ports required values glides) q = either (add_refusal l.shared.graph kind ports required) _ (alike _ refl (λ p a e. e))
  stays t per (call.remove_node k) q =
      either (host_refusal l.shared.graph k) _ (alike _ refl (λ p a e. no_host (by_host k (l.holders b.0 p)) (l.holders b.0 p) a (no_host (eqb b.0 k.0) (cond (by_host k (l.holders b.0 p)) nobody (l.holders b.0 p)) a e)))
  stays t per (call.connect a k p) q = go (connect_refusal l.shared.graph a k p) q
    where
      other : is_bus b k ≡ false → (r : ℕ) (j : NodeId) (c : Bool) → eqb b.0 k.0 ≡ c → cond (c && eqb r p) (holder.host a) (l.holders b.0 r) ≡ holder.host j → l.holders b.0 r ≡ holder.host j
      other off r j false f e = e
      other off r j true f e = absurd (eqb-false k.0 b.0 off (sym (eqb-true _ _ f)))

      go : (o : Option Refusal) → (accepted o && is_bus b k) ≡ false → Stays b l (steps.unless o l (graph_step l (change.connect l.shared.graph a k p) (hold k p (holder.host a) l.holders) call.done)).ledger
      go (Some r) h = less_stays (less_self l)
      go None h = alike _ refl (λ r j e. other h r j (eqb b.0 k.0) refl e)
  stays t per (call.disconnect k p) q = either (disconnect_refusal l.shared.graph k p) _ (alike _ refl (λ r a e. no_host (eqb b.0 k.0 && eqb r p) (l.holders b.0 r) a e))
  stays t per (call.set_sink k) q = either (host_refusal l.shared.graph k) _ (alike _ refl (λ p a e. e))
  stays t per (call.spawn_managed x) q = elsewhere x q (spawn_managed x l) (managed_spawned l t x per)
  stays t per (call.spawn_loose x) q = elsewhere x q (spawn_loose x l) (loose_spawned l t x)
  stays t per (call.free w) q = less_stays (less_free w l)
  stays t per call.clear q = less_stays (less_clear l)
  stays t per (call.order w name o) q = alike _ refl (λ p a e. e)
  stays t per (call.schedule time w name a) q = either (schedule_refusal (event time w name a) l.shared.events) _ (alike _ refl (λ p a e. e))
  stays t per (call.report k channels samples flag) q = either (report_refusal l.shared l.voices k channels (length samples)) _ (alike _ refl (λ p a e. e))
  stays t per call.prepare q = alike _ refl (λ p a e. e)
  stays t per (call.render out) q = go (render_refusal l.shared (length out))
    where
      go : (o : Option Refusal) → Stays b l (render_step o out l).ledger
      go (Some r) = less_stays (less_self l)
      go None = less_stays (less_render l)
  stays t per (call.ask x) q = less_stays (less_self l)
