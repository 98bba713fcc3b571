-- Paper 6's theorem, proved: `isolated`.
use Prim.Native.Nat.{ℕ, zero, suc}
use mathlib.Core.Path.{◌≡◌, refl, sym, ap, ap₂, ◌∙◌, subst}
use mathlib.Core.Logic.{inl, inr}
use mathlib.Core.List.{List, [], ◌∷◌, ◌++◌, map, append_assoc, append-nil}
use Rattle.std.specs.Prelude.{Option, None, Some, is_some, option_map}
use mathlib.Core.Bool.{Bool, true, false, cond, true≢false}
use lib.Dec.{eqb}
use lib.ListN.{length, length-map}
use borrow.Author.Tests.{eqb-true}
use Rattle.lists.specs.Member.{In}
use Rattle.lists.proofs.Member.{some_inj, none_some}
use Rattle.node.specs.declared.record.NodeId.{NodeId}
use Rattle.node.specs.declared.refusal.Refusal.{Refusal}
use Rattle.graph.specs.Refuse.{add_refusal, host_refusal, disconnect_refusal, connect_refusal}
use Rattle.graph.specs.Node.{node_at}
use Rattle.voice.specs.Steals.{StealLog}
use Rattle.voice.specs.declared.policy.BudgetScope.TheVariants.{PerGroup}
use Rattle.voice.specs.declared.steals.StealRecord.{StealRecord}
use Rattle.store.specs.declared.config.Config.{Config}
use Rattle.voice.specs.declared.voices.Voice.{Voice}
use Rattle.model.specs.Refuse.{report_refusal}
use Rattle.model.specs.Spawn.{pans, Spawn}
use Rattle.model.specs.Render.{render_refusal}
use Rattle.voice.specs.Voice.{is_on}
use Rattle.model.proofs.Refused.{refusal_in}
use Rattle.model.specs.Call.{Call}
use Rattle.model.specs.Call as call
use Rattle.ledger.specs.Ledger.{Ledger, new_ledger, spawn_managed}
use Rattle.ledger.specs.Call.{step, run}
use Rattle.ledger.specs.Claim.{is_managed, held_record}
use Rattle.ledger.proofs.Managed.{config_step}
use Rattle.ledger.proofs.Marks.{log_stays}
use Rattle.ledger.proofs.Records.{RecordedOf, recorded_step, recorded_new}
use Rattle.isolation.specs.Story.{Entry, if_done, if?, is_bus, lost_if, held_by, on_bus, voice_of, owner_voice, entry, write, story, all_victims, written, from_to, nth}
use Rattle.isolation.specs.Story as story
use Rattle.isolation.specs.Isolated.{Covered, Isolated, IsolatedUpToIds}
use Rattle.isolation.proofs.Cover.{full_in, not_full}
use Rattle.isolation.proofs.Agreed.{agreed}
use Rattle.isolation.proofs.Bus.{Bus}
use Rattle.isolation.proofs.Bus as bus
use Rattle.isolation.proofs.Part.{bus_of, Tidy}
use Rattle.isolation.proofs.Acts.{HeldRecord, apply, log, records_of}
use Rattle.isolation.proofs.BusRecords.{Item, strip, BusRecordsOf}
use Rattle.isolation.proofs.Written.{Logs, to_self}
use Rattle.isolation.proofs.Logged.{managed_logs, other_logs, other_calls}
use Rattle.isolation.proofs.Follows.{Follow, goes, tidy_new, bus_new, tales, ends}

-- ---- one call
abbrev written? : Option Entry → Bus → List HeldRecord → List HeldRecord
written? None m ks = ks
written? (Some e) m ks = apply (log e m) ks

abbrev At : Item → ℕ
At x = x.at

record Stepped (b : NodeId) (x : Call) (l : Ledger) (ts : List Item) : Type 0 where
  items : List Item
  logged : BusRecordsOf b items (step x l).ledger
  strips : map strip items ≡ written? (entry b x l) (bus_of b l) (map strip ts)
  ats : map At items ≡ map At ts ++ cond (is_some (entry b x l)) (from_to l.shared.steals.count (step x l).ledger.shared.steals.count) []

-- calls that are no managed spawn write nothing
module _ (m : Bus) (ks : List HeldRecord) where
  if_quiet : (c : Bool) (e : Entry) → log e m ≡ [] → written? (if? c e) m ks ≡ ks
  if_quiet true e h = ap (λ ts. apply ts ks) h
  if_quiet false e h = refl

  done_quiet : (o : Option Refusal) (en : Option Entry) → written? en m ks ≡ ks → written? (if_done o en) m ks ≡ ks
  done_quiet None en h = h
  done_quiet (Some r) en h = refl

  bus_quiet : (b : NodeId) (f : Voice → Entry) → ((v : Voice) → log (f v) m ≡ []) → (o : Option Voice) → written? (on_bus b f o) m ks ≡ ks
  bus_quiet b f h None = refl
  bus_quiet b f h (Some v) = if_quiet (is_on b v) (f v) (h v)

  lost_quiet : (c : Bool) (ps : List ℕ) → written? (cond c (Some story.closed) (lost_if ps)) m ks ≡ ks
  lost_quiet true ps = refl
  lost_quiet false [] = refl
  lost_quiet false (p ∷ ps) = refl

  quiet : (b : NodeId) (x : Call) (l : Ledger) → is_managed x ≡ false → written? (entry b x l) m ks ≡ ks
  quiet b (call.add_node kind ports required values glides) l h = done_quiet (add_refusal l.shared.graph kind ports required) _ (if_quiet (eqb l.shared.graph.next b.0) (story.opened ports) refl)
  quiet b (call.remove_node k) l h = done_quiet (host_refusal l.shared.graph k) _ (lost_quiet (is_bus b k) (held_by b k l))
  quiet b (call.connect a k p) l h = done_quiet (connect_refusal l.shared.graph a k p) _ (if_quiet (is_bus b k) (story.plugged p) refl)
  quiet b (call.disconnect k p) l h = done_quiet (disconnect_refusal l.shared.graph k p) _ (if_quiet (is_bus b k) (story.unplugged p) refl)
  quiet b (call.set_sink k) l h = refl
  quiet b (call.spawn_managed spawn) l h = absurd (true≢false h)
  quiet b (call.spawn_loose spawn) l h = if_quiet (is_bus b spawn.bus) (story.loose spawn.def (pans spawn.pan) spawn.rank) refl
  quiet b (call.free w) l h = bus_quiet b (λ v. story.freed v.sequence) (λ v. refl) (voice_of w l)
  quiet b call.clear l h = refl
  quiet b (call.order w name o) l h = refl
  quiet b (call.schedule t w name a) l h = refl
  quiet b (call.report k channels samples flag) l h =
      done_quiet (report_refusal l.shared l.voices k channels (length samples)) _ (bus_quiet b _ (λ v. refl) (owner_voice (node_at l.shared.graph.nodes k) l))
  quiet b call.prepare l h = refl
  quiet b (call.render out) l h = done_quiet (render_refusal l.shared (length out)) _ refl
  quiet b (call.ask q) l h = refl

stepped_quiet : (b : NodeId) (x : Call) → is_managed x ≡ false → (l : Ledger) (ts : List Item) → Tidy l → l.shared.config.scope ≡ PerGroup → full_in (refusal_in (step x l).answer) ≡ false → BusRecordsOf b ts l → Stepped b x l ts
stepped_quiet b x h l ts t per c z =
    record {
      items = ts;
      logged = other_calls b ts x h l t per c z;
      strips = sym (quiet (bus_of b l) (map strip ts) b x l h);
      ats = sym (ap (λ w. map At ts ++ w) (nil (is_some (entry b x l))) ∙ append-nil (map At ts));
    }
  where
    nil : (c : Bool) → cond c (from_to l.shared.steals.count (step x l).ledger.shared.steals.count) [] ≡ []
    nil true = to_self l.shared.steals.count (step x l).ledger.shared.steals.count (ap (λ (y : StealLog). y.count) (log_stays x h l))
    nil false = refl

stepped_managed : (b : NodeId) (spawn : Spawn) (l : Ledger) (ts : List Item) → Tidy l → RecordedOf l → l.shared.config.scope ≡ PerGroup → full_in (refusal_in (step (call.spawn_managed spawn) l).answer) ≡ false
    → BusRecordsOf b ts l → Stepped b (call.spawn_managed spawn) l ts
stepped_managed b spawn l ts t r per c z = let o = out (is_bus b spawn.bus) refl in record { items = o.0; logged = o.1; strips = o.2; ats = o.3 }
  where
    Out : Bool → Type 0
    Out y = (items : List Item) × BusRecordsOf b items (spawn_managed spawn l).ledger × (map strip items ≡ written? (if? y (story.managed spawn.def (pans spawn.pan) spawn.rank)) (bus_of b l) (map strip ts))
        × (map At items ≡ map At ts ++ cond (is_some (if? y (story.managed spawn.def (pans spawn.pan) spawn.rank))) (from_to l.shared.steals.count (spawn_managed spawn l).ledger.shared.steals.count) [])

    out : (y : Bool) → is_bus b spawn.bus ≡ y → Out y
    out false e = (ts, other_logs b spawn e ts l t r per z, refl, sym (append-nil (map At ts)))
    out true e =
        let is : spawn.bus ≡ b = ap (λ n. record { 0 = n }) (eqb-true _ _ e) in
        let g = subst (λ (y : NodeId). Logs y l ts (spawn_managed spawn l).ledger (log (story.managed spawn.def (pans spawn.pan) spawn.rank) (bus_of y l))) is
        (managed_logs l t r per spawn ts (subst (λ (y : NodeId). BusRecordsOf y ts l) (sym is) z) c) in
        (g.items, g.logged, g.strips, g.ats)

stepped : (b : NodeId) (x : Call) (l : Ledger) (ts : List Item) → Tidy l → RecordedOf l → l.shared.config.scope ≡ PerGroup → full_in (refusal_in (step x l).answer) ≡ false → BusRecordsOf b ts l → Stepped b x l ts
stepped b (call.spawn_managed spawn) l ts t r per c z = stepped_managed b spawn l ts t r per c z
stepped b (call.add_node kind ports required values glides) l ts t r per c z = stepped_quiet b (call.add_node kind ports required values glides) refl l ts t per c z
stepped b (call.remove_node k) l ts t r per c z = stepped_quiet b (call.remove_node k) refl l ts t per c z
stepped b (call.connect a k p) l ts t r per c z = stepped_quiet b (call.connect a k p) refl l ts t per c z
stepped b (call.disconnect k p) l ts t r per c z = stepped_quiet b (call.disconnect k p) refl l ts t per c z
stepped b (call.set_sink k) l ts t r per c z = stepped_quiet b (call.set_sink k) refl l ts t per c z
stepped b (call.spawn_loose spawn) l ts t r per c z = stepped_quiet b (call.spawn_loose spawn) refl l ts t per c z
stepped b (call.free w) l ts t r per c z = stepped_quiet b (call.free w) refl l ts t per c z
stepped b call.clear l ts t r per c z = stepped_quiet b call.clear refl l ts t per c z
stepped b (call.order w name o) l ts t r per c z = stepped_quiet b (call.order w name o) refl l ts t per c z
stepped b (call.schedule time w name a) l ts t r per c z = stepped_quiet b (call.schedule time w name a) refl l ts t per c z
stepped b (call.report k channels samples flag) l ts t r per c z = stepped_quiet b (call.report k channels samples flag) refl l ts t per c z
stepped b call.prepare l ts t r per c z = stepped_quiet b call.prepare refl l ts t per c z
stepped b (call.render out) l ts t r per c z = stepped_quiet b (call.render out) refl l ts t per c z
stepped b (call.ask q) l ts t r per c z = stepped_quiet b (call.ask q) refl l ts t per c z

-- ---- a list of calls
record Recs (b : NodeId) (xs : List Call) (l : Ledger) (ts : List Item) : Type 0 where
  items : List Item
  logged : BusRecordsOf b items (run xs l).ledger
  strips : map strip items ≡ records_of (story b xs l) (bus_of b l) (map strip ts)
  ats : map At items ≡ map At ts ++ written b xs l

recs : (b : NodeId) (xs : List Call) (l : Ledger) (ts : List Item) → Tidy l → RecordedOf l → l.shared.config.scope ≡ PerGroup → Covered xs l → BusRecordsOf b ts l → Recs b xs l ts
recs b [] l ts t r per c z = record { items = ts; logged = z; strips = refl; ats = sym (append-nil (map At ts)) }
recs b (x ∷ xs) l ts t r per c z =
    let covered = not_full _ (c (step x l).answer (inl refl)) in
    let g = goes x l t per covered b in
    let s = stepped b x l ts t r per covered z in
    let n = recs b xs (step x l).ledger s.items g.tidy (recorded_step x l r) (ap (λ (y : Config). y.scope) (config_step x l t.own.0) ∙ per) (λ a i. c a (inr i)) s.logged in
    record {
      items = n.items;
      logged = n.logged;
      strips = n.strips ∙ ap (records_of (story b xs (step x l).ledger) (bus_of b (step x l).ledger)) s.strips ∙ go (entry b x l) g.follows;
      ats = n.ats ∙ ap (λ w. w ++ written b xs (step x l).ledger) s.ats ∙ append_assoc (map At ts) (cond (is_some (entry b x l)) (from_to l.shared.steals.count (step x l).ledger.shared.steals.count) []) (written b xs (step x l).ledger);
    }
  where
    l' : Ledger
    l' = (step x l).ledger

    go : (en : Option Entry) → Follow en (step x l).answer (bus_of b l') (bus_of b l)
        → records_of (story b xs l') (bus_of b l') (written? en (bus_of b l) (map strip ts)) ≡ records_of (write en (story b xs l')) (bus_of b l) (map strip ts)
    go None f = ap (λ m. records_of (story b xs l') m (map strip ts)) f
    go (Some e) f = ap (λ (m : bus.SpawnResult). records_of (story b xs l') m.bus (apply (log e (bus_of b l)) (map strip ts))) f

-- ---- the j-th
nth_map : {A B : Type 0} (f : A → B) (j : ℕ) (l : List A) → nth j (map f l) ≡ option_map f (nth j l)
nth_map f j [] = refl
nth_map f zero (x ∷ l) = refl
nth_map f (suc j) (x ∷ l) = nth_map f j l

nth_in : {A : Type 0} (j : ℕ) (l : List A) (x : A) → nth j l ≡ Some x → In x l
nth_in j [] x e = absurd (none_some e)
nth_in zero (y ∷ l) x e = inl (sym (some_inj e))
nth_in (suc j) (y ∷ l) x e = inr (nth_in j l x e)

map_o_some : {A B : Type 0} (f : A → B) (o : Option A) (y : B) → option_map f o ≡ Some y → (x : A) × (o ≡ Some x) × (f x ≡ y)
map_o_some f None y e = absurd (none_some e)
map_o_some f (Some x) y e = (x, refl, some_inj e)

-- ---- the theorem
pub isolated : Isolated
isolated c per b₁ b₂ xs₁ xs₂ k₁ k₂ e =
    record {
      told = tales c per b₁ b₂ xs₁ xs₂ k₁ k₂ e;
      now = ends c per b₁ b₂ xs₁ xs₂ k₁ k₂ e;
      victims = ap (all_victims []) (tales c per b₁ b₂ xs₁ xs₂ k₁ k₂ e);
      steals = ap length (sym r₁.ats) ∙ length-map r₁.items At ∙ sym (length-map r₁.items strip) ∙ ap length same ∙ length-map r₂.items strip ∙ sym (length-map r₂.items At) ∙ ap length r₂.ats;
      records = records;
    }
  where
    none_yet : (b : NodeId) → BusRecordsOf b [] (new_ledger c)
    none_yet b =
        record { same = λ x i. absurd i; tags = λ v i. absurd i; foreign = λ v i. absurd i; once = λ x y i. absurd i; apart = λ x y i. absurd i; unlisted = λ v i. absurd i; below = λ x i. absurd i; numbered = λ x i. absurd i }

    r₁ : Recs b₁ xs₁ (new_ledger c) []
    r₁ = recs b₁ xs₁ (new_ledger c) [] (tidy_new c) (recorded_new c) per k₁ (none_yet b₁)

    r₂ : Recs b₂ xs₂ (new_ledger c) []
    r₂ = recs b₂ xs₂ (new_ledger c) [] (tidy_new c) (recorded_new c) per k₂ (none_yet b₂)

    same : map strip r₁.items ≡ map strip r₂.items
    same = r₁.strips ∙ ap₂ (λ s m. records_of s m []) e (bus_new b₁ c ∙ sym (bus_new b₂ c)) ∙ sym r₂.strips

    records : (j n₁ n₂ : ℕ) (s₁ s₂ : StealRecord) → nth j (written b₁ xs₁ (new_ledger c)) ≡ Some n₁ → nth j (written b₂ xs₂ (new_ledger c)) ≡ Some n₂
        → held_record (run xs₁ (new_ledger c)).ledger.shared.steals n₁ ≡ Some s₁ → held_record (run xs₂ (new_ledger c)).ledger.shared.steals n₂ ≡ Some s₂ → s₁ ≡ s₂
    records j n₁ n₂ s₁ s₂ w₁ w₂ h₁ h₂ =
        let x = map_o_some At (nth j r₁.items) n₁ (sym (nth_map At j r₁.items) ∙ ap (nth j) r₁.ats ∙ w₁) in
        let y = map_o_some At (nth j r₂.items) n₂ (sym (nth_map At j r₂.items) ∙ ap (nth j) r₂.ats ∙ w₂) in
        let a : x.0.what ≡ s₁ = r₁.logged.same x.0 (nth_in j r₁.items x.0 x.1) s₁ (ap (held_record (run xs₁ (new_ledger c)).ledger.shared.steals) x.2 ∙ h₁) in
        let d : y.0.what ≡ s₂ = r₂.logged.same y.0 (nth_in j r₂.items y.0 y.1) s₂ (ap (held_record (run xs₂ (new_ledger c)).ledger.shared.steals) y.2 ∙ h₂) in
        let both : Some (strip x.0) ≡ Some (strip y.0) =
        ap (option_map strip) (sym x.1) ∙ sym (nth_map strip j r₁.items) ∙ ap (nth j) same ∙ nth_map strip j r₂.items ∙ ap (option_map strip) y.1 in
        sym a ∙ ap (λ (k : HeldRecord). k.what) (some_inj both) ∙ d

-- ---- and of what agrees up to a matching of ids
pub isolated_up_to_ids : IsolatedUpToIds
isolated_up_to_ids c per m b₁ b₂ xs₁ xs₂ k₁ k₂ a = isolated c per b₁ b₂ xs₁ xs₂ k₁ k₂ (agreed c per m b₁ b₂ xs₁ xs₂ k₁ k₂ a)

-- ---- a voice's number names it: no two voices of one bus have one
tidy_run : (xs : List Call) (l : Ledger) → Tidy l → l.shared.config.scope ≡ PerGroup → Covered xs l → Tidy (run xs l).ledger
tidy_run [] l t per c = t
tidy_run (x ∷ xs) l t per c =
    tidy_run xs (step x l).ledger (goes x l t per (not_full _ (c (step x l).answer (inl refl))) (record { 0 = 0 })).tidy (ap (λ (y : Config). y.scope) (config_step x l t.own.0) ∙ per) (λ a i. c a (inr i))

pub named : (c : Config) → c.scope ≡ PerGroup → (xs : List Call) → Covered xs (new_ledger c) → (u v : Voice) → In u (run xs (new_ledger c)).ledger.voices → In v (run xs (new_ledger c)).ledger.voices
    → u.bus.0 ≡ v.bus.0 → u.sequence ≡ v.sequence → u ≡ v
named c per xs k = (tidy_run xs (new_ledger c) (tidy_new c) per k).single
