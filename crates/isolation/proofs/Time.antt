-- Frees, clearing calls and renders.
use Rattle.rank.proofs.Cycle.{count_in}
use Rattle.node.specs.declared.refusal.Refusal.{Refusal}
use Prim.Native.Nat.{ℕ, suc, ◌+◌, ◌≤◌, ◌<◌, min}
use native.Mathlib.Omega.{arith}
use native.Mathlib.Nat.{min-le_left}
use mathlib.Core.Path.{◌≡◌, refl, sym, ap, ap₂, ◌∙◌, subst, fun_ext}
use mathlib.Core.Logic.{inl, inr}
use mathlib.Core.List.{List, [], ◌∷◌, map, map-map}
use Rattle.std.specs.Prelude.{Option, None, Some, filter, find, option_map, Result, Err, Ok}
use mathlib.Core.Bool.{Bool, true, false, not, cond}
use lib.Dec.{ltb}
use borrow.Author.Tests.{ne_eqb, lt-ltb}
use Rattle.lists.specs.Member.{In}
use Rattle.lists.proofs.Member.{in_map, in_of_map, map_same}
use Rattle.lists.proofs.Filter.{in_filter, filter_in, filter_map}
use Rattle.lists.proofs.Find.{find_in, find_map}
use Rattle.lists.specs.Rising.{RisesFrom}
use Rattle.lists.proofs.Rising.{rises_in, rises_filter}
use Rattle.rank.specs.Order.{upto}
use Rattle.node.specs.declared.record.NodeId.{NodeId}
use Rattle.node.specs.declared.record.VoiceId.{VoiceId}
use Rattle.node.specs.declared.record.Node.{Node}
use Rattle.graph.specs.Node.{node_at}
use Rattle.scheduler.specs.Event.{param_order}
use Rattle.scheduler.specs.declared.event.Event.{Event}
use Rattle.synthdef.specs.Plan.{plan_silent}
use Rattle.store.specs.declared.answer.Rendered.{Rendered}
use Rattle.voice.specs.declared.voices.Voice.{Voice}
use Rattle.voice.specs.declared.voices.VoiceState.{VoiceState}
use Rattle.voice.specs.declared.voices.VoiceState.TheVariants.{Tracked, Fading, Loose}
use Rattle.model.specs.SharedState.{SharedState, with_events, sounding}
use Rattle.voice.specs.Voice.{id, is_voice, is_on, moved_state, moved}
use Rattle.model.specs.Order.{order}
use Rattle.model.specs.Clear.{done_flag, is_silent}
use Rattle.model.specs.Render.{prepare_outcome, prepare_shared, ready_shared, is_free, heard, answer_after, is_sounding}
use Rattle.ledger.specs.Holder.{Holder, nobody, voice}
use Rattle.ledger.specs.Holder as holder
use Rattle.ledger.specs.Ledger.{Ledger, without_voice, freed, free, at_shared}
use Rattle.ledger.specs.Clear.{ended, without_voices, ended_voices, silent_voices, clear}
use Rattle.ledger.specs.Render.{apply_events, one_more, counted_if, block_of, prepared_if}
use Rattle.ledger.proofs.Nodes.{own_preserved}
use Rattle.isolation.specs.Story.{phase_of, voice_of, meets, timed_frees}
use Rattle.isolation.proofs.Bus.{Own, empty, Bus, port_count}
use Rattle.isolation.proofs.Bus as bus
use Rattle.isolation.proofs.Part.{seat_for, seat_of, flag_at, own_of, ports_now, seats_for, own_voices, bus_of_lem, bus_of, Seated, Tidy, filter_swap}
use Rattle.isolation.proofs.Removed.{removed_off, removed_on, tidy_removed}
use Rattle.isolation.proofs.Replaced.{Unmoved, order_still}

-- ---- one voice, by a free
abbrev pub numbers : NodeId → Option Voice → List ℕ
numbers b o = meets b o []

pub tidy_freed : (l : Ledger) → Tidy l → (o : Option Voice) (w : VoiceId) → voice_of w l ≡ o → Tidy (freed o l)
tidy_freed l t None w e = t
tidy_freed l t (Some v) w e = tidy_removed l t v (find_in (is_voice w) l.voices v e).0

pub freed_same : (l : Ledger) → Tidy l → (o : Option Voice) (w : VoiceId) → voice_of w l ≡ o → (b : NodeId) (rest : List ℕ) → bus.free_all rest (bus_of b (freed o l)) ≡ bus.free_all (meets b o rest) (bus_of b l)
freed_same l t None w e b rest = refl
freed_same l t (Some v) w e b rest = go (is_on b v) refl
  where
    i : In v l.voices
    i = (find_in (is_voice w) l.voices v e).0

    go : (c : Bool) → is_on b v ≡ c → bus.free_all rest (bus_of b (without_voice v.id l)) ≡ bus.free_all (cond c (v.sequence ∷ rest) rest) (bus_of b l)
    go true on = ap (bus.free_all rest) (removed_on l t v i b on)
    go false off = ap (bus.free_all rest) (removed_off l t v i b off)

-- ---- many, by a clearing call
abbrev Ranked : ℕ → List Voice → Type 0
Ranked n gs = RisesFrom (λ (v : Voice). v.id.0) n gs

stay_in : (l : Ledger) (g : Voice) (gs : List Voice) (n : ℕ) → Ranked n (g ∷ gs) → ((v : Voice) → In v (g ∷ gs) → In v l.voices) → (v : Voice) → In v gs → In v (without_voice g.id l).voices
stay_in l g gs n r sub v i =
    filter_in (λ x. not (is_voice g.id x)) l.voices v (sub v (inr i))
    (ap not (ne_eqb v.id.0 g.id.0 (λ e. omega (arith, e, rises_in (λ (v : Voice). v.id.0) (suc g.id.0) gs v r.1 i))))

tidy_all : (gs : List Voice) (n : ℕ) (l : Ledger) → Tidy l → Ranked n gs → ((v : Voice) → In v gs → In v l.voices) → Tidy (without_voices gs l)
tidy_all [] n l t r sub = t
tidy_all (g ∷ gs) n l t r sub = tidy_all gs (suc g.id.0) (without_voice g.id l) (tidy_removed l t g (sub g (inl refl))) r.1 (stay_in l g gs n r sub)

all_same : (b : NodeId) (ns : List Node) (gs : List Voice) (n : ℕ) (l : Ledger) → Tidy l → Ranked n gs → ((v : Voice) → In v gs → In v l.voices)
    → bus_of b (without_voices gs l) ≡ bus.without_voices (map (own_of ns) (filter (is_on b) gs)) (bus_of b l)
all_same b ns [] n l t r sub = refl
all_same b ns (g ∷ gs) n l t r sub =
    all_same b ns gs (suc g.id.0) (without_voice g.id l) (tidy_removed l t g (sub g (inl refl))) r.1 (stay_in l g gs n r sub) ∙ go (is_on b g) refl
  where
    go : (c : Bool) → is_on b g ≡ c → bus.without_voices (map (own_of ns) (filter (is_on b) gs)) (bus_of b (without_voice g.id l)) ≡ bus.without_voices (map (own_of ns) (cond c (g ∷ (filter (is_on b) gs)) (filter (is_on b) gs))) (bus_of b l)
    go true on = ap (bus.without_voices (map (own_of ns) (filter (is_on b) gs))) (removed_on l t g (sub g (inl refl)) b on)
    go false off = ap (bus.without_voices (map (own_of ns) (filter (is_on b) gs))) (removed_off l t g (sub g (inl refl)) b off)

ended_same : (d : SharedState) (s : VoiceState) → bus.ended d.config (phase_of s) ≡ ended d s
ended_same d Tracked = refl
ended_same d (Fading f) = refl
ended_same d Loose = refl

silent_same : (ns : List Node) (v : Voice) → bus.silent (own_of ns v) ≡ is_silent ns v
silent_same ns v =
    ap (plan_silent v.plan) (map_same (flag_at ns v) (λ i. done_flag (node_at ns (id (v.first.0 + i)))) (upto (min v.count 24)) (λ i j.
    let r = (count_in (min v.count 24) 0 i j).1 in let m = min-le_left v.count 24 in let h : i < v.count = omega arith in rw (lt-ltb i v.count h)))

-- those of the bus among the voices that pass a test
among : (b : NodeId) (ns : List Node) (q : Own → Bool) (r : Voice → Bool) → ((v : Voice) → q (own_of ns v) ≡ r v) → (vs : List Voice) → filter q (map (own_of ns) (filter (is_on b) vs)) ≡ map (own_of ns) (filter (is_on b) (filter r vs))
among b ns q r same vs = filter_map (own_of ns) q r same (filter (is_on b) vs) ∙ ap (map (own_of ns)) (filter_swap r (is_on b) vs)

module _ (l : Ledger) (t : Tidy l) where
  abbrev faded : Ledger
  faded = without_voices (ended_voices l) l

  ranked : (r : Voice → Bool) (m : Ledger) → Tidy m → Ranked 1 (filter r m.voices)
  ranked r m u = rises_filter (λ (v : Voice). v.id.0) r 1 m.voices u.own.0.rising

  tidy_faded : Tidy faded
  tidy_faded = tidy_all (ended_voices l) 1 l t (ranked (λ v. ended l.shared v.state) l t) (λ v i. (in_filter (λ v. ended l.shared v.state) l.voices v i).0)

  pub tidy_clear : Tidy (clear l).ledger
  tidy_clear = tidy_all (silent_voices faded) 1 faded tidy_faded (ranked (is_silent faded.shared.graph.nodes) faded tidy_faded) (λ v i. (in_filter (is_silent faded.shared.graph.nodes) faded.voices v i).0)

  pub clear_same : (b : NodeId) → bus_of b (clear l).ledger ≡ bus.clear (bus_of b l)
  clear_same b =
      all_same b faded.shared.graph.nodes (silent_voices faded) 1 faded tidy_faded (ranked (is_silent faded.shared.graph.nodes) faded tidy_faded) (λ v i. (in_filter (is_silent faded.shared.graph.nodes) faded.voices v i).0)
      ∙ ap (λ ws. bus.without_voices ws (bus_of b faded)) (sym (among b faded.shared.graph.nodes bus.silent (is_silent faded.shared.graph.nodes) (silent_same faded.shared.graph.nodes) faded.voices))
      ∙ ap (λ (m : Bus). bus.without_voices (filter bus.silent m.voices) m)
      (all_same b l.shared.graph.nodes (ended_voices l) 1 l t (ranked (λ v. ended l.shared v.state) l t) (λ v i. (in_filter (λ v. ended l.shared v.state) l.voices v i).0)
      ∙ ap (λ ws. bus.without_voices ws (bus_of b l)) (sym (among b l.shared.graph.nodes (λ v. bus.ended l.shared.config v.phase) (λ v. ended l.shared v.state) (λ v. ended_same l.shared v.state) l.voices)))

-- ---- a render
pub tidy_shared : (l : Ledger) → Tidy l → (r : Result (Unit {0}) Refusal) (o : List NodeId) → Unmoved l (at_shared l (ready_shared r o l.shared))
tidy_shared l t (Ok tt) o = record { tidy = record { own = t.own; rows = t.rows; outs = t.outs; seated = t.seated; fresh = t.fresh; single = t.single; few = t.few; hosted = t.hosted }; same = λ b. refl }
tidy_shared l t (Err r) o = record { tidy = t; same = λ b. refl }

pub tidy_events : (l : Ledger) → Tidy l → (q : List Event) → Tidy (at_shared l (with_events q l.shared))
tidy_events l t q = record { own = t.own; rows = t.rows; outs = t.outs; seated = t.seated; fresh = t.fresh; single = t.single; few = t.few; hosted = t.hosted }

-- "An event is a call of the bus whose voice it meets when taken"
pub record Taken (q : List Event) (l : Ledger) : Type 0 where
  pub tidy : Tidy (apply_events q l)
  pub same : (b : NodeId) → bus_of b (apply_events q l) ≡ bus.free_all (timed_frees b q l) (bus_of b l)

pub taken : (q : List Event) (l : Ledger) → Tidy l → Taken q l
taken [] l t = record { tidy = t; same = λ b. refl }
taken (e ∷ q) l t = let r = out (is_free e.action) (taken q) in record { tidy = r.0; same = r.1 }
  where
    changed : Ledger
    changed = at_shared l (order e.voice (param_order e).name (param_order e).order l.voices l.shared).shared

    after : Bool → Ledger
    after c = cond c (free e.voice l) changed

    Out : Bool → Type 0
    Out c = Tidy (apply_events q (after c)) × ((b : NodeId) → bus_of b (apply_events q (after c)) ≡ bus.free_all (cond c (meets b (voice_of e.voice l) (timed_frees b q (after c))) (timed_frees b q (after c))) (bus_of b l))

    out : (c : Bool) → ((l : Ledger) → Tidy l → Taken q l) → Out c
    out true ih =
        let z = ih (free e.voice l) (tidy_freed l t (voice_of e.voice l) e.voice refl) in
        (z.tidy, λ b. z.same b ∙ freed_same l t (voice_of e.voice l) e.voice refl b (timed_frees b q (free e.voice l)))
    out false ih =
        let u = order_still l t (voice_of e.voice l) (param_order e).name (param_order e).order in
        let z = ih changed u.tidy in
        (z.tidy, λ b. z.same b ∙ ap (bus.free_all (timed_frees b q changed)) (u.same b))

-- the block itself
module _ (l : Ledger) (t : Tidy l) (a : Rendered) where
  abbrev ns : List Node
  ns = l.shared.graph.nodes

  abbrev step : Voice → Voice
  step v = moved one_more v

  beat_same : (v : Voice) → own_of ns (step v) ≡ bus.with_phase (bus.beat (phase_of v.state)) (own_of ns v)
  beat_same v = ap (λ x. bus.with_phase x (own_of ns v)) (go v.state)
    where
      go : (s : VoiceState) → phase_of (moved_state one_more s) ≡ bus.beat (phase_of s)
      go Tracked = refl
      go (Fading f) = refl
      go Loose = refl

  seat_same : (x : Holder) → seat_of (map step l.voices) x ≡ seat_of l.voices x
  seat_same nobody = refl
  seat_same (holder.host k) = refl
  seat_same (voice w) = ap seat_for (find_map step (is_voice w) (is_voice w) (λ v. refl) l.voices) ∙ go (find (is_voice w) l.voices)
    where
      go : (o : Option Voice) → seat_for (option_map step o) ≡ seat_for o
      go None = refl
      go (Some v) = refl

  pub block_same : (b : NodeId) → bus_of b (block_of a l).ledger ≡ bus.block (is_sounding a) (bus_of b l)
  block_same b = go (is_sounding a)
    where
      go : (c : Bool) → bus_of_lem l.shared.config (l.shared.clock + l.shared.config.block) (ports_now b ns) (seats_for b (ports_now b ns) (counted_if c l.voices) l.holders) (own_voices b ns (counted_if c l.voices))
          ≡ bus.block c (bus_of b l)
      go false = refl
      go true =
          ap₂ (λ h ws. bus_of_lem l.shared.config (l.shared.clock + l.shared.config.block) (ports_now b ns) h ws)
          (fun_ext (λ p. ap (λ x. cond (ltb p (port_count (ports_now b ns))) x empty) (seat_same (l.holders b.0 p))))
          (ap (map (own_of ns)) (filter_map step (is_on b) (is_on b) (λ v. refl) l.voices)
          ∙ map-map (own_of ns) step (filter (is_on b) l.voices)
          ∙ map_same (λ v. own_of ns (step v)) (λ v. bus.with_phase (bus.beat (own_of ns v).phase) (own_of ns v)) (filter (is_on b) l.voices) (λ v i. beat_same v)
          ∙ sym (map-map (λ (o : Own). bus.with_phase (bus.beat o.phase) o) (own_of ns) (filter (is_on b) l.voices)))

  pub tidy_block : Tidy (block_of a l).ledger
  tidy_block = record {
    own = own_preserved.block l a t.own;
    rows = t.rows;
    outs = (parts (is_sounding a)).0;
    seated = (parts (is_sounding a)).1;
    fresh = t.fresh;
    single = (parts (is_sounding a)).2;
    few = t.few;
    hosted = (parts (is_sounding a)).3;
  }
    where
      Outs : List Voice → Type 0
      Outs vs = (v : Voice) → In v vs → (v.first.0 ≤ v.output.0) × (v.output.0 < v.first.0 + v.count)

      Seats : List Voice → Type 0
      Seats vs = (n p : ℕ) (w : VoiceId) → l.holders n p ≡ voice w → Seated vs n w

      Single : List Voice → Type 0
      Single vs = (u v : Voice) → In u vs → In v vs → u.bus.0 ≡ v.bus.0 → u.sequence ≡ v.sequence → u ≡ v

      Hosted : List Voice → Type 0
      Hosted vs = (v : Voice) → In v vs → (v.bus.0 < l.shared.graph.next) × ((n : Node) → node_at ns v.bus ≡ Some n → (n.owner.0 ≡ 0) × (v.sequence < n.noise))

      over : (P : Voice → Type 0) → ((v : Voice) → P v → P (step v)) → ((v : Voice) → In v l.voices → P v) → (v : Voice) → In v (map step l.voices) → P v
      over P h f v i = let r = in_map step l.voices v i in subst P (sym r.2) (h r.0 (f r.0 r.1))

      parts : (c : Bool) → Outs (counted_if c l.voices) × Seats (counted_if c l.voices) × Single (counted_if c l.voices) × Hosted (counted_if c l.voices)
      parts false = (t.outs, t.seated, t.single, t.hosted)
      parts true = (
        over (λ v. (v.first.0 ≤ v.output.0) × (v.output.0 < v.first.0 + v.count)) (λ v h. h) t.outs,
        (λ n p w e. let s = t.seated n p w e in record { who = step s.who; lives = in_of_map step l.voices s.who s.lives; is = s.is; on = s.on }),
        (λ u v i j e f.
            let p = in_map step l.voices u i in
            let q = in_map step l.voices v j in
            p.2 ∙ ap step (t.single p.0 q.0 p.1 q.1 (sym (ap (λ (x : Voice). x.bus.0) p.2) ∙ e ∙ ap (λ (x : Voice). x.bus.0) q.2) (sym (ap (λ (x : Voice). x.sequence) p.2) ∙ f ∙ ap (λ (x : Voice). x.sequence) q.2)) ∙ sym q.2),
        over (λ v. (v.bus.0 < l.shared.graph.next) × ((n : Node) → node_at ns v.bus ≡ Some n → (n.owner.0 ≡ 0) × (v.sequence < n.noise))) (λ v h. h) t.hosted,
      )

-- prepared inside the render, or not
pub record PreparedBlock (c : Bool) (l : Ledger) : Type 0 where
  pub tidy : Tidy (prepared_if c l).ledger
  pub same : (b : NodeId) → bus_of b (prepared_if c l).ledger ≡ bus.block (is_sounding (prepared_if c l).answer) (bus_of b l)

pub blocked : (c : Bool) (l : Ledger) → Tidy l → PreparedBlock c l
blocked false l t = record { tidy = tidy_block l t (heard (sounding l.shared)); same = block_same l t (heard (sounding l.shared)) }
blocked true l t =
    let u = tidy_shared l t (prepare_outcome l.shared).answer (prepare_outcome l.shared).order in
    let a = answer_after (prepare_outcome l.shared).answer (prepare_shared l.shared) in
    record {
      tidy = tidy_block (at_shared l (prepare_shared l.shared)) u.tidy a;
      same = λ b. block_same (at_shared l (prepare_shared l.shared)) u.tidy a b ∙ ap (bus.block (is_sounding a)) (u.same b);
    }
