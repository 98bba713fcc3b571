-- Who goes for a port of the bus: its fades, the earliest first and of equals the one that stands first, before any
-- tracked voice.
use Prim.Native.Nat.{ℕ, zero, suc, ◌≤◌, ◌<◌}
use native.Mathlib.Omega.{arith}
use mathlib.Core.Path.{◌≡◌, refl, sym, ap, ◌∙◌, subst}
use mathlib.Core.Logic.{⊎_elim, inl, inr}
use mathlib.Core.List.{List, [], ◌∷◌, ◌++◌, map}
use mathlib.Core.Bool.{Bool, true, false, not, cond, true≢false, false≢true}
use Rattle.std.specs.Prelude.{Option, None, Some, find, is_some}
use lib.Dec.{leb, ltb}
use borrow.Author.Tests.{eq-eqb, eqb-true, eqb-false, leb-true, leb-false, ltb-true, ltb-false}
use Rattle.std.proofs.lemmas.Bool.{and_from}
use Rattle.lists.specs.Member.{In}
use Rattle.lists.specs.Rising.{RisesFrom}
use Rattle.lists.proofs.Rising.{rises_in}
use Rattle.lists.proofs.Member.{some_inj, none_some, and_left, in_snoc, in_of_map}
use Rattle.lists.proofs.Find.{find_none}
use Rattle.lists.proofs.Filter.{in_filter, filter_in}
use Rattle.node.specs.declared.record.NodeId.{NodeId}
use Rattle.node.specs.declared.refusal.Refusal.{Refusal}
use Rattle.node.specs.declared.refusal.Refusal.TheVariants.{NoPort}
use Rattle.edges.specs.Ports.{port_from}
use Rattle.voice.specs.declared.policy.Admission.{Admission}
use Rattle.voice.specs.declared.policy.Admission.TheVariants as admission
use Rattle.voice.specs.declared.voices.Voice.{Voice}
use Rattle.voice.specs.declared.voices.VoiceState.{VoiceState}
use Rattle.voice.specs.declared.voices.VoiceState.TheVariants.{Tracked, Fading}
use Rattle.voice.specs.declared.voices.Fade.{Fade}
use Rattle.voice.specs.Voice.{is_voice, is_tracked, is_fading, is_on, start_of, fades_on, counted, feeder, with_state, begin_fade}
use Rattle.model.specs.Refuse.{spawn_refusal}
use Rattle.model.specs.Spawn.{Spawn, earlier, earliest, else_victim, next_out, state_under, tries, fade_of, new_voice}
use Rattle.model.specs.Model.{Model, port_free, cut_off, fade, stolen, steal_voice, instantiate_or, refused, place, place_within_budget, steal_then, admitted, admission_on, unless}
use Rattle.model.specs.Call as call
use Rattle.ledger.specs.Claim.{victim_in, Reclaims}
use Rattle.ledger.proofs.Ids.{Ids, unique, ids_filter, ids_map}
use Rattle.ledger.proofs.Managed.{begin_id}
use Rattle.ledger.proofs.Victim.{earliest_in, earliest_none, steal_voice_lem}

-- c is at most b, and no b
below : (a b c : ℕ) → c ≡ a → a ≤ b → (b ≡ a → ⊥) → c < b
below a b c p q h = two (ltb c b) refl
  where
    two : (t : Bool) → ltb c b ≡ t → c < b
    two true e = ltb-true _ _ e
    two false e = let r : b ≤ c = ltb-false _ _ e in let z : b ≡ a = omega arith in absurd (h z)

-- ---- the earliest, in voice order
early : (q : Voice → Bool) (n : ℕ) (vs : List Voice) → RisesFrom (λ (v : Voice). v.id.0) n vs → (y : Voice)
    → earliest q vs ≡ Some y → (u : Voice) → In u vs → q u ≡ true
    → (start_of y.state ≤ start_of u.state) × (start_of y.state ≡ start_of u.state → y.id.0 ≤ u.id.0)
early q n [] r y h u i t = absurd i
early q n (x ∷ vs) r y h u i t = go (earliest q vs) refl (q x) refl h i (early q (suc x.id.0) vs r.1)
  where
    same : (a b : Voice) → a ≡ b → (start_of a.state ≤ start_of b.state)
        × (start_of a.state ≡ start_of b.state → a.id.0 ≤ b.id.0)
    same a b e =
        let z : start_of a.state ≡ start_of b.state = ap (λ (v : Voice). start_of v.state) e in
        let w : a.id.0 ≡ b.id.0 = ap (λ (v : Voice). v.id.0) e in
        (omega arith, λ k. omega arith)

    go : (o : Option Voice) → earliest q vs ≡ o → (b : Bool) → q x ≡ b → earlier o b x ≡ Some y → In u (x ∷ vs)
        → ((y : Voice) → earliest q vs ≡ Some y → (u : Voice) → In u vs → q u ≡ true
        → (start_of y.state ≤ start_of u.state) × (start_of y.state ≡ start_of u.state → y.id.0 ≤ u.id.0))
        → (start_of y.state ≤ start_of u.state) × (start_of y.state ≡ start_of u.state → y.id.0 ≤ u.id.0)
    go None e false f h i ih = absurd (none_some h)
    go None e true f h (inl p) ih = same y u (sym (some_inj h) ∙ sym p)
    go None e true f h (inr j) ih = absurd (true≢false (sym t ∙ earliest_none q vs e u j))
    go (Some z) e false f h (inl p) ih = absurd (true≢false (sym t ∙ ap q p ∙ f))
    go (Some z) e false f h (inr j) ih = ih y (e ∙ h) u j t
    go (Some z) e true f h i ih = pick (leb (start_of x.state) (start_of z.state)) refl h i
      where
        above : In u vs → x.id.0 < u.id.0
        above j = let a = rises_in (λ (v : Voice). v.id.0) (suc x.id.0) vs u r.1 j in omega arith

        pick : (c : Bool) → leb (start_of x.state) (start_of z.state) ≡ c → cond c (Some x) (Some z) ≡ Some y
            → In u (x ∷ vs) → (start_of y.state ≤ start_of u.state)
            × (start_of y.state ≡ start_of u.state → y.id.0 ≤ u.id.0)
        pick true g h (inl p) = same y u (sym (some_inj h) ∙ sym p)
        pick true g h (inr j) =
            let a = ih z e u j t in
            let b = a.0 in
            let l : start_of x.state ≤ start_of z.state = leb-true _ _ g in
            let m = above j in
            subst (λ (w : Voice). (start_of w.state ≤ start_of u.state)
            × (start_of w.state ≡ start_of u.state → w.id.0 ≤ u.id.0)) (some_inj h) (omega arith, λ k. omega arith)
        pick false g h (inl p) =
            let l : start_of z.state < start_of x.state = leb-false _ _ g in
            let w : start_of u.state ≡ start_of x.state = ap (λ (v : Voice). start_of v.state) p in
            subst (λ (w : Voice). (start_of w.state ≤ start_of u.state)
            × (start_of w.state ≡ start_of u.state → w.id.0 ≤ u.id.0)) (some_inj h)
            (omega arith, λ k. absurd (omega arith))
        pick false g h (inr j) = ih y (e ∙ h) u j t

-- ---- what was taken, between the voices before and after
pub record Taken (bus : NodeId) (vs vs' : List Voice) : Type 0 where
  pub first : (v u : Voice) (f g : Fade) → In v vs → v.state ≡ Fading f → is_on bus v ≡ true → find (is_voice v.id) vs'
      ≡ None → In u vs' → u.state ≡ Fading g → is_on bus u ≡ true
      → (f.start ≤ g.start) × (f.start ≡ g.start → v.id.0 < u.id.0)
  pub none_tracked : (v u : Voice) (g : Fade) → In v vs → v.state ≡ Tracked → is_on bus v ≡ true
      → find (is_voice v.id) vs' ≡ None → In u vs' → u.state ≡ Fading g → is_on bus u ≡ true → ⊥

here : (v : Voice) (vs : List Voice) → In v vs → find (is_voice v.id) vs ≡ None → ⊥
here v vs i e = true≢false (sym (eq-eqb v.id.0 v.id.0 refl) ∙ find_none (is_voice v.id) vs v e i)

-- nobody was taken
nobody : (bus : NodeId) (vs vs' : List Voice) → ((v : Voice) → In v vs → In v vs') → Taken bus vs vs'
nobody bus vs vs' h = record {
  first = λ v u f g i s on e j t on₁. absurd
      (here v vs' (h v i) e);
  none_tracked = λ v u g i s on e j t on₁. here v vs' (h v i) e;
}

left_snoc : (vs : List Voice) (w v : Voice) → In v vs → In v (vs ++ (w ∷ []))
left_snoc [] w v i = absurd i
left_snoc (x ∷ vs) w v (inl e) = inl e
left_snoc (x ∷ vs) w v (inr i) = inr (left_snoc vs w v i)

module _ (x : Spawn) (st : VoiceState) (lets : is_fading st ≡ false) where
  -- a search makes no fade
  still : (n : ℕ) (m : Model) (u : Voice) → In u (place n x st m).model.voices → is_fading u.state ≡ true
      → In u m.voices
  still zero m u i t = go (port_free x.bus m) i
    where
      go : (o : Option ℕ) → In u (instantiate_or o None x st m (refused NoPort)).model.voices → In u m.voices
      go (Some p) i = ⊎_elim (λ j. j) (λ e. absurd
          (true≢false (sym t ∙ ap (λ (v : Voice). is_fading v.state) e ∙ lets)))
          (in_snoc m.voices (new_voice x st p m.shared) u i)
      go None i = i
  still (suc n) m u i t = go (port_free x.bus m) (next_out m.shared x.bus x.rank m.voices) i (still n)
    where
      go : (o : Option ℕ) (w : Option Voice) → In u (instantiate_or o w x st m (λ k. place n x st k)).model.voices
          → ((m : Model) (u : Voice) → In u (place n x st m).model.voices → is_fading u.state ≡ true → In u m.voices)
          → In u m.voices
      go (Some p) w i ih = ⊎_elim (λ j. j)
          (λ e. absurd (true≢false (sym t ∙ ap (λ (v : Voice). is_fading v.state) e ∙ lets)))
          (in_snoc m.voices (new_voice x st p m.shared) u i)
      go None None i ih = i
      go None (Some w) i ih = (in_filter (λ v. not (is_voice w.id v)) m.voices u (ih (cut_off w w.state m) u i t)).0

  fading_is : (u : Voice) (g : Fade) → u.state ≡ Fading g → is_fading u.state ≡ true
  fading_is u g e = ap is_fading e

  on_fade : (u : Voice) (g : Fade) → u.state ≡ Fading g → is_on x.bus u ≡ true → fades_on x.bus u ≡ true
  on_fade u g e on = and_from (is_fading u.state) (is_on x.bus u) (fading_is u g e) on

  -- who goes next: the earliest fade, where there is one
  next_is : (m : Model) (u : Voice) → In u m.voices → fades_on x.bus u ≡ true → (w : Voice)
      → next_out m.shared x.bus x.rank m.voices ≡ Some w → earliest (fades_on x.bus) m.voices ≡ Some w
  next_is m u i t w e = go _ (earliest (fades_on x.bus) m.voices) refl e
    where
      go : (z o : Option Voice) → earliest (fades_on x.bus) m.voices ≡ o → else_victim o z ≡ Some w → o ≡ Some w
      go z (Some y) f h = h
      go z None f h = absurd (true≢false (sym t ∙ earliest_none (fades_on x.bus) m.voices f u i))

  cut : (n : ℕ) {k : ℕ} (m : Model) → Ids k m.voices → (w : Voice) → next_out m.shared x.bus x.rank m.voices ≡ Some w
      → Taken x.bus (cut_off w w.state m).voices (place n x st (cut_off w w.state m)).model.voices
      → Taken x.bus m.voices (place n x st (cut_off w w.state m)).model.voices
  cut n m d w e rest = record { first = first; none_tracked = none_tracked }
    where
      m₁ : Model
      m₁ = cut_off w w.state m

      t : Voice → Bool
      t v = not (is_voice w.id v)

      was : (u : Voice) (g : Fade) → In u (place n x st (cut_off w w.state m)).model.voices → u.state ≡ Fading g
          → In u m.voices × (is_voice w.id u ≡ false)
      was u g j s = let r = in_filter (λ v. not (is_voice w.id v)) m.voices u
          (still n (cut_off w w.state m) u j (fading_is u g s)) in (r.0, not_true (is_voice w.id u) r.1)
        where
          not_true : (b : Bool) → not b ≡ true → b ≡ false
          not_true true q = absurd (false≢true q)
          not_true false q = refl

      first : (v u : Voice) (f g : Fade) → In v m.voices → v.state ≡ Fading f → is_on x.bus v ≡ true
          → find (is_voice v.id) (place n x st (cut_off w w.state m)).model.voices ≡ None
          → In u (place n x st (cut_off w w.state m)).model.voices → u.state ≡ Fading g → is_on x.bus u ≡ true
          → (f.start ≤ g.start) × (f.start ≡ g.start → v.id.0 < u.id.0)
      first v u f g i s on gone j r on₁ = go (is_voice w.id v) refl
        where
          left : In u m.voices × (is_voice w.id u ≡ false)
          left = was u g j r

          go : (b : Bool) → is_voice w.id v ≡ b → (f.start ≤ g.start) × (f.start ≡ g.start → v.id.0 < u.id.0)
          go false q = rest.first v u f g (filter_in t m.voices v i (ap not q)) s on gone j r on₁
          go true q =
              let c = next_is m u left.0 (on_fade u g r on₁) w e in
              let same : v ≡ w = unique d v w i (earliest_in (fades_on x.bus) m.voices w c).0
              (eqb-true v.id.0 w.id.0 q) in
              let l = early (fades_on x.bus) 1 m.voices d.rising w c u left.0 (on_fade u g r on₁) in
              let a : start_of w.state ≡ f.start = ap (λ (y : Voice). start_of y.state) (sym same) ∙ ap start_of s in
              let b : start_of u.state ≡ g.start = ap start_of r in
              let k : v.id.0 ≡ w.id.0 = ap (λ (y : Voice). y.id.0) same in
              let apart : u.id.0 ≡ w.id.0 → ⊥ = eqb-false u.id.0 w.id.0 left.1 in
              let l₀ = l.0 in
              (omega arith, λ z. let o = l.1 (a ∙ z ∙ sym b) in below w.id.0 u.id.0 v.id.0 k o apart)

      none_tracked : (v u : Voice) (g : Fade) → In v m.voices → v.state ≡ Tracked → is_on x.bus v ≡ true
          → find (is_voice v.id) (place n x st (cut_off w w.state m)).model.voices ≡ None
          → In u (place n x st (cut_off w w.state m)).model.voices → u.state ≡ Fading g → is_on x.bus u ≡ true → ⊥
      none_tracked v u g i s on gone j r on₁ = go (is_voice w.id v) refl
        where
          left : In u m.voices × (is_voice w.id u ≡ false)
          left = was u g j r

          go : (b : Bool) → is_voice w.id v ≡ b → ⊥
          go false q = rest.none_tracked v u g (filter_in t m.voices v i (ap not q)) s on gone j r on₁
          go true q =
              let c = next_is m u left.0 (on_fade u g r on₁) w e in
              let z = earliest_in (fades_on x.bus) m.voices w c in
              let same : v ≡ w = unique d v w i z.0 (eqb-true v.id.0 w.id.0 q) in
              false≢true (ap is_fading (sym s) ∙ ap (λ (y : Voice). is_fading y.state) same
              ∙ and_left (is_fading w.state) (is_on x.bus w) z.1)

  taken : (n : ℕ) {k : ℕ} (m : Model) → Ids k m.voices → Taken x.bus m.voices (place n x st m).model.voices
  taken zero m d = go (port_free x.bus m)
    where
      go : (o : Option ℕ) → Taken x.bus m.voices (instantiate_or o None x st m (refused NoPort)).model.voices
      go (Some p) = nobody x.bus m.voices _ (λ v i. left_snoc m.voices (new_voice x st p m.shared) v i)
      go None = nobody x.bus m.voices m.voices (λ v i. i)
  taken (suc n) m d = go (port_free x.bus m) (next_out m.shared x.bus x.rank m.voices) refl
      (λ w. taken n (cut_off w w.state m) (ids_filter (λ v. not (is_voice w.id v)) d))
    where
      go : (o : Option ℕ) (w : Option Voice) → next_out m.shared x.bus x.rank m.voices ≡ w
          → ((w : Voice) → Taken x.bus (cut_off w w.state m).voices (place n x st (cut_off w w.state m)).model.voices)
          → Taken x.bus m.voices (instantiate_or o w x st m (λ k. place n x st k)).model.voices
      go (Some p) w e ih = nobody x.bus m.voices _ (λ v i. left_snoc m.voices (new_voice x st p m.shared) v i)
      go None None e ih = nobody x.bus m.voices m.voices (λ v i. i)
      go None (Some w) e ih = cut n m d w e (ih w)

-- ---- a managed spawn
lets_in : (b : Option ℕ) → is_fading (state_under b) ≡ false
lets_in None = refl
lets_in (Some k) = refl

-- what is said of a spawn whose admission's victim is o
pub record Said (x : Spawn) (o : Option Voice) (m : Model) (vs' : List Voice) : Type 0 where
  pub earliest : (v u : Voice) (f g : Fade) → In v m.voices → v.state ≡ Fading f → is_on x.bus v ≡ true
      → find (is_voice v.id) vs' ≡ None
      → In u vs' → u.state ≡ Fading g → is_on x.bus u ≡ true → (f.start ≤ g.start)
      × (f.start ≡ g.start → v.id.0 < u.id.0)
  pub fades_first : (v u : Voice) (g : Fade) → In v m.voices → v.state ≡ Tracked → is_on x.bus v ≡ true
      → find (is_voice v.id) vs' ≡ None
      → In u vs' → u.state ≡ Fading g → is_on x.bus u ≡ true → o ≡ Some v
  pub begun_now : (v u : Voice) (g : Fade) → o ≡ Some v → is_some (port_from m.shared.graph.edges (feeder v) v.bus)
      ≡ true → is_on x.bus v ≡ true → find (is_voice v.id) vs' ≡ None
      → In u vs' → u.state ≡ Fading g → is_on x.bus u ≡ true → (m.shared.clock ≤ g.start)
      × (m.shared.clock ≡ g.start → v.id.0 < u.id.0)

by_none : (x : Spawn) (m : Model) (vs' : List Voice) → Taken x.bus m.voices vs' → Said x None m vs'
by_none x m vs' t =
    record {
      earliest = t.first;
      fades_first = λ v u g i s on e j r on₁. absurd (t.none_tracked v u g i s on e j r on₁);
      begun_now = λ v u g o. absurd (none_some o);
    }

module _ (x : Spawn) (m : Model) {k : ℕ} (d : Ids k m.voices) where
  -- the victim w, which is tracked
  module _ (w : Voice) (i : In w m.voices) (t : is_tracked w.state ≡ true) (n : ℕ) (st : VoiceState)
      (lets : is_fading st ≡ false) where
    same : (v : Voice) → In v m.voices → is_voice w.id v ≡ true → v ≡ w
    same v j q = unique d v w j i (eqb-true v.id.0 w.id.0 q)

    -- a fading voice is another
    other : (v : Voice) (f : Fade) → In v m.voices → v.state ≡ Fading f → is_voice w.id v ≡ false
    other v f j s = go (is_voice w.id v) refl
      where
        go : (b : Bool) → is_voice w.id v ≡ b → b ≡ false
        go false q = refl
        go true q = absurd
            (false≢true (ap is_tracked (sym s) ∙ ap (λ (y : Voice). is_tracked y.state) (same v j q) ∙ t))

    -- What is left of it all, where the search begins with the other voices as they were. The victim is taken, or it
    -- fades.
    from : (m₁ : Model) → ((v : Voice) → In v m.voices → is_voice w.id v ≡ false → In v m₁.voices)
        → Taken x.bus m₁.voices (place n x st m₁).model.voices
        → ((u : Voice) (g : Fade) → is_some (port_from m.shared.graph.edges (feeder w) w.bus) ≡ true → is_on x.bus w
        ≡ true → find (is_voice w.id) (place n x st m₁).model.voices ≡ None
        → In u (place n x st m₁).model.voices → u.state ≡ Fading g → is_on x.bus u ≡ true → (m.shared.clock ≤ g.start)
        × (m.shared.clock ≡ g.start → w.id.0 < u.id.0))
        → Said x (Some w) m (place n x st m₁).model.voices
    from m₁ stay r now =
        record {
          earliest = λ v u f g j s. r.first v u f g (stay v j (other v f j s)) s;
          fades_first = fades;
          begun_now = λ v u g o. subst (λ (z : Voice). is_some (port_from m.shared.graph.edges (feeder z) z.bus) ≡ true
              → is_on x.bus z ≡ true → find (is_voice z.id) (place n x st m₁).model.voices ≡ None
              → In u (place n x st m₁).model.voices → u.state ≡ Fading g → is_on x.bus u ≡ true
              → (m.shared.clock ≤ g.start) × (m.shared.clock ≡ g.start → z.id.0 < u.id.0)) (some_inj o) (now u g);
        }
      where
        fades : (v u : Voice) (g : Fade) → In v m.voices → v.state ≡ Tracked → is_on x.bus v ≡ true
            → find (is_voice v.id) (place n x st m₁).model.voices ≡ None
            → In u (place n x st m₁).model.voices → u.state ≡ Fading g → is_on x.bus u ≡ true → Some w ≡ Some v
        fades v u g j s on gone l e on₁ = go (is_voice w.id v) refl
          where
            go : (b : Bool) → is_voice w.id v ≡ b → Some w ≡ Some v
            go true q = ap Some (sym (same v j q))
            go false q = absurd (r.none_tracked v u g (stay v j q) s on gone l e on₁)

    stolen_said : Said x (Some w) m (place n x st (steal_voice w m)).model.voices
    stolen_said = go (port_from m.shared.graph.edges (feeder w) w.bus) refl
      where
        f₀ : Fade
        f₀ = fade_of m.shared

        go : (o : Option ℕ) → port_from m.shared.graph.edges (feeder w) w.bus ≡ o
            → Said x (Some w) m (place n x st (stolen w o m)).model.voices
        go None e =
            from (cut_off w Tracked m) (λ v j q. filter_in (λ v. not (is_voice w.id v)) m.voices v j (ap not q))
            (taken x st lets n (cut_off w Tracked m) (ids_filter (λ v. not (is_voice w.id v)) d))
            (λ u g p. absurd (false≢true (sym (ap is_some e) ∙ p)))
        go (Some p) e =
            let r = taken x st lets n (fade w p m)
            (ids_map (begin_fade w.id (fade_of m.shared)) (begin_id w.id (fade_of m.shared)) d) in
            let w₁ = with_state (Fading (fade_of m.shared)) w in
            from (fade w p m)
            (λ v j q. subst (λ z. In z (map (begin_fade w.id (fade_of m.shared)) m.voices))
            (ap (λ b. cond b (with_state (Fading (fade_of m.shared)) v) v) q)
            (in_of_map (begin_fade w.id (fade_of m.shared)) m.voices v j))
            r
            (λ u g q on gone j e on₁. r.first w₁ u (fade_of m.shared) g
            (subst (λ z. In z (map (begin_fade w.id (fade_of m.shared)) m.voices))
            (ap (λ b. cond b (with_state (Fading (fade_of m.shared)) w) w) (eq-eqb w.id.0 w.id.0 refl))
            (in_of_map (begin_fade w.id (fade_of m.shared)) m.voices w i))
            refl on gone j e on₁)

  budgeted : (m₁ : Model) {k : ℕ} → Ids k m₁.voices → Taken x.bus m₁.voices (place_within_budget x m₁).model.voices
  budgeted m₁ d₁ = taken x (state_under m₁.shared.config.budget) (lets_in m₁.shared.config.budget)
      (tries m₁.shared.config.budget m₁.voices) m₁ d₁

  admitted_said : (a : Admission) → admission_on x.bus x.rank m ≡ a
      → Said x (victim_in None a m.voices) m (admitted a x m).model.voices
  admitted_said admission.Admit e = by_none x m _ (budgeted m d)
  admitted_said admission.Reject e = by_none x m m.voices (nobody x.bus m.voices m.voices (λ v i. i))
  admitted_said (admission.Steal place w) e =
      let r = steal_voice_lem d m.shared
      (counted m.shared.config.scope x.bus) m.shared.config.budget m.shared.config.policy x.rank place w e in
      subst (λ o. Said x o m (steal_then o x m).model.voices) (sym r.3)
      (stolen_said r.0 r.1 (and_left (is_tracked r.0.state) _ r.2)
      (tries (steal_voice r.0 m).shared.config.budget (steal_voice r.0 m).voices)
      (state_under (steal_voice r.0 m).shared.config.budget) (lets_in (steal_voice r.0 m).shared.config.budget))

  pub reclaims : Reclaims x m (call.step (call.spawn_managed x) m).model
  reclaims =
      let r = go (spawn_refusal m.shared m.voices x.def x.bus x.rank) in
      record { earliest = r.earliest; fades_first = r.fades_first; begun_now = r.begun_now }
    where
      go : (o : Option Refusal) → Said x (victim_in o (admission_on x.bus x.rank m) m.voices) m
          (unless o m (admitted (admission_on x.bus x.rank m) x m)).model.voices
      go (Some r) = by_none x m m.voices (nobody x.bus m.voices m.voices (λ v i. i))
      go None = admitted_said (admission_on x.bus x.rank m) refl
