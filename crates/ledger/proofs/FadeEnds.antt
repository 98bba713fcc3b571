-- A fading voice goes on or is removed: it becomes nothing else. For a voice that does not fade is, at every call, as it was before.
use Prim.Native.Nat.{ℕ, ◌+◌, ◌≤◌}
use native.Mathlib.Omega.{arith}
use mathlib.Core.Path.{◌≡◌, refl, sym, ap, ◌∙◌, subst}
use mathlib.Core.Logic.{◌⊎◌, inl, inr, ⊎_elim}
use mathlib.Core.List.{List, [], ◌∷◌, ◌++◌, map}
use Rattle.std.specs.Prelude.{Option, None, Some, find, filter}
use mathlib.Core.Bool.{Bool, true, false, not, cond, true≢false}
use borrow.Author.Tests.{eqb-true}
use Rattle.lists.specs.Member.{In}
use Rattle.lists.proofs.Member.{in_snoc, in_map}
use Rattle.lists.proofs.Find.{find_in}
use Rattle.lists.proofs.Filter.{in_filter}
use Rattle.node.specs.declared.record.VoiceId.{VoiceId}
use Rattle.voice.specs.declared.voices.Voice.{Voice}
use Rattle.voice.specs.declared.voices.VoiceState.{VoiceState}
use Rattle.voice.specs.declared.voices.VoiceState.TheVariants.{Tracked, Fading, Loose}
use Rattle.voice.specs.declared.voices.Fade.{Fade}
use Rattle.voice.specs.Voice.{is_voice, is_fading, with_state, begin_fade, moved_state, moved}
use Rattle.model.specs.Spawn.{new_voice, fade_of}
use Rattle.model.specs.Call.{Call}
use Rattle.ledger.specs.Ledger.{Ledger, admission_on}
use Rattle.ledger.specs.Render.{one_more}
use Rattle.ledger.specs.Call.{step}
use Rattle.ledger.proofs.Words.{GoesOn, Why, beat}
use Rattle.ledger.proofs.Ids.{unique}
use Rattle.ledger.proofs.Abstraction.{fading_same}
use Rattle.ledger.proofs.Preserved.{Preserves, voices_only, kept_step_lem}
use Rattle.ledger.proofs.Spawning.{Spawning, managed_keeps}
use Rattle.ledger.proofs.Nodes.{OwnNodes}
use Rattle.ledger.proofs.Records.{RecordedOf, fade_inj}
use Rattle.ledger.proofs.Leaves.{leaves}
use Rattle.ledger.proofs.Begins.{From, went_on, began, comes}

-- ---- voices that do not fade, of ids that were given out before
module _ (n₀ : ℕ) (vs₀ : List Voice) where
  record Still (n : ℕ) (vs : List Voice) : Type 0 where
    grows : n₀ ≤ n
    same : (u : Voice) → In u vs → is_fading u.state ≡ false → u.id.0 ≤ n₀ → In u vs₀

  still_filter : (n : ℕ) (vs : List Voice) (t : Voice → Bool) → Still n vs → Still n (filter t vs)
  still_filter n vs t h = record { grows = h.grows; same = λ u i. h.same u (in_filter t vs u i).0 }

  still_count : (n : ℕ) (vs : List Voice) → Still n vs → Still n (map (moved one_more) vs)
  still_count n vs h = record { grows = h.grows; same = λ u i f le. go u (in_map (moved one_more) vs u i) f le }
    where
      unmoved : (s : VoiceState) → is_fading s ≡ false → moved_state one_more s ≡ s
      unmoved Tracked e = refl
      unmoved (Fading f) e = absurd (true≢false e)
      unmoved Loose e = refl

      go : (u : Voice) → (w : Voice) × In w vs × (u ≡ moved one_more w) → is_fading u.state ≡ false → u.id.0 ≤ n₀ → In u vs₀
      go u r f le =
          let e : is_fading r.0.state ≡ false = sym (fading_same one_more r.0.state) ∙ ap (λ (x : Voice). is_fading x.state) (sym r.2) ∙ f in
          let s : u ≡ r.0 = r.2 ∙ ap (λ z. with_state z r.0) (unmoved r.0.state e) in
          subst (λ x. In x vs₀) (sym s) (h.same r.0 r.1 e (subst (λ (x : Voice). x.id.0 ≤ n₀) s le))

  still_fade : (n : ℕ) (vs : List Voice) (w : VoiceId) (f : Fade) → Still n vs → Still n (map (begin_fade w f) vs)
  still_fade n vs w f h = record { grows = h.grows; same = λ u i e le. let r = in_map (begin_fade w f) vs u i in go u r.0 r.1 (is_voice w r.0) r.2 e le }
    where
      go : (u x : Voice) → In x vs → (b : Bool) → u ≡ cond b (with_state (Fading f) x) x → is_fading u.state ≡ false → u.id.0 ≤ n₀ → In u vs₀
      go u x i true s e le = absurd (true≢false (ap (λ (y : Voice). is_fading y.state) (sym s) ∙ e))
      go u x i false s e le = subst (λ y. In y vs₀) (sym s) (h.same x i (ap (λ (y : Voice). is_fading y.state) (sym s) ∙ e) (subst (λ (y : Voice). y.id.0 ≤ n₀) s le))

  still_instantiate : (n : ℕ) (vs : List Voice) (v : Voice) → v.id.0 ≡ n + 1 → Still n vs → Still (n + 1) (vs ++ (v ∷ []))
  still_instantiate n vs v e h =
      record {
        grows = let g = h.grows in omega arith;
        same = λ u i f le. ⊎_elim (λ j. h.same u j f le) (λ s. let z : u.id.0 ≡ v.id.0 = ap (λ (x : Voice). x.id.0) s in absurd (omega (arith, z, e, le, h.grows))) (in_snoc vs v u i);
      }

  abbrev StillOf : Ledger → Type 0
  StillOf l = Still l.shared.spawned l.voices

  still_preserved : Preserves StillOf
  still_preserved = voices_only (λ c b n vs. Still n vs) (λ c b n vs w h. still_filter n vs (λ x. not (is_voice w x)) h) (λ c b n vs h. still_count n vs h) (λ c b n vs v e s lt k h. still_instantiate n vs v e h)

  still_spawning : Spawning StillOf
  still_spawning =
      record {
        cuts = λ l v s h. still_filter l.shared.spawned l.voices (λ x. not (is_voice v.id x)) h;
        fades = λ l v p h. still_fade l.shared.spawned l.voices v.id (fade_of l.shared) h;
        instantiates = λ l spawn s p h. still_instantiate l.shared.spawned l.voices (new_voice spawn s p l.shared) refl h;
      }

  still_step : (x : Call) (l : Ledger) → StillOf l → StillOf (step x l).ledger
  still_step = kept_step_lem StillOf still_preserved (λ l spawn e h. managed_keeps StillOf still_spawning spawn (admission_on spawn.bus spawn.rank l) l h)

-- ---- so a fading voice goes on, or it is removed
module _ (v : Voice) (f : Fade) (ph : v.state ≡ Fading f) (x : Call) (l : Ledger) (r : RecordedOf l) (q : OwnNodes l) (i : In v l.voices) where
  abbrev after : List Voice
  after = (step x l).ledger.voices

  -- one that does not fade would have been there before
  unfading : (u : Voice) → In u after → u.id.0 ≡ v.id.0 → (s : VoiceState) → u.state ≡ s → is_fading s ≡ false → ⊥
  unfading u j e s h g =
      let b = r.ids.below v i in
      let le : u.id.0 ≤ l.shared.spawned = omega arith in
      let k = (still_step l.shared.spawned l.voices x l (record { grows = omega arith; same = λ w m f le. m })).same u j (ap is_fading h ∙ g) le in
      let z : u ≡ v = unique r.ids u v k i e in
      true≢false (ap is_fading (sym ph) ∙ ap (λ (y : Voice). is_fading y.state) (sym z) ∙ ap is_fading h ∙ g)

  -- what has its id after the call is the voice itself
  found_goes : (u : Voice) → In u after → u.id.0 ≡ v.id.0 → (s : VoiceState) → u.state ≡ s → GoesOn v f (step x l).answer after
  found_goes u j e (Fading g) h = go x (comes u g h x l r.ids j)
    where
      go : (y : Call) → From l (step x l).answer u g y → GoesOn v f (step x l).answer after
      go y (went_on d m b) =
          let s : with_state (Fading d) u ≡ v = unique r.ids (with_state (Fading d) u) v m i e in
          let w : d ≡ f = fade_inj (ap (λ (z : Voice). z.state) s ∙ ph) in
          let self : u ≡ with_state (Fading (beat (step x l).answer f)) v = ap (λ z. with_state z u) (h ∙ ap Fading (b ∙ ap (beat (step x l).answer) w)) ∙ ap (with_state (Fading (beat (step x l).answer f))) s in
          subst (λ z. In z after) self j
      go y (began spawn m b) =
          let s : with_state Tracked u ≡ v = unique r.ids (with_state Tracked u) v m i e in
          let t : Tracked ≡ Fading f = ap (λ (z : Voice). z.state) s ∙ ph in
          absurd (true≢false (ap is_fading (sym t)))
  found_goes u j e Tracked h = absurd (unfading u j e Tracked h refl)
  found_goes u j e Loose h = absurd (unfading u j e Loose h refl)

  pub leaves_removed : GoesOn v f (step x l).answer after ⊎ ((find (is_voice v.id) after ≡ None) × Why l (step x l).ledger v f x)
  leaves_removed = go (find (is_voice v.id) after) refl
    where
      go : (o : Option Voice) → find (is_voice v.id) after ≡ o → GoesOn v f (step x l).answer after ⊎ ((find (is_voice v.id) after ≡ None) × Why l (step x l).ledger v f x)
      go None e = ⊎_elim inl (λ w. inr (e, w)) (leaves v f ph x l r q i)
      go (Some u) e = let m = find_in (is_voice v.id) after u e in inl (found_goes u m.0 (eqb-true u.id.0 v.id.0 m.1) u.state refl)
