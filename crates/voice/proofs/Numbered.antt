-- What keeps voices numbered: some go, some change and keep their ids, or one comes under the next id.
use Prim.Native.Nat.{ℕ, ◌+◌, ◌<◌}
use native.Mathlib.Omega.{arith}
use mathlib.Core.Path.{◌≡◌, refl, ap, ◌∙◌}
use mathlib.Core.Logic.{⊎_elim}
use mathlib.Core.List.{List, [], ◌∷◌, ◌++◌, map}
use mathlib.Core.Bool.{Bool, true, false, cond}
use lib.Dec.{leb}
use lib.ListN.{length}
use borrow.Author.Tests.{leb-false}
use Rattle.std.specs.Prelude.{filter, Result, Ok, Err}
use Rattle.std.proofs.lemmas.List.{length-map, length-append}
use Rattle.lists.specs.Rising.{RisesFrom}
use Rattle.lists.proofs.Member.{in_snoc, in_map, ok_err}
use Rattle.lists.proofs.Filter.{in_filter, length_filter}
use Rattle.lists.proofs.Rising.{rises_less, rises_filter, rises_snoc, rises_map}
use Rattle.node.specs.declared.record.VoiceId.{VoiceId}
use Rattle.node.specs.declared.refusal.Refusal.{Refusal}
use Rattle.node.specs.declared.refusal.Refusal.TheVariants.{TableFull, IdsUsedUp}
use Rattle.voice.specs.declared.voices.Voice.{Voice}
use Rattle.voice.specs.declared.voices.Fade.{Fade}
use Rattle.voice.specs.declared.voices.VoiceState.TheVariants.{Fading}
use Rattle.voice.specs.Voice.{is_voice, with_state, begin_fade, moved}
use Rattle.voice.specs.Voices.{VoicesView, Numbered, id_of, admitted_as}

module _ {vs : List Voice} {n : ℕ} (h : Numbered vs n) where
  pub rises : RisesFrom id_of 0 vs
  rises = rises_less id_of 0 1 vs (omega arith) h.rises

  pub numbered_filter : (t : Voice → Bool) → Numbered (filter t vs) n
  numbered_filter t =
      record {
        rises = rises_filter id_of t 1 vs h.rises;
        given = λ v i. h.given v (in_filter t vs v i).0;
        fits = omega (arith, length_filter t vs, h.fits);
        wide = h.wide;
      }

  pub numbered_map : (f : Voice → Voice) → ((v : Voice) → id_of (f v) ≡ id_of v) → Numbered (map f vs) n
  numbered_map f e =
      record {
        rises = rises_map id_of f e 1 vs h.rises;
        given = λ v i. let r = in_map f vs v i in let z : v.id.0 ≡ r.0.id.0 = ap id_of r.2 ∙ e r.0 in omega (arith, h.given r.0 r.1);
        fits = omega (arith, length-map vs f, h.fits);
        wide = h.wide;
      }

  pub numbered_begun : (w : VoiceId) (f : Fade) → Numbered (map (begin_fade w f) vs) n
  numbered_begun w f = numbered_map (begin_fade w f) (λ v. same v (is_voice w v))
    where
      same : (v : Voice) (b : Bool) → id_of (cond b (with_state (Fading f) v) v) ≡ id_of v
      same v true = refl
      same v false = refl

  pub numbered_moved : (more : ℕ → ℕ) → Numbered (map (moved more) vs) n
  numbered_moved more = numbered_map (moved more) (λ v. refl)

  -- one more, under the next id
  pub numbered_snoc : (v : Voice) (k : ℕ) → v.id.0 ≡ k → k ≡ n + 1 → length vs < 64 → n < 18446744073709551615 → Numbered (vs ++ v ∷ []) k
  numbered_snoc v k i e room left =
      record {
        rises = rises_snoc id_of 1 vs v h.rises (omega (arith, i, e)) (λ u j. omega (arith, i, e, h.given u j));
        given = λ u j. ⊎_elim (λ a. omega (arith, e, h.given u a)) (λ p. let z : u.id.0 ≡ k = ap id_of p ∙ i in omega arith) (in_snoc vs v u j);
        fits = omega (arith, length-append vs (v ∷ []), room);
        wide = omega (arith, e, left);
      }

-- a voice is admitted under the next id, where there is room for one
pub admitted_is : (m : VoicesView) (w : VoiceId) → Ok w ≡ admitted_as m → (w.0 ≡ m.spawned + 1) × (length m.live < 64) × (m.spawned < 18446744073709551615)
admitted_is m w = go (leb 64 (length m.live)) (leb 18446744073709551615 m.spawned) refl refl
  where
    go : (a b : Bool) → leb 64 (length m.live) ≡ a → leb 18446744073709551615 m.spawned ≡ b
        → ◌≡◌ {A = Result VoiceId Refusal} (Ok w) (cond a (Err TableFull) (cond b (Err IdsUsedUp) (Ok (record { 0 = m.spawned + 1 }))))
        → (w.0 ≡ m.spawned + 1) × (length m.live < 64) × (m.spawned < 18446744073709551615)
    go true b e f h = absurd (ok_err h)
    go false true e f h = absurd (ok_err h)
    go false false e f h = (ap (λ (o : Result VoiceId Refusal). number o) h, leb-false _ _ e, leb-false _ _ f)
      where
        number : Result VoiceId Refusal → ℕ
        number (Ok v) = v.0
        number (Err r) = 0
