-- From which node a voice feeds the host: whatever leads from a voice to a host node leaves the end of the voice's chain, its fade if it fades, else its pan node if it
-- is panned, else its output. So the port that a voice holds is the one that its end feeds, whether it is tracked, fading or loose.
use Prim.Native.Nat.{ℕ, suc}
use native.Mathlib.Omega.{arith}
use mathlib.Core.Path.{◌≡◌, refl, sym, ap, ◌∙◌, subst}
use mathlib.Core.Logic.{⊎_elim}
use mathlib.Core.List.{List, [], ◌∷◌, ◌++◌, map}
use Rattle.std.specs.Prelude.{Some}
use mathlib.Core.Bool.{true, false≢true}
use Rattle.lists.specs.Member.{In}
use Rattle.lists.proofs.Member.{in_snoc, in_map}
use Rattle.node.specs.declared.record.Edge.{Edge}
use Rattle.edges.specs.Wiring.{wired}
use Rattle.voice.specs.declared.voices.Voice.{Voice}
use Rattle.voice.specs.declared.voices.VoiceState.{VoiceState}
use Rattle.voice.specs.declared.voices.VoiceState.TheVariants.{Tracked, Fading, Loose}
use Rattle.voice.specs.Voice.{is_tracked, feeder, end_in, end_of, moved_state, moved}
use Rattle.ledger.specs.Claim.{Owners}
use Rattle.ledger.proofs.EdgeInvariant.{Out, Same, out_back, in_put}

pub record EndInvariant (own : Owners) (es : List Edge) (vs : List Voice) : Type 0 where
  -- the end of a voice is a node of its own
  pub owns : (v : Voice) → In v vs → own (end_of v).0 ≡ Some v.id.0
  pub leaves : (v : Voice) → In v vs → (e : Edge) → In e es → Out own v.id.0 e → (end_of v).0 ≡ e.from.0

-- ---- the end of a voice, by its state
pub tracked_end : (v : Voice) → is_tracked v.state ≡ true → end_of v ≡ feeder v
tracked_end v h = go v.state h
  where
    go : (t : VoiceState) → is_tracked t ≡ true → end_in t v ≡ feeder v
    go Tracked e = refl
    go (Fading f) e = absurd (false≢true e)
    go Loose e = refl

-- however far its fade has come
pub moved_end : (more : ℕ → ℕ) (v : Voice) → end_of (moved more v) ≡ end_of v
moved_end more v = go v.state
  where
    go : (t : VoiceState) → end_in (moved_state more t) (moved more v) ≡ end_in t v
    go Tracked = refl
    go (Fading f) = refl
    go Loose = refl

-- a state in which no number moves is no fade
pub still_end : (t : VoiceState) → ((more : ℕ → ℕ) → moved_state more t ≡ t) → (v : Voice) → end_in t v ≡ feeder v
still_end Tracked still v = refl
still_end (Fading f) still v = let z : suc f.position ≡ f.position = ap at (still suc) in absurd (omega (arith, z))
  where
    at : VoiceState → ℕ
    at Tracked = 0
    at (Fading g) = g.position
    at Loose = 0
still_end Loose still v = refl

-- ---- nodes come and go, edges and voices go
pub end_move : {own own' : Owners} {es es' : List Edge} {vs vs' : List Voice} → ((v : Voice) → In v vs' → In v vs) → ((e : Edge) → In e es' → In e es) → ((e : Edge) → In e es' → Same own own' e)
    → ((v : Voice) → In v vs' → own' (end_of v).0 ≡ own (end_of v).0) → EndInvariant own es vs → EndInvariant own' es' vs'
end_move {own} {own'} sub sube same stay g =
    record {
      owns = λ v i. stay v i ∙ g.owns v (sub v i);
      leaves = λ v i e j o. g.leaves v (sub v i) e (sube e j) (out_back own own' v.id.0 e (same e j) o);
    }

-- ---- an edge is put
pub end_put : {own : Owners} {vs : List Voice} (e : Edge) (es : List Edge) → EndInvariant own es vs → ((v : Voice) → In v vs → Out own v.id.0 e → (end_of v).0 ≡ e.from.0) → EndInvariant own (wired es e) vs
end_put {own} e es g f =
    record {
      owns = g.owns;
      leaves = λ v i d j o. ⊎_elim (λ k. g.leaves v i d k.0 o) (λ q. f v i (subst (Out own v.id.0) q o) ∙ sym (ap (λ (y : Edge). y.from.0) q)) (in_put e es d j);
    }

-- ---- a change of the voices that leaves id and end
pub end_map : {own : Owners} {es : List Edge} {vs : List Voice} (f : Voice → Voice) → ((v : Voice) → (f v).id.0 ≡ v.id.0) → ((v : Voice) → end_of (f v) ≡ end_of v) → EndInvariant own es vs → EndInvariant own es (map f vs)
end_map {own} {es} {vs} f fi fe g =
    record {
      owns = λ v i.
          let r = in_map f vs v i in
          subst (λ (u : Voice). own (end_of u).0 ≡ Some u.id.0) (sym r.2) (ap (λ k. own k.0) (fe r.0) ∙ g.owns r.0 r.1 ∙ ap Some (sym (fi r.0)));
      leaves = λ v i e j o.
          let r = in_map f vs v i in
          let same : v.id.0 ≡ r.0.id.0 = ap (λ (z : Voice). z.id.0) r.2 ∙ fi r.0 in
          ap (λ (z : Voice). (end_of z).0) r.2 ∙ ap (λ k. k.0) (fe r.0) ∙ g.leaves r.0 r.1 e j (subst (λ k. Out own k e) same o);
    }

-- ---- a voice more, which feeds nothing yet
pub end_snoc : {own : Owners} {es : List Edge} {vs : List Voice} (v : Voice) → EndInvariant own es vs → own (end_of v).0 ≡ Some v.id.0 → ((e : Edge) → In e es → Out own v.id.0 e → ⊥)
    → EndInvariant own es (vs ++ (v ∷ []))
end_snoc {own} {es} {vs} v g mine off =
    record {
      owns = λ u i. ⊎_elim (g.owns u) (λ p. subst (λ (z : Voice). own (end_of z).0 ≡ Some z.id.0) (sym p) mine) (in_snoc vs v u i);
      leaves = λ u i e j o. ⊎_elim (λ k. g.leaves u k e j o) (λ p. absurd (off e j (subst (λ (z : Voice). Out own z.id.0 e) p o))) (in_snoc vs v u i);
    }
