-- Which voices clearing removes: those with the id of a voice that goes.
use Prim.Native.Nat.{ℕ}
use mathlib.Core.Path.{◌≡◌, refl, sym, ap, ◌∙◌}
use mathlib.Core.Logic.{inl, inr}
use mathlib.Core.List.{List, [], ◌∷◌}
use Rattle.std.specs.Prelude.{cond, filter}
use mathlib.Core.Bool.{Bool, true, false, not, false≢true}
use lib.ListN.{length}
use lib.Dec.{eqb}
use borrow.Author.Tests.{eq-eqb, ne_eqb, le-leb, leb-true}
use Rattle.lists.specs.Member.{In}
use Rattle.lists.proofs.Filter.{in_filter, filter_in}
use Rattle.node.specs.declared.record.Node.{Node}
use Rattle.graph.specs.Node.{owned_by}
use Rattle.voice.specs.declared.voices.Voice.{Voice}
use Rattle.voice.specs.declared.voices.VoiceState.{VoiceState}
use Rattle.voice.specs.declared.voices.VoiceState.TheVariants.{Tracked, Fading, Loose}
use Rattle.model.specs.SharedState.{length_l}
use Rattle.voice.specs.Voice.{is_voice}
use Rattle.model.specs.Clear.{ended, is_silent, without_voices, ended_voices, silent_voices}
use Rattle.model.specs.Model.{Model, without_voice}
use Rattle.rules.specs.Clear.{Ended, EndedId, SilentId, ClearLaw, Number}

-- ---- voices are removed one by one
abbrev Listed : List Voice → ℕ → Type 0
Listed ws k = (w : Voice) × In w ws × (k ≡ w.id.0)

off : (a b : ℕ) → not (eqb a b) ≡ true → a ≡ b → ⊥
off a b h e = false≢true (sym (ap not (eq-eqb a b e)) ∙ h)

on : (a b : ℕ) → (a ≡ b → ⊥) → not (eqb a b) ≡ true
on a b n = ap not (ne_eqb a b n)

voices_left : (ws : List Voice) (m : Model) (v : Voice) → In v (without_voices ws m).voices → In v m.voices × (Listed ws v.id.0 → ⊥)
voices_left [] m v i = (i, λ l. l.1)
voices_left (w ∷ ws) m v i = go (voices_left ws (without_voice w.id m) v i)
  where
    go : In v (without_voice w.id m).voices × (Listed ws v.id.0 → ⊥) → In v m.voices × (Listed (w ∷ ws) v.id.0 → ⊥)
    go later = (before.0, not_these)
      where
        before : In v m.voices × (not (is_voice w.id v) ≡ true)
        before = in_filter (λ x. not (is_voice w.id x)) m.voices v later.0

        not_these : Listed (w ∷ ws) v.id.0 → ⊥
        not_these (x, inl p, e) = off v.id.0 w.id.0 before.1 (e ∙ ap (λ (y : Voice). y.id.0) p)
        not_these (x, inr j, e) = later.1 (x, j, e)

left_voices : (ws : List Voice) (m : Model) (v : Voice) → In v m.voices → (Listed ws v.id.0 → ⊥) → In v (without_voices ws m).voices
left_voices [] m v i n = i
left_voices (w ∷ ws) m v i n =
    left_voices ws (without_voice w.id m) v (filter_in (λ x. not (is_voice w.id x)) m.voices v i (on v.id.0 w.id.0 (λ e. n (w, inl refl, e)))) (λ l. n (l.0, inr l.1, l.2))

nodes_left : (ws : List Voice) (m : Model) (k : Node) → In k (without_voices ws m).shared.graph.nodes → In k m.shared.graph.nodes × (Listed ws k.owner.0 → ⊥)
nodes_left [] m k i = (i, λ l. l.1)
nodes_left (w ∷ ws) m k i = go (nodes_left ws (without_voice w.id m) k i)
  where
    go : In k (without_voice w.id m).shared.graph.nodes × (Listed ws k.owner.0 → ⊥) → In k m.shared.graph.nodes × (Listed (w ∷ ws) k.owner.0 → ⊥)
    go later = (before.0, not_these)
      where
        before : In k m.shared.graph.nodes × (not (owned_by w.id k) ≡ true)
        before = in_filter (λ x. not (owned_by w.id x)) m.shared.graph.nodes k later.0

        not_these : Listed (w ∷ ws) k.owner.0 → ⊥
        not_these (x, inl p, e) = off k.owner.0 w.id.0 before.1 (e ∙ ap (λ (y : Voice). y.id.0) p)
        not_these (x, inr j, e) = later.1 (x, j, e)

left_nodes : (ws : List Voice) (m : Model) (k : Node) → In k m.shared.graph.nodes → (Listed ws k.owner.0 → ⊥) → In k (without_voices ws m).shared.graph.nodes
left_nodes [] m k i n = i
left_nodes (w ∷ ws) m k i n =
    left_nodes ws (without_voice w.id m) k (filter_in (λ x. not (owned_by w.id x)) m.shared.graph.nodes k i (on k.owner.0 w.id.0 (λ e. n (w, inl refl, e)))) (λ l. n (l.0, inr l.1, l.2))

-- ---- whose fade has ended
has_ended : (len : ℕ) (s : VoiceState) → ended len s ≡ true → Ended len s
has_ended len Tracked h = false≢true h
has_ended len (Fading f) h = leb-true len f.position h
has_ended len Loose h = false≢true h

ends : (len : ℕ) (s : VoiceState) → Ended len s → ended len s ≡ true
ends len Tracked h = absurd h
ends len (Fading f) h = le-leb len f.position h
ends len Loose h = absurd h

module _ (m : Model) where
  abbrev len : ℕ
  len = length_l m.shared

  ended_listed : (k : ℕ) → EndedId m k → Listed (ended_voices m) k
  ended_listed k (w, i, h, e) = (w, filter_in (λ (v : Voice). ended len v.state) m.voices w i (ends len w.state h), e)

  listed_ended : (k : ℕ) → Listed (ended_voices m) k → EndedId m k
  listed_ended k (w, i, e) = let z = in_filter (λ (v : Voice). ended len v.state) m.voices w i in (w, z.0, has_ended len w.state z.1, e)

  silent_listed : (k : ℕ) → SilentId m k → Listed (silent_voices m) k
  silent_listed k (w, i, h, e) = (w, filter_in (is_silent m.shared.graph.nodes) m.voices w i h, e)

  listed_silent : (k : ℕ) → Listed (silent_voices m) k → SilentId m k
  listed_silent k (w, i, e) = let z = in_filter (is_silent m.shared.graph.nodes) m.voices w i in (w, z.0, z.1, e)

-- ---- how many
counted : (q : Voice → Bool) (P : Voice → Type 0) → ((v : Voice) → q v ≡ true → P v) → ((v : Voice) → P v → q v ≡ true) → (vs : List Voice)
    → Number P vs (length (filter q vs))
counted q P to back [] = refl
counted q P to back (v ∷ vs) = go (q v) refl (counted q P to back vs)
  where
    go : (b : Bool) → q v ≡ b → Number P vs (length (filter q vs)) → Number P (v ∷ vs) (length (cond b (v ∷ filter q vs) (filter q vs)))
    go true e n = inl (to v e, (length (filter q vs), n, refl))
    go false e n = inr (λ p. false≢true (sym e ∙ back v p), n)

pub clear_law : (m : Model) → ClearLaw m
clear_law m = record {
  faded = faded;
  ended_go = λ v. (
    λ i. let z = voices_left (ended_voices m) m v i in (z.0, λ e. z.1 (ended_listed m v.id.0 e)),
    λ h. left_voices (ended_voices m) m v h.0 (λ l. h.1 (listed_ended m v.id.0 l)),
  );
  their_nodes = λ n. (
    λ i. let z = nodes_left (ended_voices m) m n i in (z.0, λ e. z.1 (ended_listed m n.owner.0 e)),
    λ h. left_nodes (ended_voices m) m n h.0 (λ l. h.1 (listed_ended m n.owner.0 l)),
  );
  silent_go = λ v. (
    λ i. let z = voices_left (silent_voices faded) faded v i in (z.0, λ e. z.1 (silent_listed faded v.id.0 e)),
    λ h. left_voices (silent_voices faded) faded v h.0 (λ l. h.1 (listed_silent faded v.id.0 l)),
  );
  told = (
    length (ended_voices m),
    length (silent_voices faded),
    counted (λ v. ended (length_l m.shared) v.state) (λ v. Ended (length_l m.shared) v.state) (λ v h. has_ended (length_l m.shared) v.state h)
        (λ v h. ends (length_l m.shared) v.state h) m.voices,
    counted (is_silent faded.shared.graph.nodes) (λ v. is_silent faded.shared.graph.nodes v ≡ true) (λ v h. h) (λ v h. h) faded.voices,
    refl,
  );
}
  where
    faded : Model
    faded = without_voices (ended_voices m) m
