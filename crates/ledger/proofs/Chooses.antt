-- Whom an admission takes, and who goes for a port where no fade is left: of those that are asked and have the lowest
-- rank, the one that the policy names.
use Prim.Native.Nat.{ℕ, zero, suc, ◌≤◌, ◌<◌}
use native.Mathlib.Omega.{arith}
use mathlib.Core.Path.{◌≡◌, refl, sym, ap, ◌∙◌, subst}
use mathlib.Core.Logic.{◌⊎◌, ◌↔◌, inl, inr}
use mathlib.Core.List.{List, [], ◌∷◌, ◌++◌, map}
use mathlib.Core.Bool.{Bool, true, false, ◌&&◌, false≢true}
use Rattle.std.specs.Prelude.{Option, None, Some, find, filter, get_or}
use lib.Dec.{eqb, leb}
use lib.ListN.{length}
use borrow.Author.Tests.{eqb-true, eq-eqb, leb-true}
use Rattle.std.proofs.lemmas.Bool.{and_from}
use Rattle.lists.specs.Member.{In}
use Rattle.lists.proofs.Member.{some_inj, none_some, in_map, in_right, and_left, and_right}
use Rattle.lists.proofs.Find.{find_in}
use Rattle.lists.proofs.Filter.{in_filter, filter_filter, filter_map}
use Rattle.node.specs.declared.record.NodeId.{NodeId}
use Rattle.node.specs.declared.record.VoiceId.{VoiceId}
use Rattle.node.specs.declared.refusal.Refusal.{Refusal}
use Rattle.voice.specs.Policy.{Victim, victim, policy_victim, last_from, lowest, of_lowest, at_budget, decides, counts}
use Rattle.voice.specs.Quietest.{QuietestGoes}
use Rattle.voice.proofs.Quietest.{quietest_goes}
use Rattle.voice.proofs.Victims.{OneOf, victim_one}
use Rattle.voice.specs.declared.policy.Admission.{Admission}
use Rattle.voice.specs.declared.policy.Admission.TheVariants as admission
use Rattle.voice.specs.declared.policy.Candidate.{Candidate}
use Rattle.voice.specs.declared.policy.StealPolicy.{StealPolicy}
use Rattle.voice.specs.declared.policy.StealPolicy.TheVariants as policy
use Rattle.voice.specs.declared.voices.Voice.{Voice}
use Rattle.voice.specs.declared.policy.BudgetScope.{BudgetScope}
use Rattle.voice.specs.declared.policy.BudgetScope.TheVariants as scope
use Rattle.voice.specs.declared.voices.VoiceState.{VoiceState}
use Rattle.voice.specs.declared.voices.VoiceState.TheVariants.{Tracked, Fading, Loose}
use Rattle.model.specs.SharedState.{SharedState}
use Rattle.voice.specs.Voice.{is_tracked, is_fading, is_on, fades_on, tracked_on, is_voice, counted}
use Rattle.model.specs.Voice.{candidate, candidates}
use Rattle.model.specs.Refuse.{spawn_refusal}
use Rattle.model.specs.Spawn.{Spawn, voice_of, earliest, else_victim, next_out}
use Rattle.model.specs.Model.{Model, admission_on}
use Rattle.refusals.proofs.Spawn.{admissible}
use Rattle.ledger.specs.Claim.{victim_in, victim_of, of_rank, Goes, Chosen}
use Rattle.ledger.proofs.Victim.{candidates_count, victim_voice, earliest_in}
use Rattle.ledger.proofs.Ids.{Ids, unique, same_id}

in_at : (l : List Candidate) (i : ℕ) (d : Candidate) → i < length l → In (get_or l i d) l
in_at [] i d h = absurd (omega arith)
in_at (c ∷ l) zero d h = inl refl
in_at (c ∷ l) (suc i) d h = let k : i < length l = omega arith in inr (in_at l i d k)

-- the last
last_is : (d : SharedState) (p : ℕ) (vs : List Voice) (place : ℕ) (w : VoiceId) → last_from p (map (candidate d) vs)
    ≡ Some (place, w) → (front : List Voice) × (a : Voice) × (vs ≡ front ++ (a ∷ [])) × (a.id ≡ w)
last_is d p [] place w h = absurd (none_some h)
last_is d p (a ∷ []) place w h = ([], a, refl, ap (λ (z : ℕ × VoiceId). z.1) (some_inj h))
last_is d p (a ∷ b ∷ vs) place w h = let r = last_is d (suc p) (b ∷ vs) place w h in
    (a ∷ r.0, r.1, ap (λ l. a ∷ l) r.2, r.3)

module _ (r : ℕ) (q : Voice → Bool) (m : Model) {k : ℕ} (d : Ids k m.voices) where
  -- the victim named w is v
  module _ (v : Voice) (place : ℕ) (w : VoiceId) (found : find (is_voice w) m.voices ≡ Some v) where
    abbrev here : In v m.voices
    here = (find_in (is_voice w) m.voices v found).0

    id_is : v.id.0 ≡ w.0
    id_is = eqb-true v.id.0 w.0 (find_in (is_voice w) m.voices v found).1

    is_v : (u : Voice) → In u m.voices → u.id ≡ w → u ≡ v
    is_v u i e = unique d u v i here (ap (λ (z : VoiceId). z.0) e ∙ sym id_is)

    -- those that a policy is asked of
    asked : victim m.shared.config.policy r (candidates m.shared q m.voices) ≡ Some (place, w)
        → of_lowest r (candidates m.shared q m.voices) ≡ map (candidate m.shared) (of_rank v.rank q m.voices)
    asked h =
        filter_map (candidate m.shared) (λ c. eqb c.rank low) (λ u. eqb u.rank low) (λ u. refl) (filter q m.voices)
        ∙ ap (map (candidate m.shared)) (filter_filter (λ u. eqb u.rank low) q m.voices)
        ∙ ap (λ n. map (candidate m.shared) (filter (λ (u : Voice). eqb u.rank n && q u) m.voices)) rank
      where
        low : ℕ
        low = lowest r (candidates m.shared q m.voices)

        rank : lowest r (candidates m.shared q m.voices) ≡ v.rank
        rank = go (victim m.shared.config.policy r (candidates m.shared q m.voices)) h
            (victim_one (record { voice = w; level = None; rank = 0 }) m.shared.config.policy
            (of_lowest r (candidates m.shared q m.voices)))
          where
            go : (o : Victim) → o ≡ Some (place, w)
                → OneOf (record { voice = w; level = None; rank = 0 }) (of_lowest r (candidates m.shared q m.voices)) o
                → lowest r (candidates m.shared q m.voices) ≡ v.rank
            go o e one =
                let p = subst (OneOf (record { voice = w; level = None; rank = 0 })
                (of_lowest r (candidates m.shared q m.voices))) e one in
                let c = get_or (of_lowest r (candidates m.shared q m.voices)) place
                (record { voice = w; level = None; rank = 0 }) in
                let i = in_filter (λ c. eqb c.rank (lowest r (candidates m.shared q m.voices)))
                (candidates m.shared q m.voices) c
                (in_at (of_lowest r (candidates m.shared q m.voices)) place
                (record { voice = w; level = None; rank = 0 }) p.0) in
                let u = in_map (candidate m.shared) (filter q m.voices) c i.0 in
                let same : u.0 ≡ v = is_v u.0 (in_filter q m.voices u.0 u.1).0
                (sym (ap (λ (y : Candidate). y.voice) u.2) ∙ p.1) in
                sym (eqb-true _ _ i.1) ∙ ap (λ (y : Candidate). y.rank) u.2 ∙ ap (λ (y : Voice). y.rank) same

    by_policy : (t : StealPolicy) → policy_victim t (map (candidate m.shared) (of_rank v.rank q m.voices))
        ≡ Some (place, w) → Goes t m.shared (of_rank v.rank q m.voices) v
    by_policy policy.Reject h = absurd (none_some h)
    by_policy policy.Oldest h = first (of_rank v.rank q m.voices)
        (λ u i. (in_filter (λ (u : Voice). eqb u.rank v.rank && q u) m.voices u i).0) h
      where
        first : (l : List Voice) → ((u : Voice) → In u l → In u m.voices)
            → policy_victim policy.Oldest (map (candidate m.shared) l) ≡ Some (place, w) → (rest : List Voice)
            × (l ≡ v ∷ rest)
        first [] i h = absurd (none_some h)
        first (a ∷ rest) i h = (
          rest,
          ap (λ y. y ∷ rest)
              (is_v a (i a (inl refl)) (ap (λ (z : ℕ × VoiceId). z.1) (some_inj h))),
        )
    by_policy policy.Newest h =
        let z = last_is m.shared 0 (of_rank v.rank q m.voices) place w h in
        let i : In z.1 (of_rank v.rank q m.voices) = subst (In z.1) (sym z.2)
        (in_right z.0 (z.1 ∷ []) z.1 (inl refl)) in (
          z.0,
          z.2 ∙ ap (λ y. z.0 ++ (y ∷ []))
              (is_v z.1 (in_filter (λ (u : Voice). eqb u.rank v.rank && q u) m.voices z.1 i).0 z.3),
        )
    by_policy policy.Quietest h = (
      place,
      subst (QuietestGoes (map (candidate m.shared) (of_rank v.rank q m.voices)))
          (h ∙ ap (λ z. Some (place, z)) (sym (same_id v.id w id_is)))
          (quietest_goes (map (candidate m.shared) (of_rank v.rank q m.voices))),
    )

  -- who is named goes by the policy
  named_goes : (v : Voice) (place : ℕ) (w : VoiceId) → find (is_voice w) m.voices ≡ Some v
      → victim m.shared.config.policy r (candidates m.shared q m.voices) ≡ Some (place, w)
      → Goes m.shared.config.policy m.shared (of_rank v.rank q m.voices) v
  named_goes v place w f z = by_policy v place w f m.shared.config.policy
      (sym (ap (policy_victim m.shared.config.policy) (asked v place w f z)) ∙ z)

module _ (x : Spawn) (m : Model) {k : ℕ} (d : Ids k m.voices) where
  abbrev q : Voice → Bool
  q = counted m.shared.config.scope x.bus

  decided : (b : Bool) (o : Victim) (place : ℕ) (w : VoiceId) → decides b o ≡ admission.Steal place w → o
      ≡ Some (place, w)
  decided false o place w e = let z : ◌≡◌ {A = ℕ} 0 1 = cc in absurd (omega arith)
  decided true None place w e = let z : ◌≡◌ {A = ℕ} 0 1 = cc in absurd (omega arith)
  decided true (Some (p, v)) place w e =
      let a : p ≡ place = cc in
      let b : v ≡ w = cc in
      ap (λ z. Some (z, v)) a ∙ ap (λ z. Some (place, z)) b

  -- an admission that steals does so at budget
  at_most : (o : Option ℕ) (n : ℕ) (l : Victim) (place : ℕ) (w : VoiceId) → decides (at_budget o n) l
      ≡ admission.Steal place w → (most : ℕ) × (o ≡ Some most) × (most ≤ n)
  at_most None n l place w e = let z : ◌≡◌ {A = ℕ} 0 1 = cc in absurd (omega arith)
  at_most (Some most) n l place w e = go (leb most n) refl e
    where
      go : (b : Bool) → leb most n ≡ b → decides b l ≡ admission.Steal place w → (k : ℕ) × (Some most ≡ Some k)
          × (k ≤ n)
      go false q e = let z : ◌≡◌ {A = ℕ} 0 1 = cc in absurd (omega arith)
      go true q e = (most, refl, leb-true _ _ q)

  pub chooses : (v : Voice) → victim_of x m ≡ Some v → Chosen x m v
  chooses v h = go (spawn_refusal m.shared m.voices x.def x.bus x.rank) refl (admission_on x.bus x.rank m) refl h
    where
      go : (o : Option Refusal) → spawn_refusal m.shared m.voices x.def x.bus x.rank ≡ o → (a : Admission)
          → admission_on x.bus x.rank m ≡ a → victim_in o a m.voices ≡ Some v → Chosen x m v
      go (Some r) f a e h = absurd (none_some h)
      go None f admission.Admit e h = absurd (none_some h)
      go None f admission.Reject e h = absurd (none_some h)
      go None f (admission.Steal place w) e h =
          let z = decided (at_budget m.shared.config.budget (length (candidates m.shared q m.voices)))
          (victim m.shared.config.policy x.rank (candidates m.shared q m.voices)) place w e in
          let b = at_most m.shared.config.budget (length (candidates m.shared q m.voices))
          (victim m.shared.config.policy x.rank (candidates m.shared q m.voices)) place w e in
          record {
            may = (admissible m.shared m.voices x.def x.bus x.rank).0 f;
            most = b.0;
            budget = b.1;
            reached = subst (λ n. b.0 ≤ n) (candidates_count m.shared q m.voices) b.2;
            goes = named_goes x.rank (counted m.shared.config.scope x.bus) m d v place w h z;
          }

-- ---- for a port
module _ (m : Model) {k : ℕ} (d : Ids k m.voices) (bus : NodeId) (r : ℕ) where
  pub next_goes : (v : Voice) → next_out m.shared bus r m.voices ≡ Some v → v.state ≡ Tracked
      → (v.rank ≤ r) × ((u : Voice) → In u m.voices → tracked_on bus u ≡ true → v.rank ≤ u.rank)
      × Goes m.shared.config.policy m.shared (of_rank v.rank (tracked_on bus) m.voices) v
  next_goes v h t = go (earliest (fades_on bus) m.voices) refl h
    where
      named : (o : Victim) → victim m.shared.config.policy r (candidates m.shared (tracked_on bus) m.voices) ≡ o
          → voice_of o m.voices ≡ Some v
          → (v.rank ≤ r) × ((u : Voice) → In u m.voices → tracked_on bus u ≡ true → v.rank ≤ u.rank)
          × Goes m.shared.config.policy m.shared (of_rank v.rank (tracked_on bus) m.voices) v
      named None e f = absurd (none_some f)
      named (Some (place, w)) e f =
          let z = victim_voice d m.shared (tracked_on bus) m.shared.config.policy r place w e in
          let s : z.0 ≡ v = some_inj (sym z.3 ∙ f) in (
            subst (λ (u : Voice). u.rank ≤ r) s z.4,
            subst (λ (y : Voice). (u : Voice) → In u m.voices → tracked_on bus u ≡ true → y.rank ≤ u.rank) s z.5,
            named_goes r (tracked_on bus) m d v place w f e,
          )

      go : (o : Option Voice) → earliest (fades_on bus) m.voices ≡ o
          → else_victim o
          (voice_of (victim m.shared.config.policy r (candidates m.shared (tracked_on bus) m.voices)) m.voices) ≡ Some v
          → (v.rank ≤ r) × ((u : Voice) → In u m.voices → tracked_on bus u ≡ true → v.rank ≤ u.rank)
          × Goes m.shared.config.policy m.shared (of_rank v.rank (tracked_on bus) m.voices) v
      go (Some y) e f =
          let z = earliest_in (fades_on bus) m.voices v (e ∙ f) in
          absurd (false≢true (ap is_fading (sym t) ∙ and_left (is_fading v.state) (is_on bus v) z.1))
      go None e f = named (victim m.shared.config.policy r (candidates m.shared (tracked_on bus) m.voices)) refl f

-- ---- who counts
pub who_counts : (s : BudgetScope) (bus : NodeId) (v : Voice)
    → (counted s bus v ≡ true) ↔ ((v.state ≡ Tracked) × ((s ≡ scope.Global) ⊎ (v.bus.0 ≡ bus.0)))
who_counts s bus v = (
  λ h. (
    tracks v.state (and_left (is_tracked v.state) (counts s v.bus bus) h),
    there s
        (and_right (is_tracked v.state) (counts s v.bus bus) h),
  ),
  back,
)
  where
    tracks : (z : VoiceState) → is_tracked z ≡ true → z ≡ Tracked
    tracks Tracked e = refl
    tracks (Fading f) e = absurd (false≢true e)
    tracks Loose e = absurd (false≢true e)

    there : (z : BudgetScope) → counts z v.bus bus ≡ true → (z ≡ scope.Global) ⊎ (v.bus.0 ≡ bus.0)
    there scope.Global e = inl refl
    there scope.PerGroup e = inr (eqb-true v.bus.0 bus.0 e)

    here : (z : BudgetScope) → (z ≡ scope.Global) ⊎ (v.bus.0 ≡ bus.0) → counts z v.bus bus ≡ true
    here scope.Global e = refl
    here scope.PerGroup (inl e) = let z : ◌≡◌ {A = ℕ} 0 1 = cc in absurd (omega arith)
    here scope.PerGroup (inr e) = eq-eqb v.bus.0 bus.0 e

    back : (v.state ≡ Tracked) × ((s ≡ scope.Global) ⊎ (v.bus.0 ≡ bus.0)) → counted s bus v ≡ true
    back h = and_from (is_tracked v.state) (counts s v.bus bus) (ap is_tracked h.0) (here s h.1)
