-- The victim is chosen by place and level: other names for the candidates give the other name of the same candidate.
use Prim.Native.Nat.{ℕ, zero, suc, ◌+◌, ◌<◌, min}
use native.Mathlib.Omega.{arith}
use mathlib.Core.Path.{◌≡◌, refl, ap, ◌∙◌}
use mathlib.Core.List.{List, [], ◌∷◌, map}
use Rattle.std.specs.Prelude.{Some, filter, Option, None}
use mathlib.Core.Bool.{Bool, true, false, cond}
use lib.ListN.{length, length-map}
use lib.Ieee.{Float}
use lib.Dec.{eqb}
use Rattle.lists.proofs.Member.{none_some, some_inj}
use Rattle.node.specs.declared.record.VoiceId.{VoiceId}
use Rattle.lists.proofs.Filter.{filter_map}
use Rattle.voice.specs.Policy.{Held, Victim, oldest, last_from, takes, take?, passed, walk, took_or, policy_victim, lowest, of_lowest, victim, at_budget, decides, admits}
use Rattle.voice.specs.declared.policy.StealPolicy.{StealPolicy}
use Rattle.voice.specs.declared.policy.StealPolicy.TheVariants as policy
use Rattle.voice.specs.declared.policy.Candidate.{Candidate}
use Rattle.voice.specs.declared.policy.Admission.{Admission}
use Rattle.voice.specs.declared.policy.Admission.TheVariants as admission
use Rattle.ledger.specs.Ledger.{lowest_port}

module _ (f : VoiceId → VoiceId) where
  abbrev pub rename : Candidate → Candidate
  rename c = record { voice = f c.voice; level = c.level; rank = c.rank }

  abbrev pub renamed : Victim → Victim
  renamed None = None
  renamed (Some (p, w)) = Some (p, f w)

  abbrev pub renamed_a : Admission → Admission
  renamed_a admission.Admit = admission.Admit
  renamed_a admission.Reject = admission.Reject
  renamed_a (admission.Steal p w) = admission.Steal p (f w)

  abbrev renamed_h : Held → Held
  renamed_h None = None
  renamed_h (Some (p, w, x)) = Some (p, f w, x)

  oldest_rename : (cs : List Candidate) → oldest (map rename cs) ≡ renamed (oldest cs)
  oldest_rename [] = refl
  oldest_rename (c ∷ cs) = refl

  last_rename : (p : ℕ) (cs : List Candidate) → last_from p (map rename cs) ≡ renamed (last_from p cs)
  last_rename p [] = refl
  last_rename p (c ∷ []) = refl
  last_rename p (c ∷ d ∷ cs) = last_rename (suc p) (d ∷ cs)

  walk_rename : (h : Held) (p : ℕ) (cs : List Candidate) → walk (renamed_h h) p (map rename cs) ≡ renamed_h (walk h p cs)
  walk_rename h p [] = refl
  walk_rename h p (c ∷ cs) = ap (λ z. walk z (suc p) (map rename cs)) (go c.level) ∙ walk_rename (passed h p c c.level) (suc p) cs
    where
      pick : (h : Held) (x : Float) → take? (takes (renamed_h h) x) (Some (p, f c.voice, x)) (renamed_h h) ≡ renamed_h (take? (takes h x) (Some (p, c.voice, x)) h)
      pick None x = refl
      pick (Some (q, w, y)) x = at (takes (Some (q, w, y)) x)
        where
          at : (b : Bool) → take? b (Some (p, f c.voice, x)) (Some (q, f w, y)) ≡ renamed_h (take? b (Some (p, c.voice, x)) (Some (q, w, y)))
          at true = refl
          at false = refl

      go : (v : Option Float) → passed (renamed_h h) p (rename c) v ≡ renamed_h (passed h p c v)
      go None = refl
      go (Some x) = pick h x

  took_rename : (h : Held) (v : Victim) → took_or (renamed_h h) (renamed v) ≡ renamed (took_or h v)
  took_rename None v = refl
  took_rename (Some (p, w, x)) v = refl

  policy_rename : (t : StealPolicy) (cs : List Candidate) → policy_victim t (map rename cs) ≡ renamed (policy_victim t cs)
  policy_rename policy.Reject cs = refl
  policy_rename policy.Oldest cs = oldest_rename cs
  policy_rename policy.Newest cs = last_rename 0 cs
  policy_rename policy.Quietest cs =
      ap (λ z. took_or z (oldest (map rename cs))) (walk_rename None 0 cs) ∙ ap (took_or (renamed_h (walk None 0 cs))) (oldest_rename cs) ∙ took_rename (walk None 0 cs) (oldest cs)

  lowest_rename : (r : ℕ) (cs : List Candidate) → lowest r (map rename cs) ≡ lowest r cs
  lowest_rename r [] = refl
  lowest_rename r (c ∷ cs) = lowest_rename (min r c.rank) cs

  of_rename : (r : ℕ) (cs : List Candidate) → of_lowest r (map rename cs) ≡ map rename (of_lowest r cs)
  of_rename r cs = ap (λ n. filter (λ c. eqb c.rank n) (map rename cs)) (lowest_rename r cs) ∙ filter_map rename (λ c. eqb c.rank (lowest r cs)) (λ c. eqb c.rank (lowest r cs)) (λ c. refl) cs

  pub victim_rename : (t : StealPolicy) (r : ℕ) (cs : List Candidate) → victim t r (map rename cs) ≡ renamed (victim t r cs)
  victim_rename t r cs = ap (policy_victim t) (of_rename r cs) ∙ policy_rename t (of_lowest r cs)

  pub admits_rename : (b : Option ℕ) (t : StealPolicy) (r : ℕ) (cs : List Candidate) → admits b t r (map rename cs) ≡ renamed_a (admits b t r cs)
  admits_rename b t r cs =
      ap (λ n. decides (at_budget b n) (victim t r (map rename cs))) (length-map cs rename) ∙ ap (decides (at_budget b (length cs))) (victim_rename t r cs) ∙ go (at_budget b (length cs)) (victim t r cs)
    where
      go : (c : Bool) (v : Victim) → decides c (renamed v) ≡ renamed_a (decides c v)
      go false v = refl
      go true None = refl
      go true (Some (p, w)) = refl

-- ---- the lowest port that passes
pub lowest_same : (k : ℕ) (t u : ℕ → Bool) (p : ℕ) → ((q : ℕ) → q < p + k → t q ≡ u q) → lowest_port k t p ≡ lowest_port k u p
lowest_same zero t u p h = refl
lowest_same (suc k) t u p h = rw (h p (omega arith), lowest_same k t u (suc p) (λ q a. h q (omega arith)))

pub lowest_below : (k : ℕ) (t : ℕ → Bool) (p q : ℕ) → lowest_port k t p ≡ Some q → q < p + k
lowest_below zero t p q e = absurd (none_some e)
lowest_below (suc k) t p q e = go (t p) e (lowest_below k t (suc p) q)
  where
    go : (b : Bool) → cond b (Some p) (lowest_port k t (suc p)) ≡ Some q → (lowest_port k t (suc p) ≡ Some q → q < suc p + k) → q < p + suc k
    go true f ih = let z : p ≡ q = some_inj f in omega arith
    go false f ih = let z = ih f in omega arith
