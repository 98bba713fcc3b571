-- What follows of the policy's victim, for the layers above: it is one of the candidates, at its place, and where the policy steals there
-- is one as soon as there is a candidate.
use Rattle.std.specs.Prelude.{Option, Float, Some, None}
use Prim.Native.Nat.{ℕ, suc, ◌+◌, ◌<◌}
use native.Mathlib.Omega.{arith}
use mathlib.Core.Path.{◌≡◌, refl, ap, ◌∙◌}
use mathlib.Core.Logic.{◌≢◌}
use mathlib.Core.List.{List, [], ◌∷◌, ◌++◌}
use mathlib.Core.Bool.{Bool, true, false}
use lib.ListN.{length, get_or, length-append}
use lib.Seq.{append_snoc, get_or_at}
use Rattle.voice.specs.declared.policy.StealPolicy.{StealPolicy}
use Rattle.voice.specs.declared.policy.StealPolicy.TheVariants as policy
use Rattle.voice.specs.declared.policy.Candidate.{Candidate}
use Rattle.voice.specs.Policy.{Held, Victim, oldest, last_from, newest, takes, take?, passed, walk, took_or, policy_victim, nobody}

-- the last of a list that has one, by its place
pub last_from_lem : (d : Candidate) (p : ℕ) (c : Candidate) (l : List Candidate) → last_from p (c ∷ l) ≡ Some (p + length l, (get_or (c ∷ l) (length l) d).voice)
last_from_lem d p c [] = let z : p ≡ p + 0 = omega arith in ap (λ n. Some (n, c.voice)) z
last_from_lem d p c (x ∷ l) =
    let z : suc p + length l ≡ p + suc (length l) = omega arith in
    last_from_lem d (suc p) x l ∙ ap (λ n. Some (n, (get_or (x ∷ l) (length l) d).voice)) z

module _ (d : Candidate) where
  -- a victim is the candidate at its place
  abbrev pub OneOf : List Candidate → Victim → Type 0
  OneOf l None = Unit
  OneOf l (Some (i, v)) = (i < length l) × ((get_or l i d).voice ≡ v)

  abbrev HeldOf : List Candidate → Held → Type 0
  HeldOf l None = Unit
  HeldOf l (Some (i, v, x)) = (i < length l) × ((get_or l i d).voice ≡ v)

  oldest_one : (l : List Candidate) → OneOf l (oldest l)
  oldest_one [] = tt
  oldest_one (c ∷ l) = (omega arith, refl)

  newest_one : (l : List Candidate) → OneOf l (newest l)
  newest_one [] = tt
  newest_one (c ∷ l) =
      let z : 0 + length l ≡ length l = omega arith in
      rw (last_from_lem d 0 c l, z) (omega arith, refl)

  passed_one : (done : List Candidate) (c : Candidate) (l : List Candidate) (h : Held) (x : Option Float) → HeldOf (done ++ (c ∷ l)) h → HeldOf (done ++ (c ∷ l)) (passed h (length done) c x)
  passed_one done c l h None g = g
  passed_one done c l h (Some x) g = go (takes h x)
    where
      go : (b : Bool) → HeldOf (done ++ (c ∷ l)) (take? b (Some (length done, c.voice, x)) h)
      go true = (simp length-append (omega arith), ap (λ y. y.voice) (get_or_at done c l d (length done) refl))
      go false = g

  walk_one : (done l : List Candidate) (h : Held) → HeldOf (done ++ l) h → HeldOf (done ++ l) (walk h (length done) l)
  walk_one done [] h g = g
  walk_one done (c ∷ l) h g =
      let more : length (done ++ (c ∷ [])) ≡ suc (length done) = simp length-append (omega arith) in
      let next = passed_one done c l h c.level g in
      rw (← append_snoc done c l, ← more)
      (walk_one (done ++ (c ∷ [])) l (passed h (length done) c c.level) (rw append_snoc next))

  took_one : (l : List Candidate) (h : Held) (v : Victim) → HeldOf l h → OneOf l v → OneOf l (took_or h v)
  took_one l None v g o = o
  took_one l (Some (i, w, x)) v g o = g

  pub victim_one : (p : StealPolicy) (l : List Candidate) → OneOf l (policy_victim p l)
  victim_one policy.Reject l = tt
  victim_one policy.Oldest l = oldest_one l
  victim_one policy.Newest l = newest_one l
  victim_one policy.Quietest l = took_one l (walk None 0 l) (oldest l) (walk_one [] l None tt) (oldest_one l)

-- where the policy steals and there is a candidate, there is a victim
pub victim_some : (p : StealPolicy) (c : Candidate) (l : List Candidate) → p ≢ policy.Reject → nobody (policy_victim p (c ∷ l)) ≡ false
victim_some policy.Reject c l h = absurd (h refl)
victim_some policy.Oldest c l h = refl
victim_some policy.Newest c l h = ap nobody (last_from_lem c 0 c l)
victim_some policy.Quietest c l h = go (walk None 0 (c ∷ l))
  where
    go : (g : Held) → nobody (took_or g (oldest (c ∷ l))) ≡ false
    go None = refl
    go (Some (i, v, x)) = refl

pub victim_none : (p : StealPolicy) → policy_victim p [] ≡ None
victim_none policy.Reject = refl
victim_none policy.Oldest = refl
victim_none policy.Newest = refl
victim_none policy.Quietest = refl
