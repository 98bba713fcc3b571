-- Who is in question by rank (SPEC 9.3), said of any list of candidates and not of the walk that finds the lowest:
-- `low_in` and `in_low` name who is asked, `victim_lowest` what is true of the victim, and `outranked_nobody` and
-- `nobody_outranked` when there is none.
use Rattle.std.specs.Prelude.{Some, None}
use Prim.Native.Nat.{ℕ, zero, suc, ◌≤◌, ◌<◌, min}
use native.Mathlib.Omega.{arith}
use mathlib.Core.Path.{◌≡◌, refl, sym, ap, ◌∙◌}
use mathlib.Core.Logic.{◌⊎◌, ◌≢◌, inl, inr}
use mathlib.Core.List.{List, [], ◌∷◌}
use mathlib.Core.Bool.{Bool, true, false, ◌&&◌, false≢true}
use lib.Dec.{eqb, leb}
use lib.IntN.{pos}
use lib.Ieee.{fin, lt, eq, le}
use lib.ListN.{length, get_or}
use borrow.Author.Tests.{eq-eqb, eqb-true, leb-true, leb-false}
use Rattle.lists.specs.Member.{In}
use Rattle.lists.proofs.Filter.{in_filter, filter_in, filter_none}
use Rattle.voice.specs.declared.policy.StealPolicy.{StealPolicy}
use Rattle.voice.specs.declared.policy.StealPolicy.TheVariants as policy
use Rattle.voice.specs.declared.policy.Candidate.{Candidate}
use Rattle.voice.specs.Policy.{Victim, policy_victim, lowest, of_lowest, victim, nobody}
use Rattle.voice.proofs.Victims.{OneOf, victim_one, victim_some, victim_none}

-- ---- the lowest rank
-- it is not above r
pub lowest_below : (r : ℕ) (l : List Candidate) → lowest r l ≤ r
lowest_below r [] = omega arith
lowest_below r (c ∷ l) = let h = lowest_below (min r c.rank) l in omega arith

-- nor above any candidate's
pub lowest_least : (r : ℕ) (l : List Candidate) (c : Candidate) → In c l → lowest r l ≤ c.rank
lowest_least r [] c i = absurd i
lowest_least r (x ∷ l) c (inl e) = let h = lowest_below (min r x.rank) l in let z : c.rank ≡ x.rank = ap (λ (y : Candidate). y.rank) e in omega arith
lowest_least r (x ∷ l) c (inr i) = lowest_least (min r x.rank) l c i

-- and it is r, where r is below all of them, or what is below both
pub lowest_greatest : (r : ℕ) (l : List Candidate) (k : ℕ) → k ≤ r → ((c : Candidate) → In c l → k ≤ c.rank) → k ≤ lowest r l
lowest_greatest r [] k h f = h
lowest_greatest r (c ∷ l) k h f = let z = f c (inl refl) in let m : k ≤ min r c.rank = omega arith in lowest_greatest (min r c.rank) l k m (λ e i. f e (inr i))

-- ---- who is asked: the candidates that do not outrank the new voice and that no candidate is below of
pub low_in : (r : ℕ) (l : List Candidate) (c : Candidate) → In c (of_lowest r l) → In c l × (c.rank ≤ r) × ((e : Candidate) → In e l → c.rank ≤ e.rank)
low_in r l c i =
    let z = in_filter (λ (x : Candidate). eqb x.rank (lowest r l)) l c i in
    let k : c.rank ≡ lowest r l = eqb-true _ _ z.1 in
    let b = lowest_below r l in
    (z.0, omega arith, λ e j. let a = lowest_least r l e j in omega arith)

pub in_low : (r : ℕ) (l : List Candidate) (c : Candidate) → In c l → c.rank ≤ r → ((e : Candidate) → In e l → c.rank ≤ e.rank) → In c (of_lowest r l)
in_low r l c i h f =
    let a = lowest_least r l c i in
    let b = lowest_greatest r l c.rank h f in
    let k : c.rank ≡ lowest r l = omega arith in
    filter_in (λ (x : Candidate). eqb x.rank (lowest r l)) l c i (eq-eqb _ _ k)

-- ---- nobody, where all candidates outrank the new voice
pub low_none : (r : ℕ) (l : List Candidate) → ((c : Candidate) → In c l → r < c.rank) → of_lowest r l ≡ []
low_none r l f = filter_none (λ (x : Candidate). eqb x.rank (lowest r l)) l (λ c i. go c (f c i) (eqb c.rank (lowest r l)) refl)
  where
    go : (c : Candidate) → r < c.rank → (b : Bool) → eqb c.rank (lowest r l) ≡ b → b ≡ false
    go c h false e = refl
    go c h true e = let k = eqb-true c.rank (lowest r l) e in let b = lowest_below r l in absurd (omega arith)

pub outranked_nobody : (p : StealPolicy) (r : ℕ) (l : List Candidate) → ((c : Candidate) → In c l → r < c.rank) → victim p r l ≡ None
outranked_nobody p r l f = ap (λ z. policy_victim p z) (low_none r l f) ∙ victim_none p

-- the lowest rank is the new voice's, or somebody has it
lowest_had : (r : ℕ) (l : List Candidate) → (lowest r l ≡ r) ⊎ ((c : Candidate) × In c l × (c.rank ≡ lowest r l))
lowest_had r [] = inl refl
lowest_had r (c ∷ l) = go (leb r c.rank) refl (lowest_had (min r c.rank) l)
  where
    go : (b : Bool) → leb r c.rank ≡ b → (lowest (min r c.rank) l ≡ min r c.rank) ⊎ ((e : Candidate) × In e l × (e.rank ≡ lowest (min r c.rank) l))
        → (lowest (min r c.rank) l ≡ r) ⊎ ((e : Candidate) × In e (c ∷ l) × (e.rank ≡ lowest (min r c.rank) l))
    go b h (inr z) = inr (z.0, inr z.1, z.2)
    go true h (inl e) = let k : r ≤ c.rank = leb-true r c.rank h in inl (omega arith)
    go false h (inl e) = let k : c.rank < r = leb-false r c.rank h in let z : c.rank ≡ lowest (min r c.rank) l = omega arith in inr (c, inl refl, z)

-- and only there: a candidate that does not outrank it is asked, or one below that
pub low_some : (r : ℕ) (l : List Candidate) (c : Candidate) → In c l → c.rank ≤ r → (e : Candidate) × In e (of_lowest r l)
low_some r l c i h = go (lowest_had r l)
  where
    low : (e : Candidate) → In e l → e.rank ≡ lowest r l → In e (of_lowest r l)
    low e j k = filter_in (λ (x : Candidate). eqb x.rank (lowest r l)) l e j (eq-eqb _ _ k)

    go : (lowest r l ≡ r) ⊎ ((e : Candidate) × In e l × (e.rank ≡ lowest r l)) → (e : Candidate) × In e (of_lowest r l)
    go (inr z) = (z.0, low z.0 z.1 z.2)
    go (inl e) = let a = lowest_least r l c i in let k : c.rank ≡ lowest r l = omega arith in (c, low c i k)

pub nobody_outranked : (p : StealPolicy) → p ≢ policy.Reject → (r : ℕ) (l : List Candidate) → victim p r l ≡ None → (c : Candidate) → In c l → r < c.rank
nobody_outranked p s r l h c i = go (leb c.rank r) refl
  where
    none : (cs : List Candidate) → nobody (policy_victim p cs) ≡ true → (e : Candidate) → In e cs → ⊥
    none [] n e j = j
    none (x ∷ cs) n e j = false≢true (sym (victim_some p x cs s) ∙ n)

    go : (b : Bool) → leb c.rank r ≡ b → r < c.rank
    go false k = leb-false _ _ k
    go true k = let z = low_some r l c i (leb-true _ _ k) in absurd (none (of_lowest r l) (ap nobody h) z.0 z.1)

in_at : (l : List Candidate) (i : ℕ) (d : Candidate) → i < length l → In (get_or l i d) l
in_at [] i d h = absurd (omega arith)
in_at (c ∷ l) zero d h = inl refl
in_at (c ∷ l) (suc i) d h = let k : i < length l = omega arith in inr (in_at l i d k)

-- ---- the victim: one of the candidates, of a rank that is not above the new voice's nor above any candidate's
abbrev pub Lowest : ℕ → List Candidate → Victim → Type 0
Lowest r l None = Unit
Lowest r l (Some (place, v)) = (c : Candidate) × In c l × (c.voice ≡ v) × (c.rank ≤ r) × ((e : Candidate) → In e l → c.rank ≤ e.rank)

pub victim_lowest : (d : Candidate) (p : StealPolicy) (r : ℕ) (l : List Candidate) → Lowest r l (victim p r l)
victim_lowest d p r l = go (victim p r l) (victim_one d p (of_lowest r l))
  where
    go : (v : Victim) → OneOf d (of_lowest r l) v → Lowest r l v
    go None o = tt
    go (Some (i, v)) o =
        let c = get_or (of_lowest r l) i d in
        let z = low_in r l c (in_at (of_lowest r l) i d o.0) in
        (c, z.0, o.1, z.1, z.2)

-- ---- closed: a policy, the new voice's rank, the candidates in order of admission, and the victim, counted from 1; 0 for nobody.
-- The rows refuse: the highest rank first; the policy among all that do not outrank the new voice; an equal rank protected; the lowest rank
-- taken though it outranks the new voice; a rank above the new voice's taken for the lowest.
pub record Row : Type 0 where
  pub rule : StealPolicy
  pub new_rank : ℕ
  pub candidates : List Candidate
  pub voice : ℕ

-- voice v, of rank k and level 2^x
abbrev one : ℕ → ℕ → ℕ → Candidate
one v k x = record { voice = record { 0 = v }; level = Some (fin false 1 (pos x)); rank = k }

-- two of rank 2 and two of rank 1, of which the first of each is the quieter; and the loudest of rank 3
abbrev five : List Candidate
five = one 1 2 0 ∷ one 2 1 4 ∷ one 3 3 9 ∷ one 4 1 5 ∷ one 5 2 1 ∷ []

abbrev pub table : List Row
table =
    record { rule = policy.Oldest; new_rank = 7; candidates = five; voice = 2 } ∷
    record { rule = policy.Newest; new_rank = 7; candidates = five; voice = 4 } ∷
    record { rule = policy.Quietest; new_rank = 7; candidates = five; voice = 2 } ∷
    record { rule = policy.Reject; new_rank = 7; candidates = five; voice = 0 } ∷
    record { rule = policy.Oldest; new_rank = 2; candidates = five; voice = 2 } ∷
    record { rule = policy.Oldest; new_rank = 1; candidates = five; voice = 2 } ∷
    record { rule = policy.Oldest; new_rank = 0; candidates = five; voice = 0 } ∷
    record { rule = policy.Newest; new_rank = 0; candidates = five; voice = 0 } ∷
    record { rule = policy.Quietest; new_rank = 0; candidates = five; voice = 0 } ∷
    record { rule = policy.Oldest; new_rank = 3; candidates = one 1 4 0 ∷ one 2 5 0 ∷ []; voice = 0 } ∷
    record { rule = policy.Quietest; new_rank = 4; candidates = one 1 4 9 ∷ one 2 5 0 ∷ []; voice = 1 } ∷
    record { rule = policy.Oldest; new_rank = 7; candidates = []; voice = 0 } ∷
    []

abbrev pub goes : Victim → ℕ → Bool
goes None n = eqb n 0
goes (Some (place, voice)) n = eqb voice.0 n

abbrev pub right : List Row → Bool
right [] = true
right (x ∷ l) = goes (victim x.rule x.new_rank x.candidates) x.voice && right l

pub examples : right table ≡ true
unfolding lt eq le
examples = refl
