-- The laws of the victim: the candidates of the lowest rank are those who pass the comparison with every other; of them
-- the first, the last or the quietest goes.
use Prim.Native.Nat.{ℕ, suc, ◌+◌, ◌≤◌}
use native.Mathlib.Omega.{arith}
use mathlib.Core.Path.{◌≡◌, refl, sym, ap, ◌∙◌, subst}
use mathlib.Core.List.{List, [], ◌∷◌, ◌++◌}
use Rattle.std.specs.Prelude.{Option, Some}
use mathlib.Core.Bool.{Bool, true}
use lib.ListN.{length}
use lib.Dec.{eqb, leb}
use Rattle.std.specs.List.{list_all}
use Rattle.std.proofs.lemmas.Bool.{and_from}
use borrow.Author.Tests.{eqb-true, eq-eqb, le-leb, leb-true, lt-leb}
use Rattle.lists.specs.Member.{In}
use Rattle.lists.proofs.Member.{and_left, and_right}
use Rattle.lists.proofs.Filter.{filter_same}
use Rattle.synthdef.proofs.Rows.{every_in, in_every}
use Rattle.voice.specs.declared.policy.StealPolicy.{StealPolicy}
use Rattle.voice.specs.declared.policy.StealPolicy.TheVariants as policy
use Rattle.voice.specs.declared.policy.Candidate.{Candidate}
use Rattle.voice.specs.Policy.{oldest, last_from, newest, policy_victim, lowest, of_lowest, victim, decides, admits}
use Rattle.voice.specs.Quietest.{QuietestGoes}
use Rattle.voice.proofs.Quietest.{quietest_goes}
use Rattle.voice.proofs.Ranks.{lowest_below, lowest_least, lowest_greatest, outranked_nobody, nobody_outranked}
use Rattle.rules.proofs.Booleans.{both}
use Rattle.rules.specs.Policy.{gives_way, asked, VictimLaw, AdmissionLaw}

-- ---- who is asked
passes : (r : ℕ) (l : List Candidate) (c : Candidate) → In c l → gives_way r l c ≡ eqb c.rank (lowest r l)
passes r l c i = both (gives_way r l c) (eqb c.rank (lowest r l)) forth back
  where
    below : Candidate → Bool
    below e = leb c.rank e.rank

    forth : gives_way r l c ≡ true → eqb c.rank (lowest r l) ≡ true
    forth h =
        let few : c.rank ≤ r = leb-true c.rank r (and_left (leb c.rank r) (list_all (λ (e : Candidate). leb c.rank e.rank) l) h) in
        let all = and_right (leb c.rank r) (list_all (λ (e : Candidate). leb c.rank e.rank) l) h in
        let a = lowest_greatest r l c.rank few (λ e j. leb-true c.rank e.rank (every_in (λ (x : Candidate). leb c.rank x.rank) l e all j)) in
        let b = lowest_least r l c i in
        eq-eqb _ _ (omega arith)

    back : eqb c.rank (lowest r l) ≡ true → gives_way r l c ≡ true
    back h =
        let k : c.rank ≡ lowest r l = eqb-true _ _ h in
        let a = lowest_below r l in
        and_from (leb c.rank r) (list_all (λ (e : Candidate). leb c.rank e.rank) l) (le-leb c.rank r (omega arith))
        (in_every (λ (e : Candidate). leb c.rank e.rank) l (λ e j. let b = lowest_least r l e j in le-leb c.rank e.rank (omega arith)))

the_lowest : (r : ℕ) (l : List Candidate) → of_lowest r l ≡ asked r l
the_lowest r l = sym (filter_same (gives_way r l) (λ (c : Candidate). eqb c.rank (lowest r l)) l (passes r l))

goes : (p : StealPolicy) (r : ℕ) (l : List Candidate) → victim p r l ≡ policy_victim p (asked r l)
goes p r l = ap (policy_victim p) (the_lowest r l)

-- ---- who of them goes
last_snoc : (p : ℕ) (before : List Candidate) (c : Candidate) → last_from p (before ++ (c ∷ [])) ≡ Some (p + length before, c.voice)
last_snoc p [] c = let e : p ≡ p + 0 = omega arith in ap (λ k. Some (k, c.voice)) e
last_snoc p (x ∷ []) c = let e : suc p ≡ p + suc 0 = omega arith in ap (λ k. Some (k, c.voice)) e
last_snoc p (x ∷ y ∷ l) c =
    let e : suc p + suc (length l) ≡ p + suc (suc (length l)) = omega arith in
    last_snoc (suc p) (y ∷ l) c ∙ ap (λ k. Some (k, c.voice)) e

last_of : (before : List Candidate) (c : Candidate) → newest (before ++ (c ∷ [])) ≡ Some (length before, c.voice)
last_of before c = let e : 0 + length before ≡ length before = omega arith in last_snoc 0 before c ∙ ap (λ k. Some (k, c.voice)) e

pub victim_law : (r : ℕ) (l : List Candidate) → VictimLaw r l
victim_law r l = record {
  reject = refl;
  oldest = λ c later e. goes policy.Oldest r l ∙ ap oldest e;
  newest = λ before c e. goes policy.Newest r l ∙ ap newest e ∙ last_of before c;
  quietest = subst (QuietestGoes (asked r l)) (sym (goes policy.Quietest r l)) (quietest_goes (asked r l));
  nobody = λ p s. (λ e. nobody_outranked p s r l e, λ h. outranked_nobody p r l h);
}

-- ---- admission
pub admission_law : (b : Option ℕ) (p : StealPolicy) (r : ℕ) (l : List Candidate) → AdmissionLaw b p r l
admission_law b p r l = record {
  unlimited = λ e. ap (λ z. admits z p r l) e;
  below = λ n e h. ap (λ z. admits z p r l) e ∙ ap (λ t. decides t (victim p r l)) (lt-leb n (length l) h);
  rejected = λ n e h v. at n e h ∙ ap (decides true) v;
  stolen = λ n e h place w v. at n e h ∙ ap (decides true) v;
}
  where
    at : (n : ℕ) → b ≡ Some n → n ≤ length l → admits b p r l ≡ decides true (victim p r l)
    at n e h = ap (λ z. admits z p r l) e ∙ ap (λ t. decides t (victim p r l)) (le-leb n (length l) h)
