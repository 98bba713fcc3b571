-- Counting: rows that pass one test or another; and that voices which hold different ports are at most as many as the ports.
use Prim.Native.Nat.{ℕ, zero, suc, ◌+◌, ◌*◌, ◌≤◌, ◌<◌}
use native.Mathlib.Omega.{arith}
use native.Mathlib.Decide.{ℕ_discrete}
use native.Mathlib.Nat.{suc-mul}
use mathlib.Core.Path.{◌≡◌, refl, sym, ap, ◌∙◌}
use mathlib.Core.Logic.{◌⊎◌, inl, inr, ⊎_elim}
use mathlib.Core.List.{List, [], ◌∷◌}
use Rattle.std.specs.Prelude.{Option, None, Some, filter, cond, find}
use mathlib.Core.Bool.{Bool, true, false, not, false≢true}
use lib.ListN.{length}
use borrow.Author.Tests.{eqb-true, eq-eqb, not-true}
use Rattle.lists.specs.Member.{In}
use Rattle.lists.proofs.Filter.{in_filter, filter_all}
use Rattle.lists.proofs.Find.{find_in, find_none}
use Rattle.lists.specs.Count.{more, count}
use Rattle.lists.proofs.Count.{count_all, count_filter, count_is_length}
use Rattle.voice.specs.Voice.{is_voice}
use Rattle.ledger.specs.Holder.{Holder, nobody, host, voice, by_voice}
use Rattle.ledger.proofs.Ids.{Ids, one_removed, ids_filter}
use Rattle.voice.specs.declared.voices.Voice.{Voice}

module _ {A : Type 0} where
  split : (q : A → Bool) (l : List A) → length l ≡ count q l + length (filter (λ x. not (q x)) l)
  split q [] = refl
  split q (x ∷ l) = go (q x) (split q l)
    where
      go : (b : Bool) → length l ≡ count q l + length (filter (λ x. not (q x)) l) → suc (length l) ≡ more b (count q l) + length (cond (not b) (x ∷ (filter (λ x. not (q x)) l)) (filter (λ x. not (q x)) l))
      go true h = omega arith
      go false h = omega arith

-- each row passes q, or the test of one of vs, and each of these passes at most m
pub covered : {A B : Type 0} (q : A → Bool) (t : B → A → Bool) (m : ℕ) (vs : List B) (l : List A) → ((x : A) → In x l → (q x ≡ true) ⊎ ((v : B) × In v vs × (t v x ≡ true)))
    → ((v : B) → In v vs → count (t v) l ≤ m) → length l ≤ count q l + length vs * m
covered {A} {B} q t m [] l h few =
    let e = count_is_length q l ∙ ap length (filter_all q l (λ x i. ⊎_elim (λ p. p) (λ r. absurd r.1) (h x i))) in
    omega (arith, e)
covered {A} {B} q t m (v ∷ vs) l h few =
    let l' = filter (λ x. not (t v x)) l in
    let ih = covered q t m vs l' rest (λ u i. omega (arith, few u (inr i), count_filter (t u) (λ x. not (t v x)) l)) in
    omega (arith, ih, split (t v) l, few v (inl refl), count_filter q (λ x. not (t v x)) l, suc-mul (length vs) m)
  where
    rest : (x : A) → In x (filter (λ x. not (t v x)) l) → (q x ≡ true) ⊎ ((u : B) × In u vs × (t u x ≡ true))
    rest x i =
        let r = in_filter (λ x. not (t v x)) l x i in
        ⊎_elim inl (λ z. inr (other z.0 z.1 z.2 (not-true _ r.1))) (h x r.0)
      where
        other : (u : B) → In u (v ∷ vs) → t u x ≡ true → t v x ≡ false → (u : B) × In u vs × (t u x ≡ true)
        other u (inl p) a b = absurd (false≢true (sym b ∙ ap (λ w. t w x) (sym p) ∙ a))
        other u (inr j) a b = (u, j, a)

-- ---- voices that hold ports below n are at most n
same_holder : (x : Holder) (u v : Voice) → by_voice u.id x ≡ true → by_voice v.id x ≡ true → u.id.0 ≡ v.id.0
same_holder nobody u v a b = absurd (false≢true a)
same_holder (host k) u v a b = absurd (false≢true a)
same_holder (voice w) u v a b = sym (eqb-true w.0 u.id.0 a) ∙ eqb-true w.0 v.id.0 b

pub ports_enough : (h : ℕ → Holder) (n given : ℕ) (vs : List Voice) → Ids given vs → ((v : Voice) → In v vs → (p : ℕ) × (p < n) × (by_voice v.id (h p) ≡ true)) → length vs ≤ n
ports_enough h zero given [] d at = omega arith
ports_enough h zero given (v ∷ vs) d at = let r = at v (inl refl) in absurd (omega (arith, r.1))
ports_enough h (suc n) given vs d at = go (find (λ v. by_voice v.id (h n)) vs) refl (ports_enough h n given)
  where
    below : (v : Voice) (p : ℕ) → p < suc n → by_voice v.id (h p) ≡ true → (by_voice v.id (h n) ≡ true → ⊥) → (p : ℕ) × (p < n) × (by_voice v.id (h p) ≡ true)
    below v p l b off = two (ℕ_discrete p n)
      where
        two : Dec (p ≡ n) → (p : ℕ) × (p < n) × (by_voice v.id (h p) ≡ true)
        two (yes e) = absurd (off (sym (ap (λ k. by_voice v.id (h k)) e) ∙ b))
        two (no e) = (p, omega arith, b)

    go : (o : Option Voice) → find (λ v. by_voice v.id (h n)) vs ≡ o
        → ((vs : List Voice) → Ids given vs → ((v : Voice) → In v vs → (p : ℕ) × (p < n) × (by_voice v.id (h p) ≡ true)) → length vs ≤ n) → length vs ≤ suc n
    go None e ih =
        let z = ih vs d (λ v i. let r = at v i in below v r.0 r.1 r.2 (λ b. false≢true (sym (find_none (λ v. by_voice v.id (h n)) vs v e i) ∙ b))) in
        omega (arith, z)
    go (Some u) e ih =
        let f = find_in (λ v. by_voice v.id (h n)) vs u e in
        let vs' = filter (λ x. not (is_voice u.id x)) vs in
        let c : count (λ x. true) vs ≡ suc (count (λ x. true) vs') = one_removed d (λ x. true) u f.0 in
        let z = ih vs' (ids_filter (λ x. not (is_voice u.id x)) d) (λ v i.
        let k = in_filter (λ x. not (is_voice u.id x)) vs v i in
        let r = at v k.0 in
        below v r.0 r.1 r.2 (λ b. false≢true (sym (not-true _ k.1) ∙ eq-eqb v.id.0 u.id.0 (same_holder (h n) v u b f.1)))) in
        omega (arith, z, c, count_all vs, count_all vs')
