-- The laws of the fade table (SPEC 10.4, 21.7): one test, which is computed over the whole table, and one lemma a law.
--     lawful          a table that passes the test is lawful
--     entries_lawful  the fade table is
use Prim.Native.Nat.{ℕ, zero, suc, ◌+◌, ◌-◌, ◌*◌, ◌≤◌, ◌<◌, suc-le-suc}
use mathlib.Core.Path.{◌≡◌, refl, sym, subst}
use mathlib.Core.Bool.{Bool, true, false, not, ◌&&◌}
use mathlib.Core.List.{List}
use native.Mathlib.Omega.{arith}
use native.Mathlib.Nat.{le_of_suc-le-suc, eq-or-lt_of_le, not-suc-le-zero}
use mathlib.Core.Logic.{⊎_elim}
use lib.Dec.{T, eqb, leb, ltb, eqb→eq, leb→le, nleb→lt, ltb→lt}
use lib.IntN.{pos, ◌+ℤ◌, ◌-ℤ◌, ◌*ℤ◌}
use lib.ListN.{length, get_or-eq_default}
use lib.Ieee.Fits.{and_l, and_r}
use Rattle.fade_table.specs.Table.{S, entries, entry_of}
use Rattle.fade_table.specs.Laws.{c, s, apart, Lawful}

-- f holds of every number below n
abbrev pub up_to : ℕ → (ℕ → Bool) → Bool
up_to zero f = true
up_to (suc k) f = let r = up_to k f in r && f k

pub up_to_at : (n : ℕ) (f : ℕ → Bool) → T (up_to n f) → (k : ℕ) → k < n → T (f k)
up_to_at zero f t k h = absurd (not-suc-le-zero h)
up_to_at (suc n) f t k h =
    ⊎_elim (λ e. subst (λ (j : ℕ). T (f j)) (sym e) (and_r (up_to n f) (f n) t)) (λ l. up_to_at n f (and_l (up_to n f) (f n) t) k l)
    (eq-or-lt_of_le (le_of_suc-le-suc h))

abbrev ends : List ℕ → Bool
ends t = eqb (length t) 241 && (eqb (entry_of t 0) S && eqb (entry_of t 240) 0)

abbrev falls : List ℕ → ℕ → Bool
falls t k = ltb (entry_of t (k + 1)) (entry_of t k)

abbrev mirrored : List ℕ → ℕ → Bool
mirrored t k = eqb (entry_of t k + entry_of t (240 - k)) S

abbrev circle : List ℕ → ℕ → Bool
circle t k = leb (apart (c t k *ℤ c t k +ℤ s t k *ℤ s t k) (pos S *ℤ pos S)) (3 * S)

abbrev turns : List ℕ → ℕ → Bool
turns t k = leb (apart (c t (k + 1) *ℤ pos S) (c t k *ℤ c t 1 -ℤ s t k *ℤ s t 1)) (4 * S)

-- the whole test
pub passes : List ℕ → Bool
passes t = ends t && (up_to 240 (falls t) && (up_to 241 (mirrored t) && (up_to 121 (circle t) && up_to 120 (turns t))))

-- a table that passes is lawful
pub lawful : (t : List ℕ) → T (passes t) → Lawful t
unfolding passes
lawful t p =
    let bounds = and_l (ends t) _ p in
    let after-ends = and_r (ends t) _ p in
    let after-falls = and_r (up_to 240 (falls t)) _ after-ends in
    let after-mirrored = and_r (up_to 241 (mirrored t)) _ after-falls in
    record {
      long = eqb→eq _ _ (and_l (eqb (length t) 241) _ bounds);
      first = eqb→eq _ _ (and_l (eqb (entry_of t 0) S) _ (and_r (eqb (length t) 241) _ bounds));
      last = eqb→eq _ _ (and_r (eqb (entry_of t 0) S) _ (and_r (eqb (length t) 241) _ bounds));
      falls = λ k h. ltb→lt _ _ (up_to_at 240 (falls t) (and_l (up_to 240 (falls t)) _ after-ends) k h);
      mirrored = λ k h. eqb→eq _ _ (up_to_at 241 (mirrored t) (and_l (up_to 241 (mirrored t)) _ after-falls) k (suc-le-suc h));
      circle = λ k h. leb→le _ _ (up_to_at 121 (circle t) (and_l (up_to 121 (circle t)) _ after-mirrored) k (suc-le-suc h));
      turns = λ k h. leb→le _ _ (up_to_at 120 (turns t) (and_r (up_to 121 (circle t)) _ after-mirrored) k h);
    }

-- computed over the whole table
pub entries_lawful : Lawful entries
unfolding entries passes
entries_lawful = lawful entries tt

-- past the end stands 0
pub past_end : (k : ℕ) → 241 ≤ k → entry_of entries k ≡ 0
past_end k h = get_or-eq_default entries 0 (subst (λ (n : ℕ). n ≤ k) (sym entries_lawful.long) h)

-- no entry is above S
pub at_most_S : (k : ℕ) → entry_of entries k ≤ S
at_most_S k = go (leb 241 k) refl
  where
    past : 241 ≤ k → entry_of entries k ≤ S
    past h = let e = past_end k h in omega (arith, e)

    inside : k < 241 → entry_of entries k ≤ S
    inside h = let l : k ≤ 240 = omega arith in let m = entries_lawful.mirrored k l in omega (arith, m)

    go : (b : Bool) → leb 241 k ≡ b → entry_of entries k ≤ S
    go true e = past (leb→le 241 k (subst T (sym e) tt))
    go false e = inside (nleb→lt 241 k (subst (λ (b : Bool). T (not b)) (sym e) tt))
