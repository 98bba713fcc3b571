-- A number in decimal reads as the number.
use Prim.Native.Nat.{ℕ, zero, suc, ◌+◌, ◌-◌, ◌*◌, ◌/◌, ◌%◌, ◌≤◌, ◌<◌}
use native.Mathlib.Omega.{arith}
use mathlib.Core.Path.{◌≡◌, refl, ap, ◌∙◌}
use mathlib.Core.Logic.{◌⊎◌, inl, inr}
use mathlib.Core.List.{List, [], ◌∷◌, ◌++◌}
use Rattle.std.specs.Prelude.{cond}
use mathlib.Core.Bool.{Bool, true, false}
use lib.Dec.{ltb}
use borrow.Author.Tests.{ltb-true, ltb-false}
use Rattle.lists.specs.Member.{In}
use Rattle.lists.proofs.Member.{in_append}
use Rattle.model.specs.Decimal.{digit, spelled, decimal}
use Rattle.rules.specs.Reading.{read_on, Decimal}

read_more : (n : ℕ) (l : List ℕ) (c : ℕ) → read_on n (l ++ (c ∷ [])) ≡ 10 * read_on n l + (c - 48)
read_more n [] c = refl
read_more n (d ∷ l) c = read_more (10 * n + (d - 48)) l c

one_digit : (n : ℕ) → n < 10 → Decimal n (digit n ∷ [])
one_digit n h = record { digits = all; some = omega arith; short = λ rest e. cc; value = omega arith }
  where
    all : (c : ℕ) → In c (digit n ∷ []) → (48 ≤ c) × (c ≤ 57)
    all c (inl p) = (omega arith, omega arith)
    all c (inr i) = absurd i

-- a number above 0 has no zero in front
abbrev Fronted : List ℕ → Type 0
Fronted l = (rest : List ℕ) → l ≡ 48 ∷ rest → ⊥

abbrev head_or : List ℕ → ℕ
head_or [] = 0
head_or (c ∷ l) = c

abbrev rest_of : List ℕ → List ℕ
rest_of [] = []
rest_of (c ∷ l) = l

more_digits : (n : ℕ) (l : List ℕ) → 10 ≤ n → Decimal (n / 10) l → Fronted l → Decimal n (l ++ (digit (n % 10) ∷ [])) × Fronted (l ++ (digit (n % 10) ∷ []))
more_digits n [] h d f = absurd (omega (arith, d.some))
more_digits n (x ∷ l) h d f = (record { digits = all; some = omega arith; short = λ rest e. absurd (f l (ap (λ c. c ∷ l) (ap head_or e))); value = value }, λ rest e. f l (ap (λ c. c ∷ l) (ap head_or e)))
  where
    last : n % 10 < 10
    last = omega arith

    all : (c : ℕ) → In c ((x ∷ l) ++ (digit (n % 10) ∷ [])) → (48 ≤ c) × (c ≤ 57)
    all c i = go (in_append (x ∷ l) (digit (n % 10) ∷ []) c i)
      where
        go : In c (x ∷ l) ⊎ In c (digit (n % 10) ∷ []) → (48 ≤ c) × (c ≤ 57)
        go (inl j) = d.digits c j
        go (inr (inl p)) = (omega arith, omega arith)
        go (inr (inr i)) = absurd i

    value : read_on 0 ((x ∷ l) ++ (digit (n % 10) ∷ [])) ≡ n
    value = read_more 0 (x ∷ l) (digit (n % 10)) ∙ ap (λ k. 10 * k + (48 + n % 10 - 48)) d.value ∙ omega arith

in_decimal : (places n : ℕ) → n < places → Decimal n (spelled places n) × (0 < n → Fronted (spelled places n))
in_decimal zero n h = absurd (omega arith)
in_decimal (suc places) n h = go (ltb n 10) refl (in_decimal places (n / 10))
  where
    go : (b : Bool) → ltb n 10 ≡ b → (n / 10 < places → Decimal (n / 10) (spelled places (n / 10)) × (0 < n / 10 → Fronted (spelled places (n / 10))))
        → Decimal n (cond b (digit n ∷ []) (spelled places (n / 10) ++ (digit (n % 10) ∷ []))) × (0 < n → Fronted (cond b (digit n ∷ []) (spelled places (n / 10) ++ (digit (n % 10) ∷ []))))
    go true e ih = (one_digit n (ltb-true n 10 e), λ p rest k. let z : 48 + n ≡ 48 = ap head_or k in omega arith)
    go false e ih =
        let big : 10 ≤ n = ltb-false n 10 e in
        let small : n / 10 < places = omega arith in
        let r = ih small in
        let m = more_digits n (spelled places (n / 10)) big r.0 (r.1 (omega arith)) in
        (m.0, λ p. m.1)

pub decimal_reads : (n : ℕ) → Decimal n (decimal n)
decimal_reads n = (in_decimal (suc n) n (omega arith)).0
