-- A field of 2 k bytes is its low half and its high half.
use Prim.Native.Nat.{ℕ, zero, suc, ◌+◌, ◌*◌, ◌^◌, ◌≤◌, ◌<◌, min}
use native.Mathlib.Nat.{mul_assoc, zero-add, suc-add, add-zero, pow-suc, min-eq_left, min-eq_right, le_of_lt}
use native.Mathlib.Omega.{arith}
use mathlib.Core.Path.{◌≡◌, refl, sym, ap, ◌∙◌}
use mathlib.Core.Bool.{Bool, true, false}
use mathlib.Core.List.{List}
use borrow.Author.Tests.{leb-true, leb-false}
use lib.Dec.{leb}
use lib.ListN.{length, get_or, get_or-eq_default}
use Rattle.codec.specs.Field.{little}

pub one : (s : List ℕ) (at : ℕ) → little 1 s at ≡ get_or s at 0
unfolding little
one s at = omega arith

pub past : (n : ℕ) (s : List ℕ) (at : ℕ) → length s ≤ at → little n s at ≡ 0
unfolding little
past zero s at h = refl
past (suc n) s at h =
    let further : length s ≤ at + 1 = omega arith in
    omega (arith, get_or-eq_default s 0 h, past n s (at + 1) further)

split : (m n : ℕ) (s : List ℕ) (at : ℕ) → little (m + n) s at ≡ little m s at + little n s (at + m) * 256 ^ m
unfolding little
split zero n s at =
    ap (λ (k : ℕ). little k s at) (zero-add n) ∙ omega (arith, ap (little n s) (add-zero at))
split (suc m) n s at =
    let high = little n s (at + suc m) in
    let next : at + 1 + m ≡ at + suc m = omega arith in
    let scaled : high * 256 ^ suc m ≡ high * 256 ^ m * 256 = ap (◌*◌ high) (pow-suc 256 m) ∙ sym (mul_assoc high (256 ^ m) 256) in
    ap (λ (k : ℕ). little k s at) (suc-add m n)
    ∙ omega (arith, split m n s (at + 1), ap (λ (p : ℕ). little n s p * 256 ^ m) next, scaled)

-- the high half, where its position stops at the last of all
pub stopped : (n : ℕ) (s : List ℕ) (at most : ℕ) → length s ≤ most → little n s (min at most) ≡ little n s at
stopped n s at most h = go (leb at most) refl
  where
    go : (b : Bool) → leb at most ≡ b → little n s (min at most) ≡ little n s at
    go true e = ap (little n s) (min-eq_left (leb-true at most e))
    go false e =
        let over : most < at = leb-false at most e in
        let far : length s ≤ at = omega arith in
        ap (little n s) (min-eq_right (le_of_lt over)) ∙ past n s most h ∙ sym (past n s at far)

pub halves : (k : ℕ) (s : List ℕ) (at most low high next : ℕ) → length s ≤ most → low ≡ little k s at → next ≡ min (at + k) most → high ≡ little k s next → low + high * 256 ^ k ≡ little (k + k) s at
halves k s at most low high next h l p u =
    let upper : high ≡ little k s (at + k) = u ∙ ap (little k s) p ∙ stopped k s (at + k) most h in
    rw (l, upper) (sym (split k k s at))
