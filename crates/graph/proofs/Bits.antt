-- A mask has a bit at or past k exactly if it is 2 to the k or more.
use Prim.Native.Nat.{ℕ, ◌<◌, ◌≤◌, ◌*◌, ◌/◌, ◌^◌}
use native.Mathlib.Omega.{arith}
use native.Mathlib.Nat.{div-eq_of_lt, le-div_iff_mul-le, one-mul}
use mathlib.Core.Path.{◌≡◌, refl, sym, ap, subst}
use mathlib.Core.Bool.{Bool, true, false}
use lib.Dec.{leb, ltb}
use lib.Pow.{pow_pos, pow_mono}
use borrow.Author.Tests.{lt-ltb, leb-true, leb-false, lt-leb}

pub shifted : (k m : ℕ) → ltb 0 (m / 2 ^ k) ≡ leb (2 ^ k) m
shifted k m = go (leb (2 ^ k) m) refl
  where
    go : (b : Bool) → leb (2 ^ k) m ≡ b → ltb 0 (m / 2 ^ k) ≡ b
    go true e =
        let h : 1 * 2 ^ k ≤ m = subst (λ x. x ≤ m) (sym (one-mul (2 ^ k))) (leb-true _ _ e) in
        lt-ltb 0 (m / 2 ^ k) ((le-div_iff_mul-le (pow_pos k)).1 h)
    go false e = ap (ltb 0) (div-eq_of_lt {n = m} {m = 2 ^ k} (leb-false _ _ e))

-- no mask of 64 bits has a bit at or past 64
pub past_64 : (k m : ℕ) → m < 2 ^ 64 → 64 ≤ k → leb (2 ^ k) m ≡ false
past_64 k m h l = let bound : m < 2 ^ k = omega (arith, pow_mono l) in lt-leb _ _ bound
