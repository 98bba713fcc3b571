-- A turn of the loop over calls: one call, and then those still to come.
use Prim.Native.Nat.{ℕ, suc, ◌+◌, ◌-◌, ◌≤◌, ◌<◌}
use native.Mathlib.Omega.{arith}
use mathlib.Core.Path.{◌≡◌, refl, subst}
use Rattle.std.specs.Prelude.{Option, Some, None}
use Rattle.codec.specs.Calls.{Played}

module _ {F : Type 0} (step : F → ℕ → ℕ → F → Type 0) (len : ℕ) where
  pub turned : (n i : ℕ) (f : F) (at end : ℕ) (g : F) (r : Option ℕ) → i < n → step f at end g → (len < end → r ≡ None) → (end ≤ len → Played step len (n - (i + 1)) g end r) → Played step len (n - i) f at r
  unfolding Played
  turned n i f at end g r h met past on =
      let here : suc (n - (i + 1)) ≡ n - i = omega arith in
      subst (λ (k : ℕ). Played step len k f at r) here (end, g, met, past, on)

  -- where no call is to come, the answer is the position
  pub ended : (n i : ℕ) (f : F) (at : ℕ) → n ≤ i → Played step len (n - i) f at (Some at)
  unfolding Played
  ended n i f at h =
      let none : 0 ≡ n - i = omega arith in
      subst (λ (k : ℕ). Played step len k f at (Some at)) none refl
