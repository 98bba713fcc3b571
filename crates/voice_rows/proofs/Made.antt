-- An array made element by element, by a closure that only reads what it captured: what holds of each call holds of each element.
use Prim.Native.Nat.{ℕ, zero, suc, ◌+◌, ◌≤◌, ◌<◌}
use native.Mathlib.Omega.{arith}
use native.Mathlib.Decide.{ℕ_discrete}
use mathlib.Core.Path.{◌≡◌, sym, subst}
use mathlib.Core.List.{List}
use lib.ListN.{get_or}
use Rattle.std.specs.Array.{IsFromFnResultFrom}
use Rattle.std.specs.Fn.{Called, Mut}

module _ {F B : Type 0} (g : Mut F (ℕ × Unit {0}) B) (Inv : F → Type 0) (R : ℕ → B → Type 0)
    (step : (p q : F) (i : ℕ) (y : B) → Inv p → Called g p (i, tt) y q → Inv q × R i y) (ys : List B) where
  pub made_each : (n i : ℕ) (f : F) → Inv f → IsFromFnResultFrom g f ys i n → (k : ℕ) (d : B) → i ≤ k → k < i + n → R k (get_or ys k d)
  made_each zero i f inv all k d low high = absurd (omega arith)
  made_each (suc n) i f inv (q, y, is, called, rest) k d low high = go (step f q i y inv called) (ℕ_discrete k i) (λ now a b. made_each n (i + 1) q now rest k d a b)
    where
      go : Inv q × R i y → Dec (k ≡ i) → (Inv q → i + 1 ≤ k → k < i + 1 + n → R k (get_or ys k d)) → R k (get_or ys k d)
      go now (yes e) later = rw e (subst (R i) (sym (is.1 d)) now.1)
      go now (no e) later = later now.0 (omega arith) (omega arith)
