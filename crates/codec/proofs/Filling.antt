-- The loop that fills a list of n fields from the front: a turn of it, and where it ends.
use Prim.Native.Nat.{ℕ, suc, ◌+◌, ◌-◌, ◌≤◌, ◌<◌}
use native.Mathlib.Omega.{arith}
use native.Mathlib.Numerals.{add-one}
use mathlib.Core.Path.{◌≡◌, sym, ap, ◌∙◌}
use mathlib.Core.List.{List, ◌++◌, append-nil}
use lib.ListN.{length, take, set}
use lib.Seq.{take-suc-set, take_all, append_snoc}
use Rattle.codec.specs.Field.{moved, little, fields}

module _ {A : Type 0} (f : ℕ → A) (n : ℕ) (s : List ℕ) where
  -- what is filled, and what is still to come
  abbrev pub partly : List A → ℕ → ℕ → List A
  partly out from i = take i out ++ fields f (n - i) s from

  pub turned : (out : List A) (from i next : ℕ) (x : A) → i < length out → length out ≡ n → x ≡ f (little 4 s from) → next ≡ moved from 4 → partly (set out i x) next (i + 1) ≡ partly out from i
  unfolding fields
  turned out from i next x h l e p =
      let here : n - i ≡ suc (n - suc i) = omega arith in
      rw (add-one, p, take-suc-set out i x h, append_snoc, e) (sym (ap (λ (k : ℕ). take i out ++ fields f k s from) here))

  pub ended : (out : List A) (from i : ℕ) → length out ≤ i → length out ≡ n → partly out from i ≡ out
  unfolding fields
  ended out from i h l =
      let none : n - i ≡ 0 = omega arith in
      ap (λ (k : ℕ). take i out ++ fields f k s from) none ∙ append-nil (take i out) ∙ take_all i out h
