-- A loop that copies rows, one after the other: the first i are copied.
use Prim.Native.Nat.{ℕ, ◌+◌, ◌≤◌, ◌<◌}
use native.Mathlib.Omega.{arith}
use mathlib.Core.Path.{◌≡◌, refl, sym, ap, ◌∙◌}
use mathlib.Core.List.{List, [], ◌∷◌, ◌++◌}
use lib.ListN.{length, take, get_or, set, length-set}
use lib.Seq.{take_all}
use Rattle.std.proofs.lemmas.List.{take_more, take_more_set}

pub record Copying {A : Type 0} (n : ℕ) (from to : List A) (i : ℕ) : Type 0 where
  pub low : i ≤ n
  pub long : length from ≡ n
  pub room : length to ≡ n
  pub front : take i to ≡ take i from

module _ {A : Type 0} (d : A) (n : ℕ) (from to : List A) where
  pub copy_start : length from ≡ n → length to ≡ n → Copying n from to 0
  copy_start h k = record { low = omega arith; long = h; room = k; front = refl }

  pub copy_more : (i : ℕ) (x : A) → i < n → x ≡ get_or from i d → Copying n from to i → Copying n from (set to i x) (i + 1)
  copy_more i x h e inv =
      let a : i < length to = omega (arith, inv.room) in
      let b : i < length from = omega (arith, inv.long) in
      record {
        low = omega arith;
        long = inv.long;
        room = length-set to i x ∙ inv.room;
        front = take_more_set to i x a ∙ ap (λ l. l ++ (x ∷ [])) inv.front ∙ ap (λ y. take i from ++ (y ∷ [])) e ∙ sym (take_more from i d b);
      }

  pub copy_done : (i : ℕ) → n ≤ i → Copying n from to i → to ≡ from
  copy_done i h inv =
      let a : length to ≤ i = omega (arith, inv.room) in
      let b : length from ≤ i = omega (arith, inv.long) in
      sym (take_all i to a) ∙ inv.front ∙ take_all i from b
