-- The laws of one row more behind those of a table, for any row type.
use Prim.Native.Nat.{ℕ, ◌≤◌, ◌<◌}
use mathlib.Core.Path.{◌≡◌, ap}
use mathlib.Core.List.{List, [], ◌∷◌, ◌++◌}
use mathlib.Core.Bool.{cond}
use lib.ListN.{length}
use borrow.Author.Tests.{lt-ltb, le-ltb}
use Rattle.edges.specs.Wiring.{pushed}

module _ {A : Type 0} where
  -- one row more, if there is a place
  pub pushed_on : (limit : ℕ) (l : List A) (x : A) → length l < limit → pushed limit l x ≡ l ++ (x ∷ [])
  pushed_on limit l x h = ap (λ b. cond b (l ++ (x ∷ [])) l) (lt-ltb _ _ h)

  pub pushed_off : (limit : ℕ) (l : List A) (x : A) → limit ≤ length l → pushed limit l x ≡ l
  pushed_off limit l x h = ap (λ b. cond b (l ++ (x ∷ [])) l) (le-ltb _ _ h)
