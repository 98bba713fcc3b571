-- Calls of a closure one after the other: each is given a position, and answers the position where what it played ends.
use Rattle.std.specs.Prelude.{ℕ, zero, suc, ◌≡◌, ◌<◌, ◌≤◌, Option, Some, None}

-- n calls from the position `at` on, each from where the one before it ends. The answer is the end of the last, or none where one ends past an
-- input of len bytes: no call is made after it. `step f at end g` says that the call at `at` may answer `end`, and leaves g of f.
unfoldable pub Played : {F : Type 0} → (F → ℕ → ℕ → F → Type 0) → ℕ → ℕ → F → ℕ → Option ℕ → Type 0
Played step len zero f at r = r ≡ Some at
Played {F} step len (suc n) f at r =
    (end : ℕ) × (g : F) × step f at end g × (len < end → r ≡ None) × (end ≤ len → Played step len n g end r)
