-- The walk over the keyboards, going round: none has a wish, or the i-th is the first that has one; and what a run of an iterator says of its items.
use Prim.Native.Nat.{ℕ, zero, suc, ◌≤◌, ◌<◌}
use native.Mathlib.Omega.{arith}
use mathlib.Core.Path.{◌≡◌, refl, subst, ◌∙◌}
use mathlib.Core.List.{List, [], ◌∷◌}
use lib.ListN.{length}
use Rattle.std.specs.Prelude.{Option, None, Some, IfSome, IsSomeAnd, option_map}
use Rattle.std.specs.Fn.{iterate}
use Rattle.lists.proofs.Member.{none_some}
use Rattle.store.specs.declared.wish.Wish.{Wish}
use Rattle.console.specs.Wishes.{Wishes, keyboards, waiting_at, after, oldest_or, search}

module _ (ws : Wishes) where
  abbrev on : ℕ → ℕ
  on = after (keyboards ws)

  search_here : (n : ℕ) (q : ℕ) → 0 < length (waiting_at q ws) → search (suc n) ws q ≡ oldest_or (waiting_at q ws) q None
  search_here n q k = go (waiting_at q ws) k
    where
      go : (l : List Wish) → 0 < length l → oldest_or l q (search n ws (after (keyboards ws) q)) ≡ oldest_or l q None
      go [] k = absurd (omega arith)
      go (w ∷ l) k = refl

  walk_step : (n q : ℕ) → length (waiting_at q ws) ≤ 0 → search (suc n) ws q ≡ search n ws (on q)
  walk_step n q none = go (waiting_at q ws) none
    where
      go : (l : List Wish) → length l ≤ 0 → oldest_or l q (search n ws (on q)) ≡ search n ws (on q)
      go [] k = refl
      go (w ∷ l) k = absurd (omega arith)

  pub walk_none : (n q : ℕ) → ((k : ℕ) → k < n → length (waiting_at (iterate on k q) ws) ≤ 0) → search n ws q ≡ None
  walk_none zero q none = refl
  walk_none (suc n) q none = walk_step n q (none 0 (omega arith)) ∙ walk_none n (on q) (λ k h. none (suc k) (omega arith))

  pub walk_found : (n q i : ℕ) → i < n → 0 < length (waiting_at (iterate on i q) ws) → ((k : ℕ) → k < i → length (waiting_at (iterate on k q) ws) ≤ 0)
      → search n ws q ≡ oldest_or (waiting_at (iterate on i q) ws) (iterate on i q) None
  walk_found zero q i h some none = absurd (omega (arith, h))
  walk_found (suc n) q zero h some none = search_here n q some
  walk_found (suc n) q (suc i) h some none = walk_step n q (none 0 (omega arith)) ∙ walk_found n (on q) i (omega (arith, h)) some (λ k m. none (suc k) (omega arith))

-- an item that is there, is y, and has a property
pub item_has : (o : Option ℕ) (y v : ℕ) (P Q : ℕ → Type 0) → option_map (λ z. z) o ≡ Some v → IfSome o (λ x. x ≡ y) → ((x : ℕ) → P x → Q x) → IfSome o P → Q y
item_has None y v P Q e is so p = absurd (none_some e)
item_has (Some x) y v P Q e is so p = subst Q is (so x p)

pub some_has : (o : Option ℕ) (y : ℕ) (P Q : ℕ → Type 0) → IfSome o (λ x. x ≡ y) → ((x : ℕ) → P x → Q x) → IsSomeAnd o P → Q y
some_has None y P Q is so p = absurd p
some_has (Some x) y P Q is so p = subst Q is (so x p)

-- a run of which no item is the last
pub endless : (o : Option ℕ) (P : ℕ → Type 0) → IsSomeAnd o P → ((x : ℕ) → P x → ⊥) → ⊥
endless None P p not = p
endless (Some x) P p not = not x p
