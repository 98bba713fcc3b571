-- The ports of a row as a mask, bit p for port p. Nothing here has to be believed: it is how prepare holds which ports are fed.
use Rattle.std.specs.Prelude.{ℕ, min, ◌≡◌, List, [], ◌∷◌, ◌++◌, map, Bool, true, not, ◌&&◌}
use Rattle.rank.specs.Order.{upto}
use Rattle.prepare.specs.Required.{any, bit}

-- the flags of all ports of the rows, 64 to a row
unfoldable pub ports_in : List ℕ → List Bool
ports_in [] = []
ports_in (x ∷ l) = map (bit x) (upto 64) ++ ports_in l

-- one of the first ports is required and not in the mask
unfoldable pub mask_lacks : ℕ → ℕ → ℕ → Bool
mask_lacks mask ports required = any (λ p. bit required p && not (bit mask p)) (upto (min ports 64))

-- r has the ports of the mask, and p
pub record WithPort (mask p r : ℕ) : Type 0 where
  pub on : bit r p ≡ true
  pub others : (q : ℕ) → (q ≡ p → ⊥) → bit r q ≡ bit mask q
