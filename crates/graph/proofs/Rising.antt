-- Ids that rise: whether one of them is x, by halving.
use Prim.Native.Nat.{ℕ, suc, ◌≤◌, ◌<◌}
use native.Mathlib.Omega.{arith}
use mathlib.Core.Path.{◌≡◌, refl, sym, ap, ◌∙◌}
use mathlib.Core.List.{List, [], ◌∷◌, map}
use mathlib.Core.Bool.{Bool, true, false, true≢false}
use lib.Dec.{eqb, ltb}
use lib.ListN.{length, get_or}
use borrow.Author.Tests.{eqb-true, eq-eqb}
use Rattle.std.specs.Prelude.{is_some, filter}
use Rattle.std.specs.List.{position}
use Rattle.std.specs.List.Sorted.{IsPartitionPoint}
use Rattle.lists.specs.Rising.{RisesFrom}
use Rattle.lists.proofs.Halve.{hit, miss, past}
use Rattle.lists.proofs.Lone.{some_row}
use Rattle.lists.proofs.Rising.{rises_filter}
use Rattle.node.specs.declared.record.Node.{Node}
use Rattle.edges.specs.Wiring.{listed}
use Rattle.graph.specs.Sound.{id_of, itself}
use Rattle.graph.specs.Change.{ids_of}

module _ (ids : List ℕ) (x i : ℕ) (r : RisesFrom itself 0 ids) (b : i ≤ length ids) (p : IsPartitionPoint (λ y. ltb (itself y) x ≡ true) (λ y. ltb (itself y) x ≡ false) ids i) where
  abbrev q : ℕ → Bool
  q y = eqb y x

  pub among_at : (d : ℕ) → i < length ids → eqb (get_or ids i d) x ≡ listed ids x
  among_at d h = go (eqb (get_or ids i d) x) refl
    where
      go : (t : Bool) → eqb (get_or ids i d) x ≡ t → t ≡ listed ids x
      go true e = sym (ap is_some (hit itself x ids i r b p d h (eqb-true _ _ e))) ∙ some_row q ids
      go false e = sym (ap is_some (miss itself x ids i r b p d (λ m z. true≢false (sym (eq-eqb _ _ z) ∙ e)))) ∙ some_row q ids

  pub among_past : length ids ≤ i → false ≡ listed ids x
  among_past h = sym (ap is_some (past itself x ids i r b p h)) ∙ some_row q ids

rises_numbers : (a : ℕ) (ns : List Node) → RisesFrom id_of a ns → RisesFrom itself a (map id_of ns)
rises_numbers a [] r = tt
rises_numbers a (n ∷ ns) r = (r.0, rises_numbers (suc (id_of n)) ns r.1)

pub rises_ids : (goes : Node → Bool) (ns : List Node) → RisesFrom id_of 0 ns → RisesFrom itself 0 (ids_of goes ns)
rises_ids goes ns r = rises_numbers 0 (filter goes ns) (rises_filter id_of goes 0 ns r)
