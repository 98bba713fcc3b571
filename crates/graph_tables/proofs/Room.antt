-- How many rows of a table count: a count above its room is the room.
use Prim.Native.Nat.{ℕ, ◌/◌, min}
use native.Mathlib.Omega.{arith}
use mathlib.Core.Path.{◌≡◌}
use mathlib.Core.List.{List}
use lib.ListN.{length}

module _ (t : List ℕ) (count n : ℕ) where
  pub nodes_counted : length t ≡ 11264 → n ≡ min count 512 → n ≡ min count (length t / 22)
  nodes_counted long e = omega arith

  pub edges_counted : length t ≡ 3072 → n ≡ min count 1024 → n ≡ min count (length t / 3)
  edges_counted long e = omega arith
