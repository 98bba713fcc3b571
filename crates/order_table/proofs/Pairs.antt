-- A walk over two lists at once, with the numbers of the pairs: what it has left of each, and how many that is.
use Rattle.std.proofs.Common.{ℕ, ◌+◌, ◌<◌, ◌≡◌, List, ◌∷◌, Bool, length, drop, ap, arith, Iter}
use Rattle.std.specs.Iterator.Adapters.{zip_first, zip_second, enumerate_source, enumerate_count}
use Rattle.std.specs.Slice.Iter.{iter_rest}
use Rattle.std.specs.declared.iter.Enumerate.{Enumerate}
use Rattle.std.specs.declared.iter.Zip.{Zip}
use Rattle.node.specs.declared.record.Edge.{Edge}
use Rattle.prepare.proofs.Ports.{Flags}

abbrev pub first : Enumerate (Zip (Iter ℕ) (Iter ℕ)) → List ℕ
first s = iter_rest (zip_first (enumerate_source s))

abbrev pub second : Enumerate (Zip (Iter ℕ) (Iter ℕ)) → List ℕ
second s = iter_rest (zip_second (enumerate_source s))

-- of m pairs
abbrev pub Left : ℕ → Enumerate (Zip (Iter ℕ) (Iter ℕ)) → Type 0
Left m s = (length (first s) ≡ length (second s)) × (enumerate_count s + length (second s) ≡ m)

-- a step gives the pair that is left first, and its number
module _ (m : ℕ) (s u : Enumerate (Zip (Iter ℕ) (Iter ℕ))) (f t i : ℕ) (left : Left m s) (one : first s ≡ f ∷ first u) (two : second s ≡ t ∷ second u) (number : i ≡ enumerate_count s) (next : enumerate_count u ≡ enumerate_count s + 1) where
  pub left_inside : i < m
  left_inside = omega (arith, left.1, ap length two, number)

  pub left_kept : Left m u
  left_kept = (omega (arith, left.0, ap length one, ap length two), omega (arith, left.1, ap length two, next))

  pub left_flags : (flags : List Bool) (n : ℕ) (es : List Edge) (e : Edge) (all : ℕ → ℕ → Bool) → drop i es ≡ e ∷ drop (i + 1) es → Flags flags n (first s) (second s) (drop (enumerate_count s) es) all
      → Flags flags n (f ∷ first u) (t ∷ second u) (e ∷ drop (enumerate_count u) es) all
  left_flags flags n es e all dr inv = rw (next, ← number) (rw (one, two, ← number, dr) at inv)
