-- The table has room for 256 events: a queue of so many is full.
use Prim.Native.Nat.{ℕ, ◌/◌, min}
use native.Mathlib.Omega.{arith}
use mathlib.Core.Path.{◌≡◌, refl, ap, ◌∙◌}
use mathlib.Core.Bool.{Bool, true, false}
use mathlib.Core.List.{List}
use lib.Dec.{leb}
use lib.ListN.{length, take, length-take}
use borrow.Author.Tests.{leb-true, leb-false, le-leb, lt-leb}
use Rattle.scheduler.specs.Queue.{full}
use Rattle.words.proofs.Rows.{rows_long}
use Rattle.event_table.specs.Rows.{event_of, events_in}

module _ (c : List ℕ) (long : length c ≡ 3840) where
  pub room : length (events_in c) ≡ 256
  room = rows_long 15 event_of c ∙ ap (λ k. k / 15) long

  pub full_is : (count : ℕ) → full (take count (events_in c)) ≡ leb 256 count
  full_is count = ap (leb 256) (length-take count (events_in c) ∙ ap (min count) room) ∙ go (leb 256 count) refl
    where
      go : (b : Bool) → leb 256 count ≡ b → leb 256 (min count 256) ≡ b
      go true e = le-leb 256 (min count 256) (omega (arith, leb-true 256 count e))
      go false e = lt-leb 256 (min count 256) (omega (arith, leb-false 256 count e))
