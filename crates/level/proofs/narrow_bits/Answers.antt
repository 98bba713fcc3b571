-- `level::narrow_bits` meets its contract: each way is a law of `proofs.Narrowing.antt`.
use Prim.Native.Nat.{ℕ, ◌+◌, ◌-◌, ◌*◌, ◌/◌, ◌^◌, ◌≤◌, ◌<◌, min}
use native.Mathlib.Omega.{arith}
use native.Mathlib.Nat.{le_of_lt, min-eq_left, min-eq_right}
use mathlib.Core.Path.{◌≡◌, refl, ◌∙◌}
use mathlib.Core.Bool.{Bool, true, false}
use lib.Dec.{lit≤, ltb}
use borrow.Author.Tests.{ltb-true, ltb-false}
use Rattle.level.proofs.Narrowing.{Right, at_top, at_zero, at_low, at_mid, at_over}
use Rattle.level.proofs.narrow_bits.Goals as goal

pub returns-then-x-eq2047 : goal.returns-then-x-eq2047
returns-then-x-eq2047 c = (lit≤ tt, at_top c.args.a c.requires c.if-x-eq2047.true)

pub returns-then-x-lt873 : goal.returns-then-x-lt873
returns-then-x-lt873 c = (lit≤ tt, at_zero c.args.a c.if-x-lt873.true)

pub returns-then-x-lt897 : goal.returns-then-x-lt897
returns-then-x-lt897 c = at_low c.args.a (omega arith) (omega arith) c.nearest.result c.nearest.ensures

-- a number and a cap on it
capped : (P : ℕ → Type 0) (b m r : ℕ) → r ≡ min b m → (b < m → P b) → (m ≤ b → P m) → (r ≤ m) × P r
capped P b m r e f g = go (ltb b m) refl
  where
    go : (t : Bool) → ltb b m ≡ t → (r ≤ m) × P r
    go true t =
        let h : b < m = ltb-true b m t in
        let s : r ≡ b = e ∙ min-eq_left (le_of_lt h) in
        rw s (le_of_lt h, f h)
    go false t =
        let h : m ≤ b = ltb-false b m t in
        let s : r ≡ m = e ∙ min-eq_right h in
        rw s (omega arith, g h)

pub returns : goal.returns
returns c =
    let a = c.args.a in
    let b = (a / 2 ^ 52 - 897) * 0x80_0000 + c.nearest-2.result in
    capped (Right a) b 0x7f80_0000 c.min.result c.min.ensures
    (at_mid a (omega arith) (omega arith) c.nearest-2.result c.nearest-2.ensures)
    (at_over a (omega arith) (omega arith) c.nearest-2.result c.nearest-2.ensures)
