-- `level::sqrt` meets its contract.
use Prim.Native.Nat.{◌-◌, ◌%◌, ◌^◌, ◌≤◌, ◌<◌}
use native.Mathlib.Nat.{add-sub_of_le}
use native.Mathlib.Omega.{arith}
use mathlib.Core.Path.{sym, ap, ◌∙◌, subst}
use lib.Dec.{T}
use lib.Ieee.{binary64, fits, of_bits, to_bits}
use lib.Ieee.Bits.{of_bits-to_bits, to_bits-lt}
use Rattle.level.specs.Root as spec
use Rattle.level.proofs.Nan.{nan64, is_nan_lem, no_nan, bits_le, no_nan_bits}
use Rattle.level.proofs.Signs.{sqrt_nan, negative, own_zero, own_inf, own_minus_zero}
use Rattle.level.proofs.sqrt.Goals as goal
use Rattle.level.proofs.sqrt.Goals.{Else-is_nan, Start, then-b-eq-INFINITY64-via-then-b-eq-INFINITY64, then-b-eq-INFINITY64-via-else-b-eq-INFINITY64+then-b}

-- The next two are of this function's own start and test, whose types no other function has: what functions share of them is
-- `no_nan` and `bits_le` of Nan.
held : (c : Start) → T (fits binary64 c.args.x)
held c = subst T (sym c.well_formed.0.1) tt

-- the bits without the sign, after the test for a NaN
below : (c : Else-is_nan) → to_bits binary64 c.args.x % 2 ^ 63 ≤ 0x7ff0_0000_0000_0000
below c = bits_le binary64 c.args.x (held c.before.before) (no_nan c.args.x (sym c.is_nan.ensures.value ∙ c.if-is_nan.false))

pub returns-then-is_nan : goal.returns-then-is_nan
returns-then-is_nan c = nan64 ∙ sym (ap spec.sqrt (is_nan_lem c.args.x (sym c.is_nan.ensures.value ∙ c.if-is_nan.true)) ∙ sqrt_nan)

pub returns-then-b-eq0 : goal.returns-then-b-eq0
returns-then-b-eq0 c = own_zero c.args.x (held (goal.at.returns-then-b-eq0 c).Start) c.if-b-eq0.true

pub float_from_bits-result : goal.float_from_bits-result
float_from_bits-result c = no_nan_bits binary64 c.sqrt_bits.result (omega arith)

pub returns-then-b-lt-INFINITY64 : goal.returns-then-b-lt-INFINITY64
returns-then-b-lt-INFINITY64 c =
    c.sqrt_bits.ensures.1 ∙ ap spec.sqrt (of_bits-to_bits binary64 c.args.x (held (goal.at.returns-then-b-lt-INFINITY64 c).Start))

pub returns-then-b-eq-INFINITY64 : goal.returns-then-b-eq-INFINITY64
returns-then-b-eq-INFINITY64 c = let x = c.args.x in
    let h = held (goal.at.returns-then-b-eq-INFINITY64 c).Start in
    elim c.then-b-eq-INFINITY64.branch [
      | then-b-eq-INFINITY64-via-then-b-eq-INFINITY64 w ↦ own_inf x h w.if-b-eq-INFINITY64.true
      | then-b-eq-INFINITY64-via-else-b-eq-INFINITY64+then-b w ↦ own_minus_zero x h w.if-b.true
    ]

pub returns : goal.returns
returns c =
    let b = to_bits binary64 c.args.x in
    let l = below (goal.at.returns c).Else-is_nan in
    let u = to_bits-lt binary64 c.args.x (held (goal.at.returns c).Start) in
    let o : 2 ^ 63 < b = omega arith in
    nan64 ∙ sym (ap spec.sqrt (sym (of_bits-to_bits binary64 c.args.x (held (goal.at.returns c).Start)) ∙ ap (of_bits binary64) (sym (add-sub_of_le (omega arith)))) ∙ negative (b - 2 ^ 63) (omega arith) (omega arith))
