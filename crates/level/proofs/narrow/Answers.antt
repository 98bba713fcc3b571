-- `level::narrow` meets its contract.
use Prim.Native.Nat.{◌+◌, ◌%◌, ◌^◌, ◌≤◌}
use native.Mathlib.Nat.{zero-add, add-sub_of_le}
use native.Mathlib.Omega.{arith}
use mathlib.Core.Path.{sym, ap, ◌∙◌, subst}
use mathlib.Core.Bool.{true, false}
use lib.Dec.{T}
use lib.Ieee.{binary32, binary64, of_bits, to_bits, fits}
use lib.Ieee.Bits.{of_bits-to_bits, to_bits-lt}
use Rattle.level.specs.Narrow as spec
use Rattle.level.proofs.Nan.{nan32, is_nan_lem, no_nan, bits_le, no_nan_bits}
use Rattle.level.proofs.Narrowing.{narrow_nan}
use Rattle.level.proofs.narrow.Goals as goal
use Rattle.level.proofs.narrow.Goals.{Else-is_nan, Start}

-- The next two are of this function's own start and test, whose types no other function has: what functions share of them is
-- `no_nan` and `bits_le` of Nan.
held : (c : Start) → T (fits binary64 c.args.x)
held c = subst T (sym c.well_formed.0.1) tt

-- the bits without the sign, after the test for a NaN
below : (c : Else-is_nan) → to_bits binary64 c.args.x % 2 ^ 63 ≤ 0x7ff0_0000_0000_0000
below c = bits_le binary64 c.args.x (held c.before.before) (no_nan c.args.x (sym c.is_nan.ensures.value ∙ c.if-is_nan.false))

pub returns-then-is_nan : goal.returns-then-is_nan
returns-then-is_nan c = nan32 ∙ sym (ap spec.narrow (is_nan_lem c.args.x (sym c.is_nan.ensures.value ∙ c.if-is_nan.true)) ∙ narrow_nan)

pub narrow_bits-requires : goal.narrow_bits-requires
narrow_bits-requires c = omega (arith, below (goal.at.narrow_bits-requires c).Else-is_nan)

pub float_from_bits-result : goal.float_from_bits-result
float_from_bits-result c = no_nan_bits binary32 c.narrow_bits.result (omega arith)

pub returns-then-b-lt-SIGN64 : goal.returns-then-b-lt-SIGN64
returns-then-b-lt-SIGN64 c =
    let x = c.args.x in
    ap (of_bits binary32) (sym (zero-add c.narrow_bits.result)) ∙ c.narrow_bits.ensures.1 false
    ∙ ap spec.narrow (ap (of_bits binary64) (zero-add (to_bits binary64 x)) ∙ of_bits-to_bits binary64 x (held (goal.at.returns-then-b-lt-SIGN64 c).Start))

pub narrow_bits-requires-2 : goal.narrow_bits-requires-2
narrow_bits-requires-2 c = omega (arith, below (goal.at.narrow_bits-requires-2 c).Else-is_nan, to_bits-lt binary64 c.args.x (held (goal.at.narrow_bits-requires-2 c).Start))

pub float_from_bits-result-2 : goal.float_from_bits-result-2
float_from_bits-result-2 c = no_nan_bits binary32 (2 ^ 31 + c.narrow_bits-2.result) (omega arith)

pub returns : goal.returns
returns c =
    let x = c.args.x in
    c.narrow_bits-2.ensures.1 true ∙ ap spec.narrow (ap (of_bits binary64) (add-sub_of_le c.if-b-lt-SIGN64.false) ∙ of_bits-to_bits binary64 x (held (goal.at.returns c).Start))
