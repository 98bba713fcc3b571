-- `level::sqrt_bits` meets its contract.
use Prim.Native.Nat.{ℕ}
use native.Mathlib.Nat.{zero-add}
use native.Mathlib.Omega.{arith}
use mathlib.Core.Path.{sym, ap, ◌∙◌}
use mathlib.Core.Bool.{false}
use lib.Ieee.{binary64, of_bits}
use Rattle.level.specs.Root as spec
use Rattle.level.proofs.Signs.{low, mid}
use Rattle.level.proofs.sqrt_bits.Goals as goal

pub returns-then-x-eq0 : goal.returns-then-x-eq0
returns-then-x-eq0 c =
    let b = c.args.b in
    (c.root_bits.ensures.0, c.root_bits.ensures.1 ∙ sym (low false b c.requires.0 c.if-x-eq0.true) ∙ ap (λ (x : ℕ). spec.sqrt (of_bits binary64 x)) (zero-add b))

pub returns : goal.returns
returns c =
    let b = c.args.b in
    (c.root_bits-2.ensures.0, c.root_bits-2.ensures.1 ∙ sym (mid false b (omega arith) (omega arith)) ∙ ap (λ (x : ℕ). spec.sqrt (of_bits binary64 x)) (zero-add b))
