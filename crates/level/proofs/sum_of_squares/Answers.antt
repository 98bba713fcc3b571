-- `level::sum_of_squares` meets its contract. The loop's invariant: the sum so far with the squares that are left is the sum of all.
use Prim.Native.Nat.{ℕ, suc, ◌+◌, ◌≤◌, ◌<◌}
use native.Mathlib.Numerals.{add-one}
use native.Mathlib.Omega.{arith}
use mathlib.Core.Path.{◌≡◌, refl, sym, ap, ◌∙◌}
use mathlib.Core.List.{List}
use lib.ListN.{length, drop, get_or, drop_of_length-le}
use lib.Seq.{drop-cons}
use lib.Ieee.{Float, nan, binary64, add, mul, of_bits}
use Rattle.level.specs.Level.{plus_zero, squares}
use Rattle.level.proofs.sum_of_squares.Goals as goal

-- one sample more
more : (s : List Float) (sum x all : Float) (i : ℕ) → i < length s → x ≡ get_or s i nan → squares sum (drop i s) ≡ all → squares (add binary64 sum (mul binary64 x x)) (drop (i + 1) s) ≡ all
unfolding squares
more s sum x all i h e p =
    ap (λ (k : ℕ). squares (add binary64 sum (mul binary64 x x)) (drop k s)) (add-one i)
    ∙ ap (λ (y : Float). squares (add binary64 sum (mul binary64 y y)) (drop (suc i) s)) e
    ∙ sym (ap (squares sum) (drop-cons s i nan h)) ∙ p

-- none left
none : (s : List Float) (sum all : Float) (i : ℕ) → length s ≤ i → squares sum (drop i s) ≡ all → sum ≡ all
unfolding squares
none s sum all i h p = sym (ap (squares sum) (drop_of_length-le s h)) ∙ p

from_zero : (s : List Float) → squares (of_bits binary64 0) s ≡ squares plus_zero s
unfolding of_bits
from_zero s = refl

pub loop-sample-preserved : goal.loop-sample-preserved
loop-sample-preserved c =
    let l = c.loop-sample in
    let s = c.args.samples.now in
    more s l.sum c.from-x.result (squares plus_zero s) l.sample-index (omega arith) c.from-x.ensures l.invariant

pub returns : goal.returns
returns c =
    let l = c.loop-sample in
    none c.args.samples.now l.sum (squares plus_zero c.args.samples.now) l.sample-index c.loop-sample-test.false l.invariant
