-- What crate `bus` answers of sizes and ranges, and the output as it leaves it, by the refusals of this crate.
use mathlib.Core.Path.{◌≡◌, refl, sym, ap, ◌∙◌}
use mathlib.Core.Bool.{Bool, true, false, cond}
use mathlib.Core.List.{List}
use lib.IntN.{ℤ}
use lib.ListN.{length}
use native.Mathlib.Omega.{arith}
use Prim.Native.Nat.{ℕ}
use Rattle.std.specs.Prelude.{Result, Ok, Err}
use Rattle.node.specs.declared.refusal.Refusal.{Refusal}
use Rattle.bus.specs.Answer.{answered, left}
use Rattle.bus.specs.Block.{block_of}
use Rattle.bus.specs.Sum.{sum_fits}
use Rattle.bus.proofs.Sums.{sum_fits_says, few_inputs, sum_channels}
use Rattle.whole_bus.specs.Sample.{is_sample}
use Rattle.whole_bus.specs.Block.{every, refusal_of, answer_of, left_by, sum_of, sum_output}
use Rattle.whole_bus.specs.Raised.{Fitting, Summed}

pub answer_is : (fits in_range : Bool) → answered fits in_range ≡ answer_of (refusal_of fits in_range)
answer_is true true = refl
answer_is true false = refl
answer_is false r = refl

pub left_is : (fits in_range : Bool) (new old : List ℤ) → left fits in_range new old ≡ left_by (refusal_of fits in_range) new old
left_is true true new old = refl
left_is true false new old = refl
left_is false r new old = refl

-- ---- where it is known whether the sizes fit and all are in range

left_known : (fits in_range f r : Bool) (new old : List ℤ) → fits ≡ f → in_range ≡ r → left_by (refusal_of f r) new old ≡ left_by (refusal_of fits in_range) new old
left_known fits in_range f r new old e g =
    sym (ap (λ (b : Bool). left_by (refusal_of b in_range) new old) e ∙ ap (λ (b : Bool). left_by (refusal_of f b) new old) g)

ok_err : {x : Unit {0}} {e : Refusal} → ◌≡◌ {A = Result (Unit {0}) Refusal} (Ok x) (Err e) → ⊥
ok_err {x} {e} p = let z : ◌≡◌ {A = ℕ} 0 1 = cc in omega arith

-- nothing is refused
pub done : (fits in_range : Bool) → answered fits in_range ≡ Ok tt → (fits ≡ true) × (in_range ≡ true)
done true true e = (refl, refl)
done true false e = absurd (ok_err (sym e))
done false r e = absurd (ok_err (sym e))

-- ---- a sum

module _ (inputs : List ℤ) (counts : List ℕ) (size outs : ℕ) (out : List ℤ) (fits : sum_fits (length inputs) counts size (length out) outs ≡ true) where
  pub fitting : Fitting inputs counts size out outs
  fitting =
      let fit = sum_fits_says _ _ _ _ _ fits in
      record { counted = fit.0; whole = fit.1; few = few_inputs _ _ _ _ _ fits; one_or_two = sum_channels _ _ _ _ _ fits; long = fit.2 }

  -- r says whether all are samples
  pub sum_left : (after : List ℤ) (r : Bool) → Summed inputs counts size outs out after r → after ≡ sum_output inputs counts size out outs
  sum_left after r done = go r done.tells done.leaves
    where
      whole : List ℤ
      whole = block_of outs size (sum_of size inputs counts)

      go : (r : Bool) → r ≡ every is_sample inputs → after ≡ cond r whole out → after ≡ sum_output inputs counts size out outs
      go true e l = l ∙ left_known _ _ true true whole out fits (sym e)
      go false e l = l ∙ left_known _ _ true false whole out fits (sym e)
