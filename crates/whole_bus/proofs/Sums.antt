-- The sum of a bus in whole numbers: after k inputs no sum is further from 0 than k times 2^23, so that 64 of them fit 32 bits, and none wraps.
use Prim.Native.Nat.{ℕ, ◌+◌, ◌*◌, ◌%◌, ◌≤◌, ◌<◌}
use native.Mathlib.Omega.{arith}
use mathlib.Core.Path.{◌≡◌, refl, sym, ap, ◌∙◌, subst}
use mathlib.Core.Bool.{true}
use mathlib.Core.List.{List, [], ◌∷◌}
use Rattle.std.specs.Int.{int_wrapping_add}
use Rattle.std.proofs.lemmas.Int.{wrapping_add_is, int_wrap_fits}
use lib.Dec.{T}
use lib.IntN.{ℤ, pos, ◌+ℤ◌}
use lib.ListN.{length, get_or, drop}
use mir.Syntax.{w32}
use Rattle.bus.specs.Block.{each, block_of, sample_at}
use Rattle.bus.specs.Sum.{most_inputs, summed_by}
use Rattle.bus.proofs.Blocks.{length_block, block_at, block_each}
use Rattle.whole_bus.specs.Sample.{is_sample, half, clipped}
use Rattle.whole_bus.specs.Block.{every, sum_of}
use Rattle.whole_bus.specs.Raised.{Fitting, Summed}
use Rattle.whole_bus.proofs.Whole.{over, under, add_within}
use Rattle.whole_bus.proofs.Rounding.{sample_is}
use Rattle.whole_bus.proofs.Machine.{fits_32}
use Rattle.whole_bus.proofs.Ranges.{every_at, every_drop}

-- no further from 0 than k times 2^23
abbrev pub Within : ℕ → ℤ → Type 0
Within k z = (over z ≤ k * half) × (under z ≤ k * half)

-- two samples' worth that fit are added without wrapping
pub add_exact : (k : ℕ) (a x : ℤ) → Within k a → k < 64 → T (is_sample x) → (int_wrapping_add w32 a x ≡ a +ℤ x) × Within (k + 1) (a +ℤ x)
add_exact k a x w h t =
    let s = sample_is x t in
    let m = add_within a x in
    let a_fits = fits_32 a (omega arith) (omega arith) in
    let x_fits = fits_32 x (omega arith) (omega arith) in
    let fits = fits_32 (a +ℤ x) (omega arith) (omega arith) in
    (wrapping_add_is w32 a x a_fits x_fits ∙ int_wrap_fits w32 (a +ℤ x) fits, (omega arith, omega arith))

-- so that the sum of up to 64 inputs is exact
pub wrapped_is : (size c i k : ℕ) (a : ℤ) (xs : List ℤ) (counts : List ℕ) → Within k a → k + length counts ≤ most_inputs → T (every is_sample xs)
    → summed_by (int_wrapping_add w32) (pos 0) a size c i xs counts ≡ summed_by ◌+ℤ◌ (pos 0) a size c i xs counts
unfolding summed_by
wrapped_is size c i k a xs [] w h t = refl
wrapped_is size c i k a xs (n ∷ ns) w h t =
    let x = sample_at (pos 0) size xs (c % n) i in
    let few : k < 64 = omega arith in
    let left : k + 1 + length ns ≤ most_inputs = omega arith in
    let more = add_exact k a x w few (every_at is_sample xs (pos 0) tt t (c % n * size + i)) in
    ap (λ (b : ℤ). summed_by (int_wrapping_add w32) (pos 0) b size c i (drop (n * size) xs) ns) more.0
    ∙ wrapped_is size c i (k + 1) (a +ℤ x) (drop (n * size) xs) ns more.1 left (every_drop is_sample (n * size) xs t)

-- and after all inputs no sum is further from 0 than their number times 2^23
pub summed_within : (size c i k : ℕ) (a : ℤ) (xs : List ℤ) (counts : List ℕ) → Within k a → k + length counts ≤ most_inputs → T (every is_sample xs)
    → Within (k + length counts) (summed_by ◌+ℤ◌ (pos 0) a size c i xs counts)
unfolding summed_by
summed_within size c i k a xs [] w h t = (omega arith, omega arith)
summed_within size c i k a xs (n ∷ ns) w h t =
    let x = sample_at (pos 0) size xs (c % n) i in
    let few : k < 64 = omega arith in
    let left : k + 1 + length ns ≤ most_inputs = omega arith in
    let more = add_exact k a x w few (every_at is_sample xs (pos 0) tt t (c % n * size + i)) in
    let within = summed_within size c i (k + 1) (a +ℤ x) (drop (n * size) xs) ns more.1 left (every_drop is_sample (n * size) xs t) in
    (omega arith, omega arith)

-- the sums, clipped one by one, are the bus's sum
pub clipped_block : (inputs : List ℤ) (counts : List ℕ) (size outs : ℕ) (before sums after : List ℤ) → Fitting inputs counts size before outs → true ≡ every is_sample inputs
    → sums ≡ block_of outs size (λ c i. summed_by (int_wrapping_add w32) (pos 0) (pos 0) size c i inputs counts)
    → after ≡ each (length sums) (λ j. clipped (get_or sums j (pos 0))) → Summed inputs counts size outs before after true
unfolding over under
clipped_block inputs counts size outs before sums after fit t s e =
    let f : ℕ → ℕ → ℤ = λ c i. summed_by (int_wrapping_add w32) (pos 0) (pos 0) size c i inputs counts in
    let few : 0 + length counts ≤ most_inputs = let h = fit.few in omega arith in
    record {
      tells = t;
      leaves =
          e
          ∙ ap (λ (l : List ℤ). each (length l) (λ j. clipped (get_or l j (pos 0)))) s
          ∙ ap (λ (n : ℕ). each n (λ j. clipped (get_or (block_of outs size f) j (pos 0)))) (length_block outs size f)
          ∙ sym (block_each outs size (sum_of size inputs counts) _
          (λ c i p q. ap clipped (sym (wrapped_is size c i 0 (pos 0) inputs counts (omega arith, omega arith) few (subst T t tt)) ∙ sym (block_at outs size f c i (pos 0) p q))));
    }
