-- The sum of a bus all of whose ports have as many channels as the bus: each port's samples are one block, and the block is added up place by place.
--     raised_bound   64 raised samples add up to at most 2^30, so that nothing wraps
--     exact_is       the exact sum is the sum of the raised samples less what they were raised by
--     even_long, even_block   how long the inputs are, and the clipped sums as one block
use Prim.Native.Nat.{ℕ, zero, suc, ◌+◌, ◌*◌, ◌%◌, ◌≤◌, ◌<◌}
use native.Mathlib.Nat.{suc-mul, zero-mul, mul_assoc, mod-eq_of_lt}
use native.Mathlib.Omega.{arith}
use mathlib.Core.Path.{◌≡◌, refl, sym, ap, ◌∙◌, subst}
use mathlib.Core.Bool.{Bool, true, false, cond}
use mathlib.Core.List.{List, [], ◌∷◌}
use lib.Dec.{T, ltb, eqb, eqb→eq}
use lib.IntN.{ℤ, pos, negsuc, ◌+ℤ◌, ◌-ℤ◌}
use lib.Ieee.Fits.{and_l, and_r}
use lib.ListN.{length, get_or, take, drop, length-take, get_or-eq_default}
use Prim.Native.Nat.{zero-le}
use borrow.Author.Tests.{lt-ltb, ltb-true, ltb-false}
use Rattle.bus.specs.Block.{each, block_of}
use Rattle.bus.proofs.Blocks.{length_each, each_at, each_same, block_each}
use Rattle.bus.specs.Sum.{most_inputs, channels, summed_by}
use Rattle.whole_bus.specs.Sample.{is_sample, half, full, clipped}
use Rattle.whole_bus.specs.Block.{every, exact_sum, sum_of}
use Rattle.whole_bus.specs.Raised.{above_lowest, raised_sum, AddedAll, SummedBlocks, Fitting, Summed}
use Rattle.whole_bus.proofs.Whole.{over, under, same, add_is, difference}
use Rattle.whole_bus.proofs.Rounding.{sample_is}
use Rattle.whole_bus.proofs.Ranges.{every_at, every_drop, every_take}

above_sample : (x : ℤ) → T (is_sample x) → (above_lowest x + under x ≡ over x + half) × (above_lowest x < full)
unfolding above_lowest over under
above_sample x t = let w = sample_is x t in go x w.0 w.1
  where
    go : (x : ℤ) → over x < half → under x ≤ half → (above_lowest x + under x ≡ over x + half) × (above_lowest x < full)
    go (pos a) o u = (omega arith, omega arith)
    go (negsuc a) o u = (omega arith, omega arith)

pub raised_bound : (n size : ℕ) (xs : List ℤ) (j : ℕ) → T (every is_sample xs) → raised_sum n size xs j ≤ n * full
unfolding raised_sum
raised_bound zero size xs j t = zero-le
raised_bound (suc n) size xs j t =
    let a = (above_sample (get_or xs j (pos 0)) (every_at is_sample xs (pos 0) tt t j)).1 in
    let r = raised_bound n size (drop size xs) j (every_drop is_sample size xs t) in
    omega arith

module _ (outs size c i : ℕ) (here : c < outs) where
  pub exact_is : (counts : List ℕ) (a : ℤ) (xs : List ℤ) → T (every (λ n. eqb n outs) counts) → T (every is_sample xs)
      → over (summed_by ◌+ℤ◌ (pos 0) a size c i xs counts) + under a + length counts * half
      ≡ over a + raised_sum (length counts) (outs * size) xs (c * size + i) + under (summed_by ◌+ℤ◌ (pos 0) a size c i xs counts)
  unfolding summed_by raised_sum every
  exact_is [] a xs e t = omega arith
  exact_is (n ∷ ns) a xs e t =
      let is : n ≡ outs = eqb→eq n outs (and_l (eqb n outs) (every (λ m. eqb m outs) ns) e) in
      let rest = drop (outs * size) xs in
      let x = get_or xs (c * size + i) (pos 0) in
      let inside : c < n = subst (λ (m : ℕ). c < m) (sym is) here in
      let sum_is : summed_by ◌+ℤ◌ (pos 0) a size c i xs (n ∷ ns) ≡ summed_by ◌+ℤ◌ (pos 0) (a +ℤ x) size c i rest ns =
      ap (λ (p : ℕ). summed_by ◌+ℤ◌ (pos 0) (a +ℤ get_or xs (p * size + i) (pos 0)) size c i (drop (n * size) xs) ns) (mod-eq_of_lt inside)
      ∙ ap (λ (m : ℕ). summed_by ◌+ℤ◌ (pos 0) (a +ℤ x) size c i (drop (m * size) xs) ns) is in
      let later = exact_is ns (a +ℤ x) rest (and_r (eqb n outs) (every (λ m. eqb m outs) ns) e) (every_drop is_sample (outs * size) xs t) in
      let sum = add_is a x in
      let above = (above_sample x (every_at is_sample xs (pos 0) tt t (c * size + i))).0 in
      subst (λ (s : ℤ). over s + under a + suc (length ns) * half ≡ over a + (above_lowest x + raised_sum (length ns) (outs * size) rest (c * size + i)) + under s) (sym sum_is)
      (go (over (summed_by ◌+ℤ◌ (pos 0) (a +ℤ x) size c i rest ns)) (under (summed_by ◌+ℤ◌ (pos 0) (a +ℤ x) size c i rest ns)) (over a) (under a) (over x) (under x) (over (a +ℤ x)) (under (a +ℤ x)) (above_lowest x) (raised_sum (length ns) (outs * size) rest (c * size + i)) (length ns) later sum above)
    where
      go : (os us oa ua ox ux ob ub x r n : ℕ) → os + ub + n * half ≡ ob + r + us → ob + ua + ux ≡ oa + ox + ub → x + ux ≡ ox + half → os + ua + suc n * half ≡ oa + (x + r) + us
      go os us oa ua ox ux ob ub x r n a b c = omega arith

pub even_long : (counts : List ℕ) (outs : ℕ) → T (every (λ n. eqb n outs) counts) → channels counts ≡ length counts * outs
unfolding channels every
even_long [] outs e = sym (zero-mul outs)
even_long (n ∷ ns) outs e =
    let is : n ≡ outs = eqb→eq n outs (and_l (eqb n outs) (every (λ m. eqb m outs) ns) e) in
    let later = even_long ns outs (and_r (eqb n outs) (every (λ m. eqb m outs) ns) e) in
    let s = suc-mul (length ns) outs in
    omega arith

pub even_block : (counts : List ℕ) (inputs : List ℤ) (size outs : ℕ) → T (every (λ n. eqb n outs) counts) → T (every is_sample inputs)
    → block_of outs size (sum_of size inputs counts)
    ≡ each (outs * size) (λ j. clipped (pos (raised_sum (length counts) (outs * size) inputs j) -ℤ pos (length counts * 8388608)))
unfolding over under
even_block counts inputs size outs e t =
    block_each outs size (sum_of size inputs counts) _
    (λ c i l _.
    let r = raised_sum (length counts) (outs * size) inputs (c * size + i) in
    let s = exact_sum size inputs counts c i in
    let d = pos r -ℤ pos (length counts * 8388608) in
    ap clipped (same s d (go (over s) (under s) (over d) (under d) r (length counts * 8388608) (exact_is outs size c i l counts (pos 0) inputs e t) (difference r (length counts * 8388608)))))
  where
    go : (os us od ud r b : ℕ) → os + 0 + b ≡ 0 + r + us → od + b ≡ r + ud → os + ud ≡ od + us
    go os us od ud r b p q = omega arith

-- ---- the sums that `add_ports` leaves

module _ (inputs : List ℤ) (n : ℕ) (before after : List ℕ) (bits : ℕ) (w : AddedAll inputs n before after bits) where
  module _ (low : bits < 16777216) (few : n ≤ most_inputs) where
    samples : true ≡ every is_sample inputs
    samples = sym (lt-ltb bits 16777216 low) ∙ w.tells

    -- none wraps
    sum_is : (j : ℕ) → raised_sum n (length before) inputs j % 4294967296 ≡ raised_sum n (length before) inputs j
    sum_is j = let b = raised_bound n (length before) inputs j (subst T samples tt) in go (raised_sum n (length before) inputs j) b
      where
        go : (r : ℕ) → r ≤ n * full → r % 4294967296 ≡ r
        go r h = omega arith

    sum_at : (j : ℕ) → j < length before → get_or after j 0 ≡ raised_sum n (length before) inputs j
    sum_at j h = ap (λ (l : List ℕ). get_or l j 0) w.sums ∙ each_at (length before) j _ 0 h ∙ sum_is j

    pub sum_long : length after ≡ length before
    sum_long = ap length w.sums ∙ length_each (length before) _

    pub sum_small : (j : ℕ) → get_or after j 0 < 2147483648
    sum_small j = go (ltb j (length before)) refl
      where
        go : (b : Bool) → ltb j (length before) ≡ b → get_or after j 0 < 2147483648
        go true e =
            let b = raised_bound n (length before) inputs j (subst T samples tt) in
            let s = sum_at j (ltb-true j (length before) e) in
            omega arith
        go false e =
            let past : length after ≤ j = subst (λ (m : ℕ). m ≤ j) (sym sum_long) (ltb-false j (length before) e) in
            let s = get_or-eq_default after 0 past in
            omega arith

    pub summed_done : (out new : List ℤ) → length before ≡ length out → new ≡ each (length out) (λ j. clipped (pos (get_or after j 0) -ℤ pos (n * 8388608)))
        → SummedBlocks inputs n out new true
    summed_done out new long e =
        record {
          tells = samples;
          leaves =
              e
              ∙ each_same (length out) _ _
              (λ j h.
              let l : j < length before = subst (λ (m : ℕ). j < m) (sym long) h in
              ap (λ (r : ℕ). clipped (pos r -ℤ pos (n * 8388608))) (sum_at j l ∙ ap (λ (m : ℕ). raised_sum n m inputs j) long));
        }

-- ---- the ports as blocks

-- the memory for the sums: the first k words of a blank list
pub blank_part : (k : ℕ) (l : List ℕ) → T (every (λ x. eqb x 0) l) → (j : ℕ) → get_or (take k l) j 0 ≡ 0
blank_part k l t j = eqb→eq (get_or (take k l) j 0) 0 (every_at (λ x. eqb x 0) (take k l) 0 tt (every_take (λ x. eqb x 0) k l t) j)

pub blank_long : (k n : ℕ) (l : List ℕ) → k ≡ n → n ≤ 256 → length l ≡ 256 → length (take k l) ≡ n
blank_long k n l e h long = let t = length-take k l in omega arith

module _ (inputs : List ℤ) (counts : List ℕ) (size outs : ℕ) (out : List ℤ) (even : T (every (λ n. eqb n outs) counts)) (fit : Fitting inputs counts size out outs) where
  pub even_fits : length inputs ≡ length counts * length out
  even_fits =
      fit.whole ∙ ap (λ (n : ℕ). n * size) (even_long counts outs even) ∙ mul_assoc (length counts) outs size ∙ ap (λ (n : ℕ). length counts * n) (sym fit.long)

  pub even_summed : (after : List ℤ) (r : Bool) → SummedBlocks inputs (length counts) out after r → Summed inputs counts size outs out after r
  even_summed after r w = record { tells = w.tells; leaves = w.leaves ∙ go r w.tells }
    where
      go : (b : Bool) → b ≡ every is_sample inputs
          → cond b (each (length out) (λ j. clipped (pos (raised_sum (length counts) (length out) inputs j) -ℤ pos (length counts * 8388608)))) out ≡ cond b (block_of outs size (sum_of size inputs counts)) out
      go true e =
          ap (λ (n : ℕ). each n (λ j. clipped (pos (raised_sum (length counts) n inputs j) -ℤ pos (length counts * 8388608)))) fit.long
          ∙ sym (even_block counts inputs size outs even (subst T e tt))
      go false e = refl
