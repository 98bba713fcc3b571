-- The sum of a bus, input by input: what each turn of a loop over the channel counts does.
--     Summing     the first k inputs, which end at `at`, are added, and what is left makes the sum whole
use Rattle.std.proofs.Common.{◌≡◌, ℕ, zero, suc, ◌+◌, ◌*◌, ◌%◌, ◌<◌, ◌≤◌, true, ◌&&◌, T, eqb, leb, List, [], ◌∷◌, length, get_or, take, drop, sym, ap, ◌∙◌, subst, add_assoc, mul-le-mul_right, mod-lt, suc-mul, add-mul, add-one, arith, eqb→eq, leb→le, drop_of_length-le, get_or-drop, drop-cons, drop-drop}
use lib.Ieee.Fits.{and_l, and_r}
use Prim.Native.Nat.{zero-le}
use Rattle.bus.specs.Block.{each, sample_at, is_channels, holds}
use Rattle.bus.specs.Sum.{most_inputs, channels, every_is_channels, summed_by, sum_fits}
use Rattle.bus.proofs.Blocks.{length_each, each_at, each_is, part_at}
use Rattle.bus.proofs.Sizes.{channels_are, held}

-- ---- the count at k, and those after it

next : (ns : List ℕ) (k : ℕ) → k < length ns → drop k ns ≡ get_or ns k 0 ∷ drop (k + 1) ns
next ns k h = drop-cons ns k 0 h ∙ ap (λ (j : ℕ). get_or ns k 0 ∷ drop j ns) (sym (add-one k))

pub channels_next : (ns : List ℕ) (k : ℕ) → k < length ns → channels (drop k ns) ≡ get_or ns k 0 + channels (drop (k + 1) ns)
unfolding channels
channels_next ns k h = ap channels (next ns k h)

pub channels_none : (ns : List ℕ) (k : ℕ) → length ns ≤ k → channels (drop k ns) ≡ 0
unfolding channels
channels_none ns k h = ap channels (drop_of_length-le ns h)

pub every_next : (ns : List ℕ) (k : ℕ) → k < length ns → every_is_channels (drop k ns) ≡ is_channels (get_or ns k 0) && every_is_channels (drop (k + 1) ns)
unfolding every_is_channels
every_next ns k h = ap every_is_channels (next ns k h)

pub every_none : (ns : List ℕ) (k : ℕ) → length ns ≤ k → every_is_channels (drop k ns) ≡ true
unfolding every_is_channels
every_none ns k h = ap every_is_channels (drop_of_length-le ns h)

-- each count is 1 or 2
pub count_is : (ns : List ℕ) (k : ℕ) → T (every_is_channels ns) → k < length ns → (0 < get_or ns k 0) × (get_or ns k 0 ≤ 2)
unfolding every_is_channels
count_is [] k t h = absurd (omega arith)
count_is (n ∷ ns) zero t h = channels_are n (and_l (is_channels n) (every_is_channels ns) t)
count_is (n ∷ ns) (suc k) t h = let l : k < length ns = omega arith in count_is ns k (and_r (is_channels n) (every_is_channels ns) t) l

-- ---- one channel of the sum

-- in any sort of number, from a start, by an addition; past stands past the samples' end
pub record Summing {A : Type 0} (plus : A → A → A) (past start : A) (size c : ℕ) (inputs : List A) (counts : List ℕ) (out : List A) (at k : ℕ) : Type 0 where
  pub within : k ≤ length counts
  pub left : at + channels (drop k counts) * size ≡ length inputs
  pub long : length out ≡ size
  pub sums : (i : ℕ) → i < size → summed_by plus past (get_or out i past) size c i (drop at inputs) (drop k counts) ≡ summed_by plus past start size c i inputs counts

module _ {A : Type 0} (plus : A → A → A) (past start : A) (size c : ℕ) (inputs : List A) (counts : List ℕ) where
  pub sum_none : (before out : List A) → length inputs ≡ channels counts * size → length before ≡ size → out ≡ each (length before) (λ i. start)
      → Summing plus past start size c inputs counts out 0 0
  sum_none before out whole long e =
      record {
        within = zero-le;
        left = omega arith;
        long = ap length e ∙ length_each (length before) (λ i. start) ∙ long;
        sums = λ i h.
            let p : i < length before = omega arith in
            ap (λ (a : A). summed_by plus past a size c i inputs counts) (ap (λ (l : List A). get_or l i past) e ∙ each_at (length before) i (λ i. start) past p);
      }

  module _ (out : List A) (at k : ℕ) (q : Summing plus past start size c inputs counts out at k) where
    -- what is left of the inputs: the next one, and the rest
    ahead : k < length counts → at + get_or counts k 0 * size + channels (drop (k + 1) counts) * size ≡ length inputs
    ahead h =
        add_assoc at (get_or counts k 0 * size) (channels (drop (k + 1) counts) * size)
        ∙ ap (λ (n : ℕ). at + n) (sym (add-mul (get_or counts k 0) (channels (drop (k + 1) counts)) size))
        ∙ ap (λ (n : ℕ). at + n * size) (sym (channels_next counts k h))
        ∙ q.left

    pub next_within : k < length counts → at + get_or counts k 0 * size ≤ length inputs
    next_within h = omega (arith, ahead h)

    pub source_within : T (every_is_channels counts) → k < length counts → at + c % get_or counts k 0 * size + size ≤ length inputs
    source_within t h =
        let m : c % get_or counts k 0 < get_or counts k 0 = mod-lt c (count_is counts k t h).0 in
        let p : c % get_or counts k 0 * size + size ≤ get_or counts k 0 * size =
        subst (λ (n : ℕ). n ≤ get_or counts k 0 * size) (suc-mul (c % get_or counts k 0) size) (mul-le-mul_right size m) in
        omega (arith, next_within h)

    pub sum_more : (after : List A) (j : ℕ) → k < length counts → j ≡ size
        → after ≡ each (length out) (λ i. plus (get_or out i past) (get_or (take j (drop (at + c % get_or counts k 0 * size) inputs)) i past))
        → Summing plus past start size c inputs counts after (at + get_or counts k 0 * size) (k + 1)
    unfolding summed_by
    sum_more after j h ej e =
        let n = get_or counts k 0 in
        record {
          within = omega arith;
          left = ahead h;
          long = ap length e ∙ length_each (length out) _ ∙ q.long;
          sums = λ i l.
              let p : i < length out = subst (λ (x : ℕ). i < x) (sym q.long) l in
              let read : get_or after i past ≡ plus (get_or out i past) (sample_at past size (drop at inputs) (c % n) i) =
              ap (λ (x : List A). get_or x i past) e
              ∙ each_at (length out) i _ past p
              ∙ ap (plus (get_or out i past)) (part_at j (at + c % n * size) size inputs i past ej l ∙ ap (λ (x : ℕ). get_or inputs x past) (add_assoc at (c % n * size) i) ∙ sym (get_or-drop at inputs (c % n * size + i) past)) in
              ap (λ (a : A). summed_by plus past a size c i (drop (at + n * size) inputs) (drop (k + 1) counts)) read
              ∙ ap (λ (xs : List A). summed_by plus past (plus (get_or out i past) (sample_at past size (drop at inputs) (c % n) i)) size c i xs (drop (k + 1) counts)) (sym (drop-drop (n * size) at inputs))
              ∙ ap (summed_by plus past (get_or out i past) size c i (drop at inputs)) (sym (next counts k h))
              ∙ q.sums i l;
        }

    pub sum_all : length counts ≤ k → out ≡ each size (λ i. summed_by plus past start size c i inputs counts)
    unfolding summed_by
    sum_all h =
        each_is size (λ i. summed_by plus past start size c i inputs counts) past out q.long
        (λ i l. ap (summed_by plus past (get_or out i past) size c i (drop at inputs)) (sym (drop_of_length-le counts h)) ∙ q.sums i l)

-- ---- what `sum_fits` says

pub sum_fits_says : (inputs : ℕ) (counts : List ℕ) (size out outs : ℕ) → sum_fits inputs counts size out outs ≡ true
    → T (every_is_channels counts) × (inputs ≡ channels counts * size) × (out ≡ outs * size)
unfolding sum_fits
sum_fits_says inputs counts size out outs e =
    let t : T (sum_fits inputs counts size out outs) = subst T (sym e) tt in
    let u = and_r (leb (length counts) most_inputs) (every_is_channels counts && (eqb inputs (channels counts * size) && holds out outs size)) t in
    let v = and_r (every_is_channels counts) (eqb inputs (channels counts * size) && holds out outs size) u in (
      and_l (every_is_channels counts) (eqb inputs (channels counts * size) && holds out outs size) u,
      eqb→eq inputs (channels counts * size) (and_l (eqb inputs (channels counts * size)) (holds out outs size) v),
      (held out outs size (and_r (eqb inputs (channels counts * size)) (holds out outs size) v)).1,
    )

pub few_inputs : (inputs : ℕ) (counts : List ℕ) (size out outs : ℕ) → sum_fits inputs counts size out outs ≡ true → length counts ≤ most_inputs
unfolding sum_fits
few_inputs inputs counts size out outs e =
    leb→le (length counts) most_inputs (and_l (leb (length counts) most_inputs) (every_is_channels counts && (eqb inputs (channels counts * size) && holds out outs size)) (subst T (sym e) tt))

pub sum_channels : (inputs : ℕ) (counts : List ℕ) (size out outs : ℕ) → sum_fits inputs counts size out outs ≡ true → T (is_channels outs)
unfolding sum_fits
sum_channels inputs counts size out outs e =
    let t : T (sum_fits inputs counts size out outs) = subst T (sym e) tt in
    let u = and_r (leb (length counts) most_inputs) (every_is_channels counts && (eqb inputs (channels counts * size) && holds out outs size)) t in
    let v = and_r (every_is_channels counts) (eqb inputs (channels counts * size) && holds out outs size) u in
    and_l (is_channels outs) (eqb out (outs * size)) (and_r (eqb inputs (channels counts * size)) (holds out outs size) v)
