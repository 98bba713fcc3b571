-- Sums of raised samples, over numbers without a sign and modulo 2^32.
--     Porting         the blocks before `at` are added, and those that are left make the sums whole; the bits of their samples are collected
--     port_none, port_two, port_one, port_all     what the turns of the loop over the blocks do
use Prim.Native.Nat.{ℕ, zero, suc, ◌+◌, ◌-◌, ◌*◌, ◌%◌, ◌≤◌, ◌<◌}
use native.Mathlib.Nat.{suc-mul}
use native.Mathlib.Omega.{arith}
use mathlib.Core.Path.{◌≡◌, refl, sym, ap, ◌∙◌, subst}
use mathlib.Core.Bool.{Bool, ◌&&◌, and_assoc, and-true}
use mathlib.Core.List.{List, [], ◌∷◌}
use lib.Bits.{bit_or}
use lib.Dec.{ltb}
use lib.IntN.{ℤ, pos}
use lib.ListN.{length, get_or, take, drop, drop_of_length-le}
use lib.Seq.{drop-drop, get_or-drop}
use Rattle.bus.specs.Block.{each}
use Rattle.bus.proofs.Blocks.{length_each, each_at, each_is, each_same, part_at}
use Rattle.whole_bus.specs.Sample.{is_sample}
use Rattle.whole_bus.specs.Block.{every}
use Rattle.whole_bus.specs.Raised.{above_lowest, raised_sum, Added, AddedTwo, AddedAll}
use Rattle.whole_bus.proofs.Ranges.{either}

-- ---- sums modulo 2^32

pub wrap_then : (s x y : ℕ) → ((s + x) % 4294967296 + y) % 4294967296 ≡ (s + x + y) % 4294967296
wrap_then s x y = omega arith

-- ---- a list in two parts

every_parts : {A : Type 0} (f : A → Bool) (n : ℕ) (xs : List A) → every f xs ≡ every f (take n xs) && every f (drop n xs)
unfolding every
every_parts f zero xs = refl
every_parts f (suc n) [] = refl
every_parts f (suc n) (x ∷ xs) = ap (λ (b : Bool). f x && b) (every_parts f n xs) ∙ sym (and_assoc (f x) (every f (take n xs)) (every f (drop n xs)))

-- ---- the blocks, one by one

raised_next : (n size : ℕ) (xs : List ℤ) (j : ℕ) → 0 < n → raised_sum n size xs j ≡ above_lowest (get_or xs j (pos 0)) + raised_sum (n - 1) size (drop size xs) j
unfolding raised_sum
raised_next zero size xs j h = absurd (omega arith)
raised_next (suc n) size xs j h = let e : n ≡ suc n - 1 = omega arith in ap (λ (m : ℕ). above_lowest (get_or xs j (pos 0)) + raised_sum m size (drop size xs) j) e

one_off : (n size : ℕ) → 0 < n → n * size ≡ size + (n - 1) * size
one_off zero size h = absurd (omega arith)
one_off (suc n) size h =
    let e : n ≡ suc n - 1 = omega arith in
    let s = suc-mul n size in
    let t = ap (λ (m : ℕ). m * size) e in
    omega arith

pub record Porting (inputs : List ℤ) (n : ℕ) (before sums : List ℕ) (ok : Bool) (at left : ℕ) : Type 0 where
  pub long : length sums ≡ length before
  pub ahead : at + left * length before ≡ length inputs
  pub adds : (j : ℕ) → j < length before → (get_or sums j 0 + raised_sum left (length before) (drop at inputs) j) % 4294967296 ≡ raised_sum n (length before) inputs j % 4294967296
  pub told : ok && every is_sample (drop at inputs) ≡ every is_sample inputs

-- place i of the sums, after a block
abbrev added_to : List ℕ → List ℤ → ℕ → ℕ
added_to sums block i = (get_or sums i 0 + above_lowest (get_or block i (pos 0))) % 4294967296

module _ (inputs : List ℤ) (n : ℕ) (before : List ℕ) where
  module _ (sums : List ℕ) (ok : Bool) (at left : ℕ) (q : Porting inputs n before sums ok at left) where
    pub next_fits : 0 < left → at + length before ≤ length inputs
    next_fits h = let o = one_off left (length before) h in let a = q.ahead in omega arith

    pub two_fit : 1 < left → at + length before + length before ≤ length inputs
    two_fit h =
        let h₁ : 0 < left = omega arith in
        let h₂ : 0 < left - 1 = omega arith in
        let o = one_off left (length before) h₁ in
        let p = one_off (left - 1) (length before) h₂ in
        let a = q.ahead in
        omega arith

    -- one block: after it one fewer is left
    port_next : (after : List ℕ) (j : ℕ) → 0 < left → j ≡ length before → after ≡ each (length sums) (added_to sums (take j (drop at inputs)))
        → Porting inputs n before after (ok && every is_sample (take j (drop at inputs))) (at + length before) (left - 1)
    port_next after j h ej w =
        let size = length before in
        let block = take j (drop at inputs) in
        record {
          long = ap length w ∙ length_each (length sums) _ ∙ q.long;
          ahead = let o = one_off left size h in let a = q.ahead in omega arith;
          adds = λ i l.
              let p : i < length sums = subst (λ (k : ℕ). i < k) (sym q.long) l in
              let x = above_lowest (get_or (drop at inputs) i (pos 0)) in
              let rest = raised_sum (left - 1) size (drop (at + size) inputs) i in
              let read : get_or after i 0 ≡ (get_or sums i 0 + x) % 4294967296 =
              ap (λ (t : List ℕ). get_or t i 0) w ∙ each_at (length sums) i _ 0 p
              ∙ ap (λ (z : ℤ). (get_or sums i 0 + above_lowest z) % 4294967296) (part_at j at size inputs i (pos 0) ej l ∙ sym (get_or-drop at inputs i (pos 0))) in
              let next : raised_sum left size (drop at inputs) i ≡ x + rest =
              raised_next left size (drop at inputs) i h ∙ ap (λ (t : List ℤ). x + raised_sum (left - 1) size t i) (drop-drop size at inputs) in
              ap (λ (k : ℕ). (k + rest) % 4294967296) read
              ∙ wrap_then (get_or sums i 0) x rest
              ∙ grouped (get_or sums i 0) x rest (raised_sum left size (drop at inputs) i) next
              ∙ q.adds i l;
          told = and_assoc ok (every is_sample block) (every is_sample (drop (at + size) inputs)) ∙ ap (λ (b : Bool). ok && b) (sym whole) ∙ q.told;
        }
      where
        grouped : (s x r t : ℕ) → t ≡ x + r → (s + x + r) % 4294967296 ≡ (s + t) % 4294967296
        grouped s x r t e = let g : s + x + r ≡ s + t = omega arith in ap (λ (k : ℕ). k % 4294967296) g

        whole : every is_sample (drop at inputs) ≡ every is_sample (take j (drop at inputs)) && every is_sample (drop (at + length before) inputs)
        whole =
            every_parts is_sample j (drop at inputs)
            ∙ ap (λ (t : List ℤ). every is_sample (take j (drop at inputs)) && every is_sample t) (drop-drop j at inputs ∙ ap (λ (k : ℕ). drop (at + k) inputs) ej)

  -- the loop collects the bits of the samples; two blocks in one pass are two passes
  module _ (sums : List ℕ) (bits at left : ℕ) (q : Porting inputs n before sums (ltb bits 16777216) at left) where
    pub port_one : (after : List ℕ) (more j : ℕ) → 0 < left → j ≡ length before → Added (take j (drop at inputs)) sums after more
        → Porting inputs n before after (ltb (bit_or bits more) 16777216) (at + length before) (left - 1)
    port_one after more j h ej w =
        subst (λ (b : Bool). Porting inputs n before after b (at + length before) (left - 1)) (sym (either bits more ∙ ap (λ (b : Bool). ltb bits 16777216 && b) w.tells))
        (port_next sums (ltb bits 16777216) at left q after j h ej w.sums)

    pub port_two : (after : List ℕ) (more j k : ℕ) → 1 < left → j ≡ length before → k ≡ length before
        → AddedTwo (take j (drop at inputs)) (take k (drop (at + length before) inputs)) sums after more
        → Porting inputs n before after (ltb (bit_or bits more) 16777216) (at + length before + length before) (left - 2)
    port_two after more j k h ej ek w =
        let h₁ : 0 < left = omega arith in
        let h₂ : 0 < left - 1 = omega arith in
        let a = take j (drop at inputs) in
        let b = take k (drop (at + length before) inputs) in
        let ok = ltb bits 16777216 in
        let mid = each (length sums) (added_to sums a) in
        let long : length mid ≡ length sums = length_each (length sums) (added_to sums a) in
        let second : after ≡ each (length mid) (added_to mid b) =
        w.sums
        ∙ each_same (length sums) _ (added_to mid b)
        (λ i l. sym (ap (λ (s : ℕ). (s + above_lowest (get_or b i (pos 0))) % 4294967296) (each_at (length sums) i (added_to sums a) 0 l) ∙ wrap_then (get_or sums i 0) _ _))
        ∙ ap (λ (m : ℕ). each m (added_to mid b)) (sym long) in
        let first = port_next sums ok at left q mid j h₁ ej refl in
        let two : left - 1 - 1 ≡ left - 2 = omega arith in
        subst (λ (m : ℕ). Porting inputs n before after (ltb (bit_or bits more) 16777216) (at + length before + length before) m) two
        (subst (λ (b : Bool). Porting inputs n before after b (at + length before + length before) (left - 1 - 1))
        (and_assoc ok (every is_sample a) (every is_sample b) ∙ sym (either bits more ∙ ap (λ (b : Bool). ok && b) w.tells))
        (port_next mid (ok && every is_sample a) (at + length before) (left - 1) first after k h₂ ek second))

    pub port_all : left ≡ 0 → ((j : ℕ) → get_or sums j 0 < 4294967296) → AddedAll inputs n before sums bits
    unfolding raised_sum every
    port_all none small =
        record {
          sums = each_is (length before) _ 0 sums q.long (λ j h. is j (small j) ∙ sym (ap (λ (m : ℕ). (get_or sums j 0 + raised_sum m (length before) (drop at inputs) j) % 4294967296) none) ∙ q.adds j h);
          tells = sym (and-true (ltb bits 16777216)) ∙ ap (λ (l : List ℤ). ltb bits 16777216 && every is_sample l) (sym (drop_of_length-le inputs past)) ∙ q.told;
        }
      where
        is : (j : ℕ) → get_or sums j 0 < 4294967296 → get_or sums j 0 ≡ (get_or sums j 0 + 0) % 4294967296
        is j h = omega arith

        past : length inputs ≤ at
        past = let a = q.ahead in let z = ap (λ (m : ℕ). m * length before) none in omega arith
