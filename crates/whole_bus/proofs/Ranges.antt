-- The tests of the ranges.
--     above_is                `above_lowest` gives how far a number lies above the lowest sample
--     above_tells, full_is    what `above_lowest` and `below_full` give is below 2^24 for a sample and a gain, and for no other number
--     Collected               the bits of the numbers before i are collected, and with the test of the rest they make the test of all
--     every_at, every_part    what holds of all holds of each, and of each of a part
use Prim.Native.Nat.{ℕ, zero, suc, ◌+◌, ◌-◌, ◌/◌, ◌%◌, ◌^◌, ◌≤◌, ◌<◌}
use native.Mathlib.Numerals.{add-one}
use native.Mathlib.Omega.{arith}
use mathlib.Core.Path.{◌≡◌, refl, sym, ap, ◌∙◌}
use mathlib.Core.Bool.{Bool, true, false, ◌&&◌, and_assoc, and-true}
use mathlib.Core.List.{List, [], ◌∷◌}
use Rattle.std.specs.List.{list_all}
use lib.Bits.{bit_or, or_lt, or_add_and, and_le_l, and_le_r}
use lib.Dec.{T, leb, ltb}
use lib.IntN.{ℤ, pos, negsuc}
use lib.Ieee.Fits.{and_l, and_r, and_i}
use lib.ListN.{length, get_or, take, drop, drop_of_length-le}
use lib.Seq.{drop-cons}
use lib.Signed.{mag}
use Prim.Native.Nat.{zero-le}
use borrow.Author.Tests.{lt-ltb, le-ltb, leb-true, leb-false, ltb-true, ltb-false}
use mir.Syntax.{w32}
use mir.Val.{SFits, of_z}
use Rattle.whole_bus.specs.Sample.{is_sample, is_gain, full}
use Rattle.whole_bus.specs.Block.{every}
use Rattle.whole_bus.specs.Raised.{above_lowest}

-- two tests that agree
agree : (a b c d : ℕ) → (c ≤ d → a < b) → (d < c → b ≤ a) → ltb a b ≡ leb c d
agree a b c d under over = go (leb c d) refl
  where
    go : (t : Bool) → leb c d ≡ t → ltb a b ≡ t
    go true e = lt-ltb a b (under (leb-true c d e))
    go false e = le-ltb a b (over (leb-false c d e))

-- ---- a gain

pub full_is : (g : ℕ) → ltb (g - g / 16777216) 16777216 ≡ is_gain g
full_is g = agree (g - g / 16777216) 16777216 g full (λ h. omega arith) (λ h. omega arith)

-- ---- a sample

module _ (x : ℤ) (f : SFits w32 x) where
  within : mag x < 2 ^ 31
  within = f.sfits

  -- its 32 bits, read as a number without a sign, and 2^23 more
  pub above_is : (of_z w32 x + 8388608) % 4294967296 ≡ above_lowest x
  unfolding above_lowest
  above_is = by_sign x within
    where
      by_sign : (x : ℤ) → mag x < 2 ^ 31 → (of_z w32 x + 8388608) % 4294967296 ≡ above_lowest x
      by_sign (pos a) w = refl
      by_sign (negsuc a) w = let e : 4294967296 - suc a + 8388608 ≡ 4303355904 - suc a = omega arith in ap (λ (n : ℕ). n % 4294967296) e

  -- it is below 2^24 for a sample, and for no other number
  pub above_tells : ltb (above_lowest x) 16777216 ≡ is_sample x
  unfolding above_lowest
  above_tells = by_sign x within
    where
      by_sign : (x : ℤ) → mag x < 2 ^ 31 → ltb (above_lowest x) 16777216 ≡ is_sample x
      by_sign (pos a) w = agree ((a + 8388608) % 4294967296) 16777216 a 8388607 (λ l. omega arith) (λ l. omega arith)
      by_sign (negsuc a) w = agree ((4303355904 - suc a) % 4294967296) 16777216 a 8388607 (λ l. omega arith) (λ l. omega arith) ∙ sym (and-true (leb a 8388607))

-- ---- all of them

pub every_at : {A : Type 0} (f : A → Bool) (xs : List A) (d : A) → T (f d) → T (every f xs) → (i : ℕ) → T (f (get_or xs i d))
unfolding every
every_at f [] d t e i = t
every_at f (x ∷ xs) d t e zero = and_l (f x) (every f xs) e
every_at f (x ∷ xs) d t e (suc i) = every_at f xs d t (and_r (f x) (every f xs) e) i

pub every_drop : {A : Type 0} (f : A → Bool) (k : ℕ) (xs : List A) → T (every f xs) → T (every f (drop k xs))
unfolding every
every_drop f zero xs e = e
every_drop f (suc k) [] e = e
every_drop f (suc k) (x ∷ xs) e = every_drop f k xs (and_r (f x) (every f xs) e)

pub every_take : {A : Type 0} (f : A → Bool) (k : ℕ) (xs : List A) → T (every f xs) → T (every f (take k xs))
unfolding every
every_take f zero xs e = tt
every_take f (suc k) [] e = e
every_take f (suc k) (x ∷ xs) e = and_i (f x) (every f (take k xs)) (and_l (f x) (every f xs) e) (every_take f k xs (and_r (f x) (every f xs) e))

-- those from k on: the one at k, and those after it
pub every_next : {A : Type 0} (f : A → Bool) (xs : List A) (k : ℕ) (d : A) → k < length xs → every f (drop k xs) ≡ f (get_or xs k d) && every f (drop (k + 1) xs)
unfolding every
every_next f xs k d h = ap (every f) (drop-cons xs k d h ∙ ap (λ (j : ℕ). get_or xs k d ∷ drop j xs) (sym (add-one k)))

pub every_none : {A : Type 0} (f : A → Bool) (xs : List A) (k : ℕ) → length xs ≤ k → every f (drop k xs) ≡ true
unfolding every
every_none f xs k h = ap (every f) (drop_of_length-le xs h)

pub all_is_every : {A : Type 0} (f : A → Bool) (xs : List A) → list_all f xs ≡ every f xs
unfolding every
all_is_every f [] = refl
all_is_every f (x ∷ xs) = ap (λ (b : Bool). f x && b) (all_is_every f xs)

-- ---- the loop over them

-- the bits of two numbers are below 2^24 if both are
pub either : (a b : ℕ) → ltb (bit_or a b) 16777216 ≡ ltb a 16777216 && ltb b 16777216
either a b = go (ltb a 16777216) refl (ltb b 16777216) refl
  where
    go : (s : Bool) → ltb a 16777216 ≡ s → (t : Bool) → ltb b 16777216 ≡ t → ltb (bit_or a b) 16777216 ≡ s && t
    go true e true g = lt-ltb (bit_or a b) 16777216 (or_lt 24 a b (ltb-true a 16777216 e) (ltb-true b 16777216 g))
    go true e false g = le-ltb (bit_or a b) 16777216 (let l = ltb-false b 16777216 g in omega (arith, or_add_and a b, and_le_l a b))
    go false e t g = le-ltb (bit_or a b) 16777216 (let l = ltb-false a 16777216 e in omega (arith, or_add_and a b, and_le_r a b))

pub record Collected {A : Type 0} (f : A → Bool) (xs : List A) (bits i : ℕ) : Type 0 where
  pub within : i ≤ length xs
  pub tells : ltb bits 16777216 && every f (drop i xs) ≡ every f xs

module _ {A : Type 0} (f : A → Bool) (xs : List A) where
  pub collect_none : Collected f xs 0 0
  collect_none = record { within = zero-le; tells = refl }

  pub collect_more : (bits i r : ℕ) (d : A) → Collected f xs bits i → i < length xs → ltb r 16777216 ≡ f (get_or xs i d) → Collected f xs (bit_or bits r) (i + 1)
  collect_more bits i r d q h e =
      record {
        within = omega arith;
        tells =
            ap (λ (b : Bool). b && every f (drop (i + 1) xs)) (either bits r ∙ ap (λ (b : Bool). ltb bits 16777216 && b) e)
            ∙ and_assoc (ltb bits 16777216) (f (get_or xs i d)) (every f (drop (i + 1) xs))
            ∙ ap (λ (b : Bool). ltb bits 16777216 && b) (sym (every_next f xs i d h))
            ∙ q.tells;
      }

  pub collect_all : (bits i : ℕ) → Collected f xs bits i → length xs ≤ i → ltb bits 16777216 ≡ every f xs
  collect_all bits i q h = sym (and-true (ltb bits 16777216)) ∙ ap (λ (b : Bool). ltb bits 16777216 && b) (sym (every_none f xs i h)) ∙ q.tells
