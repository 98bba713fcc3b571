-- Whole numbers with their signs, by two numbers without: z is over z less under z, of which one is 0. So what is asked of their sums, products and orders is
-- asked of numbers that `omega` reads.
use Prim.Native.Nat.{ℕ, zero, suc, ◌+◌, ◌*◌, ◌-◌, ◌≤◌, ◌<◌}
use native.Mathlib.Nat.{zero-mul}
use native.Mathlib.Omega.{arith}
use mathlib.Core.Path.{◌≡◌, refl, sym, ap, subst}
use mathlib.Core.Bool.{Bool, true, false, not, cond}
use lib.Dec.{T, ltb, leb→le, le→leb, ltb→lt, lt→ltb, nltb→le}
use lib.IntN.{ℤ, pos, negsuc, neg_ℤ, sub_ℕ, ◌+ℤ◌, ◌-ℤ◌, ◌*ℤ◌}
use lib.Signed.{mag, le_z, lt_z}
use borrow.Author.Tests.{le-ltb}

unfoldable pub over : ℤ → ℕ
over (pos n) = n
over (negsuc n) = 0

unfoldable pub under : ℤ → ℕ
under (pos n) = 0
under (negsuc n) = suc n

-- the same differences are the same number
pub same : (a b : ℤ) → over a + under b ≡ over b + under a → a ≡ b
unfolding over under
same (pos a) (pos b) e = let h : a ≡ b = omega arith in ap pos h
same (pos a) (negsuc b) e = absurd (omega arith)
same (negsuc a) (pos b) e = absurd (omega arith)
same (negsuc a) (negsuc b) e = let h : a ≡ b = omega arith in ap negsuc h

-- ---- the orders

pub le_of : (a b : ℤ) → over a + under b ≤ over b + under a → T (le_z a b)
unfolding over under
le_of (pos a) (pos b) h = let l : a ≤ b = omega arith in le→leb a b l
le_of (pos a) (negsuc b) h = absurd (omega arith)
le_of (negsuc a) (pos b) h = tt
le_of (negsuc a) (negsuc b) h = let l : b ≤ a = omega arith in le→leb b a l

pub le_is : (a b : ℤ) → T (le_z a b) → over a + under b ≤ over b + under a
unfolding over under
le_is (pos a) (pos b) t = let l = leb→le a b t in omega arith
le_is (pos a) (negsuc b) t = absurd t
le_is (negsuc a) (pos b) t = omega arith
le_is (negsuc a) (negsuc b) t = let l = leb→le b a t in omega arith

pub lt_of : (a b : ℤ) → over a + under b < over b + under a → T (lt_z a b)
unfolding over under
lt_of (pos a) (pos b) h = let l : a < b = omega arith in lt→ltb a b l
lt_of (pos a) (negsuc b) h = absurd (omega arith)
lt_of (negsuc a) (pos b) h = tt
lt_of (negsuc a) (negsuc b) h = let l : b < a = omega arith in lt→ltb b a l

pub lt_is : (a b : ℤ) → T (lt_z a b) → over a + under b < over b + under a
unfolding over under
lt_is (pos a) (pos b) t = let l = ltb→lt a b t in omega arith
lt_is (pos a) (negsuc b) t = absurd t
lt_is (negsuc a) (pos b) t = omega arith
lt_is (negsuc a) (negsuc b) t = let l = ltb→lt b a t in omega arith

-- a number in the range of a width, by its magnitude
pub mag_below : (z : ℤ) (n : ℕ) → over z < n → under z ≤ n → mag z < n
unfolding over under
mag_below (pos a) n h k = h
mag_below (negsuc a) n h k = omega arith

pub mag_is : (z : ℤ) (n : ℕ) → mag z < n → (over z < n) × (under z ≤ n)
unfolding over under
mag_is (pos a) n h = (h, omega arith)
mag_is (negsuc a) n h = (omega arith, omega arith)

-- ---- sums

less : (a b : ℕ) → over (sub_ℕ a b) + b ≡ a + under (sub_ℕ a b)
unfolding over under
less a b = go (ltb a b) refl
  where
    go : (t : Bool) → ltb a b ≡ t → over (cond t (negsuc (b - suc a)) (pos (a - b))) + b ≡ a + under (cond t (negsuc (b - suc a)) (pos (a - b)))
    go true e = let l = ltb→lt a b (subst T (sym e) tt) in omega arith
    go false e = let l = nltb→le a b (subst (λ (u : Bool). T (not u)) (sym e) tt) in omega arith

pub add_is : (a b : ℤ) → over (a +ℤ b) + under a + under b ≡ over a + over b + under (a +ℤ b)
unfolding over under
add_is (pos a) (pos b) = omega arith
add_is (pos a) (negsuc b) = omega (arith, less a (suc b))
add_is (negsuc a) (pos b) = omega (arith, less b (suc a))
add_is (negsuc a) (negsuc b) = omega arith

-- neither part of a sum is more than those of its summands together
less_within : (a b : ℕ) → (over (sub_ℕ a b) ≤ a) × (under (sub_ℕ a b) ≤ b)
unfolding over under
less_within a b = go (ltb a b) refl
  where
    go : (t : Bool) → ltb a b ≡ t → (over (cond t (negsuc (b - suc a)) (pos (a - b))) ≤ a) × (under (cond t (negsuc (b - suc a)) (pos (a - b))) ≤ b)
    go true e = let l = ltb→lt a b (subst T (sym e) tt) in (omega arith, omega arith)
    go false e = (omega arith, omega arith)

pub add_within : (a b : ℤ) → (over (a +ℤ b) ≤ over a + over b) × (under (a +ℤ b) ≤ under a + under b)
unfolding over under
add_within (pos a) (pos b) = (omega arith, omega arith)
add_within (pos a) (negsuc b) = let w = less_within a (suc b) in (omega arith, omega arith)
add_within (negsuc a) (pos b) = let w = less_within b (suc a) in (omega arith, omega arith)
add_within (negsuc a) (negsuc b) = (omega arith, omega arith)

-- ---- products with a number that has no sign

pub negative : (n : ℕ) → (over (neg_ℤ (pos n)) ≡ 0) × (under (neg_ℤ (pos n)) ≡ n)
unfolding over under
negative zero = (refl, refl)
negative (suc n) = (refl, refl)

pub over_times : (z : ℤ) (g : ℕ) → over (z *ℤ pos g) ≡ over z * g
unfolding over
over_times (pos a) g = refl
over_times (negsuc a) g = let e = (negative (suc a * g)).0 in omega (arith, zero-mul g)

pub under_times : (z : ℤ) (g : ℕ) → under (z *ℤ pos g) ≡ under z * g
unfolding under
under_times (pos a) g = sym (zero-mul g)
under_times (negsuc a) g = (negative (suc a * g)).1

-- ---- raised by a number without a sign, so that none is left

abbrev pub raised : ℕ → ℤ → ℕ
raised n (pos a) = a + n
raised n (negsuc a) = n - suc a

pub raised_is : (n : ℕ) (z : ℤ) → under z ≤ n → z +ℤ pos n ≡ pos (raised n z)
unfolding under
raised_is n (pos a) h = refl
raised_is n (negsuc a) h = let e : ltb n (suc a) ≡ false = le-ltb n (suc a) h in simp e

pub raised_counts : (n : ℕ) (z : ℤ) → under z ≤ n → raised n z + under z ≡ over z + n
unfolding over under
raised_counts n (pos a) h = omega arith
raised_counts n (negsuc a) h = omega arith

-- a difference of numbers without a sign
pub difference : (a b : ℕ) → over (pos a -ℤ pos b) + b ≡ a + under (pos a -ℤ pos b)
unfolding over under
difference a b = let s = add_is (pos a) (neg_ℤ (pos b)) in let n = negative b in omega (arith, n.0, n.1)
