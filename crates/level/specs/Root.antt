-- The square root of a binary64 value (SPEC 11.1), over `lib.Ieee` and natural numbers, and what it is to be the
-- nearest one (SPEC 21.7). Definitions only.
use Rattle.std.specs.Prelude.{ℕ, zero, suc, ◌+◌, ◌-◌, ◌*◌, ◌/◌, ◌^◌, ◌<◌, false, cond, T, leb, ltb, Float}
use Rattle.std.specs.Float.{nan, inf, fin, binary64}
use Rattle.std.specs.Float.Ieee.{up, down, size, units, fits}
use Rattle.std.specs.Float.Ieee.Exact.{HasValue}

-- r or r + 1: the larger one whose square is at most n
abbrev pub up_to : ℕ → ℕ → ℕ
up_to n r = cond (leb ((r + 1) * (r + 1)) n) (r + 1) r

-- The square root of n cut to a whole number, for n below 4 ^ k: that of n / 4, doubled, or one more.
unfoldable pub cut_root : ℕ → ℕ → ℕ
cut_root zero n = 0
cut_root (suc k) n = up_to n (2 * cut_root k (n / 4))

-- The same for every n, which is below 2 ^ size n and so below 4 ^ size n.
unfoldable pub whole_root : ℕ → ℕ
unfolding size cut_root
whole_root n = cut_root (size n) n

-- r or r + 1: whichever of r * 2 ^ k and (r + 1) * 2 ^ k is nearer to the square root of n. It is the upper one where the square of the number
-- halfway between the two, (2 * r + 1) * 2 ^ k / 2, is below n.
abbrev pub nearer : ℕ → ℕ → ℕ → ℕ
nearer n r k = cond (ltb ((2 * r + 1) * 2 ^ k * ((2 * r + 1) * 2 ^ k)) (4 * n)) (r + 1) r

-- The square root of n, as so many of the format's smallest values, rounded, for n from 4 ^ 52 up: of its whole part the format keeps the 53 leading
-- digits and drops k, as in `round`.
unfoldable pub rounded : ℕ → Float
unfolding size units whole_root
rounded n =
    let w = whole_root n in
    let k = size w - 53 in
    units binary64 false (nearer n (w / 2 ^ k) k) k

-- The square root of n of the format's smallest values, n / 2 ^ 1074, for n above 0: it is that of n * 2 ^ 1074, divided by 2 ^ 1074.
unfoldable pub root_of : ℕ → Float
unfolding rounded
root_of n = rounded (n * 2 ^ 1074)

-- The square root of a binary64 value, which is a whole number of the format's smallest values, 2 ^ -1074. That of -0 is -0, and below it there is none.
-- `nan` is one value: whatever NaN comes in or goes out.
unfoldable pub sqrt : Float → Float
unfolding root_of
sqrt nan = nan
sqrt (inf s) = cond s nan (inf false)
sqrt (fin s zero e) = fin s zero e
sqrt (fin s (suc m) e) = cond s nan (root_of (suc m * up e * 2 ^ 1074 / down e))

-- y is nearer to the square root of x than every other binary64 value z from 0 up: the number halfway between y and z lies on z's side of the root,
-- as its square shows. With x = n / 2 ^ 1074, y = a / 2 ^ 1074 and z = b / 2 ^ 1074 the square of (a + b) / 2 is compared with n * 2 ^ 1074.
-- It is strict both ways, so no root lies halfway between two values, and there is no tie to break. `proofs/NearestRoot.antt` shows it of `sqrt`.
pub record NearestRoot (x y : Float) : Type 0 where
  pub n : ℕ
  pub a : ℕ
  pub x_is : HasValue x false n (2 ^ 1074)
  pub y_is : HasValue y false a (2 ^ 1074)
  pub held : T (fits binary64 y)
  pub below : (z : Float) (b : ℕ) → T (fits binary64 z) → HasValue z false b (2 ^ 1074) → b < a → (a + b) * (a + b) < 4 * (n * 2 ^ 1074)
  pub above : (z : Float) (b : ℕ) → T (fits binary64 z) → HasValue z false b (2 ^ 1074) → a < b → 4 * (n * 2 ^ 1074) < (a + b) * (a + b)
