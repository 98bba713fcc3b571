-- A binary64 value as a binary32 one (SPEC 11.1), and what it is to be the nearest value of a format (SPEC 1, 21.7).
-- Definitions only.
use Rattle.std.specs.Prelude.{ℕ, ◌+◌, ◌*◌, ◌%◌, ◌^◌, ◌≤◌, ◌<◌, ◌≡◌, Bool, T, Float}
use Rattle.std.specs.Float.{nan, inf, fin, Format, binary32}
use Rattle.std.specs.Float.Ieee.{prec, low, up, down, round, fits, to_bits}
use Rattle.std.specs.Float.Ieee.Exact.{HasValue}
use Rattle.std.specs.Float.Ieee.Scale.{overflow}

-- the nearest binary32 value, at a tie the even one, by the kit's own rounding; from halfway past the largest one on it is an infinity. `nan` is one value.
unfoldable pub narrow : Float → Float
unfolding round
narrow nan = nan
narrow (inf s) = inf s
narrow (fin s m e) = round binary32 s (m * up e) (down e)

-- y is n / d with the sign s, rounded to the format f as IEEE 754 says. First as if exponents had no upper bound: to m * 2 ^ k of the format's smallest
-- values, with an m of no more digits than the format has, or the next power of two. The number halfway between that and any other such number, q * 2 ^ j,
-- lies on the other's side of n / d, or at n / d, and then the bits of y end in 0. What is 2 ^ (emax + 1) or more becomes an infinity.
-- `proofs/NearestEven.antt` shows it of the kit's `round`, by which `narrow` and every sum, product and quotient of a level are rounded.
pub record NearestEven (f : Format) (s : Bool) (n d : ℕ) (y : Float) : Type 0 where
  pub m : ℕ
  pub k : ℕ
  pub short : m ≤ 2 ^ prec f
  pub held : T (fits f y)
  pub finite : m * 2 ^ k < overflow f → HasValue y s (m * 2 ^ k) (2 ^ low f)
  pub infinite : overflow f ≤ m * 2 ^ k → y ≡ inf s
  pub below : (q j : ℕ) → q < 2 ^ prec f → q * 2 ^ j < m * 2 ^ k → (m * 2 ^ k + q * 2 ^ j) * d ≤ 2 * (n * 2 ^ low f)
  pub above : (q j : ℕ) → q < 2 ^ prec f → m * 2 ^ k < q * 2 ^ j → 2 * (n * 2 ^ low f) ≤ (m * 2 ^ k + q * 2 ^ j) * d
  pub even : (q j : ℕ) → q < 2 ^ prec f → (q * 2 ^ j ≡ m * 2 ^ k → ⊥) → (m * 2 ^ k + q * 2 ^ j) * d ≡ 2 * (n * 2 ^ low f) → to_bits f y % 2 ≡ 0
