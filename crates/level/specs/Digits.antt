-- What the loop of `root_digits` has worked out. Definitions only.
use Rattle.std.specs.Prelude.{ℕ, ◌+◌, ◌*◌, ◌^◌, ◌≤◌, ◌<◌, ◌≡◌}

-- root is the square root of a * 4 ^ turns / 2 ^ 64, cut to a whole number of 53 binary digits, and rest is what its square leaves
pub record Rooted (a root rest turns : ℕ) : Type 0 where
  pub big : 2 ^ 52 ≤ root
  pub small : root < 2 ^ 53
  pub left : rest ≤ 2 * root
  pub sum : (root * root + rest) * 2 ^ 64 ≡ a * 4 ^ turns
