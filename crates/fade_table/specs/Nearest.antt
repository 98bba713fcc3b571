-- Each entry is the nearest whole number (SPEC 10.4), without real numbers. Entry k approximates S × (1 + cos (π × k /
-- 240)) / 2. The terms of the cosine's series alternate and shrink here, so that the series lies above the cosine where
-- it ends behind a term that is added, and below it where it ends behind one that is taken away; and the cosine falls,
-- so that a number below π gives more and one above it less.
use Rattle.std.specs.Prelude.{ℕ, zero, suc, ◌+◌, ◌-◌, ◌*◌, ◌<◌, List}
use Rattle.fade_table.specs.Table.{S, entry_of}

pub record Ratio : Type 0 where
  pub num : ℕ
  pub den : ℕ

-- 1 less r × (a / b)² / ((2 j + 1) × (2 j + 2)). For a / b below π / 2 it is not below 0, so that the difference of
-- natural numbers is exact.
abbrev pub less_of : ℕ → ℕ → ℕ → Ratio → Ratio
less_of a b j r =
    let d : ℕ = r.den * ((2 * j + 1) * (2 * j + 2)) * (b * b) in
    record { num = d - a * a * r.num; den = d }

-- the series of cos (a / b), from term j on and over that term, with n terms behind it
unfoldable pub series : ℕ → ℕ → ℕ → ℕ → Ratio
series zero j a b = record { num = 1; den = 1 }
series (suc n) j a b = less_of a b j (series n (j + 1) a b)

-- π × 10^30 lies between these two
abbrev pub pi_low : ℕ
pi_low = 3141592653589793238462643383279

abbrev pub pi_high : ℕ
pi_high = 3141592653589793238462643383280

abbrev pub unit : ℕ
unit = 1000000000000000000000000000000

-- cos (π × k / 240) lies between these two
abbrev pub below : ℕ → Ratio
below k = series 9 0 (pi_high * k) (240 * unit)

abbrev pub above : ℕ → Ratio
above k = series 10 0 (pi_low * k) (240 * unit)

-- Of the first 120 entries each is less than a half away from S × (1 + cos) / 2, on either side: twice the entry and 1
-- lies above S × (1 + cos), and twice the entry less 1 below it. The other entries are S less these (`mirrored` of
-- `Laws`), as 1 + cos is 2 less 1 + cos there.
pub record Nearest (table : List ℕ) : Type 0 where
  pub not_low : (k : ℕ) → k < 120 → S * ((above k).den + (above k).num) < (2 * entry_of table k + 1) * (above k).den
  pub not_high : (k : ℕ) → k < 120
      → 2 * entry_of table k * (below k).den < S * ((below k).den + (below k).num) + (below k).den
