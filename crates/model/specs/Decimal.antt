-- A number as decimal text, in ASCII, as the page has it (SPEC 14.2).
use Rattle.std.specs.Prelude.{ℕ, zero, suc, ◌+◌, ◌/◌, ◌%◌, List, [], ◌∷◌, ◌++◌, cond, ltb}

abbrev pub digit : ℕ → ℕ
digit d = 48 + d

-- up to `places` digits of n, the most significant first, with no zero in front
abbrev pub spelled : ℕ → ℕ → List ℕ
spelled zero n = []
spelled (suc places) n = cond (ltb n 10) (digit n ∷ []) (spelled places (n / 10) ++ (digit (n % 10) ∷ []))

-- a number n has no more than n + 1 digits
abbrev pub decimal : ℕ → List ℕ
decimal n = spelled (suc n) n
