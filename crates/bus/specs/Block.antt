-- Lent blocks of samples (SPEC 15). Definitions only, over any sort of sample.
use Rattle.std.specs.Prelude.{ℕ, zero, suc, ◌+◌, ◌*◌, Bool, ◌&&◌, ◌||◌, List, [], ◌∷◌, ◌++◌, ◌==◌, slice_index_or}

-- f 0, f 1, .., f (n - 1)
unfoldable pub each : {A : Type 0} → ℕ → (ℕ → A) → List A
each zero f = []
each (suc n) f = each n f ++ (f n ∷ [])

-- The block in which sample i of channel c is f c i: channel 0 whole, then channel 1 whole.
unfoldable pub block_of : {A : Type 0} → ℕ → ℕ → (ℕ → ℕ → A) → List A
unfolding each
block_of zero size f = []
block_of (suc c) size f = block_of c size f ++ each size (f c)

-- sample i of channel c in such a block; d stands past its end
abbrev pub sample_at : {A : Type 0} → A → ℕ → List A → ℕ → ℕ → A
sample_at d size xs c i = slice_index_or xs (c * size + i) d

-- one channel or two; any other count is refused with 16
abbrev pub is_channels : ℕ → Bool
is_channels n = n == 1 || n == 2

-- a block has channels × block samples; any other length is refused so too. len is how many it has
abbrev pub holds : ℕ → ℕ → ℕ → Bool
holds len n size = is_channels n && len == n * size
