-- The seed of a node's noise (SPEC 9.9). Definitions only.
use Rattle.std.specs.Prelude.{ℕ, zero, suc, ◌+◌, ◌*◌, ◌/◌, ◌%◌, ◌^◌}

-- the low 32 binary digits of a number, which is what a wrapping product keeps
abbrev pub wrap : ℕ → ℕ
wrap n = n % 2 ^ 32

-- The exclusive or of the k lowest binary digits: each digit is 1 where the two differ, which is where their sum is odd. It computes on large numbers.
unfoldable pub exclusive_or : ℕ → ℕ → ℕ → ℕ
exclusive_or zero a b = 0
exclusive_or (suc k) a b = exclusive_or k (a / 2) (b / 2) * 2 + (a + b) % 2

-- `derive_noise_seed`: the sequence is a u32, the node a usize, of which only the low 32 digits count
unfoldable pub seed_of : ℕ → ℕ → ℕ
unfolding exclusive_or
seed_of sequence node = exclusive_or 32 (exclusive_or 32 0xDEADBEEF (wrap (sequence * 0x9E3779B9))) (wrap (node * 0x85EBCA77))
