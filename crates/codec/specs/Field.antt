-- Fields of a binary input, little-endian. A byte past its end is 0.
use Rattle.std.specs.Prelude.{ℕ, zero, suc, ◌+◌, ◌*◌, min, List, [], ◌∷◌, cond, leb, length, take, drop, get_or}

-- the last position of all, which no input reaches
abbrev pub last : ℕ
last = 0xffff_ffff_ffff_ffff

abbrev pub moved : ℕ → ℕ → ℕ
moved at n = min (at + n) last

-- the number that the n bytes from `at` on stand for, the lowest first
unfoldable pub little : ℕ → List ℕ → ℕ → ℕ
little zero s at = 0
little (suc n) s at = get_or s at 0 + 256 * little n s (at + 1)

-- the bytes themselves, or none where the input ends before
abbrev pub run : List ℕ → ℕ → ℕ → List ℕ
run s at len = cond (leb (at + len) (length s)) (take len (drop at s)) []

-- n fields of four bytes, each as what its number stands for
unfoldable pub fields : {A : Type 0} → (ℕ → A) → ℕ → List ℕ → ℕ → List A
fields f zero s at = []
fields f (suc n) s at = f (little 4 s at) ∷ fields f n s (moved at 4)
