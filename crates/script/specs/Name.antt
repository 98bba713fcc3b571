-- "name: u8: how many bytes, 0 to 255; then so many bytes" (docs/REPLAY.md).
use Rattle.std.specs.Prelude.{ℕ, List}
use Rattle.codec.specs.Field.{moved, little, run}

abbrev pub name_at : List ℕ → ℕ → List ℕ
name_at s at = run s (moved at 1) (little 1 s at)

abbrev pub name_end : List ℕ → ℕ → ℕ
name_end s at = moved (moved at 1) (little 1 s at)
