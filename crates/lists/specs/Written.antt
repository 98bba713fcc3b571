-- A text at the start of a lent buffer: the bytes after it stay.
use Rattle.std.specs.Prelude.{ℕ, List, ◌++◌, length, drop}

abbrev pub written : List ℕ → List ℕ → List ℕ
written text out = text ++ drop (length text) out
