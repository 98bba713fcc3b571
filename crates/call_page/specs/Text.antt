-- A text in fixed memory, and what is added at its end.
use Rattle.std.specs.Prelude.{ℕ, ◌≤◌, ◌≡◌, min, List, ◌++◌, length, take}
use Rattle.call_page.specs.declared.put.Text.{Text}

-- its bytes
abbrev pub shown : Text → List ℕ
shown t = take (min t.len 4501) t.bytes

-- a text of at most `most` bytes is added; what finds no room is left out
pub record Added (most : ℕ) (text before after : List ℕ) : Type 0 where
  pub placed : after ≡ take 4501 (before ++ text)
  pub fits : length text ≤ most
