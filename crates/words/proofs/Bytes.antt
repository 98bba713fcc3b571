-- Bytes in words, and a u64 in two.
use Prim.Native.Nat.{ℕ, ◌/◌, ◌%◌, ◌<◌}
use native.Mathlib.Omega.{arith}
use mathlib.Core.Path.{◌≡◌, ap, ◌∙◌}
use mathlib.Core.List.{List, ◌++◌}
use lib.ListN.{length}
use Rattle.node.specs.declared.name.Name.{Name}
use Rattle.words.specs.Fields.{long_from, four, name_from}
use Rattle.words.proofs.Words.{spell, spelled}

abbrev made : List ℕ → List ℕ → List ℕ → List ℕ → ℕ → Name
made x y z w k = record { bytes = x ++ y ++ z ++ w; len = k }

-- a name of 16 bytes, whose length is a byte, comes back
pub name_back : (n : Name) (a b c d : ℕ) → length n.bytes ≡ 16 → n.len < 256
    → four a ≡ spell 0 4 n.bytes → four b ≡ spell 4 4 n.bytes → four c ≡ spell 8 4 n.bytes → four d ≡ spell 12 4 n.bytes → name_from a b c d n.len ≡ n
name_back n a b c d h k p q r s =
    let l = n.bytes in
    let m : n.len % 256 ≡ n.len = omega arith in
    ap (λ x. made x (four b) (four c) (four d) (n.len % 256)) p
    ∙ ap (λ x. made (spell 0 4 l) x (four c) (four d) (n.len % 256)) q
    ∙ ap (λ x. made (spell 0 4 l) (spell 4 4 l) x (four d) (n.len % 256)) r
    ∙ ap (λ x. made (spell 0 4 l) (spell 4 4 l) (spell 8 4 l) x (n.len % 256)) s
    ∙ ap (made (spell 0 4 l) (spell 4 4 l) (spell 8 4 l) (spell 12 4 l)) m
    ∙ ap (λ x. record { bytes = x; len = n.len }) (spelled 16 l h)

-- a u64 in two words comes back
pub long_back : (x low high : ℕ) → low ≡ x % 4294967296 → high ≡ x / 4294967296 → long_from low high ≡ x
long_back x low high p q = omega arith
