-- What the test on names says: `same_name` is true exactly for two names of one byte string.
use Prim.Native.Nat.{ℕ, ◌≤◌}
use mathlib.Core.Path.{◌≡◌, refl, sym, ap, ◌∙◌}
use mathlib.Core.List.{List, [], ◌∷◌}
use mathlib.Core.Bool.{true, ◌&&◌, false≢true}
use lib.Dec.{leb, eqb}
use lib.Pointwise.{pointwise}
use borrow.Author.Tests.{leb-true, eqb-true, eq-eqb}
use Rattle.lists.proofs.Member.{and_left, and_right}
use Rattle.node.specs.Name.{name_length, named, text, same_bytes, same_name}
use Rattle.node.specs.declared.name.Name.{Name}

pub name_long : (n : ℕ) → name_length n ≡ true → (1 ≤ n) × (n ≤ 16)
name_long n h = (leb-true 1 n (and_left (leb 1 n) (leb n 16) h), leb-true n 16 (and_right (leb 1 n) (leb n 16) h))

pub same_refl : (s : List ℕ) → same_bytes s s ≡ true
same_refl [] = refl
same_refl (x ∷ s) = rw (eq-eqb x x refl) (same_refl s)

pub same_equal : (s t : List ℕ) → same_bytes s t ≡ true → s ≡ t
same_equal [] [] h = refl
same_equal [] (y ∷ t) h = absurd (false≢true h)
same_equal (x ∷ s) [] h = absurd (false≢true h)
same_equal (x ∷ s) (y ∷ t) h =
    let head : x ≡ y = eqb-true x y (and_left (eqb x y) (same_bytes s t) h) in
    let tail : s ≡ t = same_equal s t (and_right (eqb x y) (same_bytes s t) h) in
    cc

-- the library's test of two byte strings
pub same_pointwise : (s t : List ℕ) → pointwise eqb s t ≡ same_bytes s t
same_pointwise [] [] = refl
same_pointwise [] (y ∷ t) = refl
same_pointwise (x ∷ s) [] = refl
same_pointwise (x ∷ s) (y ∷ t) = ap (◌&&◌ (eqb x y)) (same_pointwise s t)

-- two names are the same exactly if both are names and stand for one byte string
pub record Same (a b : Name) : Type 0 where
  pub first : named a ≡ true
  pub second : named b ≡ true
  pub string : text a ≡ text b

pub same_to : (a b : Name) → same_name a b ≡ true → Same a b
same_to a b h =
    let rest = and_right (named a) (named b && same_bytes (text a) (text b)) h in
    record {
      first = and_left (named a) (named b && same_bytes (text a) (text b)) h;
      second = and_left (named b) (same_bytes (text a) (text b)) rest;
      string = same_equal (text a) (text b) (and_right (named b) (same_bytes (text a) (text b)) rest);
    }

pub same_from : (a b : Name) → Same a b → same_name a b ≡ true
same_from a b s = rw (s.first, s.second) (ap (same_bytes (text a)) (sym s.string) ∙ same_refl (text a))
