-- Texts put into a lent buffer, one after the other.
use Prim.Native.Nat.{ℕ, ◌-◌, ◌≤◌}
use native.Mathlib.Omega.{arith}
use mathlib.Core.Path.{◌≡◌, sym, ap, ◌∙◌}
use mathlib.Core.List.{List, ◌++◌, append_assoc, append-nil}
use lib.ListN.{length, drop, length-append, length-drop}
use lib.Seq.{take-append_seam, drop-append_seam, drop-drop, take-length, drop-length}
use borrow.Rule.Slice.PartMut.{mid_of, put_mid}
use Rattle.lists.specs.Written.{written}

-- what is left of a list after its front, and the list with something else there
module _ (a rest : List ℕ) where
  left : length (a ++ rest) - length a ≡ length rest
  left = omega (arith, length-append a rest)

  mid_is : mid_of (length a) (length (a ++ rest) - length a) (a ++ rest) ≡ rest
  mid_is = rw (left, drop-append_seam) (take-length rest)

  put_is : (z : List ℕ) → put_mid (length a) (length (a ++ rest) - length a) (a ++ rest) z ≡ a ++ z
  put_is z = rw (left, take-append_seam, drop-append_seam, drop-length) (ap (◌++◌ a) (append-nil z))

written_both : (a b x : List ℕ) → a ++ written b (drop (length a) x) ≡ written (a ++ b) x
written_both a b x = rw (length-append, drop-drop) (sym (append_assoc a b _))

-- a text, and another in what is left
pub written_then : (a b x : List ℕ) {y z : List ℕ} {p : ℕ} → y ≡ written a x → p ≡ length a → z ≡ written b (mid_of p (length y - p) y) → put_mid p (length y - p) y z ≡ written (a ++ b) x
written_then a b x {y} {z} {p} placed long next =
    let rest = drop (length a) x in
    let mid : mid_of p (length y - p) y ≡ rest = rw (placed, long) (mid_is a rest) in
    let laid : z ≡ written b rest = next ∙ ap (written b) mid in
    rw (placed, long) (put_is a rest z ∙ ap (◌++◌ a) laid ∙ written_both a b x)

-- the buffer keeps its length
pub written_long : (a x : List ℕ) → length a ≤ length x → length (written a x) ≡ length x
written_long a x h = length-append a (drop (length a) x) ∙ omega (arith, length-drop (length a) x)
