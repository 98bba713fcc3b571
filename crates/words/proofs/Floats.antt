-- The NaN in a word, read and stored. The logic has one NaN.
use Prim.Native.Nat.{ℕ, ◌*◌, ◌%◌, ◌<◌, ◌≤◌}
use mathlib.Core.Path.{◌≡◌, refl, sym, ◌∙◌, subst}
use mathlib.Core.Bool.{Bool, true, not}
use lib.Dec.{T}
use lib.Ieee.{Float, nan, inf, fin, binary32, hid, ones, top, of_bits, nan_bits, is_nan}
use lib.Ieee.Bits.{nan_bits_is, nan_bits_above}
use borrow.Author.Tests.{lt-ltb, le-ltb}

-- crates level, codec and words depend on nothing of each other, so that each has its own laws of a NaN's bits
is_nan_lem : (x : Float) → is_nan x ≡ true → x ≡ nan
unfolding is_nan
is_nan_lem nan e = refl
is_nan_lem (inf s) e = absurd (subst T (sym e) tt)
is_nan_lem (fin s m d) e = absurd (subst T (sym e) tt)

one_nan : of_bits binary32 2143289344 ≡ nan
unfolding of_bits
one_nan = refl

pub stored_nan : (x : Float) → is_nan x ≡ true → of_bits binary32 2143289344 ≡ x
stored_nan x e = one_nan ∙ sym (is_nan_lem x e)

-- the test of a pattern
pub read_nan : (b : ℕ) → ones binary32 * hid binary32 < b % top binary32 → of_bits binary32 2143289344 ≡ of_bits binary32 b
read_nan b h = stored_nan (of_bits binary32 b) (sym (nan_bits_is binary32 b) ∙ nan_bits_above binary32 b ∙ lt-ltb _ _ h)

pub no_nan_bits : (b : ℕ) → b % top binary32 ≤ ones binary32 * hid binary32 → T (not (nan_bits binary32 b))
no_nan_bits b h = subst (λ (t : Bool). T (not t)) (sym (nan_bits_above binary32 b ∙ le-ltb _ _ h)) tt
