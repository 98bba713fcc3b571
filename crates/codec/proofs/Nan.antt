-- How a NaN is made and read, in either format.
use mathlib.Core.Path.{◌≡◌, refl, sym, ◌∙◌, subst}
use mathlib.Core.Bool.{Bool, true, not}
use Prim.Native.Nat.{ℕ, ◌*◌, ◌%◌, ◌<◌, ◌≤◌}
use borrow.Author.Tests.{lt-ltb, le-ltb}
use lib.Dec.{T}
use lib.Ieee.{Float, nan, inf, fin, Format, binary32, binary64, hid, ones, top, of_bits, nan_bits, is_nan}
use lib.Ieee.Bits.{nan_bits_is, nan_bits_above}

-- crates level, codec and words depend on nothing of each other, so that each has its own laws of a NaN's bits
is_nan_lem : (x : Float) → is_nan x ≡ true → x ≡ nan
unfolding is_nan
is_nan_lem nan e = refl
is_nan_lem (inf s) e = absurd (subst T (sym e) tt)
is_nan_lem (fin s m d) e = absurd (subst T (sym e) tt)

-- the library's constant of each format
pub nan32 : of_bits binary32 0x7fc0_0000 ≡ nan
unfolding of_bits
nan32 = refl

pub nan64 : of_bits binary64 0x7ff8_0000_0000_0000 ≡ nan
unfolding of_bits
nan64 = refl

-- the pattern of a NaN, and one of none
pub made : (f : Format) (b : ℕ) → ones f * hid f < b % top f → nan ≡ of_bits f b
made f b h =
    sym (is_nan_lem (of_bits f b) (sym (nan_bits_is f b) ∙ nan_bits_above f b ∙ lt-ltb (ones f * hid f) (b % top f) h))

pub no_nan_bits : (f : Format) (b : ℕ) → b % top f ≤ ones f * hid f → T (not (nan_bits f b))
no_nan_bits f b h = subst (λ (t : Bool). T (not t)) (sym (nan_bits_above f b ∙ le-ltb (ones f * hid f) (b % top f) h)) tt
