-- The NaN of the code and the test for one, in either format.
use Prim.Native.Nat.{ℕ, ◌*◌, ◌%◌, ◌≤◌}
use mathlib.Core.Path.{◌≡◌, refl, sym, ap, ◌∙◌, subst}
use mathlib.Core.Bool.{Bool, true, false, not, false≢true}
use lib.Dec.{T}
use lib.Ieee.{Float, nan, inf, fin, Format, binary32, binary64, fits, hid, ones, top, of_bits, to_bits, nan_bits, ne, is_nan}
use lib.Ieee.Bits.{is_false, of_bits-to_bits, nan_bits_is, nan_bits_above}
use lib.Ieee.Compare.{differs_from_itself, nan_differs}
use borrow.Author.Tests.{ltb-false, le-ltb}

-- crates level, codec and words depend on nothing of each other, so that each has its own laws of a NaN's bits

-- the library's constant of each format
pub nan32 : of_bits binary32 0x7fc0_0000 ≡ nan
unfolding of_bits
nan32 = refl

pub nan64 : of_bits binary64 0x7ff8_0000_0000_0000 ≡ nan
unfolding of_bits
nan64 = refl

pub is_nan_lem : (x : Float) → is_nan x ≡ true → x ≡ nan
unfolding is_nan
is_nan_lem nan e = refl
is_nan_lem (inf s) e = absurd (false≢true e)
is_nan_lem (fin s m d) e = absurd (false≢true e)

pub no_nan : (x : Float) → is_nan x ≡ false → T (not (is_nan x))
no_nan x e = subst (λ (b : Bool). T (not b)) (sym e) tt

-- the code's test is the older one, whether a number differs from itself
pub differs_is : (x : Float) → ne x x ≡ is_nan x
unfolding is_nan
differs_is x = go (ne x x) (is_nan x) refl refl
  where
    go : (d n : Bool) → ne x x ≡ d → is_nan x ≡ n → d ≡ n
    go true true e f = refl
    go false false e f = refl
    go true false e f = sym (ap is_nan (differs_from_itself x (subst T (sym e) tt))) ∙ f
    go false true e f = sym e ∙ ap (λ (y : Float). ne y y) (is_nan_lem x f) ∙ nan_differs

-- the bits of a value that is no NaN, without the sign, and the other way round
pub bits_le : (f : Format) (x : Float) → T (fits f x) → T (not (is_nan x)) → to_bits f x % top f ≤ ones f * hid f
bits_le f x F n =
    let b = to_bits f x in
    ltb-false (ones f * hid f) (b % top f) (sym (nan_bits_above f b) ∙ nan_bits_is f b ∙ ap is_nan (of_bits-to_bits f x F) ∙ is_false (is_nan x) n)

pub no_nan_bits : (f : Format) (b : ℕ) → b % top f ≤ ones f * hid f → T (not (nan_bits f b))
no_nan_bits f b h = subst (λ (t : Bool). T (not t)) (sym (nan_bits_above f b ∙ le-ltb (ones f * hid f) (b % top f) h)) tt
