-- A rate is accepted exactly where it is the f32 of a whole number from 1 to 384,000 (SPEC 3).
--     rate_is     a rate that is accepted as n is the f32 of n, and n is from 1 to 384,000
--     rate_taken  the f32 of such an n is accepted as n
--     refuses     an f32 that is that of no such n is refused
-- The rest is what the tests of `sample_rate` say of the f32 of such an n.
use Rattle.std.proofs.Common.{◌≡◌, ℕ, ◌+◌, ◌*◌, ◌/◌, ◌%◌, ◌^◌, ◌<◌, ◌≤◌, Bool, true, false, not, T, eqb, leb, ℤ, pos, sym, refl, ap, ◌∙◌, subst, add-zero, mul-lt-mul_of_pos_right, one-mul, div-add-mod', mul-one, mul-div_cancel, arith, le→leb, eqb→eq, lt-ltb, le-leb, leb-true}
use native.Mathlib.Nat.{mul-mod_left}
use lib.Ieee.{Float, nan, inf, fin, binary32, up, down, of_int, lt, fits, is_nan, in_float, to_unsigned, to_bits, of_bits}
use lib.Ieee.Back.{round_whole, whole_unique, unsigned_back}
use lib.Ieee.Bits.{of_bits-to_bits}
use lib.Ieee.Exact.{HasValue}
use lib.Ieee.Fits.{of_int-fits, down_pos}
use Rattle.std.proofs.lemmas.Bool.{both_ways}
use Rattle.node.specs.Refusal.{refused, gives, number_of}
use Rattle.node.specs.declared.refusal.Refusal.TheVariants.{SampleRate}
use Rattle.bus.specs.Rate.{highest_rate, whole_rate, rate_of}

-- n is a rate, and x is its f32
pub record IsRate (x : Float) (n : ℕ) : Type 0 where
  pub low : 1 ≤ n
  pub high : n ≤ highest_rate
  pub same : x ≡ of_int binary32 (pos n)

-- the f32 of n has the value n
value : (n : ℕ) → n ≤ 2 ^ 24 → HasValue (of_int binary32 (pos n)) false n 1
unfolding of_int
value n h = round_whole binary32 false n h

small : (n : ℕ) → n ≤ highest_rate → n ≤ 2 ^ 24
small n h = omega arith

taken : (a b n : ℕ) → 0 < b → 1 ≤ n → n ≤ highest_rate → a ≡ n * b → whole_rate a b ≡ gives n
taken a b n p l h e =
    let q : a / b ≡ n = ap (λ (x : ℕ). x / b) e ∙ mul-div_cancel n p in
    let r : a % b ≡ 0 = ap (λ (x : ℕ). x % b) e ∙ mul-mod_left n b in
    simp (q, r, le-leb 1 n l, le-leb n highest_rate h)

pub rate_taken : (n : ℕ) → 1 ≤ n → n ≤ highest_rate → rate_of (of_int binary32 (pos n)) ≡ gives n
unfolding rate_of
rate_taken n l h = go (of_int binary32 (pos n)) (value n (small n h))
  where
    go : (x : Float) → HasValue x false n 1 → rate_of x ≡ gives n
    go nan v = elim v [ ]
    go (inf _) v = elim v [ ]
    go (fin false m e) v = taken (m * up e) (down e) n (down_pos e) l h (sym (mul-one (m * up e)) ∙ v.1)
    go (fin true m e) v = let z : true ≡ false = v.0 in cc

-- an accepted fraction is the whole number n
whole : (m : ℕ) (e : ℤ) → T (fits binary32 (fin false m e)) → T (eqb (m * up e % down e) 0) → 1 ≤ m * up e / down e → m * up e / down e ≤ highest_rate
    → IsRate (fin false m e) (m * up e / down e)
unfolding of_int
whole m e f r l h =
    let n = m * up e / down e in
    let v : m * up e * 1 ≡ n * down e =
    mul-one (m * up e) ∙ sym (div-add-mod' (m * up e) (down e)) ∙ ap (λ (x : ℕ). n * down e + x) (eqb→eq _ _ r) ∙ add-zero (n * down e) in
    record { low = l; high = h; same = whole_unique binary32 (fin false m e) (of_int binary32 (pos n)) false n f (of_int-fits binary32 (pos n)) (refl, v) (value n (small n h)) }

-- one or the other: x is refused, or accepted as the n whose f32 it is
data Decided (x : Float) : Type 0 where
  no : rate_of x ≡ refused (number_of SampleRate) → Decided x
  yes : (n : ℕ) → rate_of x ≡ gives n → IsRate x n → Decided x

decided : (x : Float) → T (fits binary32 x) → Decided x
unfolding rate_of
decided nan f = no refl
decided (inf s) f = no refl
decided (fin true m e) f = no refl
decided (fin false m e) f = go (eqb (m * up e % down e) 0) refl (leb 1 (m * up e / down e)) refl (leb (m * up e / down e) highest_rate) refl
  where
    go : (r : Bool) → eqb (m * up e % down e) 0 ≡ r → (l : Bool) → leb 1 (m * up e / down e) ≡ l → (h : Bool) → leb (m * up e / down e) highest_rate ≡ h → Decided (fin false m e)
    go false er l el h eh = no (simp er)
    go true er false el h eh = no (simp (er, el))
    go true er true el false eh = no (simp (er, el, eh))
    go true er true el true eh =
        yes (m * up e / down e) (simp (er, el, eh)) (whole m e f (subst T (sym er) tt) (leb-true _ _ el) (leb-true _ _ eh))

pub rate_is : (x : Float) (n : ℕ) → T (fits binary32 x) → rate_of x ≡ gives n → IsRate x n
rate_is x n f t = go (decided x f)
  where
    go : Decided x → IsRate x n
    go (no q) = let z : ◌≡◌ {A = ℕ} 0 1 = cc in absurd (omega arith)
    go (yes k q s) = let e : k ≡ n = cc in subst (λ (j : ℕ). IsRate x j) e s

pub refuses : (x : Float) → T (fits binary32 x) → ((n : ℕ) → IsRate x n → ⊥) → rate_of x ≡ refused (number_of SampleRate)
refuses x f none = go (decided x f)
  where
    go : Decided x → rate_of x ≡ refused (number_of SampleRate)
    go (no q) = q
    go (yes n q s) = absurd (none n s)

-- ---- the tests of `sample_rate`

pub above : (x : Float) (n : ℕ) → IsRate x n → lt (fin true 1 (pos 0)) x ≡ true
unfolding lt
above x n s = subst (λ (y : Float). lt (fin true 1 (pos 0)) y ≡ true) (sym s.same) (go (of_int binary32 (pos n)) (value n (small n s.high)))
  where
    go : (y : Float) → HasValue y false n 1 → lt (fin true 1 (pos 0)) y ≡ true
    go nan v = elim v [ ]
    go (inf _) v = elim v [ ]
    go (fin false m e) v =
        let p : 0 < 1 * 2 ^ 0 * down e + m * up e * 1 = omega (arith, down_pos e, one-mul (down e)) in
        lt-ltb 0 (1 * 2 ^ 0 * down e + m * up e * 1) p
    go (fin true m e) v = let z : true ≡ false = v.0 in cc

pub under : (x : Float) (n : ℕ) → IsRate x n → lt x (fin false 1 (pos 64)) ≡ true
unfolding lt
under x n s = subst (λ (y : Float). lt y (fin false 1 (pos 64)) ≡ true) (sym s.same) (go (of_int binary32 (pos n)) (value n (small n s.high)))
  where
    go : (y : Float) → HasValue y false n 1 → lt y (fin false 1 (pos 64)) ≡ true
    go nan v = elim v [ ]
    go (inf _) v = elim v [ ]
    go (fin false m e) v =
        let h = s.high in
        let l : n < 2 ^ 64 = omega arith in
        lt-ltb _ _ (subst (λ (a : ℕ). a < 2 ^ 64 * down e) (sym v.1) (mul-lt-mul_of_pos_right l (down_pos e)))
    go (fin true m e) v = let z : true ≡ false = v.0 in cc

pub cut : (x : Float) (n : ℕ) → IsRate x n → to_unsigned 64 x ≡ n
unfolding in_float
cut x n s =
    let h = s.high in
    let l : n ≤ 2 ^ 24 = small n h in
    let b : n < 2 ^ 64 = omega arith in
    ap (to_unsigned 64) s.same ∙ (unsigned_back binary32 64 n (le→leb n (2 ^ 24) l) b).1

-- an f32 holds every whole number up to 2 ^ 24, and none of them is a NaN
pub plain : (n : ℕ) → n ≤ 2 ^ 24 → T (not (is_nan (of_int binary32 (pos n))))
unfolding is_nan
plain n h = go (of_int binary32 (pos n)) (value n h)
  where
    go : (y : Float) → HasValue y false n 1 → T (not (is_nan y))
    go nan v = elim v [ ]
    go (inf _) v = elim v [ ]
    go (fin s m e) v = tt

pub exact : (n : ℕ) → n ≤ 2 ^ 24 → T (in_float binary32 (pos n))
unfolding in_float
exact n h = le→leb n (2 ^ 24) h

-- ---- where a test fails, x is no rate

pub not_above : (x : Float) → T (fits binary32 x) → lt (fin true 1 (pos 0)) x ≡ false → rate_of x ≡ refused (number_of SampleRate)
not_above x f q = refuses x f (λ n s. both_ways _ q (above x n s))

pub not_under : (x : Float) → T (fits binary32 x) → lt x (fin false 1 (pos 64)) ≡ false → rate_of x ≡ refused (number_of SampleRate)
not_under x f q = refuses x f (λ n s. both_ways _ q (under x n s))

-- k is what is left of x without its fraction
pub out_of_range : (x : Float) (k : ℕ) → T (fits binary32 x) → k ≡ to_unsigned 64 x → (1 ≤ k → k ≤ highest_rate → ⊥) → rate_of x ≡ refused (number_of SampleRate)
out_of_range x k f e out =
    refuses x f (λ n s. let q : k ≡ n = e ∙ cut x n s in subst (λ (j : ℕ). 1 ≤ j → j ≤ highest_rate → ⊥) q out s.low s.high)

pub not_whole : (x : Float) (k : ℕ) → T (fits binary32 x) → k ≡ to_unsigned 64 x → (to_bits binary32 (of_int binary32 (pos k)) ≡ to_bits binary32 x → ⊥) → rate_of x ≡ refused (number_of SampleRate)
not_whole x k f e other =
    refuses x f (λ n s. let q : k ≡ n = e ∙ cut x n s in other (ap (λ (j : ℕ). to_bits binary32 (of_int binary32 (pos j))) q ∙ ap (to_bits binary32) (sym s.same)))

pub is_whole : (x : Float) (k : ℕ) → T (fits binary32 x) → 1 ≤ k → k ≤ highest_rate → to_bits binary32 (of_int binary32 (pos k)) ≡ to_bits binary32 x → rate_of x ≡ gives k
is_whole x k f l h e =
    let q : of_int binary32 (pos k) ≡ x =
    sym (of_bits-to_bits binary32 (of_int binary32 (pos k)) (of_int-fits binary32 (pos k))) ∙ ap (of_bits binary32) e ∙ of_bits-to_bits binary32 x f in
    ap rate_of (sym q) ∙ rate_taken k l h
