-- The laws of fields stored within a row, for any width, row type and place.
use Prim.Native.Nat.{ℕ, suc, ◌+◌, ◌-◌, ◌*◌, ◌/◌, ◌≤◌, ◌<◌}
use native.Mathlib.Omega.{arith}
use mathlib.Core.Path.{◌≡◌, refl, sym, ap, ◌∙◌}
use mathlib.Core.Logic.{◌⊎◌, inl, inr}
use mathlib.Core.List.{List, [], ◌∷◌}
use mathlib.Core.Bool.{Bool, true, false, cond, ◌&&◌}
use lib.Dec.{leb, ltb}
use lib.ListN.{length, take, drop, set}
use lib.Seq.{sets, length-sets, drop-set-add, take-set-lt}
use borrow.Author.Tests.{ltb-true, ltb-false, lt-ltb, le-ltb, le-leb, lt-leb}
use Rattle.words.specs.Rows.{row_at, rows, fields_put}
use Rattle.words.proofs.Rows.{rows_at, rows_kept, rows_change, sets_out}

-- ---- the three tests before a store
module _ (w i k : ℕ) (ws c : List ℕ) where
  there : Bool → List ℕ
  there b = cond b (sets c (i * w + k) ws) c

  pub put_in : k < w → length ws ≤ w - k → i < length c / w → sets c (i * w + k) ws ≡ fields_put w i k ws c
  unfolding fields_put there
  put_in h g r = sym (ap there (all (ltb k w) (leb (length ws) (w - k)) (ltb i (length c / w)) (lt-ltb k w h) (le-leb (length ws) (w - k) g) (lt-ltb i (length c / w) r)))
    where
      all : (a b t : Bool) → a ≡ true → b ≡ true → t ≡ true → (a && b && t) ≡ true
      all a b t p q s = rw (p, q, s)

  pub put_out : w ≤ k → c ≡ fields_put w i k ws c
  unfolding fields_put there
  put_out h = sym (ap (λ a. there (a && leb (length ws) (w - k) && ltb i (length c / w))) (le-ltb k w h))

  pub put_short : w - k < length ws → c ≡ fields_put w i k ws c
  unfolding fields_put there
  put_short h = sym (ap (λ b. there (ltb k w && b && ltb i (length c / w))) (lt-leb (length ws) (w - k) h) ∙ off (ltb k w) (ltb i (length c / w)))
    where
      off : (a t : Bool) → there (a && false && t) ≡ c
      off true t = refl
      off false t = refl

  pub put_past : length c / w ≤ i → c ≡ fields_put w i k ws c
  unfolding fields_put there
  put_past h = sym (ap (λ t. there (ltb k w && leb (length ws) (w - k) && t)) (le-ltb i (length c / w) h) ∙ off (ltb k w) (leb (length ws) (w - k)))
    where
      off : (a b : Bool) → there (a && b && false) ≡ c
      off true true = refl
      off true false = refl
      off false b = refl

-- ---- what is stored

-- words stored from a place on, seen from behind n words and within n words
drop_sets : (n k : ℕ) (c ws : List ℕ) → drop n (sets c (n + k) ws) ≡ sets (drop n c) k ws
drop_sets n k c [] = refl
drop_sets n k c (x ∷ ws) =
    let e : suc (n + k) ≡ n + suc k = omega arith in
    ap (λ m. drop n (sets (set c (n + k) x) m ws)) e ∙ drop_sets n (suc k) (set c (n + k) x) ws ∙ ap (λ l. sets l (suc k) ws) (drop-set-add n c k x)

pub take_sets : (n k : ℕ) (c ws : List ℕ) → k + length ws ≤ n → take n (sets c k ws) ≡ sets (take n c) k ws
take_sets n k c [] h = refl
take_sets n k c (x ∷ ws) h =
    let next : suc k + length ws ≤ n = omega arith in
    let below : k < n = omega arith in
    take_sets n (suc k) (set c k x) ws next ∙ ap (λ l. sets l (suc k) ws) (take-set-lt n c k x below)

module _ {A : Type 0} (w : ℕ) (of : List ℕ → A) (c ws : List ℕ) (i k : ℕ) where
  -- the row has these words in the place of what stood there; no other row changes
  pub fields_is : k < w → k + length ws ≤ w → rows w of (fields_put w i k ws c) ≡ set (rows w of c) i (of (sets (row_at w i c) k ws))
  fields_is h g = go (ltb i (length c / w)) refl
    where
      side : (m : ℕ) → (m < i * w) ⊎ (i * w + w ≤ m) → (m < i * w + k) ⊎ (i * w + k + length ws ≤ m)
      side m (inl s) = inl (omega arith)
      side m (inr s) = inr (omega arith)

      go : (b : Bool) → ltb i (length c / w) ≡ b → rows w of (fields_put w i k ws c) ≡ set (rows w of c) i (of (sets (row_at w i c) k ws))
      go true e =
          let inside : i < length c / w = ltb-true i (length c / w) e in
          let fit : length ws ≤ w - k = omega arith in
          ap (rows w of) (sym (put_in w i k ws c h fit inside))
          ∙ rows_change w of c (sets c (i * w + k) ws) i inside (length-sets c (i * w + k) ws) (λ m s. sets_out ws c (i * w + k) m (side m s))
          ∙ ap (λ l. set (rows w of c) i (of l)) (ap (take w) (drop_sets (i * w) k c ws) ∙ take_sets w k (drop (i * w) c) ws g ∙ ap (λ l. sets l k ws) (sym (rows_at w (λ ws. ws) c i [] inside)))
      go false e =
          let past : length c / w ≤ i = ltb-false i (length c / w) e in
          ap (rows w of) (sym (put_past w i k ws c past)) ∙ rows_kept w of c i (of (sets (row_at w i c) k ws)) past
