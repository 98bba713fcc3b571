-- Laws of rows in lent words, for any width and row type: reading a row, storing one whole, moving one, storing one word.
use Prim.Native.Nat.{ℕ, zero, suc, ◌+◌, ◌-◌, ◌*◌, ◌/◌, ◌≤◌, ◌<◌, min}
use native.Mathlib.Nat.{zero-mul, suc-mul, div-zero, mul-le-mul_right, div-mul-le_self}
use native.Mathlib.Omega.{arith}
use mathlib.Core.Path.{◌≡◌, refl, sym, ap, ◌∙◌}
use mathlib.Core.Logic.{◌⊎◌, inl, inr}
use mathlib.Core.List.{List, [], ◌∷◌, ◌++◌, append_assoc, map}
use mathlib.Core.Bool.{Bool, true, false, ◌&&◌, cond, and-false}
use lib.ListN.{length, take, drop, get_or, set, length-take, length-drop, length-set, get_or-eq_default, get_or-map}
use lib.Dec.{ltb, eqb}
use lib.Seq.{set_out, get_or-set_same, get_or-set_other, get_or-take, get_or-drop, drop-drop, drop_at, take_at, length-take-le, take-set-lt, drop-set-add, ext_get_or, sets, length-sets, sets-eq}
use borrow.Author.Tests.{ltb-true, ltb-false, eqb-true, eqb-false, lt-ltb, le-ltb, eq-eqb, ne_eqb}
use Rattle.words.specs.Rows.{cut, cuts, rows_from, rows, row_at, row_put, word_put, row_moved}

-- a row that c has room for ends within c
pub row_fits : (w i : ℕ) (c : List ℕ) → i < length c / w → i * w + w ≤ length c
row_fits w i c h =
    let top : length c / w * w ≤ length c = div-mul-le_self (length c) w in
    let up : suc i * w ≤ length c / w * w = mul-le-mul_right w h in
    let e : suc i * w ≡ i * w + w = suc-mul i w in
    omega arith

-- there is no room for rows of no words
pub no_room : (w i n : ℕ) → w ≤ 0 → n / w ≤ i
no_room w i n h =
    let none : w ≡ 0 = omega arith in
    rw none (omega (arith, div-zero n))

-- a row before another ends before it starts
row_before : (w i j : ℕ) → i < j → i * w + w ≤ j * w
row_before w i j h =
    let up : suc i * w ≤ j * w = mul-le-mul_right w h in
    let e : suc i * w ≡ i * w + w = suc-mul i w in
    omega arith

-- ---- reading

pub cut_at : (w i k d : ℕ) (c : List ℕ) → k < w → get_or (cut w i c) k d ≡ get_or c (i * w + k) d
cut_at w i k d c h = get_or-take w (drop (i * w) c) k d h ∙ get_or-drop (i * w) c k d

pub cut_long : (w i : ℕ) (c : List ℕ) → i * w + w ≤ length c → length (cut w i c) ≡ w
cut_long w i c h = length-take-le w (drop (i * w) c) (rw (length-drop (i * w) c) (omega arith))

module _ {A : Type 0} (w : ℕ) (of : List ℕ → A) where
  from_long : (n : ℕ) (c : List ℕ) → length (rows_from w of n c) ≡ n
  from_long zero c = refl
  from_long (suc n) c = ap suc (from_long n (drop w c))

  from_at : (n i : ℕ) (c : List ℕ) (d : A) → i < n → get_or (rows_from w of n c) i d ≡ of (cut w i c)
  from_at zero i c d h = absurd (omega arith)
  from_at (suc n) zero c d h = ap (λ k. of (take w (drop k c))) (sym (zero-mul w))
  from_at (suc n) (suc i) c d h =
      let next : i * w + w ≡ suc i * w = sym (suc-mul i w) in
      let e : w + i * w ≡ suc i * w = omega arith in
      from_at n i (drop w c) d (omega arith) ∙ ap (λ l. of (take w l)) (drop-drop (i * w) w c ∙ ap (λ k. drop k c) e)

  pub rows_long : (c : List ℕ) → length (rows w of c) ≡ length c / w
  unfolding rows
  rows_long c = from_long (length c / w) c

  pub rows_at : (c : List ℕ) (i : ℕ) (d : A) → i < length c / w → get_or (rows w of c) i d ≡ of (cut w i c)
  unfolding rows
  rows_at c i d h = from_at (length c / w) i c d h

-- ---- writing

-- two lists of words that differ within row i alone have the same words in every other row
cut_same : (w i j : ℕ) (c e : List ℕ) → length e ≡ length c → ((k : ℕ) → (k < i * w) ⊎ (i * w + w ≤ k) → get_or e k 0 ≡ get_or c k 0) → (j ≡ i → ⊥) → cut w j e ≡ cut w j c
cut_same w i j c e long out n =
    ext_get_or 0 (cut w j e) (cut w j c)
    (size e ∙ ap (λ m. min w (m - j * w)) long ∙ sym (size c))
    (λ k h.
    let short : length (cut w j e) ≡ min w (length e - j * w) = size e in
    let b : k < w = omega arith in
    cut_at w j k 0 e b ∙ out (j * w + k) (side k b (ltb j i) refl) ∙ sym (cut_at w j k 0 c b))
  where
    size : (l : List ℕ) → length (cut w j l) ≡ min w (length l - j * w)
    size l = length-take w (drop (j * w) l) ∙ ap (min w) (length-drop (j * w) l)

    side : (k : ℕ) → k < w → (b : Bool) → ltb j i ≡ b → (j * w + k < i * w) ⊎ (i * w + w ≤ j * w + k)
    side k b true p = inl (omega (arith, row_before w j i (ltb-true j i p)))
    side k b false p =
        let h : i ≤ j = ltb-false j i p in
        let m : i < j = omega (arith, n) in
        inr (omega (arith, row_before w i j m))

module _ {A : Type 0} (w : ℕ) (of : List ℕ → A) where
  -- the one law of a store: words changed within row i change that row alone
  pub rows_change : (c e : List ℕ) (i : ℕ) → i < length c / w → length e ≡ length c → ((k : ℕ) → (k < i * w) ⊎ (i * w + w ≤ k) → get_or e k 0 ≡ get_or c k 0)
      → rows w of e ≡ set (rows w of c) i (of (cut w i e))
  rows_change c e i h long out =
      ext_get_or (of []) (rows w of e) (set (rows w of c) i (of (cut w i e)))
      (size ∙ sym (rows_long w of c) ∙ sym (length-set (rows w of c) i (of (cut w i e))))
      (λ j k. let b : j < length c / w = omega (arith, size) in at j b (eqb j i) refl)
    where
      size : length (rows w of e) ≡ length c / w
      size = rows_long w of e ∙ ap (λ m. m / w) long

      read : (j : ℕ) → j < length c / w → get_or (rows w of e) j (of []) ≡ of (cut w j e)
      read j b = rows_at w of e j (of []) (rw long b)

      at : (j : ℕ) → j < length c / w → (b : Bool) → eqb j i ≡ b → get_or (rows w of e) j (of []) ≡ get_or (set (rows w of c) i (of (cut w i e))) j (of [])
      at j b true p =
          let q : j ≡ i = eqb-true j i p in
          let inside : i < length (rows w of c) = rw (rows_long w of c) h in
          read j b ∙ rw q (sym (get_or-set_same (rows w of c) i (of (cut w i e)) (of []) inside))
      at j b false p =
          read j b
          ∙ ap of (cut_same w i j c e long out (eqb-false j i p))
          ∙ sym (rows_at w of c j (of []) b)
          ∙ sym (get_or-set_other (rows w of c) i j (of (cut w i e)) (of []) (eqb-false j i p))

-- whole rows: the words ws stored from the start of row i on
pub sets_out : (ws c : List ℕ) (at k : ℕ) → (k < at) ⊎ (at + length ws ≤ k) → get_or (sets c at ws) k 0 ≡ get_or c k 0
sets_out [] c at k h = refl
sets_out (x ∷ ws) c at k (inl h) = sets_out ws (set c at x) (suc at) k (inl (omega arith)) ∙ get_or-set_other c at k x 0 (λ q. omega arith)
sets_out (x ∷ ws) c at k (inr h) = sets_out ws (set c at x) (suc at) k (inr (omega arith)) ∙ get_or-set_other c at k x 0 (λ q. omega arith)

pub cut_sets : (w i : ℕ) (c ws : List ℕ) → i * w + w ≤ length c → length ws ≡ w → cut w i (sets c (i * w) ws) ≡ ws
cut_sets w i c ws h e =
    let fits : i * w + length ws ≤ length c = omega arith in
    ap (λ l. take w (drop (i * w) l)) (sets-eq ws c (i * w) fits ∙ append_assoc (take (i * w) c) ws (drop (i * w + length ws) c))
    ∙ ap (take w) (drop_at (take (i * w) c) (ws ++ drop (i * w + length ws) c) (i * w) (length-take-le (i * w) c (omega arith)))
    ∙ take_at ws (drop (i * w + length ws) c) w e

-- a row moved, if there is room for both
pub moved_is : (w from to : ℕ) (c : List ℕ) → from < length c / w → to < length c / w → row_moved w from to c ≡ sets c (to * w) (cut w from c)
unfolding row_moved
moved_is w from to c h k = rw (lt-ltb from (length c / w) h, lt-ltb to (length c / w) k)

pub moved_not : (w from to : ℕ) (c : List ℕ) → (length c / w ≤ from) ⊎ (length c / w ≤ to) → row_moved w from to c ≡ c
unfolding row_moved
moved_not w from to c (inl h) = rw (le-ltb from (length c / w) h)
moved_not w from to c (inr h) = rw (le-ltb to (length c / w) h, and-false (ltb from (length c / w)))

module _ {A : Type 0} (w : ℕ) (of : List ℕ → A) where
  -- a row stored whole
  pub rows_put : (c ws : List ℕ) (i : ℕ) → i < length c / w → length ws ≡ w → rows w of (sets c (i * w) ws) ≡ set (rows w of c) i (of ws)
  rows_put c ws i h e =
      rows_change w of c (sets c (i * w) ws) i h (length-sets c (i * w) ws)
      (λ k s. sets_out ws c (i * w) k (rw e s))
      ∙ ap (λ x. set (rows w of c) i (of x)) (cut_sets w i c ws (row_fits w i c h) e)

  -- a row stored at another's place
  pub rows_move : (c : List ℕ) (i j : ℕ) (d : A) → i < length c / w → j < length c / w → rows w of (row_moved w j i c) ≡ set (rows w of c) i (get_or (rows w of c) j d)
  rows_move c i j d h k =
      ap (rows w of) (moved_is w j i c k h) ∙ rows_put c (cut w j c) i h (cut_long w j c (row_fits w j c k)) ∙ ap (set (rows w of c) i) (sym (rows_at w of c j d k))

  -- one word of a row stored
  pub rows_word : (c : List ℕ) (i k x : ℕ) → i < length c / w → k < w → rows w of (set c (i * w + k) x) ≡ set (rows w of c) i (of (set (cut w i c) k x))
  rows_word c i k x h b =
      rows_change w of c (set c (i * w + k) x) i h (length-set c (i * w + k) x)
      (λ m s. get_or-set_other c (i * w + k) m x 0 (apart m s))
      ∙ ap (λ l. set (rows w of c) i (of l)) (ap (take w) (drop-set-add (i * w) c k x) ∙ take-set-lt w (drop (i * w) c) k x b)
    where
      apart : (m : ℕ) → (m < i * w) ⊎ (i * w + w ≤ m) → m ≡ i * w + k → ⊥
      apart m (inl s) q = omega arith
      apart m (inr s) q = omega arith

-- ---- what is done to the words of each row is done to what they stand for
from_cuts : {A : Type 0} (w : ℕ) (of : List ℕ → A) (n : ℕ) (c : List ℕ) → rows_from w of n c ≡ map of (rows_from w (λ ws. ws) n c)
from_cuts w of zero c = refl
from_cuts w of (suc n) c = ap (λ l. of (take w c) ∷ l) (from_cuts w of n (drop w c))

pub rows_cuts : {A : Type 0} (w : ℕ) (of : List ℕ → A) (c : List ℕ) → rows w of c ≡ map of (cuts w c)
unfolding rows
rows_cuts w of c = from_cuts w of (length c / w) c

-- ---- the same past the end, so that reads and stores of any row have one meaning: a read there gives the row of no words, a
-- store changes nothing
module _ {A : Type 0} (w : ℕ) (of : List ℕ → A) where
  -- a row read
  pub row_is : (c : List ℕ) (i : ℕ) → get_or (rows w of c) i (of []) ≡ of (row_at w i c)
  row_is c i = ap (λ l. get_or l i (of [])) (rows_cuts w of c) ∙ get_or-map of (cuts w c) i []

  pub rows_past : (c : List ℕ) (i : ℕ) (d : A) → length c / w ≤ i → get_or (rows w of c) i d ≡ d
  rows_past c i d h =
      let past : length (rows w of c) ≤ i = omega (arith, rows_long w of c) in
      get_or-eq_default (rows w of c) d past

  pub rows_kept : (c : List ℕ) (i : ℕ) (x : A) → length c / w ≤ i → rows w of c ≡ set (rows w of c) i x
  rows_kept c i x h = sym (set_out (rows w of c) i x (omega (arith, rows_long w of c)))

  -- a row stored
  pub put_is : (c ws : List ℕ) (i : ℕ) → length ws ≡ w → rows w of (row_put w i ws c) ≡ set (rows w of c) i (of ws)
  unfolding row_put
  put_is c ws i e = go (ltb i (length c / w)) refl
    where
      go : (b : Bool) → ltb i (length c / w) ≡ b → rows w of (cond (b && eqb (length ws) w) (sets c (i * w) ws) c) ≡ set (rows w of c) i (of ws)
      go true p = rw (eq-eqb (length ws) w e) (rows_put w of c ws i (ltb-true i (length c / w) p) e)
      go false p = rows_kept c i (of ws) (ltb-false i (length c / w) p)

  -- one word of a row stored
  pub word_is : (c : List ℕ) (i k x : ℕ) → k < w → rows w of (word_put w i k x c) ≡ set (rows w of c) i (of (set (row_at w i c) k x))
  unfolding word_put
  word_is c i k x h = go (ltb i (length c / w)) refl
    where
      go : (b : Bool) → ltb i (length c / w) ≡ b → rows w of (cond (b && ltb k w) (set c (i * w + k) x) c) ≡ set (rows w of c) i (of (set (row_at w i c) k x))
      go true p =
          let inside : i < length c / w = ltb-true i (length c / w) p in
          rw (lt-ltb k w h) (rows_word w of c i k x inside h ∙ ap (λ l. set (rows w of c) i (of (set l k x))) (sym (rows_at w (λ ws. ws) c i [] inside)))
      go false p = rows_kept c i (of (set (row_at w i c) k x)) (ltb-false i (length c / w) p)

-- what a store does, by its tests
pub put_on : (w i : ℕ) (ws c : List ℕ) → i < length c / w → length ws ≡ w → row_put w i ws c ≡ sets c (i * w) ws
unfolding row_put
put_on w i ws c h e = rw (lt-ltb i (length c / w) h, eq-eqb (length ws) w e)

pub put_off : (w i : ℕ) (ws c : List ℕ) → (length c / w ≤ i) ⊎ (length ws ≡ w → ⊥) → row_put w i ws c ≡ c
unfolding row_put
put_off w i ws c (inl h) = rw (le-ltb i (length c / w) h)
put_off w i ws c (inr h) = rw (ne_eqb (length ws) w h, and-false (ltb i (length c / w)))

pub word_on : (w i k x : ℕ) (c : List ℕ) → i < length c / w → k < w → word_put w i k x c ≡ set c (i * w + k) x
unfolding word_put
word_on w i k x c h b = rw (lt-ltb i (length c / w) h, lt-ltb k w b)

pub word_off : (w i k x : ℕ) (c : List ℕ) → (length c / w ≤ i) ⊎ (w ≤ k) → word_put w i k x c ≡ c
unfolding word_put
word_off w i k x c (inl h) = rw (le-ltb i (length c / w) h)
word_off w i k x c (inr h) = rw (le-ltb k w h, and-false (ltb i (length c / w)))

-- a store keeps the length
pub cond_long : (b : Bool) (c e : List ℕ) → length e ≡ length c → length (cond b e c) ≡ length c
cond_long true c e h = h
cond_long false c e h = refl

pub moved_long : (w from to : ℕ) (c : List ℕ) → length (row_moved w from to c) ≡ length c
unfolding row_moved
moved_long w from to c = cond_long (ltb from (length c / w) && ltb to (length c / w)) c (sets c (to * w) (cut w from c)) (length-sets c (to * w) (cut w from c))

-- a row that there is room for has w words, and its word k stands at i * w + k
pub at_long : (w i : ℕ) (c : List ℕ) → i < length c / w → length (row_at w i c) ≡ w
at_long w i c h = ap length (rows_at w (λ ws. ws) c i [] h) ∙ cut_long w i c (row_fits w i c h)

pub at_word : (w i k : ℕ) (c : List ℕ) → i < length c / w → k < w → get_or (row_at w i c) k 0 ≡ get_or c (i * w + k) 0
at_word w i k c h b = ap (λ l. get_or l k 0) (rows_at w (λ ws. ws) c i [] h) ∙ cut_at w i k 0 c b

-- past the end, or past the row, there is no word
pub no_word : (w i k : ℕ) (c : List ℕ) → (length c / w ≤ i) ⊎ (w ≤ k) → get_or (row_at w i c) k 0 ≡ 0
no_word w i k c (inl h) = ap (λ l. get_or l k 0) (rows_past w (λ ws. ws) c i [] h)
no_word w i k c (inr h) = go (ltb i (length c / w)) refl
  where
    go : (b : Bool) → ltb i (length c / w) ≡ b → get_or (row_at w i c) k 0 ≡ 0
    go true p =
        let long : length (row_at w i c) ≡ w = at_long w i c (ltb-true i (length c / w) p) in
        get_or-eq_default (row_at w i c) 0 (omega arith)
    go false p = ap (λ l. get_or l k 0) (rows_past w (λ ws. ws) c i [] (ltb-false i (length c / w) p))
