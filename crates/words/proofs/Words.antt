-- Words stored from a place on, and words moved within a list.
use Prim.Native.Nat.{ℕ, zero, suc, ◌+◌, ◌*◌, ◌-◌, ◌≤◌, ◌<◌, min}
use native.Mathlib.Nat.{suc-mul, mul-le-mul_right}
use native.Mathlib.Omega.{arith}
use native.Mathlib.Numerals.{add-one}
use mathlib.Core.Bool.{Bool, true, false}
use mathlib.Core.Path.{◌≡◌, refl, sym, ap, subst, ◌∙◌}
use mathlib.Core.Logic.{inl, inr}
use mathlib.Core.List.{List, [], ◌∷◌, ◌++◌}
use lib.Dec.{leb, ltb}
use lib.ListN.{length, take, drop, get_or, set, length-set, length-drop, drop_of_length-le}
use lib.Seq.{set_out, drop-cons, get_or-set_other, set-get_or, sets, sets-eq, paste, take_all, length-take-le}
use borrow.Author.Tests.{leb-true, leb-false, ltb-true, ltb-false}
use Rattle.std.proofs.lemmas.List.{drop_more}
use Rattle.words.specs.Rows.{Apart}

-- n elements from k on, one by one
abbrev pub spell : ℕ → ℕ → List ℕ → List ℕ
spell k zero l = []
spell k (suc n) l = get_or l k 0 ∷ spell (suc k) n l

spell_is : (k n : ℕ) (l : List ℕ) → k + n ≡ length l → spell k n l ≡ drop k l
spell_is k zero l h =
    let past : length l ≤ k = omega arith in
    sym (drop_of_length-le l past)
spell_is k (suc n) l h =
    let next : suc k + n ≡ length l = omega arith in
    let inside : k < length l = omega arith in
    ap (λ r. get_or l k 0 ∷ r) (spell_is (suc k) n l next) ∙ sym (drop-cons l k 0 inside)

-- a list of n elements is these: so what a function says of the words of a row is computed, with n written out
pub spelled : (n : ℕ) (l : List ℕ) → length l ≡ n → spell 0 n l ≡ l
spelled n l h = spell_is 0 n l (omega arith)

-- past the end nothing is stored
pub sets_past : (ws c : List ℕ) (at : ℕ) → length c ≤ at → sets c at ws ≡ c
sets_past [] c at h = refl
sets_past (x ∷ ws) c at h = rw (set_out c at x h) (sets_past ws c (suc at) (omega arith))

-- words stored where they stand
pub sets_self : (n at : ℕ) (c : List ℕ) → sets c at (take n (drop at c)) ≡ c
sets_self zero at c = refl
sets_self (suc n) at c = go (ltb at (length c)) refl (sets_self n (suc at) c)
  where
    go : (b : Bool) → ltb at (length c) ≡ b → sets c (suc at) (take n (drop (suc at) c)) ≡ c → sets c at (take (suc n) (drop at c)) ≡ c
    go true e ih =
        let x = get_or c at 0 in
        ap (λ l. sets c at (take (suc n) l)) (drop-cons c at 0 (ltb-true at (length c) e))
        ∙ ap (λ l. sets l (suc at) (take n (drop (suc at) c))) (set-get_or c at 0)
        ∙ ih
    go false e ih =
        let past : length c ≤ at = ltb-false at (length c) e in
        ap (λ l. sets c at (take (suc n) l)) (drop_of_length-le c past)

-- what would stand past the end is left out
sets_clip : (n at : ℕ) (ws c : List ℕ) → n + at ≡ length c → sets c at ws ≡ sets c at (take n ws)
sets_clip zero at ws c e = sets_past ws c at (omega arith)
sets_clip (suc n) at [] c e = refl
sets_clip (suc n) at (x ∷ ws) c e = sets_clip n (suc at) ws (set c at x) (rw length-set (omega arith))

-- as many words as there is room for, copied
pub sets_copied : (ws c zs : List ℕ) (at n : ℕ) → at ≤ length c → n ≡ min (length ws) (length c - at) → zs ≡ take n ws → paste c at zs n ≡ sets c at ws
sets_copied ws c zs at n h k e =
    let long : length zs ≡ n = ap length e ∙ length-take-le n ws (omega arith) in
    ap (λ l. take at c ++ l ++ drop (at + n) c) (take_all n zs (omega arith))
    ∙ ap (λ m. take at c ++ zs ++ drop (at + m) c) (sym long)
    ∙ sym (sets-eq zs c at (omega arith))
    ∙ ap (sets c at) e
    ∙ sym (go (leb (length ws) (length c - at)) refl)
  where
    go : (b : Bool) → leb (length ws) (length c - at) ≡ b → sets c at ws ≡ sets c at (take n ws)
    go true p = let few : length ws ≤ n = omega (arith, leb-true (length ws) (length c - at) p) in ap (sets c at) (sym (take_all n ws few))
    go false p = sets_clip n at ws c (omega (arith, leb-false (length ws) (length c - at) p))

-- words copied within a list
pub sets_within : (c : List ℕ) (from to w : ℕ) → from + w ≤ length c → to + w ≤ length c → paste c to (drop from c) w ≡ sets c to (take w (drop from c))
sets_within c from to w h k =
    let long : length (take w (drop from c)) ≡ w = length-take-le w (drop from c) (rw length-drop (omega arith)) in
    sym (sets-eq (take w (drop from c)) c to (rw long k) ∙ ap (λ m. take to c ++ take w (drop from c) ++ drop (to + m) c) long)

-- two rows, or one
pub apart : (w i j : ℕ) → Apart (i * w) (j * w) w
apart w i j = go (leb j i) refl
  where
    go : (b : Bool) → leb j i ≡ b → Apart (i * w) (j * w) w
    go true e = inl (mul-le-mul_right w (leb-true j i e))
    go false e =
        let up : suc i * w ≤ j * w = mul-le-mul_right w (leb-false j i e) in
        let next : suc i * w ≡ i * w + w = suc-mul i w in
        inr (omega arith)

-- the words that are moved, as they are left at a, b, with k to go
pub record Moving (old new : List ℕ) (from to n a b k : ℕ) : Type 0 where
  pub fewer : k ≤ n
  pub source : a + k ≡ from + n
  pub target : b + k ≡ to + n
  pub long : length new ≡ length old
  pub same : (j : ℕ) → a ≤ j → j < from + n → get_or new j 0 ≡ get_or old j 0
  pub whole : sets new b (take k (drop a old)) ≡ sets old to (take n (drop from old))

module _ (old : List ℕ) (from to n : ℕ) where
  pub moving_start : Moving old old from to n from to n
  moving_start = record { fewer = omega arith; source = refl; target = refl; long = refl; same = λ j x y. refl; whole = refl }

  module _ (new : List ℕ) (a b k : ℕ) (inv : Moving old new from to n a b k) (h : a < length new) where
    pub moving_more : 0 < k → Apart from to n → Moving old (set new b (get_or new a 0)) from to n (a + 1) (b + 1) (k - 1)
    moving_more more apart =
        let split : k ≡ suc (k - 1) = omega arith in
        let s = inv.source in
        let t = inv.target in
        let inside : a < length old = omega (arith, inv.long) in
        let same-a : get_or new a 0 ≡ get_or old a 0 = inv.same a (omega arith) (omega arith) in
        record {
          fewer = omega (arith, inv.fewer);
          source = omega arith;
          target = omega arith;
          long = length-set new b (get_or new a 0) ∙ inv.long;
          same = λ j x y. get_or-set_other new b j (get_or new a 0) 0 (λ q. away more j x y q apart) ∙ inv.same j (omega arith) y;
          whole =
              rw same-a (sym (ap (λ l. sets new b l) (ap (λ m. take m (drop a old)) split ∙ ap (take (suc (k - 1))) (drop_more old a 0 inside)) ∙ ap (λ m. sets (set new b (get_or old a 0)) m (take (k - 1) (drop (a + 1) old))) (sym (add-one b))))
              ∙ inv.whole;
        }
      where
        away : 0 < k → (j : ℕ) → a + 1 ≤ j → j < from + n → j ≡ b → Apart from to n → ⊥
        away z j x y q (inl u) = omega (arith, inv.fewer, inv.source, inv.target)
        away z j x y q (inr u) = omega (arith, inv.fewer, inv.source, inv.target)

  module _ (new : List ℕ) (a b k : ℕ) (inv : Moving old new from to n a b k) where
    -- all are moved
    pub moving_done : k ≡ 0 → new ≡ sets old to (take n (drop from old))
    moving_done e = sym (ap (λ m. sets new b (take m (drop a old))) e) ∙ inv.whole

  -- counted by how many are moved: none
  pub moving_none : Moving old old from to n (from + 0) (to + 0) (n - 0)
  moving_none =
      let a : from ≡ from + 0 = omega arith in
      let b : to ≡ to + 0 = omega arith in
      let k : n ≡ n - 0 = omega arith in
      subst (λ m. Moving old old from to n m (to + 0) (n - 0)) a (subst (λ m. Moving old old from to n from m (n - 0)) b (subst (λ m. Moving old old from to n from to m) k moving_start))

  -- and one more
  pub moving_next :
      (new : List ℕ) (i : ℕ) → Moving old new from to n (from + i) (to + i) (n - i) → i < n → from + n ≤ length old → Apart from to n
      → Moving old (set new (to + i) (get_or new (from + i) 0)) from to n (from + (i + 1)) (to + (i + 1)) (n - (i + 1))
  moving_next new i inv h fits apart =
      let x = set new (to + i) (get_or new (from + i) 0) in
      let inside : from + i < length new = omega (arith, inv.long) in
      let moved : Moving old x from to n (from + i + 1) (to + i + 1) (n - i - 1) = moving_more new (from + i) (to + i) (n - i) inv inside (omega arith) apart in
      let a : from + i + 1 ≡ from + (i + 1) = omega arith in
      let b : to + i + 1 ≡ to + (i + 1) = omega arith in
      let k : n - i - 1 ≡ n - (i + 1) = omega arith in
      subst (λ m. Moving old x from to n m (to + (i + 1)) (n - (i + 1))) a
      (subst (λ m. Moving old x from to n (from + i + 1) m (n - (i + 1))) b (subst (λ m. Moving old x from to n (from + i + 1) (to + i + 1) m) k moved))
