-- The laws of loops that look for the first row that passes, and of a table's count after a change.
use Prim.Native.Nat.{ℕ, zero, suc, ◌+◌, ◌/◌, ◌≤◌, ◌<◌, min}
use native.Mathlib.Omega.{arith}
use mathlib.Core.Path.{◌≡◌, refl, sym, ap, ◌∙◌, subst}
use mathlib.Core.List.{List, [], ◌∷◌, ◌++◌}
use Rattle.std.specs.Prelude.{None, Some, filter, find}
use mathlib.Core.Bool.{Bool, true, false, not, cond}
use lib.ListN.{length, take, get_or, set, length-take}
use lib.Dec.{ltb}
use borrow.Author.Tests.{ltb-true, ltb-false, eq-eqb}
use Rattle.std.proofs.lemmas.List.{length-set}
use lib.Seq.{get_or-take, length-take-le}
use Rattle.words.specs.Rows.{rows, row_put, rows_counted, rows_appended}
use Rattle.words.specs.Place.{place_of, Holds}
use Rattle.words.proofs.Rows.{rows_long, rows_kept, put_is}
use Rattle.words.proofs.InWords.{ClosingIn, words_done, take_count, words_push, words_full}

module _ {A : Type 0} (q : A → Bool) where
  pub place_le : (l : List A) → place_of q l ≤ length l
  unfolding place_of
  place_le [] = omega arith
  place_le (x ∷ l) = go (q x) (place_le l)
    where
      go : (b : Bool) → place_of q l ≤ length l → cond b zero (suc (place_of q l)) ≤ suc (length l)
      go true h = omega arith
      go false h = omega arith

  -- what is found is the row at that place
  pub place_found : (d : A) (l : List A) → place_of q l < length l → find q l ≡ Some (get_or l (place_of q l) d)
  unfolding place_of
  place_found d [] h = absurd (omega arith)
  place_found d (x ∷ l) h = go (q x) h (place_found d l)
    where
      go : (b : Bool) → cond b zero (suc (place_of q l)) < suc (length l) → (place_of q l < length l → find q l ≡ Some (get_or l (place_of q l) d))
          → cond b (Some x) (find q l) ≡ Some (get_or (x ∷ l) (cond b zero (suc (place_of q l))) d)
      go true h ih = refl
      go false h ih = ih (omega arith)

  pub place_lost : (l : List A) → length l ≤ place_of q l → find q l ≡ None
  unfolding place_of
  place_lost [] h = refl
  place_lost (x ∷ l) h = go (q x) h (place_lost l)
    where
      go : (b : Bool) → suc (length l) ≤ cond b zero (suc (place_of q l)) → (length l ≤ place_of q l → find q l ≡ None) → cond b (Some x) (find q l) ≡ None
      go true h ih = absurd (omega arith)
      go false h ih = ih (omega arith)

  -- those before it do not pass
  pub place_keep : (l : List A) → filter (λ x. not (q x)) (take (place_of q l) l) ≡ take (place_of q l) l
  unfolding place_of
  place_keep [] = refl
  place_keep (x ∷ l) = go (q x) refl (place_keep l)
    where
      go : (b : Bool) → q x ≡ b → filter (λ y. not (q y)) (take (place_of q l) l) ≡ take (place_of q l) l
          → filter (λ y. not (q y)) (take (cond b zero (suc (place_of q l))) (x ∷ l)) ≡ take (cond b zero (suc (place_of q l))) (x ∷ l)
      go true e ih = refl
      go false e ih = ap (λ b. cond (not b) (x ∷ (filter (λ y. not (q y)) (take (place_of q l) l))) (filter (λ y. not (q y)) (take (place_of q l) l))) e ∙ ap (λ m. x ∷ m) ih

-- how many rows a count stands for
pub counted : {A : Type 0} (w : ℕ) (of : List ℕ → A) (c : List ℕ) (count n : ℕ) → n ≡ min count (length c / w) → length (take count (rows w of c)) ≡ n
counted w of c count n e = length-take count (rows w of c) ∙ ap (min count) (rows_long w of c) ∙ sym e

-- what is left of the rows, and how many
module _ {A : Type 0} (w : ℕ) (of : List ℕ → A) (old new : List ℕ) where
  pub closed : (t : A → Bool) (count n i k : ℕ) → n ≡ min count (length old / w) → n ≤ i → ClosingIn w of t old new n i k → Holds (rows w of new) k (filter t (take count (rows w of old)))
  closed t count n i k e over inv =
      let is : take k (rows w of new) ≡ filter t (take count (rows w of old)) = words_done w of t old new count n i k e over inv in
      let same : length new / w ≡ length old / w = ap (λ m. m / w) inv.1 in
      let room : k ≤ length (rows w of new) = omega (arith, rows_long w of new, inv.0, inv.2.low) in
      record { is = is; many = sym (length-take-le k (rows w of new) room) ∙ ap length is }

-- a count above the room is the room
pub holds_count : {A : Type 0} (w : ℕ) (of : List ℕ → A) (c : List ℕ) (count n : ℕ) → n ≡ min count (length c / w) → Holds (rows w of c) n (take count (rows w of c))
holds_count w of c count n e = record { is = take_count w of c count n e; many = sym (counted w of c count n e) }

-- the first r rows, where there are as many, are r
pub holds_rows : {A : Type 0} (w : ℕ) (of : List ℕ → A) (c : List ℕ) (r : ℕ) (l : List A) → r ≤ length c / w → take r (rows w of c) ≡ l → Holds (rows w of c) r l
holds_rows w of c r l h e =
    let long : r ≤ length (rows w of c) = omega (arith, rows_long w of c) in
    record { is = e; many = sym (length-take-le r (rows w of c) long) ∙ ap length e }

-- what a table holds is no more than there is room for
pub holds_room : {A : Type 0} (w : ℕ) (of : List ℕ → A) (c : List ℕ) (n : ℕ) (l : List A) → Holds (rows w of c) n l → n ≤ length c / w
holds_room w of c n l inv = omega (arith, rows_long w of c, inv.many, ap length inv.is, length-take n (rows w of c))

-- a row that was looked for by its place among the first `count`
module _ {A : Type 0} (w : ℕ) (of : List ℕ → A) (q : A → Bool) (c : List ℕ) (count r n : ℕ) (at : r ≡ place_of q (take count (rows w of c))) (many : n ≡ length (take count (rows w of c))) where
  pub found_in : r < n → find q (take count (rows w of c)) ≡ Some (get_or (rows w of c) r (of []))
  found_in h =
      let l = take count (rows w of c) in
      let below : r < count = omega (arith, length-take count (rows w of c)) in
      place_found q (of []) l (omega arith) ∙ ap (λ k. Some (get_or l k (of []))) (sym at) ∙ ap Some (get_or-take count (rows w of c) r (of []) below)

-- what storing a row behind the first `count` says of the rows that the words stand for
module _ {A : Type 0} (w : ℕ) (of : List ℕ → A) (old new ws : List ℕ) (count r : ℕ) (x : A) (long : length ws ≡ w) (is : of ws ≡ x) where
  pub appended : new ≡ row_put w (rows_counted w count old) ws old → r ≡ rows_appended w count ws old → (limit : ℕ) → length old / w ≡ limit
      → Holds (rows w of new) r (cond (ltb (length (take count (rows w of old))) limit) (take count (rows w of old) ++ (x ∷ [])) (take count (rows w of old)))
  appended put many limit e = go (ltb n (length old / w)) refl
    where
      n : ℕ
      n = rows_counted w count old

      l : List A
      l = take count (rows w of old)

      after : List A
      after = cond (ltb (length l) limit) (l ++ (x ∷ [])) l

      limited : cond (ltb (length l) (length old / w)) (l ++ (x ∷ [])) l ≡ after
      limited = ap (λ k. cond (ltb (length l) k) (l ++ (x ∷ [])) l) e

      stored : rows w of new ≡ set (rows w of old) n x
      stored = ap (rows w of) put ∙ put_is w of old ws n long ∙ ap (set (rows w of old) n) is

      same : length new / w ≡ length old / w
      same = sym (rows_long w of new) ∙ ap length stored ∙ length-set (rows w of old) n x ∙ rows_long w of old

      counts : rows_counted w (count + 1) old ≡ r
      counts = sym (many ∙ ap (λ b. cond b (rows_counted w (count + 1) old) n) (eq-eqb (length ws) w long))

      go : (b : Bool) → ltb n (length old / w) ≡ b → Holds (rows w of new) r after
      go true h =
          let room : n < length old / w = ltb-true n (length old / w) h in
          let more : n + 1 ≡ r = omega (arith, room, counts) in
          let fits : n + 1 ≤ length new / w = omega (arith, room, same) in
          subst (λ k. Holds (rows w of new) k after) more (holds_rows w of new (n + 1) after fits (words_push w of old new count n x refl room stored ∙ limited))
      go false h =
          let full : length old / w ≤ n = ltb-false n (length old / w) h in
          let as_many : n ≡ r = omega (arith, full, counts) in
          let fits : n ≤ length new / w = omega (arith, same) in
          let kept : rows w of new ≡ rows w of old = stored ∙ sym (rows_kept w of old n x full) in
          subst (λ k. Holds (rows w of new) k after) as_many (holds_rows w of new n after fits (ap (take n) kept ∙ words_full w of old old count n x refl full ∙ limited))
