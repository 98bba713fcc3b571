-- Laws of table.
use Prim.Native.Nat.{ℕ, ◌+◌, ◌≤◌, ◌<◌}
use native.Mathlib.Omega.{arith}
use mathlib.Core.Path.{◌≡◌, refl, sym, ap, ◌∙◌}
use mathlib.Core.List.{List, [], ◌∷◌, ◌++◌, map}
use mathlib.Core.Bool.{Bool, true, false, ◌||◌, cond}
use Rattle.std.specs.Prelude.{None, Some, find, filter, option_map}
use Rattle.std.specs.List.{list_any}
use Rattle.std.specs.Option.{unwrap_or}
use lib.ListN.{length, take, drop, get_or, set, drop_of_length-le}
use lib.Seq.{get_or-take, length-take-le}
use Rattle.std.proofs.lemmas.List.{drop_more, take_more, take_more_set}
use Rattle.lists.specs.Table.{lookup}
use Rattle.lists.proofs.Filter.{filter_snoc_on, filter_snoc_off}

module _ {A : Type 0} (d : A) where
  -- what is left, row by row
  pub left_row : (rows : List A) (k i : ℕ) → i < k → k ≤ length rows → drop i (take k rows) ≡ get_or rows i d ∷ drop (i + 1) (take k rows)
  left_row rows k i h t =
      let long : length (take k rows) ≡ k = length-take-le k rows t in
      let below : i < length (take k rows) = omega arith in
      drop_more (take k rows) i d below ∙ ap (λ x. x ∷ drop (i + 1) (take k rows)) (get_or-take k rows i d h)

-- Removal that closes the gap, in place: a loop reads row i of the old rows, and stores it at the next place w of the new
-- ones if it passes. What the first w new rows hold is what passes of the first i old ones.
module _ {A : Type 0} (d : A) (t : A → Bool) where
  pub filter_row : (old new : List A) (i w : ℕ) → i < length old → w < length new → take w new ≡ filter t (take i old) → t (get_or old i d) ≡ true
      → take (w + 1) (set new w (get_or old i d)) ≡ filter t (take (i + 1) old)
  filter_row old new i w h k e p =
      take_more_set new w (get_or old i d) k
      ∙ ap (λ z. z ++ (get_or old i d ∷ [])) e
      ∙ sym (filter_snoc_on t (take i old) (get_or old i d) p)
      ∙ ap (filter t) (sym (take_more old i d h))

  pub drop_row : (old new : List A) (i w : ℕ) → i < length old → take w new ≡ filter t (take i old) → t (get_or old i d) ≡ false
      → take w new ≡ filter t (take (i + 1) old)
  drop_row old new i w h e p =
      e ∙ sym (filter_snoc_off t (take i old) (get_or old i d) p) ∙ ap (filter t) (sym (take_more old i d h))

module _ {A R : Type 0} (d : A) (t : A → Bool) (f : A → R) (r : R) where
  -- No proof cites the next two: they say row by row what a walk of the table finds, as the table of promises in docs/TRACE.md states it,
  -- while the searches of the code cite `lookup_any` and `lookup_find`.
  pub lookup_hit : (l : List A) (i : ℕ) → i < length l → t (get_or l i d) ≡ true → lookup t f r (drop i l) ≡ f (get_or l i d)
  lookup_hit l i h p = ap (lookup t f r) (drop_more l i d h) ∙ rw p

  pub lookup_next : (l : List A) (i : ℕ) → i < length l → t (get_or l i d) ≡ false → lookup t f r (drop (i + 1) l) ≡ lookup t f r (drop i l)
  lookup_next l i h p = sym (ap (lookup t f r) (drop_more l i d h) ∙ rw p)

-- A lookup is a search: what `find` gives, read, or r; and whether a row passes is what the library's test of a list says.
module _ {A R : Type 0} (t : A → Bool) (f : A → R) (r : R) where
  pub lookup_find : (l : List A) → unwrap_or (option_map f (find t l)) r ≡ lookup t f r l
  lookup_find [] = refl
  lookup_find (x ∷ l) = go (t x) (lookup_find l)
    where
      go : (b : Bool) → unwrap_or (option_map f (find t l)) r ≡ lookup t f r l → unwrap_or (option_map f (cond b (Some x) (find t l))) r ≡ cond b (f x) (lookup t f r l)
      go true e = refl
      go false e = e

module _ {A : Type 0} (t : A → Bool) where
  pub lookup_any : (l : List A) → list_any t l ≡ lookup t (λ _. true) false l
  lookup_any [] = refl
  lookup_any (x ∷ l) = go (t x) (lookup_any l)
    where
      go : (b : Bool) → list_any t l ≡ lookup t (λ _. true) false l → (b || list_any t l) ≡ cond b true (lookup t (λ _. true) false l)
      go true e = refl
      go false e = e

-- a lookup in a table that is read row by row
pub lookup_map : {A B R : Type 0} (g : A → B) (t : B → Bool) (f : B → R) (r : R) (l : List A) → lookup t f r (map g l) ≡ lookup (λ x. t (g x)) (λ x. f (g x)) r l
lookup_map g t f r [] = refl
lookup_map g t f r (x ∷ l) = rw (lookup_map g t f r l)

-- A loop that looks for the first row that passes.
module _ {A : Type 0} (d : A) (q : A → Bool) where
  pub find_hit : (rows : List A) (k i : ℕ) → i < k → k ≤ length rows → q (get_or rows i d) ≡ true → find q (drop i (take k rows)) ≡ Some (get_or rows i d)
  find_hit rows k i h t p = ap (find q) (left_row d rows k i h t) ∙ rw p

  pub find_next : (rows : List A) (k i : ℕ) → i < k → k ≤ length rows → q (get_or rows i d) ≡ false → find q (drop (i + 1) (take k rows)) ≡ find q (drop i (take k rows))
  find_next rows k i h t p = sym (ap (find q) (left_row d rows k i h t) ∙ rw p)

pub find_over : {A : Type 0} (q : A → Bool) (rows : List A) (k i : ℕ) → i ≡ k → k ≤ length rows → find q (drop i (take k rows)) ≡ None
find_over q rows k i e t =
    let l : length (take k rows) ≡ k = length-take-le k rows t in
    let past : length (take k rows) ≤ i = omega arith in
    ap (find q) (drop_of_length-le (take k rows) past)
