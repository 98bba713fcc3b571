-- Loops that change a list of rows in place: closing gaps, changing each row, making room for one more. Each has an invariant
-- of the list as it was, `old`, and as it is, `new`, and a law for each way through the loop's body; `d` is what `get_or` gives
-- past the end, and plays no part.
use Prim.Native.Nat.{ℕ, suc, ◌+◌, ◌≤◌, ◌<◌}
use native.Mathlib.Omega.{arith}
use native.Mathlib.Nat.{add-zero}
use native.Mathlib.Numerals.{add-one}
use mathlib.Core.Path.{◌≡◌, refl, sym, ap, ◌∙◌}
use mathlib.Core.List.{List, [], ◌∷◌, ◌++◌, map}
use mathlib.Core.Bool.{Bool, true, false}
use lib.ListN.{length, take, drop, get_or, set, length-set, length-map, length-take, drop_of_length-le}
use lib.Seq.{get_or-drop, get_or-take, take-take, take-set-le, drop-set-lt, take-set-lt, get_or-set_same, lt-length-set, set_split}
use Rattle.std.specs.Prelude.{filter}
use Rattle.std.proofs.lemmas.List.{map-append, take-map, drop-map, drop_more, take_more_set, take_more}
use Rattle.std.proofs.lemmas.Grind.{drop_more_same}
use Rattle.lists.proofs.Filter.{filter_snoc_on, filter_snoc_off}
use Rattle.lists.proofs.Table.{left_row, filter_row, drop_row}

-- what is left at i is known: so is the row at i
pub left_same : {A : Type 0} (d : A) (old new : List A) (i : ℕ) → drop i new ≡ drop i old → get_or new i d ≡ get_or old i d
left_same d old new i e =
    ap (λ k. get_or new k d) (sym (add-zero i)) ∙ sym (get_or-drop i new 0 d) ∙ ap (λ l. get_or l 0 d) e ∙ get_or-drop i old 0 d ∙ ap (λ k. get_or old k d) (add-zero i)

-- ---- closing gaps: the loop reads row i, and stores it at the next place w if it passes

pub record Closing {A : Type 0} (t : A → Bool) (old new : List A) (i w : ℕ) : Type 0 where
  pub low : w ≤ i
  pub long : length new ≡ length old
  pub front : take w new ≡ filter t (take i old)
  pub left : drop i new ≡ drop i old

module _ {A : Type 0} (d : A) (t : A → Bool) where
  -- the row that the loop reads is the old one
  pub closing_row : (old new : List A) (i w : ℕ) → Closing t old new i w → get_or new i d ≡ get_or old i d
  closing_row old new i w inv = left_same d old new i inv.left

  module _ (old new : List A) (i w : ℕ) (h : i < length old) (inv : Closing t old new i w) where
    pub closing_keep : t (get_or new i d) ≡ true → Closing t old (set new w (get_or new i d)) (i + 1) (w + 1)
    closing_keep p =
        let same : get_or new i d ≡ get_or old i d = left_same d old new i inv.left in
        let room : w < length new = omega (arith, inv.low, inv.long) in
        record {
          low = omega (arith, inv.low);
          long = length-set new w (get_or new i d) ∙ inv.long;
          front = rw same (filter_row d t old new i w h room inv.front (sym (ap t same) ∙ p));
          left = drop-set-lt (i + 1) new w (get_or new i d) (omega (arith, inv.low)) ∙ drop_more_same new old i inv.left;
        }

    pub closing_drop : t (get_or new i d) ≡ false → Closing t old new (i + 1) w
    closing_drop p =
        let same : get_or new i d ≡ get_or old i d = left_same d old new i inv.left in
        record {
          low = omega (arith, inv.low);
          long = inv.long;
          front = drop_row d t old new i w h inv.front (sym (ap t same) ∙ p);
          left = drop_more_same new old i inv.left;
        }

-- ---- gathering: what f says of each row that passes is stored at the next place k of another list, of m places

pub record Gathering {A B : Type 0} (t : A → Bool) (f : A → B) (m : ℕ) (rows : List A) (out : List B) (i k : ℕ) : Type 0 where
  pub low : k ≤ i
  pub long : length out ≡ m
  pub front : take k out ≡ map f (filter t (take i rows))

module _ {A B : Type 0} (d : A) (t : A → Bool) (f : A → B) (m : ℕ) (rows : List A) where
  module _ (out : List B) (i k : ℕ) (h : i < length rows) (inv : Gathering t f m rows out i k) where
    pub gathering_take : k < m → t (get_or rows i d) ≡ true → Gathering t f m rows (set out k (f (get_or rows i d))) (i + 1) (k + 1)
    gathering_take room p =
        let x = get_or rows i d in
        let inside : k < length out = omega (arith, inv.long) in
        record {
          low = omega (arith, inv.low);
          long = length-set out k (f x) ∙ inv.long;
          front =
              take_more_set out k (f x) inside
              ∙ ap (λ l. l ++ (f x ∷ [])) inv.front
              ∙ sym (map-append f (filter t (take i rows)) (x ∷ []))
              ∙ ap (map f) (sym (filter_snoc_on t (take i rows) x p) ∙ ap (filter t) (sym (take_more rows i d h)));
        }

    pub gathering_pass : t (get_or rows i d) ≡ false → Gathering t f m rows out (i + 1) k
    gathering_pass p =
        record {
          low = omega (arith, inv.low);
          long = inv.long;
          front = inv.front ∙ ap (map f) (sym (filter_snoc_off t (take i rows) (get_or rows i d) p) ∙ ap (filter t) (sym (take_more rows i d h)));
        }

-- ---- changing each row: the first i of the first n rows are changed

pub record Changing {A : Type 0} (f : A → A) (old new : List A) (i : ℕ) : Type 0 where
  pub long : length new ≡ length old
  pub front : take i new ≡ map f (take i old)
  pub left : drop i new ≡ drop i old

module _ {A : Type 0} (d : A) (f : A → A) where
  pub changing_more : (old new : List A) (i : ℕ) → i < length old → Changing f old new i → Changing f old (set new i (f (get_or new i d))) (i + 1)
  changing_more old new i h inv =
      let same : get_or new i d ≡ get_or old i d = left_same d old new i inv.left in
      let room : i < length new = omega (arith, inv.long) in
      record {
        long = length-set new i (f (get_or new i d)) ∙ inv.long;
        front =
            take_more_set new i (f (get_or new i d)) room
            ∙ ap (λ l. l ++ (f (get_or new i d) ∷ [])) inv.front
            ∙ ap (λ x. map f (take i old) ++ (f x ∷ [])) same
            ∙ sym (ap (map f) (take_more old i d h) ∙ map-append f (take i old) (get_or old i d ∷ []));
        left = drop-set-lt (i + 1) new i (f (get_or new i d)) (omega arith) ∙ drop_more_same new old i inv.left;
      }

-- ---- making room at place p among the first n rows: the loop stores row j - 1 at j, from j = n down to p

pub record Opening {A : Type 0} (old new : List A) (n j : ℕ) : Type 0 where
  pub high : j ≤ n
  pub long : length new ≡ length old
  pub front : take j new ≡ take j old
  pub back : drop (j + 1) (take (n + 1) new) ≡ drop j (take n old)

module _ {A : Type 0} (d : A) where
  pub opening_start : (old : List A) (n : ℕ) → Opening old old n n
  opening_start old n =
      let more : length (take (n + 1) old) ≤ n + 1 = omega (arith, length-take (n + 1) old) in
      let past : length (take n old) ≤ n = omega (arith, length-take n old) in
      record {
        high = omega arith;
        long = refl;
        front = refl;
        back = drop_of_length-le (take (n + 1) old) more ∙ sym (drop_of_length-le (take n old) past);
      }

  module _ (old new : List A) (n j : ℕ) (h : n < length old) (inv : Opening old new n (j + 1)) where
    pub opening_more : Opening old (set new (j + 1) (get_or new j d)) n j
    opening_more =
        let same : get_or new j d ≡ get_or old j d =
        sym (get_or-take (j + 1) new j d (omega arith)) ∙ ap (λ l. get_or l j d) inv.front ∙ get_or-take (j + 1) old j d (omega arith) in
        let top : j + 1 < n + 1 = omega (arith, inv.high) in
        let room : j + 1 < length (take (n + 1) new) = omega (arith, inv.high, inv.long, length-take (n + 1) new) in
        let x = get_or new j d in
        record {
          high = omega (arith, inv.high);
          long = length-set new (j + 1) x ∙ inv.long;
          front = take-set-le j new (j + 1) x (omega arith) ∙ sym (take-take j (j + 1) new (omega arith)) ∙ ap (take j) inv.front ∙ take-take j (j + 1) old (omega arith);
          back =
              ap (drop (j + 1)) (take-set-lt (n + 1) new (j + 1) x top)
              ∙ drop_more (set (take (n + 1) new) (j + 1) x) (j + 1) d (lt-length-set (take (n + 1) new) (j + 1) x room)
              ∙ ap (λ y. y ∷ drop (j + 1 + 1) (set (take (n + 1) new) (j + 1) x)) (get_or-set_same (take (n + 1) new) (j + 1) x d room ∙ same)
              ∙ ap (λ l. get_or old j d ∷ l) (drop-set-lt (j + 1 + 1) (take (n + 1) new) (j + 1) x (omega arith) ∙ inv.back)
              ∙ sym (left_row d old n j (omega (arith, inv.high)) (omega arith));
        }

  -- and the new row stands at p
  pub opening_put : (old new : List A) (n p : ℕ) (x : A) → n < length old → Opening old new n p → take (n + 1) (set new p x) ≡ take p old ++ (x ∷ drop p (take n old))
  opening_put old new n p x h inv =
      let room : p < length (take (n + 1) new) = omega (arith, inv.high, inv.long, length-take (n + 1) new) in
      take-set-lt (n + 1) new p x (omega (arith, inv.high))
      ∙ set_split (take (n + 1) new) p x room
      ∙ ap (λ l. l ++ (x ∷ drop (suc p) (take (n + 1) new))) (take-take p (n + 1) new (omega (arith, inv.high)) ∙ inv.front)
      ∙ ap (λ l. take p old ++ (x ∷ l)) (ap (λ k. drop k (take (n + 1) new)) (sym (add-one p)) ∙ inv.back)

-- the same of what the rows stand for
module _ {A B : Type 0} (f : A → B) where
  pub opening_map : (old new : List A) (n j : ℕ) → Opening old new n j → Opening (map f old) (map f new) n j
  opening_map old new n j inv =
      record {
        high = inv.high;
        long = length-map new f ∙ inv.long ∙ sym (length-map old f);
        front = take-map f j new ∙ ap (map f) inv.front ∙ sym (take-map f j old);
        back =
            ap (drop (j + 1)) (take-map f (n + 1) new) ∙ drop-map f (j + 1) (take (n + 1) new)
            ∙ ap (map f) inv.back
            ∙ sym (ap (drop j) (take-map f n old) ∙ drop-map f j (take n old));
      }
