-- A ring of n places, read from its oldest place on: what a store at the next place and one at any place make of it, and
-- what stands at a place. The laws hold for any n and any sort of row.
use Prim.Native.Nat.{ℕ, ◌+◌, ◌-◌, ◌≤◌, ◌<◌, min}
use native.Mathlib.Omega.{arith}
use native.Mathlib.Nat.{suc-add, zero-add}
use native.Mathlib.Decide.{dec_lt}
use mathlib.Core.Path.{◌≡◌, sym, ap, ◌∙◌}
use mathlib.Core.List.{List, [], ◌∷◌, ◌++◌, append-nil, append_assoc}
use lib.ListN.{length, take, drop, get_or, set, length-append, length-take, length-drop, length-set, drop_of_length-le, get_or-append}
use lib.Seq.{take_all, set-append_left, drop-set-lt, drop-set-add, take-set-le, take-set-lt, drop-append-le, drop-drop, get_or-append-add, get_or-drop, get_or-take}
use Rattle.std.proofs.lemmas.List.{take_more_set}
use Rattle.voice.specs.Steals.{last_of, turned}

-- a store past the first of two lists
set_right : {A : Type 0} (xs ys : List A) (n : ℕ) (a : A) → set (xs ++ ys) (length xs + n) a ≡ xs ++ set ys n a
set_right [] ys n a = ap (λ k. set ys k a) (zero-add n)
set_right (x ∷ xs) ys n a = ap (λ k. set (x ∷ (xs ++ ys)) k a) (suc-add (length xs) n) ∙ ap (λ r. x ∷ r) (set_right xs ys n a)

module _ {A : Type 0} (rows : List A) (n p : ℕ) (long : length rows ≡ n) (below : p < n) where
  pub turned_long : length (turned p rows) ≡ n
  turned_long = simp (length-append, length-drop, length-take) (omega arith)

  -- without the oldest
  turned_rest : drop 1 (turned p rows) ≡ drop (p + 1) rows ++ take p rows
  turned_rest =
      let one : 1 ≤ length (drop p rows) = simp length-drop (omega arith) in
      drop-append-le 1 (drop p rows) (take p rows) one ∙ ap (λ z. z ++ take p rows) (drop-drop 1 p rows)

  turned_store : (r : A) → drop (p + 1) (set rows p r) ++ take (p + 1) (set rows p r) ≡ drop 1 (turned p rows) ++ (r ∷ [])
  turned_store r =
      let fit : p < length rows = omega arith in
      let next : p < p + 1 = omega arith in
      ap (λ z. z ++ take (p + 1) (set rows p r)) (drop-set-lt (p + 1) rows p r next)
      ∙ ap (λ z. drop (p + 1) rows ++ z) (take_more_set rows p r fit)
      ∙ sym (append_assoc (drop (p + 1) rows) (take p rows) (r ∷ []))
      ∙ ap (λ z. z ++ (r ∷ [])) (sym turned_rest)

  -- one more: it takes the place of the oldest, and q is the place after it
  pub turned_push : (r : A) (q : ℕ) → (p + 1 < n → q ≡ p + 1) → (p + 1 ≡ n → q ≡ 0) → turned q (set rows p r) ≡ drop 1 (turned p rows) ++ (r ∷ [])
  turned_push r q up wrap = go (dec_lt (p + 1) n)
    where
      go : Dec (p + 1 < n) → turned q (set rows p r) ≡ drop 1 (turned p rows) ++ (r ∷ [])
      go (yes h) = ap (λ m. turned m (set rows p r)) (up h) ∙ turned_store r
      go (no h) =
          let end : p + 1 ≡ n = omega (arith, h) in
          let over : length (set rows p r) ≤ p + 1 = simp length-set (omega arith) in
          ap (λ m. turned m (set rows p r)) (wrap end)
          ∙ append-nil (set rows p r)
          ∙ sym (take_all (p + 1) (set rows p r) over)
          ∙ ap (λ z. z ++ take (p + 1) (set rows p r)) (sym (drop_of_length-le (set rows p r) over))
          ∙ turned_store r

  -- the j-th from the oldest stands at the place q
  module _ (j q : ℕ) (inside : j < n) (up : p + j < n → q ≡ p + j) (wrap : n ≤ p + j → q ≡ p + j - n) where
    split : n ≤ p + j → j ≡ length (drop p rows) + (p + j - n)
    split h = simp length-drop (omega arith)

    pub turned_set : (x : A) → set (turned p rows) j x ≡ turned p (set rows q x)
    turned_set x = go (dec_lt (p + j) n)
      where
        go : Dec (p + j < n) → set (turned p rows) j x ≡ turned p (set rows q x)
        go (yes h) =
            let left : j < length (drop p rows) = simp length-drop (omega arith) in
            let near : p ≤ p + j = omega arith in
            set-append_left (drop p rows) (take p rows) j x left
            ∙ ap (λ z. z ++ take p rows) (sym (drop-set-add p rows j x))
            ∙ ap (λ z. drop p (set rows (p + j) x) ++ z) (sym (take-set-le p rows (p + j) x near))
            ∙ ap (λ m. turned p (set rows m x)) (sym (up h))
        go (no h) =
            let over : n ≤ p + j = omega (arith, h) in
            let m = p + j - n in
            let less : m < p = omega arith in
            ap (λ i. set (turned p rows) i x) (split over)
            ∙ set_right (drop p rows) (take p rows) m x
            ∙ ap (λ z. drop p rows ++ z) (sym (take-set-lt p rows m x less))
            ∙ ap (λ z. z ++ take p (set rows m x)) (sym (drop-set-lt p rows m x less))
            ∙ ap (λ i. turned p (set rows i x)) (sym (wrap over))

    pub turned_get : (d : A) → get_or (turned p rows) j d ≡ get_or rows q d
    turned_get d = go (dec_lt (p + j) n)
      where
        go : Dec (p + j < n) → get_or (turned p rows) j d ≡ get_or rows q d
        go (yes h) =
            let left : j < length (drop p rows) = simp length-drop (omega arith) in
            get_or-append (drop p rows) (take p rows) d j left ∙ get_or-drop p rows j d ∙ ap (λ m. get_or rows m d) (sym (up h))
        go (no h) =
            let over : n ≤ p + j = omega (arith, h) in
            let m = p + j - n in
            let less : m < p = omega arith in
            ap (λ i. get_or (turned p rows) i d) (split over)
            ∙ get_or-append-add (drop p rows) (take p rows) m d
            ∙ get_or-take p rows m d less
            ∙ ap (λ i. get_or rows i d) (sym (wrap over))

-- ---- the last of a list

module _ {A : Type 0} (l : List A) (n : ℕ) (long : length l ≡ n) where
  pub last_long : (k : ℕ) → k ≤ n → length (last_of k l) ≡ k
  last_long k h = simp length-drop (omega arith)

  -- the oldest is dropped and one is pushed: the last k + 1, of which at most n
  pub last_push : (k : ℕ) (r : A) → 0 < n → k ≤ n → last_of (min (k + 1) n) (drop 1 l ++ (r ∷ [])) ≡ last_of n (last_of k l ++ (r ∷ []))
  last_push k r some h = go (dec_lt k n)
    where
      size : length (drop 1 l ++ (r ∷ [])) ≡ n
      size = simp (length-append, length-drop) (omega arith)

      kept : length (last_of k l ++ (r ∷ [])) ≡ k + 1
      kept = simp (length-append, length-drop) (omega arith)

      go : Dec (k < n) → last_of (min (k + 1) n) (drop 1 l ++ (r ∷ [])) ≡ last_of n (last_of k l ++ (r ∷ []))
      go (yes less) =
          let a : length (drop 1 l ++ (r ∷ [])) - min (k + 1) n ≡ n - (k + 1) = omega (arith, size) in
          let b : length (last_of k l ++ (r ∷ [])) - n ≡ 0 = omega (arith, kept) in
          let fit : n - (k + 1) ≤ length (drop 1 l) = simp length-drop (omega arith) in
          let at : 1 + (n - (k + 1)) ≡ length l - k = omega arith in
          ap (λ m. drop m (drop 1 l ++ (r ∷ []))) a
          ∙ drop-append-le (n - (k + 1)) (drop 1 l) (r ∷ []) fit
          ∙ ap (λ z. z ++ (r ∷ [])) (drop-drop (n - (k + 1)) 1 l ∙ ap (λ m. drop m l) at)
          ∙ sym (ap (λ m. drop m (last_of k l ++ (r ∷ []))) b)
      go (no more) =
          let a : length (drop 1 l ++ (r ∷ [])) - min (k + 1) n ≡ 0 = omega (arith, size, more) in
          let b : length (last_of k l ++ (r ∷ [])) - n ≡ 1 = omega (arith, kept, more) in
          let none : length l - k ≡ 0 = omega (arith, more) in
          let one : 1 ≤ length l = omega arith in
          ap (λ m. drop m (drop 1 l ++ (r ∷ []))) a
          ∙ sym (drop-append-le 1 l (r ∷ []) one)
          ∙ sym (ap (λ m. drop m (last_of k l ++ (r ∷ []))) b ∙ ap (λ m. drop 1 (drop m l ++ (r ∷ []))) none)

  -- a store among the last k, and what stands there
  module _ (k i j : ℕ) (at : j ≡ n - k + i) where
    place : j ≡ length l - k + i
    place = omega arith

    pub last_set : (x : A) → last_of k (set l j x) ≡ set (last_of k l) i x
    last_set x =
        ap (λ m. drop (m - k) (set l j x)) (length-set l j x)
        ∙ ap (λ m. drop (length l - k) (set l m x)) place
        ∙ drop-set-add (length l - k) l i x

    pub last_get : (d : A) → get_or (last_of k l) i d ≡ get_or l j d
    last_get d = get_or-drop (length l - k) l i d ∙ ap (λ m. get_or l m d) (sym place)
