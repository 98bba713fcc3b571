-- The loops of `InPlace` on tables in words: the list of rows is that of the words, and a row is stored by moving its words.
use Prim.Native.Nat.{ℕ, zero, suc, ◌+◌, ◌*◌, ◌-◌, ◌/◌, ◌≤◌, ◌<◌, min}
use native.Mathlib.Omega.{arith}
use native.Mathlib.Nat.{add-zero, add-suc}
use native.Mathlib.Numerals.{add-one}
use mathlib.Core.Path.{◌≡◌, refl, sym, ap, ◌∙◌, subst}
use mathlib.Core.List.{List, [], ◌∷◌, ◌++◌, map}
use Rattle.lists.proofs.Member.{cond_same}
use Rattle.std.specs.Prelude.{Some, filter, find}
use mathlib.Core.Bool.{Bool, true, false, cond}
use lib.ListN.{length, take, drop, get_or, set, length-take}
use lib.Seq.{take_all, set-get_or, sets-eq, paste, paste-zero, take-add, drop_at, drop-drop, take-take, length-take-le}
use Rattle.std.proofs.Common.{append_assoc, suc-mul, zero-mul, add-mul, length-drop}
use Rattle.std.proofs.lemmas.List.{take-append-le, drop-append-le, drop-take, take_more_set}
use lib.Dec.{leb, ltb}
use borrow.Author.Tests.{leb-true, leb-false, lt-ltb, le-ltb}
use Rattle.lists.proofs.Table.{find_hit, find_next}
use Rattle.words.specs.Rows.{cut, cuts, rows, row_moved, moved_up, opened}
use Rattle.words.proofs.Rows.{rows_long, rows_move, rows_cuts, moved_long, row_fits, cut_long, moved_is}
use Rattle.words.proofs.InPlace.{Closing, closing_row, closing_keep, closing_drop, Changing, changing_more, Opening, opening_start, opening_more, opening_put, opening_map}

-- a count above the room stands for the room
pub take_count : {A : Type 0} (w : ℕ) (of : List ℕ → A) (c : List ℕ) (count n : ℕ) → n ≡ min count (length c / w) → take n (rows w of c) ≡ take count (rows w of c)
take_count w of c count n e = go (leb count (length c / w)) refl
  where
    go : (b : Bool) → leb count (length c / w) ≡ b → take n (rows w of c) ≡ take count (rows w of c)
    go true p =
        let h : count ≤ length c / w = leb-true count (length c / w) p in
        let same : n ≡ count = omega arith in
        ap (λ k. take k (rows w of c)) same
    go false p =
        let h : length c / w < count = leb-false count (length c / w) p in
        let long : length (rows w of c) ≡ length c / w = rows_long w of c in
        take_all n (rows w of c) (omega arith) ∙ sym (take_all count (rows w of c) (omega arith))

-- looking for the first row that passes: what is found among the rows from i on is what is found at all
module _ {A : Type 0} (w : ℕ) (of : List ℕ → A) (q : A → Bool) (c : List ℕ) (count n : ℕ) where
  abbrev pub SeekingIn : ℕ → Type 0
  SeekingIn i = (i ≤ n) × (find q (drop i (take n (rows w of c))) ≡ find q (take count (rows w of c)))

  module _ (e : n ≡ min count (length c / w)) where
    fits : n ≤ length (rows w of c)
    fits = omega (arith, rows_long w of c)

    pub seek_start : SeekingIn 0
    seek_start = (omega arith, ap (find q) (take_count w of c count n e))

    pub seek_hit : (i : ℕ) → i < n → SeekingIn i → q (get_or (rows w of c) i (of [])) ≡ true → Some (get_or (rows w of c) i (of [])) ≡ find q (take count (rows w of c))
    seek_hit i h inv p = sym (find_hit (of []) q (rows w of c) n i h fits p) ∙ inv.1

    pub seek_next : (i : ℕ) → i < n → SeekingIn i → q (get_or (rows w of c) i (of [])) ≡ false → SeekingIn (i + 1)
    seek_next i h inv p = (omega arith, find_next (of []) q (rows w of c) n i h fits p ∙ inv.1)

-- closing gaps: row i of the words is moved to place k, if it passes
module _ {A : Type 0} (w : ℕ) (of : List ℕ → A) (t : A → Bool) where
  abbrev pub ClosingIn : List ℕ → List ℕ → ℕ → ℕ → ℕ → Type 0
  ClosingIn old new n i k = (i ≤ n) × (length new ≡ length old) × Closing t (rows w of old) (rows w of new) i k

  -- the row that the loop reads is the old one
  pub words_row : (old new : List ℕ) (n i k : ℕ) → ClosingIn old new n i k → get_or (rows w of new) i (of []) ≡ get_or (rows w of old) i (of [])
  words_row old new n i k inv = closing_row (of []) t (rows w of old) (rows w of new) i k inv.2

  module _ (old new : List ℕ) (n i k : ℕ) (fits : n ≤ length old / w) (more : i < n) (inv : ClosingIn old new n i k) where
    inside : i < length (rows w of old)
    inside = omega (arith, fits, more, rows_long w of old)

    pub words_keep : (last : List ℕ) → last ≡ row_moved w i k new → t (get_or (rows w of new) i (of [])) ≡ true → ClosingIn old last n (i + 1) (k + 1)
    words_keep last moved p =
        let same : length new / w ≡ length old / w = ap (λ m. m / w) inv.1 in
        let a : i < length new / w = omega (arith, fits, more) in
        let b : k < length new / w = omega (arith, fits, more, inv.2.low) in
        (omega arith, ap length moved ∙ moved_long w i k new ∙ inv.1, rw (moved, rows_move w of new k i (of []) b a) (closing_keep (of []) t (rows w of old) (rows w of new) i k inside inv.2 p))

    pub words_drop : t (get_or (rows w of new) i (of [])) ≡ false → ClosingIn old new n (i + 1) k
    words_drop p = (omega arith, inv.1, closing_drop (of []) t (rows w of old) (rows w of new) i k inside inv.2 p)

  pub words_done : (old new : List ℕ) (count n i k : ℕ) → n ≡ min count (length old / w) → n ≤ i → ClosingIn old new n i k → take k (rows w of new) ≡ filter t (take count (rows w of old))
  words_done old new count n i k e over inv =
      let all : i ≡ n = omega (arith, inv.0) in
      inv.2.front ∙ ap (λ m. filter t (take m (rows w of old))) all ∙ ap (filter t) (take_count w of old count n e)

-- appending: a row stored behind the first n of the room
module _ {A : Type 0} (w : ℕ) (of : List ℕ → A) (old new : List ℕ) (count n : ℕ) (x : A) (e : n ≡ min count (length old / w)) where
  counted : length (take count (rows w of old)) ≡ n
  counted = length-take count (rows w of old) ∙ ap (min count) (rows_long w of old) ∙ sym e

  -- the rows with one more, if there is a place
  abbrev pub PushedIn : List A
  PushedIn = cond (ltb (length (take count (rows w of old))) (length old / w)) (take count (rows w of old) ++ (x ∷ [])) (take count (rows w of old))

  pub words_push : n < length old / w → rows w of new ≡ set (rows w of old) n x → take (n + 1) (rows w of new) ≡ PushedIn
  words_push h p =
      let inside : n < length (rows w of old) = omega (arith, rows_long w of old) in
      let room : length (take count (rows w of old)) < length old / w = omega (arith, counted) in
      ap (take (n + 1)) p
      ∙ take_more_set (rows w of old) n x inside
      ∙ ap (λ l. l ++ (x ∷ [])) (take_count w of old count n e)
      ∙ sym (ap (λ b. cond b (take count (rows w of old) ++ (x ∷ [])) (take count (rows w of old))) (lt-ltb _ _ room))

  pub words_full : length old / w ≤ n → take n (rows w of old) ≡ PushedIn
  words_full h =
      let full : length old / w ≤ length (take count (rows w of old)) = omega (arith, counted) in
      take_count w of old count n e ∙ sym (ap (λ b. cond b (take count (rows w of old) ++ (x ∷ [])) (take count (rows w of old))) (le-ltb _ _ full))

-- changing rows in place: row i is changed by storing, or needs no change
module _ {A : Type 0} (w : ℕ) (of : List ℕ → A) (f : A → A) where
  abbrev pub ChangingIn : List ℕ → List ℕ → ℕ → ℕ → Type 0
  ChangingIn old new n i = (i ≤ n) × (length new ≡ length old) × Changing f (rows w of old) (rows w of new) i

  module _ (old new : List ℕ) (n i : ℕ) (fits : n ≤ length old / w) (more : i < n) (inv : ChangingIn old new n i) where
    within : i < length (rows w of old)
    within = omega (arith, fits, more, rows_long w of old)

    pub change_row : (last : List ℕ) → length last ≡ length new → rows w of last ≡ set (rows w of new) i (f (get_or (rows w of new) i (of []))) → ChangingIn old last n (i + 1)
    change_row last long p = (omega arith, long ∙ inv.1, rw p (changing_more (of []) f (rows w of old) (rows w of new) i within inv.2))

    pub change_none : f (get_or (rows w of new) i (of [])) ≡ get_or (rows w of new) i (of []) → ChangingIn old new n (i + 1)
    change_none p = change_row new refl (sym (ap (set (rows w of new) i) p ∙ set-get_or (rows w of new) i (of [])))

  pub change_done : (old new : List ℕ) (count n i : ℕ) → n ≡ min count (length old / w) → n ≤ i → ChangingIn old new n i → take count (rows w of new) ≡ map f (take count (rows w of old))
  change_done old new count n i e over inv =
      let all : i ≡ n = omega (arith, inv.0) in
      let e' : n ≡ min count (length new / w) = e ∙ ap (λ m. min count (m / w)) (sym inv.1) in
      sym (take_count w of new count n e') ∙ ap (λ m. take m (rows w of new)) (sym all) ∙ inv.2.front ∙ ap (λ m. map f (take m (rows w of old))) all ∙ ap (map f) (take_count w of old count n e)

-- making room: the words of row j - 1 are moved to row j
module _ (w : ℕ) where
  abbrev pub OpeningIn : List ℕ → List ℕ → ℕ → ℕ → Type 0
  OpeningIn old new n j = (length new ≡ length old) × Opening (cuts w old) (cuts w new) n j

  pub open_start : (c : List ℕ) (n : ℕ) → OpeningIn c c n n
  open_start c n = (refl, opening_start [] (cuts w c) n)

  open_row : (old new : List ℕ) (n j : ℕ) → n < length old / w → OpeningIn old new n (suc j) → OpeningIn old (row_moved w j (suc j) new) n j
  open_row old new n j h inv =
      let same : length new / w ≡ length old / w = ap (λ m. m / w) inv.0 in
      let a : j < length new / w = omega (arith, inv.1.high) in
      let b : suc j < length new / w = omega (arith, inv.1.high) in
      let inside : n < length (cuts w old) = omega (arith, rows_long w (λ ws. ws) old) in
      let before : Opening (cuts w old) (cuts w new) n (j + 1) = subst (λ m. Opening (cuts w old) (cuts w new) n m) (sym (add-one j)) inv.1 in
      let now : cuts w (row_moved w j (suc j) new) ≡ set (cuts w new) (j + 1) (get_or (cuts w new) j []) =
      rows_move w (λ ws. ws) new (suc j) j [] b a ∙ ap (λ m. set (cuts w new) m (get_or (cuts w new) j [])) (sym (add-one j)) in
      (moved_long w j (suc j) new ∙ inv.0, rw now (opening_more [] (cuts w old) (cuts w new) n j inside before))

  open_rows : (k : ℕ) (old new : List ℕ) (n p : ℕ) → n < length old / w → OpeningIn old new n (p + k) → OpeningIn old (moved_up k w p new) n p
  unfolding moved_up
  open_rows zero old new n p h inv = subst (λ m. OpeningIn old new n m) (add-zero p) inv
  open_rows (suc k) old new n p h inv = open_rows k old (row_moved w (p + k) (suc (p + k)) new) n p h (open_row old new n (p + k) h (subst (λ m. OpeningIn old new n m) (add-suc p k) inv))

  pub open_done : (c : List ℕ) (n p : ℕ) → n < length c / w → p ≤ n → OpeningIn c (opened w n p c) n p
  unfolding opened
  open_done c n p h below =
      let all : n ≡ p + (n - p) = omega arith in
      subst (λ l. OpeningIn c l n p) (sym (ap (λ b. cond b (moved_up (n - p) w p c) c) (lt-ltb _ _ h)))
      (open_rows (n - p) c c n p h (subst (λ m. OpeningIn c c n m) all (open_start c n)))

  -- what opening does, by its test
  pub open_on : (n p : ℕ) (c : List ℕ) → n < length c / w → opened w n p c ≡ moved_up (n - p) w p c
  unfolding opened
  open_on n p c h = rw (lt-ltb n (length c / w) h)

  pub open_off : (n p : ℕ) (c : List ℕ) → length c / w ≤ n → opened w n p c ≡ c
  unfolding opened
  open_off n p c h = rw (le-ltb n (length c / w) h)

  -- where no row has to move
  pub open_none : (n p : ℕ) (c : List ℕ) → n ≤ p → opened w n p c ≡ c
  unfolding opened moved_up
  open_none n p c h = let e : n - p ≡ 0 = omega arith in ap (λ k. cond (ltb n (length c / w)) (moved_up k w p c) c) e ∙ cond_same (ltb n (length c / w)) c

  -- rows moved up one by one are moved as one block
  pub up_block : (k p : ℕ) (c : List ℕ) → 0 < w → p + k < length c / w → moved_up k w p c ≡ paste c (suc p * w) (drop (p * w) c) (k * w)
  unfolding moved_up
  up_block zero p c some h = paste-zero c (suc p * w) (drop (p * w) c) ∙ ap (paste c (suc p * w) (drop (p * w) c)) (sym (zero-mul w))
  up_block (suc k) p c some h =
      let last : suc (p + k) < length c / w = omega arith in
      let before : p + k < length c / w = omega arith in
      let to = suc p * w in
      let past = suc (p + k) * w in
      let first : to ≡ p * w + w = suc-mul p w in
      let rest : past ≡ p * w + k * w + w = suc-mul (p + k) w ∙ ap (λ m. m + w) (add-mul p k w) in
      let more : suc k * w ≡ k * w + w = suc-mul k w in
      let fits : past + w ≤ length c = row_fits w (suc (p + k)) c last in
      let row = cut w (p + k) c in
      let front = take past c in
      let back = row ++ drop (past + w) c in
      let long : length front ≡ past = length-take-le past c (omega arith) in
      let wide : length row ≡ w = cut_long w (p + k) c (row_fits w (p + k) c before) in
      let c' = row_moved w (p + k) (suc (p + k)) c in
      let moved : c' ≡ front ++ back =
      moved_is w (p + k) (suc (p + k)) c before last
      ∙ sets-eq row c past (omega (arith, wide, fits))
      ∙ ap (λ m. take past c ++ row ++ drop (past + m) c) wide
      ∙ append_assoc front row (drop (past + w) c) in
      let below : p + k < length c' / w = subst (λ m. p + k < m / w) (sym (moved_long w (p + k) (suc (p + k)) c)) before in
      let part = drop (p * w) c in
      let one : take to c' ≡ take to c = ap (take to) moved ∙ take-append-le to front back (omega (arith, first, rest, long)) ∙ take-take to past c (omega (arith, first, rest)) in
      let two : take (k * w) (drop (p * w) c') ≡ take (k * w) part =
      ap (λ l. take (k * w) (drop (p * w) l)) moved
      ∙ ap (take (k * w)) (drop-append-le (p * w) front back (omega (arith, rest, long)))
      ∙ take-append-le (k * w) (drop (p * w) front) back (omega (arith, rest, long, length-drop (p * w) front))
      ∙ ap (λ m. take (k * w) (drop (p * w) (take m c))) (omega (arith, rest))
      ∙ ap (take (k * w)) (drop-take (p * w) (k * w + w) c)
      ∙ take-take (k * w) (k * w + w) part (omega arith) in
      let three : drop (to + k * w) c' ≡ take w (drop (k * w) part) ++ drop (past + w) c =
      ap (λ m. drop m c') (omega (arith, first, rest))
      ∙ ap (drop past) moved
      ∙ drop_at front back past long
      ∙ ap (λ l. take w l ++ drop (past + w) c) (ap (λ m. drop m c) (add-mul p k w) ∙ sym (drop-drop (k * w) (p * w) c)) in
      up_block k p c' some below
      ∙ ap (λ l. l ++ take (k * w) (drop (p * w) c') ++ drop (to + k * w) c') one
      ∙ ap (λ l. take to c ++ l ++ drop (to + k * w) c') two
      ∙ ap (λ l. take to c ++ take (k * w) part ++ l) three
      ∙ sym (append_assoc (take to c ++ take (k * w) part) (take w (drop (k * w) part)) (drop (past + w) c))
      ∙ ap (λ l. l ++ drop (past + w) c) (append_assoc (take to c) (take (k * w) part) (take w (drop (k * w) part)))
      ∙ ap (λ l. take to c ++ l ++ drop (past + w) c) (sym (take-add (k * w) w part))
      ∙ ap (λ m. take to c ++ take m part ++ drop (past + w) c) (sym more)
      ∙ ap (λ m. take to c ++ take (suc k * w) part ++ drop m c) (omega (arith, first, rest, more))

  -- and the new row is stored at p
  pub open_put : {A : Type 0} (of : List ℕ → A) (old new last : List ℕ) (n p : ℕ) (x : A) → n < length old / w → p ≤ n → new ≡ opened w n p old → rows w of last ≡ set (rows w of new) p x
      → take (n + 1) (rows w of last) ≡ take p (rows w of old) ++ (x ∷ drop p (take n (rows w of old)))
  open_put of old new last n p x h below moved e =
      let inv : OpeningIn old new n p = subst (λ l. OpeningIn old l n p) (sym moved) (open_done old n p h below) in
      let inside : n < length (rows w of old) = omega (arith, rows_long w of old) in
      let typed : Opening (rows w of old) (rows w of new) n p = rw (rows_cuts w of old, rows_cuts w of new) (opening_map of (cuts w old) (cuts w new) n p inv.1) in
      ap (take (n + 1)) e ∙ opening_put (of []) (rows w of old) (rows w of new) n p x inside typed
