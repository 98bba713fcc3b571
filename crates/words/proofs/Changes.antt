-- The loop that changes rows in place, and what its clause says of what the words of the rows stand for.
use Prim.Native.Nat.{ℕ, ◌+◌, ◌-◌, ◌*◌, ◌/◌, ◌≤◌, ◌<◌, min}
use native.Mathlib.Omega.{arith}
use mathlib.Core.Path.{◌≡◌, refl, sym, ap, ◌∙◌}
use mathlib.Core.List.{List, [], map}
use mathlib.Core.Bool.{Bool, true, false, cond, ◌&&◌}
use denote.Ref.{Bor}
use lib.Dec.{eqb, leb, ltb}
use lib.ListN.{length, take, drop, get_or, set, length-map, get_or-map}
use lib.Seq.{set-get_or, get_or-set_same, get_or-set_other, get_or-take, drop-set-lt, ext_get_or, sets, length-sets, length-take-le}
use borrow.Author.Tests.{ltb-true, ltb-false, leb-true, leb-false, eqb-true, eqb-false, lt-ltb, le-leb, eq-eqb}
use Rattle.std.specs.Bool.{then_some}
use Rattle.std.specs.Prelude.{Option, None, Some}
use Rattle.std.proofs.lemmas.Grind.{drop_more_same}
use Rattle.words.specs.Rows.{rows, cuts, row_at, row_put, fields_put}
use Rattle.words.specs.Place.{stored, RowChanged, Changed}
use Rattle.words.proofs.InPlace.{left_same}
use Rattle.words.proofs.InWords.{take_count}
use Rattle.words.proofs.Rows.{row_is, rows_at, rows_long, cond_long}
use Rattle.words.proofs.Within.{put_short, put_out, fields_is}

module _ {W : Type 0} (w k : ℕ) (items : W → List ℕ) where
  -- what is stored into row i changes that row alone, whatever it is
  stored_set : (c : List ℕ) (i : ℕ) (r : Option W) → (x : List ℕ) × (cuts w (stored w i k items r c) ≡ set (cuts w c) i x)
  stored_set c i None = (row_at w i c, sym (set-get_or (cuts w c) i []))
  stored_set c i (Some ws) = from (ltb k w) refl
    where
      l : List ℕ
      l = items ws

      same : c ≡ fields_put w i k l c → (x : List ℕ) × (cuts w (fields_put w i k l c) ≡ set (cuts w c) i x)
      same e = (row_at w i c, ap (cuts w) (sym e) ∙ sym (set-get_or (cuts w c) i []))

      fit : k < w → (b : Bool) → leb (length l) (w - k) ≡ b → (x : List ℕ) × (cuts w (fields_put w i k l c) ≡ set (cuts w c) i x)
      fit h true e = let room : length l ≤ w - k = leb-true _ _ e in (sets (row_at w i c) k l, fields_is w (λ ws. ws) c l i k h (omega arith))
      fit h false e = same (put_short w i k l c (leb-false _ _ e))

      from : (b : Bool) → ltb k w ≡ b → (x : List ℕ) × (cuts w (fields_put w i k l c) ≡ set (cuts w c) i x)
      from true e = fit (ltb-true k w e) (leb (length l) (w - k)) refl
      from false e = same (put_out w i k l c (ltb-false k w e))

  stored_long : (c : List ℕ) (i : ℕ) (r : Option W) → length (stored w i k items r c) ≡ length c
  unfolding fields_put
  stored_long c i None = refl
  stored_long c i (Some ws) = cond_long _ c _ (length-sets c _ (items ws))

  module _ (post : Bor (List ℕ) → ℕ → Option W → Type 0) (old : List ℕ) where
    -- a call with the words as they are after the first i rows, and what it returned stored into row i
    pub change_more : (t : Bor (List ℕ)) (i : ℕ) (r : Option W) → post t i r → Changed w k i items post old t.now → Changed w k (i + 1) items post old (stored w i k items r t.now)
    change_more t i r called inv =
        record {
          long = stored_long t.now i r ∙ inv.long;
          each = λ j h. at j h (eqb j i) refl;
          rest = ap (drop (i + 1)) now.1 ∙ drop-set-lt (i + 1) (cuts w t.now) i now.0 (omega arith) ∙ drop_more_same (cuts w t.now) (cuts w old) i inv.rest;
        }
      where
        now : (x : List ℕ) × (cuts w (stored w i k items r t.now) ≡ set (cuts w t.now) i x)
        now = stored_set t.now i r

        at : (j : ℕ) → j < i + 1 → (b : Bool) → eqb j i ≡ b → RowChanged w k j items post old (stored w i k items r t.now)
        at j h true e = let q : j ≡ i = eqb-true j i e in rw q (t, r, called, inv.long, left_same [] (cuts w old) (cuts w t.now) i inv.rest, refl)
        at j h false e =
            let ne = eqb-false j i e in
            let before = inv.each j (omega (arith, ne)) in
            (before.0, before.1, before.2, before.3, before.4, ap (λ l. get_or l j []) now.1 ∙ get_or-set_other (cuts w t.now) i j now.0 [] ne ∙ before.5)

-- where what the calls return makes of a row what f says of what its words stand for, the first `count` rows are those of f
module _ {A W : Type 0} (w k : ℕ) (items : W → List ℕ) (of : List ℕ → A) (f : A → A) (old new : List ℕ) (count : ℕ) where
  pub changed_rows : (post : Bor (List ℕ) → ℕ → Option W → Type 0)
      → Changed w k (min count (length old / w)) items post old new
      → ((t : Bor (List ℕ)) (i : ℕ) (r : Option W) → post t i r → rows w of (stored w i k items r t.now) ≡ set (rows w of t.now) i (f (get_or (rows w of t.now) i (of []))))
      → take count (rows w of new) ≡ map f (take count (rows w of old))
  changed_rows post inv turns =
      let many : n ≡ min count (length new / w) = ap (λ m. min count (m / w)) (sym inv.long) in
      sym (take_count w of new count n many)
      ∙ ext_get_or (f (of [])) (take n (rows w of new)) (map f (take n (rows w of old))) (size new inv.long ∙ sym (length-map (take n (rows w of old)) f ∙ size old refl)) (λ i h. at i (omega (arith, size new inv.long, h)))
      ∙ ap (map f) (take_count w of old count n refl)
    where
      n : ℕ
      n = min count (length old / w)

      size : (c : List ℕ) → length c ≡ length old → length (take n (rows w of c)) ≡ n
      size c e = let room : n ≤ length (rows w of c) = omega (arith, rows_long w of c ∙ ap (λ m. m / w) e) in length-take-le n (rows w of c) room

      at : (i : ℕ) → i < n → get_or (take n (rows w of new)) i (f (of [])) ≡ get_or (map f (take n (rows w of old))) i (f (of []))
      at i h =
          let e = inv.each i h in
          let t = e.0 in
          let inside : i < length (rows w of t.now) = omega (arith, h, rows_long w of t.now ∙ ap (λ m. m / w) e.3) in
          let room : i < length new / w = omega (arith, h, ap (λ m. m / w) inv.long) in
          get_or-take n (rows w of new) i (f (of [])) h
          ∙ rows_at w of new i (f (of [])) room ∙ sym (rows_at w of new i (of []) room)
          ∙ row_is w of new i
          ∙ ap of e.5
          ∙ sym (row_is w of (stored w i k items e.1 t.now) i)
          ∙ ap (λ l. get_or l i (of [])) (turns t i e.1 e.2)
          ∙ get_or-set_same (rows w of t.now) i (f (get_or (rows w of t.now) i (of []))) (of []) inside
          ∙ ap f (row_is w of t.now i ∙ ap of e.4 ∙ sym (row_is w of old i) ∙ sym (get_or-take n (rows w of old) i (of []) h))
          ∙ sym (get_or-map f (take n (rows w of old)) i (of []))

-- what is stored into one row: words were returned for it, or where a test is true of it
module _ {A W : Type 0} (w k : ℕ) (items : W → List ℕ) (of : List ℕ → A) (c : List ℕ) (i : ℕ) (y : A) where
  pub stored_some : (r : Option W) (ws : W) → r ≡ Some ws → rows w of (fields_put w i k (items ws) c) ≡ set (rows w of c) i y → rows w of (stored w i k items r c) ≡ set (rows w of c) i y
  stored_some r ws e put = ap (λ o. rows w of (stored w i k items o c)) e ∙ put

  pub stored_where : (r : Option W) (ws : W) (b : Bool) → r ≡ then_some b ws → rows w of (fields_put w i k (items ws) c) ≡ set (rows w of c) i y
      → rows w of (stored w i k items r c) ≡ set (rows w of c) i (cond b y (get_or (rows w of c) i (of [])))
  stored_where r ws true e put = stored_some r ws e put
  stored_where r ws false e put = ap (λ o. rows w of (stored w i k items o c)) e ∙ sym (set-get_or (rows w of c) i (of []))

-- as many words as a row has, stored from its word 0 on, are the row
pub fields_whole : (w i : ℕ) (ws c : List ℕ) → 0 < w → length ws ≡ w → fields_put w i 0 ws c ≡ row_put w i ws c
unfolding fields_put row_put
fields_whole w i ws c some long =
    let fit : length ws ≤ w - 0 = omega arith in
    let from : i * w + 0 ≡ i * w = omega arith in
    rw (lt-ltb 0 w some, le-leb (length ws) (w - 0) fit, eq-eqb (length ws) w long, from) (go (ltb i (length c / w)))
  where
    go : (b : Bool) → cond b (sets c (i * w) ws) c ≡ cond (b && true) (sets c (i * w) ws) c
    go true = refl
    go false = refl
