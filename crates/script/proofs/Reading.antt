-- The loop that reads n rows and keeps the first `cap` of them: a turn that keeps the row, one that does not, and where it ends.
use Prim.Native.Nat.{ℕ, suc, ◌+◌, ◌-◌, ◌≤◌, ◌<◌, min}
use native.Mathlib.Nat.{min-eq_left, min-eq_right, le_of_lt}
use native.Mathlib.Omega.{arith}
use native.Mathlib.Numerals.{add-one}
use mathlib.Core.Path.{◌≡◌, refl, sym, ap, ◌∙◌, subst}
use mathlib.Core.Bool.{Bool, true, false}
use mathlib.Core.List.{List, ◌++◌, append-nil}
use borrow.Author.Tests.{leb-true, leb-false}
use lib.Dec.{leb}
use lib.ListN.{length, take, set, length-take, length-set}
use lib.Seq.{set_out, take-suc-set, take_all, take-take, take-append-le, append_snoc}
use Rattle.codec.specs.Field.{moved, little}
use Rattle.script.specs.Rows.{rows_at, rows_end}
use Rattle.script.specs.Def.{TableAt}

module _ {A : Type 0} (read : List ℕ → ℕ → A) (next : List ℕ → ℕ → ℕ) (cap n : ℕ) (s : List ℕ) (start : ℕ) where
  -- what is kept and what is still to come is the whole, and the end stays where it is
  pub record Read (rows : List A) (end i : ℕ) : Type 0 where
    pub long : length rows ≡ cap
    pub few : i ≤ n
    pub same : take cap (take i rows ++ rows_at read next (n - i) s end) ≡ take cap (rows_at read next n s start)
    pub ends : rows_end next (n - i) s end ≡ rows_end next n s start

  pub began : (rows : List A) (end : ℕ) → length rows ≡ cap → end ≡ start → Read rows end 0
  began rows end l b =
      let all : n - 0 ≡ n = omega arith in
      record {
        long = l;
        few = omega arith;
        same = ap (λ (k : ℕ). take cap (rows_at read next k s end)) all ∙ ap (λ (p : ℕ). take cap (rows_at read next n s p)) b;
        ends = ap (λ (k : ℕ). rows_end next k s end) all ∙ ap (λ (p : ℕ). rows_end next n s p) b;
      }

  here : (i : ℕ) → i < n → n - i ≡ suc (n - (i + 1))
  here i h = omega arith

  moved_end : (e i after : ℕ) → i < n → after ≡ next s e → rows_end next (n - (i + 1)) s after ≡ rows_end next (n - i) s e
  unfolding rows_end
  moved_end e i after h f = ap (rows_end next (n - (i + 1)) s) f ∙ sym (ap (λ (k : ℕ). rows_end next k s e) (here i h))

  kept : (rows : List A) (end i : ℕ) (x : A) (after : ℕ) → Read rows end i → i < n → i < cap → x ≡ read s end → after ≡ next s end → Read (set rows i x) after (i + 1)
  unfolding rows_at
  kept rows end i x after r h w e f =
      let inside : i < length rows = omega (arith, r.long) in
      let turned : take cap (take (i + 1) (set rows i x) ++ rows_at read next (n - (i + 1)) s after) ≡ take cap (take i rows ++ rows_at read next (n - i) s end) =
      rw (f, add-one i, take-suc-set rows i x inside, append_snoc, e, ← add-one i) (sym (ap (λ (k : ℕ). take cap (take i rows ++ rows_at read next k s end)) (here i h))) in
      record {
        long = simp length-set r.long;
        few = omega arith;
        same = turned ∙ r.same;
        ends = moved_end end i after h f ∙ r.ends;
      }

  all : (rows : List A) (j k e : ℕ) → length rows ≡ cap → cap ≤ j → take cap (take j rows ++ rows_at read next k s e) ≡ rows
  all rows j k e l h =
      let short : length rows ≤ j = omega arith in
      let fits : cap ≤ length rows = omega arith in
      let within : length rows ≤ cap = omega arith in
      ap (λ (t : List A). take cap (t ++ rows_at read next k s e)) (take_all j rows short)
      ∙ take-append-le cap rows (rows_at read next k s e) fits
      ∙ take_all cap rows within

  passed : (rows : List A) (end i after : ℕ) → Read rows end i → i < n → cap ≤ i → after ≡ next s end → Read rows after (i + 1)
  passed rows end i after r h w f =
      let past : cap ≤ i + 1 = omega arith in
      record {
        long = r.long;
        few = omega arith;
        same = all rows (i + 1) (n - (i + 1)) after r.long past ∙ sym (all rows i (n - i) end r.long w) ∙ r.same;
        ends = moved_end end i after h f ∙ r.ends;
      }

  -- a row that is pushed: past the capacity nothing is stored
  pub pushed : (rows : List A) (end i : ℕ) (x : A) (after : ℕ) → Read rows end i → i < n → x ≡ read s end → after ≡ next s end → Read (set rows i x) after (i + 1)
  pushed rows end i x after r h e f = go (leb cap i) refl
    where
      go : (b : Bool) → leb cap i ≡ b → Read (set rows i x) after (i + 1)
      go false k = kept rows end i x after r h (leb-false cap i k) e f
      go true k =
          let out : length rows ≤ i = omega (arith, r.long, leb-true cap i k) in
          subst (λ (l : List A). Read l after (i + 1)) (sym (set_out rows i x out)) (passed rows end i after r h (leb-true cap i k) f)

  left : (rows : List A) (end i : ℕ) → Read rows end i → n ≤ i → take cap (take n rows) ≡ take cap (rows_at read next n s start)
  unfolding rows_at
  left rows end i r h =
      let none : n - i ≡ 0 = omega arith in
      let whole : i ≡ n = omega (arith, r.few) in
      sym (ap (λ (k : ℕ). take cap (take i rows ++ rows_at read next k s end)) none ∙ ap (take cap) (append-nil (take i rows)) ∙ ap (λ (k : ℕ). take cap (take k rows)) whole)
      ∙ r.same

  least : (rows : List A) → take (min n cap) rows ≡ take cap (take n rows)
  least rows = go (leb n cap) refl
    where
      go : (b : Bool) → leb n cap ≡ b → take (min n cap) rows ≡ take cap (take n rows)
      go true e =
          let short : n ≤ cap = leb-true n cap e in
          let within : length (take n rows) ≤ cap = simp length-take (omega arith) in
          ap (λ (k : ℕ). take k rows) (min-eq_left short) ∙ sym (take_all cap (take n rows) within)
      go false e =
          let over : cap ≤ n = le_of_lt (leb-false n cap e) in
          ap (λ (k : ℕ). take k rows) (min-eq_right over) ∙ sym (take-take cap n rows over)

  rows_read : (rows : List A) (end i : ℕ) → Read rows end i → n ≤ i → take (min n cap) rows ≡ take cap (rows_at read next n s start)
  rows_read rows end i r h = least rows ∙ left rows end i r h

  end_read : (rows : List A) (end i : ℕ) → Read rows end i → n ≤ i → end ≡ rows_end next n s start
  unfolding rows_end
  end_read rows end i r h =
      let none : n - i ≡ 0 = omega arith in
      sym (ap (λ (k : ℕ). rows_end next k s end) none) ∙ r.ends

  pub table_read : (at : ℕ) (rows : List A) (end i : ℕ) → n ≡ little 1 s at → start ≡ moved at 1 → Read rows end i → n ≤ i → TableAt cap read next s at (take (min n cap) rows) n end
  table_read at rows end i c b r h =
      record {
        kept = rows_read rows end i r h ∙ ap (λ (k : ℕ). take cap (rows_at read next k s start)) c ∙ ap (λ (p : ℕ). take cap (rows_at read next (little 1 s at) s p)) b;
        counted = c;
        ended = end_read rows end i r h ∙ ap (λ (k : ℕ). rows_end next k s start) c ∙ ap (rows_end next (little 1 s at) s) b;
      }
