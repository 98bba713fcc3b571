-- Texts added one after the other.
use Prim.Native.Nat.{ℕ, suc, ◌+◌, ◌-◌, ◌≤◌, ◌<◌, min}
use native.Mathlib.Numerals.{add-one}
use native.Mathlib.Omega.{arith}
use mathlib.Core.Path.{◌≡◌, refl, sym, ap, ◌∙◌}
use mathlib.Core.Bool.{Bool, true, false}
use mathlib.Core.List.{List, [], ◌∷◌, ◌++◌, append_assoc}
use lib.Dec.{leb}
use lib.ListN.{length, take, drop, set, length-append, length-take, take-append-drop}
use lib.Seq.{length-take-le, take_all, take_at, take-take, take-append-le, take-append-add, drop-cons, set-append_seam, take-append_seam}
use borrow.Author.Tests.{leb-true, leb-false}
use borrow.Rule.Slice.PartMut.{mid_of, put_mid}
use Rattle.lists.specs.Written.{written}
use Rattle.lists.proofs.Written.{written_then, written_long}
use Rattle.call_page.specs.Paged.{Put}
use Rattle.call_page.specs.Text.{Added}

-- ---- in the text: the bytes of the text with those of s behind the first `at`, of which the first `len` count
module _ (bytes s : List ℕ) (len at n : ℕ) (long : length bytes ≡ 4501) (is-at : at ≡ min len 4501) (is-n : n ≡ min (length s) (4501 - at)) where
  abbrev front : List ℕ
  front = take at bytes

  abbrev all : List ℕ
  all = front ++ take n s

  front_long : length front ≡ at
  front_long = length-take-le at bytes (omega arith)

  all_long : length all ≡ at + n
  all_long = omega (arith, length-append front (take n s), front_long, length-take n s)

  -- as much of s as finds room
  fitting : take 4501 (take (min len 4501) bytes ++ s) ≡ all
  fitting =
      let room : 4501 ≡ length front + (4501 - at) = omega (arith, front_long) in
      let part : take (4501 - at) s ≡ take n s = go (leb (length s) (4501 - at)) refl in
      ap (λ k. take 4501 (take k bytes ++ s)) (sym is-at)
      ∙ ap (λ k. take k (front ++ s)) room
      ∙ take-append-add front s (4501 - at)
      ∙ ap (λ z. front ++ z) part
    where
      go : (b : Bool) → leb (length s) (4501 - at) ≡ b → take (4501 - at) s ≡ take n s
      go true e =
          let less : length s ≤ 4501 - at = leb-true _ _ e in
          let whole : length s ≤ n = omega (arith, is-n) in
          take_all (4501 - at) s less ∙ sym (take_all n s whole)
      go false e =
          let more : 4501 - at < length s = leb-false (length s) (4501 - at) e in
          let same : 4501 - at ≡ n = omega (arith, is-n) in
          ap (λ k. take k s) same

  pub add_is : (z : List ℕ) → z ≡ written (take n s) (mid_of at (4501 - at) bytes) → (last : ℕ) → last ≡ at + n
      → take (min last 4501) (put_mid at (4501 - at) bytes z) ≡ take 4501 (take (min len 4501) bytes ++ s)
  add_is z laid last is =
      let old : bytes ≡ written front bytes = sym (ap (λ k. front ++ drop k bytes) front_long ∙ take-append-drop at bytes) in
      let room : length bytes - at ≡ 4501 - at = omega arith in
      let next : z ≡ written (take n s) (mid_of at (length bytes - at) bytes) = laid ∙ ap (λ k. written (take n s) (mid_of at k bytes)) (sym room) in
      let new : put_mid at (4501 - at) bytes z ≡ written all bytes = ap (λ k. put_mid at k bytes z) (sym room) ∙ written_then front (take n s) bytes old (sym front_long) next in
      let most : min last 4501 ≡ length all = omega (arith, all_long, is-at, is-n) in
      ap (take (min last 4501)) new ∙ take_at all (drop (length all) bytes) (min last 4501) (sym most) ∙ sym fitting

-- ---- one text after the other
take_add : (n : ℕ) (l b : List ℕ) → take n (take n l ++ b) ≡ take n (l ++ b)
take_add n l b = go (leb (length l) n) refl
  where
    go : (t : Bool) → leb (length l) n ≡ t → take n (take n l ++ b) ≡ take n (l ++ b)
    go true e = ap (λ k. take n (k ++ b)) (take_all n l (leb-true _ _ e))
    go false e =
        let over : n < length l = leb-false (length l) n e in
        let more : n ≤ length l = omega arith in
        let full : n ≤ length (take n l) = omega (arith, length-take-le n l more) in
        take-append-le n (take n l) b full ∙ take-take n n l (omega arith) ∙ sym (take-append-le n l b more)

pub then : {m n : ℕ} {a b x y z : List ℕ} → Added m a x y → Added n b y z → Added (m + n) (a ++ b) x z
then {a = a} {b} {x} e f =
    record {
      placed = f.placed ∙ ap (λ l. take 4501 (l ++ b)) e.placed ∙ take_add 4501 (x ++ a) b ∙ ap (take 4501) (append_assoc x a b);
      fits = omega (arith, e.fits, f.fits, length-append a b);
    }

pub added : (m : ℕ) (s text x y : List ℕ) → s ≡ text → y ≡ take 4501 (x ++ s) → length s ≤ m → Added m text x y
added m s text x y t e h = rw (← t) record { placed = e; fits = h }

-- the same text, in more room
pub widened : {m n : ℕ} {a b x y : List ℕ} → m ≤ n → a ≡ b → Added m a x y → Added n b x y
widened h t e = rw (← t) (record { placed = e.placed; fits = omega (arith, e.fits) })

-- ---- a text that was copied to the start of a buffer
pub copied : (m : ℕ) (s text x y : List ℕ) (r : ℕ) → s ≡ text → r ≡ length s → y ≡ written s x → r ≤ m → Put m text x y r
copied m s text x y r t e f h = rw (← t) record { placed = f; long = e; fits = h }

-- and one byte after a text
pub and_byte : {m : ℕ} {a x y : List ℕ} {p : ℕ} (b : ℕ) → Put m a x y p → m < length x → Put (m + 1) (a ++ (b ∷ [])) x (set y p b) (p + 1)
and_byte {m} {a} {x} {y} {p} b e h =
    let within : length a < length x = omega (arith, e.long, e.fits) in
    let more : length (a ++ (b ∷ [])) ≡ suc (length a) = length-append a (b ∷ []) ∙ add-one (length a) in
    record {
      placed = rw (e.placed, e.long, more, drop-cons x (length a) 0 within, set-append_seam) (sym (append_assoc a (b ∷ []) _));
      long = omega (arith, e.long, length-append a (b ∷ []));
      fits = omega (arith, e.fits);
    }

-- the buffer keeps its length
pub same_long : {m : ℕ} {a x y : List ℕ} {r : ℕ} → Put m a x y r → m ≤ length x → length y ≡ length x
same_long {m} {a} {x} e h = ap length e.placed ∙ written_long a x (omega (arith, e.long, e.fits))

-- the text stands where it was put
pub taken : {m : ℕ} {a x y : List ℕ} {r : ℕ} → Put m a x y r → take r y ≡ a
taken {a = a} {x} e = rw (e.placed, e.long) (take-append_seam a (drop (length a) x))
