-- Texts put one after the other, and rows of a table put one by one.
use Prim.Native.Nat.{ℕ, zero, suc, ◌+◌, ◌*◌, ◌-◌, ◌≤◌, ◌<◌}
use native.Mathlib.Nat.{min-eq_left, mul-suc, mul-le-mul_left, le_trans}
use native.Mathlib.Omega.{arith}
use native.Mathlib.Numerals.{add-one}
use mathlib.Core.Path.{◌≡◌, refl, sym, ap, ◌∙◌}
use mathlib.Core.List.{List, [], ◌∷◌, ◌++◌, map, append_assoc, append-nil}
use lib.ListN.{length, take, drop, get_or, replicate, length-append, length-drop, length-take}
use lib.Seq.{take_all, take-nil, take-suc}
use borrow.Rule.Slice.PartMut.{mid_of, put_mid}
use Rattle.std.proofs.lemmas.List.{map-append}
use Rattle.lists.specs.Written.{written}
use Rattle.lists.proofs.Written.{written_then, written_long}
use Rattle.def_book.specs.Held.{held}
use Rattle.def_book.specs.Bytes.{joined}
use Rattle.def_book.specs.Put.{Put}

-- a text, and another in what is left
pub then : {a b x y z : List ℕ} {p q : ℕ} → Put a x y p → Put b (mid_of p (length y - p) y) z q → Put (a ++ b) x (put_mid p (length y - p) y z) (p + q)
then {a = a} {b} {x} e f = record { placed = written_then a b x e.placed e.long f.placed; long = omega (arith, e.long, f.long, length-append a b) }

-- a text that was copied
pub copied : (s text x y : List ℕ) (r : ℕ) → s ≡ text → r ≡ length s → y ≡ written s x → Put text x y r
copied s text x y r t e f = rw (← t) record { placed = f; long = e }

pub same_text : {a b x y : List ℕ} {r : ℕ} → a ≡ b → Put a x y r → Put b x y r
same_text t e = rw (← t) (record { placed = e.placed; long = e.long })

-- the buffer keeps its length
pub same_long : {a x y : List ℕ} {r : ℕ} → Put a x y r → length a ≤ length x → length y ≡ length x
same_long {a} {x} e h = ap length e.placed ∙ written_long a x h

-- the room behind p bytes
pub room_behind : (y : List ℕ) (p : ℕ) → length (take (length y - p) (drop p y)) ≡ length y - p
room_behind y p = simp (length-take, length-drop) (omega arith)

-- ---- rows of one size
module _ {A : Type 0} (f : A → List ℕ) (n : ℕ) (size : (x : A) → length (f x) ≡ n) where
  joined_long : (l : List A) → length (joined (map f l)) ≡ n * length l
  unfolding joined
  joined_long [] = omega arith
  joined_long (x ∷ l) = length-append (f x) (joined (map f l)) ∙ go (size x) (joined_long l)
    where
      go : length (f x) ≡ n → length (joined (map f l)) ≡ n * length l → length (f x) + length (joined (map f l)) ≡ n * length (x ∷ l)
      go a b = omega (arith, a, b, mul-suc n (length l))

  pub take_long : (rows : List A) (i : ℕ) → i ≤ length rows → length (joined (map f (take i rows))) ≡ n * i
  take_long rows i h = joined_long (take i rows) ∙ ap (λ k. n * k) (length-take i rows ∙ min-eq_left h)

-- the loop that puts rows one by one: the first i are put, and take n bytes each
module _ {A : Type 0} (f : A → List ℕ) (n : ℕ) (size : (x : A) → length (f x) ≡ n) (rows : List A)
    {out₀ out : List ℕ} {at i : ℕ} (room : n * length rows ≤ length out₀) (put : Put (joined (map f (take i rows))) out₀ out at) where
  pub room_left : i < length rows → n + at ≤ length out
  room_left h =
      let taken : length (joined (map f (take i rows))) ≡ n * i = take_long f n size rows i (omega arith) in
      let next : n * suc i ≤ length out₀ = le_trans (mul-le-mul_left n h) room in
      let kept : length out ≡ length out₀ = same_long put (omega (arith, taken, next, mul-suc n i)) in
      omega (arith, kept, put.long, taken, next, mul-suc n i)

pub joined_append : (a b : List (List ℕ)) → joined (a ++ b) ≡ joined a ++ joined b
unfolding joined
joined_append [] b = refl
joined_append (x ∷ a) b = ap (◌++◌ x) (joined_append a b) ∙ sym (append_assoc x (joined a) (joined b))

-- one row more
pub rows_more : {A : Type 0} (f : A → List ℕ) (rows : List A) (i : ℕ) (d : A) → i < length rows
    → joined (map f (take i rows)) ++ f (get_or rows i d) ≡ joined (map f (take (i + 1) rows))
unfolding joined
rows_more f rows i d h =
    let one : joined (f (get_or rows i d) ∷ []) ≡ f (get_or rows i d) = append-nil (f (get_or rows i d)) in
    sym
    (ap (λ k. joined (map f (take k rows))) (add-one i)
    ∙ ap (λ l. joined (map f l)) (take-suc rows i d h)
    ∙ ap joined (map-append f (take i rows) (get_or rows i d ∷ []))
    ∙ joined_append (map f (take i rows)) (f (get_or rows i d) ∷ [])
    ∙ ap (◌++◌ (joined (map f (take i rows)))) one)

-- ---- the bytes of a name
held_is : (room : ℕ) (l : List ℕ) → held room 0 l ≡ take room l ++ replicate (room - length l) 0
unfolding held
held_is zero l = ap (λ k. replicate k 0) (none (length l))
  where
    none : (k : ℕ) → 0 ≡ 0 - k
    none k = omega arith
held_is (suc room) [] = ap (λ m. 0 ∷ m) (held_is room [] ∙ ap (λ m. m ++ replicate (room - 0) 0) (take-nil room)) ∙ ap (λ k. replicate k 0) (more room)
  where
    more : (k : ℕ) → suc (k - 0) ≡ suc k - 0
    more k = omega arith
held_is (suc room) (x ∷ l) = ap (λ m. x ∷ m) (held_is room l) ∙ ap (λ k. x ∷ (take room l ++ replicate k 0)) (same (length l))
  where
    same : (k : ℕ) → room - k ≡ suc room - suc k
    same k = omega arith

-- the bytes of a name, and zeros behind them
pub name_filled : (t : List ℕ) → length t ≤ 16 → t ++ replicate (16 - length t) 0 ≡ held 16 0 t
name_filled t h = ap (λ l. l ++ replicate (16 - length t) 0) (sym (take_all 16 t h)) ∙ sym (held_is 16 t)
