-- Laws of rows of which at most one passes: the one at its place is removed, or changed.
use Prim.Native.Nat.{ℕ, suc, ◌+◌, ◌<◌}
use native.Mathlib.Omega.{arith}
use mathlib.Core.Path.{◌≡◌, refl, sym, ap, ◌∙◌}
use mathlib.Core.List.{List, [], ◌∷◌, ◌++◌, map}
use mathlib.Core.Bool.{Bool, true, false, not, cond, false≢true}
use lib.Dec.{eqb, ltb}
use lib.ListN.{length, get_or, set}
use borrow.Author.Tests.{eqb-true, ne_eqb, ltb-true, ltb-false}
use Rattle.std.specs.Prelude.{Option, None, Some, is_some, find, filter, slice_get}
use Rattle.std.proofs.lemmas.List.Folds.{find_at}
use Rattle.std.proofs.lemmas.Option.{cond_some, slice_get-get_or, slice_get_past}
use Rattle.std.proofs.lemmas.List.{map-id}
use Rattle.std.specs.List.{position, position_or_len, remove}
use Rattle.lists.specs.Rising.{RisesFrom}
use Rattle.lists.proofs.Member.{none_some, map_same}
use Rattle.lists.proofs.Find.{find_none, none_find, find_snoc_none}
use Rattle.lists.proofs.Filter.{filter_all, in_filter}
use Rattle.lists.proofs.Rising.{rises_in}
use Rattle.lists.specs.Lone.{Lone}

one_more : (n : ℕ) → 1 + n ≡ suc n
one_more n = omega arith

module _ {A : Type 0} (q : A → Bool) where
  pub lone_filter : (t : A → Bool) (l : List A) → Lone q l → Lone q (filter t l)
  lone_filter t [] h = h
  lone_filter t (x ∷ l) h = go (t x) (lone_filter t l h.1)
    where
      go : (b : Bool) → Lone q (filter t l) → Lone q (cond b (x ∷ filter t l) (filter t l))
      go true k = (λ e. none_find q (filter t l) (λ y i. find_none q l y (h.0 e) (in_filter t l y i).0), k)
      go false k = k

  pub lone_snoc : (l : List A) (y : A) → Lone q l → (q y ≡ true → find q l ≡ None) → Lone q (l ++ y ∷ [])
  lone_snoc [] y h k = (λ e. refl, tt)
  lone_snoc (x ∷ l) y h k = (λ e. find_snoc_none q l y (h.0 e) ∙ go (q y) refl e, lone_snoc l y h.1 (λ e. later (q x) (k e)))
    where
      later : (b : Bool) → cond b (Some x) (find q l) ≡ None → find q l ≡ None
      later true e = absurd (none_some (sym e))
      later false e = e

      first : (b : Bool) → b ≡ true → cond b (Some x) (find q l) ≡ None → ⊥
      first true e f = none_some (sym f)
      first false e f = false≢true e

      go : (b : Bool) → q y ≡ b → q x ≡ true → cond b (Some y) None ≡ None
      go true e f = absurd (first (q x) f (k e))
      go false e f = refl

  -- where none passes, all others are all
  pub rest_all : (l : List A) → find q l ≡ None → filter (λ x. not (q x)) l ≡ l
  rest_all l e = filter_all (λ x. not (q x)) l (λ x i. ap not (find_none q l x e i))

  pub removed : (l : List A) → Lone q l → position_or_len q l < length l → remove l (position_or_len q l) ≡ filter (λ x. not (q x)) l
  removed [] h p = absurd (omega arith)
  removed (x ∷ l) h p = go (q x) refl p (removed l h.1)
    where
      place : Bool → ℕ
      place b = cond (not b) (1 + position_or_len q l) 0

      go : (b : Bool) → q x ≡ b → place b < length (x ∷ l) → (position_or_len q l < length l → remove l (position_or_len q l) ≡ filter (λ x. not (q x)) l) → remove (x ∷ l) (place b) ≡ cond (not b) (x ∷ filter (λ x. not (q x)) l) (filter (λ x. not (q x)) l)
      go true e p ih = sym (rest_all l (h.0 e))
      go false e p ih = let less : position_or_len q l < length l = omega arith in rw (one_more (position_or_len q l)) (ap (λ z. x ∷ z) (ih less))

  pub changed_none : (f : A → A) (l : List A) → find q l ≡ None → map (λ x. cond (q x) (f x) x) l ≡ l
  changed_none f l e = map_same (λ x. cond (q x) (f x) x) (λ x. x) l (λ y i. ap (λ b. cond b (f y) y) (find_none q l y e i)) ∙ map-id l

  pub changed : (f : A → A) (d : A) (l : List A) → Lone q l → position_or_len q l < length l → map (λ x. cond (q x) (f x) x) l ≡ set l (position_or_len q l) (f (get_or l (position_or_len q l) d))
  changed f d [] h p = absurd (omega arith)
  changed f d (x ∷ l) h p = go (q x) refl p (changed f d l h.1)
    where
      place : Bool → ℕ
      place b = cond (not b) (1 + position_or_len q l) 0

      new : A → A
      new x = cond (q x) (f x) x

      go : (b : Bool) → q x ≡ b → place b < length (x ∷ l) → (position_or_len q l < length l → map new l ≡ set l (position_or_len q l) (f (get_or l (position_or_len q l) d))) → cond b (f x) x ∷ map new l ≡ set (x ∷ l) (place b) (f (get_or (x ∷ l) (place b) d))
      go true e p ih = ap (λ z. f x ∷ z) (changed_none f l (h.0 e))
      go false e p ih = let less : position_or_len q l < length l = omega arith in rw (one_more (position_or_len q l)) (ap (λ z. x ∷ z) (ih less))

  -- ---- the place of the first that passes, and whether one does
  pub within : (l : List A) → ltb (position_or_len q l) (length l) ≡ is_some (find q l)
  within l = go (ltb i (length l)) refl ∙ ap is_some (sym (find_at q l))
    where
      i : ℕ
      i = position_or_len q l

      first : (l : List A) {n : ℕ} → n < length l → A
      first [] h = absurd (omega arith)
      first (x ∷ l) h = x

      go : (b : Bool) → ltb i (length l) ≡ b → ltb i (length l) ≡ is_some (slice_get l i)
      go true e = e ∙ ap is_some (sym (slice_get-get_or l i (first l (ltb-true _ _ e)) (ltb-true _ _ e)))
      go false e = e ∙ ap is_some (sym (slice_get_past l i (ltb-false _ _ e)))

  pub some_row : (l : List A) → is_some (position q l) ≡ is_some (find q l)
  some_row l = go (ltb (position_or_len q l) (length l)) ∙ within l
    where
      go : (b : Bool) → is_some (cond b (Some (position_or_len q l)) None) ≡ b
      go true = refl
      go false = refl

  pub row_at : (l : List A) (i : ℕ) → Some i ≡ position q l → (i < length l) × (i ≡ position_or_len q l)
  row_at l i e = let r = cond_some (ltb (position_or_len q l) (length l)) _ _ (sym e) in rw (sym r.1) (ltb-true _ _ r.0, refl)

  pub no_row : (l : List A) → None ≡ position q l → find q l ≡ None
  no_row l e = go (find q l) (sym (some_row l) ∙ ap is_some (sym e))
    where
      go : (o : Option A) → is_some o ≡ false → o ≡ None
      go None h = refl
      go (Some x) h = absurd (false≢true (sym h))

  -- what is left when the row at its place is removed, or none is
  pub dropped : (l : List A) (i : ℕ) → Lone q l → Some i ≡ position q l → remove l i ≡ filter (λ x. not (q x)) l
  dropped l i h e =
      let r = row_at l i e in
      let less : position_or_len q l < length l = omega (arith, r.0, r.1) in
      ap (remove l) r.1 ∙ removed l h less

  pub find_row : (l : List A) (i : ℕ) (d : A) → Some i ≡ position q l → find q l ≡ Some (get_or l i d)
  find_row l i d e = let r = row_at l i e in find_at q l ∙ ap (slice_get l) (sym r.1) ∙ slice_get-get_or l i d r.0

  pub changed_at : (f : A → A) (d : A) (l : List A) (i : ℕ) → Lone q l → Some i ≡ position q l → set l i (f (get_or l i d)) ≡ map (λ x. cond (q x) (f x) x) l
  changed_at f d l i h e =
      let r = row_at l i e in
      let less : position_or_len q l < length l = omega (arith, r.0, r.1) in
      ap (λ j. set l j (f (get_or l j d))) r.1 ∙ sym (changed f d l h less)

module _ {A : Type 0} (f : A → ℕ) where
  -- rows by rising number: at most one has the number k
  pub lone_rising : (k a : ℕ) (l : List A) → RisesFrom f a l → Lone (λ x. eqb (f x) k) l
  lone_rising k a [] r = tt
  lone_rising k a (x ∷ l) r =
      (λ e. none_find (λ x. eqb (f x) k) l (λ y i. ne_eqb (f y) k (λ z. omega (arith, eqb-true _ _ e, z, rises_in f (suc (f x)) l y r.1 i))), lone_rising k (suc (f x)) l r.1)

pub not_swap : (a b : Bool) → not a ≡ b → a ≡ not b
not_swap true true e = sym e
not_swap true false e = refl
not_swap false true e = refl
not_swap false false e = sym e
