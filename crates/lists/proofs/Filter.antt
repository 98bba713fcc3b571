-- Laws of filter.
use Prim.Native.Nat.{◌≤◌}
use native.Mathlib.Omega.{arith}
use mathlib.Core.Path.{◌≡◌, refl, sym, ap, ◌∙◌}
use mathlib.Core.Logic.{inl, inr}
use mathlib.Core.List.{List, [], ◌∷◌, ◌++◌, map}
use mathlib.Core.Bool.{Bool, true, false, ◌&&◌}
use lib.ListN.{length}
use Rattle.std.proofs.lemmas.List.Elements.{filter-append}
use Rattle.lists.specs.Member.{In}
use Rattle.std.specs.Prelude.{cond, filter}

module _ {A : Type 0} where
  -- one row more, by whether it passes
  pub filter_snoc_on : (t : A → Bool) (l : List A) (y : A) → t y ≡ true → filter t (l ++ (y ∷ [])) ≡ filter t l ++ (y ∷ [])
  filter_snoc_on t l y h = filter-append t l (y ∷ []) ∙ ap (λ b. filter t l ++ cond b (y ∷ []) []) h

  pub filter_snoc_off : (t : A → Bool) (l : List A) (y : A) → t y ≡ false → filter t (l ++ (y ∷ [])) ≡ filter t l
  filter_snoc_off t [] y h = rw h
  filter_snoc_off t (x ∷ l) y h = rw (filter_snoc_off t l y h)

  pub length_filter : (t : A → Bool) (l : List A) → length (filter t l) ≤ length l
  length_filter t [] = omega arith
  length_filter t (x ∷ l) = go (t x) (length_filter t l)
    where
      go : (b : Bool) → length (filter t l) ≤ length l → length (cond b (x ∷ (filter t l)) (filter t l)) ≤ length (x ∷ l)
      go true h = omega arith
      go false h = omega arith

  pub filter_all : (t : A → Bool) (l : List A) → ((x : A) → In x l → t x ≡ true) → filter t l ≡ l
  filter_all t [] h = refl
  filter_all t (x ∷ l) h = rw (h x (inl refl), filter_all t l (λ y i. h y (inr i)))

  pub filter_none : (t : A → Bool) (l : List A) → ((x : A) → In x l → t x ≡ false) → filter t l ≡ []
  filter_none t [] h = refl
  filter_none t (x ∷ l) h = rw (h x (inl refl), filter_none t l (λ y i. h y (inr i)))

  pub filter_same : (t u : A → Bool) (l : List A) → ((x : A) → In x l → t x ≡ u x) → filter t l ≡ filter u l
  filter_same t u [] h = refl
  filter_same t u (x ∷ l) h = rw (h x (inl refl), filter_same t u l (λ y i. h y (inr i)))

  pub filter_filter : (t u : A → Bool) (l : List A) → filter t (filter u l) ≡ filter (λ x. t x && u x) l
  filter_filter t u [] = refl
  filter_filter t u (x ∷ l) = go (t x) (u x) refl refl (filter_filter t u l)
    where
      go : (a b : Bool) → t x ≡ a → u x ≡ b → filter t (filter u l) ≡ filter (λ x. t x && u x) l → filter t (cond b (x ∷ (filter u l)) (filter u l)) ≡ cond (a && b) (x ∷ (filter (λ x. t x && u x) l)) (filter (λ x. t x && u x) l)
      go true true e f h = rw (e, h)
      go true false e f h = h
      go false true e f h = rw (e, h)
      go false false e f h = h

  pub in_filter : (t : A → Bool) (l : List A) (x : A) → In x (filter t l) → In x l × (t x ≡ true)
  in_filter t [] x a = absurd a
  in_filter t (y ∷ l) x a = go (t y) refl a (in_filter t l x)
    where
      go : (b : Bool) → t y ≡ b → In x (cond b (y ∷ (filter t l)) (filter t l)) → (In x (filter t l) → In x l × (t x ≡ true)) → In x (y ∷ l) × (t x ≡ true)
      go true e (inl p) ih = (inl p, ap t p ∙ e)
      go true e (inr i) ih = (inr (ih i).0, (ih i).1)
      go false e i ih = (inr (ih i).0, (ih i).1)

  pub filter_in : (t : A → Bool) (l : List A) (x : A) → In x l → t x ≡ true → In x (filter t l)
  filter_in t [] x a h = a
  filter_in t (y ∷ l) x (inl p) h = let e : t y ≡ true = sym (ap t p) ∙ h in rw e (inl p)
  filter_in t (y ∷ l) x (inr a) h = go (t y) (filter_in t l x a h)
    where
      go : (b : Bool) → In x (filter t l) → In x (cond b (y ∷ (filter t l)) (filter t l))
      go true i = inr i
      go false i = i

-- maps that leave the test as it was
pub filter_map : {A B : Type 0} (f : A → B) (q : B → Bool) (r : A → Bool) → ((x : A) → q (f x) ≡ r x) → (l : List A) → filter q (map f l) ≡ map f (filter r l)
filter_map f q r same [] = refl
filter_map f q r same (x ∷ l) = rw (same x, filter_map f q r same l) (go (r x))
  where
    go : (b : Bool) → cond b ((f x) ∷ (map f (filter r l))) (map f (filter r l)) ≡ map f (cond b (x ∷ (filter r l)) (filter r l))
    go true = refl
    go false = refl
