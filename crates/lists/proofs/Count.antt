-- Laws of count.
use Prim.Native.Nat.{suc, ◌+◌, ◌≤◌}
use native.Mathlib.Omega.{arith}
use mathlib.Core.Path.{◌≡◌, refl, sym, ap, ◌∙◌}
use mathlib.Core.Logic.{inl, inr}
use mathlib.Core.List.{List, [], ◌∷◌, ◌++◌, map}
use mathlib.Core.Bool.{Bool, true, false, false≢true}
use lib.ListN.{length}
use Rattle.lists.specs.Member.{In}
use Rattle.std.specs.Prelude.{cond, filter}
use Rattle.lists.specs.Count.{more, count}

module _ {A : Type 0} where
  -- a weaker test passes more
  pub count_weaker : (q r : A → Bool) (l : List A) → ((x : A) → In x l → q x ≡ true → r x ≡ true) → count q l ≤ count r l
  count_weaker q r [] h = omega arith
  count_weaker q r (x ∷ l) h = go (q x) refl (r x) refl (count_weaker q r l (λ y i. h y (inr i)))
    where
      go : (a : Bool) → q x ≡ a → (b : Bool) → r x ≡ b → count q l ≤ count r l → more a (count q l) ≤ more b (count r l)
      go true e true f ih = omega arith
      go true e false f ih = absurd (false≢true (sym f ∙ h x (inl refl) e))
      go false e true f ih = omega arith
      go false e false f ih = ih

  pub count_length : (q : A → Bool) (l : List A) → count q l ≤ length l
  count_length q [] = omega arith
  count_length q (x ∷ l) = go (q x) (count_length q l)
    where
      go : (b : Bool) → count q l ≤ length l → more b (count q l) ≤ suc (length l)
      go true h = omega arith
      go false h = omega arith

  pub count_is_length : (q : A → Bool) (l : List A) → count q l ≡ length (filter q l)
  count_is_length q [] = refl
  count_is_length q (x ∷ l) = rw (count_is_length q l) (go (q x))
    where
      go : (b : Bool) → more b (length (filter q l)) ≡ length (cond b (x ∷ (filter q l)) (filter q l))
      go true = refl
      go false = refl

  pub count_filter : (q t : A → Bool) (l : List A) → count q (filter t l) ≤ count q l
  count_filter q t [] = omega arith
  count_filter q t (x ∷ l) = go (t x) (count_filter q t l)
    where
      up : (c : Bool) → count q (filter t l) ≤ count q l → more c (count q (filter t l)) ≤ more c (count q l)
      up true h = omega arith
      up false h = h

      off : (c : Bool) → count q (filter t l) ≤ count q l → count q (filter t l) ≤ more c (count q l)
      off true h = omega arith
      off false h = h

      go : (b : Bool) → count q (filter t l) ≤ count q l → count q (cond b (x ∷ (filter t l)) (filter t l)) ≤ more (q x) (count q l)
      go true h = up (q x) h
      go false h = off (q x) h

  pub count_filter_lt : (q t : A → Bool) (l : List A) (x : A) → In x l → q x ≡ true → t x ≡ false → suc (count q (filter t l)) ≤ count q l
  count_filter_lt q t [] x i h k = absurd i
  count_filter_lt q t (y ∷ l) x (inl p) h k =
      let qy : q y ≡ true = sym (ap q p) ∙ h in
      let ty : t y ≡ false = sym (ap t p) ∙ k in
      rw (qy, ty) (omega (arith, count_filter q t l))
  count_filter_lt q t (y ∷ l) x (inr i) h k = go (t y) (q y) refl (count_filter_lt q t l x i h k)
    where
      go : (b c : Bool) → q y ≡ c → suc (count q (filter t l)) ≤ count q l → suc (count q (cond b (y ∷ (filter t l)) (filter t l))) ≤ more c (count q l)
      go true true e ih = rw e (omega arith)
      go true false e ih = rw e ih
      go false true e ih = omega arith
      go false false e ih = ih

  -- one row more
  pub count_snoc : (q : A → Bool) (l : List A) (y : A) → count q (l ++ (y ∷ [])) ≡ more (q y) (count q l)
  count_snoc q [] y = refl
  count_snoc q (x ∷ l) y = rw (count_snoc q l y) (go (q x) (q y))
    where
      go : (a b : Bool) → more a (more b (count q l)) ≡ more b (more a (count q l))
      go true true = refl
      go true false = refl
      go false true = refl
      go false false = refl

  pub count_append : (q : A → Bool) (l m : List A) → count q (l ++ m) ≡ count q l + count q m
  count_append q [] m = omega arith
  count_append q (x ∷ l) m = rw (count_append q l m) (go (q x))
    where
      go : (b : Bool) → more b (count q l + count q m) ≡ more b (count q l) + count q m
      go true = omega arith
      go false = refl

  pub count_none : (q : A → Bool) (l : List A) → ((x : A) → In x l → q x ≡ false) → count q l ≡ 0
  count_none q [] h = refl
  count_none q (x ∷ l) h = rw (h x (inl refl)) (count_none q l (λ y i. h y (inr i)))

  pub count_all : (l : List A) → count (λ x. true) l ≡ length l
  count_all [] = refl
  count_all (x ∷ l) = ap suc (count_all l)

  pub count_change : (q : A → Bool) (f : A → A) → ((x : A) → q (f x) ≡ true → q x ≡ true) → (l : List A) → count q (map f l) ≤ count q l
  count_change q f h [] = omega arith
  count_change q f h (x ∷ l) = go (q (f x)) refl (q x) refl (count_change q f h l)
    where
      go : (a : Bool) → q (f x) ≡ a → (b : Bool) → q x ≡ b → count q (map f l) ≤ count q l → more a (count q (map f l)) ≤ more b (count q l)
      go true e true g ih = omega arith
      go true e false g ih = absurd (false≢true (sym g ∙ h x e))
      go false e true g ih = omega arith
      go false e false g ih = ih

  pub count_change_lt : (q : A → Bool) (f : A → A) → ((x : A) → q (f x) ≡ true → q x ≡ true) → (l : List A) (y : A) → In y l → q y ≡ true → q (f y) ≡ false → suc (count q (map f l)) ≤ count q l
  count_change_lt q f h [] y i a b = absurd i
  count_change_lt q f h (x ∷ l) y (inl p) a b =
      let qx : q x ≡ true = sym (ap q p) ∙ a in
      let qf : q (f x) ≡ false = sym (ap (λ z. q (f z)) p) ∙ b in
      rw (qx, qf) (omega (arith, count_change q f h l))
  count_change_lt q f h (x ∷ l) y (inr i) a b = go (q (f x)) refl (q x) refl (count_change_lt q f h l y i a b)
    where
      go : (a : Bool) → q (f x) ≡ a → (b : Bool) → q x ≡ b → suc (count q (map f l)) ≤ count q l → suc (more a (count q (map f l))) ≤ more b (count q l)
      go true e true g ih = omega arith
      go true e false g ih = absurd (false≢true (sym g ∙ h x e))
      go false e true g ih = omega arith
      go false e false g ih = ih

-- maps that leave the test as it was
pub count_map : {A B : Type 0} (f : A → B) (q : B → Bool) (r : A → Bool) → ((x : A) → q (f x) ≡ r x) → (l : List A) → count q (map f l) ≡ count r l
count_map f q r same [] = refl
count_map f q r same (x ∷ l) = rw (same x, count_map f q r same l)
