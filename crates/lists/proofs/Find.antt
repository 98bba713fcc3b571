-- Laws of find.
use mathlib.Core.Path.{◌≡◌, refl, sym, ap, ◌∙◌}
use mathlib.Core.Logic.{inl, inr, ⊎_elim}
use mathlib.Core.List.{List, [], ◌∷◌, ◌++◌, map}
use Rattle.std.specs.Prelude.{Option, None, Some, is_some, cond, filter, find, option_map}
use Rattle.std.specs.List.{list_any}
use mathlib.Core.Bool.{Bool, true, false, ◌||◌, false≢true}
use Rattle.lists.specs.Member.{In}
use Rattle.lists.specs.Find.{filter_o, Once}
use Rattle.lists.proofs.Member.{in_snoc, some_inj, none_some}
use Rattle.lists.proofs.Filter.{in_filter}

module _ {A : Type 0} where
  -- the library's test that one passes
  pub any_find : (q : A → Bool) (l : List A) → list_any q l ≡ is_some (find q l)
  any_find q [] = refl
  any_find q (x ∷ l) = go (q x) (any_find q l)
    where
      go : (b : Bool) → list_any q l ≡ is_some (find q l) → (b || list_any q l) ≡ is_some (cond b (Some x) (find q l))
      go true e = refl
      go false e = e

  pub find_in : (q : A → Bool) (l : List A) (x : A) → find q l ≡ Some x → In x l × (q x ≡ true)
  find_in q [] x h = absurd (none_some h)
  find_in q (y ∷ l) x h = go (q y) refl h (find_in q l x)
    where
      go : (b : Bool) → q y ≡ b → cond b (Some y) (find q l) ≡ Some x → (find q l ≡ Some x → In x l × (q x ≡ true)) → In x (y ∷ l) × (q x ≡ true)
      go true e p ih = let s : y ≡ x = some_inj p in (inl (sym s), sym (ap q s) ∙ e)
      go false e p ih = (inr (ih p).0, (ih p).1)

  pub find_none : (q : A → Bool) (l : List A) (x : A) → find q l ≡ None → In x l → q x ≡ false
  find_none q [] x h a = absurd a
  find_none q (y ∷ l) x h a = go (q y) refl h a (find_none q l x)
    where
      go : (b : Bool) → q y ≡ b → cond b (Some y) (find q l) ≡ None → In x (y ∷ l) → (find q l ≡ None → In x l → q x ≡ false) → q x ≡ false
      go true e p i ih = absurd (none_some (sym p))
      go false e p (inl s) ih = ap q s ∙ e
      go false e p (inr i) ih = ih p i

  pub none_find : (q : A → Bool) (l : List A) → ((x : A) → In x l → q x ≡ false) → find q l ≡ None
  none_find q [] h = refl
  none_find q (y ∷ l) h = rw (h y (inl refl)) (none_find q l (λ x i. h x (inr i)))

  pub find_same : (q r : A → Bool) (l : List A) → ((x : A) → In x l → q x ≡ r x) → find q l ≡ find r l
  find_same q r [] h = refl
  find_same q r (y ∷ l) h = rw (h y (inl refl), find_same q r l (λ x i. h x (inr i)))

  -- one row more
  pub find_snoc_some : (q : A → Bool) (l : List A) (y x : A) → find q l ≡ Some x → find q (l ++ (y ∷ [])) ≡ Some x
  find_snoc_some q [] y x h = absurd (none_some h)
  find_snoc_some q (z ∷ l) y x h = go (q z) h (find_snoc_some q l y x)
    where
      go : (b : Bool) → cond b (Some z) (find q l) ≡ Some x → (find q l ≡ Some x → find q (l ++ (y ∷ [])) ≡ Some x) → cond b (Some z) (find q (l ++ (y ∷ []))) ≡ Some x
      go true p ih = p
      go false p ih = ih p

  pub find_snoc_none : (q : A → Bool) (l : List A) (y : A) → find q l ≡ None → find q (l ++ (y ∷ [])) ≡ cond (q y) (Some y) None
  find_snoc_none q [] y h = refl
  find_snoc_none q (z ∷ l) y h = go (q z) h (find_snoc_none q l y)
    where
      go : (b : Bool) → cond b (Some z) (find q l) ≡ None → (find q l ≡ None → find q (l ++ (y ∷ [])) ≡ cond (q y) (Some y) None) → cond b (Some z) (find q (l ++ (y ∷ []))) ≡ cond (q y) (Some y) None
      go true p ih = absurd (none_some (sym p))
      go false p ih = ih p

  -- a row that does not pass changes nothing
  pub find_snoc_off : (q : A → Bool) (l : List A) (y : A) → q y ≡ false → find q (l ++ (y ∷ [])) ≡ find q l
  find_snoc_off q [] y h = rw h
  find_snoc_off q (z ∷ l) y h = rw (find_snoc_off q l y h)

  pub find_filter_some : (q t : A → Bool) (l : List A) (x : A) → find q l ≡ Some x → t x ≡ true → find q (filter t l) ≡ Some x
  find_filter_some q t [] x h k = h
  find_filter_some q t (y ∷ l) x h k = go (q y) refl h (find_filter_some q t l x)
    where
      back : (b : Bool) → q y ≡ false → find q (filter t l) ≡ Some x → find q (cond b (y ∷ (filter t l)) (filter t l)) ≡ Some x
      back true e p = rw e p
      back false e p = p

      go : (b : Bool) → q y ≡ b → cond b (Some y) (find q l) ≡ Some x → (find q l ≡ Some x → t x ≡ true → find q (filter t l) ≡ Some x) → find q (cond (t y) (y ∷ (filter t l)) (filter t l)) ≡ Some x
      go true e p ih = let s : y ≡ x = some_inj p in let ty : t y ≡ true = ap t s ∙ k in rw (ty, e) (ap Some s)
      go false e p ih = back (t y) e (ih p k)

  pub find_filter : (q t : A → Bool) (l : List A) → Once q l → find q (filter t l) ≡ filter_o t (find q l)
  find_filter q t l one = go (find q l) refl
    where
      off : (x : A) → find q l ≡ Some x → t x ≡ false → (o : Option A) → find q (filter t l) ≡ o → o ≡ None
      off x e f None r = refl
      off x e f (Some y) r =
          let i = find_in q (filter t l) y r in
          let j = in_filter t l y i.0 in
          let s : Some x ≡ Some y = sym e ∙ one y j.0 i.1 in
          absurd (false≢true (sym f ∙ ap t (some_inj s) ∙ j.1))

      at : (x : A) → find q l ≡ Some x → (b : Bool) → t x ≡ b → find q (filter t l) ≡ cond b (Some x) None
      at x e true k = find_filter_some q t l x e k
      at x e false k = off x e k (find q (filter t l)) refl

      go : (o : Option A) → find q l ≡ o → find q (filter t l) ≡ filter_o t o
      go None e = none_find q (filter t l) (λ x i. find_none q l x e (in_filter t l x i).0)
      go (Some x) e = at x e (t x) refl

  pub find_filter_same : (q t : A → Bool) → ((x : A) → q x ≡ true → t x ≡ true) → (l : List A) → find q (filter t l) ≡ find q l
  find_filter_same q t h [] = refl
  find_filter_same q t h (y ∷ l) = go (q y) refl (t y) refl (find_filter_same q t h l)
    where
      go : (b : Bool) → q y ≡ b → (c : Bool) → t y ≡ c → find q (filter t l) ≡ find q l → find q (cond c (y ∷ (filter t l)) (filter t l)) ≡ cond b (Some y) (find q l)
      go true e true f ih = rw e
      go true e false f ih = absurd (false≢true (sym f ∙ h y e))
      go false e true f ih = rw e ih
      go false e false f ih = ih

  pub once_filter : (q t : A → Bool) (l : List A) → Once q l → Once q (filter t l)
  once_filter q t l one x i h = let j = in_filter t l x i in find_filter_some q t l x (one x j.0 h) j.1

  pub once_snoc : (q : A → Bool) (l : List A) (y : A) → Once q l → (q y ≡ true → find q l ≡ None) → Once q (l ++ (y ∷ []))
  once_snoc q l y one fresh x i h = ⊎_elim old new (in_snoc l y x i)
    where
      old : In x l → find q (l ++ (y ∷ [])) ≡ Some x
      old j = find_snoc_some q l y x (one x j h)

      new : x ≡ y → find q (l ++ (y ∷ [])) ≡ Some x
      new p = let h' : q y ≡ true = sym (ap q p) ∙ h in find_snoc_none q l y (fresh h') ∙ rw h' (ap Some (sym p))

-- maps that leave the test as it was
module _ {A B : Type 0} (f : A → B) (q : B → Bool) (r : A → Bool) (same : (x : A) → q (f x) ≡ r x) where
  pub find_map : (l : List A) → find q (map f l) ≡ option_map f (find r l)
  find_map [] = refl
  find_map (x ∷ l) = rw (same x, find_map l) (go (r x))
    where
      go : (b : Bool) → cond b (Some (f x)) (option_map f (find r l)) ≡ option_map f (cond b (Some x) (find r l))
      go true = refl
      go false = refl
