-- A filter, a search, and what they leave and find.
use mathlib.Core.Path.{◌≡◌, refl, sym, ap, subst, ◌∙◌}
use mathlib.Core.Logic.{inl, inr}
use mathlib.Core.List.{List, [], ◌∷◌, ◌++◌}
use mathlib.Core.Bool.{Bool, true, false}
use Rattle.std.specs.Prelude.{None, Some, cond, filter, find}
use Rattle.lists.specs.Member.{In}
use Rattle.lists.proofs.Find.{find_none}
use Rattle.lists.proofs.Member.{some_inj, none_some, in_right}
use Rattle.rules.specs.Left.{Without, nothing, goes, stays, First, No}

module _ {A : Type 0} (Gone : A → Type 0) (t : A → Bool) (off : (x : A) → t x ≡ true → Gone x → ⊥)
    (on : (x : A) → t x ≡ false → Gone x) where
  pub filter_without : (l : List A) → Without Gone l (filter t l)
  filter_without [] = nothing
  filter_without (x ∷ l) = go (t x) refl (filter_without l)
    where
      go : (b : Bool) → t x ≡ b → Without Gone l (filter t l)
          → Without Gone (x ∷ l) (cond b (x ∷ (filter t l)) (filter t l))
      go true e w = stays (off x e) w
      go false e w = goes (on x e) w

module _ {A : Type 0} (Right : A → Type 0) (t : A → Bool) (yes : (x : A) → t x ≡ true → Right x)
    (no : (x : A) → t x ≡ false → Right x → ⊥) where
  pub find_first : (l : List A) (x : A) → find t l ≡ Some x → First Right l x
  find_first [] x h = absurd (none_some h)
  find_first (y ∷ l) x h = go (t y) refl h (find_first l x)
    where
      go : (b : Bool) → t y ≡ b → cond b (Some y) (find t l) ≡ Some x → (find t l ≡ Some x → First Right l x)
          → First Right (y ∷ l) x
      go true e p ih =
          let s : y ≡ x = some_inj p in
          record {
            before = [];
            behind = l;
            splits = ap (λ z. z ∷ l) s;
            right = yes x (ap t (sym s) ∙ e);
            none = λ z i r. absurd i;
          }
      go false e p ih =
          let f = ih p in
          record {
            before = y ∷ f.before;
            behind = f.behind;
            splits = ap (λ z. y ∷ z) f.splits;
            right = f.right;
            none = none f;
          }
        where
          none : (f : First Right l x) (z : A) → In z (y ∷ f.before) → Right z → ⊥
          none f z (inl q) r = no y e (subst Right q r)
          none f z (inr i) r = f.none z i r

  pub find_no : (l : List A) → find t l ≡ None → No Right l
  find_no l h x i = no x (find_none t l x h i)

  pub first_find : (l : List A) (x : A) → First Right l x → find t l ≡ Some x
  first_find l x f = ap (find t) f.splits ∙ go f.before f.none
    where
      here : (b : Bool) → t x ≡ b → cond b (Some x) (find t f.behind) ≡ Some x
      here true e = refl
      here false e = absurd (no x e f.right)

      go : (k : List A) → ((y : A) → In y k → Right y → ⊥) → find t (k ++ (x ∷ f.behind)) ≡ Some x
      go [] none = here (t x) refl
      go (y ∷ k) none = at (t y) refl (go k (λ z i r. none z (inr i) r))
        where
          at : (b : Bool) → t y ≡ b → find t (k ++ (x ∷ f.behind)) ≡ Some x
              → cond b (Some y) (find t (k ++ (x ∷ f.behind))) ≡ Some x
          at true e ih = absurd (none y (inl refl) (yes y e))
          at false e ih = ih

  -- the first one is one row, and it is among the rows
  pub first_same : (l : List A) (x y : A) → First Right l x → First Right l y → x ≡ y
  first_same l x y f g = some_inj (sym (first_find l x f) ∙ first_find l y g)

pub first_in : {A : Type 0} (Right : A → Type 0) (l : List A) (x : A) → First Right l x → In x l
first_in Right l x f = subst (In x) (sym f.splits) (in_right f.before (x ∷ f.behind) x (inl refl))
