-- What a search finds is the first row with the property that it tests.
use mathlib.Core.Path.{◌≡◌, refl, sym, ap, ◌∙◌, subst}
use mathlib.Core.Logic.{inl, inr}
use mathlib.Core.List.{List, [], ◌∷◌, ◌++◌}
use Rattle.std.specs.Prelude.{Option, None, Some, cond, find}
use mathlib.Core.Bool.{Bool, true, false, false≢true}
use Rattle.lists.specs.Member.{In}
use Rattle.lists.proofs.Find.{none_find}
use Rattle.rules.specs.First.{First}

module _ {A : Type 0} (q : A → Bool) (P : A → Type 0) (to : (x : A) → q x ≡ true → P x) (back : (x : A) → P x → q x ≡ true) where
  later : (y : A) (l : List A) (o : Option A) → (P y → ⊥) → First P l o → First P (y ∷ l) o
  later y l None n f = go
    where
      go : (z : A) → In z (y ∷ l) → P z → ⊥
      go z (inl p) h = n (subst P p h)
      go z (inr i) h = f z i h
  later y l (Some x) n f = (y ∷ f.0, f.1, ap (λ t. y ∷ t) f.2, f.3, go)
    where
      go : (z : A) → In z (y ∷ f.0) → P z → ⊥
      go z (inl p) h = n (subst P p h)
      go z (inr i) h = f.4 z i h

  pub found : (l : List A) → First P l (find q l)
  found [] = λ x i h. i
  found (y ∷ l) = go (q y) refl (found l)
    where
      go : (b : Bool) → q y ≡ b → First P l (find q l) → First P (y ∷ l) (cond b (Some y) (find q l))
      go true e f = ([], l, refl, to y e, λ z i h. i)
      go false e f = later y l (find q l) (λ h. false≢true (sym e ∙ back y h)) f

  -- and there is no other
  pub first_found : (l : List A) (o : Option A) → First P l o → find q l ≡ o
  first_found l None f = none_find q l (λ x i. off x i (q x) refl)
    where
      off : (x : A) → In x l → (b : Bool) → q x ≡ b → b ≡ false
      off x i true e = absurd (f x i (to x e))
      off x i false e = refl
  first_found l (Some x) f = ap (find q) f.2 ∙ past f.0 f.4
    where
      past : (before : List A) → ((y : A) → In y before → P y → ⊥) → find q (before ++ (x ∷ f.1)) ≡ Some x
      past [] n = rw (back x f.3) refl
      past (y ∷ before) n = go (q y) refl (past before (λ z i. n z (inr i)))
        where
          go : (b : Bool) → q y ≡ b → find q (before ++ (x ∷ f.1)) ≡ Some x → cond b (Some y) (find q (before ++ (x ∷ f.1))) ≡ Some x
          go true e r = absurd (n y (inl refl) (to y e))
          go false e r = r
