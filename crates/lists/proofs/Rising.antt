-- Laws of rising.
use Prim.Native.Nat.{ℕ, suc, ◌≤◌, ◌<◌}
use native.Mathlib.Omega.{arith}
use mathlib.Core.Path.{◌≡◌, refl, sym, ap, ◌∙◌}
use mathlib.Core.Logic.{inl, inr}
use mathlib.Core.List.{List, [], ◌∷◌, ◌++◌, map}
use Rattle.std.specs.Prelude.{None, Some, cond, filter, find}
use mathlib.Core.Bool.{Bool, true, false, false≢true}
use lib.Dec.{eqb}
use borrow.Author.Tests.{eqb-true, ne_eqb}
use Rattle.lists.specs.Member.{In}
use Rattle.lists.specs.Find.{Once}
use Rattle.lists.specs.Rising.{RisesFrom}
use Rattle.lists.proofs.Member.{none_some}
use Rattle.lists.proofs.Find.{none_find}

module _ {A : Type 0} (f : A → ℕ) where
  pub rises_less : (a b : ℕ) (l : List A) → a ≤ b → RisesFrom f b l → RisesFrom f a l
  rises_less a b [] h r = r
  rises_less a b (x ∷ l) h r = (omega (arith, r.0), r.1)

  pub rises_in : (a : ℕ) (l : List A) (x : A) → RisesFrom f a l → In x l → a ≤ f x
  rises_in a [] x r i = absurd i
  rises_in a (y ∷ l) x r (inl p) = let e : f x ≡ f y = ap f p in omega (arith, r.0)
  rises_in a (y ∷ l) x r (inr i) = omega (arith, r.0, rises_in (suc (f y)) l x r.1 i)

  pub rises_filter : (t : A → Bool) (a : ℕ) (l : List A) → RisesFrom f a l → RisesFrom f a (filter t l)
  rises_filter t a [] r = r
  rises_filter t a (x ∷ l) r = go (t x) (rises_filter t (suc (f x)) l r.1)
    where
      go : (b : Bool) → RisesFrom f (suc (f x)) (filter t l) → RisesFrom f a (cond b (x ∷ (filter t l)) (filter t l))
      go true h = (r.0, h)
      go false h = rises_less a (suc (f x)) (filter t l) (omega (arith, r.0)) h

  -- one row more, above the others
  pub rises_snoc : (a : ℕ) (l : List A) (y : A) → RisesFrom f a l → a ≤ f y → ((x : A) → In x l → f x < f y) → RisesFrom f a (l ++ (y ∷ []))
  rises_snoc a [] y r h k = (h, tt)
  rises_snoc a (x ∷ l) y r h k = (r.0, rises_snoc (suc (f x)) l y r.1 (k x (inl refl)) (λ z i. k z (inr i)))

  pub rises_map : (g : A → A) → ((x : A) → f (g x) ≡ f x) → (a : ℕ) (l : List A) → RisesFrom f a l → RisesFrom f a (map g l)
  rises_map g e a [] r = r
  rises_map g e a (x ∷ l) r = rw (e x) (r.0, rises_map g e (suc (f x)) l r.1)

  -- no two have the same number
  pub rises_once : (a : ℕ) (l : List A) → RisesFrom f a l → (n : ℕ) → Once (λ x. eqb (f x) n) l
  rises_once a [] r n x i h = absurd i
  rises_once a (y ∷ l) r n x i h = go (eqb (f y) n) refl i (λ j. rises_once (suc (f y)) l r.1 n x j h)
    where
      Later : Type 0
      Later = In x l → find (λ x. eqb (f x) n) l ≡ Some x

      off : f y ≡ n → find (λ x. eqb (f x) n) l ≡ None
      off e = none_find (λ x. eqb (f x) n) l (λ z j. ne_eqb (f z) n (λ q. omega (arith, rises_in (suc (f y)) l z r.1 j)))

      go : (b : Bool) → eqb (f y) n ≡ b → In x (y ∷ l) → Later → cond b (Some y) (find (λ x. eqb (f x) n) l) ≡ Some x
      go true e (inl p) ih = ap Some (sym p)
      go true e (inr j) ih = absurd (none_some (sym (off (eqb-true _ _ e)) ∙ ih j))
      go false e (inl p) ih = absurd (false≢true (sym e ∙ ap (λ z. eqb (f z) n) (sym p) ∙ h))
      go false e (inr j) ih = ih j
