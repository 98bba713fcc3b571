-- Laws of member.
use Prim.Native.Nat.{ℕ, zero, suc, ◌<◌}
use native.Mathlib.Omega.{arith}
use mathlib.Core.Path.{◌≡◌, refl, ap}
use mathlib.Core.Logic.{◌⊎◌, inl, inr, ⊎_elim}
use mathlib.Core.List.{List, [], ◌∷◌, ◌++◌, map}
use Rattle.std.specs.Prelude.{Option, None, Some, Result, Ok, Err}
use mathlib.Core.Bool.{Bool, true, false, not, cond, ◌&&◌, ◌||◌, false≢true}
use lib.ListN.{length, get_or}
use Rattle.lists.specs.Member.{In}

-- `same_Some` and `none-some` of the library say the next two with the values as arguments, and here they are found: each citation would
-- be longer by them.
pub some_inj : {A : Type 0} {x y : A} → Some x ≡ Some y → x ≡ y
some_inj p = cc

pub none_some : {A : Type 0} {x : A} → ◌≡◌ {A = Option A} None (Some x) → ⊥
none_some {A} {x} p = let z : ◌≡◌ {A = ℕ} 0 1 = cc in omega arith

pub ok_err : {A E : Type 0} {x : A} {e : E} → ◌≡◌ {A = Result A E} (Ok x) (Err e) → ⊥
ok_err {A} {E} {x} {e} p = let z : ◌≡◌ {A = ℕ} 0 1 = cc in omega arith

pub cond_same : {A : Type 0} (b : Bool) (x : A) → cond b x x ≡ x
cond_same true x = refl
cond_same false x = refl

pub and_left : (a b : Bool) → (a && b) ≡ true → a ≡ true
and_left true b h = refl
and_left false b h = h

pub and_right : (a b : Bool) → (a && b) ≡ true → b ≡ true
and_right true b h = h
and_right false b h = absurd (false≢true h)

pub neither : (a b : Bool) → (not b && not a) ≡ not (a || b)
neither true true = refl
neither true false = refl
neither false true = refl
neither false false = refl

module _ {A : Type 0} where
  -- one row more
  pub in_snoc : (l : List A) (y x : A) → In x (l ++ (y ∷ [])) → In x l ⊎ (x ≡ y)
  in_snoc [] y x (inl p) = inr p
  in_snoc [] y x (inr a) = absurd a
  in_snoc (z ∷ l) y x (inl p) = inl (inl p)
  in_snoc (z ∷ l) y x (inr a) = ⊎_elim (λ i. inl (inr i)) inr (in_snoc l y x a)

  pub in_left : (l m : List A) (x : A) → In x l → In x (l ++ m)
  in_left [] m x i = absurd i
  in_left (z ∷ l) m x (inl p) = inl p
  in_left (z ∷ l) m x (inr i) = inr (in_left l m x i)

  pub in_right : (l m : List A) (x : A) → In x m → In x (l ++ m)
  in_right [] m x i = i
  in_right (z ∷ l) m x i = inr (in_right l m x i)

  pub in_append : (l m : List A) (x : A) → In x (l ++ m) → In x l ⊎ In x m
  in_append [] m x i = inr i
  in_append (z ∷ l) m x (inl p) = inl (inl p)
  in_append (z ∷ l) m x (inr i) = ⊎_elim (λ j. inl (inr j)) inr (in_append l m x i)

-- what stands at a place of a list of numbers
pub at_in : (l : List ℕ) (k : ℕ) → k < length l → In (get_or l k 0) l
at_in [] k h = absurd (omega arith)
at_in (x ∷ l) zero h = inl refl
at_in (x ∷ l) (suc k) h = let m : k < length l = omega arith in inr (at_in l k m)

pub in_of_map : {A B : Type 0} (f : A → B) (l : List A) (x : A) → In x l → In (f x) (map f l)
in_of_map f [] x i = i
in_of_map f (y ∷ l) x (inl p) = inl (ap f p)
in_of_map f (y ∷ l) x (inr i) = inr (in_of_map f l x i)

pub in_map : {A B : Type 0} (f : A → B) (l : List A) (y : B) → In y (map f l) → (x : A) × In x l × (y ≡ f x)
in_map f [] y i = absurd i
in_map f (x ∷ l) y (inl p) = (x, inl refl, p)
in_map f (x ∷ l) y (inr i) = let r = in_map f l y i in (r.0, inr r.1, r.2)

pub map_swap : {A B : Type 0} (f : A → B) (g : B → B) (h : A → A) → ((x : A) → g (f x) ≡ f (h x)) → (l : List A) → map g (map f l) ≡ map f (map h l)
map_swap f g h e [] = refl
map_swap f g h e (x ∷ l) = rw (e x, map_swap f g h e l)

pub map_same : {A B : Type 0} (f g : A → B) (l : List A) → ((x : A) → In x l → f x ≡ g x) → map f l ≡ map g l
map_same f g [] h = refl
map_same f g (x ∷ l) h = rw (h x (inl refl), map_same f g l (λ y i. h y (inr i)))
