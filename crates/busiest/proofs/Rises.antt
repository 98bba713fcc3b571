-- Samples that never fall, and how many of them pass a test that begins or ends at one of them.
use Prim.Native.Nat.{ℕ, zero, suc, ◌-◌, ◌≤◌, ◌<◌}
use native.Mathlib.Omega.{arith}
use mathlib.Core.Path.{◌≡◌, refl, sym, ap, ◌∙◌}
use mathlib.Core.Logic.{◌⊎◌, inl, inr, ⊎_elim}
use mathlib.Core.List.{List, [], ◌∷◌, ◌++◌}
use Rattle.std.specs.Prelude.{Some, find, cond}
use mathlib.Core.Bool.{Bool, true, false, false≢true, ◌||◌, or-true}
use lib.Dec.{ltb}
use lib.ListN.{length, take, get_or}
use borrow.Author.Tests.{ltb-true, ltb-false, lt-ltb}
use Rattle.lists.specs.Member.{In}
use Rattle.lists.proofs.Member.{some_inj, at_in}
use Rattle.lists.specs.Count.{count, more}
use Rattle.lists.proofs.Count.{count_length, count_weaker}
use Rattle.busiest.specs.Stretch.{falls_from}

-- ---- two tests on one list

module _ {A : Type 0} (q r : A → Bool) where
  -- what passes the one passes the other, and one passes the other alone
  pub count_lt : (l : List A) → ((x : A) → In x l → q x ≡ true → r x ≡ true) → (a : A) → In a l → q a ≡ false → r a ≡ true → count q l < count r l
  count_lt [] h a i f t = absurd i
  count_lt (x ∷ l) h a (inl p) f t =
      let qx : q x ≡ false = sym (ap q p) ∙ f in
      let rx : r x ≡ true = sym (ap r p) ∙ t in
      let le = count_weaker q r l (λ y i. h y (inr i)) in
      rw (qx, rx) (omega arith)
  count_lt (x ∷ l) h a (inr i) f t = go (q x) refl (r x) refl (count_lt l (λ y j. h y (inr j)) a i f t)
    where
      go : (a : Bool) → q x ≡ a → (b : Bool) → r x ≡ b → count q l < count r l → more a (count q l) < more b (count r l)
      go true e true g ih = omega arith
      go true e false g ih = absurd (false≢true (sym g ∙ h x (inl refl) e))
      go false e true g ih = omega arith
      go false e false g ih = ih

module _ {A : Type 0} (q : A → Bool) where
  pub count_some : (l : List A) (x : A) → In x l → q x ≡ true → 0 < count q l
  count_some l x i t = let h = count_lt (λ z. false) q l (λ z j e. absurd (false≢true e)) x i refl t in omega arith

  count_every : (l : List A) → ((x : A) → In x l → q x ≡ true) → count q l ≡ length l
  count_every [] h = refl
  count_every (x ∷ l) h = rw (h x (inl refl)) (ap suc (count_every l (λ y i. h y (inr i))))

-- ---- samples that never fall

abbrev pub Rises : ℕ → List ℕ → Type 0
Rises a [] = Unit {0}
Rises a (x ∷ l) = (a ≤ x) × Rises x l

pub falls_not : (a : ℕ) (l : List ℕ) → falls_from a l ≡ false → Rises a l
falls_not a [] h = tt
falls_not a (x ∷ l) h = go (ltb x a) refl h (falls_not x l)
  where
    go : (b : Bool) → ltb x a ≡ b → (b || falls_from x l) ≡ false → (falls_from x l ≡ false → Rises x l) → Rises a (x ∷ l)
    go true e h ih = absurd (false≢true (sym h))
    go false e h ih = (ltb-false x a e, ih h)

-- a pair that falls, and that there is one
pub falls_to : (a : ℕ) (l : List ℕ) (i : ℕ) → suc i < length l → get_or l (suc i) 0 < get_or l i 0 → falls_from a l ≡ true
falls_to a [] i h f = absurd (omega arith)
falls_to a (x ∷ []) i h f = absurd (omega arith)
falls_to a (x ∷ y ∷ l) zero h f = rw (lt-ltb y x f) (or-true (ltb x a))
falls_to a (x ∷ y ∷ l) (suc i) h f = let k : suc i < length (y ∷ l) = omega arith in rw (falls_to x (y ∷ l) i k f) (or-true (ltb x a))

pub falls_from_lem : (a : ℕ) (l : List ℕ) → falls_from a l ≡ true → (get_or l 0 0 < a) ⊎ ((i : ℕ) × (suc i < length l) × (get_or l (suc i) 0 < get_or l i 0))
falls_from_lem a [] h = absurd (false≢true h)
falls_from_lem a (x ∷ l) h = go (ltb x a) refl h (falls_from_lem x l)
  where
    below : (l : List ℕ) → falls_from x l ≡ true → 0 < length l
    below [] h = absurd (false≢true h)
    below (y ∷ l) h = omega arith

    go : (b : Bool) → ltb x a ≡ b → (b || falls_from x l) ≡ true → (falls_from x l ≡ true → (get_or l 0 0 < x) ⊎ ((i : ℕ) × (suc i < length l) × (get_or l (suc i) 0 < get_or l i 0)))
        → (x < a) ⊎ ((i : ℕ) × (suc i < suc (length l)) × (get_or (x ∷ l) (suc i) 0 < get_or (x ∷ l) i 0))
    go true e h ih = inl (ltb-true x a e)
    go false e h ih = ⊎_elim (λ f. let k = below l h in inr (0, omega arith, f)) (λ f. let k = f.1 in inr (suc f.0, omega arith, f.2)) (ih h)

pub rises_take : (a k : ℕ) (l : List ℕ) → Rises a l → Rises a (take k l)
rises_take a zero l r = tt
rises_take a (suc k) [] r = tt
rises_take a (suc k) (x ∷ l) r = (r.0, rises_take x k l r.1)

pub rises_least : (a : ℕ) (l : List ℕ) → Rises a l → (x : ℕ) → In x l → a ≤ x
rises_least a [] r x i = absurd i
rises_least a (y ∷ l) r x (inl p) = let h = r.0 in omega arith
rises_least a (y ∷ l) r x (inr i) = let h = r.0 in let k = rises_least y l r.1 x i in omega arith

-- the last is the largest
pub rises_most : (a : ℕ) (l : List ℕ) (y : ℕ) → Rises a (l ++ (y ∷ [])) → (x : ℕ) → In x (l ++ (y ∷ [])) → x ≤ y
rises_most a [] y r x (inl p) = omega arith
rises_most a [] y r x (inr i) = absurd i
rises_most a (z ∷ l) y r x (inl p) = let h = rises_least z (l ++ (y ∷ [])) r.1 y (in_last l y) in omega arith
  where
    in_last : (l : List ℕ) (y : ℕ) → In y (l ++ (y ∷ []))
    in_last [] y = inl refl
    in_last (z ∷ l) y = inr (in_last l y)
rises_most a (z ∷ l) y r x (inr i) = rises_most z l y r.1 x i

-- nothing up to place k passes
pub count_after : (q : ℕ → Bool) (a : ℕ) (l : List ℕ) (k : ℕ) → Rises a l → k < length l → ((z : ℕ) → z ≤ get_or l k 0 → q z ≡ false) → count q l ≤ length l - suc k
count_after q a [] k r h f = absurd (omega arith)
count_after q a (x ∷ l) zero r h f = rw (f x (omega arith)) (let m = count_length q l in omega arith)
count_after q a (x ∷ l) (suc k) r h f =
    let m : k < length l = omega arith in
    let least = rises_least x l r.1 (get_or l k 0) (at_in l k m) in
    let ih = count_after q x l k r.1 m f in
    rw (f x least) (omega arith)

-- all from place k on pass
pub count_from : (q : ℕ → Bool) (a : ℕ) (l : List ℕ) (k : ℕ) → Rises a l → ((z : ℕ) → In z l → get_or l k 0 ≤ z → q z ≡ true) → length l - k ≤ count q l
count_from q a [] k r t = omega arith
count_from q a (x ∷ l) zero r t =
    let every = count_every q (x ∷ l) (λ z i. t z i (rises_least x (x ∷ l) (omega arith, r.1) z i)) in
    omega arith
count_from q a (x ∷ l) (suc k) r t = go (q x) (count_from q x l k r.1 (λ z i. t z (inr i)))
  where
    go : (b : Bool) → length l - k ≤ count q l → suc (length l) - suc k ≤ more b (count q l)
    go true h = omega arith
    go false h = omega arith

-- the first that passes is the least that does
pub find_least : (q : ℕ → Bool) (a : ℕ) (l : List ℕ) → Rises a l → (x : ℕ) → In x l → q x ≡ true → (y : ℕ) → find q l ≡ Some y → y ≤ x
find_least q a [] r x i t y e = absurd i
find_least q a (z ∷ l) r x i t y e = go (q z) refl e (λ j. find_least q z l r.1 x j t y)
  where
    later : q z ≡ false → In x (z ∷ l) → In x l
    later f (inl p) = absurd (false≢true (sym f ∙ ap q (sym p) ∙ t))
    later f (inr j) = j

    go : (b : Bool) → q z ≡ b → cond b (Some z) (find q l) ≡ Some y → (In x l → find q l ≡ Some y → y ≤ x) → y ≤ x
    go true g e ih =
        let p : z ≡ y = some_inj e in
        let h = rises_least z (z ∷ l) (omega arith, r.1) x i in
        omega arith
    go false g e ih = ih (later g i) e
