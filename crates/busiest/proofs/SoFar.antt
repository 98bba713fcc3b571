-- What the walk knows of the records passed, and that one record more keeps it.
use Prim.Native.Nat.{ℕ, suc, ◌+◌, ◌-◌, ◌≤◌, ◌<◌}
use native.Mathlib.Omega.{arith}
use mathlib.Core.Path.{◌≡◌, refl, sym, ap, ◌∙◌}
use mathlib.Core.Logic.{◌⊎◌, inl, inr}
use mathlib.Core.List.{List, [], ◌∷◌, ◌++◌}
use mathlib.Core.Bool.{Bool, true, false, ◌&&◌}
use lib.Dec.{leb, ltb}
use lib.ListN.{length, get_or, length-append}
use borrow.Author.Tests.{leb-true, ltb-true, ltb-false, le-leb, lt-ltb, lt-leb}
use Rattle.std.proofs.lemmas.Bool.{and_from}
use Rattle.lists.specs.Member.{In}
use Rattle.lists.proofs.Member.{and_left, and_right, in_snoc, in_left, at_in}
use Rattle.lists.specs.Count.{more}
use Rattle.lists.proofs.Count.{count_length, count_snoc}
use Rattle.busiest.specs.Stretch.{within, inside}
use Rattle.busiest.proofs.Rises.{count_lt, Rises, rises_most, count_after, count_from}

-- ---- a sample and a stretch

module _ (w a x : ℕ) where
  pub within_from : within w a x ≡ true → a ≤ x
  within_from h = leb-true a x (and_left (leb a x) (ltb x (a + w)) h)

  pub within_to : within w a x ≡ true → x < a + w
  within_to h = ltb-true x (a + w) (and_right (leb a x) (ltb x (a + w)) h)

  pub within_on : a ≤ x → x < a + w → within w a x ≡ true
  within_on h k = and_from (leb a x) (ltb x (a + w)) (le-leb a x h) (lt-ltb x (a + w) k)

  pub within_before : x < a → within w a x ≡ false
  within_before h = rw (lt-leb a x h)

  pub within_past : a ≤ x → within w a x ≡ false → a + w ≤ x
  within_past h f = ltb-false x (a + w) (ap (λ b. b && ltb x (a + w)) (sym (le-leb a x h)) ∙ f)

-- No stretch of w samples holds more than n of the records p; the one from x on holds n; none that starts at an earlier record does.
pub record SoFar (w : ℕ) (p : List ℕ) (n x : ℕ) : Type 0 where
  pub no_more : (a : ℕ) → inside w a p ≤ n
  pub as_many : inside w x p ≡ n
  pub earlier : (a : ℕ) → In a p → a < x → inside w a p < n
  pub met : 0 < length p → In x p

pub so_far_none : (w x : ℕ) → SoFar w [] 0 x
so_far_none w x = record { no_more = λ a. omega arith; as_many = refl; earlier = λ a i. absurd i; met = λ h. absurd (omega arith) }

-- one record more, at the sample y
module _ (w n x : ℕ) (p : List ℕ) (y : ℕ) (wide : 0 < w) (rises : Rises 0 (p ++ (y ∷ []))) (so_far : SoFar w p n x) where
  abbrev l : List ℕ
  l = p ++ (y ∷ [])

  -- the sample from which a stretch would have to reach to y to hold one more than n
  abbrev h : ℕ
  h = get_or l (length p - n) 0

  long : length l ≡ length p + 1
  long = simp length-append

  fits : n ≤ length p
  fits = let c = count_length (within w x) p in let e = so_far.as_many in omega arith

  least : h ≤ y
  least = let m : length p - n < length l = omega (arith, long, fits) in rises_most 0 p y rises h (at_in l (length p - n) m)

  one_more : (a : ℕ) (b : Bool) → within w a y ≡ b → inside w a l ≡ more b (inside w a p)
  one_more a b e = count_snoc (within w a) p y ∙ ap (λ t. more t (inside w a p)) e

  -- a stretch that starts earlier and still holds y would hold more
  earlier_on : (n' x' : ℕ) → ((a : ℕ) → inside w a l ≤ n') → inside w x' l ≡ n' → ((a : ℕ) → In a p → a < x' → inside w a p < n') → (a : ℕ) → In a l → a < x' → inside w a l < n'
  earlier_on n' x' no_more as_many before a i less = go (within w a y) refl
    where
      old : In a p ⊎ (a ≡ y) → (within w a y ≡ false) → In a p
      old (inl j) e = j
      old (inr e) f = let past = within_past w a y (omega arith) f in absurd (omega arith)

      go : (b : Bool) → within w a y ≡ b → inside w a l < n'
      go true e =
          let to = within_to w a y e in
          let holds : (z : ℕ) → In z l → within w x' z ≡ true → within w a z ≡ true = (λ z j t.
          let from = within_from w x' z t in
          let up = rises_most 0 p y rises z j in
          within_on w a z (omega arith) (omega arith)) in
          let self : within w a a ≡ true = within_on w a a (omega arith) (omega arith) in
          let over = count_lt (within w x') (within w a) l holds a i (within_before w x' a less) self in
          let most = no_more a in
          absurd (omega arith)
      go false e = let c = before a (old (in_snoc p y a i) e) less in let m = one_more a false e in omega arith

  -- the stretch from h on holds y: one more
  pub so_far_grown : within w h y ≡ true → SoFar w l (n + 1) h
  so_far_grown e = record { no_more = no_more; as_many = as_many; earlier = earlier_on (n + 1) h no_more as_many before; met = λ _. at_in l (length p - n) (omega (arith, long, fits)) }
    where
      no_more : (a : ℕ) → inside w a l ≤ n + 1
      no_more a = go (within w a y) refl
        where
          go : (b : Bool) → within w a y ≡ b → inside w a l ≤ n + 1
          go true f = let m = one_more a true f in let c = so_far.no_more a in omega arith
          go false f = let m = one_more a false f in let c = so_far.no_more a in omega arith

      all : (z : ℕ) → In z l → h ≤ z → within w h z ≡ true
      all z i k = let up = rises_most 0 p y rises z i in let to = within_to w h y e in within_on w h z k (omega arith)

      as_many : inside w h l ≡ n + 1
      as_many = let c = count_from (within w h) 0 l (length p - n) rises all in let m = no_more h in omega (arith, long, fits)

      before : (a : ℕ) → In a p → a < h → inside w a p < n + 1
      before a i less = let c = so_far.no_more a in omega arith

  -- it does not: no stretch that holds y holds more than n
  pub so_far_kept : within w h y ≡ false → SoFar w l n x
  so_far_kept e = record { no_more = no_more; as_many = as_many; earlier = earlier_on n x no_more as_many so_far.earlier; met = λ _. in_left p (y ∷ []) x (so_far.met some) }
    where
      past : h + w ≤ y
      past = within_past w h y least e

      no_more : (a : ℕ) → inside w a l ≤ n
      no_more a = go (within w a y) refl
        where
          go : (b : Bool) → within w a y ≡ b → inside w a l ≤ n
          go true f =
              let to = within_to w a y f in
              let start : h < a = omega (arith, past) in
              let m : length p - n < length l = omega (arith, long, fits) in
              let c = count_after (within w a) 0 l (length p - n) rises m (λ z k. within_before w a z (omega arith)) in
              omega (arith, long, fits)
          go false f = let m = one_more a false f in let c = so_far.no_more a in omega arith

      as_many : inside w x l ≡ n
      as_many = go (within w x y) refl
        where
          go : (b : Bool) → within w x y ≡ b → inside w x l ≡ n
          go true f = let m = one_more x true f in let c = no_more x in let k = so_far.as_many in omega arith
          go false f = one_more x false f ∙ so_far.as_many

      some : 0 < length p
      some = go p refl
        where
          go : (q : List ℕ) → p ≡ q → 0 < length p
          go [] q = let z : h ≡ y = ap (λ r. get_or (r ++ (y ∷ [])) (length r - n) 0) q ∙ none n in absurd (omega (arith, past))
            where
              none : (n : ℕ) → get_or (y ∷ []) (0 - n) 0 ≡ y
              none n = let o : 0 - n ≡ 0 = omega arith in ap (λ k. get_or (y ∷ []) k 0) o
          go (z ∷ q) e = let c : length p ≡ suc (length q) = ap length e in omega arith
