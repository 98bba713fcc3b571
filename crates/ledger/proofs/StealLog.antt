-- The steal records by their numbers: which are held, and what a new record and a mark do to each.
use Rattle.std.specs.Prelude.{Option, Some, None}
use Prim.Native.Nat.{ℕ, zero, suc, ◌+◌, ◌-◌, ◌≤◌, ◌<◌}
use native.Mathlib.Omega.{arith}
use native.Mathlib.Nat.{min-eq_left}
use native.Mathlib.Decide.{ℕ_discrete}
use mathlib.Core.Path.{◌≡◌, refl, ap, ◌∙◌}
use mathlib.Core.Logic.{◌⊎◌, inl, inr}
use mathlib.Core.List.{List, [], ◌∷◌, ◌++◌}
use mathlib.Core.Bool.{Bool, true, false, cond}
use lib.Dec.{leb}
use lib.ListN.{length, drop, length-append, length-drop}
use borrow.Author.Tests.{leb-true, leb-false, le-leb, lt-leb}
use Rattle.voice.proofs.Logs.{length_cut}
use Rattle.voice.specs.Steals.{StealLog, pushed, cut_at, marked, found_at}
use Rattle.voice.specs.declared.steals.StealRecord.{StealRecord}
use Rattle.ledger.specs.Claim.{first_held, held_record, cut_found, cut_if_held, Newest}

-- ---- lists of records
found_drop : (n i : ℕ) (l : List StealRecord) → found_at i (drop n l) ≡ found_at (n + i) l
found_drop zero i l = let e : i ≡ zero + i = omega arith in ap (λ k. found_at k l) e
found_drop (suc n) i [] = refl
found_drop (suc n) i (r ∷ l) = let e : suc (n + i) ≡ suc n + i = omega arith in found_drop n i l ∙ ap (λ k. found_at k (r ∷ l)) e

found_left : (i : ℕ) (l m : List StealRecord) → i < length l → found_at i (l ++ m) ≡ found_at i l
found_left i [] m h = absurd (omega arith)
found_left zero (r ∷ l) m h = refl
found_left (suc i) (r ∷ l) m h = found_left i l m (omega arith)

found_last : (l : List StealRecord) (r : StealRecord) → found_at (length l) (l ++ (r ∷ [])) ≡ Some r
found_last [] r = refl
found_last (x ∷ l) r = found_last l r

found_cut : (i : ℕ) (l : List StealRecord) → found_at i (cut_at i l) ≡ cut_found (found_at i l)
found_cut i [] = refl
found_cut zero (r ∷ l) = refl
found_cut (suc i) (r ∷ l) = found_cut i l

found_uncut : (i j : ℕ) (l : List StealRecord) → (i ≡ j → ⊥) → found_at i (cut_at j l) ≡ found_at i l
found_uncut i j [] h = refl
found_uncut zero zero (r ∷ l) h = absurd (h refl)
found_uncut zero (suc j) (r ∷ l) h = refl
found_uncut (suc i) zero (r ∷ l) h = refl
found_uncut (suc i) (suc j) (r ∷ l) h = found_uncut i j l (λ e. h (ap suc e))

-- what is the (k - m)th after the first d, where m is d past f, is the (k - f)th of all
stood : (d f m k : ℕ) → m ≡ f + d → m ≤ k → d + (k - m) ≡ k - f
stood d f m k e h = omega arith

-- ---- one record more
module _ (b : StealLog) (r : StealRecord) (small : b.count < 18446744073709551615) where
  pub count_pushed : (pushed b r).count ≡ b.count + 1
  count_pushed = let h : b.count + 1 ≤ 18446744073709551615 = omega arith in min-eq_left h

  length_pushed : length (pushed b r).newest ≡ (length b.newest + 1) - (length b.newest + 1 - 64)
  length_pushed =
      length-drop (length (b.newest ++ (r ∷ [])) - 64) (b.newest ++ (r ∷ []))
      ∙ ap (λ n. n - (n - 64)) (length-append b.newest (r ∷ []))

  pub newest_pushed : Newest b → Newest (pushed b r)
  newest_pushed (inl w) = inl (rw (length_pushed, w.0), rw count_pushed (let h = w.1 in omega arith))
  newest_pushed (inr w) = go (ℕ_discrete b.count 63)
    where
      go : Dec (b.count ≡ 63) → Newest (pushed b r)
      go (yes e) = inl (rw (length_pushed, w.0, e), rw (count_pushed, e) (omega arith))
      go (no e) = let h = w.1 in inr (rw (length_pushed, w.0, count_pushed) (omega arith), rw count_pushed (omega arith))

  long : length (b.newest ++ (r ∷ [])) ≡ length b.newest + 1
  long = length-append b.newest (r ∷ [])

  -- by the numbers: the records that are held are some of all; one is dropped where there would be 65; the others stand where they stood
  within : Newest b → length b.newest ≤ b.count
  within (inl w) = omega (arith, w.0, w.1)
  within (inr w) = omega (arith, w.0)

  first : Newest b → first_held (pushed b r) ≡ first_held b + (length b.newest + 1 - 64)
  first w = let h = within w in ap (λ n. n - length (pushed b r).newest) count_pushed ∙ ap (λ n. b.count + 1 - n) length_pushed ∙ omega arith

  too_many : Newest b → (k : ℕ) → k < first_held (pushed b r) → k + 64 < (pushed b r).count
  too_many (inl w) k h = rw count_pushed (let e = first (inl w) in let l = w.0 in let m = w.1 in omega arith)
  too_many (inr w) k h = let e = first (inr w) in let l = w.0 in let m = w.1 in absurd (omega arith)

  -- where a record stands among the old ones and the new one
  at : Newest b → (k : ℕ) → first_held (pushed b r) ≤ k → held_record (pushed b r) k ≡ found_at (k - first_held b) (b.newest ++ (r ∷ []))
  at w k le =
      let i = k - first_held (pushed b r) in
      rw (le-leb (first_held (pushed b r)) k le)
      (ap (λ n. found_at i (drop (n - 64) (b.newest ++ (r ∷ [])))) long
      ∙ found_drop (length b.newest + 1 - 64) i (b.newest ++ (r ∷ []))
      ∙ ap (λ z. found_at z (b.newest ++ (r ∷ []))) (stood (length b.newest + 1 - 64) (first_held b) (first_held (pushed b r)) k (first w) le))

  -- a record that was there stays as it was, or is no longer one of the newest 64
  pub held_pushed : Newest b → (k : ℕ) → k < b.count → (held_record (pushed b r) k ≡ held_record b k) ⊎ ((held_record (pushed b r) k ≡ None) × (k + 64 < (pushed b r).count))
  held_pushed w k h = go (leb (first_held (pushed b r)) k) refl
    where
      go : (t : Bool) → leb (first_held (pushed b r)) k ≡ t → (held_record (pushed b r) k ≡ held_record b k) ⊎ ((held_record (pushed b r) k ≡ None) × (k + 64 < (pushed b r).count))
      go true q =
          let le : first_held (pushed b r) ≤ k = leb-true _ _ q in
          let e = first w in
          let l = within w in
          let old : first_held b ≤ k = omega arith in
          let lt : k - first_held b < length b.newest = omega arith in
          inl (at w k le ∙ found_left (k - first_held b) b.newest (r ∷ []) lt ∙ rw (le-leb (first_held b) k old))
      go false q = let lt : k < first_held (pushed b r) = leb-false _ _ q in inr (rw (lt-leb (first_held (pushed b r)) k lt), too_many w k lt)

  -- the new one has the next number
  pub held_new : Newest b → held_record (pushed b r) b.count ≡ Some r
  held_new w =
      let e = first w in
      let l = within w in
      let last : first_held (pushed b r) ≤ b.count = omega arith in
      let i : b.count - first_held b ≡ length b.newest = omega arith in
      at w b.count last ∙ ap (λ z. found_at z (b.newest ++ (r ∷ []))) i ∙ found_last b.newest r

-- ---- a mark
module _ (b : StealLog) (j : ℕ) where
  length_marked : length (marked b j).newest ≡ length b.newest
  length_marked = go (leb (first_held b) j)
    where
      go : (t : Bool) → length (cond t (cut_at (j - first_held b) b.newest) b.newest) ≡ length b.newest
      go true = length_cut (j - first_held b) b.newest
      go false = refl

  first_marked : first_held (marked b j) ≡ first_held b
  first_marked = ap (λ n. b.count - n) length_marked

  pub newest_marked : Newest b → Newest (marked b j)
  newest_marked (inl w) = inl (length_marked ∙ w.0, w.1)
  newest_marked (inr w) = inr (length_marked ∙ w.0, w.1)

  pub held_marked : held_record (marked b j) j ≡ cut_found (held_record b j)
  held_marked = rw first_marked (go (leb (first_held b) j))
    where
      go : (t : Bool) → cond t (found_at (j - first_held b) (cond t (cut_at (j - first_held b) b.newest) b.newest)) None ≡ cut_found (cond t (found_at (j - first_held b) b.newest) None)
      go true = found_cut (j - first_held b) b.newest
      go false = refl

  pub held_unmarked : (k : ℕ) → (k ≡ j → ⊥) → held_record (marked b j) k ≡ held_record b k
  held_unmarked k h = rw first_marked (go (leb (first_held b) k) refl (leb (first_held b) j) refl)
    where
      go : (s : Bool) → leb (first_held b) k ≡ s → (t : Bool) → leb (first_held b) j ≡ t
          → cond s (found_at (k - first_held b) (cond t (cut_at (j - first_held b) b.newest) b.newest)) None ≡ cond s (found_at (k - first_held b) b.newest) None
      go false p t q = refl
      go true p false q = refl
      go true p true q =
          let x : first_held b ≤ k = leb-true _ _ p in
          let y : first_held b ≤ j = leb-true _ _ q in
          found_uncut (k - first_held b) (j - first_held b) b.newest (λ e. h (omega arith))

pub cut_twice : (f : Option StealRecord) → cut_found (cut_found f) ≡ cut_found f
cut_twice None = refl
cut_twice (Some r) = refl

pub cut_cut : (f : Option StealRecord) → cut_if_held (cut_found f) ≡ true
cut_cut None = refl
cut_cut (Some r) = refl
