-- What each call on the ring of steal records makes of the log that the ring stands for.
use Rattle.std.specs.Prelude.{Some, None}
use Prim.Native.Nat.{ℕ, zero, suc, ◌+◌, ◌-◌, ◌%◌, ◌≤◌, ◌<◌, min}
use native.Mathlib.Omega.{arith}
use mathlib.Core.Path.{◌≡◌, refl, sym, ap, ◌∙◌}
use mathlib.Core.List.{List, [], ◌∷◌, ◌++◌}
use mathlib.Core.Bool.{cond}
use lib.ListN.{length, drop, get_or, set}
use borrow.Author.Tests.{le-leb, lt-leb}
use Rattle.voice.specs.declared.steals.StealRecord.{StealRecord}
use Rattle.voice.specs.declared.steals.Steals.{Steals}
use Rattle.voice.specs.Steals.{last_of, turned, log_of, pushed, marked, cut_of, cut_at, found_at, numbered}
use Rattle.voice.proofs.Ring.{turned_long, turned_push, turned_set, turned_get, last_long, last_push, last_set, last_get}

-- ---- a list of records

cut_set : (d : StealRecord) (i : ℕ) (l : List StealRecord) → cut_at i l ≡ set l i (cut_of (get_or l i d))
cut_set d i [] = refl
cut_set d zero (r ∷ l) = refl
cut_set d (suc i) (r ∷ l) = ap (λ z. r ∷ z) (cut_set d i l)

cut_out : (i : ℕ) (l : List StealRecord) → length l ≤ i → cut_at i l ≡ l
cut_out i [] h = refl
cut_out zero (r ∷ l) h = absurd (omega arith)
cut_out (suc i) (r ∷ l) h = let k : length l ≤ i = omega arith in ap (λ z. r ∷ z) (cut_out i l k)

found_in : (d : StealRecord) (i : ℕ) (l : List StealRecord) → i < length l → found_at i l ≡ Some (get_or l i d)
found_in d i [] h = absurd (omega arith)
found_in d zero (r ∷ l) h = refl
found_in d (suc i) (r ∷ l) h = let k : i < length l = omega arith in found_in d i l k

pub found_out : (i : ℕ) (l : List StealRecord) → length l ≤ i → found_at i l ≡ None
found_out i [] h = refl
found_out zero (r ∷ l) h = absurd (omega arith)
found_out (suc i) (r ∷ l) h = let k : length l ≤ i = omega arith in found_out i l k

-- ---- the ring

module _ (s : Steals) (long : length s.rows ≡ 64) where
  below : s.next % 64 < 64
  below = omega arith

  whole : length (turned (s.next % 64) s.rows) ≡ 64
  whole = turned_long s.rows 64 (s.next % 64) long below

  -- as many are held as there were, and at most 64
  pub log_long : length (log_of s).newest ≡ min s.total 64
  log_long = let h : min s.total 64 ≤ 64 = omega arith in last_long (turned (s.next % 64) s.rows) 64 whole (min s.total 64) h

  -- one more: the newest 64 of those that were held and this one
  push_newest : (r : StealRecord) (t q : ℕ) → t ≡ min (s.total + 1) 18446744073709551615 → q ≡ (s.next % 64 + 1) % 64
      → last_of (min t 64) (turned (q % 64) (set s.rows (s.next % 64) r)) ≡ last_of 64 ((log_of s).newest ++ (r ∷ []))
  push_newest r t q e at =
      let up : s.next % 64 + 1 < 64 → q % 64 ≡ s.next % 64 + 1 = (λ h. omega arith) in
      let wrap : s.next % 64 + 1 ≡ 64 → q % 64 ≡ 0 = (λ h. omega arith) in
      let some : 0 < 64 = omega arith in
      let most : min s.total 64 ≤ 64 = omega arith in
      let size : min t 64 ≡ min (min s.total 64 + 1) 64 = omega arith in
      ap (last_of (min t 64)) (turned_push s.rows 64 (s.next % 64) long below r (q % 64) up wrap)
      ∙ ap (λ m. last_of m (drop 1 (turned (s.next % 64) s.rows) ++ (r ∷ []))) size
      ∙ last_push (turned (s.next % 64) s.rows) 64 whole (min s.total 64) r some most

  pub log_push : (r : StealRecord) (t : ℕ) → t ≡ min (s.total + 1) 18446744073709551615
      → log_of (record { rows = set s.rows (s.next % 64) r; total = t; next = (s.next % 64 + 1) % 64 }) ≡ pushed (log_of s) r
  log_push r t e =
      ap (λ l. record { count = t; newest = l }) (push_newest r t ((s.next % 64 + 1) % 64) e refl)
      ∙ ap (λ n. record { count = n; newest = last_of 64 ((log_of s).newest ++ (r ∷ [])) }) e

  -- ---- a mark: of a number that no record has yet, of one that is no longer held, and of one that is

  pub mark_late : (k : ℕ) → s.total ≤ k → log_of s ≡ marked (log_of s) k
  mark_late k h =
      let l = (log_of s).newest in
      let first = s.total - length l in
      let b = log_long in
      let le : first ≤ k = omega arith in
      let over : length l ≤ k - first = omega arith in
      ap (λ n. record { count = s.total; newest = n }) (sym (ap (λ t. cond t (cut_at (k - first) l) l) (le-leb first k le) ∙ cut_out (k - first) l over))

  pub mark_early : (k : ℕ) → 64 < s.total - k → log_of s ≡ marked (log_of s) k
  mark_early k h =
      let l = (log_of s).newest in
      let first = s.total - length l in
      let b = log_long in
      let lt : k < first = omega arith in
      ap (λ n. record { count = s.total; newest = n }) (sym (ap (λ t. cond t (cut_at (k - first) l) l) (lt-leb first k lt)))

  -- the record that is `age` back, of those that are held
  module _ (d : StealRecord) (age q : ℕ) (held : age ≤ min s.total 64) (new : 0 < age) (at : q ≡ (s.next % 64 + (64 - age)) % 64) where
    inside : 64 - age < 64
    inside = omega arith

    up : s.next % 64 + (64 - age) < 64 → q ≡ s.next % 64 + (64 - age)
    up h = omega arith

    wrap : 64 ≤ s.next % 64 + (64 - age) → q ≡ s.next % 64 + (64 - age) - 64
    wrap h = omega arith

    back : 64 - age ≡ 64 - min s.total 64 + (min s.total 64 - age)
    back = omega arith

    pub back_get : get_or (log_of s).newest (min s.total 64 - age) d ≡ get_or s.rows q d
    back_get =
        last_get (turned (s.next % 64) s.rows) 64 whole (min s.total 64) (min s.total 64 - age) (64 - age) back d
        ∙ turned_get s.rows 64 (s.next % 64) long below (64 - age) q inside up wrap d

    pub back_set : (x : StealRecord) → last_of (min s.total 64) (turned (s.next % 64) (set s.rows q x)) ≡ set (log_of s).newest (min s.total 64 - age) x
    back_set x =
        ap (last_of (min s.total 64)) (sym (turned_set s.rows 64 (s.next % 64) long below (64 - age) q inside up wrap x))
        ∙ last_set (turned (s.next % 64) s.rows) 64 whole (min s.total 64) (min s.total 64 - age) (64 - age) back x

  pub mark_held : (d : StealRecord) (k q : ℕ) → k < s.total → s.total - k ≤ 64 → q ≡ (s.next % 64 + (64 - (s.total - k))) % 64
      → log_of (record { rows = set s.rows q (cut_of (get_or s.rows q d)); total = s.total; next = s.next }) ≡ marked (log_of s) k
  mark_held d k q h near at =
      let l = (log_of s).newest in
      let first = s.total - length l in
      let b = log_long in
      let age = s.total - k in
      let held : age ≤ min s.total 64 = omega arith in
      let new : 0 < age = omega arith in
      let le : first ≤ k = omega arith in
      let i : min s.total 64 - age ≡ k - first = omega arith in
      let cut : last_of (min s.total 64) (turned (s.next % 64) (set s.rows q (cut_of (get_or s.rows q d)))) ≡ cut_at (k - first) l =
      back_set d age q held new at (cut_of (get_or s.rows q d))
      ∙ ap (λ x. set l (min s.total 64 - age) (cut_of x)) (sym (back_get d age q held new at))
      ∙ ap (λ j. set l j (cut_of (get_or l j d))) i
      ∙ sym (cut_set d (k - first) l) in
      ap (λ n. record { count = s.total; newest = n }) (cut ∙ sym (ap (λ t. cond t (cut_at (k - first) l) l) (le-leb first k le)))

  -- ---- a reading

  pub read_none : (i : ℕ) → min s.total 64 ≤ i → None ≡ found_at i (log_of s).newest
  read_none i h = let b = log_long in let over : length (log_of s).newest ≤ i = omega arith in sym (found_out i (log_of s).newest over)

  pub read_held : (d : StealRecord) (i q : ℕ) → i < min s.total 64 → q ≡ (s.next % 64 + (64 - (min s.total 64 - i))) % 64
      → Some (get_or s.rows q d) ≡ found_at i (log_of s).newest
  read_held d i q h at =
      let b = log_long in
      let inside : i < length (log_of s).newest = omega arith in
      let held : min s.total 64 - i ≤ min s.total 64 = omega arith in
      let new : 0 < min s.total 64 - i = omega arith in
      let same : min s.total 64 - (min s.total 64 - i) ≡ i = omega arith in
      ap Some (sym (back_get d (min s.total 64 - i) q held new at) ∙ ap (λ j. get_or (log_of s).newest j d) same)
      ∙ sym (found_in d i (log_of s).newest inside)

  -- ---- a reading by number

  pub numbered_late : (k : ℕ) → s.total ≤ k → None ≡ numbered k (log_of s)
  numbered_late k h =
      let l = (log_of s).newest in
      let first = s.total - length l in
      let b = log_long in
      let le : first ≤ k = omega arith in
      let over : length l ≤ k - first = omega arith in
      sym (ap (λ t. cond t (found_at (k - first) l) None) (le-leb first k le) ∙ found_out (k - first) l over)

  pub numbered_early : (k : ℕ) → 64 < s.total - k → None ≡ numbered k (log_of s)
  numbered_early k h =
      let l = (log_of s).newest in
      let first = s.total - length l in
      let b = log_long in
      let lt : k < first = omega arith in
      sym (ap (λ t. cond t (found_at (k - first) l) None) (lt-leb first k lt))

  pub numbered_held : (d : StealRecord) (k q : ℕ) → k < s.total → s.total - k ≤ 64 → q ≡ (s.next % 64 + (64 - (s.total - k))) % 64
      → Some (get_or s.rows q d) ≡ numbered k (log_of s)
  numbered_held d k q h near at =
      let l = (log_of s).newest in
      let first = s.total - length l in
      let b = log_long in
      let le : first ≤ k = omega arith in
      let i : k - first < min s.total 64 = omega arith in
      let same : min s.total 64 - (k - first) ≡ s.total - k = omega arith in
      let place : q ≡ (s.next % 64 + (64 - (min s.total 64 - (k - first)))) % 64 = at ∙ ap (λ n. (s.next % 64 + (64 - n)) % 64) (sym same) in
      read_held d (k - first) q i place ∙ sym (ap (λ t. cond t (found_at (k - first) l) None) (le-leb first k le))
