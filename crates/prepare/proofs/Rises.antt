-- The laws of the live rows.
use Prim.Native.Nat.{ℕ, zero, suc, ◌+◌, ◌≤◌, ◌<◌}
use native.Mathlib.Omega.{arith}
use native.Mathlib.Nat.{not-suc-le-zero}
use native.Mathlib.Numerals.{add-one}
use native.Mathlib.Decide.{dec_lt}
use mathlib.Core.Path.{◌≡◌, refl, sym, ap, ◌∙◌}
use mathlib.Core.List.{List, [], ◌∷◌, ◌++◌, map, append-nil}
use mathlib.Core.Bool.{Bool, true, false, cond}
use lib.Dec.{leb}
use lib.ListN.{length, take, drop, get_or, set, length-map, length-take}
use lib.Seq.{append_snoc}
use borrow.Author.Tests.{le-leb, lt-leb}
use Rattle.std.proofs.lemmas.Bool.{false_from_ne_true}
use Rattle.std.proofs.lemmas.List.{take_more_set}
use Rattle.node.specs.declared.record.Node.{Node}
use Rattle.rank.specs.Order.{among}
use Rattle.rank.specs.Cycle.{Distinct}
use Rattle.rank.proofs.Invariant.{among_in, in_at}
use Rattle.prepare.specs.Live.{rising_from, live_nodes, live_ids, id_of}
use Rattle.prepare.specs.Parts.{Rising}

-- ---- the loop: the ids so far, and the live ones of what is left
abbrev pub Passed : List Node → List ℕ → ℕ → ℕ → Type 0
Passed l ids least i = take i ids ++ map id_of (rising_from least (drop i l)) ≡ live_ids l

pub passed_start : (l : List Node) (ids : List ℕ) → Passed l ids 0 0
unfolding live_ids live_nodes
passed_start l ids = refl

module _ (l : List Node) (ids : List ℕ) (least i : ℕ) (inv : Passed l ids least i) where
  module _ (x : Node) (dr : drop i l ≡ x ∷ drop (i + 1) l) where
    pub passed_more : least ≤ id_of x → i < length ids → Passed l (set ids i (id_of x)) (id_of x + 1) (i + 1)
    unfolding rising_from
    passed_more h k =
        rw (take_more_set ids i (id_of x) k, append_snoc (take i ids) (id_of x) (map id_of (rising_from (id_of x + 1) (drop (i + 1) l))), add-one (id_of x))
        (rw (dr, le-leb _ _ h) at inv)

    pub passed_stop : id_of x < least → take i ids ≡ live_ids l
    unfolding rising_from
    passed_stop h = sym (append-nil (take i ids)) ∙ (rw (dr, lt-leb _ _ h) at inv)

  pub passed_end : drop i l ≡ [] → take i ids ≡ live_ids l
  unfolding rising_from
  passed_end z = sym (append-nil (take i ids)) ∙ (rw z at inv)

-- ---- the live nodes are the first rows
rising_first : (least : ℕ) (l : List Node) → rising_from least l ≡ take (length (rising_from least l)) l
unfolding rising_from
rising_first least [] = refl
rising_first least (x ∷ l) = go (leb least (id_of x)) (rising_first (suc (id_of x)) l)
  where
    go : (b : Bool) → rising_from (suc (id_of x)) l ≡ take (length (rising_from (suc (id_of x)) l)) l
        → cond b (x ∷ rising_from (suc (id_of x)) l) [] ≡ take (length (cond b (x ∷ rising_from (suc (id_of x)) l) [])) (x ∷ l)
    go true h = ap (λ (z : List Node). x ∷ z) h
    go false h = refl

pub live_first : (l : List Node) → live_nodes l ≡ take (length (live_ids l)) l
unfolding live_ids live_nodes
live_first l = rising_first 0 l ∙ ap (λ (k : ℕ). take k l) (sym (length-map (rising_from 0 l) id_of))

rising_few : (least : ℕ) (l : List Node) → length (rising_from least l) ≤ length l
rising_few least l = let e = ap length (rising_first least l) ∙ length-take (length (rising_from least l)) l in omega arith

pub live_few : (l : List Node) → length (live_ids l) ≤ length l
unfolding live_ids live_nodes
live_few l = rw (length-map (rising_from 0 l) id_of) (rising_few 0 l)

-- ---- their ids rise, so that none is there twice
rising_least : (least : ℕ) (l : List Node) (j : ℕ) → j < length (map id_of (rising_from least l)) → least ≤ get_or (map id_of (rising_from least l)) j 0
unfolding rising_from
rising_least least [] j h = absurd (not-suc-le-zero h)
rising_least least (x ∷ l) j h = go (dec_lt (id_of x) least) j h (rising_least (suc (id_of x)) l)
  where
    go : Dec (id_of x < least) → (j : ℕ) → j < length (map id_of (cond (leb least (id_of x)) (x ∷ rising_from (suc (id_of x)) l) []))
        → ((j : ℕ) → j < length (map id_of (rising_from (suc (id_of x)) l)) → suc (id_of x) ≤ get_or (map id_of (rising_from (suc (id_of x)) l)) j 0)
        → least ≤ get_or (map id_of (cond (leb least (id_of x)) (x ∷ rising_from (suc (id_of x)) l) [])) j 0
    go (yes p) j h ih = absurd (not-suc-le-zero (rw (lt-leb _ _ p) at h))
    go (no p) zero h ih = let q : least ≤ id_of x = omega arith in rw (le-leb _ _ q) q
    go (no p) (suc j) h ih =
        let q : least ≤ id_of x = omega arith in
        let k : j < length (map id_of (rising_from (suc (id_of x)) l)) = omega (arith, (rw (le-leb _ _ q) at h)) in
        rw (le-leb _ _ q) (omega (arith, ih j k))

rising_rises : (least : ℕ) (l : List Node) (i j : ℕ) → i < j → j < length (map id_of (rising_from least l)) → get_or (map id_of (rising_from least l)) i 0 < get_or (map id_of (rising_from least l)) j 0
unfolding rising_from
rising_rises least [] i j k h = absurd (not-suc-le-zero h)
rising_rises least (x ∷ l) i zero k h = absurd (not-suc-le-zero k)
rising_rises least (x ∷ l) i (suc j) k h = go (dec_lt (id_of x) least) i k h (rising_rises (suc (id_of x)) l)
  where
    Below : ℕ → Type 0
    Below i = get_or (map id_of (cond (leb least (id_of x)) (x ∷ rising_from (suc (id_of x)) l) [])) i 0 < get_or (map id_of (cond (leb least (id_of x)) (x ∷ rising_from (suc (id_of x)) l) [])) (suc j) 0

    go : Dec (id_of x < least) → (i : ℕ) → i < suc j → suc j < length (map id_of (cond (leb least (id_of x)) (x ∷ rising_from (suc (id_of x)) l) []))
        → ((i j : ℕ) → i < j → j < length (map id_of (rising_from (suc (id_of x)) l)) → get_or (map id_of (rising_from (suc (id_of x)) l)) i 0 < get_or (map id_of (rising_from (suc (id_of x)) l)) j 0)
        → Below i
    go (yes p) i k h ih = absurd (not-suc-le-zero (rw (lt-leb _ _ p) at h))
    go (no p) zero k h ih =
        let q : least ≤ id_of x = omega arith in
        let m : j < length (map id_of (rising_from (suc (id_of x)) l)) = omega (arith, (rw (le-leb _ _ q) at h)) in
        rw (le-leb _ _ q) (rising_least (suc (id_of x)) l j m)
    go (no p) (suc i) k h ih =
        let q : least ≤ id_of x = omega arith in
        let m : j < length (map id_of (rising_from (suc (id_of x)) l)) = omega (arith, (rw (le-leb _ _ q) at h)) in
        rw (le-leb _ _ q) (ih i j (omega arith) m)

pub live_rising : (l : List Node) → Rising (live_ids l)
unfolding live_ids live_nodes
live_rising l = record { rises = rising_rises 0 l }

above_distinct : (l : List ℕ) → ((i j : ℕ) → i < j → j < length l → get_or l i 0 < get_or l j 0) → Distinct l
above_distinct [] h = tt
above_distinct (x ∷ l) h = (
  false_from_ne_true (among x l) (λ t. let r = in_at x l (among_in x l t) in omega (arith, h 0 (suc r.0) (omega arith) (omega (arith, r.1)), r.2)),
  above_distinct l (λ i j k m. h (suc i) (suc j) (omega arith) (omega arith)),
)

pub live_distinct : (l : List Node) → Distinct (live_ids l)
live_distinct l = above_distinct (live_ids l) (live_rising l).rises
