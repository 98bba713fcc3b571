-- The walk ends at what the definition says, and what the definition says is the busiest stretch.
use Prim.Native.Nat.{ℕ, zero, suc, ◌+◌, ◌-◌, ◌<◌}
use native.Mathlib.Omega.{arith}
use mathlib.Core.Path.{◌≡◌, refl, sym, ap, ◌∙◌}
use mathlib.Core.Logic.{◌⊎◌, inl, inr}
use mathlib.Core.List.{List, [], ◌∷◌, ◌++◌}
use Rattle.std.specs.Prelude.{None, Some}
use mathlib.Core.Bool.{Bool, true, false, cond, ◌||◌, or_assoc, or-false}
use lib.Dec.{eqb, ltb}
use lib.ListN.{length, take, drop, get_or}
use lib.Seq.{take_all, get_or-take, length-take-le, drop-length}
use borrow.Author.Tests.{eqb-false, ne_eqb}
use Rattle.std.proofs.lemmas.List.{drop_more, take_more}
use Rattle.busiest.specs.declared.stretch.Scan.{Scan}
use Rattle.busiest.specs.Stretch.{within, falls_from, falls, largest, first_of, Answer, refused, gives, busiest, BusiestStretch}
use Rattle.busiest.specs.Scan.{begun, grown, moved, advanced, scan_from, scanned, concluded}
use Rattle.busiest.proofs.Rises.{Rises, falls_not, falls_to, falls_from_lem, rises_take}
use Rattle.busiest.proofs.SoFar.{SoFar, so_far_none, so_far_grown, so_far_kept}
use Rattle.busiest.proofs.Theorem.{some_inside, so_far_stretch, so_far_largest, so_far_first}

-- ---- one record more

pub advanced_width : (s : Scan) (x y : ℕ) → (advanced s x y).width ≡ s.width
advanced_width s x y = go (within s.width x y)
  where
    go : (b : Bool) → (cond b (grown s x y) (moved s y)).width ≡ s.width
    go true = refl
    go false = refl

advanced_last : (s : Scan) (x y : ℕ) → (advanced s x y).last ≡ y
advanced_last s x y = go (within s.width x y)
  where
    go : (b : Bool) → (cond b (grown s x y) (moved s y)).last ≡ y
    go true = refl
    go false = refl

advanced_falls : (s : Scan) (x y : ℕ) → (advanced s x y).falls ≡ (s.falls || ltb y s.last)
advanced_falls s x y = go (within s.width x y)
  where
    go : (b : Bool) → (cond b (grown s x y) (moved s y)).falls ≡ (s.falls || ltb y s.last)
    go true = refl
    go false = refl

-- the record at `head` stands as many places before the next as the largest number
pub advanced_place : (s : Scan) (x y : ℕ) → (advanced s x y).head + (advanced s x y).most ≡ s.head + s.most + 1
advanced_place s x y = go (within s.width x y)
  where
    go : (b : Bool) → (cond b (grown s x y) (moved s y)).head + (cond b (grown s x y) (moved s y)).most ≡ s.head + s.most + 1
    go true = omega arith
    go false = omega arith

-- ---- all records

module _ (xs : List ℕ) where
  scan_width : (k i : ℕ) (s : Scan) → (scan_from k xs i s).width ≡ s.width
  scan_width zero i s = refl
  scan_width (suc k) i s = scan_width k (i + 1) (advanced s (get_or xs s.head 0) (get_or xs i 0)) ∙ advanced_width s (get_or xs s.head 0) (get_or xs i 0)

  scan_falls : (k i : ℕ) (s : Scan) → i + k ≡ length xs → (scan_from k xs i s).falls ≡ (s.falls || falls_from s.last (drop i xs))
  scan_falls zero i s e =
      let over : i ≡ length xs = omega arith in
      sym (ap (λ l. s.falls || falls_from s.last l) (ap (λ j. drop j xs) over ∙ drop-length xs) ∙ or-false s.falls)
  scan_falls (suc k) i s e =
      let y = get_or xs i 0 in
      let t = advanced s (get_or xs s.head 0) y in
      let less : i < length xs = omega arith in
      let on : i + 1 + k ≡ length xs = omega arith in
      scan_falls k (i + 1) t on
      ∙ ap (λ a. t.falls || falls_from a (drop (i + 1) xs)) (advanced_last s (get_or xs s.head 0) y)
      ∙ ap (λ b. b || falls_from y (drop (i + 1) xs)) (advanced_falls s (get_or xs s.head 0) y)
      ∙ or_assoc s.falls (ltb y s.last) (falls_from y (drop (i + 1) xs))
      ∙ ap (λ l. s.falls || falls_from s.last l) (sym (drop_more xs i 0 less))

  module _ (w : ℕ) (wide : 0 < w) (rises : Rises 0 xs) where
    -- what is known of the first i records, and where `head` stands
    abbrev Known : ℕ → Scan → Type 0
    Known i s = (s.width ≡ w) × (s.head + s.most ≡ i) × SoFar w (take i xs) s.most s.first

    known_next : (i : ℕ) (s : Scan) → i < length xs → Known i s → Known (i + 1) (advanced s (get_or xs s.head 0) (get_or xs i 0))
    known_next i s less known =
        (advanced_width s x y ∙ known.0, advanced_place s x y ∙ ap (λ m. m + 1) known.1, go (within s.width x y) refl)
      where
        x : ℕ
        x = get_or xs s.head 0

        y : ℕ
        y = get_or xs i 0

        p : List ℕ
        p = take i xs

        long : length p ≡ i
        long = length-take-le i xs (omega arith)

        row : take (i + 1) xs ≡ p ++ (y ∷ [])
        row = take_more xs i 0 less

        up : Rises 0 (p ++ (y ∷ []))
        up = rw row at (rises_take 0 (i + 1) xs rises)

        head : get_or (p ++ (y ∷ [])) (length p - s.most) 0 ≡ x
        head =
            let e = known.1 in
            let at : length p - s.most ≡ s.head = omega (arith, long) in
            let below : s.head < i + 1 = omega arith in
            ap (λ k. get_or (p ++ (y ∷ [])) k 0) at ∙ ap (λ l. get_or l s.head 0) (sym row) ∙ get_or-take (i + 1) xs s.head 0 below

        test : (b : Bool) → within s.width x y ≡ b → within w (get_or (p ++ (y ∷ [])) (length p - s.most) 0) y ≡ b
        test b e = ap (λ a. within w a y) head ∙ ap (λ v. within v x y) (sym known.0) ∙ e

        go : (b : Bool) → within s.width x y ≡ b → SoFar w (take (i + 1) xs) (cond b (grown s x y) (moved s y)).most (cond b (grown s x y) (moved s y)).first
        go true e =
            let g = so_far_grown w s.most s.first p y wide up known.2 (test true e) in
            rw row (rw head at g)
        go false e = rw row (so_far_kept w s.most s.first p y wide up known.2 (test false e))

    known_all : (k i : ℕ) (s : Scan) → i + k ≡ length xs → Known i s → Known (length xs) (scan_from k xs i s)
    known_all zero i s e known = let over : i ≡ length xs = omega arith in rw over at known
    known_all (suc k) i s e known =
        let less : i < length xs = omega arith in
        let on : i + 1 + k ≡ length xs = omega arith in
        known_all k (i + 1) (advanced s (get_or xs s.head 0) (get_or xs i 0)) on (known_next i s less known)

    pub so_far_all : SoFar w xs (scanned w xs).most (scanned w xs).first
    so_far_all =
        let z = scanned w xs in
        let all : Known (length xs) z = known_all (length xs) 0 (begun w) (omega arith) (refl, refl, so_far_none w 0) in
        let whole : take (length xs) xs ≡ xs = take_all (length xs) xs (omega arith) in
        rw whole at all.2

pub scanned_width : (w : ℕ) (xs : List ℕ) → (scanned w xs).width ≡ w
scanned_width w xs = scan_width xs (length xs) 0 (begun w)

pub scanned_falls : (w : ℕ) (xs : List ℕ) → (scanned w xs).falls ≡ falls xs
scanned_falls w xs = scan_falls xs (length xs) 0 (begun w) (omega arith)

-- ---- the theorem

-- "22 W is 0", whatever the run is
pub no_width : (xs : List ℕ) → busiest 0 xs ≡ refused 22
no_width xs = refl

-- "samples fall somewhere in the run": some sample is below the one before it
pub falls_there : (xs : List ℕ) (i : ℕ) → suc i < length xs → get_or xs (suc i) 0 < get_or xs i 0 → falls xs ≡ true
falls_there xs i h f = falls_to 0 xs i h f

pub falls_where : (xs : List ℕ) → falls xs ≡ true → (i : ℕ) × (suc i < length xs) × (get_or xs (suc i) 0 < get_or xs i 0)
falls_where xs h = go (falls_from_lem 0 xs h)
  where
    go : (get_or xs 0 0 < 0) ⊎ ((i : ℕ) × (suc i < length xs) × (get_or xs (suc i) 0 < get_or xs i 0)) → (i : ℕ) × (suc i < length xs) × (get_or xs (suc i) 0 < get_or xs i 0)
    go (inl below) = absurd (omega arith)
    go (inr fall) = fall

-- "23 samples fall somewhere in the run, checked after 22"
pub samples_fall : (w : ℕ) (xs : List ℕ) → 0 < w → falls xs ≡ true → busiest w xs ≡ refused 23
samples_fall w xs wide f = let e : eqb w 0 ≡ false = ne_eqb w 0 (λ z. omega arith) in rw (e, f)

-- "An empty run gives 0 and no sample."
pub empty_run : (w : ℕ) → 0 < w → busiest w [] ≡ gives 0 None
empty_run w wide = let e : eqb w 0 ≡ false = ne_eqb w 0 (λ z. omega arith) in rw e

-- any other run gives the busiest stretch
pub found : (w : ℕ) (xs : List ℕ) → 0 < w → falls xs ≡ false → 0 < length xs → (n : ℕ) × (x : ℕ) × (busiest w xs ≡ gives n (Some x)) × BusiestStretch w xs n x
found w xs wide f records =
    let rises = falls_not 0 xs f in
    let so_far = so_far_all xs w wide rises in
    let n = (scanned w xs).most in
    let x = (scanned w xs).first in
    let e : eqb w 0 ≡ false = ne_eqb w 0 (λ z. omega arith) in
    let gave : busiest w xs ≡ gives (largest w xs xs) (first_of w xs) = rw (e, f) in
    let which : gives (largest w xs xs) (first_of w xs) ≡ gives n (Some x) =
    ap (λ m. gives m (first_of w xs)) (so_far_largest w xs n x wide rises records so_far) ∙ ap (gives n) (so_far_first w xs n x wide rises records so_far) in
    (n, x, gave ∙ which, so_far_stretch w xs n x wide rises records so_far)

-- ---- the walk's answer is the definition's

pub concluded_busiest : (w : ℕ) (xs : List ℕ) → concluded (scanned w xs) ≡ busiest w xs
concluded_busiest w xs =
    ap (λ v. cond (eqb v 0) (refused 22) (cond z.falls (refused 23) rest)) (scanned_width w xs)
    ∙ ap (λ b. cond (eqb w 0) (refused 22) (cond b (refused 23) rest)) (scanned_falls w xs)
    ∙ go (eqb w 0) refl (falls xs) refl
  where
    z : Scan
    z = scanned w xs

    rest : Answer
    rest = cond (eqb z.most 0) (gives 0 None) (gives z.most (Some z.first))

    last : 0 < w → falls xs ≡ false → (l : List ℕ) → xs ≡ l → rest ≡ gives (largest w xs xs) (first_of w xs)
    last wide f [] e = let n : z.most ≡ 0 = ap (λ l. (scanned w l).most) e in rw n (ap (λ l. gives (largest w l l) (first_of w l)) (sym e))
    last wide f (x ∷ l) e =
        let records : 0 < length xs = (let c : length xs ≡ suc (length l) = ap length e in omega arith) in
        let rises = falls_not 0 xs f in
        let so_far = so_far_all xs w wide rises in
        let positive = some_inside w xs z.most z.first wide rises records so_far in
        let off : eqb z.most 0 ≡ false = ne_eqb z.most 0 (λ q. omega arith) in
        ap (λ b. cond b (gives 0 None) (gives z.most (Some z.first))) off
        ∙ sym (ap (λ m. gives m (first_of w xs)) (so_far_largest w xs z.most z.first wide rises records so_far) ∙ ap (gives z.most) (so_far_first w xs z.most z.first wide rises records so_far))

    go : (a : Bool) → eqb w 0 ≡ a → (b : Bool) → falls xs ≡ b → cond a (refused 22) (cond b (refused 23) rest) ≡ cond a (refused 22) (cond b (refused 23) (gives (largest w xs xs) (first_of w xs)))
    go true e b f = refl
    go false e true f = refl
    go false e false f = let ne = eqb-false w 0 e in last (omega (arith, ne)) f xs refl
