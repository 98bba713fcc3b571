-- The loop that stores a run of records, each in w words; and what a run of records is that stands in words.
use Prim.Native.Nat.{ℕ, zero, suc, ◌+◌, ◌*◌, ◌≤◌, ◌<◌}
use native.Mathlib.Omega.{arith}
use native.Mathlib.Nat.{zero-add, add-zero, suc-mul, mul-le-mul_right}
use native.Mathlib.Numerals.{add-one}
use mathlib.Core.Path.{◌≡◌, refl, sym, ap, ◌∙◌}
use mathlib.Core.Logic.{◌⊎◌, inl, inr}
use mathlib.Core.List.{List, [], ◌∷◌}
use mathlib.Core.Bool.{Bool, true, false}
use lib.Dec.{eqb}
use lib.ListN.{length, get_or, set, length-set}
use lib.Seq.{ext_get_or, sets, length-sets, get_or-set_same}
use borrow.Author.Tests.{eqb-true, eqb-false}
use Rattle.words.proofs.Rows.{sets_out}
use Rattle.voice_rows.specs.Rows.{each}
use Rattle.voice_rows.specs.Filled.{Filled, Local}

-- ---- each
module _ {A : Type 0} where
  pub each_long : (f : ℕ → A) (k n : ℕ) → length (each f k n) ≡ n
  each_long f k zero = refl
  each_long f k (suc n) = ap suc (each_long f (suc k) n)

  each_from : (f : ℕ → A) (k n i : ℕ) (d : A) → i < n → get_or (each f k n) i d ≡ f (k + i)
  each_from f k zero i d h = absurd (omega arith)
  each_from f k (suc n) zero d h = ap f (sym (add-zero k))
  each_from f k (suc n) (suc i) d h =
      let e : suc k + i ≡ k + suc i = omega arith in
      each_from f (suc k) n i d (omega arith) ∙ ap f e

  pub each_at : (f : ℕ → A) (n i : ℕ) (d : A) → i < n → get_or (each f 0 n) i d ≡ f i
  each_at f n i d h = each_from f 0 n i d h ∙ ap f (zero-add i)

  pub each_is : (f : ℕ → A) (n : ℕ) (d : A) (l : List A) → length l ≡ n → ((i : ℕ) → i < n → f i ≡ get_or l i d) → each f 0 n ≡ l
  each_is f n d l long h =
      ext_get_or d (each f 0 n) l (each_long f 0 n ∙ sym long)
      (λ i b. let below : i < n = omega (arith, each_long f 0 n) in each_at f n i d below ∙ h i below)

  -- what stands in words that did not change is the same
  pub each_same : (f g : ℕ → A) (n : ℕ) → ((i : ℕ) → i < n → f i ≡ g i) → each f 0 n ≡ each g 0 n
  each_same f g n h = each_is f n (f 0) (each g 0 n) (each_long g 0 n) (λ i b. h i b ∙ sym (each_at g n i (f 0) b))

-- ---- words stored from a place on, read there
pub sets_in : (ws c : List ℕ) (at j : ℕ) → at + length ws ≤ length c → j < length ws → get_or (sets c at ws) (at + j) 0 ≡ get_or ws j 0
sets_in [] c at j h b = absurd (omega arith)
sets_in (x ∷ ws) c at zero h b =
    let here : at < length c = omega arith in
    ap (λ k. get_or (sets (set c at x) (suc at) ws) k 0) (add-zero at)
    ∙ sets_out ws (set c at x) (suc at) at (inl (omega arith))
    ∙ get_or-set_same c at x 0 here
sets_in (x ∷ ws) c at (suc j) h b =
    let e : at + suc j ≡ suc at + j = omega arith in
    let long : length (set c at x) ≡ length c = length-set c at x in
    let fit : suc at + length ws ≤ length (set c at x) = omega arith in
    ap (λ k. get_or (sets (set c at x) (suc at) ws) k 0) e ∙ sets_in ws (set c at x) (suc at) j fit (omega arith)

-- ---- the loop: the first k of n records stand in the words from base on, and no other word changed
pub record Filling {A : Type 0} (base w n : ℕ) (at : List ℕ → ℕ → A) (d : A) (old new : List ℕ) (xs : List A) (k : ℕ) : Type 0 where
  pub low : k ≤ n
  pub long : length new ≡ length old
  pub front : (m : ℕ) → m < k → at new (base + m * w) ≡ get_or xs m d
  pub out : (j : ℕ) → (j < base) ⊎ (base + k * w ≤ j) → get_or new j 0 ≡ get_or old j 0

module _ {A : Type 0} (base w n : ℕ) (at : List ℕ → ℕ → A) (d : A) (old : List ℕ) (xs : List A) where
  pub fill_start : Filling base w n at d old old xs 0
  fill_start = record { low = omega arith; long = refl; front = λ m h. absurd (omega arith); out = λ j h. refl }

  module _ (new : List ℕ) (k : ℕ) (less : k < n) (room : base + n * w ≤ length old) (inv : Filling base w n at d old new xs k) where
    fits : base + k * w + w ≤ length new
    fits =
        let up : suc k * w ≤ n * w = mul-le-mul_right w less in
        let e : suc k * w ≡ k * w + w = suc-mul k w in
        omega (arith, inv.long)

    pub fill_more : (ws last : List ℕ) → length ws ≡ w → Local w at → at ws 0 ≡ get_or xs k d → last ≡ sets new (base + k * w) ws → Filling base w n at d old last xs (k + 1)
    fill_more ws last wide same is put =
        record {
          low = omega arith;
          long = ap length put ∙ length-sets new (base + k * w) ws ∙ inv.long;
          front = λ m h. ap (λ l. at l (base + m * w)) put ∙ there m h (eqb m k) refl;
          out = λ j h. ap (λ l. get_or l j 0) put ∙ sets_out ws new (base + k * w) j (away j h) ∙ inv.out j (less_out j h);
        }
      where
        next : (k + 1) * w ≡ k * w + w
        next = ap (λ m. m * w) (add-one k) ∙ suc-mul k w

        away : (j : ℕ) → (j < base) ⊎ (base + (k + 1) * w ≤ j) → (j < base + k * w) ⊎ (base + k * w + length ws ≤ j)
        away j (inl h) = inl (omega arith)
        away j (inr h) = inr (omega (arith, next))

        less_out : (j : ℕ) → (j < base) ⊎ (base + (k + 1) * w ≤ j) → (j < base) ⊎ (base + k * w ≤ j)
        less_out j (inl h) = inl h
        less_out j (inr h) = inr (omega (arith, next))

        there : (m : ℕ) → m < k + 1 → (b : Bool) → eqb m k ≡ b → at (sets new (base + k * w) ws) (base + m * w) ≡ get_or xs m d
        there m h true e =
            let q : m ≡ k = eqb-true m k e in
            let fit : base + k * w + length ws ≤ length new = omega (arith, fits) in
            rw q (same (sets new (base + k * w) ws) ws (base + k * w) 0 (λ j b. sets_in ws new (base + k * w) j fit (omega arith) ∙ ap (λ i. get_or ws i 0) (sym (zero-add j))) ∙ is)
        there m h false e =
            let q : m < k = omega (arith, eqb-false m k e) in
            let up : suc m * w ≤ k * w = mul-le-mul_right w q in
            let f : suc m * w ≡ m * w + w = suc-mul m w in
            same (sets new (base + k * w) ws) new (base + m * w) (base + m * w) (λ j b. sets_out ws new (base + k * w) (base + m * w + j) (inl (omega arith))) ∙ inv.front m q

  pub fill_done : (new : List ℕ) (k : ℕ) → n ≤ k → length xs ≡ n → Filling base w n at d old new xs k → Filled base w n at old new xs
  fill_done new k over long inv =
      let all : k ≡ n = omega (arith, inv.low) in
      record {
        long = inv.long;
        is = each_is (λ m. at new (base + m * w)) n d xs long (λ i h. inv.front i (omega arith));
        out = λ j h. inv.out j (rw all h);
      }
