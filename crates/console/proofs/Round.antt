-- Going round m keyboards: from each to each in fewer than m steps, and how far a search goes.
use Prim.Native.Nat.{ℕ, zero, suc, ◌+◌, ◌-◌, ◌≤◌, ◌<◌}
use native.Mathlib.Omega.{arith}
use native.Mathlib.Nat.{add-zero}
use mathlib.Core.Path.{◌≡◌, refl, sym, ap, ◌∙◌}
use mathlib.Core.Logic.{◌⊎◌, inl, inr}
use mathlib.Core.List.{List, [], ◌∷◌}
use Rattle.std.specs.Prelude.{Option, Some}
use mathlib.Core.Bool.{Bool, true, false, cond}
use lib.Dec.{ltb, leb}
use borrow.Author.Tests.{lt-ltb, le-ltb, ltb-true, leb-true, leb-false}
use Rattle.store.specs.declared.wish.Wish.{Wish}
use Rattle.console.specs.Wishes.{Wishes, keyboards, waiting_at, after, Picked, oldest_or, search}

-- d steps on from p
abbrev pub round : ℕ → ℕ → ℕ → ℕ
round m zero p = p
round m (suc d) p = round m d (after m p)

up : (d m p : ℕ) → p + d < m → round m d p ≡ p + d
up zero m p h = sym (add-zero p)
up (suc d) m p h =
    let i : suc p + d < m = omega arith in
    let one : after m p ≡ suc p = ap (λ b. cond b (suc p) 0) (lt-ltb (suc p) m (omega arith)) in
    ap (round m d) one ∙ up d m (suc p) i ∙ omega arith

pub round_add : (d e m p : ℕ) → round m (d + e) p ≡ round m e (round m d p)
round_add zero e m p = ap (λ z. round m z p) (let z : 0 + e ≡ e = omega arith in z)
round_add (suc d) e m p = ap (λ z. round m z p) (let z : suc d + e ≡ suc (d + e) = omega arith in z) ∙ round_add d e m (after m p)

pub after_below : (m q : ℕ) → 0 < m → after m q < m
after_below m q h = go (ltb (suc q) m) refl
  where
    go : (b : Bool) → ltb (suc q) m ≡ b → cond b (suc q) 0 < m
    go true e = ltb-true _ _ e
    go false e = h

-- from p to q in fewer than m steps
pub record Way (m p q : ℕ) : Type 0 where
  pub steps : ℕ
  pub short : steps < m
  pub leads : round m steps p ≡ q
  pub counts : (p + steps ≡ q) ⊎ (p + steps ≡ q + m)

pub way : (m p q : ℕ) → p < m → q < m → Way m p q
way m p q hp hq = go (leb p q) refl
  where
    go : (b : Bool) → leb p q ≡ b → Way m p q
    go true e =
        let l : p ≤ q = leb-true p q e in
        let z : p + (q - p) ≡ q = omega arith in
        record { steps = q - p; short = omega arith; leads = up (q - p) m p (omega arith) ∙ z; counts = inl z }
    go false e =
        let l : q < p = leb-false p q e in
        let last : after m (m - 1) ≡ 0 = ap (λ b. cond b (suc (m - 1)) 0) (le-ltb (suc (m - 1)) m (omega arith)) in
        let a : round m (m - 1 - p) p ≡ m - 1 = up (m - 1 - p) m p (omega arith) ∙ omega arith in
        let z : 0 + q ≡ q = omega arith in
        record {
          steps = (m - 1 - p) + suc q;
          short = omega arith;
          leads = round_add (m - 1 - p) (suc q) m p ∙ ap (round m (suc q)) a ∙ ap (round m q) last ∙ up q m 0 (omega arith) ∙ z;
          counts = inr (omega (arith, l, hp));
        }

-- a search that would come to a keyboard with a wish after d steps ends within d steps
pub record Found (m : ℕ) (o : Option Picked) (p d : ℕ) : Type 0 where
  pub pick : Picked
  pub is : o ≡ Some pick
  pub steps : ℕ
  pub within : steps ≤ d
  pub leads : round m steps p ≡ pick.keyboard

pub found : (n d : ℕ) (ws : Wishes) (p q : ℕ) → d < n → round (keyboards ws) d p ≡ q → (w : Wish) (l : List Wish) → waiting_at q ws ≡ w ∷ l → Found (keyboards ws) (search n ws p) p d
found zero d ws p q h r w l e = absurd (omega arith)
found (suc n) zero ws p q h r w l e =
    record { pick = record { keyboard = p; wish = w }; is = ap (λ z. oldest_or z p (search n ws (after (keyboards ws) p))) (ap (λ i. waiting_at i ws) r ∙ e); steps = 0; within = omega arith; leads = refl }
found (suc n) (suc d) ws p q h r w l e = go (waiting_at p ws) (found n d ws (after (keyboards ws) p) q (omega arith) r w l e)
  where
    go : (z : List Wish) → Found (keyboards ws) (search n ws (after (keyboards ws) p)) (after (keyboards ws) p) d
        → Found (keyboards ws) (oldest_or z p (search n ws (after (keyboards ws) p))) p (suc d)
    go [] f = record { pick = f.pick; is = f.is; steps = suc f.steps; within = let i = f.within in omega (arith, i); leads = f.leads }
    go (x ∷ z) f = record { pick = record { keyboard = p; wish = x }; is = refl; steps = 0; within = omega arith; leads = refl }
