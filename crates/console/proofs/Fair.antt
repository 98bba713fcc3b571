-- "With m keyboards, a wish with k before it on its own keyboard is served within (k + 1) × m turns, whatever the others send."
use Prim.Native.Nat.{ℕ, zero, suc, ◌+◌, ◌-◌, ◌*◌, ◌≤◌, ◌<◌}
use native.Mathlib.Omega.{arith}
use native.Mathlib.Nat.{suc-mul, eq-or-lt_of_le}
use mathlib.Core.Path.{◌≡◌, refl, sym, ap, ◌∙◌, subst}
use mathlib.Core.Logic.{⊎_elim}
use mathlib.Core.List.{List, [], ◌∷◌, ◌++◌}
use Rattle.std.specs.Prelude.{Option, None, Some, slice_get}
use mathlib.Core.Bool.{Bool, true, false, cond}
use lib.Dec.{eqb}
use lib.ListN.{length, length-append, length-set, length-replicate}
use borrow.Author.Tests.{eqb-true, eqb-false}
use Rattle.std.proofs.lemmas.Option.{slice_get_within}
use Rattle.store.specs.declared.wish.Wish.{Wish}
use Rattle.console.specs.declared.refusal.KeyboardRefusal.{KeyboardRefusal}
use Rattle.console.specs.Wishes.{Wishes, keyboards, waiting_at, wish_refusal, after, Picked, picked, rest, taken_from, new_wishes}
use Rattle.console.specs.Console.{ConsoleCall, on, wish, turn, added_unless, taken_by, wishes_after, wishes_run, served_by, served_of, accepted_of, turns}
use Rattle.console.proofs.Put.{waits_in}
use Rattle.console.proofs.Fifo.{in_order, picked_in, added_at, taken_at}
use Rattle.console.proofs.Round.{round, round_add, after_below, way, found}

-- what every list of calls keeps: the keyboards, and that the next one is one of them
pub record WishInvariant (m : ℕ) (ws : Wishes) : Type 0 where
  pub many : keyboards ws ≡ m
  pub next : ws.next < m

taken_invariant : (m : ℕ) (ws : Wishes) → WishInvariant m ws → (q : ℕ) → WishInvariant m (taken_from q ws)
taken_invariant m ws g q =
    record {
      many = length-set ws.waits q (rest (waiting_at q ws)) ∙ g.many;
      next = subst (λ n. after n q < m) (sym g.many) (after_below m q (let i = g.next in omega (arith, i)));
    }

pub step_invariant : (x : ConsoleCall) (m : ℕ) (ws : Wishes) → WishInvariant m ws → WishInvariant m (wishes_after x ws)
step_invariant (on c) m ws g = g
step_invariant (wish q w) m ws g = go (wish_refusal ws q)
  where
    go : (o : Option KeyboardRefusal) → WishInvariant m (added_unless o q w ws)
    go None = record { many = length-set ws.waits q (waiting_at q ws ++ (w ∷ [])) ∙ g.many; next = g.next }
    go (Some d) = g
step_invariant turn m ws g = go (picked ws)
  where
    go : (o : Option Picked) → WishInvariant m (taken_by o ws)
    go None = g
    go (Some p) = taken_invariant m ws g p.keyboard

pub run_invariant : (xs : List ConsoleCall) (m : ℕ) (ws : Wishes) → WishInvariant m ws → WishInvariant m (wishes_run xs ws)
run_invariant [] m ws g = g
run_invariant (x ∷ xs) m ws g = run_invariant xs m (wishes_after x ws) (step_invariant x m ws g)

pub new_invariant : (m : ℕ) → 0 < m → WishInvariant m (new_wishes m)
new_invariant m h = record { many = length-replicate m []; next = h }

-- a wish that is accepted takes nobody's place
longer : (p : ℕ) (w : Wish) (ws : Wishes) (q k : ℕ) (o : Option KeyboardRefusal) → wish_refusal ws p ≡ o → k < length (waiting_at q ws) → k < length (waiting_at q (added_unless o p w ws))
longer p w ws q k (Some d) f h = h
longer p w ws q k None f h = subst (λ l. k < length l) (sym (added_at p w ws q f)) (go (eqb q p) refl)
  where
    go : (b : Bool) → eqb q p ≡ b → k < length (cond b (waiting_at p ws ++ (w ∷ [])) (waiting_at q ws))
    go false e = h
    go true e =
        let i : k < length (waiting_at p ws) = subst (λ r. k < length (waiting_at r ws)) (eqb-true q p e) h in
        rw (length-append (waiting_at p ws) (w ∷ [])) (omega (arith, i))

same_next : (p : ℕ) (w : Wish) (ws : Wishes) (o : Option KeyboardRefusal) → (added_unless o p w ws).next ≡ ws.next
same_next p w ws None = refl
same_next p w ws (Some d) = refl

first : (l : List Wish) (k : ℕ) → k < length l → (w : Wish) × (r : List Wish) × (l ≡ w ∷ r)
first [] k h = absurd (omega arith)
first (w ∷ r) k h = (w, r, refl)

one_less : (l : List Wish) (k : ℕ) → suc k < length l → k < length (rest l)
one_less [] k h = omega arith
one_less (w ∷ l) k h = omega arith

-- k before it, and d steps from the next keyboard to its own: fewer than k × m + d + 1 turns do not go by without it
counted : (xs : List ConsoleCall) (m : ℕ) (ws : Wishes) → WishInvariant m ws → (q : ℕ) → q < m → (k : ℕ) → k < length (waiting_at q ws)
    → (d : ℕ) → d < m → round m d ws.next ≡ q → k * m + d < turns xs → k < length (served_of q xs ws)
counted [] m ws g q hq k h d hd r t = absurd (omega arith)
counted (on c ∷ xs) m ws g q hq k h d hd r t = counted xs m ws g q hq k h d hd r t
counted (wish p w ∷ xs) m ws g q hq k h d hd r t =
    counted xs m (wishes_after (wish p w) ws) (step_invariant (wish p w) m ws g) q hq k (longer p w ws q k (wish_refusal ws p) refl h) d hd (ap (round m d) (same_next p w ws (wish_refusal ws p)) ∙ r) t
counted (turn ∷ xs) m ws g q hq k h d hd r t =
    let c = first (waiting_at q ws) k h in
    let f = found (keyboards ws) d ws ws.next q (subst (λ n. d < n) (sym g.many) hd) (ap (λ n. round n d ws.next) g.many ∙ r) c.0 c.1 c.2 in
    subst (λ o. k < length (served_by q o ++ served_of q xs (taken_by o ws))) (sym f.is)
    (go f.pick (picked_in ws f.pick f.is) f.steps f.within (ap (λ n. round n f.steps ws.next) (sym g.many) ∙ f.leads) (eqb q f.pick.keyboard) refl
    (counted xs m (taken_from f.pick.keyboard ws) (taken_invariant m ws g f.pick.keyboard) q hq))
  where
    Next : Wishes → ℕ → Type 0
    Next us j = j < length (waiting_at q us) → (e : ℕ) → e < m → round m e us.next ≡ q → j * m + e < turns xs → j < length (served_of q xs us)

    -- its own keyboard is served: one less before it, and at most a whole round to go
    mine : (p : Picked) → p.keyboard < keyboards ws → eqb q p.keyboard ≡ true → ((j : ℕ) → Next (taken_from p.keyboard ws) j)
        → (j : ℕ) → j < length (waiting_at q ws) → j * m + d < suc (turns xs) → j < suc (length (served_of q xs (taken_from p.keyboard ws)))
    mine p b e ih zero i t = omega arith
    mine p b e ih (suc j) i t =
        let z : q ≡ p.keyboard = eqb-true q p.keyboard e in
        let v = way m (after m q) q (after_below m q (omega (arith, hq))) hq in
        let l : j < length (cond (eqb q p.keyboard) (rest (waiting_at p.keyboard ws)) (waiting_at q ws)) =
        subst (λ b. j < length (cond b (rest (waiting_at p.keyboard ws)) (waiting_at q ws))) (sym e) (subst (λ n. j < length (rest (waiting_at n ws))) z (one_less (waiting_at q ws) j i)) in
        let w : round m v.steps (after (keyboards ws) p.keyboard) ≡ q =
        ap (λ n. round m v.steps (after n p.keyboard)) g.many ∙ ap (λ n. round m v.steps (after m n)) (sym z) ∙ v.leads in
        let x = v.short in
        let y = suc-mul j m in
        let u : j < length (served_of q xs (taken_from p.keyboard ws)) =
        ih j (subst (λ l. j < length l) (sym (taken_at p.keyboard ws q b)) l) v.steps v.short w (omega (arith, x, y, t)) in
        omega (arith, u)

    -- another is: its own is nearer
    other : (p : Picked) → p.keyboard < keyboards ws → (s : ℕ) → s ≤ d → round m s ws.next ≡ p.keyboard → eqb q p.keyboard ≡ false → ((j : ℕ) → Next (taken_from p.keyboard ws) j)
        → s < d → k < length (served_of q xs (taken_from p.keyboard ws))
    other p b s i a e ih n =
        let z : s + suc (d - suc s) ≡ d = omega arith in
        let w : round m (d - suc s) (after (keyboards ws) p.keyboard) ≡ q =
        ap (λ n. round m (d - suc s) (after n p.keyboard)) g.many ∙ ap (λ n. round m (d - suc s) (after m n)) (sym a)
        ∙ sym (round_add s (suc (d - suc s)) m ws.next) ∙ ap (λ n. round m n ws.next) z ∙ r in
        ih k (subst (λ l. k < length l) (sym (taken_at p.keyboard ws q b)) (subst (λ b. k < length (cond b (rest (waiting_at p.keyboard ws)) (waiting_at q ws))) (sym e) h)) (d - suc s) (omega arith) w (omega arith)

    go : (p : Picked) → p.keyboard < keyboards ws → (s : ℕ) → s ≤ d → round m s ws.next ≡ p.keyboard → (b : Bool) → eqb q p.keyboard ≡ b
        → ((j : ℕ) → Next (taken_from p.keyboard ws) j)
        → k < length (cond b (p.wish ∷ []) [] ++ served_of q xs (taken_from p.keyboard ws))
    go p c s i a true e ih = mine p c e ih k h t
    go p c s i a false e ih =
        ⊎_elim (λ (x : s ≡ d). absurd (eqb-false q p.keyboard e (sym r ∙ ap (λ n. round m n ws.next) (sym x) ∙ a))) (other p c s i a e ih) (eq-or-lt_of_le i)

-- ---- the wish itself: first in, first out
place_left : (l s : List Wish) (k : ℕ) → k < length l → slice_get (l ++ s) k ≡ slice_get l k
place_left [] s k h = absurd (omega arith)
place_left (x ∷ l) s zero h = refl
place_left (x ∷ l) s (suc k) h = place_left l s k (omega arith)

-- A wish w of keyboard q with k before it is the (k + 1)th that the list serves of that keyboard, if the list has (k + 1) × m turns.
pub within : (xs : List ConsoleCall) (m : ℕ) (ws : Wishes) → WishInvariant m ws → (q k : ℕ) (w : Wish) → slice_get (waiting_at q ws) k ≡ Some w
    → (k + 1) * m ≤ turns xs → slice_get (served_of q xs ws) k ≡ Some w
within xs m ws g q k w e t =
    let i = slice_get_within (waiting_at q ws) k w e in
    let c = first (waiting_at q ws) k i in
    let hq : q < m = subst (λ n. q < n) g.many (waits_in ws.waits q c.0 c.1 c.2) in
    let v = way m ws.next q g.next hq in
    let x = v.short in
    let y = suc-mul k m in
    let a : k + 1 ≡ suc k = omega arith in
    let u : suc k * m ≤ turns xs = subst (λ n. n * m ≤ turns xs) a t in
    let s = counted xs m ws g q hq k i v.steps v.short v.leads (omega (arith, x, y, u)) in
    sym (place_left (served_of q xs ws) (waiting_at q (wishes_run xs ws)) k s) ∙ ap (λ l. slice_get l k) (in_order xs ws q) ∙ place_left (waiting_at q ws) (accepted_of q xs ws) k i ∙ e
