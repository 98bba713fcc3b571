-- First in, first out, and nothing lost or doubled: what was served of keyboard q, followed by what waits, is what waited, followed
-- by what was accepted. And at most 16 wait at a keyboard.
use Prim.Native.Nat.{ℕ, zero, suc, ◌≤◌, ◌<◌}
use native.Mathlib.Omega.{arith}
use mathlib.Core.Path.{◌≡◌, refl, sym, ap, ◌∙◌, subst}
use mathlib.Core.List.{List, [], ◌∷◌, ◌++◌, append-nil, append_assoc}
use Rattle.std.specs.Prelude.{Option, None, Some}
use mathlib.Core.Bool.{Bool, true, false, cond}
use lib.Dec.{eqb, leb}
use lib.ListN.{length, length-append, get_or, replicate}
use borrow.Author.Tests.{eqb-true, leb-false}
use Rattle.lists.proofs.Member.{some_inj, none_some}
use Rattle.store.specs.declared.wish.Wish.{Wish}
use Rattle.console.specs.declared.refusal.KeyboardRefusal.{KeyboardRefusal}
use Rattle.console.specs.declared.refusal.KeyboardRefusal.TheVariants.{OutOfRange, Full}
use Rattle.console.specs.Wishes.{Wishes, keyboards, waiting_at, wish_refusal, added, after, Picked, oldest_or, search, picked, rest, taken_from, new_wishes}
use Rattle.console.specs.Console.{ConsoleCall, on, wish, turn, added_unless, taken_by, wishes_after, wishes_run, served_by, served_in, accepted_unless, accepted_in, served_of, accepted_of}
use Rattle.console.proofs.Put.{put_at, waits_in}

-- an accepted wish is of one of the keyboards, which has room
pub in_range : (ws : Wishes) (q : ℕ) → wish_refusal ws q ≡ None → q < keyboards ws
in_range ws q e = go (leb (keyboards ws) q) refl e
  where
    go : (a : Bool) → leb (keyboards ws) q ≡ a → cond a (Some OutOfRange) (cond (leb 16 (length (waiting_at q ws))) (Some Full) None) ≡ None → q < keyboards ws
    go true f e = absurd (none_some (sym e))
    go false f e = leb-false _ _ f

not_full : (ws : Wishes) (q : ℕ) → wish_refusal ws q ≡ None → length (waiting_at q ws) < 16
not_full ws q e = go (leb (keyboards ws) q) (leb 16 (length (waiting_at q ws))) refl e
  where
    go : (a b : Bool) → leb 16 (length (waiting_at q ws)) ≡ b → cond a (Some OutOfRange) (cond b (Some Full) None) ≡ None → length (waiting_at q ws) < 16
    go true b f e = absurd (none_some (sym e))
    go false true f e = absurd (none_some (sym e))
    go false false f e = leb-false _ _ f

-- a picked wish is its keyboard's oldest
pub search_oldest : (n : ℕ) (ws : Wishes) (q : ℕ) (p : Picked) → search n ws q ≡ Some p → waiting_at p.keyboard ws ≡ p.wish ∷ rest (waiting_at p.keyboard ws)
search_oldest zero ws q p e = absurd (none_some e)
search_oldest (suc n) ws q p e = go (waiting_at q ws) refl e (search_oldest n ws (after (keyboards ws) q) p)
  where
    go : (l : List Wish) → waiting_at q ws ≡ l → oldest_or l q (search n ws (after (keyboards ws) q)) ≡ Some p
        → (search n ws (after (keyboards ws) q) ≡ Some p → waiting_at p.keyboard ws ≡ p.wish ∷ rest (waiting_at p.keyboard ws))
        → waiting_at p.keyboard ws ≡ p.wish ∷ rest (waiting_at p.keyboard ws)
    go [] f e ih = ih e
    go (w ∷ l) f e ih =
        let z : ◌≡◌ {A = Picked} (record { keyboard = q; wish = w }) p = some_inj e in
        subst (λ (p : Picked). waiting_at p.keyboard ws ≡ p.wish ∷ rest (waiting_at p.keyboard ws)) z (rw f)

pub picked_in : (ws : Wishes) (p : Picked) → picked ws ≡ Some p → p.keyboard < keyboards ws
picked_in ws p e = waits_in ws.waits p.keyboard p.wish _ (search_oldest (keyboards ws) ws ws.next p e)

-- what waits at keyboard q after a wish, and after a turn
pub added_at : (p : ℕ) (w : Wish) (ws : Wishes) (q : ℕ) → wish_refusal ws p ≡ None → waiting_at q (added p w ws) ≡ cond (eqb q p) (waiting_at p ws ++ (w ∷ [])) (waiting_at q ws)
added_at p w ws q e = put_at ws.waits p q (waiting_at p ws ++ (w ∷ [])) (in_range ws p e)

pub taken_at : (p : ℕ) (ws : Wishes) (q : ℕ) → p < keyboards ws → waiting_at q (taken_from p ws) ≡ cond (eqb q p) (rest (waiting_at p ws)) (waiting_at q ws)
taken_at p ws q h = put_at ws.waits p q (rest (waiting_at p ws)) h

step_in_order : (x : ConsoleCall) (ws : Wishes) (q : ℕ) → served_in q x ws ++ waiting_at q (wishes_after x ws) ≡ waiting_at q ws ++ accepted_in q x ws
step_in_order (on c) ws q = sym (append-nil (waiting_at q ws))
step_in_order (wish p w) ws q = go (wish_refusal ws p) refl
  where
    at : (b : Bool) → eqb q p ≡ b → cond b (waiting_at p ws ++ (w ∷ [])) (waiting_at q ws) ≡ waiting_at q ws ++ cond b (w ∷ []) []
    at true e = ap (λ r. waiting_at r ws ++ (w ∷ [])) (sym (eqb-true q p e))
    at false e = sym (append-nil (waiting_at q ws))

    go : (o : Option KeyboardRefusal) → wish_refusal ws p ≡ o → waiting_at q (added_unless o p w ws) ≡ waiting_at q ws ++ accepted_unless q o p w
    go None e = added_at p w ws q e ∙ at (eqb q p) refl
    go (Some d) e = sym (append-nil (waiting_at q ws))
step_in_order turn ws q = go (picked ws) refl
  where
    at : (p : Picked) → waiting_at p.keyboard ws ≡ p.wish ∷ rest (waiting_at p.keyboard ws) → (b : Bool) → eqb q p.keyboard ≡ b
        → cond b (p.wish ∷ []) [] ++ cond b (rest (waiting_at p.keyboard ws)) (waiting_at q ws) ≡ waiting_at q ws ++ []
    at p f true e = sym f ∙ ap (λ i. waiting_at i ws) (sym (eqb-true q p.keyboard e)) ∙ sym (append-nil (waiting_at q ws))
    at p f false e = sym (append-nil (waiting_at q ws))

    go : (o : Option Picked) → picked ws ≡ o → served_by q o ++ waiting_at q (taken_by o ws) ≡ waiting_at q ws ++ []
    go None e = sym (append-nil (waiting_at q ws))
    go (Some p) e =
        ap (λ l. served_by q (Some p) ++ l) (taken_at p.keyboard ws q (picked_in ws p e))
        ∙ at p (search_oldest (keyboards ws) ws ws.next p e) (eqb q p.keyboard) refl

pub in_order : (xs : List ConsoleCall) (ws : Wishes) (q : ℕ) → served_of q xs ws ++ waiting_at q (wishes_run xs ws) ≡ waiting_at q ws ++ accepted_of q xs ws
in_order [] ws q = sym (append-nil (waiting_at q ws))
in_order (x ∷ xs) ws q =
    append_assoc (served_in q x ws) (served_of q xs (wishes_after x ws)) (waiting_at q (wishes_run xs (wishes_after x ws)))
    ∙ ap (λ l. served_in q x ws ++ l) (in_order xs (wishes_after x ws) q)
    ∙ sym (append_assoc (served_in q x ws) (waiting_at q (wishes_after x ws)) (accepted_of q xs (wishes_after x ws)))
    ∙ ap (λ l. l ++ accepted_of q xs (wishes_after x ws)) (step_in_order x ws q)
    ∙ append_assoc (waiting_at q ws) (accepted_in q x ws) (accepted_of q xs (wishes_after x ws))

-- ---- "16 waiting each"
abbrev pub AtMost16 : Wishes → Type 0
AtMost16 ws = (q : ℕ) → length (waiting_at q ws) ≤ 16

shorter : (l : List Wish) → length (rest l) ≤ length l
shorter [] = omega arith
shorter (w ∷ l) = omega arith

step_16 : (x : ConsoleCall) (ws : Wishes) → AtMost16 ws → AtMost16 (wishes_after x ws)
step_16 (on c) ws h q = h q
step_16 (wish p w) ws h q = go (wish_refusal ws p) refl
  where
    at : (b : Bool) → length (waiting_at p ws) < 16 → length (cond b (waiting_at p ws ++ (w ∷ [])) (waiting_at q ws)) ≤ 16
    at true k = rw (length-append (waiting_at p ws) (w ∷ [])) (omega (arith, k))
    at false k = h q

    go : (o : Option KeyboardRefusal) → wish_refusal ws p ≡ o → length (waiting_at q (added_unless o p w ws)) ≤ 16
    go None e = subst (λ l. length l ≤ 16) (sym (added_at p w ws q e)) (at (eqb q p) (not_full ws p e))
    go (Some d) e = h q
step_16 turn ws h q = go (picked ws) refl
  where
    at : (p : ℕ) (b : Bool) → length (cond b (rest (waiting_at p ws)) (waiting_at q ws)) ≤ 16
    at p true = let s = shorter (waiting_at p ws) in let k = h p in omega (arith, s, k)
    at p false = h q

    go : (o : Option Picked) → picked ws ≡ o → length (waiting_at q (taken_by o ws)) ≤ 16
    go None e = h q
    go (Some p) e = subst (λ l. length l ≤ 16) (sym (taken_at p.keyboard ws q (picked_in ws p e))) (at p.keyboard (eqb q p.keyboard))

pub at_most_16 : (xs : List ConsoleCall) (ws : Wishes) → AtMost16 ws → AtMost16 (wishes_run xs ws)
at_most_16 [] ws h = h
at_most_16 (x ∷ xs) ws h = at_most_16 xs (wishes_after x ws) (step_16 x ws h)

pub new_16 : (m : ℕ) → AtMost16 (new_wishes m)
new_16 m q = go m q
  where
    go : (m q : ℕ) → length (get_or {A = List Wish} (replicate m []) q []) ≤ 16
    go zero q = omega arith
    go (suc m) zero = omega arith
    go (suc m) (suc q) = go m q
