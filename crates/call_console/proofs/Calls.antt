-- What the tests of the console's calls come to, and each call from what its parts did (SPEC 17).
use Rattle.node.specs.declared.record.VoiceId.{VoiceId}
use Prim.Native.Nat.{ℕ, zero, suc, ◌-◌, ◌≤◌, ◌<◌, min}
use native.Mathlib.Omega.{arith}
use mathlib.Core.Path.{◌≡◌, refl, sym, ap, ◌∙◌, subst}
use mathlib.Core.List.{List, [], ◌∷◌}
use Rattle.std.specs.Prelude.{Option, None, Some, Ok, Result}
use mathlib.Core.Bool.{Bool, true, false, cond}
use lib.Dec.{leb, ltb}
use lib.ListN.{length, get_or}
use borrow.Author.Tests.{leb-true, ltb-true, ltb-false}
use Rattle.graph.specs.Tables.{answer_of}
use Rattle.node.specs.declared.refusal.Refusal.{Refusal}
use Rattle.model.specs.Call.{Step, step, spawned}
use Rattle.memory.specs.View.{Memory, model_of}
use Rattle.memory.specs.Called as store
use Rattle.store.specs.declared.wish.Wish.{Wish}
use Rattle.console.specs.declared.refusal.KeyboardRefusal.TheVariants.{OutOfRange}
use Rattle.model.specs.Wish.{call_of}
use Rattle.console.specs.Wishes.{Wishes, keyboards, waiting_at, after, oldest_or, search, picked, taken_from, keyboards_refusal}
use Rattle.console.specs.Console.{Console, turn, served, turned, made, with_keyboards, made_unless}
use Rattle.wish_rows.specs.Rows.{wish_of, wishes_in}
use Rattle.call_console.specs.declared.queues.WishState.{WishState}
use Rattle.call_console.specs.Queues.{no_queue, place_in, wishes_of, Capacity, Waits, picked_at}
use Rattle.call_console.specs.Called.{memory, console_of, Called, made_of, judged}
use Rattle.call_console.proofs.Rings.{many_is, waits_is, waits_none, queue_long, oldest_is}

-- ---- the count of keyboards
-- a new console is made, or refused
pub made_is : (o : Option Refusal) (n : ℕ) (k new : Console) → (n ≤ 8 → k ≡ new) → made_of (judged (answer_of o) (keyboards_refusal n)) k ≡ made_unless o (with_keyboards (keyboards_refusal n) new)
made_is (Some r) n k new same = refl
made_is None n k new same = go (ltb 0 n) (leb n 8) refl
  where
    go : (a b : Bool) → leb n 8 ≡ b
        → made_of (judged (Ok tt) (cond a (cond b None (Some OutOfRange)) (Some OutOfRange))) k ≡ with_keyboards (cond a (cond b None (Some OutOfRange)) (Some OutOfRange)) new
    go false b e = refl
    go true false e = refl
    go true true e = ap made (same (leb-true n 8 e))

-- ---- a wish is refused, or there is room for it
pub room_is : (s : WishState) (q : ℕ) (c : List ℕ) → q < keyboards (wishes_of s c) → length (waiting_at q (wishes_of s c)) < 16 → Capacity s q
room_is s q c h k =
    let inside : q < min s.keyboards 8 = subst (λ n. q < n) (many_is s c) h in
    let e : length (waiting_at q (wishes_of s c)) ≡ min (get_or s.queues q no_queue).count 16 = ap length (waits_is s c q inside) ∙ queue_long (wishes_in c) q (get_or s.queues q no_queue) in
    record { inside = inside; spare = omega (arith, e, k) }

-- ---- the search for the next keyboard
pub search_here : (n : ℕ) (ws : Wishes) (q : ℕ) → 0 < n → 0 < length (waiting_at q ws) → search n ws q ≡ oldest_or (waiting_at q ws) q None
search_here zero ws q h k = absurd (omega arith)
search_here (suc n) ws q h k = go (waiting_at q ws) k
  where
    go : (l : List Wish) → 0 < length l → oldest_or l q (search n ws (after (keyboards ws) q)) ≡ oldest_or l q None
    go [] k = absurd (omega arith)
    go (w ∷ l) k = refl

pub search_next : (n : ℕ) (ws : Wishes) (q : ℕ) → 0 < n → length (waiting_at q ws) ≤ 0 → search (n - 1) ws (after (keyboards ws) q) ≡ search n ws q
search_next zero ws q h k = absurd (omega arith)
search_next (suc n) ws q h k = ap (λ i. search i ws (after (keyboards ws) q)) less ∙ go (waiting_at q ws) k
  where
    less : suc n - 1 ≡ n
    less = omega arith

    go : (l : List Wish) → length l ≤ 0 → search n ws (after (keyboards ws) q) ≡ oldest_or l q (search n ws (after (keyboards ws) q))
    go [] k = refl
    go (w ∷ l) k = absurd (omega arith)

pub waits_from : (s : WishState) (q : ℕ) (c : List ℕ) → 0 < length (waiting_at q (wishes_of s c)) → Waits s q
waits_from s q c h = go (ltb q (min s.keyboards 8)) refl
  where
    go : (b : Bool) → ltb q (min s.keyboards 8) ≡ b → Waits s q
    go false e =
        let z : length (waiting_at q (wishes_of s c)) ≡ 0 = ap length (waits_none s c q (ltb-false _ _ e)) in
        absurd (omega (arith, z, h))
    go true e =
        let inside : q < min s.keyboards 8 = ltb-true _ _ e in
        let z : length (waiting_at q (wishes_of s c)) ≡ min (get_or s.queues q no_queue).count 16 = ap length (waits_is s c q inside) ∙ queue_long (wishes_in c) q (get_or s.queues q no_queue) in
        record { inside = inside; some = omega (arith, z, h) }

-- ---- a turn
pub serves : (m n : Memory) (s t : WishState) (c : List ℕ) (q : ℕ) (w : Wish) (a : Result VoiceId Refusal) → Waits s q → w ≡ get_or (wishes_in c) (place_in q (get_or s.queues q no_queue) 0) (wish_of [])
    → picked (wishes_of s c) ≡ picked_at (Some q) (wishes_of s c) → wishes_of t c ≡ taken_from q (wishes_of s c) → store.Called (call_of w) m (spawned a) n
    → Called turn (memory m s c) (served q (spawned a)) (memory n t c)
serves m n s t c q w a waits oldest pick left called =
    ap (λ (x : Step). record { answer = served q x.answer; console = record { model = x.model; wishes = wishes_of t c } }) called
    ∙ ap (λ (ws : Wishes). record { answer = served q (step (call_of w) (model_of m)).answer; console = record { model = (step (call_of w) (model_of m)).model; wishes = ws } }) left
    ∙ sym (ap (λ o. turned o (console_of (memory m s c))) (pick ∙ oldest_is s c q waits ∙ ap (λ (x : Wish). Some (record { keyboard = q; wish = x })) (sym oldest)))
