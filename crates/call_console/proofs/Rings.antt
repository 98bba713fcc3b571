-- A keyboard's 16 rows as a ring: one wish more, one less, and the keyboards beside it.
use Prim.Native.Nat.{ℕ, zero, suc, ◌+◌, ◌-◌, ◌*◌, ◌%◌, ◌≤◌, ◌<◌, min}
use native.Mathlib.Omega.{arith}
use native.Mathlib.Nat.{add-zero}
use mathlib.Core.Path.{◌≡◌, refl, sym, ap, ◌∙◌, subst}
use mathlib.Core.Logic.{◌≢◌}
use mathlib.Core.List.{List, [], ◌∷◌, ◌++◌}
use Rattle.std.specs.Prelude.{None, Some}
use mathlib.Core.Bool.{Bool, true, false}
use lib.Dec.{eqb}
use lib.ListN.{length, get_or, set, replicate, length-set, length-replicate, get_or-replicate, get_or-eq_default}
use lib.Seq.{get_or-set_same, get_or-set_other}
use borrow.Author.Tests.{eqb-true, eqb-false}
use Rattle.voice_rows.specs.Rows.{each}
use Rattle.voice_rows.proofs.Filling.{each_long, each_at, each_is, each_same}
use Rattle.store.specs.declared.wish.Wish.{Wish}
use Rattle.console.specs.Wishes.{keyboards, waiting_at, added, rest, after, taken_from, new_wishes, oldest_or}
use Rattle.wish_rows.specs.Rows.{wish_of, wishes_in}
use Rattle.call_console.specs.declared.queues.Queue.{Queue}
use Rattle.call_console.specs.declared.queues.WishState.{WishState}
use Rattle.call_console.specs.Queues.{no_queue, place_in, queue_of, wishes_of, Capacity, Waits}

-- ---- each
module _ {A : Type 0} where
  each_snoc : (f : ℕ → A) (k n : ℕ) → each f k (suc n) ≡ each f k n ++ (f (k + n) ∷ [])
  each_snoc f k zero = ap (λ i. f i ∷ []) (sym (add-zero k))
  each_snoc f k (suc n) =
      let e : suc k + n ≡ k + suc n = omega arith in
      ap (λ l. f k ∷ l) (each_snoc f (suc k) n ∙ ap (λ i. each f (suc k) n ++ (f i ∷ [])) e)

  each_shift : (f : ℕ → A) (k n : ℕ) → each f (suc k) n ≡ each (λ i. f (suc i)) k n
  each_shift f k zero = refl
  each_shift f k (suc n) = ap (λ l. f (suc k) ∷ l) (each_shift f (suc k) n)

  -- one of them changed
  each_set : (f g : ℕ → A) (n q : ℕ) (x d : A) → q < n → g q ≡ x → ((i : ℕ) → i ≢ q → g i ≡ f i) → each g 0 n ≡ set (each f 0 n) q x
  each_set f g n q x d h e o =
      each_is g n d (set (each f 0 n) q x) (length-set (each f 0 n) q x ∙ each_long f 0 n) (λ i b. go i b (eqb i q) refl)
    where
      go : (i : ℕ) → i < n → (b : Bool) → eqb i q ≡ b → g i ≡ get_or (set (each f 0 n) q x) i d
      go i b true z =
          let w : i ≡ q = eqb-true i q z in
          let k : q < length (each f 0 n) = subst (λ m. q < m) (sym (each_long f 0 n)) h in
          ap g w ∙ e ∙ sym (get_or-set_same (each f 0 n) q x d k) ∙ ap (λ j. get_or (set (each f 0 n) q x) j d) (sym w)
      go i b false z = o i (eqb-false i q z) ∙ sym (each_at f n i d b) ∙ sym (get_or-set_other (each f 0 n) q i x d (eqb-false i q z))

-- ---- what waits at a keyboard
pub many_is : (s : WishState) (c : List ℕ) → keyboards (wishes_of s c) ≡ min s.keyboards 8
many_is s c = each_long (λ q. queue_of (wishes_in c) q (get_or s.queues q no_queue)) 0 (min s.keyboards 8)

pub waits_is : (s : WishState) (c : List ℕ) (q : ℕ) → q < min s.keyboards 8 → waiting_at q (wishes_of s c) ≡ queue_of (wishes_in c) q (get_or s.queues q no_queue)
waits_is s c q h = each_at (λ q. queue_of (wishes_in c) q (get_or s.queues q no_queue)) (min s.keyboards 8) q [] h

pub waits_none : (s : WishState) (c : List ℕ) (q : ℕ) → min s.keyboards 8 ≤ q → waiting_at q (wishes_of s c) ≡ []
waits_none s c q h = get_or-eq_default (wishes_of s c).waits [] (subst (λ n. n ≤ q) (sym (many_is s c)) h)

pub queue_long : (rows : List Wish) (q : ℕ) (u : Queue) → length (queue_of rows q u) ≡ min u.count 16
queue_long rows q u = each_long (λ i. get_or rows (place_in q u i) (wish_of [])) 0 (min u.count 16)

-- ---- one wish more
queue_more : (rows : List Wish) (q : ℕ) (u : Queue) (w : Wish) → length rows ≡ 128 → q < 8 → u.count < 16
    → queue_of (set rows (place_in q u u.count) w) q (record { start = u.start; count = u.count + 1 }) ≡ queue_of rows q u ++ (w ∷ [])
queue_more rows q u w long h room =
    ap (λ n. each new 0 n) one ∙ each_snoc new 0 u.count
    ∙ ap (λ l. l ++ (new (0 + u.count) ∷ [])) (each_same new old u.count (λ i b. get_or-set_other rows at (place_in q u i) w (wish_of []) (apart i b)))
    ∙ ap (λ x. each old 0 u.count ++ (x ∷ [])) (ap new zero_left ∙ get_or-set_same rows at w (wish_of []) inside)
    ∙ ap (λ n. each old 0 n ++ (w ∷ [])) (sym few)
  where
    at : ℕ
    at = place_in q u u.count

    new : ℕ → Wish
    new i = get_or (set rows at w) (place_in q u i) (wish_of [])

    old : ℕ → Wish
    old i = get_or rows (place_in q u i) (wish_of [])

    one : min (u.count + 1) 16 ≡ suc u.count
    one = omega arith

    few : min u.count 16 ≡ u.count
    few = omega arith

    zero_left : 0 + u.count ≡ u.count
    zero_left = omega arith

    inside : at < length rows
    inside = omega arith

    apart : (i : ℕ) → i < u.count → place_in q u i ≢ at
    apart i b e = omega arith

queue_beside : (rows : List Wish) (q p j : ℕ) (u v : Queue) (w : Wish) → p ≢ q → queue_of (set rows (place_in q u j) w) p v ≡ queue_of rows p v
queue_beside rows q p j u v w n =
    each_same (λ i. get_or (set rows (place_in q u j) w) (place_in p v i) (wish_of [])) (λ i. get_or rows (place_in p v i) (wish_of [])) (min v.count 16)
    (λ i b. get_or-set_other rows (place_in q u j) (place_in p v i) w (wish_of []) (λ e. n (same (v.start + i) (u.start + j) e)))
  where
    same : (x y : ℕ) → p * 16 + x % 16 ≡ q * 16 + y % 16 → p ≡ q
    same x y e = omega arith

-- the state with this queue at keyboard q
abbrev pub with_queue : WishState → ℕ → Queue → ℕ → WishState
with_queue s q u n = record { keyboards = s.keyboards; next = n; queues = set s.queues q u }

pub added_is : (s : WishState) (c e : List ℕ) (q : ℕ) (w : Wish) → Capacity s q → length s.queues ≡ 8 → length (wishes_in c) ≡ 128
    → wishes_in e ≡ set (wishes_in c) (place_in q (get_or s.queues q no_queue) (get_or s.queues q no_queue).count) w
    → wishes_of (with_queue s q (record { start = (get_or s.queues q no_queue).start; count = (get_or s.queues q no_queue).count + 1 }) s.next) e ≡ added q w (wishes_of s c)
added_is s c e q w r eight long put =
    ap (λ (l : List (List Wish)). record { waits = l; next = s.next })
    (each_set f g (min s.keyboards 8) q (waiting_at q (wishes_of s c) ++ (w ∷ [])) [] r.inside here there)
  where
    u : Queue
    u = get_or s.queues q no_queue

    v : Queue
    v = record { start = u.start; count = u.count + 1 }

    f : ℕ → List Wish
    f p = queue_of (wishes_in c) p (get_or s.queues p no_queue)

    g : ℕ → List Wish
    g p = queue_of (wishes_in e) p (get_or (set s.queues q v) p no_queue)

    below : q < 8
    below = let i = r.inside in omega (arith, i)

    here : g q ≡ waiting_at q (wishes_of s c) ++ (w ∷ [])
    here =
        ap (queue_of (wishes_in e) q) (get_or-set_same s.queues q v no_queue (omega (arith, below, eight)))
        ∙ ap (λ l. queue_of l q v) put
        ∙ queue_more (wishes_in c) q u w long below r.spare
        ∙ ap (λ l. l ++ (w ∷ [])) (sym (waits_is s c q r.inside))

    there : (p : ℕ) → p ≢ q → g p ≡ f p
    there p n =
        ap (queue_of (wishes_in e) p) (get_or-set_other s.queues q p v no_queue n)
        ∙ ap (λ l. queue_of l p (get_or s.queues p no_queue)) put
        ∙ queue_beside (wishes_in c) q p u.count u (get_or s.queues p no_queue) w n

-- ---- one wish less
queue_less : (rows : List Wish) (q : ℕ) (u v : Queue) → 0 < u.count → v.start ≡ (u.start + 1) % 16 → v.count ≡ min u.count 16 - 1
    → queue_of rows q v ≡ rest (queue_of rows q u)
queue_less rows q u v h a b =
    ap (λ n. each (at v) 0 n) (ap (λ n. min n 16) b ∙ few)
    ∙ each_same (at v) (λ i. at u (suc i)) (min u.count 16 - 1) (λ i k. ap (λ n. get_or rows (q * 16 + n) (wish_of [])) (turned i))
    ∙ sym (each_shift (at u) 0 (min u.count 16 - 1))
    ∙ ap (λ n. rest (each (at u) 0 n)) (sym one)
  where
    at : Queue → ℕ → Wish
    at t i = get_or rows (place_in q t i) (wish_of [])

    few : min (min u.count 16 - 1) 16 ≡ min u.count 16 - 1
    few = omega arith

    one : min u.count 16 ≡ suc (min u.count 16 - 1)
    one = omega arith

    turned : (i : ℕ) → (v.start + i) % 16 ≡ (u.start + suc i) % 16
    turned i = omega (arith, a)

pub taken_is : (s : WishState) (c : List ℕ) (q : ℕ) (v : Queue) → Waits s q → length s.queues ≡ 8
    → v.start ≡ ((get_or s.queues q no_queue).start + 1) % 16 → v.count ≡ min (get_or s.queues q no_queue).count 16 - 1
    → (n : ℕ) → n ≡ after (min s.keyboards 8) q
    → wishes_of (with_queue s q v n) c ≡ taken_from q (wishes_of s c)
taken_is s c q v r eight a b n next =
    ap (λ (l : List (List Wish)). record { waits = l; next = n })
    (each_set f g (min s.keyboards 8) q (rest (waiting_at q (wishes_of s c))) [] r.inside here there)
    ∙ ap (λ (k : ℕ). record { waits = set (wishes_of s c).waits q (rest (waiting_at q (wishes_of s c))); next = k }) (next ∙ ap (λ k. after k q) (sym (many_is s c)))
  where
    u : Queue
    u = get_or s.queues q no_queue

    f : ℕ → List Wish
    f p = queue_of (wishes_in c) p (get_or s.queues p no_queue)

    g : ℕ → List Wish
    g p = queue_of (wishes_in c) p (get_or (set s.queues q v) p no_queue)

    here : g q ≡ rest (waiting_at q (wishes_of s c))
    here =
        let i = r.inside in
        ap (queue_of (wishes_in c) q) (get_or-set_same s.queues q v no_queue (omega (arith, i, eight)))
        ∙ queue_less (wishes_in c) q u v r.some a b
        ∙ ap rest (sym (waits_is s c q r.inside))

    there : (p : ℕ) → p ≢ q → g p ≡ f p
    there p o = ap (queue_of (wishes_in c) p) (get_or-set_other s.queues q p v no_queue o)

-- ---- the oldest wish
pub oldest_is : (s : WishState) (c : List ℕ) (q : ℕ) → Waits s q
    → oldest_or (waiting_at q (wishes_of s c)) q None ≡ Some (record { keyboard = q; wish = get_or (wishes_in c) (place_in q (get_or s.queues q no_queue) 0) (wish_of []) })
oldest_is s c q r =
    ap (λ l. oldest_or l q None) (waits_is s c q r.inside)
    ∙ ap (λ n. oldest_or (each (λ i. get_or (wishes_in c) (place_in q u i) (wish_of [])) 0 n) q None) one
  where
    u : Queue
    u = get_or s.queues q no_queue

    one : min u.count 16 ≡ suc (min u.count 16 - 1)
    one = let h = r.some in omega (arith, h)

-- ---- nothing waits at new keyboards
pub new_is : (n : ℕ) (c : List ℕ) → n ≤ 8 → wishes_of (record { keyboards = n; next = 0; queues = replicate 8 no_queue }) c ≡ new_wishes n
new_is n c h =
    ap (λ (l : List (List Wish)). record { waits = l; next = 0 })
    (ap (λ k. each f 0 k) few ∙ each_is f n [] (replicate n []) (length-replicate n []) (λ i b. none_at i (omega arith) ∙ sym (get_or-replicate n i [] [] b)))
  where
    f : ℕ → List Wish
    f q = queue_of (wishes_in c) q (get_or (replicate 8 no_queue) q no_queue)

    few : min n 8 ≡ n
    few = omega arith

    none_at : (i : ℕ) → i < 8 → f i ≡ []
    none_at i b = ap (queue_of (wishes_in c) i) (get_or-replicate 8 i no_queue no_queue b)
