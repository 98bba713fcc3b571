-- The wishes of queues: how many keyboards there are, what waits at each, and what is left when one of the queues changed.
use Rattle.std.proofs.Common.{◌≡◌, ◌<◌, ◌≤◌, ◌∙◌, ap, sym, refl, ℕ, zero, suc, Bool, true, false, cond, List, [], ◌∷◌, ◌++◌, map, take, length, slice_index_or, replicate, arith}
use Rattle.std.specs.Prelude.{None, Some, leb, eqb, ◌&&◌, get_or, set}
use Rattle.std.specs.Array.{AllOfLen}
use Rattle.std.specs.List.{list_all}
use Rattle.sealed.specs.Board.{none_at, none_waits}
use mathlib.Core.Path.{ap₂}
use Rattle.std.proofs.lemmas.Bool.{le-leb, lt-leb, ne_eqb}
use Rattle.std.proofs.lemmas.List.{length-take, get_or-take, get_or-map, map-set, length-map}
use Rattle.std.proofs.Math.Seq.{take-set-lt}
use Rattle.std.proofs.Math.ListN.{get_or-eq_default}
use Rattle.arrayvec.specs.ArrayVec.{ArrayVec}
use Rattle.store.specs.declared.wish.Wish.{Wish}
use Rattle.console.specs.declared.refusal.KeyboardRefusal.TheVariants.{OutOfRange, Full}
use Rattle.console.specs.Wishes.{Wishes, keyboards, waiting_at, wish_refusal, after, added, rest, taken_from, new_wishes}
use Rattle.board.specs.Queues.{wishes_of}

abbrev items : ArrayVec Wish → List Wish
items v = v.items

module _ (qs : List (ArrayVec Wish)) (n next : ℕ) (fits : n ≤ length qs) where
  abbrev ws : Wishes
  ws = wishes_of qs n next

  long : length (take n qs) ≡ n
  long = omega (arith, length-take n qs)

  pub many : keyboards ws ≡ n
  many = length-map (take n qs) items ∙ long

  pub here : (q : ℕ) (d : ArrayVec Wish) → q < n → waiting_at q ws ≡ (get_or qs q d).items
  here q d h = get_or-map items (take n qs) q d [] (omega (arith, h, long)) ∙ ap items (get_or-take n qs q d h)

  pub past : (q : ℕ) → n ≤ q → waiting_at q ws ≡ []
  past q h = get_or-eq_default ws.waits [] (omega (arith, h, many))

  pub changed : (q m : ℕ) (v : ArrayVec Wish) (l : List Wish) → q < n → v.items ≡ l → wishes_of (set qs q v) n m ≡ record { waits = set ws.waits q l; next = m }
  changed q m v l h e =
      let w : map items (take n (set qs q v)) ≡ set (map items (take n qs)) q l = ap (map items) (take-set-lt n qs q v h) ∙ map-set items (take n qs) q v ∙ ap (λ x. set (map items (take n qs)) q x) e in
      ap (λ (x : List (List Wish)). record { waits = x; next = m }) w

  pub refusal : (q : ℕ) (b : Bool) → leb n q ≡ b → wish_refusal ws q ≡ cond b (Some OutOfRange) (cond (leb 16 (length (waiting_at q ws))) (Some Full) None)
  refusal q b e = ap (λ m. cond (leb m q) (Some OutOfRange) (cond (leb 16 (length (waiting_at q ws))) (Some Full) None)) many ∙ ap (λ t. cond t (Some OutOfRange) (cond (leb 16 (length (waiting_at q ws))) (Some Full) None)) e

-- what becomes of a wish for the keyboard q
module _ (qs : List (ArrayVec Wish)) (n next : ℕ) (fits : n ≤ length qs) (q : ℕ) (w : Wish) where
  abbrev us : Wishes
  us = wishes_of qs n next

  pub no_keyboard : n ≤ q → wish_refusal us q ≡ Some OutOfRange
  no_keyboard h = refusal qs n next fits q true (le-leb n q h)

  pub full : (d : ArrayVec Wish) → q < n → length (get_or qs q d).items ≡ 16 → wish_refusal us q ≡ Some Full
  full d h k =
      let e : length (waiting_at q us) ≡ 16 = ap length (here qs n next fits q d h) ∙ k in
      refusal qs n next fits q false (lt-leb n q h) ∙ ap (λ m. cond (leb 16 m) (Some Full) None) e

  pub room : (d : ArrayVec Wish) → q < n → length (get_or qs q d).items < 16 → wish_refusal us q ≡ None
  room d h k =
      let e : length (waiting_at q us) ≡ length (get_or qs q d).items = ap length (here qs n next fits q d h) in
      refusal qs n next fits q false (lt-leb n q h) ∙ ap (λ t. cond t (Some Full) None) (lt-leb 16 (length (waiting_at q us)) (omega (arith, e, k)))

  pub more : (d v : ArrayVec Wish) → q < n → v.items ≡ (get_or qs q d).items ++ (w ∷ []) → wishes_of (set qs q v) n next ≡ added q w us
  more d v h e = changed qs n next fits q next v (waiting_at q us ++ (w ∷ [])) h (e ∙ ap (λ l. l ++ (w ∷ [])) (sym (here qs n next fits q d h)))

-- a wish of the keyboard q is served
pub less : (qs : List (ArrayVec Wish)) (n next : ℕ) (fits : n ≤ length qs) (q : ℕ) (d v : ArrayVec Wish) (m : ℕ) → q < n → m ≡ after n q → v.items ≡ rest (get_or qs q d).items
    → wishes_of (set qs q v) n m ≡ taken_from q (wishes_of qs n next)
less qs n next fits q d v m h a e =
    let us = wishes_of qs n next in
    changed qs n next fits q m v (rest (waiting_at q us)) h (e ∙ ap rest (sym (here qs n next fits q d h)))
    ∙ ap (λ (k : ℕ). record { waits = set us.waits q (rest (waiting_at q us)); next = k }) (a ∙ ap (λ k. after k q) (sym (many qs n next fits)))

-- ---- nothing waits at new keyboards
pub fresh : (qs : List (ArrayVec Wish)) (n m : ℕ) → AllOfLen (λ (v : ArrayVec Wish). v.items ≡ []) qs m → n ≤ m → wishes_of qs n 0 ≡ new_wishes n
fresh qs n m all h = ap (λ (l : List (List Wish)). record { waits = l; next = 0 }) (each qs n (λ i d k. all.at i d (omega (arith, k, h))) (omega (arith, all.long, h)))
  where
    each : (l : List (ArrayVec Wish)) (k : ℕ) → ((i : ℕ) (d : ArrayVec Wish) → i < k → (slice_index_or l i d).items ≡ []) → k ≤ length l → map items (take k l) ≡ replicate k []
    each l zero h b = refl
    each [] (suc k) h b = absurd (omega arith)
    each (v ∷ l) (suc k) h b = ap₂ ◌∷◌ (h 0 v (omega arith)) (each l k (λ i d c. h (suc i) d (omega (arith, c))) (omega arith))

-- ---- whether a wish waits
none_counted : (l : List Wish) → eqb (length l) 0 ≡ none_at l
none_counted [] = refl
none_counted (w ∷ l) = ne_eqb (length (w ∷ l)) 0 (λ e. omega (arith, e))

pub none_all : (qs : List (ArrayVec Wish)) → list_all (λ (v : ArrayVec Wish). eqb (length v.items) 0) qs ≡ none_waits (map items qs)
none_all [] = refl
none_all (v ∷ qs) = ap₂ ◌&&◌ (none_counted v.items) (none_all qs)
