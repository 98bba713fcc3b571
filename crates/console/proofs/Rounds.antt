-- Whose turn it is, what a wish is answered, when a console is made: the definitions say what specs/Rounds states.
use Prim.Native.Nat.{ℕ, zero, suc, ◌+◌, ◌-◌, ◌≤◌, ◌<◌}
use native.Mathlib.Omega.{arith}
use mathlib.Core.Path.{◌≡◌, refl, sym, ap, ◌∙◌, subst}
use mathlib.Core.Logic.{◌↔◌, ◌⊎◌, inl, inr, ⊎_elim}
use mathlib.Core.List.{List, [], ◌∷◌, ◌++◌}
use mathlib.Core.Bool.{Bool, true, false, cond}
use lib.Dec.{eqb, leb, ltb}
use lib.ListN.{length, length-replicate}
use borrow.Author.Tests.{le-leb, lt-leb, leb-true, leb-false, eq-eqb, ne_eqb, lt-ltb, ltb-true, ltb-false}
use Rattle.std.specs.Prelude.{Option, None, Some}
use Rattle.lists.proofs.Member.{none_some}
use Rattle.node.specs.declared.refusal.Refusal.{Refusal}
use Rattle.store.specs.declared.wish.Wish.{Wish}
use Rattle.model.specs.Make.{Making, config_of, refusal_of, new_model}
use Rattle.refusals.specs.First.{Told, NoneHolds}
use Rattle.refusals.specs.Making.{make_rows, make_when}
use Rattle.refusals.proofs.Making.{makes}
use Rattle.console.specs.declared.refusal.KeyboardRefusal.{KeyboardRefusal}
use Rattle.console.specs.declared.refusal.KeyboardRefusal.TheVariants.{OutOfRange, Full}
use Rattle.console.specs.Wishes.{Wishes, keyboards, waiting_at, wish_refusal, after, Picked, picked, oldest_or, search, rest, keyboards_refusal, new_wishes}
use Rattle.console.specs.Console.{Console, ConsoleCall, ConsoleStep, on, wish, turn, ConsoleAnswer, plain, accepted, refused, served, empty, wished, turned, added_unless, taken_by, wishes_after, console_step, console_run, ConsoleMade, made, refused_by, refused_for, with_keyboards, made_unless}
use Rattle.console.specs.Rounds.{last_served, begins, Upwards, Next, Turns, Waits, MakesConsole}
use Rattle.console.proofs.Fifo.{added_at, taken_at, picked_in}
use Rattle.console.proofs.Round.{round, way}
use Rattle.console.proofs.Fair.{WishInvariant, step_invariant}

-- ---- where the round begins: the next keyboard is the one behind that which was served last
pub record Begins (m : ℕ) (last : Option ℕ) (ws : Wishes) : Type 0 where
  pub invariant : WishInvariant m ws
  pub start : (begins last ≡ ws.next) ⊎ (begins last ≡ ws.next + m)
  pub most : begins last ≤ m

after_starts : (m q : ℕ) → q < m → (q + 1 ≡ after m q) ⊎ (q + 1 ≡ after m q + m)
after_starts m q h = go (ltb (suc q) m) refl
  where
    go : (b : Bool) → ltb (suc q) m ≡ b → (q + 1 ≡ cond b (suc q) 0) ⊎ (q + 1 ≡ cond b (suc q) 0 + m)
    go true e = inl (omega arith)
    go false e = let l = ltb-false (suc q) m e in inr (omega (arith, l, h))

begins_step : (m : ℕ) (last : Option ℕ) (x : ConsoleCall) (c : Console) → Begins m last c.wishes
    → Begins m (last_served last ((console_step x c).answer ∷ [])) (console_step x c).console.wishes
begins_step m last (on x) c b = b
begins_step m last (wish q w) c b = go (wish_refusal c.wishes q) refl (step_invariant (wish q w) m c.wishes b.invariant)
  where
    go : (o : Option KeyboardRefusal) → wish_refusal c.wishes q ≡ o → WishInvariant m (wishes_after (wish q w) c.wishes) → Begins m (last_served last ((wished o q w c).answer ∷ [])) (wished o q w c).console.wishes
    go None e i = record { invariant = subst (λ o. WishInvariant m (added_unless o q w c.wishes)) e i; start = b.start; most = b.most }
    go (Some r) e i = b
begins_step m last turn c b = go (picked c.wishes) refl (step_invariant turn m c.wishes b.invariant)
  where
    go : (o : Option Picked) → picked c.wishes ≡ o → WishInvariant m (wishes_after turn c.wishes) → Begins m (last_served last ((turned o c).answer ∷ [])) (turned o c).console.wishes
    go None e i = b
    go (Some p) e i =
        let few : p.keyboard < m = subst (λ n. p.keyboard < n) b.invariant.many (picked_in c.wishes p e) in
        record {
          invariant = subst (λ o. WishInvariant m (taken_by o c.wishes)) e i;
          start = subst (λ n. (p.keyboard + 1 ≡ after n p.keyboard) ⊎ (p.keyboard + 1 ≡ after n p.keyboard + m)) (sym b.invariant.many) (after_starts m p.keyboard few);
          most = omega (arith, few);
        }

-- one answer, and then the others
last_then : (last : Option ℕ) (a : ConsoleAnswer) (l : List ConsoleAnswer) → last_served (last_served last (a ∷ [])) l ≡ last_served last (a ∷ l)
last_then last (plain a) l = refl
last_then last accepted l = refl
last_then last (refused r) l = refl
last_then last (served q a) l = refl
last_then last empty l = refl

pub begins_run : (xs : List ConsoleCall) (m : ℕ) (last : Option ℕ) (c : Console) → Begins m last c.wishes
    → Begins m (last_served last (console_run xs c).answers) (console_run xs c).console.wishes
begins_run [] m last c b = b
begins_run (x ∷ xs) m last c b =
    let s = console_step x c in
    subst (λ o. Begins m o (console_run xs s.console).console.wishes) (last_then last s.answer (console_run xs s.console).answers) (begins_run xs m (last_served last (s.answer ∷ [])) s.console (begins_step m last x c b))

-- ---- a turn
-- so many steps up and round is the round of proofs/Round
up_round : (m p d q : ℕ) → p < m → Upwards m p d q → round m d p ≡ q
up_round m p d q h u =
    let w = way m p q h u.one in
    let same : w.steps ≡ d = ⊎_elim
    (λ (a : p + d ≡ q). ⊎_elim (λ (b : p + w.steps ≡ q). omega (arith, a, b)) (λ (b : p + w.steps ≡ q + m). absurd (omega (arith, a, b, w.short, u.few))) w.counts)
    (λ (a : p + d ≡ q + m). ⊎_elim (λ (b : p + w.steps ≡ q). absurd (omega (arith, a, b, w.short, u.few))) (λ (b : p + w.steps ≡ q + m). omega (arith, a, b)) w.counts)
    u.leads in
    ap (λ d. round m d p) (sym same) ∙ w.leads

-- from where the round begins, or from the next keyboard
from_next : (m s n d q : ℕ) → n < m → (s ≡ n) ⊎ (s ≡ n + m) → Upwards m s d q → Upwards m n d q
from_next m s n d q h (inl e) u = subst (λ p. Upwards m p d q) e u
from_next m s n d q h (inr e) u =
    record { few = u.few; one = u.one; leads = ⊎_elim (λ (a : s + d ≡ q). absurd (omega (arith, a, e, u.one))) (λ (a : s + d ≡ q + m). inl (omega (arith, a, e))) u.leads }

-- and the other way round
to_begin : (m s n d p : ℕ) → (s ≡ n) ⊎ (s ≡ n + m) → s ≤ m → Upwards m n d p → Upwards m s d p
to_begin m s n d p (inl e) k u = subst (λ a. Upwards m a d p) (sym e) u
to_begin m s n d p (inr e) k u =
    record { few = u.few; one = u.one; leads = ⊎_elim (λ (a : n + d ≡ p). inr (omega (arith, a, e))) (λ (a : n + d ≡ p + m). absurd (omega (arith, a, e, k, u.few))) u.leads }

up_from : (m n d : ℕ) → n < m → d < m → (p : ℕ) × Upwards m n d p
up_from m n d h k = go (ltb (n + d) m) refl
  where
    go : (b : Bool) → ltb (n + d) m ≡ b → (p : ℕ) × Upwards m n d p
    go true e = (n + d, record { few = k; one = ltb-true _ _ e; leads = inl refl })
    go false e =
        let l = ltb-false (n + d) m e in
        (n + d - m, record { few = k; one = omega (arith, l, h, k); leads = inr (omega (arith, l)) })

-- the search ends at the first keyboard with a wish
search_at : (d n : ℕ) (ws : Wishes) (p : ℕ) (w : Wish) (l : List Wish) → d < n → ((e : ℕ) → e < d → waiting_at (round (keyboards ws) e p) ws ≡ [])
    → waiting_at (round (keyboards ws) d p) ws ≡ w ∷ l → search n ws p ≡ Some (record { keyboard = round (keyboards ws) d p; wish = w })
search_at zero zero ws p w l h e f = absurd (omega arith)
search_at (suc d) zero ws p w l h e f = absurd (omega arith)
search_at zero (suc n) ws p w l h e f = ap (λ z. oldest_or z p (search n ws (after (keyboards ws) p))) f
search_at (suc d) (suc n) ws p w l h e f =
    ap (λ z. oldest_or z p (search n ws (after (keyboards ws) p))) (e 0 (omega arith))
    ∙ search_at d n ws (after (keyboards ws) p) w l (omega arith) (λ i k. e (suc i) (omega (arith, k))) f

search_none : (n : ℕ) (ws : Wishes) (p : ℕ) → ((q : ℕ) → waiting_at q ws ≡ []) → search n ws p ≡ None
search_none zero ws p h = refl
search_none (suc n) ws p h = ap (λ z. oldest_or z p (search n ws (after (keyboards ws) p))) (h p) ∙ search_none n ws (after (keyboards ws) p) h

module _ (last : Option ℕ) (c : Console) (b : Begins (keyboards c.wishes) last c.wishes) where
  abbrev m : ℕ
  m = keyboards c.wishes

  picked_next : (q : ℕ) (w : Wish) → Next m last (λ p. waiting_at p c.wishes) q w → picked c.wishes ≡ Some (record { keyboard = q; wish = w })
  picked_next q w n =
      let there = up_round m c.wishes.next n.distance q b.invariant.next (from_next m (begins last) c.wishes.next n.distance q b.invariant.next b.start n.round) in
      search_at n.distance m c.wishes c.wishes.next w n.others n.round.few passed (ap (λ p. waiting_at p c.wishes) there ∙ n.oldest) ∙ ap (λ p. Some (record { keyboard = p; wish = w })) there
    where
      passed : (e : ℕ) → e < n.distance → waiting_at (round m e c.wishes.next) c.wishes ≡ []
      passed e h =
          let u = up_from m c.wishes.next e b.invariant.next (omega (arith, h, n.round.few)) in
          ap (λ p. waiting_at p c.wishes) (up_round m c.wishes.next e u.0 b.invariant.next u.1) ∙ n.passed e u.0 h (to_begin m (begins last) c.wishes.next e u.0 b.start b.most u.1)

  -- what waits at p after it
  left : (q : ℕ) (w : Wish) → Next m last (λ p. waiting_at p c.wishes) q w → (p : ℕ)
      → waiting_at p (console_step turn c).console.wishes ≡ cond (eqb p q) (rest (waiting_at q c.wishes)) (waiting_at p c.wishes)
  left q w n p = ap (λ o. waiting_at p (turned o c).console.wishes) (picked_next q w n) ∙ taken_at q c.wishes p n.round.one

  turns_at : Turns m last c
  turns_at =
      record {
        answer = λ q w n. ap (λ o. (turned o c).answer) (picked_next q w n);
        store = λ q w n. ap (λ o. (turned o c).console.model) (picked_next q w n);
        gone = λ q w n. left q w n q ∙ ap (λ t. cond t (rest (waiting_at q c.wishes)) (waiting_at q c.wishes)) (eq-eqb q q refl) ∙ ap rest n.oldest;
        stay = λ q w n p e. left q w n p ∙ ap (λ t. cond t (rest (waiting_at q c.wishes)) (waiting_at p c.wishes)) (ne_eqb p q e);
        none = λ h. ap (λ o. turned o c) (search_none m c.wishes c.wishes.next h);
      }

pub turns_exactly : (m : ℕ) (last : Option ℕ) (c : Console) → Begins m last c.wishes → Turns m last c
turns_exactly m last c b = subst (λ n. Begins n last c.wishes → Turns n last c) b.invariant.many (turns_at last c) b

-- ---- a wish
module _ (m : ℕ) (c : Console) (many : keyboards c.wishes ≡ m) (q : ℕ) (w : Wish) where
  abbrev done : Bool → Bool → ConsoleStep
  done a b = wished (cond a (Some OutOfRange) (cond b (Some Full) None)) q w c

  known : (a b : Bool) → leb (keyboards c.wishes) q ≡ a → leb 16 (length (waiting_at q c.wishes)) ≡ b → console_step (wish q w) c ≡ done a b
  known a b e f = ap (λ t. done t (leb 16 (length (waiting_at q c.wishes)))) e ∙ ap (done a) f

  there : q < m → leb (keyboards c.wishes) q ≡ false
  there h = lt-leb (keyboards c.wishes) q (omega (arith, h, many))

  free : q < m → length (waiting_at q c.wishes) < 16 → wish_refusal c.wishes q ≡ None
  free h k = ap (λ t. cond t (Some OutOfRange) (cond (leb 16 (length (waiting_at q c.wishes))) (Some Full) None)) (there h) ∙ ap (λ t. cond t (Some Full) None) (lt-leb 16 _ k)

  pub waits_exactly : Waits m c q w
  waits_exactly =
      record {
        no_keyboard = λ h. ap (λ t. done t (leb 16 (length (waiting_at q c.wishes)))) (le-leb (keyboards c.wishes) q (omega (arith, h, many)));
        full = λ h k. known false true (there h) (le-leb 16 _ k);
        taken = λ h k. ap (λ (s : ConsoleStep). s.answer) (known false false (there h) (lt-leb 16 _ k));
        behind = λ h k. ap (λ o. waiting_at q (wished o q w c).console.wishes) (free h k) ∙ added_at q w c.wishes q (free h k)
            ∙ ap (λ t. cond t (waiting_at q c.wishes ++ (w ∷ [])) (waiting_at q c.wishes)) (eq-eqb q q refl);
        stay = λ p n. others p n (wish_refusal c.wishes q) refl;
        store = same (wish_refusal c.wishes q);
      }
    where
      others : (p : ℕ) → (p ≡ q → ⊥) → (o : Option KeyboardRefusal) → wish_refusal c.wishes q ≡ o → waiting_at p (wished o q w c).console.wishes ≡ waiting_at p c.wishes
      others p n None e = added_at q w c.wishes p e ∙ ap (λ t. cond t (waiting_at q c.wishes ++ (w ∷ [])) (waiting_at p c.wishes)) (ne_eqb p q n)
      others p n (Some r) e = refl

      same : (o : Option KeyboardRefusal) → (wished o q w c).console.model ≡ c.model
      same None = refl
      same (Some r) = refl

-- ---- making
abbrev store_refusal : ConsoleMade → Option Refusal
store_refusal (made c) = None
store_refusal (refused_by r) = Some r
store_refusal (refused_for r) = None

abbrev keyboard_refusal : ConsoleMade → Option KeyboardRefusal
keyboard_refusal (made c) = None
keyboard_refusal (refused_by r) = None
keyboard_refusal (refused_for r) = Some r

abbrev console_in : Console → ConsoleMade → Console
console_in d (made c) = c
console_in d (refused_by r) = d
console_in d (refused_for r) = d

-- 1 to 8 keyboards, or 24
module _ (n : ℕ) where
  abbrev ranged : Bool → Bool → Option KeyboardRefusal
  ranged a b = cond a (cond b None (Some OutOfRange)) (Some OutOfRange)

  range : (keyboards_refusal n ≡ Some OutOfRange) ↔ ((n < 1) ⊎ (8 < n))
  range = go (ltb 0 n) refl (leb n 8) refl
    where
      go : (a : Bool) → ltb 0 n ≡ a → (b : Bool) → leb n 8 ≡ b → (ranged a b ≡ Some OutOfRange) ↔ ((n < 1) ⊎ (8 < n))
      go true e true f = (
        λ h. absurd (none_some h),
        λ d. let l = ltb-true 0 n e in let m = leb-true n 8 f in absurd (⊎_elim (λ (i : n < 1). omega (arith, i, l)) (λ (i : 8 < n). omega (arith, i, m)) d),
      )
      go true e false f = (λ h. inr (leb-false n 8 f), λ d. refl)
      go false e b f = let l = ltb-false 0 n e in (λ h. inl (omega (arith, l)), λ d. refl)

  never_full : keyboards_refusal n ≡ Some Full → ⊥
  never_full h = go (ltb 0 n) (leb n 8) h
    where
      number : Option KeyboardRefusal → ℕ
      number None = 0
      number (Some OutOfRange) = 1
      number (Some Full) = 2

      go : (a b : Bool) → ranged a b ≡ Some Full → ⊥
      go true true h = none_some h
      go true false h = omega (arith, ap number h)
      go false b h = omega (arith, ap number h)

  inside : 1 ≤ n → n ≤ 8 → keyboards_refusal n ≡ None
  inside h k = ap (λ a. ranged a (leb n 8)) (lt-ltb 0 n h) ∙ ap (ranged true) (le-leb n 8 k)

empty_new : (n q : ℕ) → waiting_at q (new_wishes n) ≡ []
empty_new zero q = refl
empty_new (suc n) zero = refl
empty_new (suc n) (suc q) = empty_new n q

module _ (k : Making) (n : ℕ) where
  abbrev new_console : Console
  new_console = record { model = new_model (config_of k); wishes = new_wishes n }

  abbrev comes_to : Option Refusal → Option KeyboardRefusal → ConsoleMade
  comes_to o u = made_unless o (with_keyboards u new_console)

  t : Told (make_when k) make_rows (refusal_of k)
  t = (makes k).refusal

  store_is : (o : Option Refusal) (u : Option KeyboardRefusal) → store_refusal (comes_to o u) ≡ o
  store_is (Some r) u = refl
  store_is None (Some r) = refl
  store_is None None = refl

  keyboards_is : (u : Option KeyboardRefusal) → keyboard_refusal (comes_to None u) ≡ u
  keyboards_is (Some r) = refl
  keyboards_is None = refl

  pub makes_console : MakesConsole k n
  makes_console =
      record {
        by_store = λ r. (
          λ h. (t.first r).0 (sym (store_is (refusal_of k) (keyboards_refusal n)) ∙ ap store_refusal h),
          λ f. ap (λ o. comes_to o (keyboards_refusal n)) ((t.first r).1 f),
        );
        by_keyboards = (λ h. for_keyboards (refusal_of k) refl h, λ h. ap (λ o. comes_to o (keyboards_refusal n)) (t.none.1 h.0) ∙ ap (comes_to None) ((range n).1 h.1));
        never = λ h. no_full (refusal_of k) h;
        given = λ none some most. (new_console, ap (λ o. comes_to o (keyboards_refusal n)) (t.none.1 none) ∙ ap (comes_to None) (inside n some most));
        new = λ c h. is_new (refusal_of k) (keyboards_refusal n) c h;
      }
    where
      for_keyboards : (o : Option Refusal) → refusal_of k ≡ o → comes_to o (keyboards_refusal n) ≡ refused_for OutOfRange → NoneHolds (make_when k) make_rows × ((n < 1) ⊎ (8 < n))
      for_keyboards None e h = (t.none.0 e, (range n).0 (sym (keyboards_is (keyboards_refusal n)) ∙ ap keyboard_refusal h))
      for_keyboards (Some r) e h = absurd (none_some (ap keyboard_refusal h))

      no_full : (o : Option Refusal) → comes_to o (keyboards_refusal n) ≡ refused_for Full → ⊥
      no_full None h = never_full n (sym (keyboards_is (keyboards_refusal n)) ∙ ap keyboard_refusal h)
      no_full (Some r) h = none_some (ap keyboard_refusal h)

      is_new : (o : Option Refusal) (u : Option KeyboardRefusal) (c : Console) → comes_to o u ≡ made c
          → (c.model ≡ new_model (config_of k)) × (keyboards c.wishes ≡ n) × ((q : ℕ) → waiting_at q c.wishes ≡ [])
      is_new (Some r) u c h = absurd (none_some (sym (ap store_refusal h)))
      is_new None (Some r) c h = absurd (none_some (sym (ap keyboard_refusal h)))
      is_new None None c h =
          let z : c ≡ new_console = sym (ap (console_in new_console) h) in
          (ap (λ (d : Console). d.model) z, ap (λ (d : Console). keyboards d.wishes) z ∙ length-replicate n [], λ q. ap (λ (d : Console). waiting_at q d.wishes) z ∙ empty_new n q)
