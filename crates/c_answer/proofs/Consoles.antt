-- From what a call of the console promises on its states to what its export promises on their words.
use Prim.Native.Nat.{ℕ}
use mathlib.Core.Path.{◌≡◌, refl, sym, ap, ◌∙◌}
use mathlib.Core.List.{List, []}
use mathlib.Core.Bool.{Bool, true, false, not}
use Rattle.console.specs.Console.{Console, ConsoleCall, ConsoleAnswer, plain, accepted, refused, served, empty, ConsoleStep, console_step, ConsoleMade, made}
use Rattle.memory.specs.View.{Memory}
use Rattle.memory.specs.Lent.{lent_state}
use Rattle.memory.specs.declared.state.State.{State}
use Rattle.call_console.specs.declared.queues.WishState.{WishState}
use Rattle.std.specs.Prelude.{Option, None, Some, is_some, Result, Err, Ok}
use Rattle.std.specs.Result.{is_err}
use Rattle.call_console.specs.declared.turning.Served.{Served}
use Rattle.call_console.specs.declared.making.MakeRefusal.{MakeRefusal}
use Rattle.call_console.specs.declared.making.MakeRefusal.TheVariants.{Store, Keyboards}
use Rattle.call_console.specs.Called.{ConsoleMemory, memory, console_of, Called, Kept, turn_answer, made_of}
use Rattle.state_words.specs.State.{state_in}
use Rattle.wish_state_words.specs.Waiting.{waiting_in}
use Rattle.c_answer.specs.Refused.{made_number, number_by}
use Rattle.c_answer.specs.Exported.{Settled}
use Rattle.c_answer.specs.Console.{console_code, store_kept, waiting_kept, said_to, ConsoleExported, keyboard_cell, served_cell, TurnCells, made_code, made_kept, MakesConsole, WaitingSettled}
use Rattle.c_answer.proofs.Exporting.{no}

-- ---- what a call keeps, by its answer
kept_store : (a : ConsoleAnswer) (m n : ConsoleMemory) → Kept a m n → store_kept a ≡ true → n.store ≡ m.store
kept_store (plain a) m n k h = k.2 h
kept_store accepted m n k h = k
kept_store (refused r) m n k h = ap (λ (x : ConsoleMemory). x.store) k
kept_store (served q a) m n k h = k.1 h
kept_store empty m n k h = ap (λ (x : ConsoleMemory). x.store) k

kept_waiting : (a : ConsoleAnswer) (m n : ConsoleMemory) → Kept a m n → waiting_kept a ≡ true → (n.wishes ≡ m.wishes) × (n.words ≡ m.words)
kept_waiting (plain a) m n k h = (k.0, k.1)
kept_waiting accepted m n k h = no h
kept_waiting (refused r) m n k h = (ap (λ (x : ConsoleMemory). x.wishes) k, ap (λ (x : ConsoleMemory). x.words) k)
kept_waiting (served q a) m n k h = no h
kept_waiting empty m n k h = (ap (λ (x : ConsoleMemory). x.wishes) k, ap (λ (x : ConsoleMemory). x.words) k)

-- `before s p` and `after s p` are the console with the state s, the state p of what waits and the lent tables as they stood before and
-- after the call; y is the call with its arguments as the code has read them
module _ (x y : ConsoleCall) (before after : State → WishState → ConsoleMemory) (w u : List ℕ) (s t : State) (p q : WishState) (a : ConsoleAnswer)
    (is : y ≡ x)
    (read : s ≡ state_in w)
    (waits : p ≡ waiting_in u)
    (called : Called y (before s p) a (after t q))
    (kept : Kept a (before s p) (after t q)) where
  there : before s p ≡ before (state_in w) (waiting_in u)
  there = ap (λ z. before z p) read ∙ ap (before (state_in w)) waits

  said : a ≡ said_to x (before (state_in w) (waiting_in u))
  said = ap (λ (z : ConsoleStep). z.answer) called ∙ ap (λ z. said_to z (before s p)) is ∙ ap (said_to x) there

  -- the words v and z hold the states that the call left; where it keeps them they are the same words
  pub exports : (v z : List ℕ) (k : ℕ)
      → k ≡ console_code a
      → state_in v ≡ t
      → waiting_in z ≡ q
      → (store_kept a ≡ true → v ≡ w)
      → (waiting_kept a ≡ true → z ≡ u)
      → ConsoleExported x (before (state_in w) (waiting_in u)) w u k (after (state_in v) (waiting_in z)) v z
  exports v z k coded left rest same stay =
      let end : after (state_in v) (waiting_in z) ≡ after t q = ap (λ i. after i (waiting_in z)) left ∙ ap (after t) rest in
      record {
        answer = coded ∙ ap console_code said;
        console = ap console_of end ∙ ap (λ (i : ConsoleStep). i.console) called ∙ ap (λ i. (console_step i (console_of (before s p))).console) is ∙ ap (λ i. (console_step x (console_of i)).console) there;
        store = λ h.
            let g = ap store_kept said ∙ h in
            (same g, ap (λ (i : ConsoleMemory). i.store) end ∙ kept_store a (before s p) (after t q) kept g ∙ ap (λ (i : ConsoleMemory). i.store) there);
        waiting = λ h.
            let g = ap waiting_kept said ∙ h in
            (stay g, ap (λ (i : ConsoleMemory). i.words) end ∙ (kept_waiting a (before s p) (after t q) kept g).1 ∙ ap (λ (i : ConsoleMemory). i.words) there);
      }

  -- the words of a state that was settled stand for what the call left
  pub state_left : (own : (i : State) (j : WishState) → (before i j).store.state ≡ i) (own' : (i : State) (j : WishState) → (after i j).store.state ≡ i) (b : Bool) (k r : ℕ) (v : List ℕ)
      → b ≡ store_kept a → Settled w t b k r v → state_in v ≡ t
  state_left own own' b k r v tested settled = go b refl
    where
      go : (i : Bool) → b ≡ i → state_in v ≡ t
      go true h = ap state_in (settled.stays h) ∙ sym read ∙ sym (own s p) ∙ ap (λ (m : Memory). m.state) (sym (kept_store a (before s p) (after t q) kept (sym tested ∙ h))) ∙ own' t q
      go false h = settled.moved h

  pub waiting_left : (own : (i : State) (j : WishState) → (before i j).wishes ≡ j) (own' : (i : State) (j : WishState) → (after i j).wishes ≡ j) (b : Bool) (z : List ℕ)
      → b ≡ waiting_kept a → WaitingSettled u q b z → waiting_in z ≡ q
  waiting_left own own' b z tested settled = go b refl
    where
      go : (i : Bool) → b ≡ i → waiting_in z ≡ q
      go true h = ap waiting_in (settled.stays h) ∙ sym waits ∙ sym (own s p) ∙ sym (kept_waiting a (before s p) (after t q) kept (sym tested ∙ h)).0 ∙ own' t q
      go false h = settled.moved h

  -- the cells of a turn hold what its answer has
  pub turn_cells : (e : Option Served) (o o' i i' : ℕ) → a ≡ turn_answer e → o' ≡ keyboard_cell e o → i' ≡ served_cell e i → TurnCells x (before (state_in w) (waiting_in u)) o o' i i'
  turn_cells e o o' i i' says keyboard voice = record { value = e; answer = sym said ∙ says; keyboard = keyboard; voice = voice }

-- ---- an answer that is a refusal, or none, keeps every word
pub turn_kept : (a : Option Served) (b : Bool) → is_some a ≡ not b → b ≡ waiting_kept (turn_answer a)
turn_kept None true h = refl
turn_kept None false h = h
turn_kept (Some x) false h = refl
turn_kept (Some x) true h = h

pub made_keeps : (a : Result (Unit {0}) MakeRefusal) (x : Console) → is_err a ≡ made_kept (made_of a x)
made_keeps (Ok tt) x = refl
made_keeps (Err (Store r)) x = refl
made_keeps (Err (Keyboards r)) x = refl

pub made_told : (a : Result (Unit {0}) MakeRefusal) (x : Console) → number_by made_number a ≡ made_code (made_of a x)
made_told (Ok tt) x = refl
made_told (Err (Store r)) x = refl
made_told (Err (Keyboards r)) x = refl

-- ---- making: o is what it comes to, a its answer
is_made : (a : Result (Unit {0}) MakeRefusal) (x : Console) → made_kept (made_of a x) ≡ false → made_of a x ≡ made x
is_made (Ok tt) x h = refl
is_made (Err (Store r)) x h = no (sym h)
is_made (Err (Keyboards r)) x h = no (sym h)

-- any tables
bare : State → Memory
bare s = record { state = s; nodes = []; edges = []; order = []; voices = []; events = []; steals = [] }

pub makes : (o : ConsoleMade) (a : Result (Unit {0}) MakeRefusal) (s : State) (p : WishState) (w u v z : List ℕ) (kept : Bool) (k r : ℕ)
    → ((m : Memory) (c : List ℕ) → made_of a (console_of (memory (lent_state s m) p c)) ≡ o)
    → ((x : Console) → kept ≡ made_kept (made_of a x))
    → ((x : Console) → k ≡ made_code (made_of a x))
    → WaitingSettled u p kept z
    → Settled w s kept k r v
    → MakesConsole o w u r v z
makes o a s p w u v z kept k r is tested coded waits settled =
    let x = console_of (memory (lent_state s (bare s)) p []) in
    let back : kept ≡ made_kept o = tested x ∙ ap made_kept (is (bare s) []) in
    record {
      answer = settled.told ∙ coded x ∙ ap made_code (is (bare s) []);
      console = λ h m c.
          sym (is m c) ∙ is_made a (console_of (memory (lent_state s m) p c)) (ap made_kept (is m c) ∙ h)
          ∙ ap (λ i. made (console_of (memory (lent_state i m) p c))) (sym (settled.moved (back ∙ h))) ∙ ap (λ i. made (console_of (memory (lent_state (state_in v) m) i c))) (sym (waits.moved (back ∙ h)));
      same = λ h. (settled.stays (back ∙ h), waits.stays (back ∙ h));
    }
