-- From what the console's calls promise to what their exports promise.
use Prim.Native.Nat.{ℕ}
use mathlib.Core.Path.{◌≡◌, refl, sym, ap, ◌∙◌}
use mathlib.Core.List.{List}
use mathlib.Core.Bool.{Bool}
use Rattle.console.specs.Wishes.{Picked, picked}
use Rattle.console.specs.Console.{turn}
use Rattle.memory.specs.View.{Memory}
use Rattle.memory.specs.declared.state.State.{State}
use Rattle.call_console.specs.declared.queues.WishState.{WishState}
use Rattle.std.specs.Prelude.{Option, None, Some}
use Rattle.std.specs.Option.{unwrap_or}
use Rattle.call_console.specs.declared.turning.Served.{Served}
use Rattle.call_console.specs.Queues.{wishes_of, picked_at, WaitsAt}
use Rattle.call_console.specs.Called.{ConsoleMemory, Called, Kept, turn_answer}
use Rattle.call_console.proofs.Rings.{oldest_is}
use Rattle.state_words.specs.State.{state_in, some_flag}
use Rattle.wish_state_words.specs.Waiting.{waiting_in}
use Rattle.c_answer.specs.Exported.{Settled}
use Rattle.c_answer.specs.Console.{console_code, store_kept, waiting_kept, ConsoleExported, keyboard_cell, served_cell, TurnCells, WaitingSettled}
use Rattle.c_answer.proofs.Consoles.{exports, state_left, waiting_left, turn_cells}
use Rattle.piecrag_c_console.specs.Next.{picked_cell}

-- a turn whose two states are settled and whose cells are written, whatever stands in the tables that it is not lent
pub turned : (before after : Memory → State → WishState → ConsoleMemory) (w u : List ℕ) (s t : State) (p q : WishState) (e : Option Served) (read : s ≡ state_in w) (waits : p ≡ waiting_in u)
    (called : (m : Memory) → Called turn (before m s p) (turn_answer e) (after m t q)) (kept : (m : Memory) → Kept (turn_answer e) (before m s p) (after m t q))
    (own : (m : Memory) (i : State) (j : WishState) → ((before m i j).store.state ≡ i) × ((before m i j).wishes ≡ j))
    (own' : (m : Memory) (i : State) (j : WishState) → ((after m i j).store.state ≡ i) × ((after m i j).wishes ≡ j))
    (b d : Bool) (k r : ℕ) (v z : List ℕ) (o o' i i' : ℕ)
    → b ≡ store_kept (turn_answer e)
    → d ≡ waiting_kept (turn_answer e)
    → k ≡ console_code (turn_answer e)
    → WaitingSettled u q d z
    → Settled w t b k r v
    → o' ≡ keyboard_cell e o
    → i' ≡ served_cell e i
    → ((m : Memory) → ConsoleExported turn (before m (state_in w) (waiting_in u)) w u r (after m (state_in v) (waiting_in z)) v z)
    × ((m : Memory) → TurnCells turn (before m (state_in w) (waiting_in u)) o o' i i')
turned before after w u s t p q e read waits called kept own own' b d k r v z o o' i i' stores awaits coded rests settled keyboard voice = (
  λ m.
      exports turn turn (before m) (after m) w u s t p q (turn_answer e) refl read waits (called m) (kept m) v z r (settled.told ∙ coded)
      (state_left turn turn (before m) (after m) w u s t p q (turn_answer e) refl read waits (called m) (kept m) (λ x y. (own m x y).0) (λ x y. (own' m x y).0) b k r v stores settled)
      (waiting_left turn turn (before m) (after m) w u s t p q (turn_answer e) refl read waits (called m) (kept m) (λ x y. (own m x y).1) (λ x y. (own' m x y).1) d z awaits rests)
      (λ h. settled.stays (stores ∙ h)) (λ h. rests.stays (awaits ∙ h)),
  λ m. turn_cells turn turn (before m) (after m) w u s t p q (turn_answer e) refl read waits (called m) (kept m) e o o' i i' refl keyboard voice,
)

-- the keyboard that the search found is the one that the next turn serves
pub next_is : (s : WishState) (c : List ℕ) (k : Option ℕ) (o : ℕ) → picked (wishes_of s c) ≡ picked_at k (wishes_of s c) → WaitsAt s k
    → (some_flag k ≡ some_flag (picked (wishes_of s c))) × (unwrap_or k o ≡ picked_cell (picked (wishes_of s c)) o)
next_is s c None o e h = (sym (ap (some_flag {A = Picked}) e), sym (ap (λ x. picked_cell x o) e))
next_is s c (Some q) o e h =
    let f = e ∙ oldest_is s c q (h q refl) in
    (sym (ap (some_flag {A = Picked}) f), sym (ap (λ x. picked_cell x o) f))
