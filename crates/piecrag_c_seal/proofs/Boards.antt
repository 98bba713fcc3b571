-- From what a call of a board promises to what its export promises: one law for what it leaves, one for its cell, whichever words it may
-- write.
use Prim.Native.Nat.{ℕ}
use mathlib.Core.Path.{◌≡◌, refl, sym, ap, ◌∙◌}
use mathlib.Core.List.{List}
use mathlib.Core.Bool.{Bool, true, false}
use Rattle.model.specs.Call.{Call, Answer}
use Rattle.model.specs.Numbers.{number_in}
use Rattle.memory.specs.View.{Memory}
use Rattle.memory.specs.declared.state.State.{State}
use Rattle.console.specs.Console.{plain, accepted, served, empty}
use Rattle.console.specs.Console as console
use Rattle.call_console.specs.declared.queues.WishState.{WishState}
use Rattle.std.specs.Prelude.{Result, Ok, Err}
use Rattle.std.specs.Result.{is_err}
use Rattle.node.specs.declared.record.NodeId.{NodeId}
use Rattle.node.specs.declared.refusal.Refusal.{Refusal}
use Rattle.memory.specs.Called.{keeps, add_answered}
use Rattle.console.specs.declared.refusal.KeyboardRefusal.{KeyboardRefusal}
use Rattle.sealed.specs.declared.refusal.SealRefusal.{SealRefusal}
use Rattle.call_seal.specs.declared.closing.BoardRefusal.{BoardRefusal}
use Rattle.sealed.specs.Seal.{Seal}
use Rattle.sealed.specs.Board.{BoardCall, BoardAnswer, given, sealed, refused, BoardStep, board_step}
use Rattle.call_seal.specs.Board.{BoardMemory, board, board_of, on_store, BoardCalled, BoardKept, told_by, seal_answer, wished_answer}
use Rattle.state_words.specs.State.{state_in}
use Rattle.seal_words.specs.Seal.{seal_in}
use Rattle.console.specs.Refusal as keyboard
use Rattle.sealed.specs.Refusal as seal
use Rattle.c_answer.specs.Refused.{board_number, number_by}
use Rattle.c_answer.specs.Exported.{result_code, result_kept, code, Settled}
use Rattle.c_answer.proofs.Exporting.{no}
use Rattle.piecrag_c_seal.specs.Board.{board_code, board_keeps, store_code, store_kept, said_on, BoardExported, BoardTells}

same_board : (m n : BoardMemory) → n.console.store ≡ m.console.store → n.console.wishes ≡ m.console.wishes → n.console.words ≡ m.console.words → n.seal ≡ m.seal → n ≡ m
same_board m n a b c d =
    ap (λ (i : Memory). board i n.console.wishes n.console.words n.seal) a ∙ ap (λ (i : WishState). board m.console.store i n.console.words n.seal) b
    ∙ ap (λ i. board m.console.store m.console.wishes i n.seal) c ∙ ap (λ (i : Seal). board m.console.store m.console.wishes m.console.words i) d

same_console : (m n : BoardMemory) → n.console ≡ m.console → n.seal ≡ m.seal → n ≡ m
same_console m n a b = ap (λ i. record { console = i; seal = n.seal }) a ∙ ap (λ i. record { console = m.console; seal = i }) b

-- a call that keeps every word keeps the board
kept_board : (a : BoardAnswer) (m n : BoardMemory) → BoardKept a m n → board_keeps a ≡ true → n ≡ m
kept_board (given (plain a)) m n k h = same_board m n (k.1.2 h) k.1.0 k.1.1 k.0
kept_board (given accepted) m n k h = no h
kept_board (given (console.refused r)) m n k h = same_console m n k.1 k.0
kept_board (given (served q a)) m n k h = no h
kept_board (given empty) m n k h = same_console m n k.1 k.0
kept_board sealed m n k h = no h
kept_board (refused r) m n k h = k

-- ---- what an answer is, by what stands in it: its number, and whether the call keeps every word
-- of a call of the store, by what `say` makes of its answer
told_code : {A : Type 0} (say : Result A Refusal → Answer) → ((a : Result A Refusal) → result_code a ≡ code (say a)) → (a : Result A (BoardRefusal Refusal)) → store_code a ≡ board_code (told_by (λ b. plain (say b)) a)
told_code say is (Ok x) = is (Ok x)
told_code say is (Err BoardRefusal.Closed) = refl
told_code say is (Err (BoardRefusal.Given r)) = is (Err r)

told_kept : {A : Type 0} (say : Result A Refusal → Answer) → ((a : Result A Refusal) → result_kept a ≡ keeps (number_in (say a))) → (a : Result A (BoardRefusal Refusal)) → store_kept a ≡ board_keeps (told_by (λ b. plain (say b)) a)
told_kept say is (Ok x) = is (Ok x)
told_kept say is (Err BoardRefusal.Closed) = refl
told_kept say is (Err (BoardRefusal.Given r)) = is (Err r)

pub add_code : (a : Result NodeId Refusal) → result_code a ≡ code (add_answered a)
add_code (Ok k) = refl
add_code (Err r) = refl

pub add_kept : (a : Result NodeId Refusal) → result_kept a ≡ keeps (number_in (add_answered a))
add_kept (Ok k) = refl
add_kept (Err r) = refl

pub wish_kept : (a : Result (Unit {0}) (BoardRefusal KeyboardRefusal)) → is_err a ≡ board_keeps (wished_answer a)
wish_kept (Ok tt) = refl
wish_kept (Err BoardRefusal.Closed) = refl
wish_kept (Err (BoardRefusal.Given r)) = refl

pub wish_code : (a : Result (Unit {0}) (BoardRefusal KeyboardRefusal)) → number_by (board_number keyboard.number_of) a ≡ board_code (wished_answer a)
wish_code (Ok tt) = refl
wish_code (Err BoardRefusal.Closed) = refl
wish_code (Err (BoardRefusal.Given r)) = refl

pub seal_code : (a : Result (Unit {0}) SealRefusal) → number_by seal.number_of a ≡ board_code (seal_answer a)
seal_code (Ok tt) = refl
seal_code (Err r) = refl

pub seal_kept : (a : Result (Unit {0}) SealRefusal) → is_err a ≡ board_keeps (seal_answer a)
seal_kept (Ok tt) = refl
seal_kept (Err r) = refl

-- what a call only reads may be two parts
abbrev pub both : {A B : Type 0} → A → B → A × B
both a b = (a, b)

pub both_same : {A B : Type 0} (a a' : A) (b b' : B) → a ≡ a' → b ≡ b' → both a b ≡ both a' b'
both_same a a' b b' e f = ap (λ i. both i b) e ∙ ap (both a') f

-- The words w of an S may be written. `before e s` and `after e s` are the board with s there and e in what the call only reads, and the
-- lent tables as they stood before and after; y is the call with its arguments as the code has read them.
module _ {E S : Type 0} (decode : List ℕ → S) (x y : BoardCall) (before after : E → S → BoardMemory) (e f : E) (w : List ℕ) (s t : S) (a : BoardAnswer)
    (is : y ≡ x)
    (same : e ≡ f)
    (read : s ≡ decode w)
    (called : BoardCalled y (before e s) a (after e t))
    (kept : BoardKept a (before e s) (after e t)) where
  there : before e s ≡ before f (decode w)
  there = ap (λ i. before i s) same ∙ ap (before f) read

  said : a ≡ said_on x (before f (decode w))
  said = ap (λ (i : BoardStep). i.answer) called ∙ ap (λ i. said_on i (before e s)) is ∙ ap (said_on x) there

  pub tells : {A : Type 0} (say : A → BoardAnswer) (cell : A → Type 0) (i : A) → a ≡ say i → cell i → BoardTells say x (before f (decode w)) cell
  tells say cell i saying held = record { value = i; answer = sym said ∙ saying; held = held }

  pub exported : (part : BoardMemory → S) (own : (i : E) (j : S) → part (before i j) ≡ j) (own' : (i : E) (j : S) → part (after i j) ≡ j) (b : Bool) (k : ℕ) (v : List ℕ)
      → b ≡ board_keeps a
      → k ≡ board_code a
      → (b ≡ true → v ≡ w)
      → (b ≡ false → decode v ≡ t)
      → BoardExported x (before f (decode w)) w k (after f (decode v)) v
  exported part own own' b k v tested coded stays moved =
      let end : after f (decode v) ≡ after e t = ap (after f) (go b refl) ∙ ap (λ i. after i t) (sym same) in
      record {
        answer = coded ∙ ap board_code said;
        board = ap board_of end ∙ ap (λ (i : BoardStep). i.board) called ∙ ap (λ i. (board_step i (board_of (before e s))).board) is ∙ ap (λ i. (board_step x (board_of i)).board) there;
        same = λ h.
            let g = ap board_keeps said ∙ h in
            (stays (tested ∙ g), end ∙ kept_board a (before e s) (after e t) kept g ∙ there);
      }
    where
      go : (i : Bool) → b ≡ i → decode v ≡ t
      go true h = ap decode (stays h) ∙ sym read ∙ sym (own e s) ∙ ap part (sym (kept_board a (before e s) (after e t) kept (sym tested ∙ h))) ∙ own' e t
      go false h = moved h

-- A call of the store on a board, whose state is settled. `lent j` and `left j` are the store with the state j and the lent tables as they
-- stood before and after; `say` is what its answer says where no seal closes it.
pub settled : {A : Type 0} (say : Result A Refusal → Answer)
    → ((a : Result A Refusal) → result_code a ≡ code (say a))
    → ((a : Result A Refusal) → result_kept a ≡ keeps (number_in (say a)))
    → (c d : Call) (lent left : State → Memory) (own : (j : State) → (lent j).state ≡ j) (own' : (j : State) → (left j).state ≡ j)
    → (p : WishState) (l : List ℕ) (x : Seal) (z w : List ℕ) (s t : State) (a : Result A (BoardRefusal Refusal))
    → d ≡ c
    → x ≡ seal_in z
    → s ≡ state_in w
    → BoardCalled (on_store d) (board (lent s) p l x) (told_by (λ b. plain (say b)) a) (board (left t) p l x)
    → BoardKept (told_by (λ b. plain (say b)) a) (board (lent s) p l x) (board (left t) p l x)
    → (r : ℕ) (v : List ℕ)
    → Settled w t (store_kept a) (store_code a) r v
    → BoardExported (on_store c) (board (lent (state_in w)) p l (seal_in z)) w r (board (left (state_in v)) p l (seal_in z)) v
settled say code_is kept_is c d lent left own own' p l x z w s t a is same read called kept r v done =
    exported state_in (on_store c) (on_store d) (λ i j. board (lent j) p l i) (λ i j. board (left j) p l i) x (seal_in z) w s t (told_by (λ b. plain (say b)) a) (ap on_store is) same read called kept
    (λ (n : BoardMemory). n.console.store.state) (λ i j. own j) (λ i j. own' j) (store_kept a) r v (told_kept say kept_is a) (done.told ∙ told_code say code_is a) done.stays done.moved
