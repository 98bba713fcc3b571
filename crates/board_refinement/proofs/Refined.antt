-- Every call's contract is the theory's step (SPEC 21.8), so that a run of calls on lent memory is the theory's run
-- (SPEC 21.6); the board of an accepted making of a console, not yet sealed, is the theory's new board.
use Prim.Native.Nat.{ℕ, min}
use mathlib.Core.Path.{◌≡◌, refl, ap, ap₂, ◌∙◌}
use mathlib.Core.List.{List, [], ◌∷◌}
use mathlib.Core.Bool.{false}
use lib.ListN.{get_or}
use Rattle.std.specs.Prelude.{None, Some}
use Rattle.voice_rows.specs.Rows.{each}
use Rattle.wish_rows.specs.Rows.{wishes_in}
use Rattle.model.specs.Model.{Model}
use Rattle.model.specs.Make.{Making, make}
use Rattle.memory.specs.View.{Memory}
use Rattle.memory.specs.Lent.{lent_state}
use Rattle.console.specs.Wishes.{new_wishes}
use Rattle.console.specs.Console.{Console, ConsoleCall, ConsoleRan, made, make_console}
use Rattle.console.specs.Begins.{Begins, with_keyboards, alone, without_keyboards}
use Rattle.console.proofs.Begins.{begun}
use Rattle.console_isolation.specs.Isolated.{calls_from}
use Rattle.call_console.specs.declared.queues.WishState.{WishState}
use Rattle.call_console.specs.Queues.{no_queue, queue_of, wishes_of}
use Rattle.call_make.proofs.make.Reads as fn-make
use Rattle.refinement.proofs.Refined.{made_new}
use Rattle.call_console.specs.Called.{memory}
use Rattle.call_console.proofs.making.make_console.Reads as fn-make-console
use Rattle.console_refinement.specs.Contract as on-console
use Rattle.console_refinement.proofs.Refined as on-console-proved
use Rattle.sealed.specs.Seal.{Seal}
use Rattle.sealed.specs.Board.{BoardCall, BoardAnswer, BoardStep, BoardRan, closed, board_run, new_board}
use Rattle.sealed.proofs.Boards.{board_claim}
use Rattle.board_isolation.specs.Isolated.{let_through}
use Rattle.board_isolation.proofs.Theorem.{board_isolated}
use Rattle.replaced.proofs.Theorem.{replaced_same}
use Rattle.call_seal.specs.Board.{BoardMemory, board, board_of, BoardCalled, BoardKept}
use Rattle.call_seal.proofs.Boards.{through}
use Rattle.board_refinement.specs.Forms.{Unclosed}
use Rattle.board_refinement.specs.Forms as form
use Rattle.board_refinement.specs.Contract.{Contract, Runs, ends, calls}
use Rattle.board_refinement.specs.Contract as contract
use Rattle.board_refinement.specs.Refines.{Refines}

never_closed : (x : Seal) (c : ConsoleCall) → Unclosed c → closed x c ≡ false
never_closed None c u = refl
never_closed (Some s) _ form.turn = refl
never_closed (Some s) _ (form.free w) = refl
never_closed (Some s) _ form.clear = refl
never_closed (Some s) _ (form.order w name o) = refl
never_closed (Some s) _ (form.schedule t w name a) = refl
never_closed (Some s) _ (form.report k channels samples flag) = refl
never_closed (Some s) _ form.prepare = refl
never_closed (Some s) _ (form.render out) = refl
never_closed (Some s) _ (form.ask q) = refl

pub called : {x : BoardCall} {m : BoardMemory} {a : BoardAnswer} {n : BoardMemory} → Contract x m a n → BoardCalled x m a n
called (contract.add_node κs a r s p m w words) = p.0 m w words
called (contract.remove_node κs a r s p m w words) = p.0 m w words
called (contract.connect κs a r s p m w words) = p.0 m w words
called (contract.disconnect κs a r s p m w words) = p.0 m w words
called (contract.set_sink κs a r s p m w words) = p.0 m w words
called (contract.spawn κs a r s p m w words) = p.0 m w words
called (contract.wish κs a r s p m) = p.0 m
called (contract.seal κs a r s p m words) = p.0 m words
called (contract.unclosed {c = c} {m = m} {n = n} {a = a} p h x) = through x c m n a (never_closed x c h) (on-console-proved.called p)

-- a closed call and a refused sealing leave the very memory, and so on
pub kept : {x : BoardCall} {m : BoardMemory} {a : BoardAnswer} {n : BoardMemory} → Contract x m a n → BoardKept a m n
kept (contract.add_node κs a r s p m w words) = p.1 m w words
kept (contract.remove_node κs a r s p m w words) = p.1 m w words
kept (contract.connect κs a r s p m w words) = p.1 m w words
kept (contract.disconnect κs a r s p m w words) = p.1 m w words
kept (contract.set_sink κs a r s p m w words) = p.1 m w words
kept (contract.spawn κs a r s p m w words) = p.1 m w words
kept (contract.wish κs a r s p m) = p.1 m
kept (contract.seal κs a r s p m words) = p.1 m words
kept (contract.unclosed p h x) = (refl, on-console-proved.kept p)

abbrev after : BoardAnswer → BoardRan → BoardRan
after a r = record { answers = a ∷ r.answers; board = r.board }

pub run_is : {m n : BoardMemory} {xs : List BoardCall} {said : List BoardAnswer} → Runs m xs said n → ◌≡◌ {A = BoardRan} (record { answers = said; board = board_of n }) (board_run xs (board_of m))
run_is ends = refl
run_is (calls {xs = xs} {a = a} e r) = ap (after a) (run_is r) ∙ ap (λ (s : BoardStep). after s.answer (board_run xs s.board)) (called e)

-- ---- the refinement
-- of a run on the new board of a new console
refined : (k : Making) (n : ℕ) (c : Console) → Begins k n c → (last : BoardMemory) (xs : List BoardCall) (said : List BoardAnswer)
    → ◌≡◌ {A = BoardRan} (record { answers = said; board = board_of last }) (board_run xs (new_board c)) → Refines k n c xs said last
refined k n c b last xs said ran =
    record {
      ran = ran;
      claimed = board_claim k n c b xs;
      replaced = replaced_same k c.model (begun k n c b).store (calls_from n (let_through xs c));
      isolated = λ per o d e ids b₁ b₂ ys. board_isolated k n o c d b e per ids b₁ b₂ xs ys;
    }

-- from the contract of `make`: a store alone, beside wishes of no keyboards
none_of : (w : WishState) (words : List ℕ) → w.keyboards ≡ 0 → w.next ≡ 0 → wishes_of w words ≡ new_wishes 0
none_of w words e f =
    ap (λ n. record { waits = each (λ q. queue_of (wishes_in words) q (get_or w.queues q no_queue)) 0 (min n 8); next = w.next }) e
    ∙ ap (λ n. record { waits = []; next = n }) f

pub refines_alone : (κs : _) (a : _) (r : _) (s : _) → fn-make.Post κs a r s
    → (m : Model) → make a.0 ≡ Some m
    → (tables : Memory) (w : WishState) → w.keyboards ≡ 0 → w.next ≡ 0
    → (words : List ℕ) (last : BoardMemory) (xs : List BoardCall) (said : List BoardAnswer) → Runs (board (lent_state r.state tables) w words None) xs said last
    → Refines a.0 0 (without_keyboards m) xs said last
refines_alone κs a r s p m accepted tables w e f words last xs said ran =
    let store = made_new a.0 m r.answer (lent_state r.state tables) (p.0 tables) accepted in
    refined a.0 0 (without_keyboards m) (alone m accepted) last xs said
    (run_is ran ∙ ap₂ (λ (n : Model) ws. board_run xs (new_board (record { model = n; wishes = ws }))) store (none_of w words e f))

-- from the contract of `make_console`
pub refines : (κs : _) (a : _) (r : _) (s : _) → fn-make-console.Post κs a r s
    → (c : Console) → make_console a.0 a.1.0 ≡ made c
    → (tables : Memory) (words : List ℕ) (last : BoardMemory) (xs : List BoardCall) (said : List BoardAnswer) → Runs (board (lent_state r.state tables) r.wishes words None) xs said last
    → Refines a.0 a.1.0 c xs said last
refines κs a r s p c accepted tables words last xs said ran =
    let k = a.0 in
    let n = a.1.0 in
    let new = (on-console-proved.refines κs a r s p c accepted tables words (memory (lent_state r.state tables) r.wishes words) [] [] on-console.ends).ran in
    refined k n c (with_keyboards n c accepted) last xs said (run_is ran ∙ ap (λ (t : ConsoleRan). board_run xs (new_board t.console)) new)
