-- What is asked of a board: marked by its seal, call by call; and what was let through are the calls that its console makes of the store.
use mathlib.Core.Path.{◌≡◌, refl, ap, ◌∙◌, subst}
use mathlib.Core.Logic.{inl, inr}
use mathlib.Core.List.{List, [], ◌∷◌, ◌++◌, map}
use Rattle.std.specs.Prelude.{Option, None, Some}
use mathlib.Core.Bool.{Bool, true, false, not, cond}
use Rattle.lists.specs.Member.{In}
use Rattle.model.specs.Model.{Model}
use Rattle.model.specs.Call.{Call}
use Rattle.console.specs.Wishes.{Picked, picked}
use Rattle.console.specs.Console.{Console, ConsoleCall, console_step, spawn_by, calls_of, store_calls}
use Rattle.console.specs.Console as console
use Rattle.console.proofs.Plain.{store_run}
use Rattle.sealed.specs.declared.profile.Profile.{Profile}
use Rattle.sealed.specs.declared.refusal.SealRefusal.TheVariants.{NotAccepted, Closed}
use Rattle.sealed.specs.Seal.{Seal, shuts}
use Rattle.sealed.specs.Board.{Board, BoardCall, on, seal, BoardAnswer, given, sealed, refused, closed, sealable, refuses, passes, board_step, console_calls}
use Rattle.sealed.specs.Board as board
use Rattle.sealed.proofs.Boards.{History, history_step, turn_open}
use Rattle.board_isolation.specs.Agree.{Asked, sealing, passed, shut, marked, asked}

-- ---- by the seal x, until a sealing is answered that it is sealed
abbrev pub seal_after : BoardAnswer → Profile → Seal → Seal
seal_after sealed s x = Some s
seal_after (refused r) s x = x
seal_after (given a) s x = x

abbrev pub Marked : Seal → List Asked → Type 0
Marked x [] = Unit {0}
Marked x (sealing s a ∷ l) = Marked (seal_after a s x) l
Marked x (passed c ∷ l) = (closed x (console.on c) ≡ false) × Marked x l
Marked x (shut c ∷ l) = (closed x (console.on c) ≡ true) × Marked x l

mark_all : (x : Seal) (t : Bool) (cs : List Call) (l : List Asked) → ((c : Call) → In c cs → closed x (console.on c) ≡ t) → Marked x l → Marked x (map (marked t) cs ++ l)
mark_all x t [] l h m = m
mark_all x true (c ∷ cs) l h m = (h c (inl refl), mark_all x true cs l (λ d i. h d (inr i)) m)
mark_all x false (c ∷ cs) l h m = (h c (inl refl), mark_all x false cs l (λ d i. h d (inr i)) m)

-- the store's call that a call of the console counts as is closed where this one is: a turn never is, and what it serves never either
counted : (m : Model) (x : Seal) (c : ConsoleCall) (k : Console) → History m x k → (d : Call) → In d (calls_of c k.wishes) → closed x (console.on d) ≡ closed x c
counted m x (console.on c) k h d (inl e) = ap (λ z. closed x (console.on z)) e
counted m x (console.on c) k h d (inr i) = absurd i
counted m x (console.wish q w) k h d i = absurd i
counted m None console.turn k h d i = refl
counted m (Some s) console.turn k h d i = go (picked k.wishes) refl i
  where
    go : (o : Option Picked) → picked k.wishes ≡ o → In d (spawn_by o) → shuts s d ≡ false
    go None e i = absurd i
    go (Some p) e (inl f) = let z = turn_open s k.wishes h.1 p e in ap (shuts s) (f ∙ z.0) ∙ ap not z.1
    go (Some p) e (inr i) = absurd i

-- only sealing changes the seal, and it changes nothing else
on_seal : (c : ConsoleCall) (b : Board) → (board_step (on c) b).board.seal ≡ b.seal
on_seal c b = go (closed b.seal c)
  where
    go : (t : Bool) → (cond t (refuses Closed b) (passes (console_step c b.console) b.seal)).board.seal ≡ b.seal
    go true = refl
    go false = refl

record Sealing (s : Profile) (b : Board) (r : board.BoardStep) : Type 0 where
  pub seal : r.board.seal ≡ seal_after r.answer s b.seal
  pub console : r.board.console ≡ b.console

sealing_is : (s : Profile) (b : Board) → Sealing s b (board_step (seal s) b)
sealing_is s b = go b.seal
  where
    at : (t : Bool) → Sealing s b (cond t (record { answer = sealed; board = record { console = b.console; seal = Some s } }) (refuses NotAccepted b))
    at true = record { seal = refl; console = refl }
    at false = record { seal = refl; console = refl }

    go : (x : Seal) → Sealing s b (board.sealing x s b)
    go None = at (sealable s b.console)
    go (Some t) = record { seal = refl; console = refl }

pub asked_marked : (m : Model) (xs : List BoardCall) (b : Board) → History m b.seal b.console → Marked b.seal (asked xs b)
asked_marked m [] b h = tt
asked_marked m (on c ∷ xs) b h =
    mark_all b.seal (closed b.seal c) (calls_of c b.console.wishes) _ (counted m b.seal c b.console h)
    (subst (λ x. Marked x (asked xs (board_step (on c) b).board)) (on_seal c b) (asked_marked m xs (board_step (on c) b).board (history_step m (on c) b h)))
asked_marked m (seal s ∷ xs) b h =
    subst (λ x. Marked x (asked xs (board_step (seal s) b).board)) (sealing_is s b).seal (asked_marked m xs (board_step (seal s) b).board (history_step m (seal s) b h))

-- ---- what was let through
abbrev pub passed_of : List Asked → List Call
passed_of [] = []
passed_of (sealing s a ∷ l) = passed_of l
passed_of (passed c ∷ l) = c ∷ passed_of l
passed_of (shut c ∷ l) = passed_of l

passed_shut : (cs : List Call) (l : List Asked) → passed_of (map (marked true) cs ++ l) ≡ passed_of l
passed_shut [] l = refl
passed_shut (c ∷ cs) l = passed_shut cs l

passed_open : (cs : List Call) (l : List Asked) → passed_of (map (marked false) cs ++ l) ≡ cs ++ passed_of l
passed_open [] l = refl
passed_open (c ∷ cs) l = ap (λ z. c ∷ z) (passed_open cs l)

pub passed_calls : (xs : List BoardCall) (b : Board) → passed_of (asked xs b) ≡ store_calls (console_calls xs b) b.console.wishes
passed_calls [] b = refl
passed_calls (on c ∷ xs) b = go (closed b.seal c) (passed_calls xs)
  where
    go : (t : Bool) → ((d : Board) → passed_of (asked xs d) ≡ store_calls (console_calls xs d) d.console.wishes)
        → let r = cond t (refuses Closed b) (passes (console_step c b.console) b.seal) in
        passed_of (map (marked t) (calls_of c b.console.wishes) ++ asked xs r.board) ≡ store_calls (cond t [] (c ∷ []) ++ console_calls xs r.board) b.console.wishes
    go true ih = passed_shut (calls_of c b.console.wishes) _ ∙ ih b
    go false ih =
        let d : Board = record { console = (console_step c b.console).console; seal = b.seal } in
        passed_open (calls_of c b.console.wishes) (asked xs d)
        ∙ ap (λ l. calls_of c b.console.wishes ++ l) (ih d ∙ ap (store_calls (console_calls xs d)) (store_run (c ∷ []) b.console).wishes)
passed_calls (seal s ∷ xs) b =
    passed_calls xs (board_step (seal s) b).board ∙ ap (λ (k : Console). store_calls (console_calls xs (board_step (seal s) b).board) k.wishes) (sealing_is s b).console
