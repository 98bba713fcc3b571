-- Wishes with ranks and pans that are not 0, of a console and of a sealed board: SPEC 17 and 18.
use Rattle.std.specs.Prelude.{ℕ, ◌≡◌, List, [], ◌∷◌, map, Bool, true, false, Err, Ok}
use Rattle.node.specs.declared.refusal.Refusal.TheVariants.{Rejected}
use Rattle.voice.specs.declared.policy.StealPolicy.TheVariants.{Oldest}
use Rattle.voice.specs.declared.voices.Voice.{Voice}
use Rattle.store.specs.declared.wish.Wish.{Wish}
use Rattle.voice.specs.Voice.{id, is_tracked}
use Rattle.model.specs.Scene.{tone_def, up_to, float, voice, host}
use Rattle.model.specs.Make.{new_model}
use Rattle.model.specs.Call.{spawned}
use Rattle.model.specs.Call as call
use Rattle.console.specs.Wishes.{new_wishes}
use Rattle.console.specs.Console.{Console, ConsoleCall, on, wish, turn}
use Rattle.console.specs.Console.{plain, accepted, served, console_run}
use Rattle.sealed.specs.declared.profile.Profile.{Profile}
use Rattle.sealed.specs.Board.{Board, BoardCall, BoardAnswer, given, sealed, board_run, new_board}
use Rattle.sealed.specs.Board as board

-- what a wish left in the store: the rank of its voice, whether it is panned, and whether it is tracked
pub record Left : Type 0 where
  pub rank : ℕ
  pub panned : Bool
  pub tracked : Bool

abbrev pub left : Voice → Left
left v = record { rank = v.rank; panned = v.panned; tracked = is_tracked v.state }

abbrev pub wished : Bool → ℕ → ℕ → Wish
wished managed pan rank = record { managed = managed; def = tone_def; bus = id 0; pan = float pan; rank = rank }

abbrev pub kept : ℕ → Bool → Bool → Left
kept rank panned tracked = record { rank = rank; panned = panned; tracked = tracked }

-- a budget of one voice, one keyboard, a bus of 4 ports
abbrev pub console : Console
console = record { model = new_model (up_to 1 Oldest); wishes = new_wishes 1 }

-- Rank 3, panned; a managed wish of rank 2 does not displace it; one of rank 5 does, not panned; and an unmanaged one
-- of rank 7, panned. Refuses: rank 0 or pan 0 for what was asked; the other spawn.
abbrev pub at_console : List ConsoleCall
at_console =
    on (host 4) ∷ wish 0 (wished true 3 3) ∷ wish 0 (wished true 3 2) ∷ wish 0 (wished true 0 5) ∷ wish 0
    (wished false 7 7) ∷ turn ∷ turn ∷ turn
    ∷ turn ∷ []

abbrev pub ConsoleScene : Type 0
ConsoleScene =
    ((console_run at_console console).answers
    ≡ plain (call.node (id 0)) ∷ accepted ∷ accepted ∷ accepted ∷ accepted ∷ served 0 (spawned (Ok (voice 1))) ∷
    served 0 (spawned (Err Rejected))
    ∷ served 0 (spawned (Ok (voice 2))) ∷ served 0 (spawned (Ok (voice 3))) ∷ [])
    ×
    (map left (console_run at_console console).console.model.voices ≡ kept 3 true false ∷ kept 5 false true ∷ kept 7
    true false ∷ [])

-- The same on a board that is sealed for definitions of one node, but for the unmanaged wish, which the seal closes.
abbrev pub profile : Profile
profile = record { bus = id 0; ports = 4; host_nodes = 1; host_edges = 0; def_nodes = 1; def_edges = 0 }

abbrev pub asks : ℕ → ℕ → BoardCall
asks pan rank = board.on (wish 0 (wished true pan rank))

abbrev pub takes_turn : BoardCall
takes_turn = board.on turn

abbrev pub at_board : List BoardCall
at_board =
    board.on (on (host 4)) ∷ board.seal profile ∷ asks 3 3 ∷ asks 3 2 ∷ asks 0 5 ∷ takes_turn ∷ takes_turn ∷
    takes_turn ∷ []

abbrev pub BoardScene : Type 0
BoardScene =
    ((board_run at_board (new_board console)).answers
    ≡ given (plain (call.node (id 0))) ∷ sealed ∷ given accepted ∷ given accepted ∷ given accepted ∷ given
    (served 0 (spawned (Ok (voice 1))))
    ∷ given (served 0 (spawned (Err Rejected))) ∷ given (served 0 (spawned (Ok (voice 2)))) ∷ [])
    ×
    (map left (board_run at_board (new_board console)).board.console.model.voices ≡ kept 3 true false ∷ kept 5 false
    true ∷ [])
