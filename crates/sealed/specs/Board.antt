-- A board: a console and its seal (SPEC 18). Its calls are the console's own, and sealing.
use Rattle.std.specs.Prelude.{List, [], ◌∷◌, ◌++◌, Bool, true, false, not, cond, ◌&&◌, None, Some}
use Rattle.store.specs.declared.wish.Wish.{Wish}
use Rattle.model.specs.Wish.{spawn_in}
use Rattle.console.specs.Console.{Console, ConsoleCall, ConsoleAnswer, ConsoleStep, console_step}
use Rattle.console.specs.Console as console
use Rattle.sealed.specs.declared.profile.Profile.{Profile}
use Rattle.sealed.specs.declared.refusal.SealRefusal.{SealRefusal}
use Rattle.sealed.specs.declared.refusal.SealRefusal.TheVariants.{NotAccepted, Closed}
use Rattle.sealed.specs.Seal.{Seal, accepts, within, shuts}

pub record Board : Type 0 where
  pub console : Console
  pub seal : Seal

pub data BoardCall : Type 0 where
  on : ConsoleCall → BoardCall
  seal : Profile → BoardCall

pub data BoardAnswer : Type 0 where
  given : ConsoleAnswer → BoardAnswer
  sealed : BoardAnswer
  refused : SealRefusal → BoardAnswer

pub record BoardStep : Type 0 where
  pub answer : BoardAnswer
  pub board : Board

-- ---- 28. A wish is open if its spawn is: managed, on that bus, within D and E
abbrev pub open_wish : Profile → Wish → Bool
open_wish s w = w.managed && within s (spawn_in w)

abbrev pub closes : Profile → ConsoleCall → Bool
closes s (console.on c) = shuts s c
closes s (console.wish q w) = not (open_wish s w)
closes s console.turn = false

abbrev pub closed : Seal → ConsoleCall → Bool
closed None c = false
closed (Some s) c = closes s c

-- ---- 27. No wish may wait
abbrev pub none_at : List Wish → Bool
none_at [] = true
none_at (w ∷ l) = false

abbrev pub none_waits : List (List Wish) → Bool
none_waits [] = true
none_waits (l ∷ ls) = none_at l && none_waits ls

abbrev pub sealable : Profile → Console → Bool
sealable s k = accepts s k.model.shared k.model.voices && none_waits k.wishes.waits

-- ---- the calls
abbrev pub refuses : SealRefusal → Board → BoardStep
refuses r b = record { answer = refused r; board = b }

abbrev pub passes : ConsoleStep → Seal → BoardStep
passes t x = record { answer = given t.answer; board = record { console = t.console; seal = x } }

-- sealing changes nothing but the seal; on a sealed board it is closed
abbrev pub sealing : Seal → Profile → Board → BoardStep
sealing None s b = cond (sealable s b.console) (record { answer = sealed; board = record { console = b.console; seal = Some s } }) (refuses NotAccepted b)
sealing (Some t) s b = refuses Closed b

abbrev pub board_step : BoardCall → Board → BoardStep
board_step (on c) b = cond (closed b.seal c) (refuses Closed b) (passes (console_step c b.console) b.seal)
board_step (seal s) b = sealing b.seal s b

pub record BoardRan : Type 0 where
  pub answers : List BoardAnswer
  pub board : Board

abbrev pub board_run : List BoardCall → Board → BoardRan
board_run [] b = record { answers = []; board = b }
board_run (x ∷ xs) b =
    let s = board_step x b in
    let r = board_run xs s.board in
    record { answers = s.answer ∷ r.answers; board = r.board }

abbrev pub new_board : Console → Board
new_board k = record { console = k; seal = None }

-- ---- the console's calls that a list makes: those that the seal lets through
abbrev pub through : BoardCall → Board → List ConsoleCall
through (on c) b = cond (closed b.seal c) [] (c ∷ [])
through (seal s) b = []

abbrev pub console_calls : List BoardCall → Board → List ConsoleCall
console_calls [] b = []
console_calls (x ∷ xs) b = through x b ++ console_calls xs (board_step x b).board

-- the console's answers among those of a run
abbrev pub console_answer : BoardAnswer → List ConsoleAnswer → List ConsoleAnswer
console_answer (given a) l = a ∷ l
console_answer sealed l = l
console_answer (refused r) l = l

abbrev pub console_answers : List BoardAnswer → List ConsoleAnswer
console_answers [] = []
console_answers (a ∷ l) = console_answer a (console_answers l)
