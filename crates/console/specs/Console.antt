-- The console: a store and the wishes that wait for it (SPEC 17). Its calls are the store's own, a wish, and a turn.
use Rattle.std.specs.Prelude.{ℕ, suc, List, [], ◌∷◌, ◌++◌, cond, eqb, Option, None, Some}
use Rattle.node.specs.declared.refusal.Refusal.{Refusal}
use Rattle.model.specs.Model.{Model}
use Rattle.model.specs.Make.{Making, config_of, refusal_of, new_model}
use Rattle.model.specs.Call.{Call, Answer, step}
use Rattle.store.specs.declared.wish.Wish.{Wish}
use Rattle.model.specs.Wish.{call_of}
use Rattle.console.specs.declared.refusal.KeyboardRefusal.{KeyboardRefusal}
use Rattle.console.specs.Wishes.{Wishes, wish_refusal, added, Picked, picked, taken_from, keyboards_refusal, new_wishes}

pub record Console : Type 0 where
  pub model : Model
  pub wishes : Wishes

pub data ConsoleCall : Type 0 where
  -- a call of the store
  on : Call → ConsoleCall
  -- a keyboard's wish
  wish : ℕ → Wish → ConsoleCall
  turn : ConsoleCall

pub data ConsoleAnswer : Type 0 where
  plain : Answer → ConsoleAnswer
  accepted : ConsoleAnswer
  refused : KeyboardRefusal → ConsoleAnswer
  -- of a turn: the keyboard, and what the spawn answered
  served : ℕ → Answer → ConsoleAnswer
  -- of a turn for which no wish waited
  empty : ConsoleAnswer

pub record ConsoleStep : Type 0 where
  pub answer : ConsoleAnswer
  pub console : Console

-- a call of the store leaves the wishes
abbrev pub asked : Call → Console → ConsoleStep
asked c k =
    let s = step c k.model in
    record { answer = plain s.answer; console = record { model = s.model; wishes = k.wishes } }

abbrev pub wished : Option KeyboardRefusal → ℕ → Wish → Console → ConsoleStep
wished None q w k = record { answer = accepted; console = record { model = k.model; wishes = added q w k.wishes } }
wished (Some r) q w k = record { answer = refused r; console = k }

-- a wish whose spawn is refused is served too; an empty turn changes nothing
abbrev pub turned : Option Picked → Console → ConsoleStep
turned None k = record { answer = empty; console = k }
turned (Some p) k =
    let s = step (call_of p.wish) k.model in
    record { answer = served p.keyboard s.answer; console = record { model = s.model; wishes = taken_from p.keyboard k.wishes } }

abbrev pub console_step : ConsoleCall → Console → ConsoleStep
console_step (on c) k = asked c k
console_step (wish q w) k = wished (wish_refusal k.wishes q) q w k
console_step turn k = turned (picked k.wishes) k

pub record ConsoleRan : Type 0 where
  pub answers : List ConsoleAnswer
  pub console : Console

abbrev pub console_run : List ConsoleCall → Console → ConsoleRan
console_run [] k = record { answers = []; console = k }
console_run (x ∷ xs) k =
    let s = console_step x k in
    let r = console_run xs s.console in
    record { answers = s.answer ∷ r.answers; console = r.console }

-- ---- making (SPEC 3): the store's refusals first, then 24
pub data ConsoleMade : Type 0 where
  made : Console → ConsoleMade
  refused_by : Refusal → ConsoleMade
  refused_for : KeyboardRefusal → ConsoleMade

abbrev pub with_keyboards : Option KeyboardRefusal → Console → ConsoleMade
with_keyboards None k = made k
with_keyboards (Some r) k = refused_for r

abbrev pub made_unless : Option Refusal → ConsoleMade → ConsoleMade
made_unless None o = o
made_unless (Some r) o = refused_by r

abbrev pub make_console : Making → ℕ → ConsoleMade
make_console k n = made_unless (refusal_of k) (with_keyboards (keyboards_refusal n) (record { model = new_model (config_of k); wishes = new_wishes n }))

-- ---- what a list of calls says of the wishes, whatever the store is: nothing here looks at a model
abbrev pub added_unless : Option KeyboardRefusal → ℕ → Wish → Wishes → Wishes
added_unless None q w ws = added q w ws
added_unless (Some r) q w ws = ws

abbrev pub taken_by : Option Picked → Wishes → Wishes
taken_by None ws = ws
taken_by (Some p) ws = taken_from p.keyboard ws

abbrev pub wishes_after : ConsoleCall → Wishes → Wishes
wishes_after (on c) ws = ws
wishes_after (wish q w) ws = added_unless (wish_refusal ws q) q w ws
wishes_after turn ws = taken_by (picked ws) ws

abbrev pub wishes_run : List ConsoleCall → Wishes → Wishes
wishes_run [] ws = ws
wishes_run (x ∷ xs) ws = wishes_run xs (wishes_after x ws)

-- the store's calls that a list makes: of a turn the spawn that it serves, of a wish none
abbrev pub spawn_by : Option Picked → List Call
spawn_by None = []
spawn_by (Some p) = call_of p.wish ∷ []

abbrev pub calls_of : ConsoleCall → Wishes → List Call
calls_of (on c) ws = c ∷ []
calls_of (wish q w) ws = []
calls_of turn ws = spawn_by (picked ws)

abbrev pub store_calls : List ConsoleCall → Wishes → List Call
store_calls [] ws = []
store_calls (x ∷ xs) ws = calls_of x ws ++ store_calls xs (wishes_after x ws)

-- the wishes of keyboard q that turns serve, and those that are accepted
abbrev pub served_by : ℕ → Option Picked → List Wish
served_by q None = []
served_by q (Some p) = cond (eqb q p.keyboard) (p.wish ∷ []) []

abbrev pub served_in : ℕ → ConsoleCall → Wishes → List Wish
served_in q (on c) ws = []
served_in q (wish p w) ws = []
served_in q turn ws = served_by q (picked ws)

abbrev pub accepted_unless : ℕ → Option KeyboardRefusal → ℕ → Wish → List Wish
accepted_unless q None p w = cond (eqb q p) (w ∷ []) []
accepted_unless q (Some r) p w = []

abbrev pub accepted_in : ℕ → ConsoleCall → Wishes → List Wish
accepted_in q (on c) ws = []
accepted_in q (wish p w) ws = accepted_unless q (wish_refusal ws p) p w
accepted_in q turn ws = []

abbrev pub served_of : ℕ → List ConsoleCall → Wishes → List Wish
served_of q [] ws = []
served_of q (x ∷ xs) ws = served_in q x ws ++ served_of q xs (wishes_after x ws)

abbrev pub accepted_of : ℕ → List ConsoleCall → Wishes → List Wish
accepted_of q [] ws = []
accepted_of q (x ∷ xs) ws = accepted_in q x ws ++ accepted_of q xs (wishes_after x ws)

-- how many turns a list has
abbrev pub turns : List ConsoleCall → ℕ
turns [] = 0
turns (turn ∷ xs) = suc (turns xs)
turns (on c ∷ xs) = turns xs
turns (wish q w ∷ xs) = turns xs

-- ---- what the answers say of a run: the store's answers among them, and how many turns served keyboard q
abbrev pub store_answer : ConsoleAnswer → List Answer → List Answer
store_answer (plain a) l = a ∷ l
store_answer accepted l = l
store_answer (refused r) l = l
store_answer (served q a) l = a ∷ l
store_answer empty l = l

abbrev pub store_answers : List ConsoleAnswer → List Answer
store_answers [] = []
store_answers (r ∷ rs) = store_answer r (store_answers rs)

abbrev pub serves_one : ℕ → ConsoleAnswer → ℕ
serves_one q (plain a) = 0
serves_one q accepted = 0
serves_one q (refused r) = 0
serves_one q (served p a) = cond (eqb q p) 1 0
serves_one q empty = 0
