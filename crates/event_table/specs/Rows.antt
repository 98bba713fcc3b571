-- An event in 15 words, and the events that a list of words is. Any words stand for some event.
use Rattle.std.specs.Prelude.{ℕ, ◌+◌, ◌≡◌, cond, List, eqb, length, get_or}
use Rattle.node.specs.declared.order.EventAction.{EventAction}
use Rattle.node.specs.declared.order.EventAction.TheVariants as action
use Rattle.scheduler.specs.declared.event.Event.{Event}
use Rattle.words.specs.Rows.{rows}
use Rattle.words.specs.Fields.{float_from, glide_from, long_at, name_at}

-- an action in six words: which, the target or value, the seconds, the shape and its exponent, the space
abbrev pub action_from : ℕ → ℕ → ℕ → ℕ → ℕ → ℕ → EventAction
action_from which x s sh e sp =
    cond (eqb which 1) (action.Value (float_from x))
    (cond (eqb which 2) (action.Glide (glide_from x s sh e sp))
    (cond (eqb which 3) (action.Gate (float_from x)) action.Free))

abbrev pub action_at : List ℕ → ℕ → EventAction
action_at ws k = action_from (get_or ws k 0) (get_or ws (k + 1) 0) (get_or ws (k + 2) 0) (get_or ws (k + 3) 0) (get_or ws (k + 4) 0) (get_or ws (k + 5) 0)

-- time, voice, name, action
unfoldable pub event_of : List ℕ → Event
event_of ws = record { time = long_at ws 0; voice = record { 0 = long_at ws 2 }; name = name_at ws 4; action = action_at ws 9 }

-- the events that the words have room for
abbrev pub events_in : List ℕ → List Event
events_in c = rows 15 event_of c

-- words that stand for an event
pub record Stands (e : Event) (ws : List ℕ) : Type 0 where
  pub long : length ws ≡ 15
  pub back : event_of ws ≡ e
