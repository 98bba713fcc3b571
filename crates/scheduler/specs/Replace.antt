-- Which pending events a new one replaces (SPEC 8.3): those of the same time, voice, parameter and sort.
use Rattle.std.specs.Prelude.{List, Bool, true, false, ◌&&◌, ◌||◌, not, eqb, filter}
use Rattle.node.specs.Name.{same_name}
use Rattle.node.specs.declared.order.EventAction.{EventAction}
use Rattle.node.specs.declared.order.EventAction.TheVariants as action
use Rattle.scheduler.specs.Event.{param_of}
use Rattle.scheduler.specs.declared.event.Event.{Event}

-- a value, or a gate, which counts as one
abbrev pub is_value : EventAction → Bool
is_value (action.Value x) = true
is_value (action.Glide g) = false
is_value (action.Gate x) = true
is_value action.Free = false

abbrev pub is_glide : EventAction → Bool
is_glide (action.Value x) = false
is_glide (action.Glide g) = true
is_glide (action.Gate x) = false
is_glide action.Free = false

-- a free is of no sort: it replaces none, and none replaces it
abbrev pub same_sort : EventAction → EventAction → Bool
same_sort a b = (is_value a && is_value b) || (is_glide a && is_glide b)

-- The new event e takes the place of the pending event f. `same_name` is false of a name that is not 1 to 16 bytes; a gate's parameter is
-- `gate`, whatever bytes stand beside it.
abbrev pub replaces : Event → Event → Bool
replaces e f =
    eqb e.time f.time
    && (eqb e.voice.0 f.voice.0
    && (same_sort e.action f.action && same_name (param_of e.action e.name) (param_of f.action f.name)))

-- the pending events that the new one does not replace
abbrev pub thinned : Event → List Event → List Event
thinned e l = filter (λ f. not (replaces e f)) l
