-- Events by time.
use Rattle.std.specs.Prelude.{◌≤◌, List, [], ◌∷◌}
use Rattle.lists.specs.Member.{In}
use Rattle.scheduler.specs.declared.event.Event.{Event}

-- no event is later than one that follows it
abbrev pub Sorted : List Event → Type 0
Sorted [] = Unit {0}
Sorted (e ∷ l) = ((f : Event) → In f l → e.time ≤ f.time) × Sorted l
