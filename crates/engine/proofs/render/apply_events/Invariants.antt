use Rattle.std.proofs.Common.{◌≡◌, ◌++◌, take, drop}
use Rattle.lists.specs.Written.{written}
use Rattle.model.specs.SharedState.{SharedState}
use Rattle.model.specs.Render.{apply_events, outcomes}
use Rattle.engine.specs.Parts.{store_with}
use Rattle.engine.proofs.render.apply_events.Given as goal

abbrev pub invariant-loop-i : goal.invariant-loop-i
invariant-loop-i l =
    ((d : SharedState) → apply_events (drop l.i l.events) (store_with l.graph l.voices d) ≡ apply_events l.events (store_with l.initial.graph l.initial.voices d))
    × ((d : SharedState) → take l.i l.out ++ written (outcomes (drop l.i l.events) (store_with l.graph l.voices d)) (drop l.i l.out) ≡ written (outcomes l.events (store_with l.initial.graph l.initial.voices d)) l.initial.out)
