-- Scenes of making (SPEC 3): what a new store holds, field by field, for makings that differ in every argument. The
-- refusals are in `RefusalScenes`.
use mathlib.Core.Path.{◌≡◌, refl}
use mathlib.Core.List.{[]}
use Rattle.std.specs.Prelude.{None, Some}
use mathlib.Core.Bool.{true, false}
use lib.IntN.{pos}
use lib.Ieee.{fin}
use Rattle.bus.specs.Rate.{rate_of}
use Rattle.voice.specs.declared.policy.BudgetScope.TheVariants.{Global, PerGroup}
use Rattle.voice.specs.declared.policy.StealPolicy.TheVariants.{Newest, Quietest}
use Rattle.store.specs.declared.config.Config.{Config}
use Rattle.model.specs.Model.{Model}
use Rattle.model.specs.Make.{make}

-- a new store is unprepared; nothing is in it, no id is given out, the clock is 0
abbrev empty : Config → Model
empty c =
    record {
      shared = record {
        config = c;
        graph = record { nodes = []; edges = []; sink = None; prepared = false; order = []; next = 0 };
        events = [];
        steals = record { count = 0; newest = [] };
        clock = 0;
        spawned = 0;
      };
      voices = [];
    }

-- 8000 and 44,100 Hz, and 48,000 Hz with the fade table. Refuses: an argument that is not kept: a rate, a block, a budget, a policy, a scope or a choice of the table
-- that is always the same; a store that is not empty.
makes :
    (make (record { rate = fin false 125 (pos 6); block = 16; budget = Some 2; policy = Quietest; scope = PerGroup; table = false })
    ≡ Some (empty (record { rate = 8000; block = 16; budget = Some 2; policy = Quietest; scope = PerGroup; table = false })))
    × (make (record { rate = fin false 11025 (pos 2); block = 128; budget = None; policy = Newest; scope = Global; table = false })
    ≡ Some (empty (record { rate = 44100; block = 128; budget = None; policy = Newest; scope = Global; table = false })))
    × (make (record { rate = fin false 375 (pos 7); block = 128; budget = None; policy = Newest; scope = Global; table = true })
    ≡ Some (empty (record { rate = 48000; block = 128; budget = None; policy = Newest; scope = Global; table = true })))
unfolding rate_of
makes = (refl, refl, refl)
