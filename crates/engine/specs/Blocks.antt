-- The parts of a render.
use Rattle.std.specs.Prelude.{ℕ, Bool, true, false}
use Rattle.store.specs.declared.answer.Rendered.{Rendered}
use Rattle.model.specs.SharedState.{sounding, with_clock}
use Rattle.model.specs.Model.{Model}
use Rattle.model.specs.Render.{Heard, heard, answer_after, is_sounding, moved_if, prepare_outcome, prepare_shared}

-- before the block: prepared inside the render, or not
abbrev pub readied : Bool → Model → Heard
readied true m =
    record {
      answer = answer_after (prepare_outcome m.shared).answer (prepare_shared m.shared);
      model = record { shared = prepare_shared m.shared; voices = m.voices };
    }
readied false m = record { answer = heard (sounding m.shared); model = m }

-- the block itself, with the clock that it leaves
abbrev pub block_to : ℕ → Rendered → Model → Model
block_to end a m = record { shared = with_clock end m.shared; voices = moved_if (is_sounding a) m.shared.config.block m.voices }
