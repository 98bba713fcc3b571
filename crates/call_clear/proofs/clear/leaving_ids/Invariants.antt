use Rattle.std.proofs.Common.{Bool, ◌≤◌}
use Rattle.words.proofs.InPlace.{Gathering}
use Rattle.voice.specs.declared.voices.Voice.{Voice}
use Rattle.voice_rows.specs.Rows.{voices_in}
use Rattle.call_clear.specs.Passes.{Tells}
use Rattle.call_clear.proofs.Passes.{id_of}
use Rattle.call_clear.proofs.clear.leaving_ids.Given as goal

abbrev pub invariant-loop-i : goal.invariant-loop-i
invariant-loop-i g l =
    (l.leaving.count ≤ l.i) × ((q : Voice → Bool) → Tells (goal.F-post g l.leaves) l.voices q → Gathering q id_of 64 (voices_in l.voices) l.leaving.rows l.i l.leaving.count)
