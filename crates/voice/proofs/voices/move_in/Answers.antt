use Rattle.voice.specs.Voice.{further}
use Rattle.voice.proofs.Earliest.{moved_more}
use Rattle.voice.proofs.voices.move_in.Goals as goal

pub loop-v-preserved : goal.loop-v-preserved
loop-v-preserved c = moved_more (further c.args.block) c.loop-v.rows c.args.rows.now c.loop-v.v-index _ c.loop-v.invariant c.loop-v-test.true c.moved_state-v.ensures
