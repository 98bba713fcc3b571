-- `whole_samples::fade_output` meets its contract.
use Rattle.std.proofs.Common.{◌&&◌, length, ◌∙◌}
use Rattle.bus.specs.Block.{block_of}
use Rattle.bus.specs.Fade.{fade_fits}
use Rattle.whole_bus.specs.Sample.{is_sample, is_gain}
use Rattle.whole_bus.specs.Block.{every, faded_of}
use Rattle.whole_bus.proofs.Answered.{answer_is, left_is}
use Rattle.whole_samples.proofs.fade_output.Goals as goal

pub returns : goal.returns
returns c =
    let a = c.args in
    let fits = fade_fits (length a.input.now) a.p.ins (length a.gains.now) a.len a.size (length a.out.now) a.p.outs in
    let in_range = every is_sample a.input.now && every is_gain a.gains.now in
    let whole = block_of a.p.outs a.size (faded_of a.input.now a.p.ins a.gains.now a.len a.p.position a.size) in
    record { answers = c.fade.ensures.answers ∙ answer_is fits in_range; leaves = c.fade.ensures.leaves ∙ left_is fits in_range whole a.out.now }
