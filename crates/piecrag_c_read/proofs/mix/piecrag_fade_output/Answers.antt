use mathlib.Core.Path.{ap, ◌∙◌}
use Rattle.model.specs.Call.{fade_answer}
use Rattle.piecrag_c_read.proofs.Reading.{told, float_code}
use Rattle.piecrag_c_read.proofs.mix.piecrag_fade_output.Goals as goal

pub returns : goal.returns
returns c =
    let a = c.args in
    let r = c.fade_output in
    λ m. told r.result (r.ensures.is ∙ ap (λ g. fade_answer g a.input.now a.ins a.gains.now a.position a.out.now a.outs) c.config_in-config.ensures) (c.result_code.ensures ∙ float_code r.result r.new.out) r.ensures.same
