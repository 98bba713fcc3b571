use mathlib.Core.Path.{ap, ◌∙◌}
use Rattle.model.specs.Call.{whole_sum_answer}
use Rattle.piecrag_c_read.proofs.Reading.{told, whole_code}
use Rattle.piecrag_c_read.proofs.mix.piecrag_whole_bus_sum.Goals as goal

pub returns : goal.returns
returns c =
    let a = c.args in
    let r = c.bus_sum in
    λ m. told r.result (r.ensures.is ∙ ap (λ g. whole_sum_answer g a.inputs.now a.counts.now a.out.now a.outs) c.config_in-config.ensures) (c.result_code.ensures ∙ whole_code r.result r.new.out) r.ensures.same
