use mathlib.Core.Path.{ap, ◌∙◌}
use Rattle.voice.specs.Steals.{log_of}
use Rattle.steal_log.specs.Rows.{log_in}
use Rattle.busiest.specs.Stretch.{samples, busiest}
use Rattle.piecrag_c_read.specs.Cells.{stretch_code, stretch_count, stretch_sample}
use Rattle.piecrag_c_read.proofs.Reading.{log_read}
use Rattle.piecrag_c_read.proofs.steal.piecrag_busiest_steals.Goals as goal

pub returns : goal.returns
returns c =
    let a = c.args in
    let r = c.steals-r in
    let read = c.state_in-s in
    let b = c.busiest_steals-b in
    let log = log_read a.steals.now read.result (log_of r.result) r.ensures ∙ ap (λ s. log_in a.steals.now s.stolen s.place) read.ensures in
    let is = b.ensures ∙ ap (λ l. busiest a.width (samples l.newest)) log in
    record {
      number = c.stretch_code.ensures ∙ ap stretch_code is;
      many = c.stretch_count.ensures ∙ ap (λ x. stretch_count x a.count.now) is;
      first = c.stretch_sample.ensures ∙ ap (λ x. stretch_sample x a.sample.now) is;
    }
