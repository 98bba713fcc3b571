use mathlib.Core.Path.{ap, ◌∙◌}
use Rattle.graph_rows.specs.Node.{nodes_in}
use Rattle.call_report.proofs.ReportWords.{report_put}
use Rattle.call_report.proofs.row.put_report.Goals as goal

pub returns : goal.returns
returns c =
    let s = c.args in
    ap nodes_in c.put_fields.ensures ∙ report_put s.t.now c.flag_word.result c.float_word.result s.i s.done s.level c.flag_word.ensures c.float_word.ensures
