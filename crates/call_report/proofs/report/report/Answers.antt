use mathlib.Core.Path.{refl, ap, ◌∙◌}
use mathlib.Core.List.{[]}
use lib.ListN.{take, get_or}
use Rattle.std.specs.Prelude.{position}
use Rattle.std.proofs.lemmas.Result.{err_from_is_err_and}
use Rattle.node.specs.Node.{reported}
use Rattle.voice.specs.Voice.{id}
use Rattle.graph_rows.specs.Node.{node_of, nodes_in}
use Rattle.call_param.specs.Left.{is_left}
use Rattle.call_param.proofs.Replacing.{still_first, all_replaced}
use Rattle.call_report.proofs.Reports.{found_at, reports_not, reports_done}
use Rattle.call_report.proofs.report.report.Goals as goal

pub returns-in_err-p-clause-is : goal.returns-in_err-p-clause-is
returns-in_err-p-clause-is c =
    let s = c.args in
    let row = c.row_left-row in
    let t = c.report_test in
    let at = row.ensures ∙ ap (λ k. position (is_left [] (id k)) (take s.s.nodes (nodes_in s.nodes.now))) c.from-k.ensures in
    let exit = err_from_is_err_and c.from_residual.result c.from_residual.ensures.1 in
    rw (exit.1, exit.2) (λ m. reports_not s.s s.nodes.now s.voices.now s.node s.channels s.samples.now s.done row.result at t.result t.ensures m _ c.in_err-p.was)

pub returns-clause-is : goal.returns-clause-is
returns-clause-is c =
    let s = c.args in
    let row = c.row_left-row in
    let t = c.report_test in
    let put = c.put_report in
    let copied = c.copy_on in
    let level = c.level in
    let p = c.in_ok-p.p in
    let at = row.ensures ∙ ap (λ k. position (is_left [] (id k)) (take s.s.nodes (nodes_in s.nodes.now))) c.from-k.ensures in
    let told = c.in_ok-p.was in
    let there = found_at s.s s.nodes.now s.voices.now s.node s.channels s.samples.now s.done row.result at t.result t.ensures p told in
    let found = ap (λ k. position (is_left [] (id k)) (take s.s.nodes (nodes_in s.nodes.now))) c.from-k.ensures ∙ there in
    let new = reported level.result s.done (get_or (nodes_in s.nodes.now) p (node_of [])) in
    let first = still_first [] s.nodes.now s.s.nodes c.from-k.result p found new refl refl put.new.t put.ensures in
    let all = all_replaced [] s.nodes.now s.s.nodes c.from-k.result p found new refl refl put.new.t put.ensures copied.new.t (copied.ensures first) in
    λ m. reports_done s.s s.nodes.now s.voices.now s.node s.channels s.samples.now s.done row.result at t.result t.ensures m p told copied.new.t level.result level.ensures all
