use Rattle.std.proofs.Common.{rules, length, take, not, sym, arith}
use Rattle.std.specs.Prelude.{Some}
use Rattle.words.proofs.Gaps.{found_stay, closed_rows}
use Rattle.event_table.specs.Rows.{event_of, events_in}
use Rattle.event_table.specs.Key.{replaces_by}
use Rattle.event_table.proofs.replace.remove_replaced.Goals as goal

pub returns : goal.returns
returns c =
    let s = c.args in
    let q = replaces_by s.k.now in
    let l = take s.count (events_in s.t.now) in
    let first = found_stay q l (Some s.p) (length l) (sym c.requires) (omega arith) in
    closed_rows 15 event_of (λ e. not (q e)) s.t.now c.close_gaps.new.t c.close_gaps.result s.p s.count _ c.close_gaps.ensures (λ t i b h. search rules) first
