use mathlib.Core.Path.{sym, ap, ◌∙◌}
use Rattle.words.proofs.Rows.{row_is}
use Rattle.event_table.specs.Rows.{event_of}
use Rattle.event_table.proofs.row.time_at.Goals as goal

pub returns : goal.returns
unfolding event_of
returns c = let s = c.args in c.long_at.ensures ∙ sym (ap (λ e. e.time) (row_is 15 event_of s.t.now s.i))
