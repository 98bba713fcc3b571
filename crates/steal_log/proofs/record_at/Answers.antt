use Rattle.std.proofs.Common.{sym, ◌∙◌}
use Rattle.words.specs.Rows.{row_at}
use Rattle.words.proofs.Rows.{row_is}
use Rattle.steal_log.specs.Rows.{steal_of}
use Rattle.steal_log.proofs.Records.{record_same}
use Rattle.steal_log.proofs.record_at.Goals as goal

pub returns : goal.returns
unfolding steal_of
returns c =
    let s = c.args in
    record_same _ (steal_of (row_at 5 s.i s.t.now)) c.long_at.ensures c.float_at.ensures c.flag_at.ensures c.flag_at-2.ensures
    ∙ sym (row_is 5 steal_of s.t.now s.i)
