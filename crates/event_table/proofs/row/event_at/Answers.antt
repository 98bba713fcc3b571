use Prim.Native.Nat.{ℕ}
use mathlib.Core.Path.{sym, ap, ◌∙◌}
use Rattle.node.specs.declared.record.VoiceId.{VoiceId}
use Rattle.words.proofs.Rows.{row_is}
use Rattle.words.specs.Rows.{row_at}
use Rattle.event_table.specs.Rows.{event_of}
use Rattle.event_table.proofs.Records.{event_same}
use Rattle.event_table.proofs.row.event_at.Goals as goal

abbrev voice : ℕ → VoiceId
voice x = record { 0 = x }

pub returns : goal.returns
unfolding event_of
returns c =
    let s = c.args in
    event_same _ (event_of (row_at 15 s.i s.t.now)) c.long_at.ensures (ap voice c.long_at-2.ensures) c.name_at.ensures c.action_at.ensures ∙ sym (row_is 15 event_of s.t.now s.i)
