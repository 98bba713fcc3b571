use Rattle.std.proofs.Common.{ℕ, refl, ap}
use Rattle.words.proofs.Bytes.{long_back}
use Rattle.node.specs.declared.record.VoiceId.{VoiceId}
use Rattle.event_table.specs.Rows.{event_of}
use Rattle.event_table.proofs.Records.{event_same}
use Rattle.event_table.proofs.row.event_words.Goals as goal

abbrev voice : ℕ → VoiceId
voice x = record { 0 = x }

pub returns : goal.returns
unfolding event_of
returns c =
    let e = c.args.e in
    let time = long_back e.time _ _ c.low_word.ensures c.high_word.ensures in
    let owner = long_back e.voice.0 _ _ c.low_word-2.ensures c.high_word-2.ensures in
    record { long = refl; back = event_same _ e time (ap voice owner) c.name_words-n.ensures c.action_words-a.ensures }
