use Rattle.std.proofs.Common.{refl}
use Rattle.words.proofs.Bytes.{long_back}
use Rattle.steal_log.specs.Rows.{steal_of}
use Rattle.steal_log.proofs.Records.{record_same}
use Rattle.steal_log.proofs.record_words.Goals as goal

pub returns : goal.returns
unfolding steal_of
returns c =
    let r = c.args.r in
    let sample = long_back r.sample _ _ c.low_word.ensures c.high_word.ensures in
    record { long = refl; back = record_same _ r sample c.float_word.ensures c.flag_word.ensures c.flag_word-2.ensures }
