use mathlib.Core.Path.{refl, ap}
use Rattle.words.proofs.Bytes.{long_back}
use Rattle.graph_rows.specs.Node.{node_of}
use Rattle.graph_rows.proofs.Records.{voice, node_same}
use Rattle.graph_rows.proofs.node_row.node_words.Goals as goal

pub returns : goal.returns
unfolding node_of
returns c =
    let n = c.args.n in
    let owner = long_back n.owner.0 _ _ c.low_word.ensures c.high_word.ensures in
    let required = long_back n.required _ _ c.low_word-2.ensures c.high_word-2.ensures in
    record {
      long = refl;
      back =
          node_same _ n refl (ap voice owner) c.name_words-k.ensures refl required c.flag_word.ensures c.flag_word-2.ensures c.flag_word-3.ensures c.float_word.ensures c.last_words-l.ensures refl;
    }
