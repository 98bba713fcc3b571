use Prim.Native.Nat.{◌<◌}
use mathlib.Core.Path.{◌≡◌}
use lib.ListN.{length}
use borrow.Author.Rules.{rules}
use Rattle.words.proofs.Bytes.{name_back}
use Rattle.words.proofs.fields.name_words.Goals as goal

pub returns : goal.returns
returns c =
    let long : length c.args.n.bytes ≡ 16 = search rules in
    let small : c.args.n.len < 256 = search rules in
    rw c.from.ensures (name_back c.args.n c.byte_word.result c.byte_word-2.result c.byte_word-3.result c.byte_word-4.result long small c.byte_word.ensures c.byte_word-2.ensures c.byte_word-3.ensures c.byte_word-4.ensures)
