use mathlib.Core.Path.{◌≡◌, ap, ◌∙◌}
use lib.ListN.{length}
use borrow.Author.Rules.{rules}
use Rattle.graph_rows.specs.Node.{nodes_in}
use Rattle.call_param.proofs.LastWords.{last_put}
use Rattle.call_param.proofs.last.put_last.Goals as goal

pub returns : goal.returns
returns c =
    let s = c.args in
    let ws = c.last_words in
    let long : length ws.result ≡ 6 = search rules in
    ap nodes_in c.put_fields.ensures ∙ last_put s.t.now ws.result s.i s.o long ws.ensures
