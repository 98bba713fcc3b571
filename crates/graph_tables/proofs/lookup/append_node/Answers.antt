use Prim.Native.Nat.{◌/◌}
use mathlib.Core.Path.{◌≡◌, ap}
use lib.ListN.{length}
use borrow.Author.Rules.{rules}
use Rattle.words.proofs.Place.{appended}
use Rattle.graph_rows.specs.Node.{node_of}
use Rattle.graph_tables.proofs.lookup.append_node.Goals as goal

pub returns : goal.returns
returns c =
    let s = c.args in
    let ws = c.node_words in
    let push = c.append_row in
    let long : length s.nodes.now ≡ 11264 = search rules in
    appended 22 node_of s.nodes.now push.new.t ws.result s.count push.result s.n ws.ensures.long ws.ensures.back push.ensures.words push.ensures.many 512 (ap (λ k. k / 22) long)
