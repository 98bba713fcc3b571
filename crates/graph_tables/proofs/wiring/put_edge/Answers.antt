use Prim.Native.Nat.{ℕ, ◌/◌, ◌≤◌}
use native.Mathlib.Omega.{arith}
use mathlib.Core.Path.{◌≡◌, ap, ◌∙◌, subst}
use mathlib.Core.List.{List}
use lib.ListN.{length-take, length, take}
use borrow.Author.Rules.{rules}
use Rattle.words.proofs.Rows.{rows_long}
use Rattle.words.proofs.Place.{appended}
use Rattle.words.specs.Place.{Holds}
use Rattle.edges.specs.Wiring.{pushed}
use Rattle.graph_rows.specs.Edge.{edge_of, edges_in}
use Rattle.graph_tables.proofs.Edges.{pushed_put}
use Rattle.graph_tables.proofs.wiring.put_edge.Goals as goal

small : (t : List ℕ) (count : ℕ) → length t ≡ 3072 → length (take count (edges_in t)) ≤ 1024
small t count e = omega (arith, length-take count (edges_in t), rows_long 3 edge_of t)

pub returns : goal.returns
returns c =
    let s = c.args in
    let left = c.drop_port-left in
    let ws = c.edge_words in
    let push = c.append_row in
    let es = take s.count (edges_in s.edges.now) in
    let wide : length s.edges.now ≡ 3072 = search rules in
    let long : length left.new.edges ≡ 3072 = search rules in
    let room : length left.new.edges / 3 ≡ 1024 = ap (λ k. k / 3) long in
    let appended = appended 3 edge_of left.new.edges push.new.t ws.result left.result push.result s.e (search rules) ws.ensures push.ensures.words push.ensures.many 1024 room in
    subst (Holds (edges_in push.new.t) push.result) (ap (λ l. pushed 1024 l s.e) left.ensures.is ∙ pushed_put es s.e (small s.edges.now s.count wide)) appended
