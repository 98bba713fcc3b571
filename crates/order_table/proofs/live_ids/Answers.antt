use Prim.Native.Nat.{ℕ, ◌+◌, ◌/◌, ◌≤◌, ◌<◌, min}
use native.Mathlib.Omega.{arith}
use mathlib.Core.Path.{◌≡◌, sym, ap, ◌∙◌}
use mathlib.Core.List.{List, [], ◌∷◌}
use lib.ListN.{length, take, drop, get_or, length-set}
use borrow.Author.Rules.{rules}
use Rattle.rank.proofs.Laws.{no_row}
use Rattle.lists.proofs.Table.{left_row}
use Rattle.words.proofs.Rows.{rows_long}
use Rattle.words.proofs.InWords.{take_count}
use Rattle.prepare.specs.Live.{id_of, live_ids}
use Rattle.prepare.proofs.Rises.{passed_start, passed_more, passed_stop, passed_end}
use Rattle.graph_rows.specs.Node.{node_of, nodes_in}
use Rattle.order_table.proofs.live_ids.Goals as goal
use Rattle.order_table.proofs.live_ids.Goals.{Start}

-- their live ids are those of the first `count` rows
counted : (nodes : List ℕ) (count n : ℕ) → length nodes ≡ 11264 → n ≡ min count 512 → live_ids (take n (nodes_in nodes)) ≡ live_ids (take count (nodes_in nodes))
counted nodes count n long e = ap live_ids (take_count 22 node_of nodes count n (omega arith))

-- the row that is looked at is the first of those that are left
left : (nodes : List ℕ) (n i : ℕ) → length nodes ≡ 11264 → n ≤ 512 → i < n →
    drop i (take n (nodes_in nodes)) ≡ get_or (nodes_in nodes) i (node_of []) ∷ drop (i + 1) (take n (nodes_in nodes))
left nodes n i long small h =
    let room : length (nodes_in nodes) ≡ 512 = rows_long 22 node_of nodes ∙ ap (λ n. n / 22) long in
    let inside : n ≤ length (nodes_in nodes) = omega arith in
    left_row (node_of []) (nodes_in nodes) n i h inside

nodes_long : (c : Start) → length c.args.nodes.now ≡ 11264
nodes_long c = search rules

pub loop-i-init : goal.loop-i-init
loop-i-init c = (search rules, omega arith, passed_start _ [])

pub returns-then-w-least : goal.returns-then-w-least
returns-then-w-least c =
    let l = c.loop-i in
    let nodes = c.args.nodes.now in
    let n = c.min-n.result in
    let long = nodes_long (goal.at.returns-then-w-least c).Start in
    let small : n ≤ 512 = omega (arith, c.min-n.ensures) in
    let next = left nodes n l.i long small c.loop-i-test.true in
    let id = ap (λ i. i.0) c.id_at-x.ensures in
    record {
      long = l.invariant.0;
      few = omega (arith, small);
      is =
          passed_stop (take n (nodes_in nodes)) l.ids l.least l.i l.invariant.2 _ next (omega (arith, id, c.if-w-least.true))
          ∙ counted nodes c.args.count n long c.min-n.ensures;
    }

pub loop-i-preserved : goal.loop-i-preserved
loop-i-preserved c =
    let l = c.loop-i in
    let nodes = c.args.nodes.now in
    let n = c.min-n.result in
    let long = nodes_long (goal.at.loop-i-preserved c).Start in
    let small : n ≤ 512 = omega (arith, c.min-n.ensures) in
    let next = left nodes n l.i long small c.loop-i-test.true in
    let id : c.id_at-x.result.0 ≡ id_of (get_or (nodes_in nodes) l.i (node_of [])) = ap (λ i. i.0) c.id_at-x.ensures in
    let room : l.i < length l.ids = omega (arith, l.invariant.0, small) in
    let fit : c.id_at-x.result.0 < 4294967296 = search rules in (
      length-set l.ids l.i _ ∙ l.invariant.0,
      omega (arith, fit),
      rw id (passed_more _ l.ids l.least l.i l.invariant.2 _ next (omega (arith, id, c.if-w-least.false)) room),
    )

pub returns : goal.returns
returns c =
    let l = c.loop-i in
    let nodes = c.args.nodes.now in
    let n = c.min-n.result in
    let all : l.i ≡ n = omega arith in
    let over = no_row (nodes_in nodes) n l.i c.loop-i-test.false in
    record {
      long = l.invariant.0;
      few = omega (arith, c.min-n.ensures);
      is = ap (λ k. take k l.ids) (sym all) ∙ passed_end _ l.ids l.least l.i l.invariant.2 over ∙ counted nodes c.args.count n (nodes_long (goal.at.returns c).Start) c.min-n.ensures;
    }
