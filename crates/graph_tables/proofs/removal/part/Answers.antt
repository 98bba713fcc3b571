use Prim.Native.Nat.{◌/◌, ◌≤◌, ◌<◌, min}
use native.Mathlib.Omega.{arith}
use mathlib.Core.Path.{◌≡◌, sym, ap, ◌∙◌, subst}
use mathlib.Core.List.{[]}
use mathlib.Core.Bool.{not}
use lib.ListN.{length, take, get_or}
use borrow.Author.Rules.{rules}
use Rattle.words.proofs.Rows.{rows_long, moved_long}
use Rattle.words.proofs.Place.{closed}
use Rattle.words.proofs.InPlace.{gathering_take, gathering_pass}
use Rattle.words.proofs.InWords.{words_row, words_keep, words_drop, take_count}
use Rattle.graph.specs.Change.{ids_of}
use Rattle.graph_rows.specs.Node.{node_of, nodes_in}
use Rattle.graph_tables.proofs.Room.{nodes_counted}
use Rattle.graph_tables.proofs.removal.part.Goals as goal
use Rattle.graph_tables.proofs.removal.part.Goals.{then-goes, else-goes}

pub loop-i-preserved : goal.loop-i-preserved
loop-i-preserved g c =
    let l = c.loop-i in
    let m = c.min-n in
    let old = c.args.nodes.now in
    let row = get_or (nodes_in l.nodes) l.i (node_of []) in
    let counted : m.result ≡ min c.args.count (length old / 22) = nodes_counted old c.args.count m.result (search rules) m.ensures in
    let fits : m.result ≤ length old / 22 = omega (arith, counted) in
    let more : l.i < m.result = c.loop-i-test.true in
    let inside : l.i < length (nodes_in old) = omega (arith, rows_long 22 node_of old) in
    let asked = subst (λ o. goal.F-post g c.args.goes row.id o c.goes.result) c.owner_at.ensures (subst (λ k. goal.F-post g c.args.goes k c.owner_at.result c.goes.result) c.id_at.ensures c.goes.ensures) in
    elim c.if-goes.branch [
      | then-goes w ↦
          rw (w.nodes-is, w.stay-is, w.removed-is) (
            omega (arith, l.invariant.0),
            l.invariant.1,
            λ q tells.
                let inv = l.invariant.2 q tells in
                let same = words_row 22 node_of (λ x. not (q x)) old l.nodes m.result l.i l.stay inv.0 in
                let test = sym (tells row c.goes.result asked) ∙ w.if-goes.true in
                let room : l.removed.count < 512 = omega (arith, inv.1.low, m.ensures) in
                let grown = w.push.ensures.counted (omega arith) in (
                  words_drop 22 node_of (λ x. not (q x)) old l.nodes m.result l.i l.stay fits more inv.0 (ap not test),
                  rw (w.push.ensures.stored, grown, w.id_at-then-goes.ensures, same) (gathering_take (node_of []) q (λ x. x.id.0) 512 (nodes_in old) l.removed.rows l.i l.removed.count inside inv.1 room (sym (ap q same) ∙ test)),
                ),
          )
      | else-goes w ↦
          let moved = w.move_row in
          rw (w.nodes-is, w.stay-is, w.removed-is) (
            omega (arith, l.invariant.0),
            ap length moved.ensures ∙ moved_long 22 l.i l.stay l.nodes ∙ l.invariant.1,
            λ q tells.
                let inv = l.invariant.2 q tells in
                let same = words_row 22 node_of (λ x. not (q x)) old l.nodes m.result l.i l.stay inv.0 in
                let test = sym (tells row c.goes.result asked) ∙ w.if-goes.false in (
                  words_keep 22 node_of (λ x. not (q x)) old l.nodes m.result l.i l.stay fits more inv.0 moved.new.t moved.ensures (ap not test),
                  gathering_pass (node_of []) q (λ x. x.id.0) 512 (nodes_in old) l.removed.rows l.i l.removed.count inside inv.1 (sym (ap q same) ∙ test),
                ),
          )
    ]

pub returns : goal.returns
returns g c =
    let l = c.loop-i in
    let m = c.min-n in
    let old = c.args.nodes.now in
    let counted : m.result ≡ min c.args.count (length old / 22) = nodes_counted old c.args.count m.result (search rules) m.ensures in
    let all : l.i ≡ m.result = omega arith in
    λ q tells.
    let inv = l.invariant.2 q tells in
    let below : min l.removed.count 512 ≡ l.removed.count = omega (arith, inv.1.low, m.ensures, all) in
    record {
      stay = closed 22 node_of old l.nodes (λ x. not (q x)) c.args.count m.result l.i l.stay counted (omega arith) inv.0;
      leave =
          ap (λ k. take k l.removed.rows) below
          ∙ inv.1.front
          ∙ ap (λ k. ids_of q (take k (nodes_in old))) all
          ∙ ap (ids_of q) (take_count 22 node_of old c.args.count m.result counted);
    }
