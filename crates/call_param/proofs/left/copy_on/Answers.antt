use Prim.Native.Nat.{◌/◌, ◌≤◌}
use native.Mathlib.Omega.{arith}
use mathlib.Core.Path.{◌≡◌, refl, sym, ◌∙◌}
use mathlib.Core.List.{[]}
use mathlib.Core.Bool.{cond}
use borrow.Author.Rules.{rules}
use lib.ListN.{length, get_or}
use Rattle.voice.specs.Voice.{id}
use Rattle.graph_rows.specs.Node.{node_of, nodes_in}
use Rattle.words.proofs.InWords.{change_done}
use Rattle.call_param.specs.Left.{is_left}
use Rattle.call_param.proofs.Copying.{copying_start, copying_row, copying_none}
use Rattle.call_param.proofs.left.copy_on.Goals as goal
use Rattle.call_param.proofs.left.copy_on.Goals.{then-is_left, else-is_left}

pub loop-i-init : goal.loop-i-init
loop-i-init c =
    let s = c.args in
    (refl, λ h. copying_start 22 node_of (is_left s.freed.now (id s.k)) (get_or (nodes_in s.t.now) s.p (node_of [])) s.t.now c.min-i-end.result s.p s.count c.min-i-end.ensures h refl)

pub loop-i-preserved : goal.loop-i-preserved
loop-i-preserved c =
    let s = c.args in
    let l = c.loop-i in
    let m = c.min-i-end in
    let q = is_left s.freed.now (id s.k) in
    let x = get_or (nodes_in s.t.now) s.p (node_of []) in
    let fits : m.result ≤ length s.t.now / 22 = omega (arith, m.ensures) in
    elim c.if-is_left.branch [
      | then-is_left w ↦
          let long : length w.move_row.new.t ≡ length l.t = search rules in
          rw w.t-is (long ∙ l.invariant.0, λ h. copying_row 22 node_of q x s.t.now m.result s.p fits l.t l.i c.loop-i-test.true (l.invariant.1 h) w.move_row.new.t w.move_row.ensures (sym c.is_left.ensures ∙ w.if-is_left.true))
      | else-is_left w ↦
          rw w.t-is (l.invariant.0, λ h. copying_none 22 node_of q x s.t.now m.result s.p fits l.t l.i c.loop-i-test.true (l.invariant.1 h) (sym c.is_left.ensures ∙ w.if-is_left.false))
    ]

pub returns : goal.returns
returns c =
    let s = c.args in
    let l = c.loop-i in
    let m = c.min-i-end in
    λ h. change_done 22 node_of (λ x. cond (is_left s.freed.now (id s.k) x) (get_or (nodes_in s.t.now) s.p (node_of [])) x) s.t.now l.t s.count m.result l.i m.ensures c.loop-i-test.false (l.invariant.1 h).2
