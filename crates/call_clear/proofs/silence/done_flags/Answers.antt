use Prim.Native.Nat.{◌+◌, ◌-◌, ◌<◌, min}
use native.Mathlib.Omega.{arith}
use mathlib.Core.Path.{◌≡◌, sym, ap, subst, ◌∙◌}
use lib.ListN.{set}
use Rattle.node.specs.declared.record.NodeId.{NodeId}
use Rattle.call_clear.proofs.Flags.{FlagsFrom, flags_start, flags_take, flags_pass}
use Rattle.call_clear.proofs.silence.done_flags.Goals as goal

pub loop-i-init : goal.loop-i-init
loop-i-init c = let a = c.args in flags_start a.nodes.now a.n a.first a.count c.min-i.result c.min-i.ensures

pub loop-i-preserved-then-p-m : goal.loop-i-preserved-then-p-m
loop-i-preserved-then-p-m c =
    let a = c.args in
    let l = c.loop-i in
    let p = c.in-Some.place in
    let past : c.id_at.result.0 ≡ a.first + c.in-Some.place = omega (arith, c.in-Some.ensures.0, c.in-Some.ensures.1) in
    let is = sym (ap (λ (k : NodeId). k.0) c.id_at.ensures) ∙ past in
    let inside : p < min a.count 24 = omega (arith, c.min-m.ensures, c.if-p-m.true) in
    subst (λ b. FlagsFrom a.nodes.now a.n a.first a.count (l.i - 1) (set l.flags p b)) (sym c.done_at.ensures)
    (flags_take a.nodes.now a.n a.first a.count l.i l.flags c.loop-i-test.true l.invariant p is inside)

pub loop-i-preserved-else-p-m : goal.loop-i-preserved-else-p-m
loop-i-preserved-else-p-m c =
    let a = c.args in
    let l = c.loop-i in
    let past : c.id_at.result.0 ≡ a.first + c.in-Some.place = omega (arith, c.in-Some.ensures.0, c.in-Some.ensures.1) in
    let is = sym (ap (λ (k : NodeId). k.0) c.id_at.ensures) ∙ past in
    flags_pass a.nodes.now a.n a.first a.count l.i l.flags c.loop-i-test.true l.invariant (λ j h e. omega (arith, c.min-m.ensures, c.if-p-m.false, is, e, h))
