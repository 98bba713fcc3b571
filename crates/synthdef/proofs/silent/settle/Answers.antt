-- `synthdef::silent::settle` meets its contract. Invariant: the passes that are left, from the flags so far, give what all passes give. Flags that a pass leaves as they are stay so.
use Prim.Native.Nat.{suc, ◌+◌, ◌-◌}
use native.Mathlib.Omega.{arith}
use mathlib.Core.Path.{◌≡◌, refl, sym, ap, ◌∙◌}
use lib.ListN.{length}
use borrow.Author.Rules.{rules}
use Rattle.std.specs.Cmp.{booleans_Decides}
use Rattle.std.proofs.lemmas.Slice.Eq.{slice_eq-Decides}
use Rattle.synthdef.specs.Plan.{passes, settled}
use Rattle.synthdef.proofs.PassLaws.{stays, length_pass}
use Rattle.synthdef.proofs.silent.settle.Goals as goal

pub loop-init : goal.loop-init
unfolding settled
loop-init c = (search rules, refl)

pub returns-then-eq : goal.returns-then-eq
returns-then-eq c =
    let sts = c.args.p.steps in
    let s = c.loop.s in
    let same : c.pass-t.result ≡ s = (slice_eq-Decides booleans_Decides c.pass-t.result s c.eq.result c.eq.ensures).0 c.if-eq.true in
    sym (stays sts c.args.done (24 - c.loop.counter) s (sym c.pass-t.ensures ∙ same)) ∙ c.loop.invariant.1

pub loop-preserved : goal.loop-preserved
loop-preserved c =
    let v = c.loop.invariant in
    let sts = c.args.p.steps in
    let is = c.pass-t.ensures in
    let left : 24 - c.loop.counter ≡ suc (24 - (c.loop.counter + 1)) = omega arith in (
      ap length is ∙ length_pass sts c.args.done c.loop.s 0 ∙ search rules,
      ap (passes (24 - (c.loop.counter + 1)) sts c.args.done) is ∙ sym (ap (λ k. passes k sts c.args.done c.loop.s) left) ∙ v.1,
    )
