-- `synthdef::silent::settle` meets its contract. Invariant: the passes that are left, from the flags so far, give what all passes give. Flags that a pass leaves as they are stay so.
use Prim.Native.Nat.{◌-◌}
use mathlib.Core.Path.{◌≡◌}
use lib.ListN.{length}
use Rattle.synthdef.specs.Plan.{passes, settled}
use Rattle.synthdef.proofs.silent.settle.Given as goal

abbrev pub invariant-loop : goal.invariant-loop
invariant-loop l = (length l.s ≡ 24) × (passes (24 - l.counter) l.p.steps l.done l.s ≡ settled l.p.steps l.done)
