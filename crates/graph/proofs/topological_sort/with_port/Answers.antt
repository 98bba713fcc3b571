use mathlib.Core.Path.{ap}
use lib.Dec.{eqb}
use Rattle.std.proofs.lemmas.Nat.Bits.{bit_at_set_same, bit_at_set_other}
use Rattle.std.proofs.Common.{w64}
use Rattle.graph.proofs.topological_sort.with_port.Goals as goal

pub returns : goal.returns
returns c =
    let a = c.args in
    record {
      on = ap (λ k. eqb k 1) (bit_at_set_same w64 a.mask a.p c.requires);
      others = λ q o. ap (λ k. eqb k 1) (bit_at_set_other w64 a.mask a.p c.requires q o);
    }
