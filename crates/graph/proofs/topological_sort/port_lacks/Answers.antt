use Rattle.std.proofs.Common.{◌≡◌, ◌-◌, ◌^◌, min, sym, ap, ◌∙◌, arith}
use Rattle.std.proofs.lemmas.Nat.{one_shl}
use Rattle.graph.proofs.Masks.{lacks_at_once}
use Rattle.graph.proofs.topological_sort.port_lacks.Goals as goal
use Rattle.graph.proofs.topological_sort.port_lacks.Goals.{then-ports-lt64, else-ports-lt64}

pub returns : goal.returns
returns c =
    let a = c.args in
    let asked : c.if-ports-lt64.asked ≡ 2 ^ min a.ports 64 - 1 =
    elim c.if-ports-lt64.branch [
      | then-ports-lt64 w ↦
          let all : a.ports ≡ min a.ports 64 = omega arith in
          w.asked-is ∙ ap (λ x. x - 1) (one_shl a.ports 64 w.if-ports-lt64.true ∙ ap (λ k. 2 ^ k) all)
      | else-ports-lt64 w ↦
          let all : 64 ≡ min a.ports 64 = omega arith in
          w.asked-is ∙ ap (λ k. 2 ^ k - 1) all
    ] in
    rw asked (sym (lacks_at_once a.mask a.ports a.required c.ranges.mask.fits))
