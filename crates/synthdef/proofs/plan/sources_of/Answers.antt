-- `synthdef::plan::sources_of` meets its contract. Invariant: the sources so far and those of the ports that are left are the sources of all; past the sources so far the array is 0.
use Prim.Native.Nat.{ℕ, suc, ◌+◌, ◌<◌, ◌-◌}
use native.Mathlib.Omega.{arith}
use native.Mathlib.Numerals.{add-one}
use mathlib.Core.Path.{◌≡◌, refl, sym, ap, ◌∙◌}
use mathlib.Core.List.{List, ◌++◌}
use Rattle.std.specs.Prelude.{Option, None, Some}
use lib.ListN.{length, take, length-set}
use Rattle.std.proofs.Common.{◌≢◌}
use Rattle.synthdef.specs.Tables.{edge_rows}
use Rattle.synthdef.specs.Edges.{source_at}
use Rattle.synthdef.specs.Plan.{more, sources_from}
use Rattle.synthdef.specs.declared.def.DefEdge.{DefEdge}
use Rattle.synthdef.proofs.Walk.{filled_one, one_more}
use Rattle.synthdef.proofs.plan.sources_of.Goals as goal
use Rattle.synthdef.proofs.plan.sources_of.Goals.{in-Some, in_default}

found_none : (o : Option ℕ) → ((j : ℕ) → o ≢ Some j) → o ≡ None
found_none None not = refl
found_none (Some i) not = absurd (not i refl)

-- the next port
next : (es : List DefEdge) (i p end : ℕ) → p < end → sources_from es i p (end - p) ≡ more (source_at es i p) (sources_from es i (p + 1) (end - (p + 1)))
next es i p end h =
    let split : end - p ≡ suc (end - (p + 1)) = omega arith in
    ap (sources_from es i p) split
    ∙ ap (λ m. more (source_at es i p) (sources_from es i m (end - (p + 1)))) (sym (add-one p))

pub loop-port-preserved : goal.loop-port-preserved
loop-port-preserved c =
    let v = c.loop-port.invariant in
    let es = edge_rows c.args.es in
    let i = c.args.node in
    let p = c.loop-port.port in
    let end = c.args.span.first + c.args.span.count in
    let rest = sources_from es i (p + 1) (end - (p + 1)) in
    let step = next es i p end c.loop-port-test.true in
    let t = c.loop-port.found in
    let front = take t.count t.rows in
    elim c.match-source_at.branch [
      | in-Some w ↦
          let j = w.in-Some.from in
          let is : source_at es i p ≡ Some j = sym c.source_at.ensures ∙ w.in-Some.is in
          let room : t.count < length t.rows = omega (arith, c.requires) in
          let below : t.count < 8 = omega arith in
          let pushed = w.push.ensures in
          rw (w.found-is, pushed.stored, pushed.counted (omega arith)) (
            omega arith,
            omega arith,
            simp length-set v.2,
            filled_one 0 8 t.rows t.count v.3 j room below,
            one_more t.rows t.count j rest room ∙ ap (λ z. front ++ z) (sym (step ∙ ap (λ o. more o rest) is)) ∙ v.4,
          )
      | in_default w ↦
          let is : source_at es i p ≡ None = found_none (source_at es i p) (λ j e. w.in_default.not-Some j (c.source_at.ensures ∙ e)) in
          rw w.found-is (
            omega arith,
            omega arith,
            v.2,
            v.3,
            ap (λ z. front ++ z) (sym (step ∙ ap (λ o. more o rest) is)) ∙ v.4,
          )
    ]
