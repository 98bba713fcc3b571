-- `synthdef::plan::step_at` meets its contract.
use Prim.Native.Nat.{◌+◌, ◌≤◌, ◌<◌}
use native.Mathlib.Omega.{arith}
use mathlib.Core.Path.{◌≡◌, refl, sym, ap, ◌∙◌}
use mathlib.Core.List.{[]}
use mathlib.Core.Bool.{false}
use borrow.Author.Rules.{rules}
use lib.ListN.{length, get_or}
use Rattle.std.specs.Prelude.{None, Some}
use Rattle.synthdef.specs.Tables.{edge_rows, no_node}
use Rattle.synthdef.specs.Plan.{step, step_of, steps_from}
use Rattle.synthdef.specs.declared.def.DefNode.{DefNode}
use Rattle.synthdef.proofs.PlanRows.{step_row, step_past}
use Rattle.synthdef.proofs.plan.step_at.Goals as goal

pub returns : goal.returns
returns c =
    let es = edge_rows c.args.es in
    let ns = c.args.nodes.now in
    let i = c.args.i in
    let found = c.get.ensures.lookup in
    elim c.get.result as (λ r. c.get.result ≡ r → c.map_or.result ≡ get_or (steps_from es ns 0) i (step false [])) [
      | None ↦ λ e.
          let h = rw e at found in
          let past : length ns ≤ i = omega (arith, h.3) in
          rw e at c.map_or.ensures ∙ sym (step_past es ns 0 i past)
      | Some x ↦ λ e.
          let h = rw e at found in
          let m = rw e at c.map_or.ensures in
          let inside : i < length ns = omega (arith, h.3.0) in
          let made : c.map_or.result ≡ step_of es x.now i = search rules in
          let from_0 : i ≡ 0 + i = omega arith in
          made ∙ ap (λ (n : DefNode). step_of es n i) (h.3.1 no_node) ∙ ap (step_of es (get_or ns i no_node)) from_0 ∙ sym (step_row es ns 0 i inside)
    ] refl
