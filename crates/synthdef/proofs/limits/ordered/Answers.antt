-- `synthdef::limits::ordered` meets its contract. Invariant: the ends so far and those of what is left are the ends of all edges. The arcs of the ends are the arcs of the edges.
use Prim.Native.Nat.{ℕ, ◌≤◌, min}
use native.Mathlib.Omega.{arith}
use mathlib.Core.Path.{◌≡◌, refl, sym, ap, ◌∙◌}
use mathlib.Core.List.{List, [], ◌∷◌, ◌++◌, map, append-nil}
use lib.ListN.{length, take, drop, length-take, length-map, drop_of_length-le}
use lib.Seq.{take_all}
use Rattle.lists.specs.Table.{rows_of}
use Rattle.rank.specs.Order.{arc, arcs, upto, whole}
use Rattle.synthdef.specs.Limits.{arc_of}
use Rattle.synthdef.specs.Tables.{node_rows}
use Rattle.synthdef.specs.declared.def.DefNode.{DefNode}
use Rattle.synthdef.specs.declared.def.DefEdge.{DefEdge}
use Rattle.synthdef.proofs.limits.ordered.Invariants.{source, target}
use Rattle.synthdef.proofs.limits.ordered.Goals as goal

arcs_of : (es : List DefEdge) → arcs (map source es) (map target es) ≡ map arc_of es
unfolding arcs
arcs_of [] = refl
arcs_of (e ∷ es) = ap (λ l. arc e.from e.to ∷ l) (arcs_of es)

-- all ends, where no edge is left
all_ends : (f : DefEdge → ℕ) (out : List ℕ) (i k : ℕ) (es : List DefEdge) → k ≡ i → i ≤ 48 → drop i es ≡ [] → take i out ++ map f (drop i es) ≡ map f es → rows_of 48 k out ≡ map f es
all_ends f out i k es is few end inv =
    let below : min k 48 ≡ i = omega arith in
    ap (λ k. take k out) below ∙ sym (append-nil (take i out)) ∙ sym (ap (λ z. take i out ++ map f z) end) ∙ inv

pub returns : goal.returns
returns c =
    let v = c.loop-e.invariant in
    let es = c.as_slice-e-items.result.now in
    let i = c.loop-e.e-index in
    let few : i ≤ 48 = omega arith in
    let end : drop i es ≡ [] = drop_of_length-le es c.loop-e-test.false in
    let froms = c.as_slice-2.ensures ∙ all_ends source c.loop-e.from.rows i c.loop-e.from.count es v.3 few end v.5 in
    let tos = c.as_slice-3.ensures ∙ all_ends target c.loop-e.to.rows i c.loop-e.to.count es v.4 few end v.6 in
    let n = length (node_rows c.args.nodes.now) in
    let small : min (length c.as_slice.result.now) 512 ≡ n = ap (λ (ns : List DefNode). min (length ns) 512) c.as_slice.ensures ∙ omega (arith, length-take (min c.args.nodes.now.count 24) c.args.nodes.now.rows) in
    let short : length (map arc_of es) ≤ 1024 = simp length-map (omega arith) in
    c.ranked.ensures.all
    ∙ ap (λ k. whole (upto k) (take 1024 (arcs c.as_slice-2.result.now c.as_slice-3.result.now))) small
    ∙ ap (λ z. whole (upto n) (take 1024 (arcs z c.as_slice-3.result.now))) froms
    ∙ ap (λ z. whole (upto n) (take 1024 (arcs (map source es) z))) tos
    ∙ ap (λ z. whole (upto n) (take 1024 z)) (arcs_of es)
    ∙ ap (whole (upto n)) (take_all 1024 (map arc_of es) short)
    ∙ ap (λ z. whole (upto n) (map arc_of z)) c.as_slice-e-items.ensures
