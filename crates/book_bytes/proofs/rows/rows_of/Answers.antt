-- `book_bytes::rows::rows_of` meets its contract.
use Prim.Native.Nat.{ℕ, ◌-◌}
use native.Mathlib.Omega.{arith}
use mathlib.Core.Path.{◌≡◌, sym, ap, ◌∙◌}
use mathlib.Core.List.{List}
use mathlib.Core.Bool.{Bool}
use lib.ListN.{length, take, drop}
use Rattle.std.proofs.lemmas.List.{take_rest}
use Rattle.def_book.specs.Rows.{is_node, is_edge, is_param, node_at, edge_at, param_at}
use Rattle.def_book.specs.Body.{more_nodes, more_edges, more_params}
use Rattle.def_book.proofs.Walk.{as_node_lem, as_edge, as_param_lem, as_none}
use Rattle.def_book.proofs.Gather.{begun, few_nodes, few_edges, few_params, node_turn, edge_turn, param_turn, no_row_left, no_byte_left}
use Rattle.book_bytes.proofs.rows.rows_of.Goals as goal

-- what a test says of the rest of the book at the head of the loop
said : (f : List ℕ → Bool) (s : List ℕ) (at : ℕ) {r b : Bool} → r ≡ f (take (length s - at) (drop at s)) → r ≡ b → f (drop at s) ≡ b
said f s at e h = sym (ap f (take_rest s at)) ∙ sym e ∙ h

pub loop-at-init : goal.loop-at-init
loop-at-init c = begun _ _ _ _ c.no_nodes-nodes.ensures c.no_edges-edges.ensures c.no_params-params.ensures

pub loop-at-preserved-then-is_node : goal.loop-at-preserved-then-is_node
loop-at-preserved-then-is_node c =
    let s = c.args.s.now in
    let at = c.loop-at.at in
    let here = as_node_lem (drop at s) (said is_node s at c.is_node.ensures c.if-is_node.true) in
    let read = c.node_at.ensures ∙ ap node_at (take_rest s at) in
    let h = few_nodes c.loop-at.invariant in
    node_turn c.loop-at.invariant (node_at (drop at s)) _ here (rw (c.push.ensures.stored, c.push.ensures.counted (omega arith)) (ap (more_nodes c.loop-at.nodes) read))

pub loop-at-preserved-then-is_edge : goal.loop-at-preserved-then-is_edge
loop-at-preserved-then-is_edge c =
    let s = c.args.s.now in
    let at = c.loop-at.at in
    let no = said is_node s at c.is_node.ensures c.if-is_node.false in
    let here = as_edge (drop at s) no (said is_edge s at c.is_edge.ensures c.if-is_edge.true) in
    let read = c.edge_at.ensures ∙ ap edge_at (take_rest s at) in
    let p = c.push-then-is_edge.ensures in
    let h = few_edges c.loop-at.invariant in
    edge_turn c.loop-at.invariant (edge_at (drop at s)) _ here (rw (p.stored, p.counted (omega arith)) (ap (more_edges c.loop-at.edges) read))

pub loop-at-preserved : goal.loop-at-preserved
loop-at-preserved c =
    let s = c.args.s.now in
    let at = c.loop-at.at in
    let no = said is_node s at c.is_node.ensures c.if-is_node.false in
    let nor = said is_edge s at c.is_edge.ensures c.if-is_edge.false in
    let here = as_param_lem (drop at s) no nor (said is_param s at c.is_param.ensures c.if-is_param.true) in
    let read = c.param_at.ensures ∙ ap param_at (take_rest s at) in
    let p = c.push-then-is_param.ensures in
    let h = few_params c.loop-at.invariant in
    param_turn c.loop-at.invariant (param_at (drop at s)) _ here (rw (p.stored, p.counted (omega arith)) (ap (more_params c.loop-at.params) read))

pub returns-else-is_param : goal.returns-else-is_param
returns-else-is_param c =
    let s = c.args.s.now in
    let at = c.loop-at.at in
    let no = said is_node s at c.is_node.ensures c.if-is_node.false in
    let nor = said is_edge s at c.is_edge.ensures c.if-is_edge.false in
    no_row_left c.loop-at.invariant (as_none (drop at s) no nor (said is_param s at c.is_param.ensures c.if-is_param.false))

pub returns-after-loop-at : goal.returns-after-loop-at
returns-after-loop-at c = no_byte_left c.loop-at.invariant c.loop-at-test.false
