use mathlib.Core.Path.{◌≡◌, refl}
use Rattle.model.specs.Call as call
use Rattle.memory.specs.Lent.{lent_nodes}
use Rattle.memory.specs.Called.{add_answered}
use Rattle.words.specs.Fields.{is_set}
use Rattle.std.proofs.Common.{rules}
use Rattle.std.specs.Prelude.{Result}
use Rattle.node.specs.declared.record.NodeId.{NodeId}
use Rattle.node.specs.declared.refusal.Refusal.{Refusal}
use Rattle.call_seal.specs.declared.closing.BoardRefusal.{BoardRefusal}
use Rattle.call_seal.specs.Board.{board, on_store, node_answer}
use Rattle.state_words.specs.State.{state_in}
use Rattle.seal_words.specs.Seal.{seal_in}
use Rattle.piecrag_c_seal.specs.Board.{added_cell}
use Rattle.piecrag_c_seal.proofs.Boards.{add_code, add_kept, settled, tells}
use Rattle.piecrag_c_seal.proofs.host.piecrag_add_node.Goals as goal

pub returns : goal.returns
returns c =
    let a = c.args in
    let x = c.seal_in-x in
    let s = c.state_in-s in
    let r = c.add_node-r in
    let asked = call.add_node a.kind.now a.ports a.required (is_set a.values) (is_set a.glides) in record {
      is = λ m p w.
          settled add_answered add_code add_kept asked asked (λ j. lent_nodes j a.nodes.now m) (λ j. lent_nodes j r.new.nodes m) (λ j. refl) (λ j. refl) p w x.result a.seal.now a.state.now s.result r.result.state r.result.answer refl x.ensures s.ensures (r.ensures.is m p w) (r.ensures.same m p w)
          c.settle_result.result c.settle_result.new.w c.settle_result.ensures;
      cell = λ m p w. tells state_in (on_store asked) (on_store asked) (λ i j. board (lent_nodes j a.nodes.now m) p w i) (λ i j. board (lent_nodes j r.new.nodes m) p w i) x.result (seal_in a.seal.now) a.state.now s.result r.result.state (node_answer r.result.answer) refl x.ensures s.ensures (r.ensures.is m p w) (r.ensures.same m p w) node_answer (λ (z : Result NodeId (BoardRefusal Refusal)). c.map_or.result ≡ added_cell z a.node.now) r.result.answer refl (search rules);
    }
