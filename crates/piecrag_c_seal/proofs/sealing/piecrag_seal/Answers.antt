use mathlib.Core.Path.{refl, ◌∙◌}
use Rattle.memory.specs.Lent.{lent_voices}
use Rattle.memory.specs.declared.state.State.{State}
use Rattle.call_console.specs.declared.queues.WishState.{WishState}
use Rattle.sealed.specs.Seal.{Seal}
use Rattle.sealed.specs.Board as sealed
use Rattle.call_seal.specs.Board.{BoardMemory, board, seal_answer}
use Rattle.state_words.specs.State.{state_in}
use Rattle.wish_state_words.specs.Waiting.{waiting_in}
use Rattle.seal_words.specs.Seal.{seal_in}
use Rattle.piecrag_c_seal.specs.Stated.{profile_of}
use Rattle.piecrag_c_seal.proofs.Boards.{seal_code, seal_kept, both, both_same, exported}
use Rattle.piecrag_c_seal.proofs.sealing.piecrag_seal.Goals as goal

-- what sealing only reads of the board is its state and what waits
pub returns : goal.returns
returns c =
    let a = c.args in
    let x = c.seal_in-x in
    let s = c.state_in-s in
    let p = c.waiting_in-w in
    let r = c.seal-r in
    let q = profile_of a.bus a.ports a.host_nodes a.host_edges a.def_nodes a.def_edges in
    let same = both_same s.result (state_in a.state.now) p.result (waiting_in a.waiting.now) s.ensures p.ensures in
    λ m w.
    exported seal_in (sealed.seal q) (sealed.seal q) (λ (i : State × WishState) (j : Seal). board (lent_voices i.0 a.nodes.now a.edges.now a.voices.now m) i.1 w j) (λ (i : State × WishState) (j : Seal). board (lent_voices i.0 a.nodes.now a.edges.now a.voices.now m) i.1 w j) (both s.result p.result) (both (state_in a.state.now) (waiting_in a.waiting.now)) a.seal.now x.result r.result.seal (seal_answer r.result.answer) refl same x.ensures (r.ensures.is m w) (r.ensures.same m w)
    (λ (n : BoardMemory). n.seal) (λ i j. refl) (λ i j. refl) c.is_err.result c.result_code.result c.settle_seal.new.w (c.is_err.ensures.value ∙ seal_kept r.result.answer) (c.result_code.ensures ∙ seal_code r.result.answer) c.settle_seal.ensures.stays c.settle_seal.ensures.moved
