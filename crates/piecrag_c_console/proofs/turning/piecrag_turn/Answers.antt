use Rattle.std.proofs.Common.{rules}
use mathlib.Core.Path.{refl}
use Rattle.c_answer.proofs.Consoles.{turn_kept}
use Rattle.memory.specs.Lent.{lent_spawn}
use Rattle.call_console.specs.Called.{memory}
use Rattle.piecrag_c_console.proofs.Consoles.{turned}
use Rattle.piecrag_c_console.proofs.turning.piecrag_turn.Goals as goal

pub returns : goal.returns
returns c =
    let a = c.args in
    let r = c.turn-r in
    let s = c.state_in-s in
    let w = c.waiting_in-w in
    let told = turned (λ m i j. memory (lent_spawn i a.nodes.now a.edges.now a.voices.now a.steals.now m) j a.wishes.now)
    (λ m i j. memory (lent_spawn i r.new.nodes r.new.edges r.new.voices r.new.steals m) j a.wishes.now) a.state.now a.waiting.now s.result r.result.state w.result r.result.wishes r.result.answer s.ensures w.ensures r.ensures.is r.ensures.same
    (λ m i j. (refl, refl)) (λ m i j. (refl, refl)) c.turn_keeps_store.result c.is_none.result c.turn_code.result c.settle.result c.settle.new.w c.settle_waiting.new.w a.keyboard.now c.map_or.result a.voice.now c.map_or-2.result
    c.turn_keeps_store.ensures (turn_kept r.result.answer c.is_none.result c.is_none.ensures) c.turn_code.ensures c.settle_waiting.ensures c.settle.ensures (search rules) (search rules) in
    record { is = told.0; cells = told.1 }
