use mathlib.Core.Path.{◌≡◌, refl, ap, ◌∙◌}
use Rattle.words.specs.Fields.{is_set}
use Rattle.store.specs.declared.wish.Wish.{Wish}
use Rattle.def_book.specs.Read.{Read, read_book, def_in}
use Rattle.model.specs.Call.{spawned}
use Rattle.model.specs.Wish.{wish_for, call_of}
use Rattle.memory.specs.Lent.{lent_spawn}
use Rattle.sealed.specs.Board.{BoardCall}
use Rattle.std.proofs.Common.{rules}
use Rattle.std.specs.Prelude.{Result}
use Rattle.node.specs.declared.record.VoiceId.{VoiceId}
use Rattle.node.specs.declared.refusal.Refusal.{Refusal}
use Rattle.call_seal.specs.declared.closing.BoardRefusal.{BoardRefusal}
use Rattle.call_seal.specs.Board.{board, on_store, spawn_answer}
use Rattle.state_words.specs.State.{state_in}
use Rattle.seal_words.specs.Seal.{seal_in}
use Rattle.c_answer.proofs.Exporting.{spawned_kept}
use Rattle.piecrag_c_seal.specs.Board.{born_cell}
use Rattle.piecrag_c_seal.proofs.Boards.{settled, tells}
use Rattle.piecrag_c_seal.proofs.Books.{unread, booked}
use Rattle.piecrag_c_seal.proofs.spawn.piecrag_spawn.Goals as goal

pub returns-then-refuses_book : goal.returns-then-refuses_book
returns-then-refuses_book c =
    let a = c.args in
    λ m p w. unread (is_set a.managed) (record { 0 = a.bus }) c.read_book-read.result c.seal_in-x.ensures c.read_book-read.ensures c.refuses_book.ensures c.from.result (c.from.ensures ∙ c.read_number.ensures) c.if-refuses_book.true (refl, refl, refl)

pub returns : goal.returns
returns c =
    let a = c.args in
    let x = c.seal_in-x in
    let s = c.state_in-s in
    let r = c.spawn-r in
    let book = c.read_book-read in
    let asked : Wish → BoardCall = λ i. on_store (call_of i) in
    let wish : Read → Wish = λ b. wish_for (is_set a.managed) (record { 0 = a.bus }) a.pan a.rank (def_in b) in
    let given = c.wish_in-w.ensures ∙ ap wish book.ensures in
    λ m p w.
    booked (is_set a.managed) (record { 0 = a.bus }) book.result x.ensures book.ensures c.refuses_book.ensures c.settle_result.result c.if-refuses_book.false (
      settled spawned (λ b. refl) spawned_kept (call_of (wish (read_book a.book.now))) (call_of c.wish_in-w.result) (λ j. lent_spawn j a.nodes.now a.edges.now a.voices.now a.steals.now m) (λ j. lent_spawn j r.new.nodes r.new.edges r.new.voices r.new.steals m) (λ j. refl) (λ j. refl) p w x.result a.seal.now a.state.now s.result r.result.state r.result.answer (ap call_of given) x.ensures s.ensures (r.ensures.is m p w) (r.ensures.same m p w)
          c.settle_result.result c.settle_result.new.w c.settle_result.ensures,
      tells state_in (asked (wish (read_book a.book.now))) (asked c.wish_in-w.result) (λ i j. board (lent_spawn j a.nodes.now a.edges.now a.voices.now a.steals.now m) p w i) (λ i j. board (lent_spawn j r.new.nodes r.new.edges r.new.voices r.new.steals m) p w i) x.result (seal_in a.seal.now) a.state.now s.result r.result.state (spawn_answer r.result.answer) (ap asked given) x.ensures s.ensures (r.ensures.is m p w) (r.ensures.same m p w)
          spawn_answer (λ (z : Result VoiceId (BoardRefusal Refusal)). c.map_or.result ≡ born_cell z a.voice.now) r.result.answer refl (search rules),
    )
