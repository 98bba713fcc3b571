use mathlib.Core.Path.{refl, ap, ◌∙◌}
use Rattle.words.specs.Fields.{is_set}
use Rattle.store.specs.declared.wish.Wish.{Wish}
use Rattle.def_book.specs.Read.{Read, read_book, def_in}
use Rattle.console.specs.Console as console
use Rattle.sealed.specs.Board.{BoardCall, on}
use Rattle.call_seal.specs.Board.{BoardMemory, board, wished_answer}
use Rattle.wish_state_words.specs.Waiting.{waiting_in}
use Rattle.seal_words.specs.Seal.{seal_in}
use Rattle.model.specs.Wish.{wish_for}
use Rattle.piecrag_c_seal.proofs.Boards.{wish_code, wish_kept, exported}
use Rattle.piecrag_c_seal.proofs.Books.{unread, booked}
use Rattle.piecrag_c_seal.proofs.wishing.piecrag_wish.Goals as goal

pub returns-then-refuses_book : goal.returns-then-refuses_book
returns-then-refuses_book c =
    let a = c.args in
    λ m. unread (is_set a.managed) (record { 0 = a.bus }) c.read_book-read.result c.seal_in-x.ensures c.read_book-read.ensures c.refuses_book.ensures c.from.result (c.from.ensures ∙ c.read_number.ensures) c.if-refuses_book.true (refl, refl)

pub returns : goal.returns
returns c =
    let a = c.args in
    let x = c.seal_in-x in
    let s = c.waiting_in-s in
    let r = c.wish-r in
    let book = c.read_book-read in
    let asked : Wish → BoardCall = λ i. on (console.wish a.keyboard i) in
    let wish : Read → Wish = λ b. wish_for (is_set a.managed) (record { 0 = a.bus }) a.pan a.rank (def_in b) in
    let given = c.wish_in-wish.ensures ∙ ap wish book.ensures in
    λ m.
    booked (is_set a.managed) (record { 0 = a.bus }) book.result x.ensures book.ensures c.refuses_book.ensures c.result_code.result c.if-refuses_book.false
    (exported waiting_in (asked (wish (read_book a.book.now))) (asked c.wish_in-wish.result) (λ i j. board m j a.wishes.now i) (λ i j. board m j r.new.wishes i) x.result (seal_in a.seal.now) a.waiting.now s.result r.result.wishes (wished_answer r.result.answer) (ap asked given) x.ensures s.ensures (r.ensures.is m) (r.ensures.same m)
    (λ (n : BoardMemory). n.console.wishes) (λ i j. refl) (λ i j. refl) c.is_err.result c.result_code.result c.settle_waiting.new.w (c.is_err.ensures.value ∙ wish_kept r.result.answer) (c.result_code.ensures ∙ wish_code r.result.answer) c.settle_waiting.ensures.stays c.settle_waiting.ensures.moved)
