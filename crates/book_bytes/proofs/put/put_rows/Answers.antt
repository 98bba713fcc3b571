-- `book_bytes::put::put_rows` meets its contract. Invariant: the records of the rows so far are put.
use native.Mathlib.Omega.{arith}
use mathlib.Core.Path.{refl, ap}
use lib.ListN.{length-take, length-drop}
use Rattle.def_book.specs.Bytes.{joined}
use Rattle.def_book.proofs.Puts.{then, same_text, room_left, rows_more}
use Rattle.book_bytes.proofs.put.put_rows.Goals as goal

pub loop-row-init : goal.loop-row-init
unfolding joined
loop-row-init g c = record { placed = refl; long = refl }

pub put-at-requires : goal.put-at-requires
put-at-requires g c =
    let r = g.T.Record in
    let h = room_left r.bytes r.size r.sized c.args.rows.now c.requires c.loop-row.invariant c.loop-row-test.true in
    simp (length-take, length-drop) (omega arith)

pub loop-row-preserved : goal.loop-row-preserved
loop-row-preserved g c =
    let b = g.T.Record.bytes in
    same_text (rows_more b c.args.rows.now c.loop-row.row-index c.row-item.result c.loop-row-test.true) (then c.loop-row.invariant (same_text (ap b c.row-item.is) c.put-at.ensures))
