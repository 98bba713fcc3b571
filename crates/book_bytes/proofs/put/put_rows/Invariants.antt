-- `book_bytes::put::put_rows` meets its contract. Invariant: the records of the rows so far are put.
use mathlib.Core.List.{map}
use lib.ListN.{take}
use Rattle.def_book.specs.Bytes.{joined}
use Rattle.def_book.specs.Put.{Put}
use Rattle.book_bytes.proofs.put.put_rows.Given as goal

abbrev pub invariant-loop-row : goal.invariant-loop-row
invariant-loop-row g l = Put (joined (map g.T.Record.bytes (take l.row-index l.rows))) l.initial.out l.out l.at
