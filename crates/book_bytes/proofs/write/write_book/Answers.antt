-- `book_bytes::write::write_book` meets its contract.
use Prim.Native.Nat.{◌≤◌, ◌<◌}
use native.Mathlib.Omega.{arith}
use mathlib.Core.Path.{sym, ◌∙◌}
use lib.ListN.{length}
use Rattle.std.proofs.Common.{rules}
use Rattle.def_book.specs.Bytes.{book_of}
use Rattle.def_book.proofs.Writing.{Long, book_long, beyond, too_short, put_whole}
use Rattle.book_bytes.proofs.write.write_book.Goals as goal
use Rattle.book_bytes.proofs.write.write_book.Goals.{Start}

long : (c : Start) → Long c.args.d
long c = record {
  nodes = search rules;
  edges = search rules;
  params = search rules;
}

pub returns-then-not-allowed : goal.returns-then-not-allowed
returns-then-not-allowed c =
    let t = beyond c.args.d c.args.out.now (sym c.allowed.ensures ∙ c.if-not-allowed.true) in
    record { is = t.0; leaves = t.1 }

pub returns-then-out-book_length : goal.returns-then-out-book_length
returns-then-out-book_length c =
    let d = c.args.d in
    let out = c.args.out.now in
    let fits = sym c.allowed.ensures ∙ c.if-not-allowed.false in
    let n = book_long d (long (goal.at.returns-then-out-book_length c).Start) in
    let short : length out < length (book_of d) = omega (arith, c.book_length.ensures, n, c.if-out-book_length.true) in
    let t = too_short d out fits short in
    record { is = t.0; leaves = t.1 }

pub returns : goal.returns
returns c =
    let d = c.args.d in
    let out = c.args.out.now in
    let fits = sym c.allowed.ensures ∙ c.if-not-allowed.false in
    let n = book_long d (long (goal.at.returns c).Start) in
    let room : length (book_of d) ≤ length out = omega (arith, c.book_length.ensures, n, c.if-out-book_length.false) in
    let t = put_whole d out fits _ _ room c.put_book.ensures in
    record { is = t.0; leaves = t.1 }
