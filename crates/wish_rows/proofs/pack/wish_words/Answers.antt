use Prim.Native.Nat.{ℕ}
use mathlib.Core.List.{List}
use lib.ListN.{replicate}
use borrow.Author.Rules.{rules}
use Rattle.wish_rows.proofs.Words.{wish_filled}
use Rattle.wish_rows.proofs.pack.wish_words.Goals as goal

pub returns : goal.returns
returns c =
    let old : List ℕ = replicate 243 0 in
    let head = c.head_words in
    let ns = c.put_records in
    let es = c.put_records-2 in
    let ps = c.put_records-3 in
    wish_filled c.args.w old c.put_words.new.t ns.new.ws es.new.ws ps.new.ws head.result (search rules) head.ensures c.put_words.ensures ns.ensures es.ensures ps.ensures
