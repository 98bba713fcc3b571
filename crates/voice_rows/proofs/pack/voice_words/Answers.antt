use Prim.Native.Nat.{ℕ}
use mathlib.Core.List.{List}
use lib.ListN.{replicate}
use borrow.Author.Rules.{rules}
use Rattle.voice_rows.proofs.Words.{voice_filled}
use Rattle.voice_rows.proofs.pack.voice_words.Goals as goal

pub returns : goal.returns
returns c =
    let v = c.args.v in
    let old : List ℕ = replicate 143 0 in
    let head = c.head_words in
    voice_filled v old c.put_words.new.t c.put_records.new.ws c.put_records-2.new.ws head.result (search rules) head.ensures c.put_words.ensures c.put_records.ensures c.put_records-2.ensures
