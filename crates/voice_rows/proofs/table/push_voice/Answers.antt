use Prim.Native.Nat.{◌/◌}
use mathlib.Core.Path.{◌≡◌, ap}
use lib.ListN.{length}
use borrow.Author.Rules.{rules}
use Rattle.words.proofs.Place.{appended}
use Rattle.voice_rows.specs.Rows.{voice_of}
use Rattle.voice_rows.proofs.table.push_voice.Goals as goal

pub returns : goal.returns
returns c =
    let s = c.args in
    let ws = c.voice_words in
    let push = c.append_row in
    let long : length s.t.now ≡ 9152 = search rules in
    appended 143 voice_of s.t.now push.new.t ws.result s.count push.result s.v ws.ensures.long ws.ensures.back push.ensures.words push.ensures.many 64 (ap (λ k. k / 143) long)
