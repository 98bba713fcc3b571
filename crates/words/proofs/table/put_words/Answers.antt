use Rattle.std.proofs.Common.{refl, sym, ◌∙◌, arith}
use lib.ListN.{take}
use lib.Seq.{length-take-le}
use Rattle.std.proofs.lemmas.Slice.{put_mid-paste}
use Rattle.words.proofs.Words.{sets_past, sets_copied}
use Rattle.words.proofs.table.put_words.Goals as goal

pub returns-then-at-t : goal.returns-then-at-t
returns-then-at-t c =
    let t = c.args.t.now in
    let ws = c.args.ws.now in
    let n = c.min-n.result in
    let after = c.copy_from_slice.ensures.after in
    put_mid-paste _ _ t c.copy_from_slice.new.self (take n ws) n after (omega arith) (sym (length-take-le n ws (omega (arith, c.min-n.ensures))))
    ∙ sets_copied ws t (take n ws) c.args.at n (omega arith) c.min-n.ensures refl

pub returns-else-at-t : goal.returns-else-at-t
returns-else-at-t c = sym (sets_past c.args.ws.now c.args.t.now c.args.at c.if-at-t.false)
