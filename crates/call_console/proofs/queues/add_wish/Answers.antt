use Prim.Native.Nat.{◌/◌}
use mathlib.Core.Path.{◌≡◌, ap, ◌∙◌}
use lib.ListN.{length}
use Rattle.words.proofs.Rows.{rows_long}
use Rattle.wish_rows.specs.Rows.{wish_of, wishes_in}
use Rattle.call_console.proofs.Rings.{added_is}
use Rattle.call_console.proofs.queues.add_wish.Goals as goal

pub returns : goal.returns
returns c =
    let a = c.args in
    let long : length (wishes_in a.t.now) ≡ 128 = rows_long 243 wish_of a.t.now ∙ ap (λ n. n / 243) c.told-t in
    added_is a.s a.t.now c.put_wish.new.t a.q a.w c.requires c.well_formed.0.1.1.1.1.0.1.0.1 long c.put_wish.ensures
