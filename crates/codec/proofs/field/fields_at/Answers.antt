-- A turn fills one field more; where the loop ends, nothing is still to come.
use Rattle.std.proofs.Common.{◌≡◌, length, sym, ap, ◌∙◌, arith, length-set}
use Rattle.codec.specs.Field.{little}
use Rattle.codec.proofs.Filling.{turned, ended}
use Rattle.codec.proofs.field.fields_at.Goals as goal

pub loop-x-preserved : goal.loop-x-preserved
loop-x-preserved g c =
    let f = g.T.Field.value in
    let o = c.loop-x in
    let s = c.args.s.now in
    let n = length c.args.out.now in
    let x : c.of.result ≡ f (little 4 s o.from) = c.of.ensures ∙ ap f c.word_at.ensures in (
      simp length-set o.invariant.0,
      turned f n s o.out o.from o.x-index c.after-from.result c.of.result (omega arith) o.invariant.0 x c.after-from.ensures ∙ o.invariant.1,
    )

pub returns : goal.returns
returns g c =
    let o = c.loop-x in
    sym (ended g.T.Field.value (length c.args.out.now) c.args.s.now o.out o.from o.x-index (omega arith) o.invariant.0) ∙ o.invariant.1
