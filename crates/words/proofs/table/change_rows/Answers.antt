use mathlib.Core.Path.{sym, ap, ◌∙◌}
use Rattle.words.specs.Rows.{fields_put}
use Rattle.words.specs.Place.{stored}
use Rattle.words.proofs.Changes.{change_more}
use Rattle.words.proofs.table.change_rows.Goals as goal
use Rattle.words.proofs.table.change_rows.Goals.{in-Some, in_default}

pub loop-i-preserved : goal.loop-i-preserved
loop-i-preserved g c =
    let s = c.args in
    let l = c.loop-i in
    let items = g.W.AsSlice.items in
    let more = change_more s.w s.k items _ s.t.now _ l.i c.change.result c.change.ensures l.invariant in
    elim c.match-change.branch [
      | in-Some w ↦
          let put = w.put_fields.ensures ∙ ap (λ ws. fields_put s.w l.i s.k ws l.t) w.as_slice.ensures in
          rw (w.t-is, put ∙ sym (ap (λ r. stored s.w l.i s.k items r l.t) w.in-Some.is)) more
      | in_default w ↦ rw (w.t-is, sym (ap (λ r. stored s.w l.i s.k items r l.t) w.in_default.is)) more
    ]
