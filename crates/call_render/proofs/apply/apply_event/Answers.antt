use mathlib.Core.Path.{refl, sym, subst, ◌∙◌}
use lib.ListN.{take}
use Rattle.voice_rows.specs.Rows.{voices_in}
use Rattle.graph_rows.specs.Node.{nodes_in}
use Rattle.call_param.specs.Left.{order_left}
use Rattle.call_param.specs.Replies.{Replies}
use Rattle.call_render.proofs.Events.{applied_free, applied_order}
use Rattle.call_render.proofs.apply.apply_event.Goals as goal

pub returns-then-is_free : goal.returns-then-is_free
returns-then-is_free c =
    let s = c.args in
    applied_free (take s.s.voices (voices_in s.voices.now)) s.e (take s.s.nodes (nodes_in s.nodes.now)) s.freed.now (sym c.is_free.ensures ∙ c.if-is_free.true) c.note.new.freed c.note.result c.note.ensures

pub returns : goal.returns
returns c =
    let s = c.args in
    let r = c.order_voice in
    let p = c.param_order-p in
    let vs = take s.s.voices (voices_in s.voices.now) in
    let ns = take s.s.nodes (nodes_in s.nodes.now) in
    let replies = subst (λ l. Replies s.nodes.now r.new.nodes s.s.nodes r.result (order_left l s.e.voice p.result.name p.result.order vs ns)) c.as_slice.ensures r.ensures in
    applied_order (take s.s.voices (voices_in s.voices.now)) s.e (take s.s.nodes (nodes_in s.nodes.now)) s.freed.now (sym c.is_free.ensures ∙ c.if-is_free.false) c.param_order-p.result c.param_order-p.ensures s.nodes.now r.new.nodes s.s.nodes r.result refl replies
