use Prim.Native.Nat.{◌+◌, ◌≤◌}
use native.Mathlib.Omega.{arith}
use mathlib.Core.Path.{◌≡◌}
use lib.ListN.{length}
use Rattle.memory.specs.Lent.{lent_render, lent_processing}
use Rattle.memory.specs.View.{Memory}
use Rattle.call_render.proofs.Whole.{render_done, render_kept}
use Rattle.call_render.proofs.render.render.Goals as goal

pub returns : goal.returns
returns c =
    let s = c.args in
    let a = c.any_free-frees in
    let h = c.apply_events-after in
    let r = c.readied-ready in
    let b = c.block_to-last in
    let end = c.in-Some.end in
    let is-end : end ≡ s.s.clock + s.s.config.block = c.in-Some.ensures.1 in
    let fits : end ≤ 18446744073709551615 = omega (arith, c.in-Some.ensures.0, is-end) in
    let long : 256 ≤ length s.out.now = c.if-out-lt256.false in
    let list = h.new.out in
    let old : Memory → Memory = λ m. lent_render s.s s.nodes.now s.edges.now s.order.now s.voices.now s.events.now m in
    let mid : Memory → Memory = λ m. lent_render h.result.state h.new.nodes h.new.edges s.order.now h.new.voices h.new.events m in
    let then : Memory → Memory = λ m. lent_render r.result.state h.new.nodes h.new.edges r.new.order h.new.voices h.new.events m in
    let last : Memory → Memory = λ m. lent_render b.result.state h.new.nodes h.new.edges r.new.order b.new.voices h.new.events m in
    record { is = λ m. render_done (old m) (mid m) (then m) (last m) a.result r.result b.result s.out.now list h.result.answer end is-end fits long a.ensures (h.ensures (lent_processing m.state s.order.now m)) (r.ensures (mid m)) (b.ensures (then m)); same = λ m. render_kept (old m) (mid m) (then m) (last m) a.result r.result b.result s.out.now list h.result.answer end is-end fits long a.ensures (h.ensures (lent_processing m.state s.order.now m)) (r.ensures (mid m)) (b.ensures (then m)) }
