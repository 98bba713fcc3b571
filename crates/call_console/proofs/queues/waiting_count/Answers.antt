use Prim.Native.Nat.{◌≤◌, ◌<◌, min}
use native.Mathlib.Omega.{arith}
use mathlib.Core.Path.{◌≡◌, refl, sym, ap, ◌∙◌}
use borrow.Author.Rules.{rules}
use lib.ListN.{length, take, get_or, length-take}
use lib.Seq.{get_or-take}
use Rattle.std.specs.Prelude.{None, Some}
use Rattle.wish_rows.specs.Rows.{wishes_in}
use Rattle.console.specs.Wishes.{waiting_at}
use Rattle.call_console.specs.declared.queues.Queue.{Queue}
use Rattle.call_console.specs.Queues.{no_queue, wishes_of}
use Rattle.call_console.proofs.Rings.{waits_is, waits_none, queue_long}
use Rattle.call_console.proofs.queues.waiting_count.Goals as goal

pub returns : goal.returns
returns c =
    λ words.
    let s = c.args.s in
    let q = c.args.q in
    let n = c.min.result in
    let found = c.get.ensures.lookup in
    let eight : length s.queues ≡ 8 = c.well_formed.0.1.1.1.1.0.1.0.1 in
    let long : length (take n s.queues) ≡ min n (length s.queues) = length-take n s.queues in
    elim c.get.result as (λ r. c.get.result ≡ r → c.map_or.result ≡ length (waiting_at q (wishes_of s words))) [
      | None ↦ λ e.
          let h = rw e at found in
          let past : min s.keyboards 8 ≤ q = omega (arith, h.3, long, eight, c.min.ensures) in
          rw e at c.map_or.ensures ∙ sym (ap length (waits_none s words q past))
      | Some x ↦ λ e.
          let h = rw e at found in
          let m = rw e at c.map_or.ensures in
          let inside : q < min s.keyboards 8 = omega (arith, h.3.0, long, eight, c.min.ensures) in
          let below : q < n = omega (arith, inside, c.min.ensures) in
          let counted : c.map_or.result ≡ min x.now.count 16 = search rules in
          counted
          ∙ ap (λ (u : Queue). min u.count 16) (h.3.1 no_queue ∙ get_or-take n s.queues q no_queue below)
          ∙ sym (ap length (waits_is s words q inside) ∙ queue_long (wishes_in words) q (get_or s.queues q no_queue))
    ] refl
