use Rattle.std.proofs.Common.{◌≡◌, ◌≤◌, ◌<◌, ◌∙◌, ap, sym, subst, length, arith}
use Rattle.console.specs.Wishes.{keyboards, taken_from, Wishes}
use Rattle.board.specs.Queues.{wishes_of}
use Rattle.board.proofs.Queues.{many, less}
use Rattle.board.proofs.keyboards.Keyboards.take.Goals as goal

pub returns : goal.returns
returns g c =
    let i = c.self.inside in
    let q = c.args.q in
    let d = c.index-self-q.result in
    let us = wishes_of i.queues i.count i.next in
    let fits : i.count ≤ length i.queues = omega (arith, c.self.invariant) in
    let counted : keyboards us ≡ i.count = many i.queues i.count i.next fits in
    let asked : q < keyboards us = subst (λ (k : Wishes). q < keyboards k) (sym c.self.view_is) c.requires in
    let below : q < i.count = omega (arith, counted, asked) in
    less i.queues i.count i.next fits q d c.drop_oldest.new.queue c.after-self-inside.result below c.after-self-inside.ensures c.drop_oldest.ensures ∙ ap (taken_from q) c.self.view_is
