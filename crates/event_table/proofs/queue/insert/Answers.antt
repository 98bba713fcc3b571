use Rattle.std.proofs.Common.{◌≡◌, ◌/◌, ◌≤◌, ◌<◌, ◌∷◌, ◌++◌, length, take, drop, sym, ap, ◌∙◌, arith, rules}
use Rattle.std.proofs.Math.Seq.{take-take, length-take-le}
use Rattle.words.proofs.InWords.{open_put}
use Rattle.event_table.specs.Rows.{event_of, events_in}
use Rattle.event_table.proofs.Room.{room}
use Rattle.event_table.proofs.queue.insert.Goals as goal

pub returns : goal.returns
returns c =
    let t = c.args.t.now in
    let n = c.args.n in
    let e = c.args.e in
    let p = c.place-p.result in
    let all : length t ≡ 3840 = search rules in
    let fit : n ≤ length (events_in t) = omega (arith, room t all) in
    let long : length (take n (events_in t)) ≡ n = length-take-le n (events_in t) fit in
    let below : p ≤ n = omega (arith, c.place-p.ensures.within) in
    let more : n < length t / 15 = omega (arith, ap (λ k. k / 15) all) in
    open_put 15 event_of t c.open_row.new.t c.put_event.new.t n p e more below c.open_row.ensures c.put_event.ensures
    ∙ ap (λ l. l ++ (e ∷ drop p (take n (events_in t)))) (sym (take-take p n (events_in t) below))
    ∙ sym c.place-p.ensures.splits
