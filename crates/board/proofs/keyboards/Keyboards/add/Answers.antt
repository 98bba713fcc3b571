use Rattle.std.proofs.Common.{◌≡◌, ◌≤◌, ◌<◌, ◌∙◌, ap, sym, false, length, arith}
use Rattle.std.specs.Prelude.{get_or, eqb}
use borrow.Author.Tests.{eqb-false}
use Rattle.console.specs.Wishes.{wish_refusal, Wishes}
use Rattle.console.specs.Console.{added_unless}
use Rattle.board.specs.Queues.{wishes_of}
use Rattle.board.proofs.Queues.{room, more}
use Rattle.board.proofs.keyboards.Keyboards.add.Goals as goal

pub returns-clause-wishes : goal.returns-clause-wishes
returns-clause-wishes g c =
    let i = c.self.inside in
    let q = c.args.q in
    let w = c.args.wish.now in
    let d = c.index-self-q.result in
    let us = wishes_of i.queues i.count i.next in
    let fits : i.count ≤ length i.queues = omega (arith, c.self.invariant) in
    let below : q < i.count = omega (arith, c.if-self-q.false) in
    let old = get_or i.queues q d in
    let test : eqb (length old.items) 16 ≡ false = sym c.is_full.ensures.value ∙ c.if-is_full.false in
    let few : length old.items < 16 = omega (arith, eqb-false _ _ test, c.is_full.ensures.fits) in
    let none = room i.queues i.count i.next fits q w d below few in
    let new = more i.queues i.count i.next fits q w d c.push.new.self below c.push.ensures.items in
    new ∙ sym (ap (λ o. added_unless o q w us) none) ∙ ap (λ (k : Wishes). added_unless (wish_refusal k q) q w k) c.self.view_is
