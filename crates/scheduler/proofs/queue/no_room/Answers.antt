use Rattle.std.proofs.Common.{rules, tests, ◌≡◌, ◌∙◌, ap, sym, not, ◌&&◌, length, true, false}
use Rattle.std.specs.List.{list_any}
use Rattle.std.proofs.lemmas.Iterator.{YieldsList-from_slice}
use Rattle.std.proofs.lemmas.Iterator.Search.{any_from_yields_List}
use lib.Dec.{leb}
use Rattle.scheduler.specs.Replace.{replaces}
use Rattle.scheduler.proofs.Halved.{full_left}
use Rattle.scheduler.proofs.queue.no_room.Goals as goal

pub returns-then-is_full : goal.returns-then-is_full
returns-then-is_full c =
    let full : leb 256 (length c.args.events.now.items) ≡ true = search rules in
    let e = any_from_yields_List (replaces c.args.e.now) _ _ c.any.result c.any.ensures.ran (YieldsList-from_slice c.as_slice.result.now (search rules)) (λ x b q k. search (rules, tests)) in
    ap not (e ∙ ap (list_any (replaces c.args.e.now)) c.as_slice.ensures.value)
    ∙ ap (λ b. b && not (list_any (replaces c.args.e.now) c.args.events.now.items)) (sym full)
    ∙ sym (full_left (replaces c.args.e.now) c.args.events.now.items c.is_full.ensures.fits)

pub returns-else-is_full : goal.returns-else-is_full
returns-else-is_full c =
    let off : leb 256 (length c.args.events.now.items) ≡ false = search (rules, tests) in
    c.if-is_full.false
    ∙ ap (λ b. b && not (list_any (replaces c.args.e.now) c.args.events.now.items)) (sym off)
    ∙ sym (full_left (replaces c.args.e.now) c.args.events.now.items c.is_full.ensures.fits)
