use Rattle.std.proofs.Common.{◌≡◌, ◌∙◌, sym}
use Rattle.std.specs.Prelude.{Option, None, Some}
use Rattle.lists.proofs.Member.{some_inj}
use Rattle.node.specs.declared.refusal.Refusal.{Refusal}
use Rattle.engine.specs.Called.{page_answered}
use Rattle.page_scene.proofs.Playing.{all_played, made, not_refused, page_is}
use Rattle.page_scene.proofs.scene_page.Goals as goal

pub returns-in_err-store : goal.returns-in_err-store
returns-in_err-store c =
    let never : ◌≡◌ {A = Option Refusal} None (Some c.in_err-store.field-0.0) =
    sym not_refused ∙ c.in_err-store.ensures in
    cc

pub returns : goal.returns
returns c =
    let new = some_inj (sym c.in_ok-store.ensures ∙ made) in
    let store = c.turn-3.new.store in
    let played = all_played c.in_ok-store.store c.open.new.store c.turn.new.store c.turn-2.new.store store
    new c.open.ensures c.turn.ensures c.turn-2.ensures c.turn-3.ensures in
    page_is store (page_answered c.page.result c.page.new.out) c.args.out.now c.page.ensures.is played
