use Rattle.std.proofs.Common.{rules, tests, ◌∙◌}
use Rattle.std.proofs.lemmas.Iterator.{YieldsList-from_slice}
use Rattle.std.proofs.lemmas.Iterator.Search.{any_from_yields_List}
use Rattle.scheduler.specs.declared.event.Event.{Event}
use Rattle.model.specs.Render.{is_free}
use Rattle.engine.proofs.Doing.{any_free_is}
use Rattle.engine.proofs.render.any_free.Goals as goal

pub returns : goal.returns
returns c =
    any_from_yields_List (λ (e : Event). is_free e.action) _ _ c.any.result c.any.ensures.ran (YieldsList-from_slice c.args.events.now (search rules)) (λ x b q k. search (rules, tests))
    ∙ any_free_is c.args.events.now
