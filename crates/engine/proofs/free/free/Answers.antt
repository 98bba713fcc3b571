use Rattle.std.proofs.Common.{◌∙◌, sym, ap}
use Rattle.model.specs.Model.{freed}
use Rattle.engine.specs.Parts.{store_with}
use Rattle.engine.proofs.free.free.Goals as goal

pub returns-clause-store : goal.returns-clause-store
returns-clause-store c = λ d. c.forget.ensures d ∙ sym (ap (λ o. freed o (store_with c.args.graph.now c.args.voices.now d)) (sym c.find.ensures ∙ c.in-Some.is))
