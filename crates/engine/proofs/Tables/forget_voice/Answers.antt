use Rattle.std.proofs.Common.{◌∙◌, ap}
use Rattle.model.specs.Model.{without_voice}
use Rattle.engine.specs.contracts.Tables.{the_view}
use Rattle.engine.proofs.Tables.forget_voice.Goals as goal

pub returns : goal.returns
returns c = c.forget.ensures (the_view c.self.inside).shared ∙ ap (without_voice c.args.voice) c.self.view_is
