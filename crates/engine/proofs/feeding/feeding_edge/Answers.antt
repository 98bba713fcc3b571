use Rattle.std.proofs.Common.{◌∙◌, rules, tests}
use Rattle.std.proofs.lemmas.Iterator.{YieldsList-from_slice}
use Rattle.std.proofs.lemmas.Iterator.Search.{find_from_yields_List}
use Rattle.edges.specs.Ports.{feeds}
use Rattle.voice.specs.Voice.{id}
use Rattle.engine.proofs.feeding.feeding_edge.Goals as goal

pub returns : goal.returns
returns c =
    c.copied.ensures
    ∙ find_from_yields_List (feeds (id c.args.from) c.args.to) _ _ c.find.result c.find.ensures.ran (YieldsList-from_slice c.args.edges.now (search rules)) (λ x b q k. search (rules, tests))
