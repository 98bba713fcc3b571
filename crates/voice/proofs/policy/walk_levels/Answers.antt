use mathlib.Core.Path.{sym, ◌∙◌}
use Rattle.std.proofs.Common.{rules, tests}
use Rattle.std.specs.Prelude.{None}
use Rattle.std.proofs.lemmas.Iterator.{YieldsList-from_slice}
use Rattle.std.proofs.lemmas.Iterator.Consumers.{YieldsList-from_enumerate, fold_from_yields_List}
use Rattle.voice.proofs.Walked.{step, walk_fold}
use Rattle.voice.proofs.policy.walk_levels.Goals as goal

pub returns : goal.returns
returns c =
    fold_from_yields_List _ step _ _ c.fold.ensures.ran (YieldsList-from_enumerate (YieldsList-from_slice c.args.all.now (cc)) (cc)) (λ a x b q k. search (rules, tests))
    ∙ sym (walk_fold None 0 c.args.all.now)
