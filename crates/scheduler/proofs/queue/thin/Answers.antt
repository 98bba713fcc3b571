use Rattle.std.proofs.Common.{rules, not}
use Rattle.arrayvec.proofs.ArrayVecLemmas.{filter-from_retain}
use Rattle.scheduler.specs.Replace.{replaces}
use Rattle.scheduler.proofs.queue.thin.Goals as goal

pub returns : goal.returns
returns c = filter-from_retain _ (λ f. not (replaces c.args.e.now f)) _ (λ x b f y called. search rules) _ _ c.retain.ensures.filtered
