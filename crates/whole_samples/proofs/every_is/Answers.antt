-- `whole_samples::every_is` meets its contract.
use Rattle.std.proofs.Common.{ℕ, eqb, ◌∙◌, rules, tests}
use Rattle.std.proofs.lemmas.Iterator.{YieldsList-from_slice}
use Rattle.std.proofs.lemmas.Iterator.Search.{all_from_yields_List}
use Rattle.whole_bus.proofs.Ranges.{all_is_every}
use Rattle.whole_samples.proofs.every_is.Goals as goal

pub returns : goal.returns
returns c =
    all_from_yields_List (λ (m : ℕ). eqb m c.args.n) _ _ _ c.all.ensures.ran (YieldsList-from_slice c.args.counts.now cc) (λ x b q k. search (rules, tests))
    ∙ all_is_every (λ (m : ℕ). eqb m c.args.n) c.args.counts.now
