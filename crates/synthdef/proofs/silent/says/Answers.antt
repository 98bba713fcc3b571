-- `synthdef::silent::says` meets its contract.
use Rattle.std.proofs.Common.{rules, tests}
use Rattle.std.proofs.lemmas.Iterator.{YieldsList-from_slice}
use Rattle.std.proofs.lemmas.Iterator.Search.{all_from_yields_List, any_from_yields_List}
use Rattle.synthdef.specs.Plan.{step_sources, silent_in}
use Rattle.synthdef.proofs.silent.says.Goals as goal

pub returns-then-st : goal.returns-then-st
returns-then-st c =
    rw c.if-st.true (all_from_yields_List (silent_in c.args.s) _ _ _ c.all.ensures.ran (YieldsList-from_slice (step_sources c.args.st) (search rules)) (λ x b q k. search (rules, tests)))

pub returns-else-st : goal.returns-else-st
returns-else-st c =
    rw c.if-st.false (any_from_yields_List (silent_in c.args.s) _ _ _ c.any.ensures.ran (YieldsList-from_slice (step_sources c.args.st) (search rules)) (λ x b q k. search (rules, tests)))
