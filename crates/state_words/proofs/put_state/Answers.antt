use Rattle.state_words.specs.State.{state_in, state_back}
use mathlib.Core.Path.{ap, ◌∙◌}
use Rattle.state_words.proofs.put_state.Goals as goal

pub returns : goal.returns
returns c = ap state_in c.state_words.ensures ∙ state_back c.args.s
