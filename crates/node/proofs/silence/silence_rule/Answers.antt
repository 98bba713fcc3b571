use Rattle.node.specs.Silence.{silence_pass_through, rules}
use Rattle.node.proofs.silence.silence_rule.Goals as goal

pub returns : goal.returns
unfolding rules silence_pass_through
returns c = c.rule_in.ensures
