use Rattle.rules.proofs.Levels.{level_law}
use Rattle.rules.proofs.sound.level.Goals as goal

pub returns : goal.returns
returns c = level_law
