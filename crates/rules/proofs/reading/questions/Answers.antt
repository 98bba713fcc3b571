use Rattle.rules.proofs.Questions.{questions}
use Rattle.rules.proofs.reading.questions.Goals as goal

pub returns : goal.returns
returns c = questions
