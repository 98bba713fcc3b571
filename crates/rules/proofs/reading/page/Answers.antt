use Rattle.rules.proofs.Pages.{page_law}
use Rattle.rules.proofs.reading.page.Goals as goal

pub returns : goal.returns
returns c = page_law
