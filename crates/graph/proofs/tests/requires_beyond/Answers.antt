use mathlib.Core.Path.{sym, ◌∙◌}
use borrow.Author.Tests.{le-ltb}
use Rattle.graph.proofs.Bits.{shifted, past_64}
use Rattle.graph.proofs.tests.requires_beyond.Goals as goal

pub returns-then-ports-lt64 : goal.returns-then-ports-lt64
returns-then-ports-lt64 c = shifted c.args.ports c.args.required

pub returns-else-ports-lt64 : goal.returns-else-ports-lt64
returns-else-ports-lt64 c =
    le-ltb c.args.ports 64 c.if-ports-lt64.false ∙ sym (past_64 c.args.ports c.args.required c.ranges.required.fits c.if-ports-lt64.false)
