use Rattle.std.proofs.Common.{◌+◌, ◌*◌, [], take}
use Rattle.model.specs.Page.{port_now, page}
use Rattle.engine.specs.Text.{Added}
use Rattle.engine.proofs.page.page_text.Given as goal

-- the header, and the lines of the voices so far
abbrev pub invariant-loop-v : goal.invariant-loop-v
invariant-loop-v l =
    Added (21 + 70 * l.v-index) (page l.clock (port_now l.edges) (take l.v-index l.voices)) [] l.page.items
