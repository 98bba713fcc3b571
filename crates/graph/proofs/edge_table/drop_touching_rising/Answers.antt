use Rattle.std.proofs.Common.{rules, not, ap, ◌∙◌}
use Rattle.arrayvec.proofs.ArrayVecLemmas.{filter-from_retain}
use Rattle.edges.specs.Wiring.{touches}
use Rattle.graph.proofs.edge_table.drop_touching_rising.Goals as goal

pub returns : goal.returns
returns c = filter-from_retain _ (λ e. not (touches c.args.ids.now e)) _ (λ x b f y called. search (rules, c.requires)) _ _ c.retain.ensures.filtered
