use Rattle.std.proofs.Common.{rules, ◌∙◌, ◌≡◌, sym, ap, true, not, is_some, length}
use lib.Dec.{leb}
use Rattle.edges.specs.Wiring.{ends_at}
use Rattle.lists.proofs.Lone.{some_row, not_swap}
use Rattle.graph.proofs.edge_table.no_place.Goals as goal

pub returns-then-is_full : goal.returns-then-is_full
returns-then-is_full c =
    let full : leb 1024 (length c.args.edges.now.items) ≡ true = search rules in
    rw full (not_swap _ _ (sym c.is_none.ensures) ∙ ap (λ o. not (is_some o)) c.requires ∙ ap not (some_row (ends_at c.args.to c.args.port) _))
