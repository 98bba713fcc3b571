use Rattle.std.proofs.Common.{◌≡◌, ◌∙◌, sym, min, map, length}
use Rattle.rank.specs.Order.{upto, arcs, whole}
use Rattle.rank.specs.Parts.{Ranked}
use Rattle.prepare.specs.Live.{live_ids, arc_of}
use Rattle.prepare.specs.Required.{lacking}
use Rattle.prepare.specs.Parts.{source_row, target_row}
use Rattle.graph.proofs.Sorting.{lacks_as, whole_as, fit, named_as, ranked_as, refused_13, refused_14, accepted}
use Rattle.graph.proofs.topological_sort.topological_sort.Goals as goal
use Rattle.graph.proofs.topological_sort.topological_sort.Goals.{After-row_lacks, After-ranked-ranking}

-- what the first test says
lacking_is : (c : After-row_lacks) → lacking c.args.nodes.now c.args.edges.now ≡ c.row_lacks.result
lacking_is c = sym (c.row_lacks.ensures ∙ lacks_as c.args.nodes.now c.requires.rises c.requires.few.0 c.args.edges.now c.requires.few.1 c.find_ends-fed.result c.find_ends-fed.ensures.fed)

ranked : (c : After-ranked-ranking) → Ranked c.ranked-ranking.result (upto (min (length c.args.nodes.now) 512)) (arcs (map (source_row (live_ids c.args.nodes.now)) c.args.edges.now) (map (target_row (live_ids c.args.nodes.now)) c.args.edges.now))
ranked c =
    ranked_as c.args.nodes.now c.args.edges.now c.requires.few.1 c.ranked-ranking.result c.as_slice.result.now c.as_slice-2.result.now (c.as_slice.ensures.value ∙ c.find_ends-fed.ensures.from_rows) (c.as_slice-2.ensures.value ∙ c.find_ends-fed.ensures.to_rows)
    c.ranked-ranking.ensures.is c.ranked-ranking.ensures.all c.ranked-ranking.ensures.sized

-- and what the second says
whole_is : (c : After-ranked-ranking) → whole (live_ids c.args.nodes.now) (map arc_of c.args.edges.now) ≡ c.ranked-ranking.result.whole
whole_is c = sym (whole_as c.args.nodes.now c.requires.rises c.requires.few.0 c.args.edges.now c.requires.few.1 c.ranked-ranking.result (ranked c))

pub returns-then-row_lacks : goal.returns-then-row_lacks
returns-then-row_lacks c = refused_13 c.args.nodes.now c.args.edges.now _ (lacking_is (goal.at.returns-then-row_lacks c).After-row_lacks ∙ c.if-row_lacks.true)

pub returns-then-not-ranking : goal.returns-then-not-ranking
returns-then-not-ranking c =
    let p = goal.at.returns-then-not-ranking c in
    refused_14 c.args.nodes.now c.args.edges.now _ (lacking_is p.After-row_lacks ∙ c.if-row_lacks.false) (whole_is p.After-ranked-ranking ∙ c.if-not-ranking.true)

pub name_rows-requires : goal.name_rows-requires
name_rows-requires c =
    let p = goal.at.name_rows-requires c in
    fit c.args.nodes.now c.requires.rises c.requires.few.0 c.args.edges.now c.requires.few.1 c.ranked-ranking.result (ranked p.After-ranked-ranking)

pub returns : goal.returns
returns c =
    let p = goal.at.returns c in
    accepted c.args.nodes.now c.args.edges.now _ (lacking_is p.After-row_lacks ∙ c.if-row_lacks.false) (whole_is p.After-ranked-ranking ∙ c.if-not-ranking.false) _
    (c.name_rows.ensures ∙ named_as c.args.nodes.now c.requires.rises c.requires.few.0 c.args.edges.now c.requires.few.1 c.ranked-ranking.result (ranked p.After-ranked-ranking))
