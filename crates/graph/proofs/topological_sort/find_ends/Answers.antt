use Rattle.std.proofs.Common.{◌≡◌, ◌+◌, ◌∙◌, arith, length, map, drop, get_or, replicate, refl}
use lib.ListN.{length-set}
use Rattle.std.proofs.lemmas.List.{drop_all}
use Rattle.node.specs.declared.record.Edge.{Edge}
use Rattle.prepare.specs.Live.{live_ids}
use Rattle.prepare.specs.Parts.{source_row, target_row, plugs}
use Rattle.prepare.proofs.Ports.{Flags, flags_start, flags_done, flag_from, flag_to, flag_port, flag_set}
use Rattle.graph.specs.Masks.{ports_in}
use Rattle.graph.proofs.Masks.{ports_long, port_set, no_ports}
use Rattle.graph.proofs.Sorting.{mapped_more, turn}
use Rattle.graph.proofs.topological_sort.find_ends.Goals as goal
use Rattle.graph.proofs.topological_sort.find_ends.Goals.{then-source-n+then-target-n+then-e-lt64, else-source-n, else-source-n-via-then-source-n+then-target-n+else-e-lt64, else-source-n-via-then-source-n+else-target-n, else-source-n-via-else-source-n}

abbrev blank : Edge
blank = record { from = record { 0 = 0 }; to = record { 0 = 0 }; port = 0 }

pub loop-e-init : goal.loop-e-init
loop-e-init c =
    let zero = replicate 512 0 in (
      c.requires.none.0,
      c.requires.none.1,
      refl,
      flags_start (ports_in zero) (length c.args.nodes.now) _ _ c.args.edges.now (ports_long zero) (no_ports 512),
    )

pub loop-e-preserved : goal.loop-e-preserved
loop-e-preserved c =
    let es = c.args.edges.now in
    let i = c.loop-e.e-index in
    let e : Edge = get_or es i blank in
    let ids = live_ids c.args.nodes.now in
    let n = length c.args.nodes.now in
    let inv = c.loop-e.invariant in
    let f = c.row_of-source.result in
    let t = c.row_of-target.result in
    let here = turn (ports_in c.loop-e.fed) n (source_row ids) (target_row ids) es i blank _ f t c.loop-e-test.true c.row_of-source.ensures c.row_of-target.ensures inv.3 in
    let fed : (length c.if-source-n.fed ≡ 512) × Flags (ports_in c.if-source-n.fed) n (map (source_row ids) (drop (i + 1) es)) (map (target_row ids) (drop (i + 1) es)) (drop (i + 1) es) (plugs n (map (source_row ids) es) (map (target_row ids) es) es) =
    elim c.if-source-n.branch [
      | then-source-n+then-target-n+then-e-lt64 w ↦ rw w.fed-is (
        length-set c.loop-e.fed t _ ∙ inv.2,
        flag_set (ports_in c.loop-e.fed) _ n f _ t _ e _ _ here
            (port_set c.loop-e.fed t _ _ (omega (arith, inv.2, w.if-target-n.true, c.requires.few.0)) w.if-e-lt64.true w.with_port.ensures)
            w.if-source-n.true w.if-target-n.true w.if-e-lt64.true c.requires.few.0,
      )
      | else-source-n w ↦ rw w.fed-is (
        inv.2,
        elim w.else-source-n.branch [
          | else-source-n-via-then-source-n+then-target-n+else-e-lt64 v ↦ flag_port (ports_in c.loop-e.fed) _ n f _ t _ e _ _ here refl v.if-e-lt64.false
          | else-source-n-via-then-source-n+else-target-n v ↦ flag_to (ports_in c.loop-e.fed) _ n f _ t _ e _ _ here refl v.if-target-n.false
          | else-source-n-via-else-source-n v ↦ flag_from (ports_in c.loop-e.fed) _ n f _ t _ e _ _ here refl v.if-source-n.false
        ],
      )
    ] in (
      c.push.ensures.items ∙ mapped_more (source_row ids) es i blank _ f inv.0 c.row_of-source.ensures c.loop-e-test.true,
      c.push-in-loop-e.ensures.items ∙ mapped_more (target_row ids) es i blank _ t inv.1 c.row_of-target.ensures c.loop-e-test.true,
      fed.0,
      fed.1,
    )

pub returns-clause-fed : goal.returns-clause-fed
returns-clause-fed c =
    let over = drop_all c.loop-e.e-index c.args.edges.now c.loop-e-test.false in
    let inv = rw over at c.loop-e.invariant.3 in
    record { long = inv.0; is = flags_done (ports_in c.loop-e.fed) (length c.args.nodes.now) _ _ _ inv }
