use Rattle.std.proofs.Common.{rules, ◌≡◌, ◌∙◌, sym, ap, length, take, get_or}
use Rattle.node.specs.declared.record.Edge.{Edge}
use Rattle.edges.specs.Wiring.{ends_at, wired}
use Rattle.graph.proofs.Grown.{wired_more, wired_more_behind, few_wired, lone_wired_all, fresh_before, fresh_behind}
use Rattle.graph.proofs.edge_table.put_new.Goals as goal

abbrev blank : Edge
blank = record { from = record { 0 = 0 }; to = record { 0 = 0 }; port = 0 }

pub put_behind-requires-clause-lone : goal.put_behind-requires-clause-lone
put_behind-requires-clause-lone c =
    let e : Edge = get_or c.args.es.now c.loop-e.e-index blank in
    rw c.loop-e.invariant.0 (lone_wired_all c.args.edges.now.items (take c.loop-e.e-index c.args.es.now) c.requires.lone e.to e.port)

pub put_behind-requires-clause-fresh : goal.put_behind-requires-clause-fresh
put_behind-requires-clause-fresh c =
    let e : Edge = get_or c.args.es.now c.loop-e.e-index blank in
    let many : c.len-old.result ≡ length c.args.edges.now.items = search rules in
    fresh_behind c.args.edges.now.items c.loop-e.edges.items _ (ends_at e.to e.port) _ many c.loop-e.invariant.1
    (fresh_before c.args.edges.now.items c.args.es.now c.args.next c.loop-e.e-index blank c.requires.below c.requires.above c.loop-e-test.true)

pub put_behind-requires-clause-room : goal.put_behind-requires-clause-room
put_behind-requires-clause-room c = rw c.loop-e.invariant.0 (few_wired c.args.edges.now.items c.args.es.now c.loop-e.e-index c.requires.room c.loop-e-test.true)

pub loop-e-preserved : goal.loop-e-preserved
loop-e-preserved c =
    let i = c.loop-e.e-index in (
      c.put_behind.ensures ∙ ap (λ l. wired l (get_or c.args.es.now i blank)) c.loop-e.invariant.0 ∙ sym (wired_more c.args.edges.now.items c.args.es.now i blank c.loop-e-test.true),
      c.put_behind.ensures
          ∙ wired_more_behind c.args.edges.now.items c.args.es.now c.loop-e.edges.items i blank c.loop-e-test.true c.loop-e.invariant.1
          (fresh_before c.args.edges.now.items c.args.es.now c.args.next i blank c.requires.below c.requires.above c.loop-e-test.true),
    )
