use Rattle.std.proofs.Common.{◌≡◌, ◌≤◌, ◌+◌, arith}
use Rattle.model.specs.SharedState.{SharedState}
use Rattle.engine.proofs.Rendered.{render_done}
use Rattle.engine.proofs.Tables.render.Goals as goal

pub returns : goal.returns
returns c =
    let s = c.self.inside in
    let d : SharedState = record { config = s.config; graph = s.graph; events = s.scheduler; steals = s.steals; clock = s.clock; spawned = s.voices.spawned } in
    let a = c.apply_events.new in
    let is-end : c.in-Some.end ≡ s.clock + s.config.block = c.in-Some.ensures.1 in
    let fits : c.in-Some.end ≤ 18446744073709551615 = omega (arith, c.in-Some.ensures.0, is-end) in
    rw (← c.self.view_is)
    (render_done d s.graph a.graph s.voices a.voices c.due-due.result.now c.drain_before.new.self c.any_free-freed.result c.args.out.now a.out c.in-Some.end c.ready-answer.result c.ready-answer.new.self c.finish.new.self
    is-end fits c.if-out-lt256.false c.due-due.ensures.value c.any_free-freed.ensures c.apply_events.ensures.store c.apply_events.ensures.told c.drain_before.ensures c.ready-answer.ensures c.finish.ensures)
