use mathlib.Core.Path.{refl, ap, ◌∙◌}
use Rattle.memory.specs.Lent.{lent_spawn}
use Rattle.std.specs.Prelude.{Option, ℕ}
use Rattle.call_console.specs.Queues.{wishes_of, picked_at}
use Rattle.call_console.proofs.Calls.{serves}
use Rattle.call_console.proofs.turning.turn.Goals as goal

pub oldest_wish-oldest-requires : goal.oldest_wish-oldest-requires
oldest_wish-oldest-requires c = c.next_keyboard.ensures.waits _ c.in-Some.is

pub returns : goal.returns
returns c =
    let a = c.args in
    let ws = wishes_of a.w a.wishes.now in
    let got = c.spawn_voice-spawned in
    let pick = c.next_keyboard.ensures.is a.wishes.now ∙ ap (λ (k : Option ℕ). picked_at k ws) c.in-Some.is in
    let waits = c.next_keyboard.ensures.waits _ c.in-Some.is in record {
      is = λ m.
          serves (lent_spawn a.s a.nodes.now a.edges.now a.voices.now a.steals.now m)
          (lent_spawn got.result.state got.new.nodes got.new.edges got.new.voices got.new.steals m) a.w c.drop_oldest-left.result a.wishes.now c.in-Some.keyboard
          c.oldest_wish-oldest.result got.result.answer waits c.oldest_wish-oldest.ensures pick (c.drop_oldest-left.ensures a.wishes.now) (got.ensures.is m);
      same = λ m. (refl, got.ensures.same m);
    }
