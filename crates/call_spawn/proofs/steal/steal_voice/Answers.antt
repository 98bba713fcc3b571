use native.Mathlib.Omega.{arith}
use mathlib.Core.Path.{◌≡◌, sym, ap, ◌∙◌}
use mathlib.Core.List.{[]}
use mathlib.Core.Bool.{true, false}
use lib.ListN.{get_or}
use borrow.Author.Tests.{not-true, not-false}
use Rattle.std.specs.Prelude.{Some, find, is_some}
use Rattle.voice_rows.specs.Rows.{voice_of, voices_in}
use Rattle.voice_rows.specs.Found.{found_in}
use Rattle.voice.specs.Voice.{is_voice}
use Rattle.model.specs.Spawn.{recorded}
use Rattle.memory.specs.View.{shared_of, model_of}
use Rattle.memory.specs.Lent.{lent_spawn}
use Rattle.bus_room.specs.Reclaimed.{restolen}
use Rattle.call_spawn.specs.Room.{steal_found}
use Rattle.call_spawn.proofs.Rooms.{blank}
use Rattle.call_spawn.proofs.Stealing.{fades, cuts, found_id, feeds_none, feeds_from, feeds_to, feeds_one}
use Rattle.call_spawn.proofs.steal.steal_voice.Goals as goal

pub returns-in_default-fed : goal.returns-in_default-fed
returns-in_default-fed c =
    let a = c.args in
    let fed = c.feeding_edge-fed in
    let told = c.record_steal-told in
    let vs = voices_in a.voices.now in
    let v = get_or vs c.in-Some.row (voice_of []) in
    let is-cut : c.is_none.result ≡ true = not-false c.is_none.result (sym c.is_none.ensures ∙ ap is_some c.in_default-fed.is) in
    λ m.
    let old = lent_spawn a.s a.nodes.now a.edges.now a.voices.now a.steals.now m in
    let mid = lent_spawn told.result a.nodes.now a.edges.now a.voices.now told.new.steals m in
    let found : find (is_voice a.w) (model_of old).voices ≡ Some v = sym c.find_voice.ensures.is ∙ ap (λ r. found_in r vs) c.in-Some.is in
    let is-w = found_id a.w (model_of old).voices v found in
    let is-told = told.ensures old ∙ ap (λ b. restolen (recorded v b (shared_of old)) (model_of old)) is-cut in
    c.forget_voice.ensures mid ∙ cuts v (model_of old) (model_of mid) is-told a.w is-w ∙ feeds_none v (model_of old) c.feeder_at.result c.bus_at-bus.result c.feeder_at.ensures c.bus_at-bus.ensures fed.result fed.ensures c.in_default-fed.is
    ∙ sym (ap (λ o. steal_found o (model_of old)) found)

pub new_fade-f-requires : goal.new_fade-f-requires
new_fade-f-requires c = omega (arith, (c.requires (blank c.args.s)).ids)

pub returns : goal.returns
returns c =
    let a = c.args in
    let fed = c.feeding_edge-fed in
    let e = c.in-Some-fed.e in
    let told = c.record_steal-told in
    let vs = voices_in a.voices.now in
    let v = get_or vs c.in-Some.row (voice_of []) in
    let is-fed : c.is_none.result ≡ false = not-true c.is_none.result (sym c.is_none.ensures ∙ ap is_some c.in-Some-fed.is) in
    λ m.
    let old = lent_spawn a.s a.nodes.now a.edges.now a.voices.now a.steals.now m in
    let mid = lent_spawn told.result a.nodes.now a.edges.now a.voices.now told.new.steals m in
    let found : find (is_voice a.w) (model_of old).voices ≡ Some v = sym c.find_voice.ensures.is ∙ ap (λ r. found_in r vs) c.in-Some.is in
    let is-w = found_id a.w (model_of old).voices v found in
    let is-told = told.ensures old ∙ ap (λ b. restolen (recorded v b (shared_of old)) (model_of old)) is-fed in
    let grown = c.add_fade-grown in
    let more = lent_spawn grown.result grown.new.nodes grown.new.edges a.voices.now told.new.steals m in
    let to = feeds_to v (model_of old) c.feeder_at.result c.bus_at-bus.result c.feeder_at.ensures c.bus_at-bus.ensures fed.result fed.ensures e c.in-Some-fed.is in
    let from = feeds_from v (model_of old) c.feeder_at.result c.bus_at-bus.result c.feeder_at.ensures c.bus_at-bus.ensures fed.result fed.ensures e c.in-Some-fed.is in
    fades v e.port (model_of old) (model_of mid) (model_of more) (c.requires m) is-told a.w e.from e.to is-w from to (grown.ensures mid) c.new_fade-f.result c.new_fade-f.ensures _ c.begin_fade.ensures
    ∙ feeds_one v (model_of old) c.feeder_at.result c.bus_at-bus.result c.feeder_at.ensures c.bus_at-bus.ensures fed.result fed.ensures e c.in-Some-fed.is ∙ sym (ap (λ o. steal_found o (model_of old)) found)
