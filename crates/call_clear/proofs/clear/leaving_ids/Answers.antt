use Prim.Native.Nat.{◌<◌}
use native.Mathlib.Omega.{arith}
use mathlib.Core.Path.{◌≡◌, sym, ap, ◌∙◌}
use mathlib.Core.List.{[]}
use borrow.Author.Rules.{rules}
use lib.ListN.{length, set}
use Rattle.voice_rows.proofs.Words.{voices_long}
use Rattle.node.specs.declared.record.VoiceId.{VoiceId}
use Rattle.words.proofs.InPlace.{gathering_take, gathering_pass}
use Rattle.voice_rows.specs.Rows.{voice_of, voices_in}
use Rattle.call_clear.proofs.Passes.{id_of, gathered}
use Rattle.call_clear.proofs.clear.leaving_ids.Goals as goal
use Rattle.call_clear.proofs.clear.leaving_ids.Goals.{then-leaves, else-leaves}

pub loop-i-preserved : goal.loop-i-preserved
loop-i-preserved g c =
    let a = c.args in
    let l = c.loop-i in
    let vs = voices_in a.voices.now in
    let long : length a.voices.now ≡ 9152 = search rules in
    let below : l.i < length vs = omega (arith, voices_long a.voices.now long, c.min-i-end.ensures, c.loop-i-test.true) in
    elim c.if-leaves.branch [
      | then-leaves w ↦
          let free : l.leaving.count < 64 = omega (arith, l.invariant.0, c.min-i-end.ensures, c.loop-i-test.true) in
          let more = w.push.ensures.counted (omega arith) in
          let kept = w.push.ensures.stored ∙ ap (λ (x : VoiceId). set l.leaving.rows l.leaving.count x.0) w.id_at.ensures in
          rw w.leaving-is (
            omega (arith, l.invariant.0, more),
            λ q tells. rw (kept, more) (gathering_take (voice_of []) q id_of 64 vs l.leaving.rows l.i l.leaving.count below (l.invariant.1 q tells) free (sym (tells l.i c.leaves.result c.leaves.ensures) ∙ w.if-leaves.true)),
          )
      | else-leaves w ↦
          rw w.leaving-is (
            omega (arith, l.invariant.0),
            λ q tells. gathering_pass (voice_of []) q id_of 64 vs l.leaving.rows l.i l.leaving.count below (l.invariant.1 q tells) (sym (tells l.i c.leaves.result c.leaves.ensures) ∙ w.if-leaves.false),
          )
    ]

pub returns : goal.returns
returns g c =
    let a = c.args in
    let l = c.loop-i in
    let long : length a.voices.now ≡ 9152 = search rules in
    let end : l.i ≡ c.min-i-end.result = omega (arith, l.auto.i-end, c.loop-i-test.false) in
    λ q tells. gathered q a.voices.now a.count l.i l.leaving.count l.leaving.rows long (end ∙ c.min-i-end.ensures) (l.invariant.1 q tells)
