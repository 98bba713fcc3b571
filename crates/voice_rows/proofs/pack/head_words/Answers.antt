use Prim.Native.Nat.{ℕ, ◌%◌}
use native.Mathlib.Omega.{arith}
use mathlib.Core.Path.{◌≡◌, refl, ap}
use Rattle.words.proofs.Bytes.{long_back}
use Rattle.node.specs.declared.record.VoiceId.{VoiceId}
use Rattle.voice_rows.specs.Rows.{headed}
use Rattle.voice_rows.proofs.Records.{voice_same}
use Rattle.voice_rows.proofs.pack.head_words.Goals as goal

abbrev voice : ℕ → VoiceId
voice x = record { 0 = x }

pub returns : goal.returns
unfolding headed
returns c =
    let v = c.args.v in
    let id = long_back v.id.0 _ _ c.low_word.ensures c.high_word.ensures in
    let birth = long_back v.birth _ _ c.low_word-2.ensures c.high_word-2.ensures in
    let held = long_back v.params.count _ _ c.low_word-3.ensures c.high_word-3.ensures in
    let output : c.from.result % 256 ≡ v.plan.output = omega (arith, c.from.ensures) in
    record {
      long = refl;
      back =
          voice_same _ v (ap voice id) birth refl refl refl refl refl c.flag_word.ensures refl refl c.state_words-s.ensures.back
          (ap (λ (n : ℕ). record { rows = v.params.rows; count = n }) held)
          (ap (λ (n : ℕ). record { steps = v.plan.steps; output = n }) output);
    }
