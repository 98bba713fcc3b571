use Prim.Native.Nat.{ℕ}
use mathlib.Core.Path.{ap, ◌∙◌}
use Rattle.node.specs.declared.record.VoiceId.{VoiceId}
use Rattle.voice_rows.proofs.Reading.{voice_row}
use Rattle.voice_rows.proofs.row.id_at.Goals as goal

abbrev voice : ℕ → VoiceId
voice x = record { 0 = x }

pub returns : goal.returns
returns c = let s = c.args in ap voice c.long_at.ensures ∙ (voice_row s.t.now s.i).id
