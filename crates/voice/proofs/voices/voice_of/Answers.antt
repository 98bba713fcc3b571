use Rattle.std.proofs.Common.{◌∙◌, sym}
use Rattle.voice.specs.Voice.{is_voice}
use Rattle.lists.proofs.Lone.{find_row, no_row}
use Rattle.voice.proofs.voices.voice_of.Goals as goal

pub returns-in_err-at : goal.returns-in_err-at
returns-in_err-at c = c.from_residual.ensures ∙ sym (no_row (is_voice c.args.voice) _ (sym (c.in_err-at.was) ∙ c.voice_row.ensures))

pub returns : goal.returns
returns c = sym (find_row (is_voice c.args.voice) _ _ _ (sym (c.in_ok-at.was) ∙ c.voice_row.ensures))
