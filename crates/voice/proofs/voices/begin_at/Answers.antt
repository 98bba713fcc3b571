use Rattle.std.proofs.Common.{◌∙◌, sym, ap}
use Rattle.std.specs.List.{position}
use lib.ListN.{length-set}
use Rattle.arrayvec.proofs.ArrayVecLemmas.{items-with_items}
use Rattle.lists.proofs.Lone.{no_row, lone_rising, changed_at, changed_none}
use Rattle.voice.specs.declared.voices.VoiceState.TheVariants.{Fading}
use Rattle.voice.specs.Voice.{is_voice, with_state}
use Rattle.voice.specs.Voices.{id_of}
use Rattle.voice.proofs.voices.begin_at.Goals as goal

pub returns-in-Some : goal.returns-in-Some
returns-in-Some c =
    rw c.as_mut_slice.ensures.value
    (items-with_items c.args.rows.now _ (length-set _ _ _)
    ∙ changed_at (is_voice c.args.voice) (with_state (Fading c.args.fade)) _ _ _ (lone_rising id_of c.args.voice.0 0 _ c.requires) (sym c.in-Some.is ∙ c.voice_row.ensures ∙ ap (position (is_voice c.args.voice)) c.as_slice.ensures.value))

pub returns-in_default : goal.returns-in_default
returns-in_default c =
    sym (changed_none (is_voice c.args.voice) (with_state (Fading c.args.fade)) _ (no_row (is_voice c.args.voice) _ (sym c.in_default.is ∙ c.voice_row.ensures ∙ ap (position (is_voice c.args.voice)) c.as_slice.ensures.value)))
