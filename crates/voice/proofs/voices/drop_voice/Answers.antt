use Rattle.std.proofs.Common.{◌∙◌, sym, ap}
use Rattle.std.specs.List.{position}
use Rattle.voice.specs.Voice.{is_voice}
use Rattle.voice.specs.Voices.{id_of}
use Rattle.lists.proofs.Lone.{dropped, no_row, rest_all, lone_rising}
use Rattle.voice.proofs.voices.drop_voice.Goals as goal

pub returns-in-Some : goal.returns-in-Some
returns-in-Some c =
    c.remove.ensures.items
    ∙ dropped _ _ _ (lone_rising id_of c.args.voice.0 0 _ c.requires) (sym c.in-Some.is ∙ c.voice_row.ensures ∙ ap (position (is_voice c.args.voice)) c.as_slice.ensures.value)

pub returns-in_default : goal.returns-in_default
returns-in_default c = sym (rest_all _ _ (no_row (is_voice c.args.voice) _ (sym c.in_default.is ∙ c.voice_row.ensures ∙ ap (position (is_voice c.args.voice)) c.as_slice.ensures.value)))
