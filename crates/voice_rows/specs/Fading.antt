-- The fade of a voice by its state: none if it does not fade.
use Rattle.std.specs.Prelude.{Option, None, Some}
use Rattle.voice.specs.declared.voices.Fade.{Fade}
use Rattle.voice.specs.declared.voices.VoiceState.{VoiceState}
use Rattle.voice.specs.declared.voices.VoiceState.TheVariants.{Tracked, Fading, Loose}

abbrev pub fading : VoiceState → Option Fade
fading Tracked = None
fading (Fading f) = Some f
fading Loose = None
