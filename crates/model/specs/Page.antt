-- The service page (SPEC 14.2): a header, and for each voice in voice order its id, its age, the port of its bus that
-- its end feeds now, which need not be the one given at its spawn, and its state in a word.
use Rattle.std.specs.Prelude.{ℕ, ◌-◌, List, [], ◌∷◌, ◌++◌, Option, None, Some}
use Rattle.node.specs.Silence.{bytes}
use Rattle.node.specs.declared.record.Edge.{Edge}
use Rattle.edges.specs.Ports.{port_from}
use Rattle.voice.specs.declared.voices.Voice.{Voice}
use Rattle.voice.specs.declared.voices.VoiceState.{VoiceState}
use Rattle.voice.specs.declared.voices.VoiceState.TheVariants.{Tracked, Fading, Loose}
use Rattle.model.specs.Decimal.{decimal}
use Rattle.voice.specs.Voice.{end_of}

abbrev pub header : List ℕ
header = bytes "voice age port state\n"

abbrev pub word : VoiceState → List ℕ
word Tracked = bytes "held"
word (Fading f) = bytes "fading"
word Loose = bytes "loose"

-- the clock less the birth
abbrev pub age : ℕ → Voice → ℕ
age clock v = clock - v.birth

-- the port of its bus that the voice's end feeds now, or none
abbrev pub port_now : List Edge → Voice → Option ℕ
port_now es v = port_from es (end_of v) v.bus

-- in decimal, or `-`
abbrev pub port_text : Option ℕ → List ℕ
port_text None = bytes "-"
port_text (Some p) = decimal p

-- the line of a voice that feeds the port o
abbrev pub line : ℕ → Option ℕ → Voice → List ℕ
line clock o v = decimal v.id.0 ++ (bytes " " ++ (decimal (age clock v) ++ (bytes " " ++ (port_text o ++ (bytes " " ++ (word v.state ++ bytes "\n"))))))

-- `port` tells which port a voice feeds: the store looks for it among the edges, the ledger among the holders
abbrev pub lines : ℕ → (Voice → Option ℕ) → List Voice → List ℕ
lines clock port [] = []
lines clock port (v ∷ vs) = line clock (port v) v ++ lines clock port vs

abbrev pub page : ℕ → (Voice → Option ℕ) → List Voice → List ℕ
page clock port vs = header ++ lines clock port vs
