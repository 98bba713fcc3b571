use Rattle.rules.proofs.Reports.{voice_levels, level_asked, record_law}
use Rattle.rules.proofs.sound.voice_level.Goals as goal

pub returns : goal.returns
returns c = record { level = voice_levels; asked = level_asked; recorded = record_law }
