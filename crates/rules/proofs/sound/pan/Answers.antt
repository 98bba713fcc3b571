use Rattle.rules.proofs.Pans.{pan_law, pan_wires}
use Rattle.rules.proofs.sound.pan.Goals as goal

pub returns : goal.returns
returns c = record { nodes = pan_law; wires = pan_wires }
