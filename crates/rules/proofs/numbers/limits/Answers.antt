use Rattle.rules.proofs.Limits.{making, hosts, definitions, spawns, blocks, times}
use Rattle.rules.proofs.numbers.limits.Goals as goal

pub returns : goal.returns
returns c = record { making = making; host = hosts; definition = definitions; spawn = spawns; block = blocks; time = times }
