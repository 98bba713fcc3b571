-- `bus::derive_noise_seed` meets its contract.
use Rattle.std.proofs.Common.{refl}
use Rattle.bus.proofs.Digits.{seed_is}
use Rattle.bus.proofs.derive_noise_seed.Goals as goal

pub returns : goal.returns
returns c = seed_is c.args.sequence c.args.node _ _ refl refl
