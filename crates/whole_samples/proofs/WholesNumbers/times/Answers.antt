-- `whole_samples::WholesNumbers::times` meets its contract.
use Rattle.std.proofs.Common.{ℕ, ℤ, ◌+◌, ◌*◌, ◌/◌, ◌-ℤ◌, ap, ◌∙◌, w32, to_z, of_z}
use Rattle.whole_bus.specs.Sample.{full, half}
use Rattle.whole_bus.proofs.Machine.{read_faded}
use Rattle.whole_samples.proofs.WholesNumbers.times.Goals as goal

-- what is returned, of the raised sample and the gain as they are multiplied
abbrev returned : ℕ → ℕ → ℕ → ℤ
returned gain raised widened = to_z w32 (of_z w32 (to_z w32 ((raised * widened + half) / full) -ℤ to_z w32 gain))

pub returns : goal.returns
returns c =
    let g = c.args.gain in
    ap (returned g c.from.result) c.from-2.ensures ∙ ap (λ (n : ℕ). returned g n g) c.from.ensures ∙ read_faded c.args.x g c.requires.0 c.requires.1
