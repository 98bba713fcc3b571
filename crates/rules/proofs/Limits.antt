-- The rows of the numbers, computed.
use Prim.Native.Nat.{ℕ}
use native.Mathlib.Omega.{arith}
use mathlib.Core.Path.{refl}
use lib.Ieee.{eq, of_int, round, odd, span, size, climb, units}
use Rattle.rank.specs.Order.{among, fed, released, walk, order, whole, count_up}
use Rattle.bus.specs.Rate.{rate_of}
use Rattle.bus.specs.Block.{each, block_of}
use Rattle.bus.specs.Sum.{channels, every_is_channels, summed_by, sum_fits}
use Rattle.whole_bus.specs.Block.{every}
use Rattle.whole_bus.specs.Sample.{faded_sample, clipped}
use Rattle.rules.specs.Numbers.{Holds, making_rows, host_rows, definition_rows, spawn_rows, block_rows, time_rows, FadeLength}

pub making : Holds making_rows
unfolding making_rows rate_of of_int round odd span size climb units
making = refl

pub hosts : Holds host_rows
unfolding host_rows count_up
hosts = refl

pub definitions : Holds definition_rows
unfolding definition_rows eq whole order walk released fed among count_up
definitions = refl

pub spawns : Holds spawn_rows
unfolding spawn_rows eq whole order walk released fed among count_up
spawns = refl

pub blocks : Holds block_rows
unfolding block_rows each block_of channels every_is_channels summed_by sum_fits every faded_sample clipped
blocks = refl

pub times : Holds time_rows
unfolding time_rows eq whole order walk released fed among count_up
times = refl

pub fade_lengths : (rate : ℕ) → FadeLength rate
fade_lengths rate = record { least = omega arith; up = omega arith; down = λ h. omega arith; short = λ h. omega arith }
