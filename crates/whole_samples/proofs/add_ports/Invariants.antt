-- `whole_samples::add_ports` meets its contract: the blocks before `at` are added, and those that are left make the sums whole.
use Rattle.std.proofs.Common.{ℕ, ◌<◌, ◌-◌, ◌*◌, ltb, get_or}
use Rattle.whole_bus.proofs.Raising.{Porting}
use Rattle.whole_samples.proofs.add_ports.Given as goal

abbrev pub invariant-loop : goal.invariant-loop
invariant-loop l = Porting l.inputs l.n l.initial.sums l.sums (ltb l.bits 16777216) l.at (l.n - 2 * l.counter) × ((j : ℕ) → get_or l.sums j 0 < 4294967296)
