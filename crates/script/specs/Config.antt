-- "flag budgeted, u32 budget, u8 policy (0 reject, 1 oldest, 2 newest, anything else quietest), u8 scope (0 global, anything else per
-- group)" (docs/REPLAY.md).
use Rattle.std.specs.Prelude.{ℕ, cond, false, eqb, Option, Some, None}
use Rattle.std.specs.Float.{binary32}
use Rattle.std.specs.Float.Ieee.{of_bits}
use Rattle.voice.specs.declared.policy.StealPolicy.{StealPolicy}
use Rattle.voice.specs.declared.policy.StealPolicy.TheVariants.{Reject, Oldest, Newest, Quietest}
use Rattle.voice.specs.declared.policy.BudgetScope.{BudgetScope}
use Rattle.voice.specs.declared.policy.BudgetScope.TheVariants.{Global, PerGroup}
use Rattle.store.specs.declared.config.Making.{Making}

abbrev pub budget_of : ℕ → ℕ → Option ℕ
budget_of flag n = cond (eqb flag 0) None (Some n)

abbrev pub policy_of : ℕ → StealPolicy
policy_of n = cond (eqb n 0) Reject (cond (eqb n 1) Oldest (cond (eqb n 2) Newest Quietest))

abbrev pub scope_of : ℕ → BudgetScope
scope_of n = cond (eqb n 0) Global PerGroup

-- "Entries before the first making are played on a store of 48,000 Hz, block 64, no budget"; the rate by its pattern
abbrev pub first_making : Making
first_making = record { rate = of_bits binary32 0x473b8000; block = 64; budget = None; policy = Reject; scope = Global; table = false }
