-- For consoles turns stand for the spawns they serve, and wishes for nothing (SPEC 21.4). So the theorem that no bus
-- hears another is said of the store's calls that a list of a console's calls makes, and holds of the stores of two
-- consoles that were made alike but for their keyboards, which one may have none of.
use Rattle.std.specs.Prelude.{ℕ, ◌≡◌, List}
use Rattle.node.specs.declared.record.NodeId.{NodeId}
use Rattle.voice.specs.declared.policy.BudgetScope.TheVariants.{PerGroup}
use Rattle.model.specs.Make.{Making, config_of}
use Rattle.model.specs.Call.{Call}
use Rattle.ledger.specs.Ledger.{new_ledger}
use Rattle.ledger.specs.Claim.{after}
use Rattle.console.specs.Wishes.{new_wishes}
use Rattle.console.specs.Console.{Console, ConsoleCall, console_run, store_calls}
use Rattle.console.specs.Begins.{Begins}
use Rattle.isolation.specs.Isolated.{Covered, Isolation}
use Rattle.isolation.specs.Agree.{Matching, Agreement}
use Rattle.isolation.specs.Store.{StoreIsolation}

-- the calls of the store that these make on a new console of n keyboards
abbrev pub calls_from : ℕ → List ConsoleCall → List Call
calls_from n xs = store_calls xs (new_wishes n)

pub record ConsoleIsolation (k : Making) (n₁ n₂ : ℕ) (c₁ c₂ : Console) (b₁ b₂ : NodeId) (xs₁ xs₂ : List ConsoleCall) : Type 0 where
  -- entry by entry, on the ledger
  pub told : Isolation (config_of k) b₁ b₂ (calls_from n₁ xs₁) (calls_from n₂ xs₂)
  -- and on the store: answers, voices, ports, victims, and the bus's records after these calls
  pub store : StoreIsolation k c₁.model b₁ b₂ (calls_from n₁ xs₁) (calls_from n₂ xs₂)
  -- which are the stores of the two consoles
  pub first : (console_run xs₁ c₁).console.model ≡ after c₁.model (calls_from n₁ xs₁)
  pub second : (console_run xs₂ c₂).console.model ≡ after c₁.model (calls_from n₂ xs₂)

abbrev pub ConsoleIsolated : Type 0
ConsoleIsolated =
    (k : Making) (n₁ n₂ : ℕ) (c₁ c₂ : Console) → Begins k n₁ c₁ → Begins k n₂ c₂ → k.scope ≡ PerGroup
    → (ids : Matching) (b₁ b₂ : NodeId) (xs₁ xs₂ : List ConsoleCall)
    → Covered (calls_from n₁ xs₁) (new_ledger (config_of k)) → Covered (calls_from n₂ xs₂) (new_ledger (config_of k))
    → Agreement ids (config_of k) b₁ b₂ (calls_from n₁ xs₁) (calls_from n₂ xs₂)
    → ConsoleIsolation k n₁ n₂ c₁ c₂ b₁ b₂ xs₁ xs₂
