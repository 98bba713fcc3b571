-- The console that code makes is the one that the claim on consoles speaks of (SPEC 21.5, 21.8).
use Rattle.std.specs.Prelude.{ℕ, ◌≡◌, List}
use Rattle.node.specs.declared.record.NodeId.{NodeId}
use Rattle.voice.specs.declared.policy.BudgetScope.TheVariants.{PerGroup}
use Rattle.model.specs.Make.{Making, config_of}
use Rattle.ledger.specs.Ledger.{new_ledger}
use Rattle.console.specs.Console.{Console, ConsoleCall, ConsoleAnswer, ConsoleRan, console_run}
use Rattle.console.specs.Claim.{ConsoleClaim}
use Rattle.console.specs.Begins.{Begins}
use Rattle.isolation.specs.Isolated.{Covered}
use Rattle.isolation.specs.Agree.{Matching, Agreement}
use Rattle.console_isolation.specs.Isolated.{calls_from, ConsoleIsolation}
use Rattle.replaced.specs.Replaced.{Replaced}
use Rattle.call_console.specs.Called.{ConsoleMemory, console_of}

-- What the calls xs on the console c of n keyboards that making gave answer, and the memory that they leave, are the theory's run, of
-- which the claim holds, and the theorems on replaced events and on isolation.
pub record Refines (k : Making) (n : ℕ) (c : Console) (xs : List ConsoleCall) (said : List ConsoleAnswer) (last : ConsoleMemory) : Type 0 where
  pub ran : ◌≡◌ {A = ConsoleRan} (record { answers = said; console = console_of last }) (console_run xs c)
  pub claimed : ConsoleClaim k n c xs
  -- its store is, but for its pending events, as if every accepted event had been kept
  pub replaced : Replaced c.model (calls_from n xs)
  -- under `PerGroup` a bus hears of no other: of whatever console, made alike but for its keyboards, whose calls agree with these for a bus (SPEC 21)
  pub isolated : k.scope ≡ PerGroup → (o : ℕ) (d : Console) → Begins k o d → (ids : Matching) (b₁ b₂ : NodeId) (ys : List ConsoleCall)
      → Covered (calls_from n xs) (new_ledger (config_of k)) → Covered (calls_from o ys) (new_ledger (config_of k))
      → Agreement ids (config_of k) b₁ b₂ (calls_from n xs) (calls_from o ys) → ConsoleIsolation k n o c d b₁ b₂ xs ys
