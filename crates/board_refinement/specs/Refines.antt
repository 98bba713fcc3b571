-- The board that code makes is the one that the claim on boards speaks of (SPEC 21.6, 21.8).
use Rattle.std.specs.Prelude.{ℕ, ◌≡◌, List}
use Rattle.node.specs.declared.record.NodeId.{NodeId}
use Rattle.voice.specs.declared.policy.BudgetScope.TheVariants.{PerGroup}
use Rattle.model.specs.Make.{Making, config_of}
use Rattle.ledger.specs.Ledger.{new_ledger}
use Rattle.console.specs.Console.{Console}
use Rattle.console.specs.Begins.{Begins}
use Rattle.isolation.specs.Isolated.{Covered}
use Rattle.isolation.specs.Agree.{Matching}
use Rattle.console_isolation.specs.Isolated.{calls_from}
use Rattle.sealed.specs.Board.{BoardCall, BoardAnswer, BoardRan, board_run, new_board}
use Rattle.sealed.specs.Claim.{BoardClaim}
use Rattle.board_isolation.specs.Agree.{BoardAgreement}
use Rattle.board_isolation.specs.Isolated.{asked_of, let_through, BoardIsolation}
use Rattle.replaced.specs.Replaced.{Replaced}
use Rattle.call_seal.specs.Board.{BoardMemory, board_of}

-- What the calls xs on the new board of the console c, which making gave with n keyboards or with none, answer, and the memory that they leave,
-- are the theory's run, of which the claim holds, and the theorems on replaced events and on isolation.
pub record Refines (k : Making) (n : ℕ) (c : Console) (xs : List BoardCall) (said : List BoardAnswer) (last : BoardMemory) : Type 0 where
  pub ran : ◌≡◌ {A = BoardRan} (record { answers = said; board = board_of last }) (board_run xs (new_board c))
  pub claimed : BoardClaim k n c xs
  -- its store is, but for its pending events, as if every accepted event had been kept
  pub replaced : Replaced c.model (calls_from n (let_through xs c))
  -- under `PerGroup` a bus hears of no other: of whatever board, made alike but for its keyboards, whose calls agree with these for a bus (SPEC 21)
  pub isolated : k.scope ≡ PerGroup → (o : ℕ) (d : Console) → Begins k o d → (ids : Matching) (b₁ b₂ : NodeId) (ys : List BoardCall)
      → Covered (calls_from n (let_through xs c)) (new_ledger (config_of k)) → Covered (calls_from o (let_through ys d)) (new_ledger (config_of k))
      → BoardAgreement ids (config_of k) b₁ b₂ (asked_of xs c) (asked_of ys d) → BoardIsolation k n o c d b₁ b₂ xs ys
