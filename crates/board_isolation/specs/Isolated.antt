-- No bus of a board hears another (SPEC 21.4): of two boards whose consoles were made alike but for their keyboards,
-- which one may have none of, and every two lists of calls that agree for a bus, sealings with their answers among its
-- calls.
use Rattle.std.specs.Prelude.{ℕ, ◌≡◌, List, [], ◌∷◌, cond, Option, None, Some}
use Rattle.node.specs.declared.record.NodeId.{NodeId}
use Rattle.voice.specs.declared.policy.BudgetScope.TheVariants.{PerGroup}
use Rattle.model.specs.Make.{Making, config_of}
use Rattle.ledger.specs.Ledger.{Ledger, new_ledger}
use Rattle.console.specs.Console.{Console, ConsoleCall, console_run}
use Rattle.console.specs.Begins.{Begins}
use Rattle.isolation.specs.Isolated.{Covered}
use Rattle.isolation.specs.Agree.{Matching}
use Rattle.console_isolation.specs.Isolated.{calls_from, ConsoleIsolation}
use Rattle.sealed.specs.declared.refusal.SealRefusal.TheVariants.{Closed}
use Rattle.sealed.specs.Board.{BoardCall, BoardAnswer, refused, board_run, new_board, console_calls}
use Rattle.board_isolation.specs.Agree.{Asked, sealing, passed, shut, asked, is_asked_of, ledger_by, BoardAgreement}

-- what the seal answers: to a sealing its answer, to a closed call 28, to one that is let through nothing
abbrev pub seal_says : Asked → Option BoardAnswer
seal_says (sealing s a) = Some a
seal_says (passed x) = None
seal_says (shut x) = Some (refused Closed)

-- to each of the bus's calls, in their order
abbrev pub seal_tale : NodeId → List Asked → Ledger → List (Option BoardAnswer)
seal_tale b [] l = []
seal_tale b (x ∷ xs) l =
    let rest = seal_tale b xs (ledger_by x l) in
    cond (is_asked_of b x l) (seal_says x ∷ rest) rest

-- what was asked of a new board, and the console's calls that its seal let through
abbrev pub asked_of : List BoardCall → Console → List Asked
asked_of xs c = asked xs (new_board c)

abbrev pub let_through : List BoardCall → Console → List ConsoleCall
let_through xs c = console_calls xs (new_board c)

pub record BoardIsolation (k : Making) (n₁ n₂ : ℕ) (c₁ c₂ : Console) (b₁ b₂ : NodeId) (xs₁ xs₂ : List BoardCall) : Type 0 where
  -- of the bus's calls the seals close the same
  pub seals : seal_tale b₁ (asked_of xs₁ c₁) (new_ledger (config_of k)) ≡ seal_tale b₂ (asked_of xs₂ c₂) (new_ledger (config_of k))
  -- and what they let through gives the bus the same: answers of its spawns, voices, steal records
  pub console : ConsoleIsolation k n₁ n₂ c₁ c₂ b₁ b₂ (let_through xs₁ c₁) (let_through xs₂ c₂)
  -- that is what the consoles of the two boards ran
  pub first : (board_run xs₁ (new_board c₁)).board.console ≡ (console_run (let_through xs₁ c₁) c₁).console
  pub second : (board_run xs₂ (new_board c₂)).board.console ≡ (console_run (let_through xs₂ c₂) c₂).console

-- a closed call meets 28, so only what is let through can meet 7 or 8
abbrev pub BoardIsolated : Type 0
BoardIsolated =
    (k : Making) (n₁ n₂ : ℕ) (c₁ c₂ : Console) → Begins k n₁ c₁ → Begins k n₂ c₂ → k.scope ≡ PerGroup
    → (ids : Matching) (b₁ b₂ : NodeId) (xs₁ xs₂ : List BoardCall)
    → Covered (calls_from n₁ (let_through xs₁ c₁)) (new_ledger (config_of k)) → Covered (calls_from n₂ (let_through xs₂ c₂)) (new_ledger (config_of k))
    → BoardAgreement ids (config_of k) b₁ b₂ (asked_of xs₁ c₁) (asked_of xs₂ c₂)
    → BoardIsolation k n₁ n₂ c₁ c₂ b₁ b₂ xs₁ xs₂
