-- No bus of a console hears another (SPEC 21.4): the stores of two consoles are those after the calls that the lists
-- make.
use Prim.Native.Nat.{ℕ}
use mathlib.Core.Path.{◌≡◌, sym, ap, ◌∙◌}
use mathlib.Core.List.{List}
use Rattle.lists.proofs.Member.{some_inj}
use Rattle.model.specs.Model.{Model}
use Rattle.model.specs.Make.{Making, config_of}
use Rattle.ledger.specs.Claim.{after}
use Rattle.console.specs.Console.{Console}
use Rattle.console.specs.Begins.{Begins}
use Rattle.console.proofs.Begins.{begun, begun_store}
use Rattle.isolation.proofs.Store.{store_isolated}
use Rattle.isolation.proofs.Theorem.{isolated_up_to_ids}
use Rattle.console_isolation.specs.Isolated.{calls_from, ConsoleIsolated}

-- two consoles made alike have the same store
alike : (k : Making) (n₁ n₂ : ℕ) (c₁ c₂ : Console) → Begins k n₁ c₁ → Begins k n₂ c₂ → c₂.model ≡ c₁.model
alike k n₁ n₂ c₁ c₂ e₁ e₂ = some_inj (sym (begun k n₂ c₂ e₂).store ∙ (begun k n₁ c₁ e₁).store)

pub console_isolated : ConsoleIsolated
console_isolated k n₁ n₂ c₁ c₂ e₁ e₂ per ids b₁ b₂ xs₁ xs₂ h₁ h₂ agree =
    record {
      told = isolated_up_to_ids (config_of k) per ids b₁ b₂ (calls_from n₁ xs₁) (calls_from n₂ xs₂) h₁ h₂ agree;
      store = store_isolated k c₁.model (begun k n₁ c₁ e₁).store per ids b₁ b₂ (calls_from n₁ xs₁) (calls_from n₂ xs₂) h₁ h₂ agree;
      first = (begun_store k n₁ c₁ e₁ xs₁).model;
      second = (begun_store k n₂ c₂ e₂ xs₂).model ∙ ap (λ (m : Model). after m (calls_from n₂ xs₂)) (alike k n₁ n₂ c₁ c₂ e₁ e₂);
    }
