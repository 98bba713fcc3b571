-- The lent store that code makes is the model that the ledger's theorem speaks of (SPEC 21.8): a run of calls on lent
-- stores, each by the contract of its function, gives the answers of the model's run, and its last store stands for the
-- model's last state.
use Rattle.std.specs.Prelude.{◌≡◌, List, map}
use Rattle.model.specs.Model.{Model}
use Rattle.model.specs.Make.{Making, config_of}
use Rattle.model.specs.Call.{Call, Answer, Ran, run}
use Rattle.model.specs.Numbers.{number_in}
use Rattle.ledger.specs.Ledger.{new_ledger}
use Rattle.ledger.specs.Call as ledger
use Rattle.ledger.specs.Claim.{Claim}
use Rattle.node.specs.declared.record.NodeId.{NodeId}
use Rattle.voice.specs.declared.policy.BudgetScope.TheVariants.{PerGroup}
use Rattle.isolation.specs.Isolated.{Covered}
use Rattle.isolation.specs.Agree.{Matching, Agreement}
use Rattle.isolation.specs.Store.{StoreIsolation}
use Rattle.replaced.specs.Replaced.{Replaced}
use Rattle.memory.specs.View.{Memory, model_of}

-- What the calls cs on a store that making gave answer, and the store that they leave, are the model's run, of which
-- the ledger's claim holds (SPEC 21.1, 21.2), and the theorems on replaced events (SPEC 21.3) and on isolation (SPEC 21.4).
pub record Refines (k : Making) (m : Model) (cs : List Call) (said : List Answer) (last : Memory) : Type 0 where
  pub ran : ◌≡◌ {A = Ran} (record { answers = said; model = model_of last }) (run cs m)
  pub claimed : Claim (config_of k) m cs
  -- the store is, but for its pending events, as if every accepted event had been kept
  pub replaced : Replaced m cs
  -- under `PerGroup` a bus hears of no other: of whatever list of calls agrees with this one for a bus (SPEC 21)
  pub isolated : k.scope ≡ PerGroup → (ids : Matching) (b₁ b₂ : NodeId) (ds : List Call) → Covered cs (new_ledger (config_of k)) → Covered ds (new_ledger (config_of k))
      → Agreement ids (config_of k) b₁ b₂ cs ds → StoreIsolation k m b₁ b₂ cs ds
  -- and the numbers that they answer are the ledger's
  pub numbers : map number_in said ≡ map number_in (ledger.run cs (new_ledger (config_of k))).answers
