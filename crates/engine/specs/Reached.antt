-- A store that a list of calls left, from one that an accepted making gave; and what the ledger's claim says of it.
use Rattle.std.specs.Prelude.{◌≡◌, ◌<◌, ℕ, List, Some}
use Rattle.lists.specs.Member.{In}
use Rattle.model.specs.Call.{Call}
use Rattle.model.specs.Model.{Model}
use Rattle.model.specs.Make.{Making, config_of, make}
use Rattle.ledger.specs.Claim.{Claim, after, node_ids}
use Rattle.replaced.specs.Replaced.{Replaced}

pub record Reached (m : Model) : Type 0 where
  pub making : Making
  pub new : Model
  pub accepted : make making ≡ Some new
  pub calls : List Call
  pub is : m ≡ after new calls

-- Some making and some calls left the store, and of them there holds:
pub record Claimed (m : Model) : Type 0 where
  pub reached : Reached m
  -- no call changes what making fixed
  pub config : m.shared.config ≡ config_of reached.making
  -- a live node has an id that was given out
  pub ids : (k : ℕ) → In k (node_ids m.shared.graph.nodes) → k < m.shared.graph.next
  -- the ledger's claim
  pub claim : Claim (config_of reached.making) reached.new reached.calls
  -- the store is, but for its pending events, as if every accepted event had been kept
  pub replaced : Replaced reached.new reached.calls
