-- What prepare promises on the lent tables. What its parts compute stands in crate prepare (specs/Parts).
use Rattle.std.specs.Prelude.{ℕ, ◌≡◌, List, map, Bool, Result, Ok, Err}
use Rattle.std.specs.Result.{result_and, result_unwrap_or}
use Rattle.node.specs.declared.record.Node.{Node}
use Rattle.node.specs.declared.record.NodeId.{NodeId}
use Rattle.node.specs.declared.record.Edge.{Edge}
use Rattle.node.specs.declared.refusal.Refusal.{Refusal}
use Rattle.words.specs.Place.{Holds}
use Rattle.prepare.specs.Live.{as_id}
use Rattle.prepare.specs.Prepare.{prepare}
use Rattle.prepare.specs.Parts.{Plugged, rows_lack}

-- the node ids in the order table
abbrev pub ids_in : List ℕ → List NodeId
ids_in c = map as_id c

-- the answer, and the order that is left, are those of the definition, the order as long as the answer says and empty where it is
-- refused; and then not a word of the table has changed
pub record Prepares (nodes : List Node) (edges : List Edge) (old new : List ℕ) (r : Result ℕ Refusal) : Type 0 where
  pub answer : result_and r (Ok tt) ≡ (prepare nodes edges).answer
  pub order : Holds (ids_in new) (result_unwrap_or r 0) (prepare nodes edges).order
  pub kept : (x : Refusal) → r ≡ Err x → new ≡ old

-- a row of the first n lacks a port, by some flags that say which ports are fed
pub record Lacks (nodes : List Node) (n : ℕ) (from to : List ℕ) (edges : List Edge) (r : Bool) : Type 0 where
  pub flags : List Bool
  pub plugged : Plugged flags n from to edges
  pub is : r ≡ rows_lack flags nodes 0
