-- What the contract of every call on a lent store says. A contract speaks of the tables that its function was lent, and holds
-- whatever stands in the others: a table that is no parameter cannot change.
use Rattle.node.specs.declared.record.NodeId.{NodeId}
use Rattle.node.specs.declared.refusal.Refusal.{Refusal}
use Rattle.std.specs.Prelude.{◌≡◌, List, [], ◌∷◌, Bool, true, false, not, ℕ, eqb, Option, None, Some, Err, Ok, Result}
use Rattle.model.specs.Call.{Call, Answer, Step, step, done, refused, node}
use Rattle.model.specs.Numbers.{number_in}
use Rattle.memory.specs.View.{Memory, model_of}

-- from the store m the call c answers a and leaves the store n
abbrev pub Called : Call → Memory → Answer → Memory → Type 0
Called c m a n = ◌≡◌ {A = Step} (record { answer = a; model = model_of n }) (step c (model_of m))

-- "Each refusal returns its number and leaves store and buffers unchanged"; only after 12, "no port", do the steals and reclaims
-- that were made before it stand
abbrev pub keeps : Option ℕ → Bool
keeps None = false
keeps (Some n) = not (eqb n 12)

-- such a refusal leaves the very memory: the state, and every word of the tables
abbrev pub Kept : Answer → Memory → Memory → Type 0
Kept a m n = keeps (number_in a) ≡ true → n ≡ m

-- an answer in the model's words
abbrev pub answered : Result (Unit {0}) Refusal → Answer
answered (Ok tt) = done
answered (Err r) = refused r

abbrev pub add_answered : Result NodeId Refusal → Answer
add_answered (Ok k) = node k
add_answered (Err r) = refused r

-- a list of calls on a lent store: each gets what the last left
pub data Runs : Memory → List Call → List Answer → Memory → Type 0 where
  ends : {m : Memory} → Runs m [] [] m
  calls : {m n o : Memory} {c : Call} {cs : List Call} {a : Answer} {said : List Answer} → Called c m a n → Runs n cs said o → Runs m (c ∷ cs) (a ∷ said) o
