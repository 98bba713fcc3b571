-- What a call of the store answers and leaves, in the model's words.
use Rattle.std.specs.Prelude.{ℕ, ◌≡◌, List, Result, Ok, Err}
use Rattle.node.specs.declared.record.NodeId.{NodeId}
use Rattle.node.specs.declared.refusal.Refusal.{Refusal}
use Rattle.model.specs.Call.{Call, Question, Answer, Step, step, answer_to, done, refused, node, printed}
use Rattle.model.specs.Page.{port_now}
use Rattle.model.specs.Model.{Model}

-- on the store m the call c answers a, and leaves the store n
abbrev pub Called : Call → Model → Answer → Model → Type 0
Called c m a n = ◌≡◌ {A = Step} (record { answer = a; model = n }) (step c m)

-- the store m answers a to the question q
abbrev pub Asked : Question → Model → Answer → Type 0
Asked q m a = a ≡ answer_to (port_now m.shared.graph.edges) q m

-- a call that is done, or refused
abbrev pub answered : Result (Unit {0}) Refusal → Answer
answered (Ok tt) = done
answered (Err r) = refused r

-- a node that is added, or refused
abbrev pub add_answered : Result NodeId Refusal → Answer
add_answered (Ok k) = node k
add_answered (Err r) = refused r

-- the page, with what the buffer holds then, or refused
abbrev pub page_answered : Result ℕ Refusal → List ℕ → Answer
page_answered (Ok n) out = printed n out
page_answered (Err r) out = refused r
