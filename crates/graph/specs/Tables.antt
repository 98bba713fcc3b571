-- What the types of the calls stand for: the sink, a row that was looked for, and the answer of a test.
use Rattle.std.specs.Prelude.{Option, None, Some, Result, Err, Ok}
use Rattle.node.specs.declared.refusal.Refusal.{Refusal}

-- the answer of a test
abbrev pub answer_of : Option Refusal → Result (Unit {0}) Refusal
answer_of None = Ok tt
answer_of (Some r) = Err r
