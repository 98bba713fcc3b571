-- The refusals and their numbers (SPEC 20).
use Rattle.std.specs.Prelude.{ℕ, Result, Ok, Err}
use Rattle.node.specs.declared.refusal.Refusal.{Refusal}
use Rattle.node.specs.declared.refusal.Refusal.TheVariants.{SampleRate, BlockSize, BudgetTooLarge, UnknownNode, VoiceNode, PortOrKind, TableFull, IdsUsedUp, DefinitionLimits, BusWithoutPorts, Rejected, NoPort, RequiredPort, Cycle, ClockEnd, LentBlock, ShortBuffer, TableRate, OutOfRange, RankTooHigh}

-- What an answer says: the number of a refusal, or what the call gives. `says` gives this of every call that answers by
-- a result; an enum of its own that a call answers by has a definition that gives it for each of its cases.
pub data Said (A : Type 0) : Type 0 where
  refused : ℕ → Said A
  gives : A → Said A

abbrev pub number_of : Refusal → ℕ
number_of SampleRate = 1
number_of BlockSize = 2
number_of BudgetTooLarge = 3
number_of UnknownNode = 4
number_of VoiceNode = 5
number_of PortOrKind = 6
number_of TableFull = 7
number_of IdsUsedUp = 8
number_of DefinitionLimits = 9
number_of BusWithoutPorts = 10
number_of Rejected = 11
number_of NoPort = 12
number_of RequiredPort = 13
number_of Cycle = 14
number_of ClockEnd = 15
number_of LentBlock = 16
number_of ShortBuffer = 17
-- 02, Paper 7
number_of TableRate = 20
-- 02, Paper 8
number_of OutOfRange = 21
-- 02, Paper 13
number_of RankTooHigh = 26

-- what a call says that answers by a result
abbrev pub says : {A : Type 0} → Result A Refusal → Said A
says (Ok x) = gives x
says (Err r) = refused (number_of r)
