-- What a fade or a sum of lent blocks answers, and the output as it leaves it (SPEC 15). Definitions only.
use Rattle.std.specs.Prelude.{Bool, ◌&&◌, cond, List, Result, Err, Ok}
use Rattle.node.specs.declared.refusal.Refusal.{Refusal}
use Rattle.node.specs.declared.refusal.Refusal.TheVariants.{LentBlock, OutOfRange}

-- 16 where the sizes do not fit, and then 21 where a sample or a gain is out of range
abbrev pub answered : Bool → Bool → Result (Unit {0}) Refusal
answered fits in_range = cond fits (cond in_range (Ok tt) (Err OutOfRange)) (Err LentBlock)

-- whole, or where the call is refused, as it was
abbrev pub left : {A : Type 0} → Bool → Bool → List A → List A → List A
left fits in_range new old = cond (fits && in_range) new old
