-- Before the first call the position is that after the count, and from then on it is within the input. What the calls still to come play, all of
-- them play from the first position on.
use Rattle.std.proofs.Common.{◌≡◌, ◌≤◌, ◌<◌, ◌-◌, ℕ, length}
use Rattle.std.specs.Prelude.{Option}
use denote.Param.Always.{always_mut}
use Rattle.codec.specs.Calls.{Played}
use Rattle.codec.specs.Field.{moved, little}
use Rattle.codec.proofs.field.calls.Given as goal

abbrev pub invariant-loop : goal.invariant-loop
invariant-loop g l =
    let step = goal.F-step g in
    let n = little 4 l.s l.at in
    let len = length l.s in
    (always_mut g.F.FnMut l.initial.play → always_mut g.F.FnMut l.play)
    × (l.counter ≡ 0 → l.from ≡ moved l.at 4)
    × (0 < l.counter → l.from ≤ len)
    × ((r : Option ℕ) → Played step len (n - l.counter) l.play l.from r → Played step len n l.initial.play (moved l.at 4) r)
