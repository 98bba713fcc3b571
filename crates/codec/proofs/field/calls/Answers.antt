-- A call that ends past the input is the last, and the answer none; one that ends within it goes on from its end.
use Rattle.std.proofs.Common.{◌≤◌, ◌<◌, length, arith, refl, of_calls}
use Rattle.codec.specs.Field.{little}
use Rattle.codec.proofs.Playing.{turned, ended}
use Rattle.codec.proofs.field.calls.Goals as goal

pub returns-then-s-from-clause-played : goal.returns-then-s-from-clause-played
returns-then-s-from-clause-played g c =
    let o = c.loop in
    let n = little 4 c.args.s.now c.args.at in
    let len = length c.args.s.now in
    let h : o.counter < n = omega arith in
    o.invariant.3 _ (turned (goal.F-step g) len n o.counter o.play o.from c.play-from.result c.play-from.new.self _ h c.play-from.ensures (λ _. refl) (λ within. absurd (omega arith)))

pub loop-preserved : goal.loop-preserved
loop-preserved g c =
    let o = c.loop in
    let n = little 4 c.args.s.now c.args.at in
    let len = length c.args.s.now in
    let h : o.counter < n = omega arith in (
      (search (of_calls) parts 8),
      (λ none. absurd (omega arith)),
      (λ _. omega arith),
      (λ r rest. o.invariant.3 r (turned (goal.F-step g) len n o.counter o.play o.from c.play-from.result c.play-from.new.self r h c.play-from.ensures (λ past. absurd (omega arith)) (λ _. rest))),
    )

pub returns-clause-played : goal.returns-clause-played
returns-clause-played g c =
    let o = c.loop in
    let n = little 4 c.args.s.now c.args.at in
    let h : n ≤ o.counter = omega arith in
    o.invariant.3 _ (ended (goal.F-step g) (length c.args.s.now) n o.counter o.play o.from h)
