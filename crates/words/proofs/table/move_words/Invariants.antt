use Prim.Native.Nat.{◌+◌, ◌-◌}
use Rattle.words.proofs.Words.{Moving}
use Rattle.words.proofs.table.move_words.Given as goal

abbrev pub invariant-loop-k : goal.invariant-loop-k
invariant-loop-k l = Moving l.initial.t l.t l.from l.to l.n (l.from + l.k) (l.to + l.k) (l.n - l.k)
