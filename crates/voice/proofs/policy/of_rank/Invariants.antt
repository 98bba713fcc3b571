use Rattle.std.proofs.Common.{◌≡◌, ◌≤◌, length, take, filter, eqb}
use Rattle.voice.specs.declared.policy.Candidate.{Candidate}
use Rattle.voice.proofs.policy.of_rank.Given as goal

abbrev pub invariant-loop-c : goal.invariant-loop-c
invariant-loop-c l = (l.low.items ≡ filter (λ (c : Candidate). eqb c.rank l.rank) (take l.c-index l.all)) × (length l.low.items ≤ l.c-index)
