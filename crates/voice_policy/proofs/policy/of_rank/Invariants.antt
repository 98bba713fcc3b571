use Rattle.std.proofs.Common.{◌≡◌, ◌≤◌, length, take, filter, eqb}
use Rattle.voice.specs.declared.policy.Candidate.{Candidate}
use Rattle.voice_policy.proofs.policy.of_rank.Given as goal

abbrev pub invariant-loop-c : goal.invariant-loop-c
invariant-loop-c l = (l.out.count ≤ l.c-index) × (length l.out.rows ≡ 64) × (take l.out.count l.out.rows ≡ filter (λ (c : Candidate). eqb c.rank l.k) (take l.c-index l.c-items))
